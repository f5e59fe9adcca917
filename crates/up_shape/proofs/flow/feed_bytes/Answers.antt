use Rattle.std.proofs.Common.{[], ◌∷◌, refl}
use Rattle.up_model.proofs.EveryKind.{lawful}
use Rattle.up_model.proofs.Packets.{plain_is_legal}
use Rattle.up_model.specs.Packet.{plain}
use Rattle.up_shape.proofs.Growths.{puts_nothing}
use Rattle.up_shape.proofs.flow.feed_bytes.Goals as goal

pub feed-requires-clause-legal : goal.feed-requires-clause-legal
feed-requires-clause-legal g c = rw c.in-Ok.ensures.plain (plain_is_legal _ c.requires.size)

pub returns-in-Err-clause-in_part : goal.returns-in-Err-clause-in_part
returns-in-Err-clause-in_part g c fed stands =
    let flows = (lawful (g.M.Module.kind c.args.m.now)).flows (g.met.M.Module.within c.args.m.now) in
    let packet = plain c.args.bytes.now ∷ [] in
    puts_nothing _ _ _ _ _ refl refl (flows.longer fed packet) (flows.sums_longer fed packet)
