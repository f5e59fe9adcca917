use Rattle.std.proofs.Common.{◌≡◌, ◌++◌, ◌∷◌, [], All, sym, subst, rules}
use Rattle.up_model.proofs.Packets.{pieces_are_legal}
use Rattle.up_model.proofs.PlainSteps.{pieces_next}
use Rattle.up_model.specs.Cutting.{piece, pieces}
use Rattle.up_model.specs.Packet.{Flow, IsLegal, plain}
use Rattle.up_model.proofs.plain_ends.pieces.Goals as goal

pub loop-place-preserved : goal.loop-place-preserved
loop-place-preserved c =
    let packet : c.in_ok-packet.packet ≡ plain (piece c.args.size c.args.bytes.now c.loop-place.place) = search rules in
    let added : c.push.new.self ≡ c.loop-place.packets ++ c.in_ok-packet.packet ∷ [] = search rules in
    rw (added, packet) (pieces_next c.args.size c.args.bytes.now c.loop-place.packets c.loop-place.place c.loop-place.invariant)

pub returns-clause-legal : goal.returns-clause-legal
returns-clause-legal c =
    let is : c.loop-place.packets ≡ pieces c.args.size c.args.bytes.now c.args.count = search rules in
    subst (λ (flow : Flow). All IsLegal flow) (sym is) (pieces_are_legal c.args.size c.args.bytes.now c.args.count c.requires.small)
