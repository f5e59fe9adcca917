use Rattle.std.proofs.lemmas.List.Elements.{All-push}
use Rattle.up_model.proofs.Packets.{plain_is_legal}
use Rattle.up_model.specs.Packet.{IsLegal}
use Rattle.up_shape.specs.TrialPackets.{plain_within}
use Rattle.up_shape.proofs.module_tests.push.Goals as goal

pub returns : goal.returns
returns g c =
    let added = rw c.expect.ensures at c.push.ensures.added in
    let plain = rw c.expect-packet.ensures at c.fresh.ensures.plain in
    rw added (All-push (λ p. IsLegal (plain_within p)) _ _ c.requires.legal (rw plain (plain_is_legal _ c.requires.size)))
