use Rattle.std.proofs.Common.{◌≤◌, [], ◌∷◌, ◌++◌, ◌∙◌, ap, map, length, arith}
use Rattle.std.proofs.lemmas.List.{map-append}
use Rattle.std.proofs.lemmas.List.Elements.{All-push}
use Rattle.up_model.proofs.Packets.{plain_is_legal}
use Rattle.up_model.specs.Packet.{IsLegal}
use Rattle.up_model.specs.declared.limits.TheConstants.{MAX_PACKET}
use Rattle.up_shape.specs.VecPackets.{plain_of}
use Rattle.up_shape.proofs.trial.push_packet.Goals as goal

pub returns-clause-added : goal.returns-clause-added
returns-clause-added c =
    ap (map plain_of) c.in-Ok.ensures.added ∙ map-append plain_of c.args.flow.now (c.in_ok-packet.packet ∷ [])
    ∙ ap (λ packet. map plain_of c.args.flow.now ++ packet ∷ []) c.in_ok-packet.ensures.plain

pub returns-clause-legal : goal.returns-clause-legal
returns-clause-legal c =
    let small : length c.args.bytes.now ≤ MAX_PACKET = omega (arith, c.if-bytes.false) in
    let legal : IsLegal (plain_of c.in_ok-packet.packet) = rw c.in_ok-packet.ensures.plain (plain_is_legal _ small) in
    rw c.in-Ok.ensures.added (All-push (λ p. IsLegal (plain_of p)) _ _ c.requires.legal legal)
