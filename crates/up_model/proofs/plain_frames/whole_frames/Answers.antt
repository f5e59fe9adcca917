use Rattle.std.proofs.Common.{◌≡◌, [], ◌∷◌, ◌++◌, subst, sym, All, rules, arith}
use Rattle.up_model.proofs.FrameShorter.{packet_shrinks}
use Rattle.up_model.proofs.PlainReading.{are_bytes, one_packet, no_packet, whole_frames_are_legal}
use Rattle.up_model.specs.FrameStreams.{whole_frames}
use Rattle.up_model.specs.Packet.{Flow, IsLegal}
use Rattle.up_model.proofs.plain_frames.whole_frames.Goals as goal

pub loop-packets-smaller : goal.loop-packets-smaller
loop-packets-smaller c =
    packet_shrinks c.loop-packets.rest.now (c.in-Ok.packet, c.in-Ok.behind.now) (rw c.in-Ok.is at c.in_ok-packet.ensures)

pub loop-packets-preserved : goal.loop-packets-preserved
loop-packets-preserved c =
    let added : c.push.new.self ≡ c.loop-packets.packets ++ c.in-Ok.packet ∷ [] = search rules in
    rw added
    (one_packet c.args.bytes.now c.loop-packets.rest.now c.loop-packets.packets c.in-Ok.packet c.in-Ok.behind.now
    (rw c.in-Ok.is at c.in_ok-packet.ensures) c.loop-packets.invariant)

pub returns-clause-legal : goal.returns-clause-legal
returns-clause-legal c =
    let below = are_bytes c.args.bytes.now (λ i. omega (arith, c.type_inv.bytes i)) in
    let is : c.loop-packets.packets ≡ whole_frames c.args.bytes.now =
    no_packet c.args.bytes.now c.loop-packets.rest.now c.loop-packets.packets c.in_default.field-0
    (rw c.in_default.is at c.in_ok-packet.ensures) c.loop-packets.invariant in
    subst (λ (flow : Flow). All IsLegal flow) (sym is) (whole_frames_are_legal c.args.bytes.now below)
