use Rattle.std.proofs.Common.{◌∷◌, ◌++◌, [], List, ℕ, Option, Ok, length, subst, ap, ◌∙◌, arith}
use Rattle.std.proofs.lemmas.List.{length-append}
use Rattle.up_frame.specs.Readers.{StandsFor, TellsNext, given_with, plain_answer}
use Rattle.up_frame.specs.declared.frame_reader.FrameReader.{FrameReader}
use Rattle.up_model.specs.FrameStreams.{whole_frames}
use Rattle.up_model.specs.Packet.{Flow}
use Rattle.up_shape.specs.VecPackets.{plain_of}
use Rattle.up_shape.specs.declared.vec_packet.VecPacket.{VecPacket}
use Rattle.upipe_bench.proofs.pieces.Reading.take_all.Goals as goal

-- what an answer tells
abbrev Told : FrameReader → List ℕ → Flow → Option VecPacket → Type 0
Told reader bytes given packet =
    StandsFor reader bytes (given_with given (plain_answer plain_of (Ok packet)))
    × TellsNext (whole_frames bytes) given (plain_answer plain_of (Ok packet))

pub returns-in-None : goal.returns-in-None
returns-in-None c bytes given counts =
    let so_far = c.loop.invariant bytes given counts in
    let reader = c.next_packet.new.self in
    let told = subst (Told reader bytes so_far.0) c.in-None.is (c.in_ok-next_packet.ensures.given bytes so_far.0 so_far.1.0) in
    (subst (StandsFor reader bytes) told.1 told.0, so_far.1.1 ∙ ap length told.1)

pub loop-preserved : goal.loop-preserved
loop-preserved c bytes given counts =
    let so_far = c.loop.invariant bytes given counts in
    let packet = c.in-Some._packet in
    let told = subst (Told c.next_packet.new.self bytes so_far.0) c.in-Some.is (c.in_ok-next_packet.ensures.given bytes so_far.0 so_far.1.0) in
    let now = so_far.0 ++ plain_of packet ∷ [] in
    (now, (told.0, omega (arith, c.in-Some-checked_add.ensures, so_far.1.1, length-append so_far.0 (plain_of packet ∷ []))))
