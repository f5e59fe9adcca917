use Rattle.std.proofs.Common.{◌++◌, List, ℕ, ap, ◌∙◌}
use Rattle.upipe_bench.proofs.ManyFrames.{frame_more}
use Rattle.up_model.specs.FrameSpelling.{frame_of}
use Rattle.up_shape.specs.VecPackets.{plain_of}
use Rattle.upipe_bench.proofs.frames.frames.Goals as goal

pub loop-preserved : goal.loop-preserved
loop-preserved c =
    let packet = plain_of c.args.packet.now in
    c.in_ok-write_frame.ensures.added
    ∙ ap (λ (b : List ℕ). b ++ frame_of packet) c.loop.invariant
    ∙ frame_more packet c.loop.counter
