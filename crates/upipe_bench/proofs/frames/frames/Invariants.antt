use Rattle.std.proofs.Common.{◌≡◌, replicate}
use Rattle.up_model.specs.FrameSpelling.{frames_of}
use Rattle.up_shape.specs.VecPackets.{plain_of}
use Rattle.upipe_bench.proofs.frames.frames.Given as goal

abbrev pub invariant-loop : goal.invariant-loop
invariant-loop l = l.out ≡ frames_of (replicate l.counter (plain_of l.packet))
