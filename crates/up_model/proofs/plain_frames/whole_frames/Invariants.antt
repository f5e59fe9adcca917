use Rattle.std.proofs.Common.{◌≡◌, ◌++◌, length}
use Rattle.up_model.specs.FrameStreams.{whole_frames}
use Rattle.up_model.proofs.plain_frames.whole_frames.Given as goal

abbrev pub invariant-loop-packets : goal.invariant-loop-packets
invariant-loop-packets l = l.packets ++ whole_frames l.rest ≡ whole_frames l.bytes

abbrev pub decreases-loop-packets : goal.decreases-loop-packets
decreases-loop-packets l = length l.rest
