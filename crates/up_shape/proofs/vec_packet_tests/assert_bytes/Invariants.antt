use Rattle.std.proofs.Common.{length, ◌-◌, ◌≤◌}
use Rattle.up_shape.proofs.vec_packet_tests.assert_bytes.Given as goal

abbrev pub invariant-loop-at : goal.invariant-loop-at
invariant-loop-at g l = l.at ≤ length l.wanted

-- no run is empty
abbrev pub decreases-loop-at : goal.decreases-loop-at
decreases-loop-at g l = length l.wanted - l.at
