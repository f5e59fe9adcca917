use Rattle.std.proofs.Common.{◌≡◌, ◌+◌, ◌-◌}
use Rattle.up_strand.specs.Shapes.{depth_of, depth_within}
use Rattle.up_strand.proofs.shape.depth.Given as goal

abbrev pub invariant-loop-steps : goal.invariant-loop-steps
invariant-loop-steps l = l.steps + depth_within (l.limit - l.steps) l.pipes l.head l.at ≡ depth_of l.pipes l.head l.place
