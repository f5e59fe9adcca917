use Rattle.std.proofs.Common.{◌≡◌, ℕ, [], length}
use Rattle.up_engine.specs.Nets.{items_at}
use Rattle.up_engine.proofs.finishing.end_lanes.Given as goal

abbrev pub invariant-loop-lane : goal.invariant-loop-lane
invariant-loop-lane g l = (i : ℕ) → items_at l.lanes.items i ≡ []

abbrev pub decreases-loop-lane : goal.decreases-loop-lane
decreases-loop-lane g l = length l.lanes.items
