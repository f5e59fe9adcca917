use Rattle.std.proofs.Common.{◌≢◌, ℕ, ◌<◌, get_or}
use Rattle.up_plan.specs.declared.plan.PlanStrand.{PlanStrand}
use Rattle.up_strand.proofs.shape.own_places.Given as goal

abbrev pub invariant-loop-i : goal.invariant-loop-i
invariant-loop-i l = (k : ℕ) (d : PlanStrand) → k < l.i → (get_or l.plan.strands k d).head ≢ l.head
