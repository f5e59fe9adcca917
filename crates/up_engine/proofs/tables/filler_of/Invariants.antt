use Rattle.std.proofs.Common.{◌≡◌, ℕ, ◌<◌, Some, slice_get}
use Rattle.std.specs.List.{Contains}
use Rattle.up_plan.specs.declared.plan.PlanStrand.{PlanStrand}
use Rattle.up_engine.proofs.tables.filler_of.Given as goal

abbrev pub invariant-loop-i : goal.invariant-loop-i
invariant-loop-i l = (k : ℕ) (strand : PlanStrand) → k < l.i → slice_get l.plan.strands k ≡ Some strand
    → Contains strand.pipes l.input → ⊥
