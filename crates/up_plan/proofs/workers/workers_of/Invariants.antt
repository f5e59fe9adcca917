use Rattle.std.proofs.Common.{◌≡◌, map}
use Rattle.std.specs.List.{filter, range_with_len}
use Rattle.up_model.specs.Inputs.{passes_at}
use Rattle.up_model.specs.WellFormed as formed
use Rattle.up_plan.specs.Plan.{plan_worker}
use Rattle.up_plan.proofs.workers.workers_of.Given as goal

abbrev pub invariant-loop-place : goal.invariant-loop-place
invariant-loop-place l =
    l.workers ≡ map (plan_worker l.pipes) (filter (passes_at formed.is_first_of_worker l.pipes) (range_with_len 0 l.place))
