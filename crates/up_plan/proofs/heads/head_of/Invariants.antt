use Rattle.std.proofs.Common.{◌≡◌, ◌-◌}
use Rattle.up_model.specs.Inputs.{reached_within}
use Rattle.up_model.specs.Plans as plans
use Rattle.up_plan.proofs.heads.head_of.Given as goal

abbrev pub invariant-loop : goal.invariant-loop
invariant-loop l = reached_within (l.end - l.counter) plans.is_head l.pipes l.at ≡ plans.head_of l.pipes l.place
