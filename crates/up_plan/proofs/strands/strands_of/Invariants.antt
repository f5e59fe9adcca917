use Rattle.std.proofs.Common.{◌≡◌, List, take, map}
use Rattle.up_model.specs.declared.pipe.Pipe.{Pipe}
use Rattle.up_plan.specs.HeadTable.{head_of_each}
use Rattle.up_plan.specs.Plan.{plan_strand}
use Rattle.up_plan.proofs.strands.strands_of.Given as goal

abbrev pub invariant-loop-head : goal.invariant-loop-head
invariant-loop-head l =
    (pipes : List Pipe) → l.each ≡ head_of_each pipes → l.strands ≡ map (plan_strand pipes) (take l.head-index l.heads)
