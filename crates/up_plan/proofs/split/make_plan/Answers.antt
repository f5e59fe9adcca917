use Rattle.std.proofs.Common.{arith}
use Rattle.up_plan.proofs.Places.{head_of_each_length}
use Rattle.up_plan.proofs.split.make_plan.Goals as goal

pub strands_of-requires : goal.strands_of-requires
strands_of-requires c = grind (arith, head_of_each_length)
