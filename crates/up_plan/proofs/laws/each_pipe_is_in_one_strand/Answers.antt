use Rattle.up_plan.proofs.OneStrand.{has_head_of, in_one_strand}
use Rattle.up_plan.proofs.laws.each_pipe_is_in_one_strand.Goals as goal

pub returns : goal.returns
returns c pipes place formed within =
    let head = has_head_of pipes place formed within in in_one_strand pipes head.0 place head.1
