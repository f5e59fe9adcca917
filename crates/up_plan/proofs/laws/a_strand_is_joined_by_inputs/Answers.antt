use Rattle.up_plan.proofs.OneStrand.{strand_is_joined}
use Rattle.up_plan.proofs.laws.a_strand_is_joined_by_inputs.Goals as goal

pub returns : goal.returns
returns c = strand_is_joined
