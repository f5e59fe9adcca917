use Rattle.up_plan.proofs.OneStrand.{own_head, strand_has}
use Rattle.up_plan.proofs.laws.a_head_is_in_its_own_strand.Goals as goal

pub returns : goal.returns
returns c pipes head there = strand_has pipes head head (own_head pipes head there)
