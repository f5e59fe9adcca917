use Rattle.up_plan.proofs.OneStrand.{in_strand}
use Rattle.up_strand.proofs.Meanings.{fed_at_head}
use Rattle.up_strand.proofs.laws.a_strand_is_fed_at_its_head.Goals as goal

pub returns : goal.returns
returns c pipes head place flow kept = fed_at_head pipes head place flow (in_strand pipes head place kept)
