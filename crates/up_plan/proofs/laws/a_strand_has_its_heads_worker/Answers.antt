use Rattle.up_plan.proofs.OneStrand.{on_one_worker}
use Rattle.up_plan.proofs.laws.a_strand_has_its_heads_worker.Goals as goal

pub returns : goal.returns
returns c = on_one_worker
