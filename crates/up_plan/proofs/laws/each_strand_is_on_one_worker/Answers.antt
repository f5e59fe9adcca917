use Rattle.up_model.specs.Plans.{heads}
use Rattle.up_model.proofs.Members.{kept_was_there}
use Rattle.up_plan.proofs.OneWorker.{strand_on_one_worker}
use Rattle.up_plan.proofs.laws.each_strand_is_on_one_worker.Goals as goal

pub returns-clause-heads : goal.returns-clause-heads
returns-clause-heads c pipes worker head there = kept_was_there _ (heads pipes) head there

pub returns-clause-one : goal.returns-clause-one
returns-clause-one c = strand_on_one_worker
