use Rattle.up_plan.proofs.Lanes.{lane_comes_from_elsewhere}
use Rattle.up_plan.proofs.laws.a_lane_comes_from_another_worker.Goals as goal

pub returns : goal.returns
returns c = lane_comes_from_elsewhere
