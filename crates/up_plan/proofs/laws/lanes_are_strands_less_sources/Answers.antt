use Rattle.up_plan.proofs.Lanes.{lanes_and_sources}
use Rattle.up_plan.proofs.laws.lanes_are_strands_less_sources.Goals as goal

pub returns : goal.returns
returns c = lanes_and_sources
