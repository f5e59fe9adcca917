use Rattle.up_model.proofs.plain_flow.+flow_within.Given as goal

abbrev pub decreases-flow_within : goal.decreases-flow_within
decreases-flow_within l = l.steps
