use Rattle.up_trials.proofs.slow_strands.+flow_within.Given as goal

abbrev pub decreases-flow_within : goal.decreases-flow_within
decreases-flow_within g l = l.steps
