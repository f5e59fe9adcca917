use Rattle.upipe_run.proofs.tree_fault_tests.+settled_within.Given as goal

abbrev pub decreases-settled_within : goal.decreases-settled_within
decreases-settled_within l = l.steps
