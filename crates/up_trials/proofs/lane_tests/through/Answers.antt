use Rattle.up_trials.proofs.lane_tests.through.Goals as goal

pub run_until_full-full-requires-clause-first : goal.run_until_full-full-requires-clause-first
run_until_full-full-requires-clause-first g c = c.strand-first.ensures.work _

pub run_until_full-full-requires-clause-second : goal.run_until_full-full-requires-clause-second
run_until_full-full-requires-clause-second g c = c.strand-second.ensures.work _
