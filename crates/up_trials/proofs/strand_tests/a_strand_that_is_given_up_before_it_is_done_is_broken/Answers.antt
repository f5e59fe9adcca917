use Rattle.up_trials.proofs.strand_tests.a_strand_that_is_given_up_before_it_is_done_is_broken.Goals as goal

pub read_on-requires-clause-work : goal.read_on-requires-clause-work
read_on-requires-clause-work g c = c.strand-one.ensures.work _
