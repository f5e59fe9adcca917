use Rattle.up_trials.proofs.outcome_tests.read_more.Goals as goal

pub returns : goal.returns
returns g c =
    let was = c.requires.of in
    record {
      of = (_, (c.step_read.ensures.stepped was.0 was.1).step.stands, was.2, was.3);
    }
