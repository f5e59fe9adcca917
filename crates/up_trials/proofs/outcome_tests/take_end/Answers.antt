use Rattle.up_trials.proofs.outcome_tests.take_end.Goals as goal

pub returns : goal.returns
returns g c =
    let was = c.requires.of in
    record {
      of = (_, (c.step_item.ensures.stepped was.0 was.1).step.stands, was.2, was.3);
    }
