use Rattle.up_trials.proofs.run.step_on.Goals as goal

pub returns-clause-work : goal.returns-clause-work
returns-clause-work g c =
    let was = c.requires.work.stands in
    record {
      stands = (_, (c.step_item.ensures.stepped was.0 was.1).step.stands);
      holds = rw c.step_item.ensures.store.same c.step_item.ensures.family;
    }
