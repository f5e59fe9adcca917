use Rattle.up_trials.proofs.run.read_on.Goals as goal

pub returns-clause-work : goal.returns-clause-work
returns-clause-work g c =
    let was = c.requires.work.stands in
    record {
      stands = (_, (c.step_read.ensures.stepped was.0 was.1).step.stands);
      holds = rw c.step_read.ensures.store.same c.step_read.ensures.family;
    }
