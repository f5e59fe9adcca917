use Rattle.upipe_bench.proofs.run.read_on.Goals as goal

pub returns-clause-stands : goal.returns-clause-stands
returns-clause-stands g c = (_, (c.step_read.ensures.stepped c.requires.stands.0 c.requires.stands.1).step.stands)

pub returns-clause-family : goal.returns-clause-family
returns-clause-family g c = rw c.step_read.ensures.store.same c.step_read.ensures.family
