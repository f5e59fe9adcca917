use Rattle.up_trials.proofs.split.Split.strand.Goals as goal

pub returns-clause-work : goal.returns-clause-work
returns-clause-work g c = λ family. record {
  stands = c.in-Ok.ensures.stands;
  holds = c.in-Ok.ensures.family family;
}
