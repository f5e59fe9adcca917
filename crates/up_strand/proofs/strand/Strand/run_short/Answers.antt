use Rattle.std.proofs.Common.{Some}
use Rattle.up_model.specs.declared.outcome.Outcome.TheVariants as outcomes
use Rattle.up_strand.proofs.strand.Strand.run_short.Goals as goal

pub returns-clause-went : goal.returns-clause-went
returns-clause-went g c = c.fall.ensures.went (Some outcomes.NoMemory) (λ wrong. absurd (cc))
