use Rattle.up_frame.proofs.ReadAttributes.{Passed}
use Rattle.up_frame.proofs.reading.behind_attributes.Given as goal

abbrev pub invariant-loop : goal.invariant-loop
invariant-loop l = Passed l.count l.counter l.bytes l.before l.rest
