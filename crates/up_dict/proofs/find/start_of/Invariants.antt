use Rattle.up_dict.specs.Places.{StandBefore}
use Rattle.up_dict.specs.Reading.{attrs_in}
use Rattle.up_dict.proofs.find.start_of.Given as goal

abbrev pub invariant-loop-before : goal.invariant-loop-before
invariant-loop-before l = StandBefore (attrs_in l.run) l._before l.byte
