use Rattle.std.proofs.Common.{take}
use Rattle.up_engine.specs.Parts.{TellsOf}
use Rattle.up_engine.proofs.finishing.tell.Given as goal

abbrev pub invariant-loop-i : goal.invariant-loop-i
invariant-loop-i l = TellsOf (take l.i l.places) l.told.outcomes l.told.tallies l.initial.results l.results
