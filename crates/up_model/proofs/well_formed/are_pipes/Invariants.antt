use Rattle.std.proofs.Common.{take}
use Rattle.std.specs.Prelude.{All}
use Rattle.up_model.specs.WellFormed.{IsPipe}
use Rattle.up_model.proofs.well_formed.are_pipes.Given as goal

abbrev pub invariant-loop-place : goal.invariant-loop-place
invariant-loop-place l = All IsPipe (take l.place l.pipes)
