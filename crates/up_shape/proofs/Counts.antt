-- How a count, which has no bytes, is stored.
use Rattle.std.proofs.Common.{ℕ, [], ◌∷◌}
use base.Fml.{Fml}
use mir.Val.{Val, vstruct, vnil, vcons}
use Rattle.up_shape.specs.contracts.drawn.Drawn.{the_row}
use Rattle.up_shape.specs.declared.drawn.Drawn.{Drawn}

-- a struct of one field, which is empty
abbrev pub stored : Val
stored = vstruct (vcons (vstruct vnil) vnil)

abbrev pub of_number : ℕ → Drawn
of_number number = record { marker = record {}; count = number }

-- what it owns: nothing
abbrev pub owned_by : ℕ → Fml
owned_by number = the_row.own_val (of_number number) (stored ∷ [])
