-- How a count, which has no bytes, is stored.
use Rattle.std.proofs.Common.{ℕ, [], ◌∷◌}
use base.Fml.{Fml}
use mir.Val.{Val, vstruct, vnil, vcons}
use Rattle.up_engine.specs.contracts.ahead.Ahead.{the_row}
use Rattle.up_engine.specs.declared.ahead.Ahead.{Ahead}

-- a struct of one field, which is empty
abbrev pub stored : Val
stored = vstruct (vcons (vstruct vnil) vnil)

abbrev pub of_numbers : ℕ → ℕ → Ahead
of_numbers reads turns = record { marker = record {}; reads = reads; turns = turns }

-- what it owns: nothing
abbrev pub owned_by : ℕ → ℕ → Fml
owned_by reads turns = the_row.own_val (of_numbers reads turns) (stored ∷ [])
