-- Whose turn is next, in the circle of pumps.
use Rattle.std.specs.Prelude.{ℕ, ◌+◌, ◌-◌, Bool, false, List, ◌++◌, length, Option, Some, None, find, slice_get}
use Rattle.std.specs.List.{range_with_len}
use Rattle.std.specs.Option.{option_map_or}
use Rattle.up_pump.specs.Pump.{is_due}
use Rattle.up_pump.specs.Pumps.{Pumps}
use Rattle.up_pump.specs.declared.pump.Pump.{Pump}

-- where the circle begins: after the pump given last, and at pump 0 where none was given
abbrev pub start_of : Option ℕ → ℕ
start_of None = 0
start_of (Some last) = last + 1

-- the numbers below the count, from the start on and round to the one before it
abbrev pub circle : ℕ → ℕ → List ℕ
circle start count = range_with_len start (count - start) ++ range_with_len 0 start

-- there is a pump of this number, and it is ready and has no blockers
abbrev pub is_due_at : List Pump → ℕ → Bool
is_due_at pumps number = option_map_or is_due (slice_get pumps number) false

-- the first of the circle that is due
abbrev pub first_due : List Pump → ℕ → Option ℕ
first_due pumps start = find (is_due_at pumps) (circle start (length pumps))

-- the next after the one given last
abbrev pub next_pump : Pumps → Option ℕ
next_pump loop = first_due loop.pumps (start_of loop.last)
