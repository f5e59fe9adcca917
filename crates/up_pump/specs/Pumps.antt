-- A loop of pumps, as callers see it.
use Rattle.std.specs.Prelude.{ℕ, Bool, List, Option, None, replicate, slice_index_or, slice_set}
use Rattle.up_pump.specs.Pump.{idle}
use Rattle.up_pump.specs.declared.pump.Pump.{Pump}

-- the pumps by their numbers, and the one given last
pub record Pumps : Type 0 where
  pub pumps : List Pump
  pub last : Option ℕ

-- so many pumps without work or blockers, none of which was given yet
abbrev pub resting : ℕ → Pumps
resting count = record { pumps = replicate count idle; last = None }

-- the pump of a number, and how many blockers it has
abbrev pub pump_at : Pumps → ℕ → Pump
pump_at loop number = slice_index_or loop.pumps number idle

abbrev pub blockers_at : Pumps → ℕ → ℕ
blockers_at loop number = (pump_at loop number).blockers

-- the loop with another pump of this number
abbrev pub with_pump : Pumps → ℕ → Pump → Pumps
with_pump loop number pump = record loop { pumps = slice_set loop.pumps number pump }

-- the loop where the pump of this number is ready, or where it isn't
abbrev pub with_readiness : Pumps → ℕ → Bool → Pumps
with_readiness loop number ready =
    with_pump loop number (record (pump_at loop number) { ready = ready })

-- the loop where the pump of this number has so many blockers
abbrev pub with_blockers : Pumps → ℕ → ℕ → Pumps
with_blockers loop number count =
    with_pump loop number (record (pump_at loop number) { blockers = count })
