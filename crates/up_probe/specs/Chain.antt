-- A chain of probes, nearest first, with the root behind them.
use Rattle.std.specs.Prelude.{◌≡◌, ℕ, ◌==◌, List, length, position, unwrap_or, slice_index_or, if◌then◌else◌}
use Rattle.up_model.specs.Tallies.{nothing}
use Rattle.up_model.specs.declared.catch_set.CatchSet.{CatchSet}
use Rattle.up_model.specs.declared.event_kind.EventKind.{EventKind}
use Rattle.up_model.specs.declared.tally.Tally.{Tally}
use Rattle.up_probe.specs.declared.event.Event.{Event}
use Rattle.up_probe.specs.Event.{catches, with_event}

-- what each probe catches, and what was tallied at each depth; the root's tally is the last
pub record Chain : Type 0 where
  pub sets : List CatchSet
  pub tallies : List Tally

-- the least place whose set has the kind, else the number of sets
abbrev pub catching_depth : EventKind → List CatchSet → ℕ
catching_depth kind sets = unwrap_or (position (catches kind) sets) (length sets)

-- the tally at a depth
abbrev pub tally_at : Chain → ℕ → Tally
tally_at chain depth = slice_index_or chain.tallies depth nothing

-- the event was added to the tally of this depth and of no other
abbrev pub IsAdded : Event → ℕ → Chain → Chain → Type 0
IsAdded event depth old new =
    (place : ℕ) → tally_at new place
    ≡ (if place == depth then with_event event (tally_at old place) else tally_at old place)
