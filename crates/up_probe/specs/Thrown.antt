-- Events that are thrown one after another, and their sums.
use Rattle.std.specs.Prelude.{◌≡◌, List, [], ◌∷◌}
use Rattle.up_model.specs.Tallies.{nothing, plus}
use Rattle.up_model.specs.declared.tally.Tally.{Tally}
use Rattle.up_probe.specs.Chain.{Chain, IsAdded, catching_depth}
use Rattle.up_probe.specs.Event.{event_kind}
use Rattle.up_probe.specs.declared.event.Event.{Event}
use Rattle.up_probe.specs.declared.event.Event.TheVariants.{Drop, Cut, SyncGained, SyncLost}

-- what one event adds, with no bound
abbrev pub event_sums : Event → Tally
event_sums (Drop packets) = record nothing { dropped = packets }
event_sums (Cut bytes) = record nothing { cut = bytes }
event_sums SyncGained = record nothing { gained = 1 }
event_sums SyncLost = record nothing { lost = 1 }

-- what all of them add
abbrev pub events_sums : List Event → Tally
events_sums [] = nothing
events_sums (event ∷ events) = plus (event_sums event) (events_sums events)

-- the one chain becomes the other when these events are thrown
abbrev pub AreThrown : List Event → Chain → Chain → Type 0
AreThrown [] old new = new ≡ old
AreThrown (event ∷ events) old new = (next : Chain) × (next.sets ≡ old.sets)
    × IsAdded event (catching_depth (event_kind event) old.sets) old next
    × AreThrown events next new
