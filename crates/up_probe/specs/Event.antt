-- Events: their kinds, the sets that catch them, and the sums that they are added to.
use Rattle.std.specs.Prelude.{Bool}
use Rattle.up_model.specs.Tallies.{more}
use Rattle.up_model.specs.declared.catch_set.CatchSet.{CatchSet}
use Rattle.up_model.specs.declared.event_kind.EventKind.{EventKind}
use Rattle.up_model.specs.declared.event_kind.EventKind.TheVariants as kinds
use Rattle.up_model.specs.declared.tally.Tally.{Tally}
use Rattle.up_probe.specs.declared.event.Event.{Event}
use Rattle.up_probe.specs.declared.event.Event.TheVariants.{Drop, Cut, SyncGained, SyncLost}

-- the kind of an event
abbrev pub event_kind : Event → EventKind
event_kind (Drop packets) = kinds.Drop
event_kind (Cut bytes) = kinds.Cut
event_kind SyncGained = kinds.Sync
event_kind SyncLost = kinds.Lost

-- the set has the kind
abbrev pub catches : EventKind → CatchSet → Bool
catches kinds.Drop set = set.drop
catches kinds.Cut set = set.cut
catches kinds.Sync set = set.sync
catches kinds.Lost set = set.lost

-- the tally with the event added to the sum of its kind
abbrev pub with_event : Event → Tally → Tally
with_event (Drop packets) tally = record tally { dropped = more tally.dropped packets }
with_event (Cut bytes) tally = record tally { cut = more tally.cut bytes }
with_event SyncGained tally = record tally { gained = more tally.gained 1 }
with_event SyncLost tally = record tally { lost = more tally.lost 1 }
