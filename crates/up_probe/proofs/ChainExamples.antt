-- Worked examples of who catches an event, and of the sum that it is added to, computed.
use Rattle.std.proofs.Common.{◌≡◌, ◌-◌, ◌^◌, [], ◌∷◌, true, false, refl}
use Rattle.up_model.specs.declared.catch_set.CatchSet.{CatchSet}
use Rattle.up_model.specs.declared.event_kind.EventKind.TheVariants.{Drop, Cut, Sync, Lost}
use Rattle.up_probe.specs.Chain.{catching_depth}
use Rattle.up_model.specs.Tallies.{nothing as no_sums}
use Rattle.up_probe.specs.Event.{event_kind, with_event}
use Rattle.up_probe.specs.Thrown.{events_sums}
use Rattle.up_probe.specs.declared.event.Event.TheVariants as events

abbrev nothing : CatchSet
nothing = record { drop = false; cut = false; sync = false; lost = false }

abbrev drops : CatchSet
drops = record nothing { drop = true }

-- the nearest of two probes catches, and the root where no probe has the kind
pub nearest : catching_depth Drop (nothing ∷ drops ∷ drops ∷ []) ≡ 1
nearest = refl

pub root : catching_depth Cut (nothing ∷ drops ∷ drops ∷ []) ≡ 3
root = refl

pub root_alone : catching_depth Lost [] ≡ 0
root_alone = refl

pub gained_is_of_kind_sync : event_kind events.SyncGained ≡ Sync
gained_is_of_kind_sync = refl

pub drops_add_up : (with_event (events.Drop 3) (with_event (events.Drop 4) no_sums)).dropped ≡ 7
drops_add_up = refl

pub sum_stops : (with_event (events.Cut 9) (record no_sums { cut = 2 ^ 64 - 2 })).cut ≡ 2 ^ 64 - 1
sum_stops = refl

pub of_all_kinds : events_sums (events.Drop 3 ∷ events.SyncLost ∷ events.Cut 2 ∷ events.Drop 4 ∷ events.SyncGained ∷ [])
    ≡ record { taken = 0; put = 0; dropped = 7; cut = 2; gained = 1; lost = 1 }
of_all_kinds = refl
