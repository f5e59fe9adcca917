-- What is tallied behind one probe is what it doesn't catch.
use Rattle.std.proofs.Common.{◌≡◌, ℕ, ◌+◌, ◌==◌, Bool, true, false, List, [], ◌∷◌, refl, sym, ap, ◌∙◌, arith, cond}
use Rattle.std.specs.Prelude.{min}
use Rattle.up_model.proofs.Packetwise.{plus-nothing}
use Rattle.up_model.specs.Tallies.{greatest_sum, more, nothing, plus, stopped, uncaught, unless_caught}
use Rattle.up_model.specs.declared.catch_set.CatchSet.{CatchSet}
use Rattle.up_model.specs.declared.tally.Tally.{Tally}
use Rattle.up_probe.specs.Chain.{Chain, catching_depth, tally_at}
use Rattle.up_probe.specs.Event.{catches, event_kind, with_event}
use Rattle.up_probe.specs.Thrown.{AreThrown, event_sums, events_sums}
use Rattle.up_probe.specs.declared.event.Event.{Event}
use Rattle.up_probe.specs.declared.event.Event.TheVariants.{Drop, Cut, SyncGained, SyncLost}

-- a sum of nothing is 0, caught or not
never : (caught : Bool) → unless_caught caught 0 ≡ 0
never true = refl
never false = refl

plus-plus : (a b c : Tally) → plus (plus a b) c ≡ plus a (plus b c)
plus-plus a b c = grind arith

pub nothing-plus : (sums : Tally) → plus nothing sums ≡ sums
nothing-plus sums = grind arith

pub nothing_behind : (set : CatchSet) → uncaught set (stopped nothing) ≡ nothing
nothing_behind set = by_kind set.drop set.cut set.sync set.lost
  where
    by_kind : (drop cut sync lost : Bool) → uncaught (record { drop = drop; cut = cut; sync = sync; lost = lost }) (stopped nothing) ≡ nothing
    by_kind drop cut sync lost = rw (never drop, never cut, never sync, never lost) refl

-- a sum that stops goes on as the sum does
more-stopped : (sum count : ℕ) → more (min sum greatest_sum) count ≡ min (sum + count) greatest_sum
more-stopped sum count = omega arith

with_event-stopped : (event : Event) (sums : Tally) → with_event event (stopped sums) ≡ stopped (plus sums (event_sums event))
with_event-stopped (Drop packets) sums = let is = more-stopped sums.dropped packets in grind arith
with_event-stopped (Cut bytes) sums = let is = more-stopped sums.cut bytes in grind arith
with_event-stopped SyncGained sums = let is = more-stopped sums.gained 1 in grind arith
with_event-stopped SyncLost sums = let is = more-stopped sums.lost 1 in grind arith

-- an event that is caught adds to no sum behind the probe, and any other adds to its own
past_probe : (event : Event) (set : CatchSet) (caught : Bool) (sums : Tally) → catches (event_kind event) set ≡ caught
    → cond caught (uncaught set sums) (with_event event (uncaught set sums)) ≡ uncaught set (with_event event sums)
past_probe (Drop packets) set true sums is = rw is refl
past_probe (Drop packets) set false sums is = rw is refl
past_probe (Cut bytes) set true sums is = rw is refl
past_probe (Cut bytes) set false sums is = rw is refl
past_probe SyncGained set true sums is = rw is refl
past_probe SyncGained set false sums is = rw is refl
past_probe SyncLost set true sums is = rw is refl
past_probe SyncLost set false sums is = rw is refl

depth_behind : (event : Event) (set : CatchSet) (caught : Bool) (tally : Tally) → catches (event_kind event) set ≡ caught
    → cond (1 == catching_depth (event_kind event) (set ∷ [])) (with_event event tally) tally ≡ cond caught tally (with_event event tally)
depth_behind event set true tally is = rw is refl
depth_behind event set false tally is = rw is refl

pub behind_probe : (set : CatchSet) (events : List Event) (sums : Tally) (old new : Chain) → old.sets ≡ set ∷ [] → tally_at old 1 ≡ uncaught set (stopped sums)
    → AreThrown events old new → tally_at new 1 ≡ uncaught set (stopped (plus sums (events_sums events)))
behind_probe set [] sums old new one before thrown =
    ap (λ chain. tally_at chain 1) thrown ∙ before ∙ ap (λ s. uncaught set (stopped s)) (sym (plus-nothing sums))
behind_probe set (event ∷ events) sums old new one before thrown =
    let caught = catches (event_kind event) set in
    let now : tally_at thrown.0 1 ≡ uncaught set (stopped (plus sums (event_sums event))) =
    thrown.2 1
    ∙ ap (λ sets. cond (1 == catching_depth (event_kind event) sets) (with_event event (tally_at old 1)) (tally_at old 1)) one
    ∙ depth_behind event set caught (tally_at old 1) refl
    ∙ ap (λ tally. cond caught tally (with_event event tally)) before
    ∙ past_probe event set caught (stopped sums) refl
    ∙ ap (uncaught set) (with_event-stopped event sums) in
    behind_probe set events (plus sums (event_sums event)) thrown.0 new (thrown.1 ∙ one) now thrown.3
    ∙ ap (λ s. uncaught set (stopped s)) (plus-plus sums (event_sums event) (events_sums events))
