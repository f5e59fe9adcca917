-- What a depot in memory tells, which of its calls fail, and what they leave.
use Rattle.std.specs.Prelude.{◌≡◌, ◌⊎◌, ℕ, ◌+◌, List, [], Some, Bool, true, false, ◌||◌, not, is_some, Result, Ok, Err}
use Rattle.std.specs.FinMap.{get, insert}
use Rattle.up_base.specs.declared.refusal.Refusal.{Refusal}
use Rattle.up_base.specs.declared.refusal.Refusal.TheVariants as refusals
use Rattle.up_outside.specs.Held.{Held}
use Rattle.up_outside.specs.Memory.Failures.{calls_made, is_due, numbers_of}
use Rattle.up_outside.specs.Memory.MemSink.{sink_calls, sink_most}
use Rattle.up_outside.specs.Memory.MemSource.{source_calls, source_most}
use Rattle.up_outside.specs.Memory.ObjectCalls.{made_of, failing_of}
use Rattle.up_outside.specs.States.{DepotState}
use Rattle.up_outside.specs.declared.asked.Entry.{Entry}
use Rattle.up_outside.specs.declared.memory.depot_call.DepotCall.{DepotCall}
use Rattle.up_outside.specs.declared.memory.depot_call.DepotCall.TheVariants as calls
use Rattle.up_outside.specs.declared.memory.failures.Failure.{Failure}
use Rattle.up_outside.specs.declared.memory.mem_depot.MemDepot.{MemDepot}
use Rattle.up_outside.specs.declared.memory.mem_sink.MemSink.{MemSink}
use Rattle.up_outside.specs.declared.memory.mem_source.MemSource.{MemSource}

-- the bytes at each path
abbrev pub depot_held : MemDepot → Held
depot_held d = d.held

-- one entry for each open, in order
abbrev pub depot_asked : MemDepot → List Entry
depot_asked d = d.asked.items

-- it tells all
abbrev pub depot_state : MemDepot → DepotState
depot_state d = record {
  held = Some (depot_held d);
  asked = Some (depot_asked d);
  source_faults = d.source_faults;
  sink_faults = d.sink_faults;
}

-- the most bytes that a read or a write moves, of the objects that it opens
abbrev pub depot_most : MemDepot → ℕ
depot_most d = d.most

-- the calls that fail
abbrev pub depot_failures : MemDepot → List Failure
depot_failures d = d.failures.items

-- what bounds its calls and lets them fail is as before
pub record KeepsRules (old new : MemDepot) : Type 0 where
  pub most : depot_most new ≡ depot_most old
  pub failures : depot_failures new ≡ depot_failures old

-- whether the next such call on the path is one that fails
abbrev pub depot_is_due : DepotCall → List ℕ → MemDepot → Bool
depot_is_due call path d =
    is_due call path (calls_made call path (depot_asked d) + 1) (depot_failures d)

-- whether the open of a source there fails: it is one that fails, or the path isn't held
abbrev pub source_fails : List ℕ → MemDepot → Bool
source_fails path d =
    depot_is_due calls.OpenSource path d || not (is_some (get (depot_held d) path))

-- the call failed where it had to, and want of memory alone came instead
abbrev pub FailsWhere : {T : Type 0} → Bool → Result T Refusal → Type 0
FailsWhere must (Ok x) = must ≡ false
FailsWhere must (Err refusals.Failed) = must ≡ true
FailsWhere must (Err refusals.NoMemory) = Unit {0}

-- what the open of a sink leaves at its path: no bytes, and where it failed what was there; where no memory was found
-- one of the two
abbrev pub Empties : {T : Type 0} → Result T Refusal → List ℕ → Held → Held → Type 0
Empties (Ok x) path before after = after ≡ insert before path []
Empties (Err refusals.Failed) path before after = after ≡ before
Empties (Err refusals.NoMemory) path before after =
    (after ≡ before) ⊎ (after ≡ insert before path [])

-- of a source that was opened: a read gives at most so many bytes, and those in the table fail
pub record ReadsByRules (d : MemDepot) (path : List ℕ) (s : MemSource) : Type 0 where
  pub most : source_most s ≡ depot_most d
  pub none_made : made_of (source_calls s) ≡ 0
  pub failing : failing_of (source_calls s) ≡ numbers_of calls.Read path (depot_failures d)

-- of a sink that was opened: a write takes at most so many bytes, and those in the table fail
pub record WritesByRules (d : MemDepot) (path : List ℕ) (k : MemSink) : Type 0 where
  pub most : sink_most k ≡ depot_most d
  pub none_made : made_of (sink_calls k) ≡ 0
  pub failing : failing_of (sink_calls k) ≡ numbers_of calls.Write path (depot_failures d)
