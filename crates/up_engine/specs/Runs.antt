-- What a run of a graph leaves, from the first open of a path to the last close: by the pipes of
-- the graph, by what the depot tells, and by one outcome for each pipe.
use Rattle.std.specs.Prelude.{◌≡◌, ◌⊎◌, ℕ, ◌+◌, ◌<◌, ◌≤◌, ◌++◌, ◌==◌, ◌&&◌, ◌||◌, List, [], ◌∷◌, length, map, take, drop, sum, min, slice_get, slice_index_or, count_by, Bool, true, false, not, Some, None, IfSome, unwrap_or, option_and_then, if◌then◌else◌}
use Rattle.std.specs.FinMap.{get}
use Rattle.std.specs.List.{Contains, filter}
use Rattle.std.specs.Option.{option_map_or}
use Rattle.up_base.specs.Lists.{IsPrefix}
use Rattle.up_engine.specs.Counting.{RoseBy}
use Rattle.up_engine.specs.Entries.{KeepsOtherPaths, KeepsPathsOf, entries_at, entry_at, path_places, side_of}
use Rattle.up_engine.specs.declared.run_outcome.RunOutcome.{RunOutcome}
use Rattle.up_engine.specs.declared.run_outcome.RunOutcome.TheVariants.{Ended, NoMemory}
use Rattle.up_model.specs.Ends.{is_sink, is_source, path_of}
use Rattle.up_model.specs.Inputs.{ends_at_source, passes_at, places}
use Rattle.up_model.specs.Meaning.{settled_bytes, sink_bytes, tally_of}
use Rattle.up_model.specs.Outcomes.{carried_flows, outcome_at, shown_by, shown_of, source_flows, source_outcome_at}
use Rattle.up_model.specs.Packet.{Flow, count_with_bytes}
use Rattle.up_model.specs.Plans.{ends_at_sink}
use Rattle.up_model.specs.Tallies.{greatest_sum, nothing}
use Rattle.up_model.specs.declared.form.SourceForm.{SourceForm}
use Rattle.up_model.specs.declared.kind.Kind.{Kind}
use Rattle.up_model.specs.declared.kind.Kind.TheVariants.{Source}
use Rattle.up_model.specs.declared.outcome.Outcome.{Outcome}
use Rattle.up_model.specs.declared.outcome.Outcome.TheVariants as outcomes
use Rattle.up_model.specs.declared.pipe.Pipe.{Pipe}
use Rattle.up_model.specs.declared.tally.Tally.{Tally}
use Rattle.up_outside.specs.Held.{Held}
use Rattle.up_outside.specs.States.{DepotState}
use Rattle.up_outside.specs.Told.{Then}
use Rattle.up_outside.specs.declared.asked.Mark.{Mark}
use Rattle.up_outside.specs.declared.asked.Mark.TheVariants as marks
use Rattle.up_outside.specs.declared.asked.Side.{Side}
use Rattle.up_outside.specs.declared.asked.Side.TheVariants as sides
use Rattle.up_shape.specs.Stores.{StoreState}

-- a read fault, a write fault
abbrev pub is_read_fault : Outcome → Bool
is_read_fault outcomes.Whole = false
is_read_fault outcomes.ReadFault = true
is_read_fault outcomes.WriteFault = false
is_read_fault (outcomes.BadFrame offset) = false
is_read_fault (outcomes.TooLong limit) = false
is_read_fault outcomes.Broken = false
is_read_fault outcomes.NoMemory = false

abbrev pub is_write_fault : Outcome → Bool
is_write_fault outcomes.Whole = false
is_write_fault outcomes.ReadFault = false
is_write_fault outcomes.WriteFault = true
is_write_fault (outcomes.BadFrame offset) = false
is_write_fault (outcomes.TooLong limit) = false
is_write_fault outcomes.Broken = false
is_write_fault outcomes.NoMemory = false

-- the bytes that lie at the path of the pipe at each place; none where it has none
abbrev pub held_bytes : Held → List Pipe → ℕ → List ℕ
held_bytes held pipes place = unwrap_or
    (option_and_then (λ pipe. option_and_then (get held) (path_of pipe.kind))
    (slice_get pipes place)) []

-- a run in which all paths were opened: the bytes that each source gave, whether a call on each
-- pipe's own path failed, whether its close was Ok
pub record Ways : Type 0 where
  pub given : ℕ → List ℕ
  pub failed : ℕ → Bool
  pub shut : ℕ → Bool

module _ (pipes : List Pipe) (ways : Ways) where
  -- how the pipe at a place ended
  abbrev pub ending : ℕ → Outcome
  ending place = outcome_at pipes ways.failed ways.given place

  -- what each source carried
  abbrev pub carried : ℕ → Flow
  carried = carried_flows pipes ending ways.given

  -- what is due to a sink: all of its meaning where its source is whole, else what is settled of it
  abbrev pub due_of : Outcome → Pipe → List ℕ
  due_of outcomes.Whole sink = sink_bytes pipes carried sink
  due_of outcomes.ReadFault sink = settled_bytes pipes carried sink
  due_of outcomes.WriteFault sink = settled_bytes pipes carried sink
  due_of (outcomes.BadFrame offset) sink = settled_bytes pipes carried sink
  due_of (outcomes.TooLong limit) sink = settled_bytes pipes carried sink
  due_of outcomes.Broken sink = settled_bytes pipes carried sink
  due_of outcomes.NoMemory sink = settled_bytes pipes carried sink

  abbrev pub due_at : ℕ → Pipe → List ℕ
  due_at place sink = due_of (source_outcome_at pipes ways.failed ways.given place) sink

  -- a source gave the first of the bytes at its path; and all of them where no read failed and they
  -- show no outcome whatever comes behind them
  pub record Gave (held : Held) (place : ℕ) (pipe : Pipe) : Type 0 where
    pub there : (path : List ℕ) → path_of pipe.kind ≡ Some path
        → (bytes : List ℕ) × (get held path ≡ Some bytes)
        × IsPrefix (ways.given place) bytes
        × (ways.failed place ≡ false → shown_of pipe.kind (ways.given place) ≡ None
        → ways.given place ≡ bytes)

  -- a sink whose close was Ok lies at its path: all that is due to it, or the first of that where a
  -- write failed
  pub record Wrote (held : Held) (place : ℕ) (pipe : Pipe) : Type 0 where
    pub there : (path : List ℕ) → path_of pipe.kind ≡ Some path → ways.shut place ≡ true
        → (bytes : List ℕ) × (get held path ≡ Some bytes) × IsPrefix bytes (due_at place pipe)
        × (ways.failed place ≡ false → bytes ≡ due_at place pipe)

  -- each entry is closed, and says what moved, and what failed
  pub record Marked (mark : ℕ → Mark) (place : ℕ) (pipe : Pipe) : Type 0 where
    pub moved : ℕ
    pub is : mark place ≡ marks.Closed moved (ways.failed place) (ways.shut place)
    pub given : is_source pipe.kind ≡ true → moved ≡ length (ways.given place)

  -- how many of the pipes of this kind of end failed
  abbrev pub failures : (Kind → Bool) → ℕ
  failures is_such = count_by (λ place.
      option_map_or (λ (pipe : Pipe). is_such pipe.kind) (slice_get pipes place) false
      && ways.failed place) (places pipes)

  -- a source gave at most one byte past its limit; where a read failed, its bytes show no other
  -- cause, so none past the limit
  abbrev pub GaveWithin : ℕ → Kind → Type 0
  GaveWithin place (Source path form limit) = (length (ways.given place) ≤ limit + 1)
      × (ways.failed place ≡ true → shown_by form limit (ways.given place) ≡ None)
  GaveWithin place kind = Unit {0}

  -- all paths were opened, and all flows came to their ends
  pub record RanThrough {F : Type 0} (old new : DepotState)
      (store_before store_after : StoreState F) (ends : List Outcome) (tallies : List Tally)
      : Type 0 where
    pub endings : ends ≡ map ending (places pipes)
    pub shut : (place : ℕ) → ways.shut place ≡ false → ways.failed place ≡ true
    pub within : (place : ℕ) (pipe : Pipe) → slice_get pipes place ≡ Some pipe
        → GaveWithin place pipe.kind
    pub gave : IfSome old.held (λ held. (place : ℕ) (pipe : Pipe)
        → slice_get pipes place ≡ Some pipe → is_source pipe.kind ≡ true
        → Gave held place pipe)
    pub wrote : Then (λ before after. (place : ℕ) (pipe : Pipe)
        → slice_get pipes place ≡ Some pipe → is_sink pipe.kind ≡ true
        → Wrote after place pipe) old.held new.held
    pub entries : Then (λ before after. (mark : ℕ → Mark)
        × (after ≡ before ++ entries_at pipes mark (path_places pipes))
        × ((place : ℕ) (pipe : Pipe) → slice_get pipes place ≡ Some pipe
        → Contains (path_places pipes) place → Marked mark place pipe)) old.asked new.asked
    pub sources : RoseBy (failures is_source) old.source_faults new.source_faults
    pub sinks : RoseBy (failures is_sink) old.sink_faults new.sink_faults
    -- how many packets each source put out
    pub put : (place : ℕ) (pipe : Pipe) (d : Tally) → slice_get pipes place ≡ Some pipe
        → is_source pipe.kind ≡ true
        → (slice_index_or tallies place d).put ≡ min (length (carried place)) greatest_sum
    -- the six sums, where no pipe has a cause
    pub sums : ((place : ℕ) → place < length pipes → ending place ≡ outcomes.Whole)
        → tallies ≡ map (tally_of pipes carried) (places pipes)
    pub tally_count : length tallies ≡ length pipes
    -- for each packet with bytes that they put out, more was drawn of the store
    pub drawn : store_before.drawn
        + sum (map (λ place. count_with_bytes (carried place))
        (filter (passes_at ends_at_source pipes) (places pipes)))
        ≤ store_after.drawn

-- the fault of a pipe whose open or close was refused, by its side; one that has none is opened
-- nowhere, and is broken as all others are
abbrev pub fault_on : Side → Outcome
fault_on sides.Source = outcomes.ReadFault
fault_on sides.Sink = outcomes.WriteFault

abbrev pub fault_of : Kind → Outcome
fault_of kind = option_map_or fault_on (side_of kind) outcomes.Broken

-- the open at the place was refused: that pipe has a fault, and so has one whose close was refused;
-- all others are broken
abbrev pub ending_refused : List Pipe → ℕ → (ℕ → Bool) → ℕ → Outcome
ending_refused pipes place shut other = option_map_or
    (λ pipe. if (other == place) || not (shut other) then fault_of pipe.kind else outcomes.Broken)
    (slice_get pipes other) outcomes.Broken

-- an open was refused: what had been opened was closed, and nothing ran
pub record StoppedThere (pipes : List Pipe) (old new : DepotState) (ends : List Outcome)
    (tallies : List Tally) : Type 0 where
  -- the place of the pipe whose open was refused, how many paths had been opened before it, and
  -- whether the close of each of those was Ok
  pub place : ℕ
  pub count : ℕ
  pub shut : ℕ → Bool
  pub at : slice_get (path_places pipes) count ≡ Some place
  pub endings : ends ≡ map (ending_refused pipes place shut) (places pipes)
  -- only of sinks that had been opened a close was refused
  pub shut_else : (other : ℕ) → shut other ≡ false
      → Contains (take count (path_places pipes)) other
      × (passes_at ends_at_sink pipes other ≡ true)
  pub entries : Then (λ before after. after ≡ before
      ++ (entries_at pipes (λ other. marks.Closed 0 (not (shut other)) (shut other))
      (take count (path_places pipes)) ++ entry_at pipes place marks.Refused ∷ []))
      old.asked new.asked
  pub empty : Then (λ before after. (other : ℕ) (pipe : Pipe) (path : List ℕ)
      → Contains (take count (path_places pipes)) other → slice_get pipes other ≡ Some pipe
      → is_sink pipe.kind ≡ true → shut other ≡ true → path_of pipe.kind ≡ Some path
      → get after path ≡ Some []) old.held new.held
  -- what no open was asked for has what it had
  pub untouched : Then (KeepsPathsOf pipes (drop (count + 1) (path_places pipes)))
      old.held new.held
  pub sources : RoseBy (count_by is_read_fault ends) old.source_faults new.source_faults
  pub sinks : RoseBy (count_by is_write_fault ends) old.sink_faults new.sink_faults
  pub sums : tallies ≡ map (λ other. nothing) (places pipes)

-- memory ran out: what had been opened was closed, and none was refused
pub record RanShort (pipes : List Pipe) (old new : DepotState) : Type 0 where
  pub count : ℕ
  pub moved : ℕ → ℕ
  pub failed : ℕ → Bool
  pub shut : ℕ → Bool
  pub entries : Then (λ before after. after ≡ before
      ++ entries_at pipes (λ place. marks.Closed (moved place) (failed place) (shut place))
      (take count (path_places pipes))) old.asked new.asked
  pub within : (place : ℕ) (pipe : Pipe) (path : List ℕ) (form : SourceForm) (limit : ℕ)
      → slice_get pipes place ≡ Some pipe → pipe.kind ≡ Source path form limit
      → (moved place ≤ limit + 1) × (failed place ≡ true → moved place ≤ limit)
  -- a sink whose close was Ok has the first of its meaning, over all that its source's path held
  pub first : Then (λ before after. (place : ℕ) (pipe : Pipe) (path : List ℕ)
      → Contains (take count (path_places pipes)) place → slice_get pipes place ≡ Some pipe
      → is_sink pipe.kind ≡ true → shut place ≡ true → path_of pipe.kind ≡ Some path
      → (bytes : List ℕ) × (get after path ≡ Some bytes)
      × IsPrefix bytes (sink_bytes pipes (source_flows pipes (held_bytes before pipes)) pipe))
      old.held new.held
  -- what no open was asked for has what it had
  pub untouched : Then (KeepsPathsOf pipes (drop (count + 1) (path_places pipes)))
      old.held new.held
  pub sources : old.source_faults ≤ new.source_faults
  pub sinks : old.sink_faults ≤ new.sink_faults

module _ {F : Type 0} (pipes : List Pipe) (old new : DepotState)
    (store_before store_after : StoreState F) where
  abbrev pub RanTo : RunOutcome → Type 0
  RanTo (Ended ends tallies) =
      ((ways : Ways) × RanThrough pipes ways old new store_before store_after ends tallies)
      ⊎ StoppedThere pipes old new ends tallies
  RanTo NoMemory = RanShort pipes old new

  -- the run of a graph; every path that is no sink's stays
  pub record RanGraph (outcome : RunOutcome) : Type 0 where
    pub others : Then (KeepsOtherPaths pipes) old.held new.held
    pub to : RanTo outcome
