-- The sources and sinks of a graph, by the places of their pipes, while they are open.
use Rattle.std.specs.Prelude.{◌≡◌, ◌≢◌, ◌<◌, ◌≤◌, ℕ, ◌+◌, ◌++◌, ◌==◌, List, [], ◌∷◌, length, take, slice_get, slice_index_or, count_by, nat_lt, Bool, true, false, not, ◌&&◌, ◌||◌, Option, Some, None, IfSome, IfOk, Result, Ok, Err, if◌then◌else◌}
use Rattle.std.specs.FinMap.{get}
use Rattle.std.specs.List.{position}
use Rattle.std.specs.Option.{option_map_or}
use Rattle.up_base.specs.declared.refusal.Refusal.{Refusal}
use Rattle.up_base.specs.declared.refusal.Refusal.TheVariants as refusals
use Rattle.up_engine.specs.Counting.{RoseBy}
use Rattle.up_engine.specs.Entries.{KeepsPathsBut, entries_at, entry_at, entry_of, path_places}
use Rattle.up_engine.specs.declared.object.Object.{Object}
use Rattle.up_engine.specs.declared.object.Object.TheVariants as objects
use Rattle.up_engine.specs.declared.opening.Opening.{Opening}
use Rattle.up_engine.specs.declared.opening.Opening.TheVariants.{All, Refused, NoMemory}
use Rattle.up_model.specs.Ends.{is_sink, is_source, path_of}
use Rattle.up_model.specs.Inputs.{places}
use Rattle.up_model.specs.Outcomes.{is_cause}
use Rattle.up_model.specs.declared.kind.Kind.{Kind}
use Rattle.up_model.specs.declared.outcome.Outcome.{Outcome}
use Rattle.up_model.specs.declared.outcome.Outcome.TheVariants as outcomes
use Rattle.up_model.specs.declared.pipe.Pipe.{Pipe}
use Rattle.up_outside.specs.Asked as asked
use Rattle.up_outside.specs.Asked.{Ending, IsOpenAt}
use Rattle.up_outside.specs.Counts.{CountsWhere, is_failed}
use Rattle.up_outside.specs.DepotCalls.{IsNext}
use Rattle.up_outside.specs.Held.{Held, Opens as OpensPath}
use Rattle.up_outside.specs.States.{DepotState, SourceState, SinkState}
use Rattle.up_outside.specs.Told.{Then}
use Rattle.up_outside.specs.declared.asked.Entry.{Entry}
use Rattle.up_outside.specs.declared.asked.Mark.{Mark}
use Rattle.up_outside.specs.declared.asked.Mark.TheVariants as marks
use Rattle.up_outside.specs.declared.asked.Side.TheVariants as sides

-- what the open of the path of a pipe adds to what was asked
abbrev pub entries_opened : {T : Type 0} → Kind → Result T Refusal → List Entry
entries_opened kind (Ok x) = entry_of kind marks.Open ∷ []
entries_opened kind (Err refusals.Failed) = entry_of kind marks.Refused ∷ []
entries_opened kind (Err refusals.NoMemory) = []

-- the index of a pipe's entry among those that were opened
abbrev pub index_of : List Pipe → ℕ → ℕ → Option ℕ
index_of pipes count place =
    position (λ other. other == place) (take count (path_places pipes))

-- the object at a place of the table
abbrev pub object_at : {S K : Type 0} → List (Object S K) → ℕ → Object S K
object_at table place = slice_index_or table place objects.None

-- an object of the pipe's side
abbrev pub IsOfKind : {S K : Type 0} → Kind → Object S K → Type 0
IsOfKind kind objects.None = ⊥
IsOfKind kind (objects.Source s) = is_source kind ≡ true
IsOfKind kind (objects.Sink k) = is_sink kind ≡ true

-- it stands where the path of a pipe was opened, and nothing else does
abbrev pub StandsAt : {S K : Type 0} → Option ℕ → Kind → Object S K → Type 0
StandsAt None kind object = object ≡ objects.None
StandsAt (Some i) kind object = IsOfKind kind object

-- every path but that of a sink of this kind has what it had
abbrev pub KeepsButSink : Kind → Held → Held → Type 0
KeepsButSink kind before after =
    (path : List ℕ) → (is_sink kind ≡ true → path_of kind ≢ Some path)
    → get after path ≡ get before path

-- a refused close gives a pipe without a cause a write fault
abbrev pub outcome_closed : Bool → Outcome → Outcome
outcome_closed true outcome = if is_cause outcome then outcome else outcomes.WriteFault
outcome_closed false outcome = outcome

module _ {S K : Type 0} (reads : S → SourceState) (writes : K → SinkState) where
  -- where the entry of an object stands, what it moved, how many of its calls failed
  abbrev pub place_told : Object S K → Option ℕ
  place_told objects.None = None
  place_told (objects.Source s) = (reads s).place
  place_told (objects.Sink k) = (writes k).place

  abbrev pub moved_told : Object S K → Option ℕ
  moved_told objects.None = None
  moved_told (objects.Source s) = (reads s).moved
  moved_told (objects.Sink k) = (writes k).moved

  abbrev pub faults_of : Object S K → ℕ
  faults_of objects.None = 0
  faults_of (objects.Source s) = (reads s).faults
  faults_of (objects.Sink k) = (writes k).faults

  -- what it holds where it was just opened: a source the bytes at its path, a sink nothing
  abbrev pub IsFresh : Held → Kind → Object S K → Type 0
  IsFresh held kind objects.None = Unit {0}
  IsFresh held kind (objects.Source s) =
      (path : List ℕ) → path_of kind ≡ Some path → OpensPath held path (reads s).left
  IsFresh held kind (objects.Sink k) = (writes k).written ≡ Some []

  -- it was just opened of this depot
  pub record IsOpened (kind : Kind) (depot : DepotState) (object : Object S K) : Type 0 where
    pub side : IsOfKind kind object
    pub fresh : faults_of object ≡ 0
    pub bytes : IfSome depot.held (λ held. IsFresh held kind object)
    pub next : IfSome depot.asked (λ asked. IsNext asked (place_told object) (moved_told object))

  -- the path of a pipe of this kind was opened, or wasn't
  pub record OpensOne (kind : Kind) (old new : DepotState) (result : Result (Object S K) Refusal)
      : Type 0 where
    pub object : IfOk result (IsOpened kind old)
    pub entries : Then (λ before now. now ≡ before ++ entries_opened kind result)
        old.asked new.asked
    pub others : Then (KeepsButSink kind) old.held new.held
    pub sources : CountsWhere (is_source kind && is_failed result)
        old.source_faults new.source_faults
    pub sinks : CountsWhere (is_sink kind && is_failed result) old.sink_faults new.sink_faults

  -- its entry is open, with the path of the pipe where it is a sink
  abbrev pub StandsOpen : Kind → Object S K → List Entry → Type 0
  StandsOpen kind objects.None asked = Unit {0}
  StandsOpen kind (objects.Source s) asked =
      (path : List ℕ) × IsOpenAt asked (reads s).place sides.Source path
  StandsOpen kind (objects.Sink k) asked = (path : List ℕ) × (path_of kind ≡ Some path)
      × IsOpenAt asked (writes k).place sides.Sink path

  -- what a sink was given lies at its path
  abbrev pub IsStored : Held → Kind → Object S K → Type 0
  IsStored held kind objects.None = Unit {0}
  IsStored held kind (objects.Source s) = Unit {0}
  IsStored held kind (objects.Sink k) = IfSome (writes k).written (λ bytes.
      (path : List ℕ) → path_of kind ≡ Some path → get held path ≡ Some bytes)

  -- the end of it, by whether its close was refused
  abbrev pub ending_of : Object S K → Bool → Ending
  ending_of object refused = record {
    place = place_told object;
    moved = moved_told object;
    failed = nat_lt 0 (faults_of object) || refused;
    shut = not refused;
  }

  -- it was closed, or its close was refused; where there is none nothing was done
  pub record ClosesOne (kind : Kind) (object : Object S K) (old new : DepotState) (refused : Bool)
      : Type 0 where
    pub none : object ≡ objects.None → new ≡ old
    pub refused_sink : refused ≡ true → (k : K) × (object ≡ objects.Sink k)
    pub entries : Then (asked.Closes (ending_of object refused)) old.asked new.asked
    pub stored : refused ≡ false
        → Then (λ before after. IsStored after kind object) old.held new.held
    pub others : Then (KeepsButSink kind) old.held new.held
    pub sources : CountsWhere (is_source kind && (ending_of object refused).failed)
        old.source_faults new.source_faults
    pub sinks : CountsWhere (is_sink kind && (ending_of object refused).failed)
        old.sink_faults new.sink_faults

  module _ (pipes : List Pipe) where
    -- of the paths so many were opened, and their objects stand in the table
    pub record AreThere (count : ℕ) (table : List (Object S K)) : Type 0 where
      pub size : length table ≡ length pipes
      pub kinds : (place : ℕ) (pipe : Pipe) → slice_get pipes place ≡ Some pipe
          → StandsAt (index_of pipes count place) pipe.kind (object_at table place)

    -- their entries are open, behind those that were there before
    pub record AreOpen (count : ℕ) (table : List (Object S K)) (before now : List Entry)
        : Type 0 where
      pub rest : List Entry
      pub told : now ≡ before ++ (entries_at pipes (λ place. marks.Open)
          (take count (path_places pipes)) ++ rest)
      pub places : (place i : ℕ) → index_of pipes count place ≡ Some i
          → place_told (object_at table place) ≡ Some (length before + i)

    -- nothing of them was used yet
    pub record AreFresh (count : ℕ) (table : List (Object S K)) (old : DepotState) : Type 0 where
      pub faults : (place : ℕ) → faults_of (object_at table place) ≡ 0
      pub bytes : IfSome old.held (λ held. (place : ℕ) (pipe : Pipe)
          → slice_get pipes place ≡ Some pipe → IsFresh held pipe.kind (object_at table place))
      pub moved : IfSome old.asked (λ asked. (place i : ℕ)
          → index_of pipes count place ≡ Some i
          → moved_told (object_at table place) ≡ Some 0)

    -- how many were opened, by where the opening stopped
    abbrev pub StopsAt : ℕ → Opening → Type 0
    StopsAt count All = count ≡ length (path_places pipes)
    StopsAt count (Refused place) = slice_get (path_places pipes) count ≡ Some place
    StopsAt count NoMemory = count ≤ length (path_places pipes)

    -- the open that was refused
    abbrev pub entries_refused : Opening → List Entry
    entries_refused All = []
    entries_refused (Refused place) = entry_at pipes place marks.Refused ∷ []
    entries_refused NoMemory = []

    -- the pipe at the place has this kind of end, and its open was refused
    abbrev pub is_refused_as : (Kind → Bool) → Opening → Bool
    is_refused_as is_such All = false
    is_refused_as is_such (Refused place) =
        option_map_or (λ (pipe : Pipe). is_such pipe.kind) (slice_get pipes place) false
    is_refused_as is_such NoMemory = false

    -- the paths were opened in order, up to the first that was refused
    pub record Opens (old new : DepotState) (table : List (Object S K)) (opening : Opening)
        : Type 0 where
      pub count : ℕ
      pub stops : StopsAt count opening
      pub there : AreThere count table
      pub fresh : AreFresh count table old
      pub entries : Then (λ before now.
          (now ≡ before ++ (entries_at pipes (λ place. marks.Open)
          (take count (path_places pipes)) ++ entries_refused opening))
          × AreOpen count table before now) old.asked new.asked
      -- an open that was refused may have changed its path too
      pub others : Then (KeepsPathsBut pipes (take (count + 1) (path_places pipes)))
          old.held new.held
      pub sources : CountsWhere (is_refused_as is_source opening)
          old.source_faults new.source_faults
      pub sinks : CountsWhere (is_refused_as is_sink opening) old.sink_faults new.sink_faults

    -- a call on the object failed, or its close was refused
    abbrev pub has_failed : (ℕ → Bool) → List (Object S K) → ℕ → Bool
    has_failed refused table place =
        nat_lt 0 (faults_of (object_at table place)) || refused place

    -- how many of the pipes of this kind of end failed
    abbrev pub failures : (Kind → Bool) → (ℕ → Bool) → List (Object S K) → ℕ
    failures is_such refused table = count_by (λ place.
        option_map_or (λ (pipe : Pipe). is_such pipe.kind) (slice_get pipes place) false
        && has_failed refused table place) (places pipes)

    -- the mark of a closed object, which moved so many bytes
    abbrev pub closed_mark : (ℕ → Bool) → List (Object S K) → ℕ → Mark
    closed_mark refused table place = marks.Closed
        (option_map_or (λ n. n) (moved_told (object_at table place)) 0)
        (has_failed refused table place) (not (refused place))

    -- all that were open were closed; at some places the close was refused
    pub record Closes (count : ℕ) (old new : DepotState) (table table_after : List (Object S K))
        (ends ends_after : List Outcome) : Type 0 where
      pub refused : ℕ → Bool
      -- of sinks alone
      pub refused_sinks : (place : ℕ) → refused place ≡ true
          → (k : K) × (object_at table place ≡ objects.Sink k)
      pub size : length ends_after ≡ length ends
      pub outcomes : (place : ℕ) (d : Outcome) → place < length ends
          → slice_index_or ends_after place d
          ≡ outcome_closed (refused place) (slice_index_or ends place d)
      pub entries : (first : List Entry) → IfSome old.asked (AreOpen count table first)
          → Then (λ entries entries_after. (rest : List Entry)
          → entries ≡ first ++ (entries_at pipes (λ place. marks.Open)
          (take count (path_places pipes)) ++ rest)
          → entries_after ≡ first ++ (entries_at pipes (closed_mark refused table)
          (take count (path_places pipes)) ++ rest)) old.asked new.asked
      pub stored : Then (λ bytes bytes_after. (place : ℕ) (pipe : Pipe)
          → slice_get pipes place ≡ Some pipe → refused place ≡ false
          → IsStored bytes_after pipe.kind (object_at table place)) old.held new.held
      pub others : Then (KeepsPathsBut pipes (take count (path_places pipes))) old.held new.held
      pub sources : RoseBy (failures is_source refused table) old.source_faults new.source_faults
      pub sinks : RoseBy (failures is_sink refused table) old.sink_faults new.sink_faults
      -- none is left
      pub none : AreThere 0 table_after
