-- The paths of a graph while they are closed, one after the other.
use Rattle.std.proofs.Common.{◌≡◌, ◌≢◌, ◌⊎◌, ℕ, ◌+◌, ◌<◌, ◌≤◌, List, ◌++◌, length, take, get_or, count_by, nat_lt, Bool, true, false, ◌&&◌, ◌||◌, if◌then◌else◌, Option, Some, IfSome, slice_get, refl, sym, ap, ◌∙◌, subst, arith, inl, inr}
use Rattle.std.proofs.lemmas.Bool.{and_right, cases_lt}
use Rattle.std.proofs.lemmas.List.{get_or-take, length-take}
use Rattle.std.specs.FinMap.{get}
use Rattle.std.specs.Option.{option_map_or}
use Rattle.up_engine.proofs.FaultCounts.{rose_none}
use Rattle.up_engine.proofs.OneChange.{count_none, map_agree}
use Rattle.up_engine.proofs.Opened.{still}
use Rattle.up_engine.proofs.PathPlaces.{index_at, path_place_stands}
use Rattle.up_engine.specs.Counting.{RoseBy}
use Rattle.up_engine.specs.Entries.{entries_at, entry_at, path_places}
use Rattle.up_engine.specs.Objects.{AreOpen, AreThere, IsOfKind, IsStored, StandsAt, closed_mark, faults_of, has_failed, object_at, outcome_closed}
use Rattle.up_engine.specs.declared.object.Object.{Object}
use Rattle.up_engine.specs.declared.object.Object.TheVariants as objects
use Rattle.up_model.specs.Ends.{is_sink, is_source, path_of}
use Rattle.up_model.specs.Inputs.{passes_at, places}
use Rattle.up_model.specs.Plans.{ends_at_sink}
use Rattle.up_model.specs.declared.kind.Kind.{Kind}
use Rattle.up_model.specs.declared.outcome.Outcome.{Outcome}
use Rattle.up_model.specs.declared.pipe.Pipe.{Pipe}
use Rattle.up_outside.specs.Held.{Held}
use Rattle.up_outside.specs.States.{DepotState, SourceState, SinkState}
use Rattle.up_outside.specs.Told.{Then}
use Rattle.up_outside.specs.declared.asked.Entry.{Entry}
use Rattle.up_outside.specs.declared.asked.Mark.{Mark}
use Rattle.up_outside.specs.declared.asked.Mark.TheVariants as marks

-- nothing stands there any more
abbrev pub is_gone : {S K : Type 0} → Object S K → Bool
is_gone objects.None = true
is_gone (objects.Source s) = false
is_gone (objects.Sink k) = false

-- every path but those of the sinks that stood in the table has what it had
abbrev pub KeepsUnopened : {S K : Type 0} → List Pipe → List (Object S K) → Held → Held → Type 0
KeepsUnopened pipes table before after = (path : List ℕ)
    → ((place : ℕ) (pipe : Pipe) → slice_get pipes place ≡ Some pipe → passes_at ends_at_sink pipes place ≡ true
    → is_gone (object_at table place) ≡ false → path_of pipe.kind ≢ Some path)
    → get after path ≡ get before path

module _ {S K : Type 0} (reads : S → SourceState) (writes : K → SinkState) (pipes : List Pipe) (table left : List (Object S K)) (refused : ℕ → Bool) where
  -- the mark of an entry, which is open yet where the object is left
  abbrev pub mark_now : ℕ → Mark
  mark_now place = if is_gone (object_at left place) then closed_mark reads writes pipes refused table place else marks.Open

  -- the pipe has this kind of end, was closed and had failed
  abbrev pub failed_now : (Kind → Bool) → ℕ → Bool
  failed_now is_such place =
      is_gone (object_at left place) && (option_map_or (λ (pipe : Pipe). is_such pipe.kind) (slice_get pipes place) false && has_failed reads writes pipes refused table place)

module _ {S K : Type 0} (reads : S → SourceState) (writes : K → SinkState) (pipes : List Pipe) where
  -- the first so many of the paths are closed, and others are left
  pub record Closing (i : ℕ) (old new : DepotState) (table left : List (Object S K)) (before now : List Outcome) : Type 0 where
    pub refused : ℕ → Bool
    pub refused_sinks : (place : ℕ) → refused place ≡ true → (k : K) × (object_at table place ≡ objects.Sink k)
    pub refused_gone : (place : ℕ) → refused place ≡ true → object_at left place ≡ objects.None
    pub sizes : length now ≡ length before
    pub outcomes : (place : ℕ) (d : Outcome) → place < length before → get_or now place d ≡ outcome_closed (refused place) (get_or before place d)
    pub entries : (count : ℕ) (first : List Entry) → AreThere reads writes pipes count table → IfSome old.asked (AreOpen reads writes pipes count table first)
        → Then (λ held closed. (rest : List Entry)
        → held ≡ first ++ (entries_at pipes (λ place. marks.Open) (take count (path_places pipes)) ++ rest)
        → closed ≡ first ++ (entries_at pipes (mark_now reads writes pipes table left refused) (take count (path_places pipes)) ++ rest)) old.asked new.asked
    pub stored : Then (λ before after. (place : ℕ) (pipe : Pipe) → slice_get pipes place ≡ Some pipe → refused place ≡ false
        → object_at left place ≡ objects.None → IsStored reads writes after pipe.kind (object_at table place)) old.held new.held
    pub others : Then (KeepsUnopened pipes table) old.held new.held
    pub sources : RoseBy (count_by (failed_now reads writes pipes table left refused is_source) (places pipes)) old.source_faults new.source_faults
    pub sinks : RoseBy (count_by (failed_now reads writes pipes table left refused is_sink) (places pipes)) old.sink_faults new.sink_faults
    pub size : length left ≡ length pipes
    pub shrinks : (place : ℕ) → (object_at left place ≡ objects.None) ⊎ (object_at left place ≡ object_at table place)
    pub to_do : (k : ℕ) → i ≤ k → k < length (path_places pipes) → object_at left (get_or (path_places pipes) k 0) ≡ object_at table (get_or (path_places pipes) k 0)
    pub gone : (k : ℕ) → k < i → k < length (path_places pipes) → object_at left (get_or (path_places pipes) k 0) ≡ objects.None

module _ {S K : Type 0} where
  pub gone_is_none : (object : Object S K) → is_gone object ≡ true → object ≡ objects.None
  gone_is_none objects.None is = refl
  gone_is_none (objects.Source s) is = absurd (cc)
  gone_is_none (objects.Sink k) is = absurd (cc)

  pub of_kind_left : (kind : Kind) (object : Object S K) → IsOfKind kind object → is_gone object ≡ false
  of_kind_left kind objects.None of = absurd of
  of_kind_left kind (objects.Source s) of = refl
  of_kind_left kind (objects.Sink k) of = refl

module _ {S K : Type 0} (reads : S → SourceState) (writes : K → SinkState) (pipes : List Pipe) where
  -- what stands at the place of a path that was opened
  pub opened_left : (count : ℕ) (table : List (Object S K)) → AreThere reads writes pipes count table → (k : ℕ) → k < count → k < length (path_places pipes)
      → is_gone (object_at table (get_or (path_places pipes) k 0)) ≡ false
  opened_left count table there k before within =
      let place = get_or (path_places pipes) k 0 in
      let stands = path_place_stands pipes k within in
      of_kind_left stands.pipe.kind (object_at table place)
      (subst (λ (i : Option ℕ). StandsAt i stands.pipe.kind (object_at table place)) (index_at pipes count k within before) (there.kinds place stands.pipe stands.there))

  nothing_failed : (object : Object S K) (is_such : Bool) → (is_gone object && (is_such && (nat_lt 0 (faults_of reads writes object) || false))) ≡ false
  nothing_failed objects.None is_such = and_right is_such false refl
  nothing_failed (objects.Source s) is_such = refl
  nothing_failed (objects.Sink k) is_such = refl

  all_open : (count : ℕ) (table : List (Object S K)) → AreThere reads writes pipes count table
      → entries_at pipes (mark_now reads writes pipes table table (λ place. false)) (take count (path_places pipes))
      ≡ entries_at pipes (λ place. marks.Open) (take count (path_places pipes))
  all_open count table there =
      let long = length-take count (path_places pipes) in
      map_agree (λ place. entry_at pipes place marks.Open) (λ place. entry_at pipes place (mark_now reads writes pipes table table (λ place. false) place))
      (take count (path_places pipes)) (λ k inside.
      let place = get_or (take count (path_places pipes)) k 0 in
      let here : place ≡ get_or (path_places pipes) k 0 = get_or-take count (path_places pipes) k 0 (omega (arith, inside, long)) in
      let left : is_gone (object_at table place) ≡ false =
      ap (λ (p : ℕ). is_gone (object_at table p)) here ∙ opened_left count table there k (omega (arith, inside, long)) (omega (arith, inside, long)) in
      ap (λ (gone : Bool). entry_at pipes place (if gone then closed_mark reads writes pipes (λ place. false) table place else marks.Open)) left)

  -- before the first
  pub closing_none : (depot : DepotState) (table : List (Object S K)) (before : List Outcome) → length table ≡ length pipes
      → Closing reads writes pipes 0 depot depot table table before before
  closing_none depot table before size = record {
    refused = λ place. false;
    refused_sinks = λ place is. absurd (cc);
    refused_gone = λ place is. absurd (cc);
    sizes = refl;
    outcomes = λ place d within. refl;
    entries = λ count first there so_far.
        still _ (λ x rest told. told ∙ ap (λ l. first ++ (l ++ rest)) (sym (all_open count table there))) depot.asked;
    stored = still _ (λ x place pipe stands unrefused none. rw none tt) depot.held;
    others = still (KeepsUnopened pipes table) (λ held path free. refl) depot.held;
    sources = rose_none _ depot.source_faults (count_none _ (places pipes) (λ place. nothing_failed (object_at table place) _));
    sinks = rose_none _ depot.sink_faults (count_none _ (places pipes) (λ place. nothing_failed (object_at table place) _));
    size = size;
    shrinks = λ place. inr refl;
    to_do = λ k behind within. refl;
    gone = λ k below within. absurd (omega (arith, below));
  }

  -- nothing stood at the next place
  pub closing_past : (i : ℕ) (old new : DepotState) (table left : List (Object S K)) (before now : List Outcome)
      → Closing reads writes pipes i old new table left before now → object_at left (get_or (path_places pipes) i 0) ≡ objects.None
      → Closing reads writes pipes (i + 1) old new table left before now
  closing_past i old new table left before now so_far none = record {
    refused = so_far.refused;
    refused_sinks = so_far.refused_sinks;
    refused_gone = so_far.refused_gone;
    sizes = so_far.sizes;
    outcomes = so_far.outcomes;
    entries = so_far.entries;
    stored = so_far.stored;
    others = so_far.others;
    sources = so_far.sources;
    sinks = so_far.sinks;
    size = so_far.size;
    shrinks = so_far.shrinks;
    to_do = λ k behind within. so_far.to_do k (omega (arith, behind)) within;
    gone = λ k below within. elim (cases_lt k i) [
      | inl before ↦ so_far.gone k before within
      | inr last ↦
          let same : i ≡ k = omega (arith, below, last) in
          subst (λ (n : ℕ). object_at left (get_or (path_places pipes) n 0) ≡ objects.None) same none
    ];
  }
