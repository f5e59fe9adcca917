-- A run in which all paths were opened, and all flows came to their ends.
use Rattle.std.specs.Io.KnownBytes.{Consumes, IsAtEnd}
use Rattle.std.proofs.Common.{◌≡◌, ℕ, ◌+◌, ◌<◌, ◌≤◌, ◌||◌, ◌&&◌, min, sum, List, [], ◌++◌, length, map, take, count_by, nat_lt, Bool, true, false, not, Option, Some, None, slice_get, refl, sym, ap, ◌∙◌, subst, arith, append-nil, zero-add, inl, inr, ◌⊎◌}
use Rattle.std.proofs.Math.Seq.{take-length}
use Rattle.std.proofs.lemmas.List.{same_lists}
use Rattle.std.proofs.lemmas.List.FromFn.{get_or-map-range_with_len, length-map-range_with_len}
use Rattle.std.specs.List.{Contains, filter}
use Rattle.std.specs.Option.{option_map_or}
use Rattle.up_base.specs.Lists.{IsPrefix}
use Rattle.up_engine.proofs.HeldAfter.{AllFresh, AllStored, given_lies, refused_passes, stored_closed, told_more}
use Rattle.up_engine.proofs.ClosedWays.{carried_closed, due_closed, ending_closed, not_refused, not_so, or_false, ways_closed, whole_before}
use Rattle.up_engine.proofs.FaultCounts.{faults_tell}
use Rattle.up_engine.proofs.LeftOpen.{LeftOpen, place_same}
use Rattle.up_engine.proofs.OneChange.{count_agree}
use Rattle.up_engine.proofs.OpenedAndClosed.{all_entries, sink_faults, source_faults}
use Rattle.up_engine.proofs.OwnSources.{sink_has_place, source_has_place}
use Rattle.up_engine.proofs.PathObjects.{among_all, index_among, opened_side, sink_stands, source_stands}
use Rattle.up_engine.specs.Carried.{CarriedBy}
use Rattle.up_engine.specs.Counting.{RoseBy}
use Rattle.up_engine.specs.Entries.{entries_at, path_places}
use Rattle.up_engine.specs.Objects.{Closes, IsFresh, IsOfKind, Opens, closed_mark, faults_of, has_failed, index_of, moved_told, object_at, outcome_closed, place_told}
use Rattle.up_engine.specs.Runs.{Gave, GaveWithin, Marked, RanThrough, Ways, Wrote, ending}
use Rattle.up_engine.specs.declared.object.Object.{Object}
use Rattle.up_engine.specs.declared.object.Object.TheVariants as objects
use Rattle.up_engine.specs.declared.opening.Opening.TheVariants.{All}
use Rattle.up_engine.specs.declared.results.Results.{Results}
use Rattle.up_model.specs.Ends.{is_sink, is_source}
use Rattle.up_model.specs.Inputs.{ends_at_source, passes_at, places}
use Rattle.up_model.specs.Meaning.{tally_of}
use Rattle.up_model.specs.Packet.{Flow, count_with_bytes}
use Rattle.up_model.specs.Plans.{ends_at_sink}
use Rattle.up_model.specs.Tallies.{greatest_sum}
use Rattle.up_model.specs.declared.kind.Kind.{Kind}
use Rattle.up_model.specs.declared.kind.Kind.TheVariants.{Source}
use Rattle.up_model.specs.declared.outcome.Outcome.{Outcome}
use Rattle.up_model.specs.declared.outcome.Outcome.TheVariants as outcomes
use Rattle.up_model.specs.declared.pipe.Pipe.{Pipe}
use Rattle.up_outside.proofs.Told.{Then-map, always, counted_from}
use Rattle.up_outside.specs.Held.{Held}
use Rattle.up_outside.specs.States.{DepotState, SourceState, SinkState}
use Rattle.up_outside.specs.declared.asked.Entry.{Entry}
use Rattle.up_outside.specs.declared.asked.Mark.{Mark}
use Rattle.up_outside.specs.declared.asked.Mark.TheVariants as marks
use Rattle.up_shape.specs.Stores.{StoreState}

-- all bytes are those that were given, and the rest
gave_first : (a b : Option (List ℕ)) (bytes given : List ℕ) → a ≡ Some bytes → Consumes a b given → (rest : List ℕ) × (b ≡ Some rest) × (bytes ≡ given ++ rest)
gave_first a None bytes given is took = absurd (rw is at took)
gave_first a (Some rest) bytes given is took = (rest, refl, rw is at took)

gave_all : (b : Option (List ℕ)) (bytes given rest : List ℕ) → b ≡ Some rest → bytes ≡ given ++ rest → IsAtEnd b → given ≡ bytes
gave_all b bytes given rest is all at_end =
    let none : rest ≡ [] = rw is at at_end in
    sym (all ∙ ap (λ (l : List ℕ). given ++ l) none ∙ append-nil given)

and_as : (flag a b : Bool) → (flag ≡ true → a ≡ b) → (flag && a) ≡ (flag && b)
and_as true a b same = same refl
and_as false a b same = refl

failed_as : (is_such : Kind → Bool) (pipe : Option Pipe) (a b : Bool) → ((own : Pipe) → pipe ≡ Some own → is_such own.kind ≡ true → a ≡ b)
    → (option_map_or (λ (own : Pipe). is_such own.kind) pipe false && a) ≡ (option_map_or (λ (own : Pipe). is_such own.kind) pipe false && b)
failed_as is_such None a b same = refl
failed_as is_such (Some pipe) a b same = and_as (is_such pipe.kind) a b (same pipe refl)

-- as many fail where each of them does
as_many : (pipes : List Pipe) (is_such : Kind → Bool) (failed failed' : ℕ → Bool)
    → ((place : ℕ) (pipe : Pipe) → slice_get pipes place ≡ Some pipe → is_such pipe.kind ≡ true → failed place ≡ failed' place)
    → count_by (λ place. option_map_or (λ (pipe : Pipe). is_such pipe.kind) (slice_get pipes place) false && failed place) (places pipes)
    ≡ count_by (λ place. option_map_or (λ (pipe : Pipe). is_such pipe.kind) (slice_get pipes place) false && failed' place) (places pipes)
as_many pipes is_such failed failed' same =
    count_agree (λ place. option_map_or (λ (pipe : Pipe). is_such pipe.kind) (slice_get pipes place) false && failed' place)
    (λ place. option_map_or (λ (pipe : Pipe). is_such pipe.kind) (slice_get pipes place) false && failed place) (places pipes)
    (λ place. failed_as is_such (slice_get pipes place) (failed place) (failed' place) (same place))

within_as : (pipes : List Pipe) (ways ways' : Ways) (place : ℕ) (kind : Kind) → ways'.given place ≡ ways.given place
    → (is_source kind ≡ true → ways'.failed place ≡ ways.failed place) → (is_source kind ≡ true → GaveWithin pipes ways place kind)
    → GaveWithin pipes ways' place kind
within_as pipes ways ways' place (Source path form limit) same failed within = rw (same, failed refl) (within refl)
within_as pipes ways ways' place kind same failed within = tt

source_or_sink : {S K : Type 0} (kind : Kind) (object : Object S K) → IsOfKind kind object → (is_source kind ≡ true) ⊎ (is_sink kind ≡ true)
source_or_sink kind objects.None side = absurd side
source_or_sink kind (objects.Source s) side = inl side
source_or_sink kind (objects.Sink k) side = inr side

not_shut : (refused failed : Bool) → not refused ≡ false → (failed || refused) ≡ true
not_shut refused true shut = refl
not_shut true false shut = refl
not_shut false false shut = absurd (cc)

module _ {S K F : Type 0} (reads : S → SourceState) (writes : K → SinkState) (pipes : List Pipe) (old mid new : DepotState)
    (opened left closed : List (Object S K)) (results : Results) (ends_closed : List Outcome)
    (opens : Opens reads writes pipes old mid opened All)
    (stands : LeftOpen reads writes pipes opens.count opened left)
    (closes : Closes reads writes pipes opens.count mid new left closed results.outcomes.items ends_closed)
    (before : Ways) (store_before store_after : StoreState F) (by : CarriedBy reads writes pipes opened left before results store_before store_after) where
  abbrev ways : Ways
  ways = ways_closed before closes.refused

  of_sinks : (place : ℕ) → closes.refused place ≡ true → passes_at ends_at_sink pipes place ≡ true
  of_sinks = refused_passes reads writes pipes old mid new All opened left closed results.outcomes.items ends_closed opens stands closes

  same_places : (place : ℕ) → place_told reads writes (object_at left place) ≡ place_told reads writes (object_at opened place)
  same_places = place_same reads writes pipes opens.count opened left opens.there stands

  source_among : (place : ℕ) (pipe : Pipe) → slice_get pipes place ≡ Some pipe → is_source pipe.kind ≡ true
      → Contains (take opens.count (path_places pipes)) place
  source_among place pipe is source = among_all pipes opens.count opens.stops place (source_has_place pipes place pipe is source)

  sink_among : (place : ℕ) (pipe : Pipe) → slice_get pipes place ≡ Some pipe → is_sink pipe.kind ≡ true
      → Contains (take opens.count (path_places pipes)) place
  sink_among place pipe is sink = among_all pipes opens.count opens.stops place (sink_has_place pipes place pipe is sink)

  source_was : (place : ℕ) (pipe : Pipe) → slice_get pipes place ≡ Some pipe → is_source pipe.kind ≡ true
      → (s : S) × (object_at opened place ≡ objects.Source s)
  source_was place pipe is source = source_stands reads writes pipes opens.count opened opens.there place pipe is (source_among place pipe is source) source

  sink_was : (place : ℕ) (pipe : Pipe) → slice_get pipes place ≡ Some pipe → is_sink pipe.kind ≡ true
      → (k : K) × (object_at opened place ≡ objects.Sink k)
  sink_was place pipe is sink = sink_stands reads writes pipes opens.count opened opens.there place pipe is (sink_among place pipe is sink) sink

  -- no close of a source is refused
  failed_before : (place : ℕ) (pipe : Pipe) → slice_get pipes place ≡ Some pipe → is_source pipe.kind ≡ true → ways.failed place ≡ before.failed place
  failed_before place pipe is source =
      or_false (before.failed place) (closes.refused place)
      (not_refused pipes before closes.refused of_sinks place (ap (λ (own : Option Pipe). option_map_or (λ (pipe : Pipe). is_source pipe.kind) own false) is ∙ source))

  -- a call failed, or the close was refused
  source_failed : (place : ℕ) (pipe : Pipe) → slice_get pipes place ≡ Some pipe → is_source pipe.kind ≡ true
      → has_failed reads writes pipes closes.refused left place ≡ ways.failed place
  source_failed place pipe is source =
      let was = source_was place pipe is source in
      let now = by.sources place pipe was.0 is was.1 in
      let none : (reads was.0).faults ≡ 0 = sym (ap (faults_of reads writes) was.1) ∙ opens.fresh.faults place in
      ap (λ (b : Bool). b || closes.refused place)
      (ap (λ (object : Object S K). nat_lt 0 (faults_of reads writes object)) now.1
      ∙ faults_tell (before.failed place) (reads was.0).faults (reads now.0).faults none now.2.faults)

  sink_failed : (place : ℕ) (pipe : Pipe) → slice_get pipes place ≡ Some pipe → is_sink pipe.kind ≡ true
      → has_failed reads writes pipes closes.refused left place ≡ ways.failed place
  sink_failed place pipe is sink =
      let was = sink_was place pipe is sink in
      let now = by.sinks place pipe was.0 is was.1 in
      let none : (writes was.0).faults ≡ 0 = sym (ap (faults_of reads writes) was.1) ∙ opens.fresh.faults place in
      ap (λ (b : Bool). b || closes.refused place)
      (ap (λ (object : Object S K). nat_lt 0 (faults_of reads writes object)) now.1
      ∙ faults_tell (before.failed place) (writes was.0).faults (writes now.0).faults none now.2.faults)

  whole_as : (place : ℕ) → ending pipes ways place ≡ outcomes.Whole → ending pipes before place ≡ outcomes.Whole
  whole_as place whole =
      whole_before (closes.refused place) (ending pipes before place) (ending_closed pipes before closes.refused of_sinks place ∙ whole)

  endings_as : length results.outcomes.items ≡ length pipes → ends_closed ≡ map (ending pipes ways) (places pipes)
  endings_as long =
      let size = closes.size in
      let longer = length-map-range_with_len (ending pipes ways) 0 (length pipes) in
      same_lists ends_closed (map (ending pipes ways) (places pipes)) (omega (arith, size, longer, long)) (λ k d inside.
      let within : k < length pipes = omega (arith, size, inside, long) in
      closes.outcomes k d (omega (arith, size, inside))
      ∙ ap (outcome_closed (closes.refused k)) (by.ends k d within)
      ∙ ending_closed pipes before closes.refused of_sinks k
      ∙ sym (get_or-map-range_with_len (ending pipes ways) 0 (length pipes) k k d within (omega arith)))

  gave_as : (held : Held) → AllFresh reads writes pipes old mid new All opened left closed results.outcomes.items ends_closed opens stands closes held
      → (place : ℕ) (pipe : Pipe) → slice_get pipes place ≡ Some pipe → is_source pipe.kind ≡ true → Gave pipes ways held place pipe
  gave_as held fresh place pipe is source = record {
    there = λ path of.
        let was = source_was place pipe is source in
        let now = by.sources place pipe was.0 is was.1 in
        let lies : IsFresh reads writes held pipe.kind (objects.Source was.0) = rw was.1 at (fresh place pipe is) in
        let at = lies path of in
        let first = gave_first (reads was.0).left (reads now.0).left at.bytes (before.given place) at.told now.2.took.bytes_of in (
          at.bytes,
          at.at_path,
          (first.0, first.2),
          λ clean unshown.
              gave_all (reads now.0).left at.bytes (before.given place) first.0 first.1 first.2
              (now.2.all (sym (failed_before place pipe is source) ∙ clean) unshown),
        );
  }

  wrote_as : (x z : Held) → AllFresh reads writes pipes old mid new All opened left closed results.outcomes.items ends_closed opens stands closes x
      → AllStored reads writes pipes old mid new All opened left closed results.outcomes.items ends_closed opens stands closes z
      → (place : ℕ) (pipe : Pipe) → slice_get pipes place ≡ Some pipe → is_sink pipe.kind ≡ true → Wrote pipes ways z place pipe
  wrote_as x z fresh stored place pipe is sink = record {
    there = λ path of shut.
        let was = sink_was place pipe is sink in
        let now = by.sinks place pipe was.0 is was.1 in
        let unrefused = not_so (closes.refused place) shut in
        let due = due_closed pipes before closes.refused of_sinks place pipe in (
          now.2.put,
          given_lies reads writes x z pipe.kind (object_at opened place) (object_at left place) was.0 now.0 now.2.put path was.1 now.1
              (fresh place pipe is) (stored place pipe is unrefused) now.2.appended of,
          subst (IsPrefix now.2.put) (sym due) now.2.first,
          λ fine. now.2.all (sym (or_false (before.failed place) (closes.refused place) unrefused) ∙ fine) ∙ sym due,
        );
  }

  path_failed : (place : ℕ) (pipe : Pipe) → slice_get pipes place ≡ Some pipe → Contains (path_places pipes) place
      → has_failed reads writes pipes closes.refused left place ≡ ways.failed place
  path_failed place pipe is contains =
      let side = opened_side reads writes pipes opens.count opened opens.there place pipe is (among_all pipes opens.count opens.stops place contains) in
      elim (source_or_sink pipe.kind (object_at opened place) side) [
        | inl source ↦ source_failed place pipe is source
        | inr sink ↦ sink_failed place pipe is sink
      ]

  moved_as : (asked : List Entry)
      → ((place i : ℕ) → index_of pipes opens.count place ≡ Some i → moved_told reads writes (object_at opened place) ≡ Some 0)
      → (place : ℕ) (pipe : Pipe) → slice_get pipes place ≡ Some pipe → is_source pipe.kind ≡ true
      → moved_told reads writes (object_at left place) ≡ Some (length (before.given place))
  moved_as asked fresh place pipe is source =
      let was = source_was place pipe is source in
      let now = by.sources place pipe was.0 is was.1 in
      let index = index_among pipes opens.count place (source_among place pipe is source) in
      let none : (reads was.0).moved ≡ Some 0 = sym (ap (moved_told reads writes) was.1) ∙ fresh place index.0 index.1 in
      ap (moved_told reads writes) now.1
      ∙ counted_from (reads was.0).moved (reads now.0).moved (length (before.given place)) none now.2.took.sum

  -- each entry says what moved and what failed
  abbrev AreMarked : List Entry → List Entry → Type 0
  AreMarked first last = (mark : ℕ → Mark) × (last ≡ first ++ entries_at pipes mark (path_places pipes))
      × ((place : ℕ) (pipe : Pipe) → slice_get pipes place ≡ Some pipe
      → Contains (path_places pipes) place → Marked pipes ways mark place pipe)

  whole_entries : (mark : ℕ → Mark) → entries_at pipes mark (take opens.count (path_places pipes)) ++ [] ≡ entries_at pipes mark (path_places pipes)
  whole_entries mark =
      append-nil (entries_at pipes mark (take opens.count (path_places pipes)))
      ∙ ap (entries_at pipes mark) (ap (λ (n : ℕ). take n (path_places pipes)) opens.stops ∙ take-length (path_places pipes))

  marked_entries : (x z : List Entry)
      → ((place i : ℕ) → index_of pipes opens.count place ≡ Some i → moved_told reads writes (object_at opened place) ≡ Some 0)
      → z ≡ x ++ (entries_at pipes (closed_mark reads writes pipes closes.refused left) (take opens.count (path_places pipes)) ++ [])
      → AreMarked x z
  marked_entries x z fresh change =
      let mark = closed_mark reads writes pipes closes.refused left in (
        mark,
        change ∙ ap (λ (l : List Entry). x ++ l) (whole_entries mark),
        λ place pipe is contains. record {
          moved = option_map_or (λ n. n) (moved_told reads writes (object_at left place)) 0;
          is = ap (λ (failed : Bool). marks.Closed (option_map_or (λ n. n) (moved_told reads writes (object_at left place)) 0) failed (not (closes.refused place)))
              (path_failed place pipe is contains);
          given = λ source. ap (λ (n : Option ℕ). option_map_or (λ n. n) n 0) (moved_as x fresh place pipe is source);
        },
      )

  pub went_through : length results.outcomes.items ≡ length pipes → length results.tallies.items ≡ length pipes
      → RanThrough pipes ways old new store_before store_after ends_closed results.tallies.items
  went_through long counted = record {
    endings = endings_as long;
    shut = λ place shut. not_shut (closes.refused place) (before.failed place) shut;
    within = λ place pipe is. within_as pipes before ways place pipe.kind refl (λ source. failed_before place pipe is source) (λ source.
        let was = source_was place pipe is source in (by.sources place pipe was.0 is was.1).2.within);
    gave = told_more _ _ old.held gave_as opens.fresh.bytes;
    wrote = Then-map (λ held. Unit {0}) _ _ old.held new.held (λ x z any both. wrote_as x z both.0 both.1) (always old.held)
        (stored_closed reads writes pipes old mid new All opened left closed results.outcomes.items ends_closed opens stands closes);
    entries = Then-map _ _ AreMarked old.asked new.asked marked_entries opens.fresh.moved
        (all_entries reads writes pipes old mid opened left All opens same_places new closed results.outcomes.items ends_closed closes);
    sources = subst (λ (n : ℕ). RoseBy n old.source_faults new.source_faults)
        (zero-add _ ∙ as_many pipes is_source (has_failed reads writes pipes closes.refused left) ways.failed source_failed)
        (source_faults reads writes pipes old mid opened left All opens same_places new closed results.outcomes.items ends_closed closes);
    sinks = subst (λ (n : ℕ). RoseBy n old.sink_faults new.sink_faults)
        (zero-add _ ∙ as_many pipes is_sink (has_failed reads writes pipes closes.refused left) ways.failed sink_failed)
        (sink_faults reads writes pipes old mid opened left All opens same_places new closed results.outcomes.items ends_closed closes);
    put = λ place pipe d is source. by.put place pipe d is source
        ∙ ap (λ (flows : ℕ → Flow). min (length (flows place)) greatest_sum) (sym (carried_closed pipes before closes.refused of_sinks));
    sums = λ whole. by.sums (λ place within. whole_as place (whole place within))
        ∙ ap (λ (flows : ℕ → Flow). map (tally_of pipes flows) (places pipes)) (sym (carried_closed pipes before closes.refused of_sinks));
    tally_count = counted;
    drawn = subst (λ (flows : ℕ → Flow). store_before.drawn
        + sum (map (λ place. count_with_bytes (flows place)) (filter (passes_at ends_at_source pipes) (places pipes))) ≤ store_after.drawn)
        (sym (carried_closed pipes before closes.refused of_sinks)) by.drawn;
  }
