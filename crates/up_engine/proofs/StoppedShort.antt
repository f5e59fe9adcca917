-- A run in which memory ran out.
use Rattle.std.specs.Prelude.{nat_lt}
use Rattle.std.proofs.Common.{◌≡◌, ℕ, ◌+◌, ◌≤◌, List, [], ◌++◌, length, take, true, false, not, Option, Some, None, IfSome, slice_get, refl, sym, ap, ◌∙◌, subst, arith, append-nil}
use Rattle.std.specs.List.{Contains}
use Rattle.std.specs.Option.{option_map_or}
use Rattle.up_engine.proofs.HeldAfter.{AllFresh, AllStored, given_lies, left_held, refused_passes, stored_closed, told_more, untouched_closed}
use Rattle.up_engine.proofs.ClosedWays.{not_refused, not_so, or_false}
use Rattle.up_engine.proofs.FaultCounts.{faults_tell}
use Rattle.up_engine.proofs.LeftOpen.{LeftOpen, place_same, ways_given}
use Rattle.up_engine.proofs.OpenedAndClosed.{all_entries}
use Rattle.up_engine.proofs.PathObjects.{among_index, index_among, sink_stands, source_stands}
use Rattle.up_engine.specs.Entries.{entries_at, path_places}
use Rattle.up_engine.specs.Objects.{Closes, Opens, StandsAt, closed_mark, entries_refused, faults_of, has_failed, index_of, moved_told, object_at}
use Rattle.up_engine.specs.Runs.{GaveWithin, RanShort, held_bytes}
use Rattle.up_engine.specs.declared.object.Object.{Object}
use Rattle.up_engine.specs.declared.opening.Opening.{Opening}
use Rattle.up_model.proofs.Shown.{unshown_within}
use Rattle.up_model.specs.Ends.{is_source}
use Rattle.up_model.specs.WellFormed.{IsWellFormed}
use Rattle.up_model.specs.declared.form.SourceForm.{SourceForm}
use Rattle.up_model.specs.declared.kind.Kind.TheVariants.{Source}
use Rattle.up_model.specs.declared.outcome.Outcome.{Outcome}
use Rattle.up_model.specs.declared.pipe.Pipe.{Pipe}
use Rattle.up_outside.proofs.Told.{Then-map, always, counted_from}
use Rattle.up_outside.specs.States.{DepotState, SourceState, SinkState}
use Rattle.up_outside.specs.Told.{Then}
use Rattle.up_outside.specs.declared.asked.Entry.{Entry}
use Rattle.up_outside.specs.declared.asked.Mark.TheVariants as marks

module _ {S K : Type 0} (reads : S → SourceState) (writes : K → SinkState) (pipes : List Pipe) (old mid new : DepotState) (opening : Opening)
    (opened left closed : List (Object S K)) (ends ends_closed : List Outcome)
    (opens : Opens reads writes pipes old mid opened opening)
    (stands : LeftOpen reads writes pipes opens.count opened left)
    (closes : Closes reads writes pipes opens.count mid new left closed ends ends_closed)
    (unrefused : entries_refused reads writes pipes opening ≡ []) where
  -- what each opened source gave is what its entry says
  moved_left : IfSome old.asked (λ asked. (place : ℕ) (pipe : Pipe) → slice_get pipes place ≡ Some pipe
      → Contains (take opens.count (path_places pipes)) place → is_source pipe.kind ≡ true
      → moved_told reads writes (object_at left place) ≡ Some (length (stands.given place)))
  moved_left =
      told_more _ _ old.asked (λ asked fresh place pipe is among source.
      let was = source_stands reads writes pipes opens.count opened opens.there place pipe is among source in
      let index = index_among pipes opens.count place among in
      let now = stands.sources place was.0 was.1 in
      let none : (reads was.0).moved ≡ Some 0 = sym (ap (moved_told reads writes) was.1) ∙ fresh place index.0 index.1 in
      ap (moved_told reads writes) now.1 ∙ counted_from (reads was.0).moved (reads now.0).moved (length (stands.given place)) none now.2.sum)
      opens.fresh.moved

  -- how many bytes the entries tell, where any are told
  abbrev moved_where : Option (List Entry) → ℕ → ℕ
  moved_where None place = 0
  moved_where (Some asked) place = option_map_or (λ n. n) (moved_told reads writes (object_at left place)) 0

  abbrev short_entries : Option (List Entry) → List Entry
  short_entries asked = entries_at pipes (λ place. marks.Closed (moved_where asked place)
      (has_failed reads writes pipes closes.refused left place) (not (closes.refused place))) (take opens.count (path_places pipes))

  told_short : (a b : Option (List Entry)) → Then (λ before after. after ≡ before
      ++ (entries_at pipes (closed_mark reads writes pipes closes.refused left) (take opens.count (path_places pipes))
      ++ entries_refused reads writes pipes opening)) a b
      → Then (λ before after. after ≡ before ++ short_entries a) a b
  told_short None b change = change
  told_short (Some x) None change = change
  told_short (Some x) (Some y) change = change ∙ ap (λ (l : List Entry). x ++ l)
      (ap (λ (l : List Entry). short_entries (Some x) ++ l) unrefused ∙ append-nil (short_entries (Some x)))

  gave_within : (place : ℕ) (pipe : Pipe) (path : List ℕ) (form : SourceForm) (limit : ℕ) → slice_get pipes place ≡ Some pipe
      → pipe.kind ≡ Source path form limit
      → (length (stands.given place) ≤ limit + 1) × (stands.failed place ≡ true → length (stands.given place) ≤ limit)
  gave_within place pipe path form limit is of =
      let gave = subst (GaveWithin pipes (ways_given stands.given stands.failed) place) of (stands.within place pipe is) in
      (gave.0, λ fails. unshown_within form limit (stands.given place) (gave.1 fails))

  -- of an opened source no close is refused, so a failure of it is a read's
  read_failed : (place : ℕ) (pipe : Pipe) → slice_get pipes place ≡ Some pipe → is_source pipe.kind ≡ true
      → Contains (take opens.count (path_places pipes)) place → has_failed reads writes pipes closes.refused left place ≡ stands.failed place
  read_failed place pipe is source among =
      let was = source_stands reads writes pipes opens.count opened opens.there place pipe is among source in
      let now = stands.sources place was.0 was.1 in
      let none : (reads was.0).faults ≡ 0 = sym (ap (faults_of reads writes) was.1) ∙ opens.fresh.faults place in
      let of_sinks = refused_passes reads writes pipes old mid new opening opened left closed ends ends_closed opens stands closes in
      or_false (nat_lt 0 (faults_of reads writes (object_at left place))) (closes.refused place)
      (not_refused pipes (ways_given stands.given stands.failed) closes.refused of_sinks place
      (ap (λ (own : Option Pipe). option_map_or (λ (pipe : Pipe). is_source pipe.kind) own false) is ∙ source))
      ∙ ap (λ (object : Object S K). nat_lt 0 (faults_of reads writes object)) now.1
      ∙ faults_tell (stands.failed place) (reads was.0).faults (reads now.0).faults none now.3

  moved_as : (place : ℕ) (pipe : Pipe) (bound : ℕ) (index : Option ℕ) → slice_get pipes place ≡ Some pipe → is_source pipe.kind ≡ true
      → (Contains (take opens.count (path_places pipes)) place → length (stands.given place) ≤ bound)
      → index_of pipes opens.count place ≡ index → StandsAt index pipe.kind (object_at left place)
      → ((place : ℕ) (pipe : Pipe) → slice_get pipes place ≡ Some pipe
      → Contains (take opens.count (path_places pipes)) place → is_source pipe.kind ≡ true
      → moved_told reads writes (object_at left place) ≡ Some (length (stands.given place)))
      → option_map_or (λ n. n) (moved_told reads writes (object_at left place)) 0 ≤ bound
  moved_as place pipe bound None is source within at side moved = rw side (omega arith)
  moved_as place pipe bound (Some i) is source within at side moved =
      let among = among_index pipes opens.count place i at in rw (moved place pipe is among source) (within among)

  moved_within : (asked : Option (List Entry)) → old.asked ≡ asked → (place : ℕ) (pipe : Pipe) (path : List ℕ) (form : SourceForm) (limit : ℕ)
      → slice_get pipes place ≡ Some pipe → pipe.kind ≡ Source path form limit
      → (moved_where asked place ≤ limit + 1) × (has_failed reads writes pipes closes.refused left place ≡ true → moved_where asked place ≤ limit)
  moved_within None told place pipe path form limit is of = (omega arith, λ fails. omega arith)
  moved_within (Some asked) told place pipe path form limit is of =
      let gave = gave_within place pipe path form limit is of in
      let source = ap is_source of in
      let there = stands.there.kinds place pipe is in (
        moved_as place pipe (limit + 1) (index_of pipes opens.count place) is source (λ among. gave.0) refl there (rw told at moved_left),
        λ fails. moved_as place pipe limit (index_of pipes opens.count place) is source
            (λ among. gave.1 (sym (read_failed place pipe is source among) ∙ fails)) refl there (rw told at moved_left),
      )

  pub stopped_short : IsWellFormed pipes → RanShort pipes old new
  stopped_short well = record {
    count = opens.count;
    moved = moved_where old.asked;
    failed = has_failed reads writes pipes closes.refused left;
    shut = λ place. not (closes.refused place);
    entries = told_short old.asked new.asked
        (all_entries reads writes pipes old mid opened left opening opens (place_same reads writes pipes opens.count opened left opens.there stands)
        new closed ends ends_closed closes);
    within = moved_within old.asked refl;
    first = Then-map (λ held. Unit {0})
        (λ before after. AllFresh reads writes pipes old mid new opening opened left closed ends ends_closed opens stands closes before
        × AllStored reads writes pipes old mid new opening opened left closed ends ends_closed opens stands closes after) _
        old.held new.held
        (λ x z any both place pipe path among is sink shut of.
        let was = sink_stands reads writes pipes opens.count opened opens.there place pipe is among sink in
        let now = stands.sinks place pipe was.0 is was.1 in
        let put = now.4 (held_bytes x pipes) (left_held reads writes pipes old mid new opening opened left closed ends ends_closed opens stands closes x both.0) in (
          put.0,
          given_lies reads writes x z pipe.kind (object_at opened place) (object_at left place) was.0 now.0 put.0 path was.1 now.1
              (both.0 place pipe is) (both.1 place pipe is (not_so (closes.refused place) shut)) put.1 of,
          put.2,
        ))
        (always old.held)
        (stored_closed reads writes pipes old mid new opening opened left closed ends ends_closed opens stands closes);
    untouched = untouched_closed reads writes pipes old mid new opening opened left closed ends ends_closed opens stands closes well;
    sources = let first = opens.sources.later in let then = closes.sources.later in omega arith;
    sinks = let first = opens.sinks.later in let then = closes.sinks.later in omega arith;
  }
