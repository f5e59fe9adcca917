-- Once all paths of a graph are closed.
use Rattle.std.proofs.Common.{◌≡◌, ◌⊎◌, ℕ, ◌++◌, List, length, take, get_or, count_by, Bool, true, false, ◌&&◌, if◌then◌else◌, Option, Some, None, slice_get, refl, sym, ap, ◌∙◌, subst, arith, inl, inr}
use Rattle.std.proofs.lemmas.Bool.{true≢false}
use Rattle.std.proofs.lemmas.List.{get_or_past}
use Rattle.std.proofs.lemmas.Option.{slice_get_cases}
use Rattle.std.specs.List.{Contains}
use Rattle.std.specs.Option.{option_map_or}
use Rattle.up_engine.proofs.ClosedSoFar.{Closing, KeepsUnopened, failed_now, is_gone, mark_now}
use Rattle.up_engine.proofs.OneChange.{count_agree, map_agree}
use Rattle.up_engine.proofs.PathObjects.{among_index}
use Rattle.up_engine.proofs.PathPlaces.{index_is}
use Rattle.up_engine.specs.Counting.{RoseBy}
use Rattle.up_engine.specs.Entries.{KeepsPathsBut, entries_at, entry_at, path_places}
use Rattle.up_engine.specs.Objects.{AreThere, Closes, StandsAt, closed_mark, failures, has_failed, index_of, object_at}
use Rattle.up_engine.specs.declared.object.Object.{Object}
use Rattle.up_engine.specs.declared.object.Object.TheVariants as objects
use Rattle.up_model.specs.Ends.{is_sink, is_source}
use Rattle.up_model.specs.Inputs.{places}
use Rattle.up_model.specs.declared.kind.Kind.{Kind}
use Rattle.up_model.specs.declared.outcome.Outcome.{Outcome}
use Rattle.up_model.specs.declared.pipe.Pipe.{Pipe}
use Rattle.up_outside.proofs.Told.{Then-map, always}
use Rattle.up_outside.specs.States.{DepotState, SourceState, SinkState}
use Rattle.up_outside.specs.declared.asked.Mark.TheVariants as marks

some_or_none : (o : Option ℕ) → (o ≡ None) ⊎ ((k : ℕ) × (o ≡ Some k))
some_or_none None = inl refl
some_or_none (Some k) = inr (k, refl)

module _ {S K : Type 0} (reads : S → SourceState) (writes : K → SinkState) (pipes : List Pipe) (old new : DepotState) (table left : List (Object S K))
    (before now : List Outcome) (so_far : Closing reads writes pipes (length (path_places pipes)) old new table left before now)
    (count : ℕ) (there : AreThere reads writes pipes count table) where
  -- nothing stands anywhere
  all_gone : (place : ℕ) → object_at left place ≡ objects.None
  all_gone place = elim (so_far.shrinks place) [
    | inl gone ↦ gone
    | inr kept ↦ elim (slice_get_cases pipes place).1 [
      | inl stands ↦ elim (some_or_none (index_of pipes count place)) [
        | inl none ↦ kept ∙ subst (λ (index : Option ℕ). StandsAt index stands.0.kind (object_at table place)) none (there.kinds place stands.0 stands.2)
        | inr opened ↦
            let index = index_is pipes count place opened.0 opened.1 in
            subst (λ (p : ℕ). object_at left p ≡ objects.None) index.2 (so_far.gone opened.0 index.1 index.1)
      ]
      | inr past ↦ get_or_past left place objects.None (omega (arith, past.0, so_far.size))
    ]
  ]

  -- what stood in the table was opened
  was_opened : (place : ℕ) (pipe : Pipe) → slice_get pipes place ≡ Some pipe → is_gone (object_at table place) ≡ false
      → Contains (take count (path_places pipes)) place
  was_opened place pipe stands present = elim (some_or_none (index_of pipes count place)) [
    | inl none ↦
        let gone : object_at table place ≡ objects.None =
        subst (λ (index : Option ℕ). StandsAt index pipe.kind (object_at table place)) none (there.kinds place pipe stands) in
        absurd (true≢false (sym (ap is_gone gone) ∙ present))
    | inr opened ↦ among_index pipes count place opened.0 opened.1
  ]

  is_all_gone : (place : ℕ) → is_gone (object_at left place) ≡ true
  is_all_gone place = ap is_gone (all_gone place)

  all_closed : entries_at pipes (mark_now reads writes pipes table left so_far.refused) (take count (path_places pipes))
      ≡ entries_at pipes (closed_mark reads writes pipes so_far.refused table) (take count (path_places pipes))
  all_closed =
      map_agree (λ place. entry_at pipes place (closed_mark reads writes pipes so_far.refused table place))
      (λ place. entry_at pipes place (mark_now reads writes pipes table left so_far.refused place)) (take count (path_places pipes)) (λ k inside.
      let place = get_or (take count (path_places pipes)) k 0 in
      ap (λ (gone : Bool). entry_at pipes place (if gone then closed_mark reads writes pipes so_far.refused table place else marks.Open)) (is_all_gone place))

  all_failures : (is_such : Kind → Bool) → count_by (failed_now reads writes pipes table left so_far.refused is_such) (places pipes)
      ≡ failures reads writes pipes is_such so_far.refused table
  all_failures is_such =
      count_agree _ (failed_now reads writes pipes table left so_far.refused is_such) (places pipes) (λ place.
      ap (λ (gone : Bool). gone && (option_map_or (λ (pipe : Pipe). is_such pipe.kind) (slice_get pipes place) false && has_failed reads writes pipes so_far.refused table place))
      (is_all_gone place))

  pub closes_all : Closes reads writes pipes count old new table left before now
  closes_all = record {
    refused = so_far.refused;
    refused_sinks = so_far.refused_sinks;
    size = so_far.sizes;
    outcomes = so_far.outcomes;
    entries = λ first opened.
        Then-map (λ _. Unit {0}) _ _ old.asked new.asked
        (λ x y _ told rest is. told rest is ∙ ap (λ l. first ++ (l ++ rest)) all_closed)
        (always old.asked) (so_far.entries count first there opened);
    stored = Then-map (λ _. Unit {0}) _ _ old.held new.held
        (λ x y _ stored place pipe stands unrefused. stored place pipe stands unrefused (all_gone place))
        (always old.held) so_far.stored;
    others = Then-map (λ _. Unit {0}) (KeepsUnopened pipes table) (KeepsPathsBut pipes (take count (path_places pipes))) old.held new.held
        (λ x y _ kept path free. kept path (λ place pipe stands passes present. free place pipe (was_opened place pipe stands present) stands passes))
        (always old.held) so_far.others;
    sources = subst (λ (faults : ℕ). RoseBy faults old.source_faults new.source_faults) (all_failures is_source) so_far.sources;
    sinks = subst (λ (faults : ℕ). RoseBy faults old.sink_faults new.sink_faults) (all_failures is_sink) so_far.sinks;
    none = record { size = so_far.size; kinds = λ place pipe stands. all_gone place };
  }
