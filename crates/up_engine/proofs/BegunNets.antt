-- A net whose strands were made, and what was opened for strands that did nothing yet.
use Rattle.std.proofs.Common.{◌≡◌, ℕ, ◌<◌, ◌==◌, List, length, get_or, Bool, true, false, Option, Some, None, slice_get, refl, sym, ap, ◌∙◌, subst, arith}
use Rattle.std.specs.Prelude.{option_and_then}
use Rattle.std.specs.List.{Contains, position}
use Rattle.std.specs.Option.{option_map_or}
use Rattle.std.proofs.lemmas.List.{get_or_default}
use Rattle.std.proofs.lemmas.List.Elements.{Contains-get_or}
use Rattle.std.proofs.lemmas.List.Kept.{IsStrictlyIncreasing-filter}
use Rattle.std.proofs.lemmas.Option.{slice_get-get_or, slice_get_within}
use Rattle.up_engine.proofs.Fillers.{head_there}
use Rattle.up_engine.proofs.GivenBack.{all_back}
use Rattle.up_engine.proofs.NothingDone.{sink_ungiven, source_unread}
use Rattle.up_engine.proofs.Numbered.{number_of, strand_of_head}
use Rattle.up_engine.proofs.OwnSources.{has_index, sink_has_place, source_has_place, source_passes}
use Rattle.up_engine.proofs.PathPlaces.{kept_rises, rising_apart}
use Rattle.up_engine.proofs.PutParts.{is_sink_there, same_sinks}
use Rattle.up_engine.proofs.SinksFound.{sink_found, sinks_count}
use Rattle.up_engine.specs.Begun.{AreBackFrom, AreTakenOf, beginning, places_at}
use Rattle.up_engine.specs.Entries.{path_places}
use Rattle.up_engine.specs.Making.{AllBegin, AreBack, BeginsWith, IsBack, source_told}
use Rattle.up_engine.specs.Nets.{head_at}
use Rattle.up_engine.specs.Objects.{AreThere, IsOfKind, StandsAt, index_of, object_at}
use Rattle.up_engine.specs.Parts.{AreApart, HasEnds, IsEndOf, sinks_at, sinks_in}
use Rattle.up_engine.specs.declared.object.Object.{Object}
use Rattle.up_engine.specs.declared.object.Object.TheVariants as objects
use Rattle.up_model.proofs.Members.{filter_has}
use Rattle.up_model.specs.Ends.{is_sink, is_source}
use Rattle.up_model.specs.Inputs.{passes_at}
use Rattle.up_model.specs.Plans.{ends_at_sink, heads, is_in_strand, sinks_of, strand_of}
use Rattle.up_model.specs.WellFormed.{IsWellFormed}
use Rattle.up_model.specs.declared.kind.Kind.{Kind}
use Rattle.up_model.specs.declared.pipe.Pipe.{Pipe}
use Rattle.up_outside.specs.States.{SourceState, SinkState}
use Rattle.up_strand.proofs.Told.{place_found}
use Rattle.up_strand.specs.StrandCalls.{SinkEnds, SourceEnds, begun, no_sink, sinks_told}

pub sinks_apart : (pipes : List Pipe) (head : ℕ) → AreApart (sinks_of pipes head)
sinks_apart pipes head =
    rising_apart (sinks_of pipes head)
    (IsStrictlyIncreasing-filter (passes_at ends_at_sink pipes) (strand_of pipes head) (kept_rises (is_in_strand pipes head) (length pipes)))

module _ {S K : Type 0} where
  end_of_kind : (kind : Kind) (object : Object S K) → IsOfKind kind object → IsEndOf kind object
  end_of_kind kind objects.None is = absurd is
  end_of_kind kind (objects.Source s) is = is
  end_of_kind kind (objects.Sink k) is = is

  end_of_none : (kind : Kind) (object : Object S K) → object ≡ objects.None → (is_source kind ≡ true → ⊥) → (is_sink kind ≡ true → ⊥) → IsEndOf kind object
  end_of_none kind object none no_source no_sink = subst (IsEndOf kind) (sym none) (fails (is_source kind) no_source, fails (is_sink kind) no_sink)
    where
      fails : (b : Bool) → (b ≡ true → ⊥) → b ≡ false
      fails true not = absurd (not refl)
      fails false not = refl

module _ {S K : Type 0} (reads : S → SourceState) (writes : K → SinkState) (pipes : List Pipe) (table : List (Object S K)) where
  -- once all paths are open, each pipe of a strand has its end
  pub all_have_ends : AreThere reads writes pipes (length (path_places pipes)) table → (place : ℕ) (pipe : Pipe) → slice_get pipes place ≡ Some pipe
      → IsEndOf pipe.kind (object_at table place)
  all_have_ends opened place pipe there =
      by_index (index_of pipes (length (path_places pipes)) place) refl (opened.kinds place pipe there)
    where
      by_index : (index : Option ℕ) → index_of pipes (length (path_places pipes)) place ≡ index → StandsAt index pipe.kind (object_at table place)
          → IsEndOf pipe.kind (object_at table place)
      by_index None none stands =
          end_of_none pipe.kind (object_at table place) stands
          (λ source. has_index pipes place (source_has_place pipes place pipe there source) none)
          (λ sink. has_index pipes place (sink_has_place pipes place pipe there sink) none)
      by_index (Some i) some stands = end_of_kind pipe.kind (object_at table place) stands

  module _ (head : ℕ) (is_head : Contains (heads pipes) head) (ends : HasEnds (strand_of pipes head) pipes table) where
    abbrev told : ℕ → SinkState
    told = sinks_told writes pipes head (sinks_at table (strand_of pipes head))

    told_is : (place : ℕ) (k : K) → Contains (sinks_of pipes head) place → object_at table place ≡ objects.Sink k → told place ≡ writes k
    told_is place k has stands =
        let sinks = sinks_of pipes head in
        let own = sinks_at table (strand_of pipes head) in
        let at : get_or sinks has.0 0 ≡ place = get_or_default sinks has.0 0 place has.1 ∙ has.2 in
        let found : position (λ other. other == place) sinks ≡ Some has.0 =
        subst (λ (p : ℕ). position (λ other. other == p) sinks ≡ Some has.0) at (place_found sinks has.0 (sinks_apart pipes head) has.1) in
        let count = sinks_count pipes head (strand_of pipes head) (strand_of_head pipes head is_head) table ends in
        let here : slice_get own has.0 ≡ Some k = slice_get-get_or own has.0 k (omega (arith, has.1, count))
        ∙ ap Some (sink_found pipes head (strand_of pipes head) (strand_of_head pipes head is_head) table ends has.0 place k has.1 at stands) in
        ap (λ (i : Option ℕ). option_map_or writes (option_and_then (slice_get own) i) no_sink) found
        ∙ ap (λ (k : Option K). option_map_or writes k no_sink) here

    pub begins_with : BeginsWith reads writes pipes table head (beginning reads writes pipes table head)
    begins_with = record { told = told; begins = refl; sinks = told_is }

    first_back_of : IsWellFormed pipes → (place : ℕ) (pipe : Pipe) (object : Object S K) → Contains (strand_of pipes head) place → slice_get pipes place ≡ Some pipe
        → object_at table place ≡ object → IsEndOf pipe.kind object → IsBack reads writes pipes (beginning reads writes pipes table head) place pipe object
    first_back_of well place pipe objects.None has there stands end = end
    first_back_of well place pipe (objects.Source s) has there stands end =
        let own = (strand_of_head pipes head is_head).one_source place has (source_passes pipes place pipe there end) in
        let source : source_told reads writes pipes (object_at table head) ≡ Some (reads s) = ap (λ (p : ℕ). source_told reads writes pipes (object_at table p)) (sym own) ∙ ap (source_told reads writes pipes) stands in
        (own, end, subst (λ (from : Option SourceState). SourceEnds (begun pipes head from told) (reads s)) (sym source) (source_unread pipes head told (reads s)))
    first_back_of well place pipe (objects.Sink k) has there stands end =
        let sink = filter_has (passes_at ends_at_sink pipes) (strand_of pipes head) place has (is_sink_there pipes place pipe there ∙ end) in (
          end,
          subst (SinkEnds (beginning reads writes pipes table head) place pipe) (told_is place k sink stands)
              (sink_ungiven pipes well head (source_told reads writes pipes (object_at table head)) told place pipe),
        )

    -- what was opened is as the strand left it, which did nothing
    pub first_back : IsWellFormed pipes → (place : ℕ) (pipe : Pipe) → Contains (strand_of pipes head) place → slice_get pipes place ≡ Some pipe
        → IsBack reads writes pipes (beginning reads writes pipes table head) place pipe (object_at table place)
    first_back well place pipe has there = first_back_of well place pipe (object_at table place) has there refl (ends place pipe has there)

  -- a strand begins alike with tables in which the same stands for it
  pub same_beginning : (other : List (Object S K)) (head : ℕ) → Contains (strand_of pipes head) head
      → ((place : ℕ) → Contains (strand_of pipes head) place → object_at other place ≡ object_at table place)
      → beginning reads writes pipes other head ≡ beginning reads writes pipes table head
  same_beginning other head own same =
      ap (λ (o : Object S K). begun pipes head (source_told reads writes pipes o) (sinks_told writes pipes head (sinks_at other (strand_of pipes head)))) (same head own)
      ∙ ap (λ (sinks : List K). begun pipes head (source_told reads writes pipes (object_at table head)) (sinks_told writes pipes head sinks))
      (same_sinks other table (strand_of pipes head) (λ k below. ap sinks_in (same (get_or (strand_of pipes head) k 0) (Contains-get_or (strand_of pipes head) k 0 below))))

  module _ (opened : AreThere reads writes pipes (length (path_places pipes)) table) where
    pub head_ends : (head : ℕ) → HasEnds (strand_of pipes head) pipes table
    head_ends head place pipe has there = all_have_ends opened place pipe there

    pub all_begin : AllBegin reads writes pipes table (beginning reads writes pipes table)
    all_begin head is_head = begins_with head is_head (head_ends head)

    -- what the next strand is to have is there
    pub next_ends : (count : ℕ) (now : List (Object S K)) → AreTakenOf pipes count table now → count < length (heads pipes) → HasEnds (places_at pipes count) pipes now
    next_ends count now taken within place pipe has there =
        subst (IsEndOf pipe.kind) (sym (taken.same count place (omega arith) within has)) (all_have_ends opened place pipe there)

    -- where the last strands weren't made, what was opened for them is back
    pub rest_back : IsWellFormed pipes → (count : ℕ) (now : List (Object S K)) → AreTakenOf pipes count table now
        → AreBackFrom reads writes pipes count (beginning reads writes pipes table) now
    rest_back well count now taken = record {
      size = taken.size ∙ opened.size;
      none = taken.none;
      back = λ i place pipe from below has there.
          subst (IsBack reads writes pipes (beginning reads writes pipes table (head_at pipes i)) place pipe) (sym (taken.same i place from below has))
          (first_back (head_at pipes i) (head_there pipes i below) (head_ends (head_at pipes i)) well place pipe has there);
    }

    pub none_made : AreTakenOf pipes 0 table table
    none_made = record { size = refl; none = λ i below. absurd (omega (arith, below)); same = λ i place from below has. refl }

    pub untouched : IsWellFormed pipes → AreBack reads writes pipes (beginning reads writes pipes table) table
    untouched well = all_back pipes reads writes (beginning reads writes pipes table) table (rest_back well 0 table none_made)

  -- where all strands were made nothing is left in the table
  pub all_taken : IsWellFormed pipes → length table ≡ length pipes → (now : List (Object S K)) → AreTakenOf pipes (length (heads pipes)) table now → AreThere reads writes pipes 0 now
  all_taken well size now taken = record {
    size = taken.size ∙ size;
    kinds = λ place pipe there.
        let number = number_of pipes place well (slice_get_within pipes place pipe there) in
        taken.none number.0 number.1 place number.2;
  }
