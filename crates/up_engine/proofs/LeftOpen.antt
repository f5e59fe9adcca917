-- What is open once a run carried what it could: the same sources and sinks as were opened, each with its entry.
use Rattle.std.specs.Io.KnownBytes.{Appends}
use Rattle.std.proofs.Common.{◌≡◌, ℕ, ◌≤◌, List, [], length, Bool, true, false, Option, Some, None, slice_get, refl, sym, ap, ◌∙◌, subst, arith, inl, inr}
use Rattle.std.proofs.KnownBytes.{Appends-nil, Consumes-nil}
use Rattle.std.proofs.lemmas.Bool.{true≢false}
use Rattle.std.proofs.lemmas.List.{get_or_past}
use Rattle.std.proofs.lemmas.Option.{slice_get_cases}
use Rattle.up_base.specs.Lists.{IsPrefix}
use Rattle.up_engine.specs.Carried.{CarriedShort}
use Rattle.up_engine.specs.Entries.{path_places}
use Rattle.up_engine.specs.Objects.{AreThere, IsOfKind, StandsAt, index_of, object_at, place_told}
use Rattle.up_engine.specs.Runs.{GaveWithin, Ways}
use Rattle.up_engine.specs.declared.object.Object.{Object}
use Rattle.up_engine.specs.declared.object.Object.TheVariants as objects
use Rattle.up_model.specs.Meaning.{sink_bytes}
use Rattle.up_model.specs.Outcomes.{source_flows}
use Rattle.up_model.specs.declared.kind.Kind.{Kind}
use Rattle.up_model.specs.declared.kind.Kind.TheVariants.{Source}
use Rattle.up_model.specs.declared.pipe.Pipe.{Pipe}
use Rattle.up_outside.proofs.Told.{summed_none}
use Rattle.up_outside.specs.Counts.{CountsWhere}
use Rattle.up_outside.specs.States.{SourceState, SinkState}
use Rattle.up_outside.specs.Told.{Then}
use Rattle.up_strand.specs.Reads.{WereRead}
use Rattle.up_strand.specs.Writing.{IsSameSink}

-- the ways of a run in which no close was refused
abbrev pub ways_given : (ℕ → List ℕ) → (ℕ → Bool) → Ways
ways_given given failed = record { given = given; failed = failed; shut = λ other. true }

none_within : (pipes : List Pipe) (place : ℕ) (kind : Kind) → GaveWithin pipes (ways_given (λ other. []) (λ other. false)) place kind
none_within pipes place (Source path form limit) = (omega arith, λ fails. absurd (true≢false (sym fails)))
none_within pipes place kind = tt

same_sum : (a : Option ℕ) → Then (λ before after. Unit {0}) a a
same_sum None = tt
same_sum (Some x) = tt

module _ {S K : Type 0} (reads : S → SourceState) (writes : K → SinkState) (pipes : List Pipe) where
  -- so many objects stand as they stood: the bytes that each source gave are the first of those that were left of it, at some a read
  -- failed, and each sink was given the first of its meaning over whatever all of those are
  pub record LeftOpen (count : ℕ) (before after : List (Object S K)) : Type 0 where
    pub there : AreThere reads writes pipes count after
    pub given : ℕ → List ℕ
    pub failed : ℕ → Bool
    pub sources : (place : ℕ) (old : S) → object_at before place ≡ objects.Source old
        → (new : S) × (object_at after place ≡ objects.Source new)
        × WereRead (reads old) (reads new) (given place) (length (given place))
        × CountsWhere (failed place) (reads old).faults (reads new).faults
    pub within : (place : ℕ) (pipe : Pipe) → slice_get pipes place ≡ Some pipe → GaveWithin pipes (ways_given given failed) place pipe.kind
    pub sinks : (place : ℕ) (pipe : Pipe) (old : K) → slice_get pipes place ≡ Some pipe
        → object_at before place ≡ objects.Sink old → (new : K) × (object_at after place ≡ objects.Sink new)
        × IsSameSink (writes old) (writes new) × ((writes old).faults ≤ (writes new).faults)
        × ((bytes : ℕ → List ℕ)
        → ((source : ℕ) (s : S) → object_at before source ≡ objects.Source s
        → (reads s).left ≡ Some (bytes source))
        → (put : List ℕ) × Appends (writes old).written (writes new).written put
        × IsPrefix put (sink_bytes pipes (source_flows pipes bytes) pipe))

  -- where all were opened
  pub left_carried : (count : ℕ) (before after : List (Object S K)) → count ≡ length (path_places pipes)
      → CarriedShort reads writes pipes before after → LeftOpen count before after
  left_carried count before after all short = record {
    there = subst (λ (n : ℕ). AreThere reads writes pipes n after) (sym all) short.there;
    given = short.given;
    failed = short.failed;
    sources = short.sources;
    within = short.within;
    sinks = short.sinks;
  }

  -- where nothing was carried
  pub left_alone : (count : ℕ) (table : List (Object S K)) → AreThere reads writes pipes count table → LeftOpen count table table
  left_alone count table there = record {
    there = there;
    given = λ other. [];
    failed = λ other. false;
    sources = λ place old is. (
      old,
      is,
      record { bytes_of = Consumes-nil (reads old).left; sum = summed_none (reads old).moved 0 refl; place = refl },
      record { later = omega arith; rose = λ fails. absurd (true≢false (sym fails)); stays = λ fails. refl },
    );
    within = λ place pipe is. none_within pipes place pipe.kind;
    sinks = λ place pipe old there is. (
      old,
      is,
      record { place = refl; sum = same_sum (writes old).moved },
      omega arith,
      λ bytes all. ([], Appends-nil (writes old).written, (sink_bytes pipes (source_flows pipes bytes) pipe, refl)),
    );
  }

  module _ (count : ℕ) (before after : List (Object S K)) (there : AreThere reads writes pipes count before) (left : LeftOpen count before after) where
    place_as : (place : ℕ) (pipe : Pipe) (object : Object S K) → slice_get pipes place ≡ Some pipe → object_at before place ≡ object
        → IsOfKind pipe.kind object → place_told reads writes (object_at after place) ≡ place_told reads writes object
    place_as place pipe objects.None stands is side = absurd side
    place_as place pipe (objects.Source s) stands is side =
        let now = left.sources place s is in
        ap (place_told reads writes) now.1 ∙ now.2.place
    place_as place pipe (objects.Sink k) stands is side =
        let now = left.sinks place pipe k stands is in
        ap (place_told reads writes) now.1 ∙ now.2.place

    index_as : (place : ℕ) (pipe : Pipe) (index : Option ℕ) → slice_get pipes place ≡ Some pipe → StandsAt index pipe.kind (object_at before place)
        → StandsAt index pipe.kind (object_at after place) → place_told reads writes (object_at after place) ≡ place_told reads writes (object_at before place)
    index_as place pipe None stands was now = rw (was, now) refl
    index_as place pipe (Some i) stands was now = place_as place pipe (object_at before place) stands refl was

    -- each has the entry that it had
    pub place_same : (place : ℕ) → place_told reads writes (object_at after place) ≡ place_told reads writes (object_at before place)
    place_same place =
        let size = there.size in
        let size_left = left.there.size in
        elim (slice_get_cases pipes place).1 [
          | inl stands ↦
              index_as place stands.0 (index_of pipes count place) stands.2 (there.kinds place stands.0 stands.2) (left.there.kinds place stands.0 stands.2)
          | inr past ↦
              rw (get_or_past before place objects.None (omega (arith, size, past.0)), get_or_past after place objects.None (omega (arith, size_left, past.0))) refl
        ]
