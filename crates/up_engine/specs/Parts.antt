-- What is open for the pipes of one strand: taken out of the table for it, and put back into the
-- table.
use Rattle.std.specs.Prelude.{◌≡◌, ℕ, ◌<◌, List, [], ◌∷◌, length, slice_get, slice_index_or, Bool, true, false, Option, Some, None}
use Rattle.std.specs.List.{Contains, flat_map}
use Rattle.up_engine.specs.Making.{IsBack}
use Rattle.up_engine.specs.Objects.{object_at}
use Rattle.up_engine.specs.declared.object.Object.{Object}
use Rattle.up_engine.specs.declared.object.Object.TheVariants as objects
use Rattle.up_engine.specs.declared.results.Results.{Results}
use Rattle.up_model.specs.Ends.{is_sink, is_source}
use Rattle.up_model.specs.Inputs.{ends_at_source, passes_at}
use Rattle.up_model.specs.Plans.{ends_at_sink, strand_of}
use Rattle.up_model.specs.declared.kind.Kind.{Kind}
use Rattle.up_model.specs.declared.outcome.Outcome.{Outcome}
use Rattle.up_model.specs.declared.pipe.Pipe.{Pipe}
use Rattle.up_model.specs.declared.tally.Tally.{Tally}
use Rattle.up_outside.specs.States.{SourceState, SinkState}
use Rattle.up_strand.specs.History.{History}
use Rattle.up_strand.specs.declared.strand_end.StrandParts.{StrandParts}

-- no place stands twice
abbrev pub AreApart : List ℕ → Type 0
AreApart places = (a b : ℕ) → a < length places → b < length places
    → slice_index_or places a 0 ≡ slice_index_or places b 0 → a ≡ b

-- these are the places of a strand of the graph, of which none but the head is a source
pub record IsStrandOf (pipes : List Pipe) (head : ℕ) (places : List ℕ) : Type 0 where
  pub within : (k : ℕ) → k < length places → slice_index_or places k 0 < length pipes
  pub apart : AreApart places
  pub has_head : Contains places head
  pub one_source : (place : ℕ) → Contains places place
      → passes_at ends_at_source pipes place ≡ true → place ≡ head

module _ {S K : Type 0} where
  abbrev pub source_in : Object S K → Option S
  source_in objects.None = None
  source_in (objects.Source s) = Some s
  source_in (objects.Sink k) = None

  abbrev pub sinks_in : Object S K → List K
  sinks_in objects.None = []
  sinks_in (objects.Source s) = []
  sinks_in (objects.Sink k) = k ∷ []

  -- the sinks at these places, in their order
  abbrev pub sinks_at : List (Object S K) → List ℕ → List K
  sinks_at table places = flat_map (λ place. sinks_in (object_at table place)) places

  -- what stands at a place once its source was taken out
  abbrev pub without_source : Object S K → Object S K
  without_source objects.None = objects.None
  without_source (objects.Source s) = objects.None
  without_source (objects.Sink k) = objects.Sink k

  -- and once its sink was
  abbrev pub without_sink : Object S K → Object S K
  without_sink objects.None = objects.None
  without_sink (objects.Source s) = objects.Source s
  without_sink (objects.Sink k) = objects.None

  -- a pipe of this kind has such an end, and one without an end has none
  abbrev pub IsEndOf : Kind → Object S K → Type 0
  IsEndOf kind objects.None = (is_source kind ≡ false) × (is_sink kind ≡ false)
  IsEndOf kind (objects.Source s) = is_source kind ≡ true
  IsEndOf kind (objects.Sink k) = is_sink kind ≡ true

  -- the sinks at these places were taken out of the table
  pub record SinksTaken (places : List ℕ) (before after : List (Object S K)) : Type 0 where
    pub size : length after ≡ length before
    pub here : (k : ℕ) → k < length places
        → object_at after (slice_index_or places k 0)
        ≡ without_sink (object_at before (slice_index_or places k 0))
    pub others : (place : ℕ) → (Contains places place → ⊥)
        → object_at after place ≡ object_at before place

  -- a sink was put into the place, where a sink is to stand there
  pub record PutsNext (is_here : Bool) (place : ℕ) (before after : List (Object S K))
      (sinks rest : List K) : Type 0 where
    pub sink : is_here ≡ true → (k : K) × (object_at after place ≡ objects.Sink k)
        × (sinks ≡ k ∷ rest)
    pub none : is_here ≡ false → (object_at after place ≡ object_at before place)
        × (rest ≡ sinks)
    pub size : length after ≡ length before
    pub others : (other : ℕ) → (other ≡ place → ⊥)
        → object_at after other ≡ object_at before other

  -- a sink stands there, and the same as before where no sink is to stand
  abbrev pub HasSinkWhere : Bool → Object S K → Object S K → Type 0
  HasSinkWhere true before after = (k : K) × (after ≡ objects.Sink k)
  HasSinkWhere false before after = after ≡ before

  -- these sinks were put into the table, at those of the places that are for one
  pub record SinksPut (pipes : List Pipe) (places : List ℕ) (before after : List (Object S K))
      (sinks : List K) : Type 0 where
    pub are : sinks ≡ sinks_at after places
    pub size : length after ≡ length before
    pub here : (k : ℕ) → k < length places
        → HasSinkWhere (passes_at ends_at_sink pipes (slice_index_or places k 0))
        (object_at before (slice_index_or places k 0))
        (object_at after (slice_index_or places k 0))
    pub others : (place : ℕ) → (Contains places place → ⊥)
        → object_at after place ≡ object_at before place

  module _ (places : List ℕ) where
    -- nothing stands at these places
    abbrev pub HasNone : List (Object S K) → Type 0
    HasNone table = (place : ℕ) → Contains places place → object_at table place ≡ objects.None

    -- what each of the pipes there is to have stands there
    abbrev pub HasEnds : List Pipe → List (Object S K) → Type 0
    HasEnds pipes table = (place : ℕ) (pipe : Pipe) → Contains places place
        → slice_get pipes place ≡ Some pipe → IsEndOf pipe.kind (object_at table place)

    -- what stands elsewhere is the same
    pub record KeepsOthers (before after : List (Object S K)) : Type 0 where
      pub size : length after ≡ length before
      pub same : (place : ℕ) → (Contains places place → ⊥)
          → object_at after place ≡ object_at before place

    module _ (head : ℕ) where
      -- they are what stands in the table for the strand of this head, which has these places
      pub record ArePartsOf (table : List (Object S K)) (parts : StrandParts S K)
          : Type 0 where
        pub source : parts.source ≡ source_in (object_at table head)
        pub sinks : parts.sinks ≡ sinks_at table places

      -- all that is the strand's was taken out
      pub record TakesParts (before after : List (Object S K)) (parts : StrandParts S K)
          : Type 0 where
        pub are : ArePartsOf before parts
        pub none : HasNone after
        pub others : KeepsOthers before after

      -- all that is the strand's was put in
      pub record PutsParts (pipes : List Pipe) (before after : List (Object S K))
          (parts : StrandParts S K) : Type 0 where
        pub are : ArePartsOf after parts
        pub ends : HasEnds pipes after
        pub others : KeepsOthers before after

-- what a strand had stands in the table again, as the strand left it
pub record IsPutBack {S K : Type 0} (reads : S → SourceState) (writes : K → SinkState)
    (pipes : List Pipe) (h : History) (before after : List (Object S K)) : Type 0 where
  pub back : (place : ℕ) (pipe : Pipe) → Contains (strand_of pipes h.head) place
      → slice_get pipes place ≡ Some pipe
      → IsBack reads writes pipes h place pipe (object_at after place)
  pub others : KeepsOthers (strand_of pipes h.head) before after

-- how the pipes at these places ended and what they counted is told, and of others what was
pub record TellsOf (places : List ℕ) (outcomes : List Outcome) (tallies : List Tally)
    (before after : Results) : Type 0 where
  pub outcome_count : length after.outcomes.items ≡ length before.outcomes.items
  pub tally_count : length after.tallies.items ≡ length before.tallies.items
  pub outcomes_here : (k : ℕ) (d : Outcome) → k < length places
      → slice_index_or after.outcomes.items (slice_index_or places k 0) d
      ≡ slice_index_or outcomes k d
  pub tallies_here : (k : ℕ) (d : Tally) → k < length places
      → slice_index_or after.tallies.items (slice_index_or places k 0) d
      ≡ slice_index_or tallies k d
  pub outcome_others : (place : ℕ) (d : Outcome) → (Contains places place → ⊥)
      → slice_index_or after.outcomes.items place d
      ≡ slice_index_or before.outcomes.items place d
  pub tally_others : (place : ℕ) (d : Tally) → (Contains places place → ⊥)
      → slice_index_or after.tallies.items place d
      ≡ slice_index_or before.tallies.items place d
