-- What the strands of a graph carried, by its pipes and by what each source and sink tells before
-- and after.
use Rattle.std.specs.Prelude.{◌≡◌, ◌≢◌, ℕ, ◌+◌, ◌≤◌, ◌<◌, List, length, map, sum, min, slice_get, slice_index_or, Bool, true, false, Some, None}
use Rattle.std.specs.Io.KnownBytes.{Appends, IsAtEnd}
use Rattle.std.specs.List.{filter}
use Rattle.up_base.specs.Lists.{IsPrefix}
use Rattle.up_engine.specs.Entries.{path_places}
use Rattle.up_engine.specs.Objects.{AreThere, object_at}
use Rattle.up_engine.specs.Runs.{GaveWithin, Ways, carried, due_at, ending}
use Rattle.up_engine.specs.declared.object.Object.{Object}
use Rattle.up_engine.specs.declared.object.Object.TheVariants as objects
use Rattle.up_engine.specs.declared.results.Results.{Results}
use Rattle.up_model.specs.Ends.{is_source}
use Rattle.up_model.specs.Inputs.{ends_at_source, passes_at, places}
use Rattle.up_model.specs.Meaning.{sink_bytes, tally_of}
use Rattle.up_model.specs.Outcomes.{shown_of, source_flows}
use Rattle.up_model.specs.Packet.{count_with_bytes}
use Rattle.up_model.specs.Tallies.{greatest_sum}
use Rattle.up_model.specs.declared.outcome.Outcome.{Outcome}
use Rattle.up_model.specs.declared.outcome.Outcome.TheVariants as outcomes
use Rattle.up_model.specs.declared.pipe.Pipe.{Pipe}
use Rattle.up_model.specs.declared.tally.Tally.{Tally}
use Rattle.up_outside.specs.Counts.{CountsWhere}
use Rattle.up_outside.specs.States.{SourceState, SinkState}
use Rattle.up_shape.specs.Stores.{StoreState}
use Rattle.up_strand.specs.Reads.{WereRead}
use Rattle.up_strand.specs.Writing.{IsSameSink}

-- no outcome tells of want of memory
abbrev pub NoneIsShort : List Pipe → Results → Type 0
NoneIsShort pipes results = (place : ℕ) (d : Outcome) → place < length pipes
    → slice_index_or results.outcomes.items place d ≢ outcomes.NoMemory

module _ {S K : Type 0} (reads : S → SourceState) (writes : K → SinkState) (pipes : List Pipe)
    (before after : List (Object S K)) where
  abbrev pub was : ℕ → Object S K
  was place = object_at before place

  abbrev pub is_now : ℕ → Object S K
  is_now place = object_at after place

  module _ (ways : Ways) where
    -- the source gave these bytes; and all where no read failed and they show no outcome whatever
    -- comes behind them
    pub record SourceGave (place : ℕ) (pipe : Pipe) (old new : S) : Type 0 where
      pub took : WereRead (reads old) (reads new) (ways.given place) (length (ways.given place))
      pub faults : CountsWhere (ways.failed place) (reads old).faults (reads new).faults
      pub all : ways.failed place ≡ false → shown_of pipe.kind (ways.given place) ≡ None
          → IsAtEnd (reads new).left
      pub within : GaveWithin pipes ways place pipe.kind

    -- the sink was given what is due to it, or the first of that where a write failed
    pub record SinkTook (place : ℕ) (pipe : Pipe) (old new : K) : Type 0 where
      pub put : List ℕ
      pub appended : Appends (writes old).written (writes new).written put
      pub first : IsPrefix put (due_at pipes ways place pipe)
      pub all : ways.failed place ≡ false → put ≡ due_at pipes ways place pipe
      pub faults : CountsWhere (ways.failed place) (writes old).faults (writes new).faults
      pub same : IsSameSink (writes old) (writes new)

    -- unless memory ran out, which an outcome tells: how each pipe ended, what it counted, and what
    -- was drawn of the store
    pub record CarriedBy {F : Type 0} (results : Results)
        (store_before store_after : StoreState F) : Type 0 where
      pub sources : (place : ℕ) (pipe : Pipe) (old : S) → slice_get pipes place ≡ Some pipe
          → was place ≡ objects.Source old
          → (new : S) × (is_now place ≡ objects.Source new) × SourceGave place pipe old new
      pub sinks : (place : ℕ) (pipe : Pipe) (old : K) → slice_get pipes place ≡ Some pipe
          → was place ≡ objects.Sink old
          → (new : K) × (is_now place ≡ objects.Sink new) × SinkTook place pipe old new
      pub ends : (place : ℕ) (d : Outcome) → place < length pipes
          → slice_index_or results.outcomes.items place d ≡ ending pipes ways place
      pub put : (place : ℕ) (pipe : Pipe) (d : Tally) → slice_get pipes place ≡ Some pipe
          → is_source pipe.kind ≡ true → (slice_index_or results.tallies.items place d).put
          ≡ min (length (carried pipes ways place)) greatest_sum
      pub sums : ((place : ℕ) → place < length pipes → ending pipes ways place ≡ outcomes.Whole)
          → results.tallies.items ≡ map (tally_of pipes (carried pipes ways)) (places pipes)
      pub drawn : store_before.drawn + sum (map (λ place. count_with_bytes (carried pipes ways place))
          (filter (passes_at ends_at_source pipes) (places pipes))) ≤ store_after.drawn

  abbrev pub CarriedThrough : {F : Type 0} → Results → StoreState F → StoreState F → Type 0
  CarriedThrough results store_before store_after =
      NoneIsShort pipes results → (ways : Ways) × CarriedBy ways results store_before store_after

  -- whatever became of memory: the bytes that each source gave are the first of those that were
  -- left of it, at some a read failed, and each sink was given the first of its meaning over
  -- whatever all of those are
  pub record CarriedShort : Type 0 where
    pub there : AreThere reads writes pipes (length (path_places pipes)) after
    pub given : ℕ → List ℕ
    pub failed : ℕ → Bool
    pub sources : (place : ℕ) (old : S) → was place ≡ objects.Source old
        → (new : S) × (is_now place ≡ objects.Source new)
        × WereRead (reads old) (reads new) (given place) (length (given place))
        × CountsWhere (failed place) (reads old).faults (reads new).faults
    pub within : (place : ℕ) (pipe : Pipe) → slice_get pipes place ≡ Some pipe
        → GaveWithin pipes (record { given = given; failed = failed; shut = λ other. true })
        place pipe.kind
    pub sinks : (place : ℕ) (pipe : Pipe) (old : K) → slice_get pipes place ≡ Some pipe
        → was place ≡ objects.Sink old → (new : K) × (is_now place ≡ objects.Sink new)
        × IsSameSink (writes old) (writes new) × ((writes old).faults ≤ (writes new).faults)
        × ((bytes : ℕ → List ℕ)
        → ((source : ℕ) (s : S) → was source ≡ objects.Source s
        → (reads s).left ≡ Some (bytes source))
        → (put : List ℕ) × Appends (writes old).written (writes new).written put
        × IsPrefix put (sink_bytes pipes (source_flows pipes bytes) pipe))
