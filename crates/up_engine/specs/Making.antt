-- The strands of a graph, made of what was opened, and given up at the end.
use Rattle.std.specs.Prelude.{◌≡◌, ℕ, List, length, slice_get, slice_index_or, true, false, Option, Some, None}
use Rattle.std.specs.List.{Contains}
use Rattle.up_engine.specs.Objects.{object_at}
use Rattle.up_engine.specs.declared.object.Object.{Object}
use Rattle.up_engine.specs.declared.object.Object.TheVariants as objects
use Rattle.up_engine.specs.declared.results.Results.{Results}
use Rattle.up_model.specs.Ends.{is_sink, is_source}
use Rattle.up_model.specs.Plans.{heads, sinks_of, strand_of}
use Rattle.up_model.specs.declared.outcome.Outcome.{Outcome}
use Rattle.up_model.specs.declared.pipe.Pipe.{Pipe}
use Rattle.up_model.specs.declared.tally.Tally.{Tally}
use Rattle.up_outside.specs.States.{SourceState, SinkState}
use Rattle.up_strand.specs.History.{History, sums_at, told_at}
use Rattle.up_strand.specs.StrandCalls.{SinkEnds, SourceEnds, begun}

module _ {S K : Type 0} (reads : S → SourceState) (writes : K → SinkState) (pipes : List Pipe) where
  -- what the source at a place told
  abbrev pub source_told : Object S K → Option SourceState
  source_told objects.None = None
  source_told (objects.Source s) = Some (reads s)
  source_told (objects.Sink k) = None

  -- the strand of the head did nothing yet, and has what was opened for it
  pub record BeginsWith (table : List (Object S K)) (head : ℕ) (h : History) : Type 0 where
    pub told : ℕ → SinkState
    pub begins : h ≡ begun pipes head (source_told (object_at table head)) told
    pub sinks : (place : ℕ) (k : K) → Contains (sinks_of pipes head) place
        → object_at table place ≡ objects.Sink k → told place ≡ writes k

  abbrev pub AllBegin : List (Object S K) → (ℕ → History) → Type 0
  AllBegin table past =
      (head : ℕ) → Contains (heads pipes) head → BeginsWith table head (past head)

  -- the object of a pipe, as the strand left it
  abbrev pub IsBack : History → ℕ → Pipe → Object S K → Type 0
  IsBack h place pipe objects.None = (is_source pipe.kind ≡ false) × (is_sink pipe.kind ≡ false)
  IsBack h place pipe (objects.Source s) =
      (place ≡ h.head) × (is_source pipe.kind ≡ true) × SourceEnds h (reads s)
  IsBack h place pipe (objects.Sink k) =
      (is_sink pipe.kind ≡ true) × SinkEnds h place pipe (writes k)

  -- all objects stand in the table again
  pub record AreBack (past : ℕ → History) (table : List (Object S K)) : Type 0 where
    pub size : length table ≡ length pipes
    pub each : (head place : ℕ) (pipe : Pipe) → Contains (heads pipes) head
        → Contains (strand_of pipes head) place → slice_get pipes place ≡ Some pipe
        → IsBack (past head) place pipe (object_at table place)

-- how each pipe ended and what it counted, by its place, where its strand was done
pub record AreTold (pipes : List Pipe) (past : ℕ → History) (results : Results) : Type 0 where
  pub outcome_count : length results.outcomes.items ≡ length pipes
  pub tally_count : length results.tallies.items ≡ length pipes
  pub outcomes : (head place : ℕ) (d : Outcome) → Contains (heads pipes) head
      → Contains (strand_of pipes head) place
      → slice_index_or results.outcomes.items place d ≡ told_at (past head) place
  pub tallies : (head place : ℕ) (d : Tally) → Contains (heads pipes) head
      → Contains (strand_of pipes head) place → (past head).short ≡ false
      → slice_index_or results.tallies.items place d ≡ sums_at (past head) place
