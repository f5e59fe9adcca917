-- What a whole run leaves: each sink's path has the bytes that the graph gives it, by what the sources' paths had.
use Rattle.std.specs.Prelude.{◌≡◌, ℕ, List, slice_get, Some}
use Rattle.std.specs.FinMap.{get}
use Rattle.up_engine.specs.Runs.{held_bytes}
use Rattle.up_model.specs.Meaning.{sink_bytes}
use Rattle.up_model.specs.Outcomes.{outcome_of, source_flows}
use Rattle.up_model.specs.declared.kind.Kind.{Kind}
use Rattle.up_model.specs.declared.kind.Kind.TheVariants.{Source, Sink}
use Rattle.up_model.specs.declared.outcome.Outcome.TheVariants.{Whole}
use Rattle.up_model.specs.declared.pipe.Pipe.{Pipe}
use Rattle.up_outside.specs.Held.{Held}
use Rattle.upipe_run.specs.OfGraph.{IsOfGraph}

-- a source's path is held, and its bytes are within its limit
abbrev pub IsWholeSource : Held → Kind → Type 0
IsWholeSource held (Source path form limit) =
    (bytes : List ℕ) × (get held path ≡ Some bytes)
    × (outcome_of (Source path form limit) bytes ≡ Whole)
IsWholeSource held kind = Unit {0}

-- a sink's path has these bytes
abbrev pub IsWholeSink : Held → List ℕ → Kind → Type 0
IsWholeSink held wanted (Sink path form) = get held path ≡ Some wanted
IsWholeSink held wanted kind = Unit {0}

-- the bytes that the graph gives a sink, where each source counts with all of the bytes at its path
abbrev pub meant_bytes : Held → List Pipe → Pipe → List ℕ
meant_bytes held pipes sink = sink_bytes pipes (source_flows pipes (held_bytes held pipes)) sink

-- every source's outcome is whole, and every sink's path has all its bytes
pub record IsWholeOutput (before after : Held) (pipes : List Pipe) : Type 0 where
  pub sources : (place : ℕ) (pipe : Pipe) → slice_get pipes place ≡ Some pipe
      → IsWholeSource before pipe.kind
  pub sinks : (place : ℕ) (pipe : Pipe) → slice_get pipes place ≡ Some pipe
      → IsWholeSink after (meant_bytes before pipes pipe) pipe.kind

-- the text at the path has a graph, whose output is whole
abbrev pub RanWhole : List ℕ → Held → Held → Type 0
RanWhole path before after =
    IsOfGraph before path (λ graph. IsWholeOutput before after graph.pipes)

-- the text at the path has a graph, and every source of it is whole
abbrev pub CanComplete : Held → List ℕ → Type 0
CanComplete before path = IsOfGraph before path (λ graph.
    (place : ℕ) (pipe : Pipe) → slice_get graph.pipes place ≡ Some pipe
    → IsWholeSource before pipe.kind)
