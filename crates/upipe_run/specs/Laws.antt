-- What follows of a run.
use Rattle.std.specs.Prelude.{◌≡◌, ◌⊎◌, ℕ, List, ◌∷◌, ◌++◌, map, slice_get, Bool, true, false, Some}
use Rattle.std.specs.FinMap.{get}
use Rattle.std.specs.List.{Contains}
use Rattle.up_base.specs.Lists.{IsPrefix}
use Rattle.up_engine.specs.Entries.{entries_at, path_places}
use Rattle.up_engine.specs.declared.run_outcome.RunOutcome.{RunOutcome}
use Rattle.up_engine.specs.declared.run_outcome.RunOutcome.TheVariants as runs
use Rattle.up_model.specs.Ends.{is_sink, path_of}
use Rattle.up_model.specs.Inputs.{places}
use Rattle.up_model.specs.declared.outcome.Outcome.TheVariants as outcomes
use Rattle.up_model.specs.declared.pipe.Pipe.{Pipe}
use Rattle.up_outside.specs.Asked.{entry}
use Rattle.up_outside.specs.Counts.{Rose}
use Rattle.up_outside.specs.Held.{Held}
use Rattle.up_outside.specs.States.{DepotState}
use Rattle.up_outside.specs.Told.{Then}
use Rattle.up_outside.specs.declared.asked.Entry.{Entry}
use Rattle.up_outside.specs.declared.asked.Mark.{Mark}
use Rattle.up_outside.specs.declared.asked.Mark.TheVariants.{Refused, Open, Closed}
use Rattle.up_outside.specs.declared.asked.Side.TheVariants.{Source, Sink}
use Rattle.upipe_run.specs.OfGraph.{OfGraph, WithoutGraph}
use Rattle.upipe_run.specs.Runs.{RanFile}
use Rattle.upipe_run.specs.Seen.{Seen}
use Rattle.upipe_run.specs.WholeOutput.{CanComplete, meant_bytes}
use Rattle.upipe_run.specs.declared.ending.Ending.TheVariants.{Whole}

-- 0 whole, 3 no graph, 4 a read fault, 5 a write fault, 6 a bad frame, 7 want of memory, 8 a source that is too long
abbrev pub IsRunStatus : ℕ → Type 0
IsRunStatus status =
    (status ≡ 0) ⊎ ((status ≡ 3) ⊎ ((status ≡ 4) ⊎ ((status ≡ 5) ⊎ ((status ≡ 6)
    ⊎ ((status ≡ 7) ⊎ (status ≡ 8))))))

-- where the text at the path has no graph, the status is 3, that of a read fault, or that of want of memory
abbrev pub SettlesStatus : List ℕ → ℕ → Held → Type 0
SettlesStatus path status before =
    WithoutGraph before path ((status ≡ 3) ⊎ ((status ≡ 4) ⊎ (status ≡ 7)))

-- where every source is whole and no count rose, the run is whole, or memory ran out
abbrev pub Completes : List ℕ → Seen → Seen → ℕ → Held → Type 0
Completes path old new status before =
    CanComplete before path → (Rose old.depot.source_faults new.depot.source_faults → ⊥)
    → (Rose old.depot.sink_faults new.depot.sink_faults → ⊥) → (status ≡ 0) ⊎ (status ≡ 7)

-- it was opened and closed
abbrev pub is_closed : Mark → Bool
is_closed Refused = false
is_closed Open = false
is_closed (Closed moved failed shut) = true

-- the graph file was opened, and behind it every path of the graph, in order; all are closed
pub record OpensAll (path : List ℕ) (pipes : List Pipe) (before after : List Entry) : Type 0 where
  pub first : Mark
  pub marks : ℕ → Mark
  pub told : after ≡ before
      ++ entry path Source first ∷ entries_at pipes marks (path_places pipes)
  pub file_closed : is_closed first ≡ true
  pub all_closed : (place : ℕ) → is_closed (marks place) ≡ true

-- so of the graph at the path
abbrev pub AsksAll : List ℕ → Held → List Entry → List Entry → Type 0
AsksAll path held before after =
    OfGraph held path (λ graph. OpensAll path graph.pipes before after)

-- each pipe came to a whole end
abbrev pub AreWhole : List Pipe → RunOutcome → Type 0
AreWhole pipes (runs.Ended ends tallies) = ends ≡ map (λ place. outcomes.Whole) (places pipes)
AreWhole pipes runs.NoMemory = ⊥

-- the graph file was opened, and behind it every path of the graph, in order; each was closed, and no call on it failed
pub record ClosesAll (path : List ℕ) (pipes : List Pipe) (before after : List Entry) : Type 0 where
  pub read : ℕ
  pub moved : ℕ → ℕ
  pub told : after ≡ before ++ entry path Source (Closed read false true)
      ∷ entries_at pipes (λ place. Closed (moved place) false true) (path_places pipes)

-- the graph at the path ran, each of its pipes to a whole end, and nothing that was asked for failed
pub record RanClean (path : List ℕ) (old new : DepotState) : Type 0 where
  pub ran : RanFile path old new Whole
  pub ended : AreWhole ran.graph.pipes ran.outcome
  pub closed : Then (ClosesAll path ran.graph.pipes) old.asked new.asked
  pub sources : new.source_faults ≡ old.source_faults
  pub sinks : new.sink_faults ≡ old.sink_faults

-- a sink is on this path, where the first of the bytes lie that it is to hold by all bytes of the sources' paths
pub record LiesFirst (pipes : List Pipe) (before after : Held) (path : List ℕ) : Type 0 where
  pub place : ℕ
  pub pipe : Pipe
  pub stands : slice_get pipes place ≡ Some pipe
  pub sink : is_sink pipe.kind ≡ true
  pub on_path : path_of pipe.kind ≡ Some path
  pub bytes : List ℕ
  pub held : get after path ≡ Some bytes
  pub first : IsPrefix bytes (meant_bytes before pipes pipe)

-- so it is of each path that is told by these entries to be a sink's, closed with an Ok close
abbrev pub LeavesFirst : List ℕ → Held → Held → List Entry → Type 0
LeavesFirst path before after added = OfGraph before path (λ graph.
    (other : List ℕ) (moved : ℕ) (failed : Bool)
    → Contains added (entry other Sink (Closed moved failed true))
    → LiesFirst graph.pipes before after other)
