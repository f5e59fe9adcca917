-- The first source of a graph whose bytes aren't whole, and what a run tells of it.
use Rattle.std.specs.Prelude.{◌≡◌, ◌⊎◌, ℕ, ◌<◌, ◌≤◌, List, slice_get, Bool, true, false, Some}
use Rattle.std.specs.FinMap.{get}
use Rattle.up_model.specs.Outcomes.{outcome_of}
use Rattle.up_model.specs.declared.graph.Graph.{Graph}
use Rattle.up_model.specs.declared.kind.Kind.{Kind}
use Rattle.up_model.specs.declared.kind.Kind.TheVariants.{Source}
use Rattle.up_model.specs.declared.outcome.Outcome.{Outcome}
use Rattle.up_model.specs.declared.pipe.Pipe.{Pipe}
use Rattle.up_outside.specs.Counts.{Rose}
use Rattle.up_outside.specs.Held.{Held}
use Rattle.up_outside.specs.declared.asked.Entry.{Entry}
use Rattle.up_outside.specs.declared.asked.Mark.{Mark}
use Rattle.up_outside.specs.declared.asked.Mark.TheVariants.{Refused, Open, Closed}
use Rattle.up_report.specs.Lines.{fault_bytes}
use Rattle.up_report.specs.declared.fault.Fault.{Fault}
use Rattle.upipe_run.specs.Laws.{OpensAll}
use Rattle.upipe_run.specs.OfGraph.{IsOfGraph, OfGraph}
use Rattle.upipe_run.specs.Seen.{Seen}
use Rattle.upipe_run.specs.Tells.{WritesLine}
use Rattle.upipe_run.specs.WholeOutput.{IsWholeSource}

-- all bytes at a source's path have this outcome; a pipe that is no source has no bytes of its own
abbrev pub HasOutcome : Held → Kind → Outcome → Type 0
HasOutcome held (Source path form limit) outcome =
    (bytes : List ℕ) × (get held path ≡ Some bytes)
    × (outcome_of (Source path form limit) bytes ≡ outcome)
HasOutcome held kind outcome = ⊥

-- the bytes of the source at a place have this outcome, and every source before it in the file is whole
pub record ComesFirst (before : Held) (pipes : List Pipe) (place : ℕ) (pipe : Pipe)
    (outcome : Outcome) : Type 0 where
  pub stands : slice_get pipes place ≡ Some pipe
  pub source : HasOutcome before pipe.kind outcome
  pub earlier : (other : ℕ) (one : Pipe) → other < place → slice_get pipes other ≡ Some one
      → IsWholeSource before one.kind

-- the outcome has a number, and so has the fault that tells it
module _ (outcome : ℕ → Outcome) (fault : List ℕ → ℕ → Fault) (old new : Seen) where
  -- the line is that of the source that comes first with the outcome, or its first bytes where the sink failed
  pub record TellsFirst (before : Held) (graph : Graph) : Type 0 where
    pub place : ℕ
    pub pipe : Pipe
    pub number : ℕ
    pub first : ComesFirst before graph.pipes place pipe (outcome number)
    pub line : WritesLine old.err new.err (fault_bytes (fault pipe.name number))

  -- so it is of the graph at the path
  abbrev pub TellsFirstAt : List ℕ → Held → Type 0
  TellsFirstAt path before = IsOfGraph before path (TellsFirst before)

-- where a source of the graph at the path comes first with the outcome, and no count rose, the status is this, or memory
-- ran out
abbrev pub IsAnswered : (ℕ → Outcome) → ℕ → List ℕ → Seen → Seen → ℕ → Held → Type 0
IsAnswered outcome wanted path old new status before = OfGraph before path (λ graph.
    (place number : ℕ) (pipe : Pipe) → ComesFirst before graph.pipes place pipe (outcome number)
    → (Rose old.depot.source_faults new.depot.source_faults → ⊥)
    → (Rose old.depot.sink_faults new.depot.sink_faults → ⊥)
    → (status ≡ wanted) ⊎ (status ≡ 7))

-- a call on it failed, or it isn't closed
abbrev pub has_failed : Mark → Bool
has_failed Refused = true
has_failed Open = true
has_failed (Closed moved failed shut) = failed

-- all paths of a graph were opened, and no call failed on the graph file or on a pipe up to this place
pub record IsCleanUpTo (path : List ℕ) (pipes : List Pipe) (place : ℕ) (before after : List Entry)
    : Type 0 where
  pub opens : OpensAll path pipes before after
  pub file : has_failed opens.first ≡ false
  pub clean : (other : ℕ) → other ≤ place → has_failed (opens.marks other) ≡ false

-- where a source of the graph at the path comes first with the outcome, and no call failed up to it, whatever failed behind it,
-- the status is this, or memory ran out
abbrev pub IsAnsweredFirst : (ℕ → Outcome) → ℕ → List ℕ → List Entry → List Entry → ℕ
    → Held → Type 0
IsAnsweredFirst outcome wanted path asked after status before = OfGraph before path (λ graph.
    (place number : ℕ) (pipe : Pipe) → ComesFirst before graph.pipes place pipe (outcome number)
    → IsCleanUpTo path graph.pipes place asked after → (status ≡ wanted) ⊎ (status ≡ 7))
