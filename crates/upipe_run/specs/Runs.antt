-- What the program does for its words.
use Rattle.std.specs.Prelude.{◌≡◌, ◌⊎◌, ◌+◌, ℕ, List, Option, Some, None, IfSome, Result, Ok, Err}
use Rattle.std.specs.FinMap.{get}
use Rattle.up_base.specs.declared.refusal.Refusal.{Refusal}
use Rattle.up_base.specs.declared.refusal.Refusal.TheVariants as refusals
use Rattle.up_engine.specs.Entries as of_pipes
use Rattle.up_engine.specs.Runs.{RanGraph}
use Rattle.up_engine.specs.declared.run_outcome.RunOutcome.{RunOutcome}
use Rattle.up_graph.specs.Graph.{graph_of}
use Rattle.up_graph.specs.declared.graph_refused.GraphRefused.{GraphRefused}
use Rattle.up_graph.specs.declared.graph_refused.GraphRefused.TheVariants as graphs
use Rattle.up_model.specs.WellFormed.{IsWellFormed}
use Rattle.up_model.specs.declared.graph.Graph.{Graph}
use Rattle.up_model.specs.declared.limits.TheConstants.{MAX_GRAPH}
use Rattle.up_outside.specs.Counts.{is_failed}
use Rattle.up_outside.specs.DepotCalls.{CountsFaults}
use Rattle.up_outside.specs.Held.{Held}
use Rattle.up_outside.specs.States.{DepotState}
use Rattle.up_outside.specs.Told.{Then}
use Rattle.up_outside.specs.declared.asked.Side.TheVariants.{Source as OfSource}
use Rattle.up_report.specs.declared.fault.Fault.TheVariants.{Usage, Graph as OfGraphFile, ReadGraph, Read, Write, WriteReport, BadFrame, TooLong}
use Rattle.up_shape.specs.Stores.{StoreState}
use Rattle.up_words.specs.declared.job.Job.{Job}
use Rattle.up_words.specs.declared.job.Job.TheVariants.{Run}
use Rattle.upipe_run.specs.Endings.{IsOfText, ending_of}
use Rattle.upipe_run.specs.GraphText.{AsksText}
use Rattle.upipe_run.specs.OfGraph.{OfGraph}
use Rattle.upipe_run.specs.Seen.{Seen}
use Rattle.upipe_run.specs.Tells.{TellsFault, TellsEnding}
use Rattle.upipe_run.specs.WholeOutput.{RanWhole}
use Rattle.upipe_run.specs.declared.ending.Ending.{Ending}
use Rattle.upipe_run.specs.declared.ending.Ending.TheVariants.{Whole, Faulty, NoMemory}

-- every path that is no sink's of the graph has what it had
abbrev pub KeepsOtherPaths : List ℕ → Held → Held → Type 0
KeepsOtherPaths path before after =
    (other : List ℕ) → OfGraph before path (λ graph. of_pipes.IsNoSinkPath graph.pipes other)
    → get after other ≡ get before other

-- two refusals are told alike: of a text that is too big not the number of its bytes, but that it is too big
abbrev pub AreAlike : GraphRefused → GraphRefused → Type 0
AreAlike (graphs.TooBig length) (graphs.TooBig other) = Unit {0}
AreAlike refusal other = refusal ≡ other

-- the text at the path has no graph, and this refusal tells its first
pub record HasNoGraph (before : Held) (path : List ℕ) (refusal : GraphRefused) : Type 0 where
  pub text : List ℕ
  pub at_path : get before path ≡ Some text
  pub first : GraphRefused
  pub refused : graph_of text ≡ Err first
  pub alike : AreAlike refusal first

-- the text at the path has this graph
pub record HasGraph (before : Held) (path : List ℕ) (graph : Graph) : Type 0 where
  pub text : List ℕ
  pub at_path : get before path ≡ Some text
  pub reads : graph_of text ≡ Ok graph

module _ (path : List ℕ) (old new : DepotState) where
  -- of the graph file at most one byte more than the greatest was read, and it was closed; nothing else was asked
  pub record ReadsFile (mid : DepotState) (result : Result (Unit {0}) Refusal) : Type 0 where
    pub asked : Then (AsksText path (MAX_GRAPH + 1) result) old.asked mid.asked
    pub held : mid.held ≡ old.held
    pub counts : CountsFaults old mid OfSource (is_failed result)

  -- the graph file was read, and its graph ran
  pub record RanFile (ending : Ending) : Type 0 where
    pub mid : DepotState
    pub read : ReadsFile mid (Ok tt)
    pub graph : Graph
    pub of_text : IfSome old.held (λ before. HasGraph before path graph)
    pub well : IsWellFormed graph.pipes
    pub drew : StoreState (Unit {0})
    pub draws : StoreState (Unit {0})
    pub outcome : RunOutcome
    pub ran : RanGraph graph.pipes mid new drew draws outcome
    pub so : ending ≡ ending_of graph.pipes outcome

  -- the graph file was read, and its text has no graph
  pub record RefusedFile (refusal : GraphRefused) : Type 0 where
    pub read : ReadsFile new (Ok tt)
    pub of_text : IsOfText refusal
    pub first : IfSome old.held (λ before. HasNoGraph before path refusal)

  -- memory ran out for the graph
  abbrev pub ShortFile : Type 0
  ShortFile = ReadsFile new (Ok tt) ⊎ ReadsFile new (Err refusals.NoMemory)

  -- what was done, by how the run ended
  abbrev pub HasCauses : Ending → Type 0
  HasCauses Whole = RanFile Whole
  HasCauses (Faulty Usage) = ⊥
  HasCauses (Faulty (OfGraphFile refusal)) = RefusedFile refusal
  HasCauses (Faulty ReadGraph) = ReadsFile new (Err refusals.Failed)
  HasCauses (Faulty (Read pipe)) = RanFile (Faulty (Read pipe))
  HasCauses (Faulty (Write pipe)) = RanFile (Faulty (Write pipe))
  HasCauses (Faulty WriteReport) = ⊥
  HasCauses (Faulty (BadFrame pipe offset)) = RanFile (Faulty (BadFrame pipe offset))
  HasCauses (Faulty (TooLong pipe limit)) = RanFile (Faulty (TooLong pipe limit))
  HasCauses NoMemory = ShortFile ⊎ RanFile NoMemory

module _ (path : List ℕ) (old new : Seen) where
  -- at status 0 every sink's path has all its bytes
  abbrev pub WritesWhole : ℕ → Type 0
  WritesWhole status = status ≡ 0 → Then (RanWhole path) old.depot.held new.depot.held

  -- every path that is no sink's stays
  abbrev pub KeepsPaths : Type 0
  KeepsPaths = Then (KeepsOtherPaths path) old.depot.held new.depot.held

  -- the status and what is printed are those of an ending, which has its causes
  pub record IsExplained (status : ℕ) : Type 0 where
    pub ending : Ending
    pub causes : HasCauses path old.depot new.depot ending
    pub fault_text : TellsEnding old.err new.err ending status

  -- the run of the graph file at the path
  pub record Runs (status : ℕ) : Type 0 where
    pub whole_output : WritesWhole status
    pub others_stay : KeepsPaths
    pub report_text : new.out ≡ old.out
    pub explained : IsExplained status

-- words that aren't taken: nothing is asked of the depot
pub record IsUsage (old new : Seen) (status : ℕ) : Type 0 where
  pub asks_nothing : new.depot ≡ old.depot
  pub report_text : new.out ≡ old.out
  pub fault_text : TellsFault old.err new.err Usage status

-- what is done for the job that the words ask for
abbrev pub Does : Option Job → Seen → Seen → ℕ → Type 0
Does None old new status = IsUsage old new status
Does (Some (Run graph)) old new status = Runs graph old new status
