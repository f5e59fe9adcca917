-- The run of a graph file, by its text and by what the run of its graph did.
use Rattle.std.proofs.Common.{◌≡◌, ℕ, ◌<◌, ◌==◌, List, length, Bool, true, false, Option, Some, None, IfSome, Ok, Err, inl, inr, slice_get, get_or, refl, sym, ap, subst, ◌∙◌}
use Rattle.std.specs.List.{All, filter}
use Rattle.std.specs.Option.{is_some, option_map_or}
use Rattle.std.proofs.lemmas.Bool.{eq-eqb}
use Rattle.std.proofs.lemmas.List.Elements.{All-append, All-weaker, filter_passes}
use Rattle.std.proofs.lemmas.Option.{get_or_from_slice_get, slice_get_within}
use Rattle.up_engine.proofs.PathPlaces.{HasPathAt, path_place_stands}
use Rattle.up_engine.specs.Entries as of_pipes
use Rattle.up_engine.specs.Runs.{Ways, ending, ending_refused, RanThrough, StoppedThere, RanGraph}
use Rattle.up_engine.specs.declared.run_outcome.RunOutcome.{RunOutcome}
use Rattle.up_engine.specs.declared.run_outcome.RunOutcome.TheVariants as runs
use Rattle.up_graph.specs.Answers.{Answers}
use Rattle.up_graph.specs.Graph.{graph_of}
use Rattle.up_graph.specs.declared.graph_refused.GraphRefused.TheVariants as refusals
use Rattle.up_graph.specs.declared.graph_refused.GraphRefused.{GraphRefused}
use Rattle.up_model.proofs.Members.{passes_within}
use Rattle.up_model.specs.Ends.{path_of}
use Rattle.up_model.specs.Inputs.{PipeTest, ends_at_source, passes_at, places}
use Rattle.up_model.specs.Outcomes.{deciding, is_cause}
use Rattle.up_model.specs.Plans.{ends_at_sink}
use Rattle.up_model.specs.declared.graph.Graph.{Graph}
use Rattle.up_model.specs.declared.kind.Kind.{Kind}
use Rattle.up_model.specs.declared.kind.Kind.TheVariants.{Source, Sink}
use Rattle.up_model.specs.declared.outcome.Outcome.{Outcome}
use Rattle.up_model.specs.declared.outcome.Outcome.TheVariants as outcomes
use Rattle.up_model.specs.declared.pipe.Pipe.{Pipe}
use Rattle.up_model.specs.declared.tally.Tally.{Tally}
use Rattle.up_outside.specs.States.{DepotState}
use Rattle.up_outside.specs.Told.{Then}
use Rattle.up_outside.proofs.Told.{Then-map}
use Rattle.up_shape.specs.Stores.{StoreState}
use Rattle.upipe_run.specs.Endings.{IsOfText, ending_by, ending_of, ending_told, refused_ending}
use Rattle.upipe_run.specs.GraphText.{IsStartAt}
use Rattle.upipe_run.specs.Runs.{HasCauses, KeepsOtherPaths, RanFile, ReadsFile, RefusedFile}
use Rattle.upipe_run.specs.WholeOutput.{IsWholeOutput, RanWhole}
use Rattle.upipe_run.specs.declared.ending.Ending.{Ending}
use Rattle.upipe_run.specs.declared.ending.Ending.TheVariants as endings
use Rattle.upipe_run.proofs.Deciding.{each_told, no_cause, none_decides}
use Rattle.upipe_run.proofs.Texts.{at_graph, is_of_graph, no_graph_told}
use Rattle.upipe_run.proofs.WholeRuns.{whole_output}

module _ (path : List ℕ) (old new : DepotState) where
  -- of a text that was read and has no graph
  no_graph : (text : List ℕ) (refusal : GraphRefused) → ReadsFile path old new new (Ok tt) → IsOfText refusal → IfSome old.held (IsStartAt path 1048577 text)
      → graph_of text ≡ Err refusal → RefusedFile path old new refusal
  no_graph text refusal read of_text start refused = record {
    read = read;
    of_text = of_text;
    first = no_graph_told old.held path text refusal start refused;
  }

  -- it was refused, or there was no memory
  pub causes_refused : (text : List ℕ) (refusal : GraphRefused) → ReadsFile path old new new (Ok tt) → IfSome old.held (IsStartAt path 1048577 text)
      → Answers (λ (graph : Graph). graph) (Err refusal) (graph_of text) → HasCauses path old new (refused_ending refusal)
  causes_refused text refusals.NoMemory read start refused = inl (inl read)
  causes_refused text refusal read start refused = no_graph text refusal read tt start refused

  ran_by : (pipe : Pipe) (outcome : Outcome) → RanFile path old new (ending_by pipe outcome) → HasCauses path old new (ending_by pipe outcome)
  ran_by pipe outcomes.Whole ran = ran
  ran_by pipe outcomes.ReadFault ran = ran
  ran_by pipe outcomes.WriteFault ran = ran
  ran_by pipe (outcomes.BadFrame offset) ran = ran
  ran_by pipe (outcomes.TooLong limit) ran = ran
  ran_by pipe outcomes.Broken ran = ran
  ran_by pipe outcomes.NoMemory ran = ran

  ran_told : (pipes : List Pipe) (ends : List Outcome) (decides : Option ℕ) → RanFile path old new (ending_told pipes ends decides)
      → HasCauses path old new (ending_told pipes ends decides)
  ran_told pipes ends None ran = ran
  ran_told pipes ends (Some place) ran = by (slice_get pipes place) ran
    where
      of : Option Pipe → Ending
      of pipe = option_map_or (λ (pipe : Pipe). ending_by pipe (get_or ends place outcomes.Whole)) pipe endings.Whole

      by : (pipe : Option Pipe) → RanFile path old new (of pipe) → HasCauses path old new (of pipe)
      by None ran = ran
      by (Some pipe) ran = ran_by pipe (get_or ends place outcomes.Whole) ran

  -- the run of its graph
  pub causes_ran : (pipes : List Pipe) (outcome : RunOutcome) → RanFile path old new (ending_of pipes outcome) → HasCauses path old new (ending_of pipes outcome)
  causes_ran pipes (runs.Ended ends tallies) ran = ran_told pipes ends (deciding ends) ran
  causes_ran pipes runs.NoMemory ran = inr ran

-- the pipe whose open was refused has a cause
fault_is_cause : (pipes : List Pipe) (place : ℕ) (shut : ℕ → Bool) (pipe : Pipe) → slice_get pipes place ≡ Some pipe → (kind : Kind) → pipe.kind ≡ kind
    → is_some (path_of kind) ≡ true → is_cause (ending_refused pipes place shut place) ≡ true
fault_is_cause pipes place shut pipe at (Source path form limit) is has_path =
    let same : (place == place) ≡ true = eq-eqb place place refl in
    rw (at, same, is) refl
fault_is_cause pipes place shut pipe at (Sink path form) is has_path =
    let same : (place == place) ≡ true = eq-eqb place place refl in
    rw (at, same, is) refl
fault_is_cause pipes place shut pipe at kind is has_path = absurd (cc)

module _ (pipes : List Pipe) where
  within_all : (test : PipeTest) → All (λ place. place < length pipes) (filter (passes_at test pipes) (places pipes))
  within_all test = All-weaker (λ place. passes_at test pipes place ≡ true) (λ place. place < length pipes) (passes_within test pipes) _
      (filter_passes (passes_at test pipes) (places pipes))

  -- whose path is opened is a pipe of the graph
  pub paths_within : All (λ place. place < length pipes) (of_pipes.path_places pipes)
  paths_within = All-append (λ place. place < length pipes) _ _ (within_all ends_at_source) (within_all ends_at_sink)

  refused_has_path : (place count : ℕ) → slice_get (of_pipes.path_places pipes) count ≡ Some place → HasPathAt pipes place
  refused_has_path place count at =
      subst (HasPathAt pipes) (get_or_from_slice_get (of_pipes.path_places pipes) count place 0 at)
      (path_place_stands pipes count (slice_get_within (of_pipes.path_places pipes) count place at))

module _ {F : Type 0} (pipes : List Pipe) (old new : DepotState) (drew draws : StoreState F) where
  -- a refused open is a cause
  pub refused_told : (ends : List Outcome) (tallies : List Tally) → StoppedThere pipes old new ends tallies
      → ending_told pipes ends (deciding ends) ≡ endings.Whole → ⊥
  refused_told ends tallies stopped whole =
      let place = stopped.place in
      let of = ending_refused pipes place stopped.shut in
      let each = ap length stopped.endings ∙ each_told pipes of in
      let none = none_decides pipes ends each whole in
      let refused = refused_has_path pipes place stopped.count stopped.at in
      let clean = no_cause pipes of (rw stopped.endings at none) place refused.pipe refused.there in
      let cause : is_cause (of place) ≡ true = fault_is_cause pipes place stopped.shut refused.pipe refused.there refused.pipe.kind refl refused.has_path in
      absurd (let wrong : true ≡ false = sym cause ∙ clean in cc)

  left_whole : (ways : Ways) (ends : List Outcome) (tallies : List Tally) → RanThrough pipes ways old new drew draws ends tallies
      → ending_told pipes ends (deciding ends) ≡ endings.Whole → Then (λ before after. IsWholeOutput before after pipes) old.held new.held
  left_whole ways ends tallies ran whole =
      let each = ap length ran.endings ∙ each_told pipes (ending pipes ways) in
      let none = no_cause pipes (ending pipes ways) (rw ran.endings at (none_decides pipes ends each whole)) in
      Then-map _ _ _ old.held new.held (λ before after gave wrote. whole_output pipes ways none before gave after ran.shut wrote) ran.gave ran.wrote

  -- a run that went through
  pub record WentThrough : Type 0 where
    pub ways : Ways
    pub ends : List Outcome
    pub tallies : List Tally
    pub through : RanThrough pipes ways old new drew draws ends tallies

  -- so did one that is told as whole
  pub whole_through : (outcome : RunOutcome) → RanGraph pipes old new drew draws outcome → ending_of pipes outcome ≡ endings.Whole → WentThrough
  whole_through runs.NoMemory ran whole = absurd (cc)
  whole_through (runs.Ended ends tallies) ran whole = elim ran.to [
    | inl (ways, through) ↦ record { ways = ways; ends = ends; tallies = tallies; through = through }
    | inr stopped ↦ absurd (refused_told ends tallies stopped whole)
  ]

  -- and left the whole output
  pub ran_whole : (outcome : RunOutcome) → RanGraph pipes old new drew draws outcome → ending_of pipes outcome ≡ endings.Whole
      → Then (λ before after. IsWholeOutput before after pipes) old.held new.held
  ran_whole runs.NoMemory ran whole = absurd (cc)
  ran_whole (runs.Ended ends tallies) ran whole = elim ran.to [
    | inl (ways, through) ↦ left_whole ways ends tallies through whole
    | inr stopped ↦ absurd (refused_told ends tallies stopped whole)
  ]

-- the text that was read has this graph
module _ (path text : List ℕ) (graph : Graph) (reads : graph_of text ≡ Ok graph) (s0 s1 s2 : DepotState) (start : IfSome s0.held (IsStartAt path 1048577 text))
    (same : s1.held ≡ s0.held) where
  pub others_ran : Then (of_pipes.KeepsOtherPaths graph.pipes) s1.held s2.held → Then (KeepsOtherPaths path) s0.held s2.held
  others_ran keeps =
      Then-map (IsStartAt path 1048577 text) (of_pipes.KeepsOtherPaths graph.pipes) (KeepsOtherPaths path) s0.held s2.held
      (λ before after is stays other none. stays other (at_graph path text graph reads before (λ graph. of_pipes.IsNoSinkPath graph.pipes other) is none))
      start (rw same at keeps)

  pub whole_ran : Then (λ before after. IsWholeOutput before after graph.pipes) s1.held s2.held → Then (RanWhole path) s0.held s2.held
  whole_ran whole =
      Then-map (IsStartAt path 1048577 text) (λ before after. IsWholeOutput before after graph.pipes) (RanWhole path) s0.held s2.held
      (λ before after is output. is_of_graph path text graph reads before (λ graph. IsWholeOutput before after graph.pipes) is output)
      start (rw same at whole)
