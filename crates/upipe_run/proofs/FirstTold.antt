-- What a run tells of a source's bytes, and that it tells the first of them that have a cause.
use Rattle.std.proofs.Common.{◌≡◌, ◌⊎◌, inl, inr, ℕ, ◌<◌, ◌≤◌, List, true, slice_get, Some, IfSome, Ok, Err, refl, sym, ap, subst, ◌∙◌, arith}
use Rattle.std.specs.FinMap.{get}
use Rattle.std.proofs.lemmas.Bool.{cases_lt}
use Rattle.std.proofs.lemmas.Option.{same_Some}
use Rattle.up_base.specs.declared.refusal.Refusal.TheVariants as refusals
use Rattle.up_graph.specs.Graph.{graph_of}
use Rattle.up_model.specs.Outcomes.{is_cause}
use Rattle.up_model.specs.declared.graph.Graph.{Graph}
use Rattle.up_model.specs.declared.outcome.Outcome.{Outcome}
use Rattle.up_model.specs.declared.outcome.Outcome.TheVariants as outcomes
use Rattle.up_model.specs.declared.pipe.Pipe.{Pipe}
use Rattle.up_outside.specs.Counts.{Rose}
use Rattle.up_outside.specs.Held.{Held}
use Rattle.up_outside.specs.States.{SinkState}
use Rattle.up_report.specs.Lines.{fault_bytes}
use Rattle.up_report.specs.declared.fault.Fault.{Fault}
use Rattle.up_report.specs.declared.fault.Fault.TheVariants as faults
use Rattle.upipe_run.specs.FirstCauses.{ComesFirst, HasOutcome, IsAnswered, TellsFirstAt}
use Rattle.upipe_run.specs.Runs.{HasCauses, HasGraph, RanFile, ReadsFile, Runs, WritesWhole}
use Rattle.upipe_run.specs.Seen.{Seen}
use Rattle.upipe_run.specs.Tells.{TellsEnding, TellsFault, WritesLine}
use Rattle.upipe_run.specs.WholeOutput.{RanWhole}
use Rattle.upipe_run.specs.declared.ending.Ending.{Ending}
use Rattle.upipe_run.specs.declared.ending.Ending.TheVariants.{Whole, Faulty, NoMemory}
use Rattle.upipe_run.proofs.Decided.{RanTold, ran_bad, ran_long, read_rose, write_rose}
use Rattle.upipe_run.proofs.Drained.{told_status}
use Rattle.upipe_run.proofs.GivenBytes.{not_whole_too, one_outcome}
use Rattle.upipe_run.proofs.LeftFirst.{then_between}
use Rattle.upipe_run.proofs.RunLaws.{not_both, of_told, one_graph, read_before, refusal_status, told_first, where_held}

-- at another status than 7 the fault's own line was written
line_of : (old new : SinkState) (fault : Fault) (status n : ℕ) → TellsFault old new fault status → status ≡ n → (n ≡ 7 → ⊥) → WritesLine old new (fault_bytes fault)
line_of old new fault status n (inl line) is not = line.line
line_of old new fault status n (inr (inl part)) is not = absurd (not (sym is ∙ part.status_is))
line_of old new fault status n (inr (inr none)) is not = absurd (not (sym is ∙ none.status_is))

-- no other fault is told by these statuses
other_fault : (status n m : ℕ) → (status ≡ m) ⊎ (status ≡ 7) → status ≡ n → (n ≡ m → ⊥) → (n ≡ 7 → ⊥) → ⊥
other_fault status n m (inl is) so not_m not_seven = not_m (sym so ∙ is)
other_fault status n m (inr seven) so not_m not_seven = not_seven (sym so ∙ seven)

-- of the sources of a graph one comes first
same_first : (held : Held) (pipes : List Pipe) (a b : ℕ) (one two : Pipe) (x y : Outcome) → is_cause x ≡ true → is_cause y ≡ true
    → ComesFirst held pipes a one x → ComesFirst held pipes b two y → x ≡ y
same_first held pipes a b one two x y cause also first other = elim (cases_lt a b) [
  | inl less ↦ absurd (not_whole_too held one.kind x first.source cause (other.earlier a one less first.stands))
  | inr more ↦
      elim (cases_lt b a) [
        | inl less ↦ absurd (not_whole_too held two.kind y other.source also (first.earlier b two less other.stands))
        | inr no_more ↦
            let place : a ≡ b = omega (arith, more, no_more) in
            let pipe : one ≡ two = same_Some one two (sym first.stands ∙ ap (slice_get pipes) place ∙ other.stands) in
            one_outcome held two.kind x y (subst (λ (p : Pipe). HasOutcome held p.kind x) pipe first.source) other.source
      ]
]

module _ (path : List ℕ) (old new : Seen) where
  tells_first : (outcome : ℕ → Outcome) (fault : List ℕ → ℕ → Fault) (before : Held) (name : List ℕ) (number : ℕ) → old.depot.held ≡ Some before
      → (ran : RanFile path old.depot new.depot (Faulty (fault name number))) → RanTold ran.graph.pipes ran.mid new.depot ran.drew ran.draws name (outcome number)
      → WritesLine old.err new.err (fault_bytes (fault name number)) → TellsFirstAt outcome fault old new path before
  tells_first outcome fault before name number holds ran by line =
      let has = of_told (λ (held : Held). HasGraph held path ran.graph) old.depot.held before holds ran.of_text in
      record {
        text = has.text;
        at_path = has.at_path;
        graph = ran.graph;
        reads = has.reads;
        so = record {
          place = by.place;
          pipe = by.pipe;
          number = number;
          first = told_first path old new before (Faulty (fault name number)) name (outcome number) holds ran by;
          line = subst (λ (name : List ℕ). WritesLine old.err new.err (fault_bytes (fault name number))) by.named line;
        };
      }

  -- a status that is no fault's but one of bytes
  module _ (P : Type 0) (status n : ℕ) (so : status ≡ n) (above : 5 < n) (not_seven : n ≡ 7 → ⊥)
      (bad : (name : List ℕ) (offset : ℕ) → RanFile path old.depot new.depot (Faulty (faults.BadFrame name offset)) → TellsFault old.err new.err (faults.BadFrame name offset) status → P)
      (long : (name : List ℕ) (limit : ℕ) → RanFile path old.depot new.depot (Faulty (faults.TooLong name limit)) → TellsFault old.err new.err (faults.TooLong name limit) status → P) where
    low : (m : ℕ) → (status ≡ m) ⊎ (status ≡ 7) → m ≤ 5 → P
    low m told within = absurd (other_fault status n m told so (λ is. omega (arith, is, above, within)) not_seven)

    by_bytes : (ending : Ending) → HasCauses path old.depot new.depot ending → TellsEnding old.err new.err ending status → P
    by_bytes Whole causes tells = low 0 (inl tells.0) (omega arith)
    by_bytes NoMemory causes tells = low 0 (inr tells.status_is) (omega arith)
    by_bytes (Faulty faults.Usage) causes tells = absurd causes
    by_bytes (Faulty (faults.Graph refusal)) causes tells = low 3 (refusal_status path old new refusal status causes.of_text (told_status tells)) (omega arith)
    by_bytes (Faulty faults.ReadGraph) causes tells = low 4 (told_status tells) (omega arith)
    by_bytes (Faulty (faults.Read name)) causes tells = low 4 (told_status tells) (omega arith)
    by_bytes (Faulty (faults.Write name)) causes tells = low 5 (told_status tells) (omega arith)
    by_bytes (Faulty faults.WriteReport) causes tells = absurd causes
    by_bytes (Faulty (faults.BadFrame name offset)) causes tells = bad name offset causes tells
    by_bytes (Faulty (faults.TooLong name limit)) causes tells = long name limit causes tells

  bad_frame_at : (before : Held) (name : List ℕ) (offset status : ℕ) → old.depot.held ≡ Some before → status ≡ 6
      → RanFile path old.depot new.depot (Faulty (faults.BadFrame name offset)) → TellsFault old.err new.err (faults.BadFrame name offset) status
      → TellsFirstAt outcomes.BadFrame faults.BadFrame old new path before
  bad_frame_at before name offset status holds so ran tells =
      tells_first outcomes.BadFrame faults.BadFrame before name offset holds ran
      (ran_bad ran.graph.pipes ran.mid new.depot ran.drew ran.draws ran.outcome ran.ran name offset ran.so)
      (line_of old.err new.err (faults.BadFrame name offset) status 6 tells so (λ is. omega (arith, is)))

  too_long_at : (before : Held) (name : List ℕ) (limit status : ℕ) → old.depot.held ≡ Some before → status ≡ 8
      → RanFile path old.depot new.depot (Faulty (faults.TooLong name limit)) → TellsFault old.err new.err (faults.TooLong name limit) status
      → TellsFirstAt outcomes.TooLong faults.TooLong old new path before
  too_long_at before name limit status holds so ran tells =
      tells_first outcomes.TooLong faults.TooLong before name limit holds ran
      (ran_long ran.graph.pipes ran.mid new.depot ran.drew ran.draws ran.outcome ran.ran name limit ran.so)
      (line_of old.err new.err (faults.TooLong name limit) status 8 tells so (λ is. omega (arith, is)))

  pub bad_frame_told : (status : ℕ) → Runs path old new status → status ≡ 6 → IfSome old.depot.held (TellsFirstAt outcomes.BadFrame faults.BadFrame old new path)
  bad_frame_told status runs so = where_held path old new (TellsFirstAt outcomes.BadFrame faults.BadFrame old new path) (λ before holds.
      by_bytes (TellsFirstAt outcomes.BadFrame faults.BadFrame old new path before) status 6 so (omega arith) (λ is. omega (arith, is))
      (λ name offset ran tells. bad_frame_at before name offset status holds so ran tells)
      (λ name limit ran tells. absurd (other_fault status 6 8 (told_status tells) so (λ is. omega (arith, is)) (λ is. omega (arith, is))))
      runs.explained.ending runs.explained.causes runs.explained.fault_text)

  pub too_long_told : (status : ℕ) → Runs path old new status → status ≡ 8 → IfSome old.depot.held (TellsFirstAt outcomes.TooLong faults.TooLong old new path)
  too_long_told status runs so = where_held path old new (TellsFirstAt outcomes.TooLong faults.TooLong old new path) (λ before holds.
      by_bytes (TellsFirstAt outcomes.TooLong faults.TooLong old new path before) status 8 so (omega arith) (λ is. omega (arith, is))
      (λ name offset ran tells. absurd (other_fault status 8 6 (told_status tells) so (λ is. omega (arith, is)) (λ is. omega (arith, is))))
      (λ name limit ran tells. too_long_at before name limit status holds so ran tells)
      runs.explained.ending runs.explained.causes runs.explained.fault_text)

  -- the status of an outcome that bytes tell
  abbrev pub status_by : Outcome → ℕ
  status_by (outcomes.BadFrame offset) = 6
  status_by (outcomes.TooLong limit) = 8
  status_by outcome = 0

  module _ (before : Held) (holds : old.depot.held ≡ Some before) (text : List ℕ) (graph : Graph) (at : get before path ≡ Some text) (reads : graph_of text ≡ Ok graph)
      (place : ℕ) (pipe : Pipe) (told : Outcome) (cause : is_cause told ≡ true) (first : ComesFirst before graph.pipes place pipe told) where
    -- the source that is told is the first
    one_told : (ending : Ending) (name : List ℕ) (other : Outcome) → is_cause other ≡ true → (ran : RanFile path old.depot new.depot ending)
        → RanTold ran.graph.pipes ran.mid new.depot ran.drew ran.draws name other → other ≡ told
    one_told ending name other is ran by =
        let same : ran.graph ≡ graph = one_graph before path text ran.graph graph (of_told (λ (held : Held). HasGraph held path ran.graph) old.depot.held before holds ran.of_text) at reads in
        let comes : ComesFirst before graph.pipes by.place by.pipe other =
        subst (λ (g : Graph). ComesFirst before g.pipes by.place by.pipe other) same (told_first path old new before ending name other holds ran by) in
        same_first before graph.pipes by.place place by.pipe pipe other told is cause comes first

    -- not every source is whole
    not_whole : (after : Held) → RanWhole path before after → ⊥
    not_whole after whole =
        let same : whole.graph ≡ graph = one_graph before path text whole.graph graph (record { text = whole.text; at_path = whole.at_path; reads = whole.reads }) at reads in
        not_whole_too before pipe.kind told first.source cause (whole.so.sources place pipe (ap (λ (g : Graph). slice_get g.pipes place) same ∙ first.stands))

    -- where no read of the graph file failed, and no fault of a pipe's path is told, it is told
    pub answered : (ending : Ending) (status : ℕ) → HasCauses path old.depot new.depot ending → TellsEnding old.err new.err ending status → WritesWhole path old new status
        → (ReadsFile path old.depot new.depot new.depot (Err refusals.Failed) → ⊥)
        → ((name : List ℕ) → RanFile path old.depot new.depot (Faulty (faults.Read name)) → ⊥)
        → ((name : List ℕ) → RanFile path old.depot new.depot (Faulty (faults.Write name)) → ⊥)
        → (status ≡ status_by told) ⊎ (status ≡ 7)
    answered Whole status causes tells writes no_graph no_read no_write =
        let left = then_between (RanWhole path) old.depot.held new.depot.held before holds (writes tells.0) in
        absurd (not_whole left.0 left.2)
    answered NoMemory status causes tells writes no_graph no_read no_write = inr tells.status_is
    answered (Faulty faults.Usage) status causes tells writes no_graph no_read no_write = absurd causes
    answered (Faulty (faults.Graph refusal)) status causes tells writes no_graph no_read no_write =
        let none = of_told _ old.depot.held before holds causes.first in
        absurd (not_both before path none.text graph none.first (record { text = text; at_path = at; reads = reads }) none.at_path none.refused)
    answered (Faulty faults.ReadGraph) status causes tells writes no_graph no_read no_write = absurd (no_graph causes)
    answered (Faulty (faults.Read name)) status causes tells writes no_graph no_read no_write = absurd (no_read name causes)
    answered (Faulty (faults.Write name)) status causes tells writes no_graph no_read no_write = absurd (no_write name causes)
    answered (Faulty faults.WriteReport) status causes tells writes no_graph no_read no_write = absurd causes
    answered (Faulty (faults.BadFrame name offset)) status causes tells writes no_graph no_read no_write =
        let by = ran_bad causes.graph.pipes causes.mid new.depot causes.drew causes.draws causes.outcome causes.ran name offset causes.so in
        let same : outcomes.BadFrame offset ≡ told = one_told _ name (outcomes.BadFrame offset) refl causes by in
        elim (told_status tells) [ inl six ↦ inl (six ∙ ap status_by same) | inr seven ↦ inr seven ]
    answered (Faulty (faults.TooLong name limit)) status causes tells writes no_graph no_read no_write =
        let by = ran_long causes.graph.pipes causes.mid new.depot causes.drew causes.draws causes.outcome causes.ran name limit causes.so in
        let same : outcomes.TooLong limit ≡ told = one_told _ name (outcomes.TooLong limit) refl causes by in
        elim (told_status tells) [ inl eight ↦ inl (eight ∙ ap status_by same) | inr seven ↦ inr seven ]

    -- so where no count rose
    by_counts : (status : ℕ) → Runs path old new status
        → (Rose old.depot.source_faults new.depot.source_faults → ⊥) → (Rose old.depot.sink_faults new.depot.sink_faults → ⊥)
        → (status ≡ status_by told) ⊎ (status ≡ 7)
    by_counts status runs sources sinks =
        answered runs.explained.ending status runs.explained.causes runs.explained.fault_text runs.whole_output
        (λ reads. sources (reads.counts.sources.rose refl))
        (λ name ran. sources (rw (read_before path old new _ ran).0 at (read_rose ran.graph.pipes ran.mid new.depot ran.drew ran.draws ran.outcome ran.ran name ran.so)))
        (λ name ran. sinks (rw (read_before path old new _ ran).1 at (write_rose ran.graph.pipes ran.mid new.depot ran.drew ran.draws ran.outcome ran.ran name ran.so)))

  pub bad_frame_answered : (status : ℕ) → Runs path old new status → IfSome old.depot.held (IsAnswered outcomes.BadFrame 6 path old new status)
  bad_frame_answered status runs = where_held path old new (IsAnswered outcomes.BadFrame 6 path old new status)
      (λ before holds text graph at reads place offset pipe first sources sinks.
      by_counts before holds text graph at reads place pipe (outcomes.BadFrame offset) refl first status runs sources sinks)

  pub too_long_answered : (status : ℕ) → Runs path old new status → IfSome old.depot.held (IsAnswered outcomes.TooLong 8 path old new status)
  too_long_answered status runs = where_held path old new (IsAnswered outcomes.TooLong 8 path old new status)
      (λ before holds text graph at reads place limit pipe first sources sinks.
      by_counts before holds text graph at reads place pipe (outcomes.TooLong limit) refl first status runs sources sinks)
