-- What follows of what a run does.
use Rattle.std.proofs.Common.{◌≡◌, ◌⊎◌, inl, inr, ℕ, ◌<◌, List, [], ◌∷◌, length, map, true, false, slice_get, Option, Some, None, IfSome, Result, Ok, Err, refl, sym, ap, subst, ◌∙◌, arith, append_assoc}
use Rattle.std.specs.FinMap.{get}
use Rattle.std.specs.List.{All, Contains}
use Rattle.std.proofs.lemmas.List.Elements.{All-contains, All-contains_itself, All-weaker, All-head, All-tail}
use Rattle.up_engine.specs.Entries.{entries_at, entry_at, path_places}
use Rattle.up_engine.specs.Runs.{Gave, Marked, Ways}
use Rattle.up_graph.specs.Graph.{graph_of}
use Rattle.up_graph.specs.declared.graph_refused.GraphRefused.{GraphRefused}
use Rattle.up_graph.specs.declared.graph_refused.GraphRefused.TheVariants as refusals
use Rattle.up_model.proofs.WellFormed.{there}
use Rattle.up_model.specs.Ends.{is_source}
use Rattle.up_model.specs.Outcomes.{is_cause}
use Rattle.up_model.specs.declared.graph.Graph.{Graph}
use Rattle.up_model.specs.declared.outcome.Outcome.{Outcome}
use Rattle.up_model.specs.declared.outcome.Outcome.TheVariants as outcomes
use Rattle.up_model.specs.declared.pipe.Pipe.{Pipe}
use Rattle.up_outside.specs.Asked.{entry}
use Rattle.up_outside.specs.Held.{Held}
use Rattle.up_outside.specs.Told.{Then}
use Rattle.up_outside.specs.declared.asked.Entry.{Entry}
use Rattle.up_outside.specs.declared.asked.Mark.{Mark}
use Rattle.up_outside.specs.declared.asked.Mark.TheVariants.{Refused, Open, Closed}
use Rattle.up_outside.specs.declared.asked.Side.TheVariants as sides
use Rattle.up_report.specs.Faults.{status_of}
use Rattle.up_report.specs.declared.fault.Fault.TheVariants as faults
use Rattle.upipe_run.specs.Endings.{IsOfText}
use Rattle.upipe_run.specs.FirstCauses.{ComesFirst}
use Rattle.upipe_run.specs.Laws.{AsksAll, Completes, IsRunStatus, OpensAll, SettlesStatus}
use Rattle.upipe_run.specs.Runs.{HasCauses, HasGraph, HasNoGraph, RanFile, Runs}
use Rattle.upipe_run.specs.Seen.{Seen}
use Rattle.upipe_run.specs.Tells.{TellsEnding}
use Rattle.upipe_run.specs.WholeOutput.{CanComplete}
use Rattle.upipe_run.specs.declared.ending.Ending.{Ending}
use Rattle.upipe_run.specs.declared.ending.Ending.TheVariants.{Whole, Faulty, NoMemory}
use Rattle.up_outside.proofs.Told.{Then-map, Then-trans, always}
use Rattle.upipe_run.proofs.Decided.{RanTold, ran_bad, ran_long, read_rose, write_rose}
use Rattle.upipe_run.proofs.Drained.{told_status}
use Rattle.upipe_run.proofs.GivenBytes.{has_outcome, not_whole_too, whole_by}
use Rattle.upipe_run.proofs.RanFiles.{WentThrough, paths_within, whole_through}

same_bytes : (a b : List ℕ) → Some a ≡ Some b → a ≡ b
same_bytes a b same = cc

ok_is_no_refusal : (graph : Graph) (refusal : GraphRefused) → ◌≡◌ {A = Result Graph GraphRefused} (Ok graph) (Err refusal) → ⊥
ok_is_no_refusal graph refusal same = cc

same_graph : (a b : Graph) → ◌≡◌ {A = Result Graph GraphRefused} (Ok a) (Ok b) → a ≡ b
same_graph a b same = cc

-- one text at the path has one graph
pub one_graph : (before : Held) (path text : List ℕ) (graph other : Graph) → HasGraph before path graph → get before path ≡ Some text → graph_of text ≡ Ok other → graph ≡ other
one_graph before path text graph other has at reads =
    let same : has.text ≡ text = same_bytes has.text text (sym has.at_path ∙ at) in
    same_graph graph other (sym has.reads ∙ ap graph_of same ∙ reads)

-- the text has a graph and has none
pub not_both : (before : Held) (path text : List ℕ) (graph : Graph) (refusal : GraphRefused) → HasGraph before path graph → get before path ≡ Some text → graph_of text ≡ Err refusal → ⊥
not_both before path text graph refusal has at refused =
    let same : has.text ≡ text = same_bytes has.text text (sym has.at_path ∙ at) in
    ok_is_no_refusal graph refusal (sym has.reads ∙ ap graph_of same ∙ refused)

not_refused : (before : Held) (path : List ℕ) (refusal : GraphRefused) → HasNoGraph before path refusal → CanComplete before path → ⊥
not_refused before path refusal none can =
    not_both before path none.text can.graph none.first (record { text = can.text; at_path = can.at_path; reads = can.reads }) none.at_path none.refused

-- what is so of what is told
pub of_told : (P : Held → Type 0) (held : Option Held) (before : Held) → held ≡ Some before → IfSome held P → P before
of_told P held before is so = rw is at so

abbrev pub moved_by : Mark → ℕ
moved_by Refused = 0
moved_by Open = 0
moved_by (Closed moved failed shut) = moved

pub same_entries : (f g : ℕ → Entry) (places : List ℕ) → All (λ place. f place ≡ g place) places → map f places ≡ map g places
same_entries f g [] same = refl
same_entries f g (place ∷ places) same =
    let first = All-head (λ place. f place ≡ g place) place places same in
    let later = same_entries f g places (All-tail (λ place. f place ≡ g place) place places same) in
    rw (first, later) refl

module _ (pipes : List Pipe) (ways : Ways) (marks : ℕ → Mark) where
  -- every mark says that its entry is closed
  abbrev closed_as : ℕ → Mark
  closed_as place = Closed (moved_by (marks place)) (ways.failed place) (ways.shut place)

  same_mark : (place : ℕ) (pipe : Pipe) → Marked pipes ways marks place pipe → marks place ≡ closed_as place
  same_mark place pipe marked = rw marked.is refl

  all_closed : ((place : ℕ) (pipe : Pipe) → slice_get pipes place ≡ Some pipe → Contains (path_places pipes) place → Marked pipes ways marks place pipe)
      → entries_at pipes marks (path_places pipes) ≡ entries_at pipes closed_as (path_places pipes)
  all_closed told = same_entries _ _ (path_places pipes) (All-weaker (Contains (path_places pipes)) _
      (λ place is.
      let pipe = there pipes place (All-contains (λ place. place < length pipes) (path_places pipes) place (paths_within pipes) is) in
      ap (entry_at pipes place) (same_mark place pipe.0 (told place pipe.0 pipe.1 is)))
      (path_places pipes) (All-contains_itself (path_places pipes)))

module _ (path : List ℕ) (old new : Seen) where
  -- the counts after the graph file was read are those before
  pub read_before : (ending : Ending) (ran : RanFile path old.depot new.depot ending) → (ran.mid.source_faults ≡ old.depot.source_faults) × (ran.mid.sink_faults ≡ old.depot.sink_faults)
  read_before ending ran = (ran.read.counts.sources.stays refl, ran.read.counts.sinks.stays refl)

  -- what a source gave that stands in a run that went through
  pub gave_at : (before : Held) (ending : Ending) → old.depot.held ≡ Some before → (ran : RanFile path old.depot new.depot ending)
      → (run : WentThrough ran.graph.pipes ran.mid new.depot ran.drew ran.draws) (place : ℕ) (pipe : Pipe) → slice_get ran.graph.pipes place ≡ Some pipe
      → is_source pipe.kind ≡ true → Gave ran.graph.pipes run.ways before place pipe
  gave_at before ending holds ran run place pipe at source = of_told _ ran.mid.held before (ran.read.held ∙ holds) run.through.gave place pipe at source

  -- the source that is told comes first with its outcome
  pub told_first : (before : Held) (ending : Ending) (name : List ℕ) (told : Outcome) → old.depot.held ≡ Some before → (ran : RanFile path old.depot new.depot ending)
      → (by : RanTold ran.graph.pipes ran.mid new.depot ran.drew ran.draws name told) → ComesFirst before ran.graph.pipes by.place by.pipe told
  told_first before ending name told holds ran by = record {
    stands = by.at;
    source = has_outcome ran.graph.pipes by.run.ways before by.place by.pipe by.at (gave_at before ending holds ran by.run by.place by.pipe by.at) told by.source;
    earlier = λ other one below there.
        whole_by ran.graph.pipes by.run.ways before other one there (gave_at before ending holds ran by.run other one there) one.kind refl (by.earlier other one below there);
  }

  -- then not every source is whole
  none_told : (before : Held) (ending : Ending) (name : List ℕ) (told : Outcome) → is_cause told ≡ true → old.depot.held ≡ Some before
      → (ran : RanFile path old.depot new.depot ending) → RanTold ran.graph.pipes ran.mid new.depot ran.drew ran.draws name told → CanComplete before path → ⊥
  none_told before ending name told cause holds ran by can =
      let same : ran.graph ≡ can.graph = one_graph before path can.text ran.graph can.graph (rw holds at ran.of_text) can.at_path can.reads in
      let first = told_first before ending name told holds ran by in
      not_whole_too before by.pipe.kind told first.source cause (can.so by.place by.pipe (ap (λ (g : Graph). slice_get g.pipes by.place) (sym same) ∙ by.at))

  -- where nothing failed, a run that isn't whole lacked memory
  lacks_memory : (before : Held) (ending : Ending) (status : ℕ) → old.depot.held ≡ Some before → HasCauses path old.depot new.depot ending → TellsEnding old.err new.err ending status
      → Completes path old new status before
  lacks_memory before Whole status told causes tells can sources sinks = inl tells.0
  lacks_memory before NoMemory status told causes tells can sources sinks = inr tells.status_is
  lacks_memory before (Faulty faults.Usage) status told causes tells can sources sinks = absurd causes
  lacks_memory before (Faulty (faults.Graph refusal)) status told causes tells can sources sinks = absurd (not_refused before path refusal (rw told at causes.first) can)
  lacks_memory before (Faulty faults.ReadGraph) status told causes tells can sources sinks = absurd (sources (causes.counts.sources.rose refl))
  lacks_memory before (Faulty (faults.Read name)) status told causes tells can sources sinks =
      absurd (sources (rw (read_before _ causes).0 at (read_rose causes.graph.pipes causes.mid new.depot causes.drew causes.draws causes.outcome causes.ran name causes.so)))
  lacks_memory before (Faulty (faults.Write name)) status told causes tells can sources sinks =
      absurd (sinks (rw (read_before _ causes).1 at (write_rose causes.graph.pipes causes.mid new.depot causes.drew causes.draws causes.outcome causes.ran name causes.so)))
  lacks_memory before (Faulty faults.WriteReport) status told causes tells can sources sinks = absurd causes
  lacks_memory before (Faulty (faults.BadFrame name offset)) status told causes tells can sources sinks =
      absurd (none_told before _ name (outcomes.BadFrame offset) refl told causes
      (ran_bad causes.graph.pipes causes.mid new.depot causes.drew causes.draws causes.outcome causes.ran name offset causes.so) can)
  lacks_memory before (Faulty (faults.TooLong name limit)) status told causes tells can sources sinks =
      absurd (none_told before _ name (outcomes.TooLong limit) refl told causes
      (ran_long causes.graph.pipes causes.mid new.depot causes.drew causes.draws causes.outcome causes.ran name limit causes.so) can)

  -- what is so where it is told what is held
  pub where_held : (P : Held → Type 0) → ((before : Held) → old.depot.held ≡ Some before → P before) → IfSome old.depot.held P
  where_held P so = by old.depot.held so
    where
      by : (held : Option Held) → ((before : Held) → held ≡ Some before → P before) → IfSome held P
      by None so = tt
      by (Some before) so = so before refl

  pub completes : (status : ℕ) → Runs path old new status → IfSome old.depot.held (Completes path old new status)
  completes status runs =
      where_held (Completes path old new status) (λ before told. lacks_memory before runs.explained.ending status told runs.explained.causes runs.explained.fault_text)

  pub refusal_status : (refusal : GraphRefused) (status : ℕ) → IsOfText refusal → (status ≡ status_of (faults.Graph refusal)) ⊎ (status ≡ 7) → (status ≡ 3) ⊎ (status ≡ 7)
  refusal_status refusals.NoMemory status of_text is = absurd of_text
  refusal_status refusal status of_text (inl same) = inl same
  refusal_status refusal status of_text (inr seven) = inr seven

  of_status : (ending : Ending) (status : ℕ) → HasCauses path old.depot new.depot ending → TellsEnding old.err new.err ending status → IsRunStatus status
  of_status Whole status causes tells = inl tells.0
  of_status NoMemory status causes tells = inr (inr (inr (inr (inr (inl tells.status_is)))))
  of_status (Faulty faults.Usage) status causes tells = absurd causes
  of_status (Faulty (faults.Graph refusal)) status causes tells =
      elim (refusal_status refusal status causes.of_text (told_status tells)) [ inl three ↦ inr (inl three) | inr seven ↦ inr (inr (inr (inr (inr (inl seven))))) ]
  of_status (Faulty faults.ReadGraph) status causes tells =
      elim (told_status tells) [ inl same ↦ inr (inr (inl same)) | inr seven ↦ inr (inr (inr (inr (inr (inl seven))))) ]
  of_status (Faulty (faults.Read name)) status causes tells =
      elim (told_status tells) [ inl same ↦ inr (inr (inl same)) | inr seven ↦ inr (inr (inr (inr (inr (inl seven))))) ]
  of_status (Faulty (faults.Write name)) status causes tells =
      elim (told_status tells) [ inl same ↦ inr (inr (inr (inl same))) | inr seven ↦ inr (inr (inr (inr (inr (inl seven))))) ]
  of_status (Faulty faults.WriteReport) status causes tells = absurd causes
  of_status (Faulty (faults.BadFrame name offset)) status causes tells =
      elim (told_status tells) [ inl same ↦ inr (inr (inr (inr (inl same)))) | inr seven ↦ inr (inr (inr (inr (inr (inl seven))))) ]
  of_status (Faulty (faults.TooLong name limit)) status causes tells =
      elim (told_status tells) [ inl same ↦ inr (inr (inr (inr (inr (inr same))))) | inr seven ↦ inr (inr (inr (inr (inr (inl seven))))) ]

  pub has_status : (status : ℕ) → Runs path old new status → IsRunStatus status
  has_status status runs = of_status runs.explained.ending status runs.explained.causes runs.explained.fault_text

  module _ (before : Held) (told : old.depot.held ≡ Some before) (text : List ℕ) (refusal : GraphRefused) (at : get before path ≡ Some text)
      (refused : graph_of text ≡ Err refusal) where
    no_run : (ending : Ending) → RanFile path old.depot new.depot ending → ⊥
    no_run ending ran = not_both before path text ran.graph refusal (rw told at ran.of_text) at refused

    settled : (ending : Ending) (status : ℕ) → HasCauses path old.depot new.depot ending → TellsEnding old.err new.err ending status → (status ≡ 3) ⊎ ((status ≡ 4) ⊎ (status ≡ 7))
    settled Whole status causes tells = absurd (no_run _ causes)
    settled NoMemory status causes tells = inr (inr tells.status_is)
    settled (Faulty faults.Usage) status causes tells = absurd causes
    settled (Faulty (faults.Graph other)) status causes tells = elim (refusal_status other status causes.of_text (told_status tells)) [ inl three ↦ inl three | inr seven ↦ inr (inr seven) ]
    settled (Faulty faults.ReadGraph) status causes tells = inr (told_status tells)
    settled (Faulty (faults.Read name)) status causes tells = absurd (no_run _ causes)
    settled (Faulty (faults.Write name)) status causes tells = absurd (no_run _ causes)
    settled (Faulty faults.WriteReport) status causes tells = absurd causes
    settled (Faulty (faults.BadFrame name offset)) status causes tells = absurd (no_run _ causes)
    settled (Faulty (faults.TooLong name limit)) status causes tells = absurd (no_run _ causes)

  pub settles : (status : ℕ) → Runs path old new status → IfSome old.depot.held (SettlesStatus path status)
  settles status runs = where_held (SettlesStatus path status) (λ before told text refusal at refused.
      settled before told text refusal at refused runs.explained.ending status runs.explained.causes runs.explained.fault_text)

  -- a run that went through asked for every path
  module _ (ending : Ending) (ran : RanFile path old.depot new.depot ending) where
    opens_all : WentThrough ran.graph.pipes ran.mid new.depot ran.drew ran.draws → Then (OpensAll path ran.graph.pipes) old.depot.asked new.depot.asked
    opens_all run =
        let pipes = ran.graph.pipes in
        Then-trans _ _ (OpensAll path pipes) old.depot.asked ran.mid.asked new.depot.asked
        (λ x y z asks grown. record {
          first = Closed asks.0 false true;
          marks = closed_as pipes run.ways grown.0;
          told =
              let file = entry path sides.Source (Closed asks.0 false true) in
              grown.1 ∙ rw (asks.2, all_closed pipes run.ways grown.0 grown.2) (append_assoc x (file ∷ []) (entries_at pipes (closed_as pipes run.ways grown.0) (path_places pipes)));
          file_closed = refl;
          all_closed = λ place. refl;
        }) ran.read.asked run.through.entries

    asks_of_graph : (before : Held) → old.depot.held ≡ Some before → WentThrough ran.graph.pipes ran.mid new.depot ran.drew ran.draws
        → Then (AsksAll path before) old.depot.asked new.depot.asked
    asks_of_graph before told run =
        Then-map (λ _. Unit {0}) (OpensAll path ran.graph.pipes) (AsksAll path before) old.depot.asked new.depot.asked
        (λ x y u opens text graph at reads.
        subst (λ (g : Graph). OpensAll path g.pipes x y) (one_graph before path text ran.graph graph (rw told at ran.of_text) at reads) opens)
        (always old.depot.asked) (opens_all run)

  -- the other statuses
  other_status : (status : ℕ) (P : Type 0) → (status ≡ 3) ⊎ ((status ≡ 4) ⊎ ((status ≡ 5) ⊎ (status ≡ 7))) → (status ≡ 0) ⊎ ((status ≡ 6) ⊎ (status ≡ 8)) → P
  other_status status P other is = absurd (elim other [
    | inl three ↦ differ 3 three (omega arith) (omega arith) (omega arith)
    | inr (inl four) ↦ differ 4 four (omega arith) (omega arith) (omega arith)
    | inr (inr (inl five)) ↦ differ 5 five (omega arith) (omega arith) (omega arith)
    | inr (inr (inr seven)) ↦ differ 7 seven (omega arith) (omega arith) (omega arith)
  ])
    where
      differ : (n : ℕ) → status ≡ n → (n ≡ 0 → ⊥) → (n ≡ 6 → ⊥) → (n ≡ 8 → ⊥) → ⊥
      differ n same not_zero not_six not_eight = elim is [
        | inl zero ↦ not_zero (sym same ∙ zero)
        | inr (inl six) ↦ not_six (sym same ∙ six)
        | inr (inr eight) ↦ not_eight (sym same ∙ eight)
      ]

  asked_by : (before : Held) (ending : Ending) (status : ℕ) → old.depot.held ≡ Some before → HasCauses path old.depot new.depot ending
      → TellsEnding old.err new.err ending status → (status ≡ 0) ⊎ ((status ≡ 6) ⊎ (status ≡ 8)) → Then (AsksAll path before) old.depot.asked new.depot.asked
  asked_by before Whole status told causes tells is =
      asks_of_graph Whole causes before told (whole_through causes.graph.pipes causes.mid new.depot causes.drew causes.draws causes.outcome causes.ran (sym causes.so))
  asked_by before (Faulty (faults.BadFrame name offset)) status told causes tells is =
      asks_of_graph _ causes before told (ran_bad causes.graph.pipes causes.mid new.depot causes.drew causes.draws causes.outcome causes.ran name offset causes.so).run
  asked_by before (Faulty (faults.TooLong name limit)) status told causes tells is =
      asks_of_graph _ causes before told (ran_long causes.graph.pipes causes.mid new.depot causes.drew causes.draws causes.outcome causes.ran name limit causes.so).run
  asked_by before NoMemory status told causes tells is = other_status status _ (inr (inr (inr tells.status_is))) is
  asked_by before (Faulty faults.Usage) status told causes tells is = absurd causes
  asked_by before (Faulty (faults.Graph refusal)) status told causes tells is =
      other_status status _ (elim (refusal_status refusal status causes.of_text (told_status tells)) [ inl three ↦ inl three | inr seven ↦ inr (inr (inr seven)) ]) is
  asked_by before (Faulty faults.ReadGraph) status told causes tells is =
      other_status status _ (elim (told_status tells) [ inl four ↦ inr (inl four) | inr seven ↦ inr (inr (inr seven)) ]) is
  asked_by before (Faulty (faults.Read name)) status told causes tells is =
      other_status status _ (elim (told_status tells) [ inl four ↦ inr (inl four) | inr seven ↦ inr (inr (inr seven)) ]) is
  asked_by before (Faulty (faults.Write name)) status told causes tells is =
      other_status status _ (elim (told_status tells) [ inl five ↦ inr (inr (inl five)) | inr seven ↦ inr (inr (inr seven)) ]) is
  asked_by before (Faulty faults.WriteReport) status told causes tells is = absurd causes

  pub asks_all : (status : ℕ) → Runs path old new status → (status ≡ 0) ⊎ ((status ≡ 6) ⊎ (status ≡ 8))
      → IfSome old.depot.held (λ before. Then (AsksAll path before) old.depot.asked new.depot.asked)
  asks_all status runs is = where_held (λ before. Then (AsksAll path before) old.depot.asked new.depot.asked)
      (λ before told. asked_by before runs.explained.ending status told runs.explained.causes runs.explained.fault_text is)
