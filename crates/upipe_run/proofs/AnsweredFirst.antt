-- A source that comes first with its outcome decides where no call failed up to it, whatever failed behind it.
use Rattle.std.proofs.Common.{◌≡◌, ◌⊎◌, inl, inr, ℕ, ◌<◌, ◌≤◌, List, [], ◌∷◌, ◌++◌, map, get_or, take, not, true, false, Option, Some, None, IfSome, Ok, Err, slice_get, refl, sym, ap, subst, ◌∙◌, arith, append_assoc}
use Rattle.std.specs.FinMap.{get}
use Rattle.std.specs.List.{All, Contains, filter}
use Rattle.std.specs.Option.{option_map_or}
use Rattle.std.proofs.lemmas.Bool.{cases_lt}
use Rattle.std.proofs.lemmas.List.{append_cancel_left}
use Rattle.std.proofs.lemmas.List.Elements.{All-contains, All-contains_itself, All-cons, All-head, All-nil, Contains-append_left, Contains-append_right}
use Rattle.std.proofs.lemmas.Option.{slice_get_within}
use Rattle.up_base.specs.declared.refusal.Refusal.TheVariants as refusals
use Rattle.up_engine.specs.Entries.{entries_at, entry_at, entry_of, path_places}
use Rattle.up_engine.specs.Runs.{Marked, RanGraph, RanThrough, StoppedThere, Ways, ending}
use Rattle.up_graph.specs.Graph.{graph_of}
use Rattle.up_model.proofs.Members.{filter_has, places_have}
use Rattle.up_model.specs.Ends.{is_sink, is_source}
use Rattle.up_model.specs.Inputs.{ends_at_source, passes_at, places}
use Rattle.up_model.specs.Outcomes.{is_cause}
use Rattle.up_model.specs.Plans.{ends_at_sink}
use Rattle.up_model.specs.declared.graph.Graph.{Graph}
use Rattle.up_model.specs.declared.kind.Kind.{Kind}
use Rattle.up_model.specs.declared.kind.Kind.TheVariants.{Source, Sink}
use Rattle.up_model.specs.declared.outcome.Outcome.{Outcome}
use Rattle.up_model.specs.declared.outcome.Outcome.TheVariants as outcomes
use Rattle.up_model.specs.declared.pipe.Pipe.{Pipe}
use Rattle.up_outside.specs.Asked.{entry}
use Rattle.up_outside.specs.Held.{Held}
use Rattle.up_outside.specs.declared.asked.Entry.{Entry}
use Rattle.up_outside.specs.declared.asked.Mark.{Mark}
use Rattle.up_outside.specs.declared.asked.Mark.TheVariants.{Refused, Open, Closed}
use Rattle.up_outside.specs.declared.asked.Side.TheVariants as sides
use Rattle.upipe_run.specs.FirstCauses.{ComesFirst, IsAnsweredFirst, IsCleanUpTo, has_failed}
use Rattle.upipe_run.specs.Laws.{is_closed}
use Rattle.upipe_run.specs.Runs.{HasGraph, RanFile, ReadsFile, Runs}
use Rattle.upipe_run.specs.Seen.{Seen}
use Rattle.upipe_run.specs.declared.ending.Ending.{Ending}
use Rattle.upipe_run.proofs.Decided.{HasPath, RanFailed, WasRefused, read_failed, write_failed}
use Rattle.upipe_run.proofs.FirstTold.{answered, status_by}
use Rattle.upipe_run.proofs.GivenBytes.{not_whole_too, whole_by}
use Rattle.upipe_run.proofs.LeftFirst.{then_between, then_told}
use Rattle.upipe_run.proofs.RunLaws.{gave_at, of_told, one_graph, where_held}

-- an entry tells its mark
mark_of : (kind : Kind) (mark : Mark) → (entry_of kind mark).mark ≡ mark
mark_of (Source path form limit) mark = refl
mark_of (Sink path form) mark = refl
mark_of kind mark = refl

mark_at : (pipes : List Pipe) (place : ℕ) (mark : Mark) → (entry_at pipes place mark).mark ≡ mark
mark_at pipes place mark = by (slice_get pipes place)
  where
    by : (pipe : Option Pipe) → (option_map_or (λ (p : Pipe). entry_of p.kind mark) pipe (entry [] sides.Source mark)).mark ≡ mark
    by None = refl
    by (Some pipe) = mark_of pipe.kind mark

-- the same entries tell the same marks
same_marks : (pipes : List Pipe) (f g : ℕ → Mark) (some : List ℕ) → entries_at pipes f some ≡ entries_at pipes g some → All (λ place. f place ≡ g place) some
same_marks pipes f g [] same = All-nil (λ place. f place ≡ g place)
same_marks pipes f g (place ∷ some) same =
    let first : entry_at pipes place (f place) ≡ entry_at pipes place (g place) = cc in
    let later : entries_at pipes f some ≡ entries_at pipes g some = cc in
    All-cons (λ place. f place ≡ g place) place some (sym (mark_at pipes place (f place)) ∙ ap (λ (e : Entry). e.mark) first ∙ mark_at pipes place (g place))
    (same_marks pipes f g some later)

abbrev IsClosedEntry : Entry → Type 0
IsClosedEntry e = is_closed e.mark ≡ true

all_closed : (pipes : List Pipe) (marks : ℕ → Mark) → ((place : ℕ) → is_closed (marks place) ≡ true) → (some : List ℕ) → All IsClosedEntry (entries_at pipes marks some)
all_closed pipes marks closed [] = All-nil IsClosedEntry
all_closed pipes marks closed (place ∷ some) =
    All-cons IsClosedEntry (entry_at pipes place (marks place)) (entries_at pipes marks some) (ap is_closed (mark_at pipes place (marks place)) ∙ closed place)
    (all_closed pipes marks closed some)

-- none of them was refused
no_refusal : (pipes : List Pipe) (marks closes : ℕ → Mark) (some all : List ℕ) (place : ℕ) → ((other : ℕ) → is_closed (marks other) ≡ true)
    → entries_at pipes closes some ++ entry_at pipes place Refused ∷ [] ≡ entries_at pipes marks all → ⊥
no_refusal pipes marks closes some all place closed same =
    let each = subst (All IsClosedEntry) (sym same) (all_closed pipes marks closed all) in
    let e = entry_at pipes place Refused in
    let itself : Contains (e ∷ []) e = All-head (Contains (e ∷ [])) e [] (All-contains_itself (e ∷ [])) in
    let last_closed : IsClosedEntry e = All-contains IsClosedEntry (entries_at pipes closes some ++ e ∷ []) e each (Contains-append_right (entries_at pipes closes some) (e ∷ []) e itself) in
    let wrong : false ≡ true = sym (ap is_closed (mark_at pipes place Refused)) ∙ last_closed in
    cc

-- the paths of sources and sinks are opened
is_opened : (pipes : List Pipe) (place : ℕ) (pipe : Pipe) → slice_get pipes place ≡ Some pipe → HasPath pipe.kind → Contains (path_places pipes) place
is_opened pipes place pipe at (inl source) = Contains-append_left _ _ place
    (filter_has (passes_at ends_at_source pipes) (places pipes) place (places_have pipes place (slice_get_within pipes place pipe at)) (rw at source))
is_opened pipes place pipe at (inr sink) = Contains-append_right _ _ place
    (filter_has (passes_at ends_at_sink pipes) (places pipes) place (places_have pipes place (slice_get_within pipes place pipe at)) (rw at sink))

module _ (path : List ℕ) (pipes : List Pipe) (place : ℕ) (asked after : List Entry) (clean : IsCleanUpTo path pipes place asked after) where
  abbrev file : Mark → Entry
  file = entry path sides.Source

  -- no call on the graph file failed
  file_clean : (mark : Mark) → has_failed mark ≡ true → after ≡ asked ++ file mark ∷ [] → ⊥
  file_clean mark failed is =
      let same = append_cancel_left asked (file mark ∷ []) (file clean.opens.first ∷ entries_at pipes clean.opens.marks (path_places pipes)) (sym is ∙ clean.opens.told) in
      let first : file mark ≡ file clean.opens.first = cc in
      let wrong : true ≡ false = sym failed ∙ ap (λ (e : Entry). has_failed e.mark) first ∙ clean.file in
      cc

  -- what was asked for behind it
  behind_file : (mark : Mark) (mid added : List Entry) → mid ≡ asked ++ file mark ∷ [] → after ≡ mid ++ added
      → added ≡ entries_at pipes clean.opens.marks (path_places pipes)
  behind_file mark mid added opens grown =
      let both : asked ++ file mark ∷ added ≡ asked ++ file clean.opens.first ∷ entries_at pipes clean.opens.marks (path_places pipes) =
      sym (append_assoc asked (file mark ∷ []) added) ∙ ap (λ l. l ++ added) (sym opens) ∙ sym grown ∙ clean.opens.told in
      let same = append_cancel_left asked (file mark ∷ added) (file clean.opens.first ∷ entries_at pipes clean.opens.marks (path_places pipes)) both in
      cc

  -- a pipe on whose path a call failed comes behind the place
  failed_behind : (ways : Ways) (marks : ℕ → Mark) → entries_at pipes marks (path_places pipes) ≡ entries_at pipes clean.opens.marks (path_places pipes)
      → ((other : ℕ) (pipe : Pipe) → slice_get pipes other ≡ Some pipe → Contains (path_places pipes) other → Marked pipes ways marks other pipe)
      → (other : ℕ) (pipe : Pipe) → slice_get pipes other ≡ Some pipe → HasPath pipe.kind → ways.failed other ≡ true → place < other
  failed_behind ways marks same marked other pipe at has failed =
      let there = is_opened pipes other pipe at has in
      let mark = marked other pipe at there in
      let as_told : marks other ≡ clean.opens.marks other =
      All-contains (λ p. marks p ≡ clean.opens.marks p) (path_places pipes) other (same_marks pipes marks clean.opens.marks (path_places pipes) same) there in
      elim (cases_lt place other) [
        | inl less ↦ less
        | inr within ↦ absurd (let wrong : true ≡ false = sym failed ∙ sym (ap has_failed mark.is) ∙ ap has_failed as_told ∙ clean.clean other within in cc)
      ]

module _ (path : List ℕ) (old new : Seen) (asked after : List Entry) (asked_is : old.depot.asked ≡ Some asked) (after_is : new.depot.asked ≡ Some after) (before : Held)
    (holds : old.depot.held ≡ Some before) (text : List ℕ) (graph : Graph) (at : get before path ≡ Some text) (reads : graph_of text ≡ Ok graph)
    (place : ℕ) (pipe : Pipe) (told : Outcome) (cause : is_cause told ≡ true) (first : ComesFirst before graph.pipes place pipe told)
    (clean : IsCleanUpTo path graph.pipes place asked after) where
  no_graph_fault : ReadsFile path old.depot new.depot new.depot (Err refusals.Failed) → ⊥
  no_graph_fault reads_file =
      elim (then_told _ old.depot.asked new.depot.asked asked after asked_is after_is reads_file.asked) [
        | inl refused ↦ file_clean path graph.pipes place asked after clean Refused refl refused
        | inr (n, within, closed) ↦ file_clean path graph.pipes place asked after clean (Closed n true true) refl closed
      ]

  module _ (ending : Ending) (ran : RanFile path old.depot new.depot ending) where
    of_graph : ran.graph ≡ graph
    of_graph = one_graph before path text ran.graph graph (of_told (λ (held : Held). HasGraph held path ran.graph) old.depot.held before holds ran.of_text) at reads

    clean_there : IsCleanUpTo path ran.graph.pipes place asked after
    clean_there = subst (λ (g : Graph). IsCleanUpTo path g.pipes place asked after) (sym of_graph) clean

    stands_there : slice_get ran.graph.pipes place ≡ Some pipe
    stands_there = ap (λ (g : Graph). slice_get g.pipes place) of_graph ∙ first.stands

    -- what was asked for in the run of the graph
    ran_entries : (mid added : List Entry) → ran.mid.asked ≡ Some mid → after ≡ mid ++ added → added ≡ entries_at ran.graph.pipes clean_there.opens.marks (path_places ran.graph.pipes)
    ran_entries mid added mid_is grown =
        let file = then_told _ old.depot.asked ran.mid.asked asked mid asked_is mid_is ran.read.asked in
        behind_file path ran.graph.pipes place asked after clean_there (Closed file.0 false true) mid added file.2 grown

    not_failed : RanFailed ran.graph.pipes ran.mid new.depot ran.drew ran.draws → ⊥
    not_failed by =
        let mid = then_between _ old.depot.asked ran.mid.asked asked asked_is ran.read.asked in
        let entries = then_told _ ran.mid.asked new.depot.asked mid.0 after mid.1 after_is by.run.through.entries in
        let same = ran_entries mid.0 (entries_at ran.graph.pipes entries.0 (path_places ran.graph.pipes)) mid.1 entries.1 in
        let behind = failed_behind path ran.graph.pipes place asked after clean_there by.run.ways entries.0 same entries.2 by.place by.pipe by.at by.has_path by.failed in
        let whole = whole_by ran.graph.pipes by.run.ways before place pipe stands_there (gave_at path old new before ending holds ran by.run place pipe stands_there)
        pipe.kind refl (by.earlier place pipe behind stands_there) in
        not_whole_too before pipe.kind told first.source cause whole

    not_stopped : WasRefused ran.graph.pipes ran.mid new.depot ran.drew ran.draws → ⊥
    not_stopped (ends, tallies, stopped) =
        let mid = then_between _ old.depot.asked ran.mid.asked asked asked_is ran.read.asked in
        let grown = then_told _ ran.mid.asked new.depot.asked mid.0 after mid.1 after_is stopped.entries in
        no_refusal ran.graph.pipes clean_there.opens.marks _ (take stopped.count (path_places ran.graph.pipes)) (path_places ran.graph.pipes) stopped.place
        clean_there.opens.all_closed (ran_entries mid.0 _ mid.1 grown)

    neither : RanFailed ran.graph.pipes ran.mid new.depot ran.drew ran.draws ⊎ WasRefused ran.graph.pipes ran.mid new.depot ran.drew ran.draws → ⊥
    neither (inl failed) = not_failed failed
    neither (inr stopped) = not_stopped stopped

  by_entries : (status : ℕ) → Runs path old new status → (status ≡ status_by path old new told) ⊎ (status ≡ 7)
  by_entries status runs =
      answered path old new before holds text graph at reads place pipe told cause first runs.explained.ending status runs.explained.causes runs.explained.fault_text runs.whole_output
      no_graph_fault
      (λ name ran. neither _ ran (read_failed ran.graph.pipes ran.mid new.depot ran.drew ran.draws ran.outcome ran.ran name ran.so))
      (λ name ran. neither _ ran (write_failed ran.graph.pipes ran.mid new.depot ran.drew ran.draws ran.outcome ran.ran name ran.so))

module _ (path : List ℕ) (old new : Seen) (asked after : List Entry) (asked_is : old.depot.asked ≡ Some asked) (after_is : new.depot.asked ≡ Some after) (status : ℕ)
    (runs : Runs path old new status) where
  pub bad_frame_first : IfSome old.depot.held (IsAnsweredFirst outcomes.BadFrame 6 path asked after status)
  bad_frame_first = where_held path old new (IsAnsweredFirst outcomes.BadFrame 6 path asked after status)
      (λ before holds text graph at reads place offset pipe first clean.
      by_entries path old new asked after asked_is after_is before holds text graph at reads place pipe (outcomes.BadFrame offset) refl first clean status runs)

  pub too_long_first : IfSome old.depot.held (IsAnsweredFirst outcomes.TooLong 8 path asked after status)
  too_long_first = where_held path old new (IsAnsweredFirst outcomes.TooLong 8 path asked after status)
      (λ before holds text graph at reads place limit pipe first clean.
      by_entries path old new asked after asked_is after_is before holds text graph at reads place pipe (outcomes.TooLong limit) refl first clean status runs)
