-- A whole run: each pipe came to a whole end, and each path was closed without a fault.
use Rattle.std.proofs.Common.{◌≡◌, ◌⊎◌, inl, inr, ℕ, ◌<◌, ◌&&◌, List, [], ◌∷◌, ◌++◌, length, map, count_by, Bool, true, false, Option, Some, None, slice_get, refl, sym, ap, ◌∙◌, arith, append_assoc}
use Rattle.std.specs.Prelude.{option_and_then, unwrap_or}
use Rattle.std.specs.List.{All, Contains, filter}
use Rattle.std.specs.Option.{option_map_or}
use Rattle.std.proofs.Math.Path.{fun_ext}
use Rattle.std.proofs.lemmas.Bool.{cases_Bool}
use Rattle.std.proofs.lemmas.List.Elements.{All-append, All-contains, All-contains_itself, All-weaker, filter_passes}
use Rattle.up_engine.specs.Entries.{entries_at, entry_at, path_places}
use Rattle.up_engine.specs.Runs.{Marked, RanGraph, RanThrough, Ways, ending, failures}
use Rattle.up_engine.specs.declared.run_outcome.RunOutcome.{RunOutcome}
use Rattle.up_engine.specs.declared.run_outcome.RunOutcome.TheVariants as runs
use Rattle.up_model.proofs.WellFormed.{there}
use Rattle.up_model.specs.Ends.{is_sink, is_source}
use Rattle.up_model.specs.Inputs.{PipeTest, ends_at_source, passes_at, places}
use Rattle.up_model.specs.Outcomes.{deciding, is_cause, outcome_behind, own_outcome, source_outcome_at}
use Rattle.up_model.specs.Plans.{ends_at_sink}
use Rattle.up_model.specs.declared.kind.Kind.{Kind}
use Rattle.up_model.specs.declared.kind.Kind.TheVariants.{Source, Sink}
use Rattle.up_model.specs.declared.outcome.Outcome.{Outcome}
use Rattle.up_model.specs.declared.outcome.Outcome.TheVariants as outcomes
use Rattle.up_model.specs.declared.pipe.Pipe.{Pipe}
use Rattle.up_model.specs.declared.tally.Tally.{Tally}
use Rattle.up_outside.specs.Asked.{entry}
use Rattle.up_outside.specs.States.{DepotState}
use Rattle.up_outside.specs.Told.{Then}
use Rattle.up_outside.specs.declared.asked.Entry.{Entry}
use Rattle.up_outside.specs.declared.asked.Mark.{Mark}
use Rattle.up_outside.specs.declared.asked.Mark.TheVariants.{Closed}
use Rattle.up_outside.specs.declared.asked.Side.TheVariants as sides
use Rattle.up_outside.proofs.Told.{Then-map, Then-trans, always}
use Rattle.up_report.specs.declared.fault.Fault.TheVariants as faults
use Rattle.up_shape.specs.Stores.{StoreState}
use Rattle.upipe_run.specs.Endings.{ending_of, ending_told}
use Rattle.upipe_run.specs.Laws.{AreWhole, ClosesAll, RanClean}
use Rattle.upipe_run.specs.Runs.{HasCauses, RanFile, Runs}
use Rattle.upipe_run.specs.Seen.{Seen}
use Rattle.upipe_run.specs.Tells.{TellsEnding}
use Rattle.upipe_run.specs.declared.ending.Ending.{Ending}
use Rattle.upipe_run.specs.declared.ending.Ending.TheVariants as endings
use Rattle.upipe_run.proofs.Drained.{told_status}
use Rattle.upipe_run.proofs.Decided.{HasPath}
use Rattle.upipe_run.proofs.Deciding.{each_told, no_cause, none_decides}
use Rattle.upipe_run.proofs.RanFiles.{paths_within, refused_told}
use Rattle.upipe_run.proofs.RunLaws.{moved_by, refusal_status, same_entries}
use Rattle.upipe_run.proofs.WholeRuns.{own_whole, sink_clean, source_clean, source_whole}

-- where nothing passes there is nothing to count
count_none : {X : Type 0} (test : X → Bool) (xs : List X) → ((x : X) → test x ≡ false) → count_by test xs ≡ 0
count_none test [] none = refl
count_none test (x ∷ xs) none = let first = none x in let later = count_none test xs none in rw (first, later) refl

neither : (one other : Bool) → (one ≡ true → other ≡ false) → (one && other) ≡ false
neither true other none = none refl
neither false other none = refl

module _ (pipes : List Pipe) where
  passing_end : (test : PipeTest) (place : ℕ) (pipe : Pipe) → slice_get pipes place ≡ Some pipe → passes_at test pipes place ≡ true → test pipes place pipe ≡ true
  passing_end test place pipe at passes = rw at at passes

  abbrev EndsThere : ℕ → Type 0
  EndsThere place = (pipe : Pipe) → slice_get pipes place ≡ Some pipe → HasPath pipe.kind

  -- the pipes whose paths are opened have one
  paths_have : All EndsThere (path_places pipes)
  paths_have = All-append EndsThere (filter (passes_at ends_at_source pipes) (places pipes)) (filter (passes_at ends_at_sink pipes) (places pipes))
      (All-weaker (λ place. passes_at ends_at_source pipes place ≡ true) EndsThere (λ place passes pipe at. inl (passing_end ends_at_source place pipe at passes)) _
      (filter_passes (passes_at ends_at_source pipes) (places pipes)))
      (All-weaker (λ place. passes_at ends_at_sink pipes place ≡ true) EndsThere (λ place passes pipe at. inr (passing_end ends_at_sink place pipe at passes)) _
      (filter_passes (passes_at ends_at_sink pipes) (places pipes)))

  module _ (ways : Ways) (none : (place : ℕ) (pipe : Pipe) → slice_get pipes place ≡ Some pipe → is_cause (ending pipes ways place) ≡ false) where
    -- where no pipe has a cause, each came to a whole end
    whole_end : (place : ℕ) → ending pipes ways place ≡ outcomes.Whole
    whole_end place = by (slice_get pipes place) refl
      where
        behind : outcome_behind (source_outcome_at pipes ways.failed ways.given place) ≡ outcomes.Whole
        behind = ap outcome_behind (source_whole pipes ways none place)

        by : (pipe : Option Pipe) → slice_get pipes place ≡ pipe
            → unwrap_or (option_and_then (λ (p : Pipe). own_outcome p.kind (ways.failed place) (ways.given place)) pipe)
            (outcome_behind (source_outcome_at pipes ways.failed ways.given place)) ≡ outcomes.Whole
        by None is = behind
        by (Some pipe) is =
            ap (unwrap_or (own_outcome pipe.kind (ways.failed place) (ways.given place))) behind
            ∙ own_whole pipe.kind (ways.failed place) (ways.given place) (outcome_behind (source_outcome_at pipes ways.failed ways.given place)) (rw is at (none place pipe is))

    all_whole : map (ending pipes ways) (places pipes) ≡ map (λ place. outcomes.Whole) (places pipes)
    all_whole = ap (λ (ends : ℕ → Outcome). map ends (places pipes)) (fun_ext whole_end)

    -- and no call on its path failed
    no_failure : (place : ℕ) (pipe : Pipe) → slice_get pipes place ≡ Some pipe → (kind : Kind) → pipe.kind ≡ kind → HasPath kind → ways.failed place ≡ false
    no_failure place pipe at (Source path form limit) is has =
        (source_clean path form limit (ways.failed place) (ways.given place) _ (rw (at, is) at (none place pipe at))).0
    no_failure place pipe at (Sink path form) is has = sink_clean path form (ways.failed place) (ways.given place) _ (rw (at, is) at (none place pipe at))
    no_failure place pipe at kind is (inl source) = absurd (cc)
    no_failure place pipe at kind is (inr sink) = absurd (cc)

    no_failures : (is_such : Kind → Bool) → ((kind : Kind) → is_such kind ≡ true → HasPath kind) → failures pipes ways is_such ≡ 0
    no_failures is_such has = count_none _ (places pipes) (λ place. by place (slice_get pipes place) refl)
      where
        by : (place : ℕ) (pipe : Option Pipe) → slice_get pipes place ≡ pipe
            → (option_map_or (λ (p : Pipe). is_such p.kind) pipe false && ways.failed place) ≡ false
        by place None is = refl
        by place (Some pipe) is = neither (is_such pipe.kind) (ways.failed place) (λ such. no_failure place pipe is pipe.kind refl (has pipe.kind such))

    module _ (shut : (place : ℕ) → ways.shut place ≡ false → ways.failed place ≡ true) (marks : ℕ → Mark) where
      is_shut : (place : ℕ) → ways.failed place ≡ false → ways.shut place ≡ true
      is_shut place clean = elim (cases_Bool (ways.shut place)) [
        | inl is ↦ is
        | inr not ↦ absurd (let wrong : true ≡ false = sym (shut place not) ∙ clean in cc)
      ]

      clean_mark : (place : ℕ) (pipe : Pipe) → slice_get pipes place ≡ Some pipe → HasPath pipe.kind → Marked pipes ways marks place pipe
          → marks place ≡ Closed (moved_by (marks place)) false true
      clean_mark place pipe at has marked =
          let clean = no_failure place pipe at pipe.kind refl has in
          let closed = is_shut place clean in
          rw (marked.is, clean, closed) refl

      clean_entries : ((place : ℕ) (pipe : Pipe) → slice_get pipes place ≡ Some pipe → Contains (path_places pipes) place → Marked pipes ways marks place pipe)
          → entries_at pipes marks (path_places pipes) ≡ entries_at pipes (λ place. Closed (moved_by (marks place)) false true) (path_places pipes)
      clean_entries told = same_entries _ _ (path_places pipes) (All-weaker (Contains (path_places pipes)) _
          (λ place is.
          let pipe = there pipes place (All-contains (λ place. place < length pipes) (path_places pipes) place (paths_within pipes) is) in
          let has = All-contains EndsThere (path_places pipes) place paths_have is in
          ap (entry_at pipes place) (clean_mark place pipe.0 pipe.1 (has pipe.0 pipe.1) (told place pipe.0 pipe.1 is)))
          (path_places pipes) (All-contains_itself (path_places pipes)))

-- what was asked for in a run that is told as whole
abbrev ClosesPaths : List Pipe → List Entry → List Entry → Type 0
ClosesPaths pipes before after = (moved : ℕ → ℕ) × (after ≡ before ++ entries_at pipes (λ place. Closed (moved place) false true) (path_places pipes))

-- a run that is told as whole: how its pipes ended, what was asked for, and the counts
record IsClean (pipes : List Pipe) (outcome : RunOutcome) (old new : DepotState) : Type 0 where
  ended : AreWhole pipes outcome
  closed : Then (ClosesPaths pipes) old.asked new.asked
  sources : new.source_faults ≡ old.source_faults
  sinks : new.sink_faults ≡ old.sink_faults

module _ {F : Type 0} (pipes : List Pipe) (old new : DepotState) (drew draws : StoreState F) where
  clean_through : (ways : Ways) (ends : List Outcome) (tallies : List Tally) → RanThrough pipes ways old new drew draws ends tallies
      → ending_told pipes ends (deciding ends) ≡ endings.Whole → IsClean pipes (runs.Ended ends tallies) old new
  clean_through ways ends tallies ran whole =
      let each = ap length ran.endings ∙ each_told pipes (ending pipes ways) in
      let none = no_cause pipes (ending pipes ways) (rw ran.endings at (none_decides pipes ends each whole)) in
      record {
        ended = ran.endings ∙ all_whole pipes ways none;
        closed = Then-map (λ _. Unit {0}) _ (ClosesPaths pipes) old.asked new.asked
            (λ before after u grown.
            (λ place. moved_by (grown.0 place), grown.1 ∙ ap (λ l. before ++ l) (clean_entries pipes ways none ran.shut grown.0 grown.2)))
            (always old.asked) ran.entries;
        sources = ran.sources.stays (no_failures pipes ways none is_source (λ kind is. inl is));
        sinks = ran.sinks.stays (no_failures pipes ways none is_sink (λ kind is. inr is));
      }

  clean : (outcome : RunOutcome) → RanGraph pipes old new drew draws outcome → ending_of pipes outcome ≡ endings.Whole → IsClean pipes outcome old new
  clean runs.NoMemory ran whole = absurd (cc)
  clean (runs.Ended ends tallies) ran whole = elim ran.to [
    | inl (ways, through) ↦ clean_through ways ends tallies through whole
    | inr stopped ↦ absurd (refused_told pipes old new drew draws ends tallies stopped whole)
  ]

no_zero : (status n : ℕ) → (status ≡ n) ⊎ (status ≡ 7) → 0 < n → status ≡ 0 → ⊥
no_zero status n (inl is) some zero = omega arith
no_zero status n (inr seven) some zero = omega arith

module _ (path : List ℕ) (old new : Seen) where
  ran_clean : RanFile path old.depot new.depot endings.Whole → RanClean path old.depot new.depot
  ran_clean ran =
      let pipes = ran.graph.pipes in
      let is = clean pipes ran.mid new.depot ran.drew ran.draws ran.outcome ran.ran (sym ran.so) in
      record {
        ran = ran;
        ended = is.ended;
        closed = Then-trans _ (ClosesPaths pipes) (ClosesAll path pipes) old.depot.asked ran.mid.asked new.depot.asked
            (λ x y z asks grown. record {
              read = asks.0;
              moved = grown.0;
              told =
                  let file = entry path sides.Source (Closed asks.0 false true) in
                  grown.1 ∙ rw asks.2 (append_assoc x (file ∷ []) (entries_at pipes (λ place. Closed (grown.0 place) false true) (path_places pipes)));
            }) ran.read.asked is.closed;
        sources = is.sources ∙ ran.read.counts.sources.stays refl;
        sinks = is.sinks ∙ ran.read.counts.sinks.stays refl;
      }

  clean_by : (ending : Ending) (status : ℕ) → HasCauses path old.depot new.depot ending → TellsEnding old.err new.err ending status → status ≡ 0
      → RanClean path old.depot new.depot
  clean_by endings.Whole status causes tells zero = ran_clean causes
  clean_by endings.NoMemory status causes tells zero = absurd (no_zero status 7 (inr tells.status_is) (omega arith) zero)
  clean_by (endings.Faulty faults.Usage) status causes tells zero = absurd causes
  clean_by (endings.Faulty (faults.Graph refusal)) status causes tells zero =
      absurd (no_zero status 3 (refusal_status path old new refusal status causes.of_text (told_status tells)) (omega arith) zero)
  clean_by (endings.Faulty faults.ReadGraph) status causes tells zero = absurd (no_zero status 4 (told_status tells) (omega arith) zero)
  clean_by (endings.Faulty (faults.Read name)) status causes tells zero = absurd (no_zero status 4 (told_status tells) (omega arith) zero)
  clean_by (endings.Faulty (faults.Write name)) status causes tells zero = absurd (no_zero status 5 (told_status tells) (omega arith) zero)
  clean_by (endings.Faulty faults.WriteReport) status causes tells zero = absurd causes
  clean_by (endings.Faulty (faults.BadFrame name offset)) status causes tells zero = absurd (no_zero status 6 (told_status tells) (omega arith) zero)
  clean_by (endings.Faulty (faults.TooLong name limit)) status causes tells zero = absurd (no_zero status 8 (told_status tells) (omega arith) zero)

  pub are_clean : (status : ℕ) → Runs path old new status → status ≡ 0 → RanClean path old.depot new.depot
  are_clean status runs zero = clean_by runs.explained.ending status runs.explained.causes runs.explained.fault_text zero
