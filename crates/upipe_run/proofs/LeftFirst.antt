-- What lies at the paths of sinks whose close was Ok, however the run ended.
use Rattle.std.proofs.Common.{◌≡◌, inl, inr, ℕ, List, [], ◌∷◌, ◌++◌, take, Bool, true, false, not, Option, Some, None, Result, Ok, Err, slice_get, refl, sym, ap, subst, ◌∙◌, append-nil, append_assoc}
use Rattle.std.specs.FinMap.{get}
use Rattle.std.specs.List.{All, Contains}
use Rattle.std.specs.Option.{option_map_or}
use Rattle.std.proofs.lemmas.List.{append_cancel_left}
use Rattle.std.proofs.lemmas.List.Elements.{All-append, All-cons, All-contains, All-contains_itself, All-map, All-nil, All-weaker}
use Rattle.up_base.specs.Lists.{IsPrefix}
use Rattle.up_base.specs.declared.refusal.Refusal.{Refusal}
use Rattle.up_base.specs.declared.refusal.Refusal.TheVariants as refusals
use Rattle.up_engine.specs.Entries.{entries_at, entry_at, entry_of, path_places}
use Rattle.up_engine.specs.Runs.{RanGraph, RanShort, RanThrough, StoppedThere, Ways, held_bytes}
use Rattle.up_engine.specs.declared.run_outcome.RunOutcome.{RunOutcome}
use Rattle.up_engine.specs.declared.run_outcome.RunOutcome.TheVariants as runs
use Rattle.up_graph.specs.Graph.{graph_of}
use Rattle.up_model.specs.Ends.{is_sink, path_of}
use Rattle.up_model.specs.Meaning.{sink_bytes}
use Rattle.up_model.specs.Outcomes.{source_flows}
use Rattle.up_model.specs.WellFormed.{IsWellFormed}
use Rattle.up_model.specs.declared.graph.Graph.{Graph}
use Rattle.up_model.specs.declared.kind.Kind.{Kind}
use Rattle.up_model.specs.declared.kind.Kind.TheVariants.{Sink}
use Rattle.up_model.specs.declared.outcome.Outcome.{Outcome}
use Rattle.up_model.specs.declared.pipe.Pipe.{Pipe}
use Rattle.up_model.specs.declared.tally.Tally.{Tally}
use Rattle.up_outside.specs.Asked.{entry}
use Rattle.up_outside.specs.Held.{Held}
use Rattle.up_outside.specs.States.{DepotState}
use Rattle.up_outside.specs.Told.{Then}
use Rattle.up_outside.specs.declared.asked.Entry.{Entry}
use Rattle.up_outside.specs.declared.asked.Mark.{Mark}
use Rattle.up_outside.specs.declared.asked.Mark.TheVariants.{Refused, Open, Closed}
use Rattle.up_outside.specs.declared.asked.Side.TheVariants as sides
use Rattle.up_report.specs.declared.fault.Fault.TheVariants as faults
use Rattle.up_shape.specs.Stores.{StoreState}
use Rattle.upipe_run.specs.GraphText.{AsksText}
use Rattle.upipe_run.specs.Laws.{LeavesFirst, LiesFirst}
use Rattle.upipe_run.specs.Runs.{HasCauses, RanFile, ReadsFile, Runs}
use Rattle.upipe_run.specs.Seen.{Seen}
use Rattle.upipe_run.specs.declared.ending.Ending.{Ending}
use Rattle.upipe_run.specs.declared.ending.Ending.TheVariants as endings
use Rattle.upipe_run.proofs.RunLaws.{of_told, one_graph}
use Rattle.upipe_run.proofs.DueFirst.{due_first, prefix_on}

-- what is told stands so
pub then_told : {X : Type 0} (R : X → X → Type 0) (a b : Option X) (x y : X) → a ≡ Some x → b ≡ Some y → Then R a b → R x y
then_told R a b x y is also change = rw (is, also) at change

-- what is told stays told
pub then_between : {X : Type 0} (R : X → X → Type 0) (a b : Option X) (x : X) → a ≡ Some x → Then R a b → (y : X) × (b ≡ Some y) × R x y
then_between R a None x is one = absurd (rw is at one)
then_between R a (Some y) x is one = (y, refl, rw is at one)

-- the mark of a close that was Ok
abbrev is_shut : Mark → Bool
is_shut Refused = false
is_shut Open = false
is_shut (Closed moved failed shut) = shut

-- an entry that says that a sink's close was Ok
abbrev IsShutSink : Entry → List ℕ → Type 0
IsShutSink e other = (moved : ℕ) × (failed : Bool) × (e ≡ entry other sides.Sink (Closed moved failed true))

of_sink : (kind : Kind) (mark : Mark) (other : List ℕ) → IsShutSink (entry_of kind mark) other
    → (is_sink kind ≡ true) × (path_of kind ≡ Some other) × (is_shut mark ≡ true)
of_sink (Sink path form) mark other is =
    (refl, ap (λ (e : Entry). Some e.path) is.2, ap (λ (e : Entry). is_shut e.mark) is.2)
of_sink kind mark other is = absurd (let wrong : sides.Source ≡ sides.Sink = ap (λ (e : Entry). e.side) is.2 in cc)

-- so it is of the entry that is a source's
no_shut_sink : (path other : List ℕ) (mark : Mark) → IsShutSink (entry path sides.Source mark) other → ⊥
no_shut_sink path other mark is = let wrong : sides.Source ≡ sides.Sink = ap (λ (e : Entry). e.side) is.2 in cc

module _ (pipes : List Pipe) (before after : Held) where
  -- what is so of an entry
  abbrev IsRight : Entry → Type 0
  IsRight e = (other : List ℕ) → IsShutSink e other → LiesFirst pipes before after other

  -- what lies at the path of the pipe at a place, where the mark says that it was closed
  abbrev LeftAt : ℕ → Mark → Type 0
  LeftAt place mark = (pipe : Pipe) (other : List ℕ) → slice_get pipes place ≡ Some pipe → is_sink pipe.kind ≡ true → path_of pipe.kind ≡ Some other → is_shut mark ≡ true
      → (bytes : List ℕ) × (get after other ≡ Some bytes) × IsPrefix bytes (sink_bytes pipes (source_flows pipes (held_bytes before pipes)) pipe)

  source_right : (path : List ℕ) (mark : Mark) → IsRight (entry path sides.Source mark)
  source_right path mark other is = absurd (no_shut_sink path other mark is)

  right_by : (place : ℕ) (mark : Mark) → LeftAt place mark → (pipe : Option Pipe) → slice_get pipes place ≡ pipe
      → IsRight (option_map_or (λ (p : Pipe). entry_of p.kind mark) pipe (entry [] sides.Source mark))
  right_by place mark left None at other is = source_right [] mark other is
  right_by place mark left (Some pipe) at other is =
      let sink = of_sink pipe.kind mark other is in
      let lies = left pipe other at sink.0 sink.1 sink.2 in
      record { place = place; pipe = pipe; stands = at; sink = sink.0; on_path = sink.1; bytes = lies.0; held = lies.1; first = lies.2 }

  right_at : (place : ℕ) (mark : Mark) → LeftAt place mark → IsRight (entry_at pipes place mark)
  right_at place mark left = right_by place mark left (slice_get pipes place) refl

  -- what is so of each entry of a list of places
  all_right : (marks : ℕ → Mark) (places : List ℕ) → ((place : ℕ) → Contains places place → LeftAt place (marks place)) → All IsRight (entries_at pipes marks places)
  all_right marks places left =
      All-map IsRight (λ place. entry_at pipes place (marks place)) places
      (All-weaker (Contains places) (λ place. IsRight (entry_at pipes place (marks place))) (λ place there. right_at place (marks place) (left place there)) places (All-contains_itself places))

-- the entries that were added
abbrev Adds : (Entry → Type 0) → List Entry → List Entry → Type 0
Adds Is before after = (added : List Entry) × (after ≡ before ++ added) × All Is added

added_are : (Is : Entry → Type 0) (before added : List Entry) → Adds Is before (before ++ added) → All Is added
added_are Is before added adds = subst (All Is) (sym (append_cancel_left before added adds.0 adds.1)) adds.2

module _ (pipes : List Pipe) (well : IsWellFormed pipes) (old new : DepotState) (held after : Held) (told : old.held ≡ Some held) (told_after : new.held ≡ Some after)
    (x y : List Entry) (asked : old.asked ≡ Some x) (asked_after : new.asked ≡ Some y) where
  abbrev Right : Entry → Type 0
  Right = IsRight pipes held after

  module _ {F : Type 0} (drew draws : StoreState F) where
    -- all paths were opened
    through_right : (ways : Ways) (ends : List Outcome) (tallies : List Tally) → RanThrough pipes ways old new drew draws ends tallies → Adds Right x y
    through_right ways ends tallies ran =
        let gave = of_told _ old.held held told ran.gave in
        let wrote = then_told _ old.held new.held held after told told_after ran.wrote in
        let entries = then_told _ old.asked new.asked x y asked asked_after ran.entries in (
          entries_at pipes entries.0 (path_places pipes),
          entries.1,
          all_right pipes held after entries.0 (path_places pipes)
              (λ place there pipe other at sink on shut.
              let marked = entries.2 place pipe at there in
              let lies = (wrote place pipe at sink).there other on (ap is_shut (sym marked.is) ∙ shut) in
              (lies.0, lies.1, prefix_on lies.0 _ _ lies.2 (due_first pipes well ways held gave place pipe at sink))),
        )

  -- an open was refused
  stopped_right : (ends : List Outcome) (tallies : List Tally) → StoppedThere pipes old new ends tallies → Adds Right x y
  stopped_right ends tallies stopped =
      let place = stopped.place in
      let count = stopped.count in
      let shut = stopped.shut in
      let empty = then_told _ old.held new.held held after told told_after stopped.empty in
      let entries = then_told _ old.asked new.asked x y asked asked_after stopped.entries in
      let marks = λ (other : ℕ). Closed 0 (not (shut other)) (shut other) in (
        entries_at pipes marks (take count (path_places pipes)) ++ entry_at pipes place Refused ∷ [],
        entries,
        All-append Right _ _
            (all_right pipes held after marks (take count (path_places pipes))
            (λ opened there pipe other at sink on is. ([], empty opened pipe other there at sink is on, (sink_bytes pipes (source_flows pipes (held_bytes held pipes)) pipe, refl))))
            (All-cons Right _ [] (right_at pipes held after place Refused (λ pipe other at sink on is. absurd (cc))) (All-nil Right)),
      )

  -- memory ran out
  short_right : RanShort pipes old new → Adds Right x y
  short_right ran =
      let first = then_told _ old.held new.held held after told told_after ran.first in
      let entries = then_told _ old.asked new.asked x y asked asked_after ran.entries in
      let marks = λ (place : ℕ). Closed (ran.moved place) (ran.failed place) (ran.shut place) in (
        entries_at pipes marks (take ran.count (path_places pipes)),
        entries,
        all_right pipes held after marks (take ran.count (path_places pipes))
            (λ place there pipe other at sink on shut. first place pipe other there at sink shut on),
      )

  ran_right : {F : Type 0} (drew draws : StoreState F) (outcome : RunOutcome) → RanGraph pipes old new drew draws outcome → Adds Right x y
  ran_right drew draws runs.NoMemory ran = short_right ran.to
  ran_right drew draws (runs.Ended ends tallies) ran = elim ran.to [
    | inl (ways, through) ↦ through_right drew draws ways ends tallies through
    | inr stopped ↦ stopped_right ends tallies stopped
  ]

one_right : (path : List ℕ) (pipes : List Pipe) (before after : Held) (mark : Mark) → All (IsRight pipes before after) (entry path sides.Source mark ∷ [])
one_right path pipes before after mark =
    All-cons (IsRight pipes before after) (entry path sides.Source mark) [] (source_right pipes before after path mark) (All-nil (IsRight pipes before after))

-- of a graph file that was read, or not, nothing but its own entry is told
file_right : (path : List ℕ) (most : ℕ) (pipes : List Pipe) (before after : Held) (result : Result (Unit {0}) Refusal) (x y : List Entry) → AsksText path most result x y
    → Adds (IsRight pipes before after) x y
file_right path most pipes before after (Ok text) x y asks =
    let mark = Closed asks.0 false true in
    (entry path sides.Source mark ∷ [], asks.2, one_right path pipes before after mark)
file_right path most pipes before after (Err refusals.Failed) x y asks = elim asks [
  | inl refused ↦ (entry path sides.Source Refused ∷ [], refused, one_right path pipes before after Refused)
  | inr (n, few, closed) ↦ (entry path sides.Source (Closed n true true) ∷ [], closed, one_right path pipes before after (Closed n true true))
]
file_right path most pipes before after (Err refusals.NoMemory) x y asks = ([], asks ∙ sym (append-nil x), All-nil (IsRight pipes before after))

-- entries that were added one after the other
both_add : (Is : Entry → Type 0) (x y z : List Entry) → Adds Is x y → Adds Is y z → Adds Is x z
both_add Is x y z one two = (one.0 ++ two.0, two.1 ∙ ap (λ l. l ++ two.0) one.1 ∙ append_assoc x one.0 two.0, All-append Is one.0 two.0 one.2 two.2)

module _ (path : List ℕ) (old new : DepotState) (before after : Held) (told : old.held ≡ Some before) (told_after : new.held ≡ Some after)
    (x y : List Entry) (asked : old.asked ≡ Some x) (asked_after : new.asked ≡ Some y) (text : List ℕ) (graph : Graph) (at : get before path ≡ Some text)
    (reads : graph_of text ≡ Ok graph) where
  of_file : (result : Result (Unit {0}) Refusal) → ReadsFile path old new new result → Adds (IsRight graph.pipes before after) x y
  of_file result read = file_right path _ graph.pipes before after result x y (then_told _ old.asked new.asked x y asked asked_after read.asked)

  of_ran : (ending : Ending) → RanFile path old new ending → Adds (IsRight graph.pipes before after) x y
  of_ran ending ran =
      let same : ran.graph ≡ graph = one_graph before path text ran.graph graph (rw told at ran.of_text) at reads in
      let held = ran.read.held ∙ told in
      let through = then_between _ old.asked ran.mid.asked x asked ran.read.asked in
      both_add (IsRight graph.pipes before after) x through.0 y (file_right path _ graph.pipes before after (Ok tt) x through.0 through.2)
      (subst (λ (g : Graph). Adds (IsRight g.pipes before after) through.0 y) same
      (ran_right ran.graph.pipes ran.well ran.mid new before after held told_after through.0 y through.1 asked_after ran.drew ran.draws ran.outcome ran.ran))

  of_ending : (ending : Ending) → HasCauses path old new ending → Adds (IsRight graph.pipes before after) x y
  of_ending endings.Whole causes = of_ran _ causes
  of_ending (endings.Faulty faults.Usage) causes = absurd causes
  of_ending (endings.Faulty (faults.Graph refusal)) causes = of_file _ causes.read
  of_ending (endings.Faulty faults.ReadGraph) causes = of_file _ causes
  of_ending (endings.Faulty (faults.Read pipe)) causes = of_ran _ causes
  of_ending (endings.Faulty (faults.Write pipe)) causes = of_ran _ causes
  of_ending (endings.Faulty faults.WriteReport) causes = absurd causes
  of_ending (endings.Faulty (faults.BadFrame pipe offset)) causes = of_ran _ causes
  of_ending (endings.Faulty (faults.TooLong pipe limit)) causes = of_ran _ causes
  of_ending endings.NoMemory (inl (inl read)) = of_file _ read
  of_ending endings.NoMemory (inl (inr read)) = of_file _ read
  of_ending endings.NoMemory (inr ran) = of_ran _ ran

pub leaves_first : (path : List ℕ) (old new : Seen) (status : ℕ) (before after : Held) (asked added : List Entry) → Runs path old new status
    → old.depot.held ≡ Some before → new.depot.held ≡ Some after → old.depot.asked ≡ Some asked → new.depot.asked ≡ Some (asked ++ added)
    → LeavesFirst path before after added
leaves_first path old new status before after asked added run told told_after is is_after text graph at reads other moved failed there =
    let adds = of_ending path old.depot new.depot before after told told_after asked (asked ++ added) is is_after text graph at reads run.explained.ending run.explained.causes in
    All-contains (IsRight graph.pipes before after) added (entry other sides.Sink (Closed moved failed true)) (added_are (IsRight graph.pipes before after) asked added adds) there other (moved, failed, refl)
