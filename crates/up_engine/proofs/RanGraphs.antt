-- A run of a graph, by where its opening stopped.
use Rattle.std.specs.Prelude.{OnOk}
use Rattle.std.proofs.Common.{◌≡◌, ℕ, ◌<◌, List, length, set, drop, get_or, replicate, true, false, Option, Some, Result, Ok, Err, slice_get, refl, sym, ap, ◌∙◌, subst, arith, append-nil, inl, inr}
use Rattle.std.specs.Option.{option_map_or}
use Rattle.std.proofs.lemmas.List.{get_or-replicate, length-replicate}
use Rattle.std.proofs.lemmas.Option.{same_Some, slice_get-get_or, slice_get_cases, slice_get_within}
use Rattle.up_base.specs.declared.refusal.NoMemory.{NoMemory as NoMemoryFound}
use Rattle.up_engine.proofs.ClosedWays.{ways_closed}
use Rattle.up_engine.proofs.HeldAfter.{others_closed}
use Rattle.up_engine.proofs.LeftOpen.{LeftOpen, left_alone, left_carried, place_same}
use Rattle.up_engine.proofs.Opened.{still}
use Rattle.up_engine.proofs.OpenedAndClosed.{can_close}
use Rattle.up_engine.proofs.PathPlaces.{path_place_stands}
use Rattle.up_engine.proofs.StoppedAtRefusal.{stopped_there}
use Rattle.up_engine.proofs.StoppedShort.{stopped_short}
use Rattle.up_engine.proofs.WentThrough.{went_through}
use Rattle.up_engine.specs.Carried.{CarriedBy, CarriedShort}
use Rattle.up_engine.specs.Engine.{CanClose, OpenedIn, TakesTurns, told_opened}
use Rattle.up_engine.specs.Entries.{KeepsOtherPaths, KeepsPathsOf, path_places}
use Rattle.up_engine.specs.Objects.{AreThere, Closes, Opens, object_at}
use Rattle.up_engine.specs.Rooms.{AreClosed, AreMadeFor, answer_of}
use Rattle.up_engine.specs.Runs.{RanGraph, RanTo, Ways, fault_of}
use Rattle.up_engine.specs.declared.object.Object.{Object}
use Rattle.up_engine.specs.declared.object.Object.TheVariants as objects
use Rattle.up_engine.specs.declared.opening.Opening.{Opening}
use Rattle.up_engine.specs.declared.opening.Opening.TheVariants.{All, Refused, NoMemory}
use Rattle.up_engine.specs.declared.rooms.Rooms.{Rooms}
use Rattle.up_engine.specs.declared.run_outcome.RunOutcome.TheVariants as answers
use Rattle.up_model.specs.Tallies.{nothing}
use Rattle.up_model.specs.WellFormed.{IsWellFormed}
use Rattle.up_model.specs.declared.outcome.Outcome.{Outcome}
use Rattle.up_model.specs.declared.outcome.Outcome.TheVariants as outcomes
use Rattle.up_model.specs.declared.pipe.Pipe.{Pipe}
use Rattle.up_model.specs.declared.tally.Tally.{Tally}
use Rattle.up_outside.specs.States.{DepotState, SourceState, SinkState}
use Rattle.up_shape.specs.Stores.{StoreState}

-- no open was asked for
pub none_asked : {F : Type 0} (pipes : List Pipe) (depot : DepotState) (store : StoreState F) → RanGraph pipes depot depot store store answers.NoMemory
none_asked pipes depot store = record {
  others = still (KeepsOtherPaths pipes) (λ held path free. refl) depot.held;
  to = record {
    count = 0;
    moved = λ place. 0;
    failed = λ place. false;
    shut = λ place. true;
    entries = still _ (λ asked. sym (append-nil asked)) depot.asked;
    within = λ place pipe path form limit is of. (omega arith, λ fails. omega arith);
    first = still _ (λ held place pipe path among is sink shut of. let below = among.1 in absurd (omega (arith, below))) depot.held;
    untouched = still (KeepsPathsOf pipes (drop 1 (path_places pipes))) (λ held place pipe path behind is of. refl) depot.held;
    sources = omega arith;
    sinks = omega arith;
  };
}

module _ {S K : Type 0} (reads : S → SourceState) (writes : K → SinkState) (pipes : List Pipe) where
  -- before the first open nothing stands anywhere
  pub none_opened : (table : List (Object S K)) → table ≡ replicate (length pipes) objects.None → AreThere reads writes pipes 0 table
  none_opened table none = record {
    size = ap length none ∙ length-replicate (length pipes) objects.None;
    kinds = λ place pipe is. ap (λ (l : List (Object S K)). object_at l place) none
        ∙ get_or-replicate (length pipes) place objects.None objects.None (slice_get_within pipes place pipe is);
  }

  module _ (old mid : DepotState) (opened : List (Object S K)) where
    -- where all were opened
    pub all_there : (table : List (Object S K)) → table ≡ opened → Opens reads writes pipes old mid opened All
        → AreThere reads writes pipes (length (path_places pipes)) table
    all_there table same opens =
        subst (λ (n : ℕ). AreThere reads writes pipes n table) opens.stops (subst (AreThere reads writes pipes opens.count) (sym same) opens.there)

    -- the pipe whose open was refused
    pub refused_within : (place : ℕ) → Opens reads writes pipes old mid opened (Refused place) → place < length pipes
    refused_within place opens =
        let inside = slice_get_within (path_places pipes) opens.count place opens.stops in
        let at = path_place_stands pipes opens.count inside in
        let is : get_or (path_places pipes) opens.count 0 ≡ place =
        same_Some _ place (sym (slice_get-get_or (path_places pipes) opens.count 0 inside) ∙ opens.stops) in
        slice_get_within pipes place at.pipe (ap (slice_get pipes) (sym is) ∙ at.there)

    -- what was opened can be closed, whatever was carried
    can_end : (opening : Opening) (opens : Opens reads writes pipes old mid opened opening) (table : List (Object S K))
        → LeftOpen reads writes pipes opens.count opened table → CanClose reads writes pipes mid table
    can_end opening opens table left = (
      opens.count,
      left.there,
      can_close reads writes pipes old mid opened table opening opens (place_same reads writes pipes opens.count opened table opens.there left),
    )

    pub can_end_alone : (opening : Opening) (table : List (Object S K)) → table ≡ opened → Opens reads writes pipes old mid opened opening → CanClose reads writes pipes mid table
    can_end_alone opening table same opens =
        subst (CanClose reads writes pipes mid) (sym same) (can_end opening opens opened (left_alone reads writes pipes opens.count opened opens.there))

    pub can_end_carried : (before after table : List (Object S K)) → before ≡ opened → table ≡ after → Opens reads writes pipes old mid opened All
        → CarriedShort reads writes pipes before after → CanClose reads writes pipes mid table
    can_end_carried before after table same kept opens short =
        let carried = subst (λ (l : List (Object S K)). CarriedShort reads writes pipes l after) same short in
        subst (CanClose reads writes pipes mid) (sym kept) (can_end All opens after (left_carried reads writes pipes opens.count opened after opens.stops carried))

  module _ {F : Type 0} (well : IsWellFormed pipes) (old mid new : DepotState) (opened : List (Object S K)) (rooms closed : Rooms S K)
      (store_before store_after : StoreState F) where
    -- the sums that are told
    told : (carried : Result (Unit {0}) NoMemoryFound) {before after : List Tally} → before ≡ after
        → RanTo pipes old new store_before store_after (answer_of carried closed.results.outcomes.items before)
        → RanTo pipes old new store_before store_after (answer_of carried closed.results.outcomes.items after)
    told carried same ran =
        subst (λ (sums : List Tally). RanTo pipes old new store_before store_after (answer_of carried closed.results.outcomes.items sums)) same ran

    ran_carried : (opens : Opens reads writes pipes old mid opened All) (left : LeftOpen reads writes pipes opens.count opened rooms.table.items)
        (after : List (Object S K)) (ends : List Outcome)
        (closes : Closes reads writes pipes opens.count mid new rooms.table.items after rooms.results.outcomes.items ends)
        (carried : Result (Unit {0}) NoMemoryFound)
        → OnOk carried ((ways : Ways) × CarriedBy reads writes pipes opened rooms.table.items ways rooms.results store_before store_after)
        → length rooms.results.outcomes.items ≡ length pipes → length rooms.results.tallies.items ≡ length pipes
        → RanTo pipes old new store_before store_after (answer_of carried ends rooms.results.tallies.items)
    ran_carried opens left after ends closes (Ok done) by long counted =
        inl (
          ways_closed by.0 closes.refused,
          went_through reads writes pipes old mid new opened rooms.table.items after rooms.results ends opens left closes by.0 store_before store_after by.1 long counted,
        )
    ran_carried opens left after ends closes (Err short) by long counted =
        stopped_short reads writes pipes old mid new All opened rooms.table.items after rooms.results.outcomes.items ends opens left closes refl well

    -- all were opened
    pub ran_all : (before after : List (Object S K)) (carried : Result (Unit {0}) NoMemoryFound) → before ≡ opened → rooms.table.items ≡ after
        → Opens reads writes pipes old mid opened All → CarriedShort reads writes pipes before after
        → OnOk carried ((ways : Ways) × CarriedBy reads writes pipes before after ways rooms.results store_before store_after)
        → length rooms.results.outcomes.items ≡ length pipes → length rooms.results.tallies.items ≡ length pipes
        → ((count : ℕ) → AreThere reads writes pipes count rooms.table.items → AreClosed reads writes pipes count rooms closed mid new)
        → RanGraph pipes old new store_before store_after (answer_of carried closed.results.outcomes.items closed.results.tallies.items)
    ran_all before after carried same kept opens short by long counted ends =
        let short_as : CarriedShort reads writes pipes opened rooms.table.items =
        subst (λ (l : List (Object S K)). CarriedShort reads writes pipes l rooms.table.items) same
        (subst (CarriedShort reads writes pipes before) (sym kept) short) in
        let by_as : OnOk carried ((ways : Ways) × CarriedBy reads writes pipes opened rooms.table.items ways rooms.results store_before store_after) =
        subst (λ (l : List (Object S K)). OnOk carried ((ways : Ways) × CarriedBy reads writes pipes l rooms.table.items ways rooms.results store_before store_after)) same
        (subst (λ (l : List (Object S K)). OnOk carried ((ways : Ways) × CarriedBy reads writes pipes before l ways rooms.results store_before store_after)) (sym kept) by) in
        let left = left_carried reads writes pipes opens.count opened rooms.table.items opens.stops short_as in
        let ended = ends opens.count left.there in
        record {
          others = others_closed reads writes pipes old mid new All opened rooms.table.items closed.table.items rooms.results.outcomes.items closed.results.outcomes.items opens left ended.closes;
          to = told carried (sym ended.sums) (ran_carried opens left closed.table.items closed.results.outcomes.items ended.closes carried by_as long counted);
        }

    -- an open was refused
    pub ran_refused : (place : ℕ) (pipe : Pipe) → slice_get pipes place ≡ Some pipe → rooms.table.items ≡ opened
        → Opens reads writes pipes old mid opened (Refused place)
        → rooms.results.outcomes.items ≡ set (replicate (length pipes) outcomes.Broken) place (fault_of pipe.kind)
        → rooms.results.tallies.items ≡ replicate (length pipes) nothing
        → ((count : ℕ) → AreThere reads writes pipes count rooms.table.items → AreClosed reads writes pipes count rooms closed mid new)
        → RanGraph pipes old new store_before store_after (answer_of (Ok tt) closed.results.outcomes.items closed.results.tallies.items)
    ran_refused place pipe is same opens are none ends =
        let ended = ends opens.count (subst (AreThere reads writes pipes opens.count) (sym same) opens.there) in
        let closes = subst (λ (l : List (Object S K)). Closes reads writes pipes opens.count mid new l closed.table.items rooms.results.outcomes.items closed.results.outcomes.items) same ended.closes in
        record {
          others = others_closed reads writes pipes old mid new (Refused place) opened opened closed.table.items rooms.results.outcomes.items closed.results.outcomes.items opens
              (left_alone reads writes pipes opens.count opened opens.there) closes;
          to = told (Ok tt) (sym ended.sums) (inr
              (stopped_there reads writes pipes old mid new place pipe is opened closed.table.items rooms.results.outcomes.items closed.results.outcomes.items opens closes are
              well rooms.results.tallies.items none));
        }

    -- memory ran out while paths were opened
    pub ran_unopened : rooms.table.items ≡ opened → Opens reads writes pipes old mid opened NoMemory
        → ((count : ℕ) → AreThere reads writes pipes count rooms.table.items → AreClosed reads writes pipes count rooms closed mid new)
        → RanGraph pipes old new store_before store_after (answer_of (Err (record {})) closed.results.outcomes.items closed.results.tallies.items)
    ran_unopened same opens ends =
        let left = left_alone reads writes pipes opens.count opened opens.there in
        let ended = ends opens.count (subst (AreThere reads writes pipes opens.count) (sym same) opens.there) in
        let closes = subst (λ (l : List (Object S K)). Closes reads writes pipes opens.count mid new l closed.table.items rooms.results.outcomes.items closed.results.outcomes.items) same ended.closes in
        record {
          others = others_closed reads writes pipes old mid new NoMemory opened opened closed.table.items rooms.results.outcomes.items closed.results.outcomes.items opens left closes;
          to = told (Err (record {})) (sym ended.sums)
              (stopped_short reads writes pipes old mid new NoMemory opened opened closed.table.items rooms.results.outcomes.items closed.results.outcomes.items opens left closes refl well);
        }

  -- the three parts of a run, one after the other
  module _ {F : Type 0} (old mid : DepotState) (opened rooms : Rooms S K) (store_before store_after : StoreState F) where
    -- what was opened can be closed once the turns were taken
    pub can_close_turned : (opening : Opening) (carried : Result (Unit {0}) NoMemoryFound) → OpenedIn reads writes pipes old mid opened opening
        → TakesTurns reads writes pipes opened rooms store_before store_after opening carried → CanClose reads writes pipes mid rooms.table.items
    can_close_turned All carried is turned =
        can_end_carried old mid opened.table.items opened.table.items rooms.table.items rooms.table.items refl refl is.opens turned.short
    can_close_turned (Refused place) carried is turned =
        can_end_alone old mid opened.table.items (Refused place) rooms.table.items (ap (λ (r : Rooms S K). r.table.items) turned.0.rooms) is.opens
    can_close_turned NoMemory carried is turned =
        can_end_alone old mid opened.table.items NoMemory rooms.table.items (ap (λ (r : Rooms S K). r.table.items) turned.0.rooms) is.opens

    module _ (well : IsWellFormed pipes) (made : AreMadeFor pipes rooms) (new : DepotState) (closed : Rooms S K)
        (closes : (count : ℕ) → AreThere reads writes pipes count rooms.table.items → AreClosed reads writes pipes count rooms closed mid new) where
      pub ran_graph : (opening : Opening) (carried : Result (Unit {0}) NoMemoryFound) → OpenedIn reads writes pipes old mid opened opening
          → TakesTurns reads writes pipes opened rooms store_before store_after opening carried
          → RanGraph pipes old new store_before store_after (answer_of carried closed.results.outcomes.items closed.results.tallies.items)
      ran_graph All carried is turned =
          ran_all well old mid new opened.table.items rooms closed store_before store_after opened.table.items rooms.table.items carried refl refl
          is.opens turned.short turned.through made.ends made.sums closes
      ran_graph (Refused place) (Err short) is turned = absurd (let none = turned.1 in cc)
      ran_graph (Refused place) (Ok done) is turned =
          let within = refused_within old mid opened.table.items place is.opens in
          let same = turned.0.rooms in
          elim (slice_get_cases pipes place).1 [
            | inl stands ↦
                let told = ap (λ (p : Option Pipe). set (replicate (length pipes) outcomes.Broken) place (option_map_or (λ (pipe : Pipe). fault_of pipe.kind) p outcomes.Broken)) stands.2 in
                ran_refused well old mid new opened.table.items rooms closed store_before store_after place stands.0 stands.2
                (ap (λ (r : Rooms S K). r.table.items) same) is.opens (ap (λ (r : Rooms S K). r.results.outcomes.items) same ∙ is.outcomes ∙ told)
                (ap (λ (r : Rooms S K). r.results.tallies.items) same ∙ is.tallies) closes
            | inr past ↦ absurd (omega (arith, within, past.0))
          ]
      ran_graph NoMemory (Ok done) is turned = absurd (let none = turned.1 in cc)
      ran_graph NoMemory (Err short) is turned =
          ran_unopened well old mid new opened.table.items rooms closed store_before store_after
          (ap (λ (r : Rooms S K). r.table.items) turned.0.rooms) is.opens closes

  -- what an opening told
  pub opened_in : (old mid : DepotState) (rooms : Rooms S K) (opened : List (Object S K)) (opening is : Opening) → opening ≡ is → rooms.table.items ≡ opened
      → Opens reads writes pipes old mid opened opening → rooms.results.outcomes.items ≡ told_opened pipes is
      → rooms.results.tallies.items ≡ replicate (length pipes) nothing → OpenedIn reads writes pipes old mid rooms opening
  opened_in old mid rooms opened opening is same stands opens told none = record {
    opens = subst (λ (l : List (Object S K)). Opens reads writes pipes old mid l opening) (sym stands) opens;
    outcomes = told ∙ ap (told_opened pipes) (sym same);
    tallies = none;
  }

  -- what the turns carried where all paths were opened
  pub ran_strands : {F : Type 0} (before after : Rooms S K) (store_before store_after : StoreState F) (was now : List (Object S K))
      (carried : Result (Unit {0}) NoMemoryFound) (opening : Opening) → opening ≡ All → was ≡ before.table.items → after.table.items ≡ now
      → OnOk carried ((ways : Ways) × CarriedBy reads writes pipes was now ways after.results store_before store_after)
      → CarriedShort reads writes pipes was now → TakesTurns reads writes pipes before after store_before store_after opening carried
  ran_strands before after store_before store_after was now carried opening is same kept by short =
      subst (λ (o : Opening). TakesTurns reads writes pipes before after store_before store_after o carried) (sym is) (record {
        through = subst (λ (l : List (Object S K)). OnOk carried ((ways : Ways) × CarriedBy reads writes pipes l after.table.items ways after.results store_before store_after)) same
            (subst (λ (l : List (Object S K)). OnOk carried ((ways : Ways) × CarriedBy reads writes pipes was l ways after.results store_before store_after)) (sym kept) by);
        short = subst (λ (l : List (Object S K)). CarriedShort reads writes pipes l after.table.items) same
            (subst (CarriedShort reads writes pipes was) (sym kept) short);
      })
