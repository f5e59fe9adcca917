-- The three parts of a run: its paths are opened, its strands take their turns, and what is open is
-- closed.
use Rattle.std.specs.Prelude.{◌≡◌, ℕ, List, length, replicate, slice_get, slice_set, IfSome, IsErr, IsOk, OnOk, Result}
use Rattle.std.specs.Option.{option_map_or}
use Rattle.up_base.specs.declared.refusal.NoMemory.{NoMemory as NoMemoryFound}
use Rattle.up_engine.specs.Carried.{CarriedBy, CarriedShort}
use Rattle.up_engine.specs.Objects.{AreOpen, AreThere, Opens}
use Rattle.up_engine.specs.Runs.{Ways, fault_of}
use Rattle.up_engine.specs.declared.object.Object.{Object}
use Rattle.up_engine.specs.declared.opening.Opening.{Opening}
use Rattle.up_engine.specs.declared.opening.Opening.TheVariants.{All, Refused, NoMemory}
use Rattle.up_engine.specs.declared.rooms.Rooms.{Rooms}
use Rattle.up_model.specs.Tallies.{nothing}
use Rattle.up_model.specs.declared.outcome.Outcome.{Outcome}
use Rattle.up_model.specs.declared.outcome.Outcome.TheVariants as outcomes
use Rattle.up_model.specs.declared.pipe.Pipe.{Pipe}
use Rattle.up_outside.specs.States.{DepotState, SourceState, SinkState}
use Rattle.up_outside.specs.declared.asked.Entry.{Entry}
use Rattle.up_shape.specs.Stores.{StoreState}

-- it holds where all paths were opened
abbrev pub WhereAll : Opening → Type 0 → Type 0
WhereAll All fact = fact
WhereAll (Refused place) fact = Unit {0}
WhereAll NoMemory fact = Unit {0}

module _ (pipes : List Pipe) where
  -- what is told of each pipe before a run told anything
  abbrev pub all_broken : List Outcome
  all_broken = replicate (length pipes) outcomes.Broken

  -- what is told behind an opening: the fault of the pipe whose open was refused
  abbrev pub told_opened : Opening → List Outcome
  told_opened All = all_broken
  told_opened (Refused place) = slice_set all_broken place
      (option_map_or (λ pipe. fault_of pipe.kind) (slice_get pipes place) outcomes.Broken)
  told_opened NoMemory = all_broken

module _ {S K : Type 0} (reads : S → SourceState) (writes : K → SinkState) (pipes : List Pipe) where
  -- what was opened stands in the rooms, the fault of a refused open is told, and nothing ran
  pub record OpenedIn (old new : DepotState) (rooms : Rooms S K) (opening : Opening)
      : Type 0 where
    pub opens : Opens reads writes pipes old new rooms.table.items opening
    pub outcomes : rooms.results.outcomes.items ≡ told_opened pipes opening
    pub tallies : rooms.results.tallies.items ≡ replicate (length pipes) nothing

  -- each object that stands in the table has its open entry
  abbrev pub CanClose : DepotState → List (Object S K) → Type 0
  CanClose depot table = (count : ℕ) × AreThere reads writes pipes count table
      × IfSome depot.asked (λ asked. (first : List Entry)
      × AreOpen reads writes pipes count table first asked)

  module _ {F : Type 0} (before after : Rooms S K) (store_before store_after : StoreState F)
    where
      -- the strands ran to their ends, or memory ran out
      pub record RanStrands (carried : Result (Unit {0}) NoMemoryFound) : Type 0 where
        pub through : OnOk carried ((ways : Ways)
            × CarriedBy reads writes pipes before.table.items after.table.items ways
            after.results store_before store_after)
        pub short : CarriedShort reads writes pipes before.table.items after.table.items

      -- no strand was made
      pub record NothingRan : Type 0 where
        pub rooms : after ≡ before
        pub store : store_after ≡ store_before

      -- the strands ran where all paths were opened, and only there
      abbrev pub TakesTurns : Opening → Result (Unit {0}) NoMemoryFound → Type 0
      TakesTurns All carried = RanStrands carried
      TakesTurns (Refused place) carried = NothingRan × IsOk carried
      TakesTurns NoMemory carried = NothingRan × IsErr carried
