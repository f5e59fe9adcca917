-- The room that a run takes before its first open, and its answer.
use Rattle.std.specs.Prelude.{◌≡◌, ℕ, List, [], length, replicate, Bool, true, false, Result, Ok, Err}
use Rattle.up_base.specs.declared.refusal.NoMemory.{NoMemory as NoMemoryFound}
use Rattle.up_engine.specs.Entries.{path_places}
use Rattle.up_engine.specs.Objects.{Closes}
use Rattle.up_engine.specs.declared.object.Object.{Object}
use Rattle.up_engine.specs.declared.object.Object.TheVariants as objects
use Rattle.up_engine.specs.declared.rooms.Rooms.{Rooms}
use Rattle.up_engine.specs.declared.run_outcome.RunOutcome.{RunOutcome}
use Rattle.up_engine.specs.declared.run_outcome.RunOutcome.TheVariants.{Ended, NoMemory}
use Rattle.up_model.specs.Tallies.{nothing}
use Rattle.up_model.specs.declared.outcome.Outcome.{Outcome}
use Rattle.up_model.specs.declared.outcome.Outcome.TheVariants as outcomes
use Rattle.up_model.specs.declared.pipe.Pipe.{Pipe}
use Rattle.up_model.specs.declared.tally.Tally.{Tally}
use Rattle.up_outside.specs.States.{DepotState, SourceState, SinkState}
use Rattle.up_plan.specs.Plan.{plan_of}

-- nothing is open, nothing is told, and there is room for an answer
pub record AreRoomsOf {S K : Type 0} (pipes : List Pipe) (rooms : Rooms S K) : Type 0 where
  pub plan : rooms.plan ≡ plan_of pipes
  pub order : rooms.order.items ≡ path_places pipes
  pub table : rooms.table.items ≡ replicate (length pipes) objects.None
  pub endings : rooms.results.outcomes.items ≡ replicate (length pipes) outcomes.Broken
  pub sums : rooms.results.tallies.items ≡ replicate (length pipes) nothing
  pub outcomes : rooms.outcomes ≡ record { room = length pipes; items = [] }
  pub tallies : rooms.tallies ≡ record { room = length pipes; items = [] }

-- nothing is open there
abbrev pub IsNone : {S K : Type 0} → Object S K → Type 0
IsNone object = object ≡ objects.None

-- the outcome tells of want of memory
abbrev pub is_no_memory : Outcome → Bool
is_no_memory outcomes.Whole = false
is_no_memory outcomes.ReadFault = false
is_no_memory outcomes.WriteFault = false
is_no_memory (outcomes.BadFrame offset) = false
is_no_memory (outcomes.TooLong limit) = false
is_no_memory outcomes.Broken = false
is_no_memory outcomes.NoMemory = true

-- the answer of a run: what is told of each pipe, unless memory ran out
abbrev pub answer_of : Result (Unit {0}) NoMemoryFound → List Outcome → List Tally → RunOutcome
answer_of (Ok done) ends tallies = Ended ends tallies
answer_of (Err refused) ends tallies = NoMemory

-- they were made for the graph: something is told of each pipe, and there is room for it in an answer
-- that is still empty
pub record AreMadeFor {S K : Type 0} (pipes : List Pipe) (rooms : Rooms S K) : Type 0 where
  pub plan : rooms.plan ≡ plan_of pipes
  pub order : rooms.order.items ≡ path_places pipes
  pub ends : length rooms.results.outcomes.items ≡ length pipes
  pub sums : length rooms.results.tallies.items ≡ length pipes
  pub outcomes : rooms.outcomes ≡ record { room = length pipes; items = [] }
  pub tallies : rooms.tallies ≡ record { room = length pipes; items = [] }

-- what was open in these rooms was closed, which changes no sum
module _ {S K : Type 0} (reads : S → SourceState) (writes : K → SinkState) (pipes : List Pipe)
    (count : ℕ) (before after : Rooms S K) (old new : DepotState) where
  pub record AreClosed : Type 0 where
    pub closes : Closes reads writes pipes count old new before.table.items after.table.items
        before.results.outcomes.items after.results.outcomes.items
    pub sums : after.results.tallies.items ≡ before.results.tallies.items
