-- What a strand did since it was made, and what is said of its pipes by it.
use Rattle.std.specs.Prelude.{ℕ, ◌==◌, List, [], slice_get, Bool, true, false, Option, Some, None, if◌then◌else◌}
use Rattle.std.specs.Option.{option_map_or}
use Rattle.up_model.specs.Ends.{is_source}
use Rattle.up_model.specs.Meaning.{Doing, Feeding, wholly, so_far, pipe_work}
use Rattle.up_model.specs.Outcomes.{carried_as, outcome_behind, is_cause}
use Rattle.up_model.specs.Packet.{Flow}
use Rattle.up_model.specs.Tallies.{stopped, past_own_probe}
use Rattle.up_model.specs.declared.kind.Kind.{Kind}
use Rattle.up_model.specs.declared.kind.Kind.TheVariants.{Source, Sink}
use Rattle.up_model.specs.declared.outcome.Outcome.{Outcome}
use Rattle.up_model.specs.declared.outcome.Outcome.TheVariants.{Whole, ReadFault, WriteFault, BadFrame, TooLong, Broken, NoMemory}
use Rattle.up_model.specs.declared.pipe.Pipe.{Pipe}
use Rattle.up_model.specs.declared.tally.Tally.{Tally}
use Rattle.up_outside.specs.States.{SourceState, SinkState}
use Rattle.up_queue.specs.declared.end_kind.EndKind.{EndKind}
use Rattle.up_queue.specs.declared.end_kind.EndKind.TheVariants as ends

-- what was fixed when the strand was made, and what it did since
pub record History : Type 0 where
  -- its graph, and the place of its head
  pub pipes : List Pipe
  pub head : ℕ
  -- what its source told then, where it has one, and each sink by the place of its pipe
  pub source : Option SourceState
  pub sinks : ℕ → SinkState
  -- and what they tell now
  pub source_now : Option SourceState
  pub sinks_now : ℕ → SinkState
  -- the bytes that its source gave since, and the packets that came through its lane
  pub read : List ℕ
  pub came : Flow
  -- the packets that its head was fed, and how the flow of its head ended
  pub fed : Flow
  pub ended : Option Outcome
  -- memory ran out
  pub short : Bool
  -- by the head of each lane that it fills: the packets that were taken out for it, and whether the
  -- end was
  pub sent : ℕ → Flow
  pub closed : ℕ → Bool
  -- by the place of each sink: whether a write to it failed
  pub failed : ℕ → Bool

-- the flow that is fed to the head, and nothing to any other pipe
abbrev pub to_head : ℕ → Flow → Feeding
to_head head flow place = if place == head then Some flow else None

-- what pipes did with what they took: once their flow came to its whole end all of their work
abbrev pub doing : Option Outcome → Doing
doing None = so_far
doing (Some Whole) = wholly
doing (Some ReadFault) = so_far
doing (Some WriteFault) = so_far
doing (Some (BadFrame offset)) = so_far
doing (Some (TooLong limit)) = so_far
doing (Some Broken) = so_far
doing (Some NoMemory) = so_far

-- what a source carried once its flow has ended; before that it had what it put out
abbrev pub carried_by : Option Outcome → Flow → Kind → List ℕ → Flow
carried_by None put kind bytes = put
carried_by (Some ended) put kind bytes = carried_as ended kind bytes

-- the packets that the head had: a source what it carried, any other what came through its lane
abbrev pub head_flow : History → Flow
head_flow h = option_map_or
    (λ pipe. if is_source pipe.kind then carried_by h.ended h.fed pipe.kind h.read else h.came)
    (slice_get h.pipes h.head) []

-- the outcome of a pipe without a cause of its own, by whether memory ran out and by how the head's
-- flow ended
abbrev pub outcome_without : Bool → Option Outcome → Outcome
outcome_without true ended = NoMemory
outcome_without false None = Whole
outcome_without false (Some ended) = outcome_behind ended

-- the outcome of a source, whose own cause ended its flow
abbrev pub outcome_of_source : Bool → Option Outcome → Outcome
outcome_of_source short None = outcome_without short None
outcome_of_source short (Some ended) =
    if is_cause ended then ended else outcome_without short (Some ended)

-- the outcome of a pipe of the kind, by whether a write to it failed too
abbrev pub outcome_by : Kind → Bool → Bool → Option Outcome → Outcome
outcome_by (Source path form limit) failed short ended = outcome_of_source short ended
outcome_by (Sink path form) true short ended = WriteFault
outcome_by (Sink path form) false short ended = outcome_without short ended
outcome_by kind failed short ended = outcome_without short ended

-- the outcome of the pipe at a place
abbrev pub told_at : History → ℕ → Outcome
told_at h place = option_map_or
    (λ pipe. outcome_by pipe.kind (h.failed place) h.short h.ended) (slice_get h.pipes place) Whole

-- what is told at last: where the strand wasn't done, a pipe without a cause of its own ended
-- broken
abbrev pub told_at_last : Bool → Outcome → Outcome
told_at_last true outcome = outcome
told_at_last false Whole = Broken
told_at_last false ReadFault = ReadFault
told_at_last false WriteFault = WriteFault
told_at_last false (BadFrame offset) = BadFrame offset
told_at_last false (TooLong limit) = TooLong limit
told_at_last false Broken = Broken
told_at_last false NoMemory = NoMemory

-- the six sums of the pipe at a place, past its own probe
abbrev pub sums_at : History → ℕ → Tally
sums_at h place = past_own_probe (slice_get h.pipes place)
    (stopped (pipe_work (doing h.ended) h.pipes (to_head h.head (head_flow h)) place).tally)

-- the end that the strand passes on
abbrev pub end_by : Bool → Option Outcome → EndKind
end_by false (Some Whole) = ends.Whole
end_by short ended = ends.Broken
