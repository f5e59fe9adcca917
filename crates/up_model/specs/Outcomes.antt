-- How the pipes of a graph end, and what a source then carried.
use Rattle.std.specs.Prelude.{◌≡◌, ◌<◌, ℕ, Bool, true, false, List, [], length, take, position, nat_lt, slice_get, Option, Some, None, option_and_then, option_map, unwrap_or, if◌then◌else◌}
use Rattle.std.specs.Option.{option_map_or, option_or}
use Rattle.up_model.specs.Cutting.{blocks, full_blocks}
use Rattle.up_model.specs.FrameStreams.{broken_at, cut_at, whole_frames}
use Rattle.up_model.specs.Inputs.{source_of}
use Rattle.up_model.specs.Packet.{Flow}
use Rattle.up_model.specs.declared.kind.Kind.{Kind}
use Rattle.up_model.specs.declared.kind.Kind.TheVariants.{Source, Sink}
use Rattle.up_model.specs.declared.form.SourceForm.{SourceForm}
use Rattle.up_model.specs.declared.form.SourceForm.TheVariants.{Raw, Framed}
use Rattle.up_model.specs.declared.outcome.Outcome.{Outcome}
use Rattle.up_model.specs.declared.outcome.Outcome.TheVariants.{Whole, ReadFault, WriteFault, BadFrame, TooLong, Broken, NoMemory}
use Rattle.up_model.specs.declared.pipe.Pipe.{Pipe}

-- there are more bytes than the limit
abbrev pub too_long : ℕ → List ℕ → Option Outcome
too_long limit bytes = if nat_lt limit (length bytes) then Some (TooLong limit) else None

-- the outcome that bytes of the form show whatever comes behind them: a frame that is broken within the limit, else a byte past it
abbrev pub shown_by : SourceForm → ℕ → List ℕ → Option Outcome
shown_by (Raw block) limit bytes = too_long limit bytes
shown_by Framed limit bytes =
    option_or (option_map BadFrame (broken_at (take limit bytes))) (too_long limit bytes)

-- the outcome where these are all bytes, and they show none: frames may be unfinished
abbrev pub outcome_at_end : SourceForm → List ℕ → Outcome
outcome_at_end (Raw block) bytes = Whole
outcome_at_end Framed bytes = option_map_or BadFrame (cut_at bytes) Whole

-- the outcome of a source of the form that could give these bytes, where no read fails
abbrev pub source_outcome : SourceForm → ℕ → List ℕ → Outcome
source_outcome form limit bytes = unwrap_or (shown_by form limit bytes) (outcome_at_end form bytes)

-- when bytes of the form show each outcome: a frame within the limit has a field that is all there and broken; else there is a byte past
-- the limit. No other is ever shown
abbrev pub Shows : SourceForm → ℕ → List ℕ → Outcome → Type 0
Shows form limit bytes Whole = ⊥
Shows form limit bytes ReadFault = ⊥
Shows form limit bytes WriteFault = ⊥
Shows form limit bytes (BadFrame offset) =
    (form ≡ Framed) × (broken_at (take limit bytes) ≡ Some offset)
Shows form limit bytes (TooLong most) = (most ≡ limit) × (limit < length bytes)
    × (form ≡ Framed → broken_at (take limit bytes) ≡ None)
Shows form limit bytes Broken = ⊥
Shows form limit bytes NoMemory = ⊥

-- the packets that bytes of the form hold, where these are all of them
abbrev pub packets_of : SourceForm → List ℕ → Flow
packets_of (Raw block) bytes = blocks block bytes
packets_of Framed bytes = whole_frames bytes

-- those that are settled: they hold them whatever comes after
abbrev pub settled_packets_of : SourceForm → List ℕ → Flow
settled_packets_of (Raw block) bytes = full_blocks block bytes
settled_packets_of Framed bytes = whole_frames bytes

-- where no read fails: as a source of its form; a pipe that is no source is whole
abbrev pub outcome_of : Kind → List ℕ → Outcome
outcome_of (Source path form limit) bytes = source_outcome form limit bytes
outcome_of kind bytes = Whole

-- what the bytes of a source show whatever comes behind them; those of a pipe that is no source show nothing
abbrev pub shown_of : Kind → List ℕ → Option Outcome
shown_of (Source path form limit) bytes = shown_by form limit bytes
shown_of kind bytes = None

-- the packets of a source's bytes, where these are all of them; a pipe that is no source carries nothing of its own
abbrev pub source_flow : Kind → List ℕ → Flow
source_flow (Source path form limit) bytes = packets_of form bytes
source_flow kind bytes = []

-- those that are settled: it has them whatever comes after these bytes
abbrev pub settled_source_flow : Kind → List ℕ → Flow
settled_source_flow (Source path form limit) bytes = settled_packets_of form bytes
settled_source_flow kind bytes = []

-- what a pipe carried that ended so and was given these bytes: at its end all packets, within its limit or before its end those that
-- are settled
abbrev pub carried_as : Outcome → Kind → List ℕ → Flow
carried_as Whole kind bytes = source_flow kind bytes
carried_as ReadFault kind bytes = settled_source_flow kind bytes
carried_as (BadFrame offset) kind bytes = settled_source_flow kind bytes
carried_as (TooLong limit) kind bytes = settled_source_flow kind (take limit bytes)
carried_as WriteFault kind bytes = settled_source_flow kind bytes
carried_as Broken kind bytes = settled_source_flow kind bytes
carried_as NoMemory kind bytes = settled_source_flow kind bytes

-- where no read fails
abbrev pub carried_flow : Kind → List ℕ → Flow
carried_flow kind bytes = carried_as (outcome_of kind bytes) kind bytes

-- by place: what each source carried, by how it ended and the bytes that it was given
abbrev pub carried_flows : List Pipe → (ℕ → Outcome) → (ℕ → List ℕ) → ℕ → Flow
carried_flows pipes ends bytes place = option_map_or
    (λ pipe. carried_as (ends place) pipe.kind (bytes place)) (slice_get pipes place) []

-- the same where each source counts with all of its bytes
abbrev pub source_flows : List Pipe → (ℕ → List ℕ) → ℕ → Flow
source_flows pipes bytes = carried_flows pipes (λ place. Whole) bytes

-- the bytes at a place of a list that has an entry for each pipe
abbrev pub bytes_at : List (List ℕ) → ℕ → List ℕ
bytes_at given place = unwrap_or (slice_get given place) []

-- the outcome of a pipe without a cause of its own, by that of its source: where that isn't whole, its flow ended broken. A run that
-- met want of memory tells it instead
abbrev pub outcome_behind : Outcome → Outcome
outcome_behind Whole = Whole
outcome_behind ReadFault = Broken
outcome_behind WriteFault = Broken
outcome_behind (BadFrame offset) = Broken
outcome_behind (TooLong limit) = Broken
outcome_behind Broken = Broken
outcome_behind NoMemory = Broken

-- how a pipe of the kind ended by itself, once all paths are opened: by whether a call on its own path failed, and by its bytes where
-- it is a source; any other pipe without such a failure ends as its source does
abbrev pub own_outcome : Kind → Bool → List ℕ → Option Outcome
own_outcome (Source path form limit) true bytes = Some ReadFault
own_outcome (Source path form limit) false bytes = Some (source_outcome form limit bytes)
own_outcome (Sink path form) true bytes = Some WriteFault
own_outcome (Sink path form) false bytes = None
own_outcome kind failed bytes = None

module _ (pipes : List Pipe) (failed : ℕ → Bool) (bytes : ℕ → List ℕ) where
  -- so of the pipe at a place
  abbrev pub own_at : ℕ → Option Outcome
  own_at place = option_and_then
      (λ pipe. own_outcome pipe.kind (failed place) (bytes place)) (slice_get pipes place)

  -- the outcome of the source of a place
  abbrev pub source_outcome_at : ℕ → Outcome
  source_outcome_at place = unwrap_or (option_and_then own_at (source_of pipes place)) Whole

  -- the outcome of the pipe at a place, by whether a call on the path at each place failed and by the bytes of each source
  abbrev pub outcome_at : ℕ → Outcome
  outcome_at place = unwrap_or (own_at place) (outcome_behind (source_outcome_at place))

-- a cause that is the pipe's own
abbrev pub is_cause : Outcome → Bool
is_cause Whole = false
is_cause ReadFault = true
is_cause WriteFault = true
is_cause (BadFrame offset) = true
is_cause (TooLong limit) = true
is_cause Broken = false
is_cause NoMemory = false

-- the place of the pipe that decides how the run is told: the first in file order with a cause of its own
abbrev pub deciding : List Outcome → Option ℕ
deciding outcomes = position is_cause outcomes
