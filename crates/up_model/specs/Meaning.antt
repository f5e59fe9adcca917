-- What each pipe puts out and counts, and what each sink is to hold, where a pipe does a given thing with what it takes: its whole
-- work, or what of it is done while the flow goes on. The recursion follows inputs back to where something is fed.
use Rattle.std.specs.Prelude.{◌≡◌, ℕ, zero, suc, ◌==◌, List, [], length, slice_get, filter_map, Option, Some, None, option_and_then, unwrap_or, if◌then◌else◌}
use Rattle.std.specs.Option.{IsSome, is_some}
use Rattle.up_base.specs.Lists.{IsPrefix}
use Rattle.up_model.specs.Inputs.{PipeTest, passes_at, reached, ends_at_source}
use Rattle.up_model.specs.Kinds.{work_of, settled_work, share_of, module_kind, written_of}
use Rattle.up_model.specs.Packet.{Flow}
use Rattle.up_model.specs.Tallies.{of_source, stopped, past_own_probe}
use Rattle.up_model.specs.Work.{Work, no_work}
use Rattle.up_model.specs.declared.kind.Kind.{Kind}
use Rattle.up_model.specs.declared.kind.Kind.TheVariants.{Source}
use Rattle.up_model.specs.declared.pipe.Pipe.{Pipe}
use Rattle.up_model.specs.declared.tally.Tally.{Tally}

-- what a pipe does with what it takes, by its place and the kind of its module
abbrev pub Doing : Type 0
Doing = ℕ → Kind → Flow → Work

-- its whole work
abbrev pub wholly : Doing
wholly place kind taken = work_of kind taken

-- the work that is done when the flow goes on
abbrev pub so_far : Doing
so_far place kind taken = settled_work kind taken

-- what is fed to the pipe at each place from elsewhere, where something is: to the sources of a graph what they carried, to the head
-- of a strand what came through its lane
abbrev pub Feeding : Type 0
Feeding = ℕ → Option Flow

-- something is fed to the pipe at a place
abbrev pub is_fed_by : Feeding → PipeTest
is_fed_by fed pipes place pipe = is_some (fed place)

-- a pipe is fed in both, and at least as much in the second, or in neither
abbrev pub IsFedMore : Option Flow → Option Flow → Type 0
IsFedMore None None = Unit {0}
IsFedMore None (Some flow) = ⊥
IsFedMore (Some flow) None = ⊥
IsFedMore (Some flow) (Some more) = IsPrefix flow more

-- the sources are fed these flows, and no other pipe
abbrev pub to_sources : List Pipe → (ℕ → Flow) → Feeding
to_sources pipes given place =
    if passes_at ends_at_source pipes place then Some (given place) else None

-- the number that a pipe selects of the output at a place, where it takes that output
abbrev pub selects : ℕ → Pipe → Option ℕ
selects place pipe =
    option_and_then (λ input. if input == place then pipe.select else None) pipe.input

-- the numbers that the consumers of a place select
abbrev pub selected : List Pipe → ℕ → List ℕ
selected pipes place = filter_map (selects place) pipes

-- a source puts out what it is fed; any other pipe does its part with what it takes
abbrev pub done_by : Doing → ℕ → Kind → Flow → Work
done_by does place (Source path form limit) fed = record { flow = fed; tally = of_source fed }
done_by does place kind taken = does place kind taken

-- what a consumer with this `select` takes of the flow that its input puts out
abbrev pub shared : Option Pipe → Option ℕ → Flow → Flow
shared None select flow = []
shared (Some input) select flow = share_of input.kind select flow

-- what a pipe takes of its input, where the pipe at each place puts out what `flows` says
abbrev pub taken_from : List Pipe → (ℕ → Flow) → Option ℕ → Option ℕ → Flow
taken_from pipes flows select None = []
taken_from pipes flows select (Some input) = shared (slice_get pipes input) select (flows input)

abbrev pub taken_by : List Pipe → (ℕ → Flow) → Pipe → Flow
taken_by pipes flows pipe = taken_from pipes flows pipe.select pipe.input

module _ (does : Doing) (pipes : List Pipe) (fed : Feeding) where
  -- what the pipe at a place takes: what it is fed, or else of its input
  abbrev pub taken_at : (ℕ → Flow) → ℕ → Pipe → Flow
  taken_at flows place pipe = unwrap_or (fed place) (taken_by pipes flows pipe)

  -- its work
  abbrev pub work_at : (ℕ → Flow) → ℕ → Option Pipe → Work
  work_at flows place None = no_work
  work_at flows place (Some pipe) =
      done_by does place (module_kind (selected pipes place) pipe.kind) (taken_at flows place pipe)

  -- what the pipe at a place puts out, where something fed is reached in fewer steps than these
  abbrev pub flow_within : ℕ → ℕ → Flow
  flow_within zero place = []
  flow_within (suc steps) place =
      (work_at (flow_within steps) place (slice_get pipes place)).flow

  -- what it puts out
  abbrev pub flow_by : ℕ → Flow
  flow_by place = flow_within (length pipes) place

  -- and its work on what its input puts out
  abbrev pub pipe_work : ℕ → Work
  pipe_work place = work_at flow_by place (slice_get pipes place)

  -- what the pipe at a place takes
  abbrev pub input_by : ℕ → Pipe → Flow
  input_by place pipe = taken_at flow_by place pipe

  -- the bytes that it writes of it, where it is a sink
  abbrev pub bytes_by : ℕ → Pipe → List ℕ
  bytes_by place sink = written_of sink.kind (input_by place sink)

-- these flows meet, at each place from which something fed is reached: what is put out is what is done with what is taken of them
abbrev pub MeetsAll : Doing → List Pipe → Feeding → (ℕ → Flow) → Type 0
MeetsAll does pipes fed flows =
    (place : ℕ) → IsSome (reached (is_fed_by fed) pipes place)
    → flows place ≡ (work_at does pipes fed flows place (slice_get pipes place)).flow

module _ (pipes : List Pipe) (given : ℕ → Flow) where
  -- at the end of all flows, where each source carried what is given: what the pipe at a place puts out, what a pipe that is no
  -- source takes, and the bytes that a sink is to hold
  abbrev pub flow_at : ℕ → Flow
  flow_at place = flow_by wholly pipes (to_sources pipes given) place

  abbrev pub input_of : Pipe → Flow
  input_of pipe = taken_by pipes flow_at pipe

  abbrev pub sink_bytes : Pipe → List ℕ
  sink_bytes sink = written_of sink.kind (input_of sink)

  -- the same of what is settled while the flows go on
  abbrev pub settled_flow : ℕ → Flow
  settled_flow place = flow_by so_far pipes (to_sources pipes given) place

  abbrev pub settled_input : Pipe → Flow
  settled_input pipe = taken_by pipes settled_flow pipe

  abbrev pub settled_bytes : Pipe → List ℕ
  settled_bytes sink = written_of sink.kind (settled_input sink)

  -- the six sums of the pipe at a place, each stopped at 2^64 - 1, and 0 where its own probe catches the kind
  abbrev pub tally_of : ℕ → Tally
  tally_of place = past_own_probe (slice_get pipes place)
      (stopped (pipe_work wholly pipes (to_sources pipes given) place).tally)
