-- When a graph is well formed, and the first fault of one that isn't.
use Rattle.std.specs.Prelude.{◌≡◌, ℕ, ◌≤◌, ◌==◌, nat_le, nat_lt, Bool, true, false, not, List, [], ◌∷◌, length, take, All, Option, Some, None, option_map, if◌then◌else◌}
use Rattle.std.specs.List.{filter, list_any}
use Rattle.std.specs.Option.{is_some, option_map_or, option_or}
use Rattle.std.specs.Str.{bytes_eq}
use Rattle.up_base.specs.Name.{is_name}
use Rattle.up_model.specs.Ends.{is_source, clash_on_path}
use Rattle.up_model.specs.Inputs.{PipeTest, passes_at, places, first_place, consumer_count, input_pipe, source_of}
use Rattle.up_model.specs.Kinds.{IsWithinBounds, fan_out_of}
use Rattle.up_model.specs.declared.fan_out.FanOut.{FanOut}
use Rattle.up_model.specs.declared.fan_out.FanOut.TheVariants as fans
use Rattle.up_model.specs.declared.graph_fault.GraphFault.{GraphFault}
use Rattle.up_model.specs.declared.graph_fault.GraphFault.TheVariants.{SameName, UnknownInput, Cycle, ManyOutputs, NoOutput, WrongFlow, SamePath, TooManyWorkers}
use Rattle.up_model.specs.declared.limits.TheConstants.{MAX_PIPES, MAX_PID, MAX_QUEUE, MAX_WORKERS}
use Rattle.up_model.specs.declared.pipe.Pipe.{Pipe}

-- an earlier pipe has its name
abbrev pub has_same_name : PipeTest
has_same_name pipes place pipe =
    list_any (λ earlier. bytes_eq earlier.name pipe.name) (take place pipes)

-- its input isn't there
abbrev pub has_unknown_input : PipeTest
has_unknown_input pipes place pipe =
    option_map_or (λ input. nat_le (length pipes) input) pipe.input false

-- following inputs from it never reaches a source
abbrev pub has_cycle : PipeTest
has_cycle pipes place pipe = not (is_some (source_of pipes place))

-- an output that one consumer takes has two or more; to take of a kind without output is a wrong flow
abbrev pub are_too_many : FanOut → ℕ → Bool
are_too_many fans.None count = false
are_too_many fans.One count = nat_le 2 count
are_too_many fans.All count = false
are_too_many fans.Selected count = false

abbrev pub has_many_outputs : PipeTest
has_many_outputs pipes place pipe =
    are_too_many (fan_out_of pipe.kind) (consumer_count pipes place)

-- an output that nobody takes
abbrev pub are_too_few : FanOut → ℕ → Bool
are_too_few fans.None count = false
are_too_few fans.One count = count == 0
are_too_few fans.All count = count == 0
are_too_few fans.Selected count = count == 0

abbrev pub has_no_output : PipeTest
has_no_output pipes place pipe =
    are_too_few (fan_out_of pipe.kind) (consumer_count pipes place)

-- a pipe with this `select` can't take of such an output
abbrev pub is_wrong_for : FanOut → Option ℕ → Bool
is_wrong_for fans.None select = true
is_wrong_for fans.One select = is_some select
is_wrong_for fans.All select = is_some select
is_wrong_for fans.Selected select = not (is_some select)

abbrev pub has_wrong_flow : PipeTest
has_wrong_flow pipes place pipe = option_map_or
    (λ input. is_wrong_for (fan_out_of input.kind) pipe.select) (input_pipe pipes pipe) false

-- its path clashes with that of an earlier pipe
abbrev pub has_same_path : PipeTest
has_same_path pipes place pipe =
    list_any (λ earlier. clash_on_path earlier.kind pipe.kind) (take place pipes)

-- no earlier pipe has its worker
abbrev pub is_first_of_worker : PipeTest
is_first_of_worker pipes place pipe =
    not (list_any (λ earlier. bytes_eq earlier.worker pipe.worker) (take place pipes))

-- the first pipe of each worker, in file order
abbrev pub worker_places : List Pipe → List ℕ
worker_places pipes = filter (passes_at is_first_of_worker pipes) (places pipes)

abbrev pub worker_fault : ℕ → Option GraphFault
worker_fault count = if nat_lt MAX_WORKERS count then Some (TooManyWorkers count) else None

abbrev pub first_of : List (Option GraphFault) → Option GraphFault
first_of [] = None
first_of (fault ∷ faults) = option_or fault (first_of faults)

-- the faults, in the order in which they are looked at, each at the first pipe that has it
abbrev pub graph_faults : List Pipe → List (Option GraphFault)
graph_faults pipes =
    option_map SameName (first_place has_same_name pipes)
    ∷ option_map UnknownInput (first_place has_unknown_input pipes)
    ∷ option_map Cycle (first_place has_cycle pipes)
    ∷ option_map ManyOutputs (first_place has_many_outputs pipes)
    ∷ option_map NoOutput (first_place has_no_output pipes)
    ∷ option_map WrongFlow (first_place has_wrong_flow pipes)
    ∷ option_map SamePath (first_place has_same_path pipes)
    ∷ worker_fault (length (worker_places pipes))
    ∷ []

abbrev pub graph_fault : List Pipe → Option GraphFault
graph_fault pipes = first_of (graph_faults pipes)

-- the fields of a pipe are within their bounds, and it has an input exactly where it is no source
pub record IsPipe (pipe : Pipe) : Type 0 where
  pub name : is_name pipe.name ≡ true
  pub worker : is_name pipe.worker ≡ true
  pub input : is_some pipe.input ≡ not (is_source pipe.kind)
  pub select : (number : ℕ) → pipe.select ≡ Some number → number ≤ MAX_PID
  pub queue : (1 ≤ pipe.queue) × (pipe.queue ≤ MAX_QUEUE)
  pub kind : IsWithinBounds pipe.kind

-- 1 to 256 pipes within their bounds, and no fault
pub record IsWellFormed (pipes : List Pipe) : Type 0 where
  pub some : 1 ≤ length pipes
  pub few : length pipes ≤ MAX_PIPES
  pub each : All IsPipe pipes
  pub faultless : graph_fault pipes ≡ None
