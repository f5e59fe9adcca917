-- How a graph is split over workers: strands, each of pipes that one worker runs in one go, and the
-- lanes between them.
use Rattle.std.specs.Prelude.{ℕ, ◌==◌, Bool, false, ◌||◌, not, List, Option, slice_get}
use Rattle.std.specs.List.{filter}
use Rattle.std.specs.Option.{option_map_or}
use Rattle.std.specs.Str.{bytes_eq}
use Rattle.up_model.specs.Ends.{is_source, is_sink}
use Rattle.up_model.specs.Inputs.{PipeTest, passes_at, places, input_pipe, reached}
use Rattle.up_model.specs.declared.pipe.Pipe.{Pipe}

-- the pipe has another worker than its input
abbrev pub changes_worker : List Pipe → Pipe → Bool
changes_worker pipes pipe =
    option_map_or (λ input. not (bytes_eq input.worker pipe.worker)) (input_pipe pipes pipe) false

-- a source, or a pipe that has another worker than its input
abbrev pub is_head : PipeTest
is_head pipes place pipe = is_source pipe.kind || changes_worker pipes pipe

abbrev pub ends_at_sink : PipeTest
ends_at_sink pipes place pipe = is_sink pipe.kind

-- all heads, in file order
abbrev pub heads : List Pipe → List ℕ
heads pipes = filter (passes_at is_head pipes) (places pipes)

-- the head of the strand in which the pipe at a place stands
abbrev pub head_of : List Pipe → ℕ → Option ℕ
head_of pipes place = reached is_head pipes place

-- the pipe at a place stands in the strand of this head
abbrev pub is_in_strand : List Pipe → ℕ → ℕ → Bool
is_in_strand pipes head place = option_map_or (λ own. own == head) (head_of pipes place) false

-- the strand of a head: all places whose head it is, in file order
abbrev pub strand_of : List Pipe → ℕ → List ℕ
strand_of pipes head = filter (λ place. is_in_strand pipes head place) (places pipes)

-- the sinks of a strand, in file order
abbrev pub sinks_of : List Pipe → ℕ → List ℕ
sinks_of pipes head = filter (passes_at ends_at_sink pipes) (strand_of pipes head)

-- it is no source
abbrev pub is_fed : PipeTest
is_fed pipes place pipe = not (is_source pipe.kind)

-- the heads that have a lane: those that are no source
abbrev pub lanes : List Pipe → List ℕ
lanes pipes = filter (passes_at is_fed pipes) (heads pipes)

-- a pipe that takes from one of the strand of this head
abbrev pub takes_of : ℕ → PipeTest
takes_of head pipes place pipe = option_map_or (is_in_strand pipes head) pipe.input false

-- the lanes that a strand fills: of the heads that take from its pipes, in file order
abbrev pub outlets_of : List Pipe → ℕ → List ℕ
outlets_of pipes head = filter (passes_at (takes_of head) pipes) (lanes pipes)

-- how many items the lane of a head has room for
abbrev pub lane_length : List Pipe → ℕ → ℕ
lane_length pipes head = option_map_or (λ pipe. pipe.queue) (slice_get pipes head) 0

-- a pipe with this worker
abbrev pub runs_on : List ℕ → PipeTest
runs_on worker pipes place pipe = bytes_eq pipe.worker worker

-- the heads of a worker's strands, in file order
abbrev pub heads_on : List Pipe → List ℕ → List ℕ
heads_on pipes worker = filter (passes_at (runs_on worker) pipes) (heads pipes)
