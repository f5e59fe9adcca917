-- The way along inputs: which pipes take from a place, and what is reached from one.
use Rattle.std.specs.Prelude.{◌≡◌, ℕ, zero, suc, ◌==◌, Bool, true, false, List, length, slice_get, Option, Some, None, option_and_then, if◌then◌else◌}
use Rattle.std.specs.List.{range_with_len, position, count_by}
use Rattle.std.specs.Option.{option_map_or}
use Rattle.up_model.specs.Ends.{is_source}
use Rattle.up_model.specs.declared.kind.Kind.{Kind}
use Rattle.up_model.specs.declared.pipe.Pipe.{Pipe}

-- a test of a pipe, which stands at a place of these pipes
abbrev pub PipeTest : Type 0
PipeTest = List Pipe → ℕ → Pipe → Bool

-- a pipe stands at the place, and passes the test
abbrev pub passes_at : PipeTest → List Pipe → ℕ → Bool
passes_at test pipes place = option_map_or (test pipes place) (slice_get pipes place) false

-- a pipe of such a kind stands at the place
abbrev pub IsPlaceOf : (Kind → Bool) → List Pipe → ℕ → Type 0
IsPlaceOf is_such pipes place =
    passes_at (λ pipes place pipe. is_such pipe.kind) pipes place ≡ true

-- all places, in file order
abbrev pub places : List Pipe → List ℕ
places pipes = range_with_len 0 (length pipes)

-- the place of the first pipe that passes
abbrev pub first_place : PipeTest → List Pipe → Option ℕ
first_place test pipes = position (passes_at test pipes) (places pipes)

-- the pipe takes what is put out at the place
abbrev pub is_consumer_of : ℕ → Pipe → Bool
is_consumer_of place pipe = option_map_or (λ input. input == place) pipe.input false

-- how many pipes do
abbrev pub consumer_count : List Pipe → ℕ → ℕ
consumer_count pipes place = count_by (is_consumer_of place) pipes

-- the pipe whose output a pipe takes
abbrev pub input_pipe : List Pipe → Pipe → Option Pipe
input_pipe pipes pipe = option_and_then (slice_get pipes) pipe.input

-- the place that the pipe at a place takes from
abbrev pub input_at : List Pipe → ℕ → Option ℕ
input_at pipes place = option_and_then (λ pipe. pipe.input) (slice_get pipes place)

-- the first place that passes, from this one on along inputs, in fewer steps than these
abbrev pub reached_within : ℕ → PipeTest → List Pipe → ℕ → Option ℕ
reached_within zero test pipes place = None
reached_within (suc steps) test pipes place = option_and_then (λ pipe.
    if test pipes place pipe then Some place
    else option_and_then (reached_within steps test pipes) pipe.input) (slice_get pipes place)

-- the first place that passes, from this one on along inputs
-- more steps than there are pipes reach no other
abbrev pub reached : PipeTest → List Pipe → ℕ → Option ℕ
reached test pipes place = reached_within (length pipes) test pipes place

abbrev pub ends_at_source : PipeTest
ends_at_source pipes place pipe = is_source pipe.kind

-- the source of a place
abbrev pub source_of : List Pipe → ℕ → Option ℕ
source_of pipes place = reached ends_at_source pipes place
