-- The rules of well-formed graphs, and what a fault tells, in words of their own: laws say that the tests keep them.
use Rattle.std.specs.Prelude.{◌≡◌, ℕ, ◌<◌, true, false, List, length, slice_get, Option, Some, None}
use Rattle.std.specs.Option.{IsSome}
use Rattle.up_model.specs.Ends.{is_source}
use Rattle.up_model.specs.Inputs.{PipeTest, passes_at, source_of}
use Rattle.up_model.specs.WellFormed.{has_same_name, has_unknown_input, has_cycle, has_many_outputs, has_no_output, has_wrong_flow, has_same_path, worker_places}
use Rattle.up_model.specs.declared.fan_out.FanOut.{FanOut}
use Rattle.up_model.specs.declared.fan_out.FanOut.TheVariants as fans
use Rattle.up_model.specs.declared.graph_fault.GraphFault.{GraphFault}
use Rattle.up_model.specs.declared.graph_fault.GraphFault.TheVariants.{SameName, UnknownInput, Cycle, ManyOutputs, NoOutput, WrongFlow, SamePath, TooManyWorkers}
use Rattle.up_model.specs.declared.limits.TheConstants.{MAX_WORKERS}
use Rattle.up_model.specs.declared.pipe.Pipe.{Pipe}

-- along inputs the place comes to a source
pub record ComesToSource (pipes : List Pipe) (place : ℕ) : Type 0 where
  pub source : ℕ
  pub pipe : Pipe
  pub reached : source_of pipes place ≡ Some source
  pub stands : slice_get pipes source ≡ Some pipe
  pub is : is_source pipe.kind ≡ true

-- an output has consumers, and no more than it feeds
abbrev pub FeedsRightly : FanOut → ℕ → Type 0
FeedsRightly fans.None count = Unit {0}
FeedsRightly fans.One count = count ≡ 1
FeedsRightly fans.All count = 0 < count
FeedsRightly fans.Selected count = 0 < count

-- a pipe takes of an output alone, and selects where it is split alone
abbrev pub TakesRightly : FanOut → Option ℕ → Type 0
TakesRightly fans.None select = ⊥
TakesRightly fans.One select = select ≡ None
TakesRightly fans.All select = select ≡ None
TakesRightly fans.Selected select = IsSome select

-- a pipe stands at the place and passes, and none before it passes
pub record IsFirst (test : PipeTest) (pipes : List Pipe) (place : ℕ) : Type 0 where
  pub stands : place < length pipes
  pub passes : passes_at test pipes place ≡ true
  pub none_before : (before : ℕ) → before < place → passes_at test pipes before ≡ false

-- what each fault tells
abbrev pub IsTold : List Pipe → GraphFault → Type 0
IsTold pipes (SameName place) = IsFirst has_same_name pipes place
IsTold pipes (UnknownInput place) = IsFirst has_unknown_input pipes place
IsTold pipes (Cycle place) = IsFirst has_cycle pipes place
IsTold pipes (ManyOutputs place) = IsFirst has_many_outputs pipes place
IsTold pipes (NoOutput place) = IsFirst has_no_output pipes place
IsTold pipes (WrongFlow place) = IsFirst has_wrong_flow pipes place
IsTold pipes (SamePath place) = IsFirst has_same_path pipes place
IsTold pipes (TooManyWorkers count) = (count ≡ length (worker_places pipes)) × (MAX_WORKERS < count)
