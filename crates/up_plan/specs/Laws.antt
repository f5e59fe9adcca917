-- What a split keeps: every pipe in one strand, every strand on one worker.
use Rattle.std.specs.Prelude.{◌≡◌, ◌≢◌, ◌==◌, ℕ, List, Some, count_by}
use Rattle.std.specs.List.{Contains}
use Rattle.up_model.specs.Inputs.{input_at}
use Rattle.up_model.specs.Plans.{heads, strand_of, heads_on}
use Rattle.up_model.specs.WellFormed.{worker_places}
use Rattle.up_model.specs.declared.pipe.Pipe.{Pipe}
use Rattle.up_plan.specs.Plan.{worker_at}

-- the pipe at a place stands in the strand of one head, once, and in no other
pub record IsInOneStrand (pipes : List Pipe) (place : ℕ) : Type 0 where
  pub head : ℕ
  pub is_head : Contains (heads pipes) head
  pub within : Contains (strand_of pipes head) place
  pub once : count_by (λ other. other == place) (strand_of pipes head) ≡ 1
  pub alone : (other : ℕ) → Contains (strand_of pipes other) place → other ≡ head

-- the strand of a head is on one worker, told by the first pipe that has it, and on no other
pub record IsOnOneWorker (pipes : List Pipe) (head : ℕ) : Type 0 where
  pub first : ℕ
  pub is_worker : Contains (worker_places pipes) first
  pub runs : Contains (heads_on pipes (worker_at pipes first)) head
  pub alone : (other : ℕ) → Contains (worker_places pipes) other
      → Contains (heads_on pipes (worker_at pipes other)) head → other ≡ first

-- the pipe at a place takes from a pipe of this strand
pub record IsFedWithin (pipes : List Pipe) (head place : ℕ) : Type 0 where
  pub input : ℕ
  pub takes : input_at pipes place ≡ Some input
  pub within : Contains (strand_of pipes head) input

-- the pipe at a place takes from a pipe of another worker
pub record ComesFromElsewhere (pipes : List Pipe) (place : ℕ) : Type 0 where
  pub input : ℕ
  pub takes : input_at pipes place ≡ Some input
  pub other : worker_at pipes input ≢ worker_at pipes place
