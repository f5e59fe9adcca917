-- The plan of a graph: its strands, its workers, and how many lanes it has.
use Rattle.std.specs.Prelude.{ℕ, List, [], length, map, slice_get}
use Rattle.std.specs.Option.{option_map_or}
use Rattle.up_model.specs.Plans.{heads, strand_of, lanes, heads_on}
use Rattle.up_model.specs.WellFormed.{worker_places}
use Rattle.up_model.specs.declared.pipe.Pipe.{Pipe}
use Rattle.up_plan.specs.declared.plan.Plan.{Plan}
use Rattle.up_plan.specs.declared.plan.PlanStrand.{PlanStrand}
use Rattle.up_plan.specs.declared.plan.PlanWorker.{PlanWorker}

-- the strand of a head
abbrev pub plan_strand : List Pipe → ℕ → PlanStrand
plan_strand pipes head = record { head = head; pipes = strand_of pipes head }

-- the name of the worker of the pipe at a place
abbrev pub worker_at : List Pipe → ℕ → List ℕ
worker_at pipes place = option_map_or (λ pipe. pipe.worker) (slice_get pipes place) []

-- the worker of the pipe at a place, with the heads of all its strands
abbrev pub plan_worker : List Pipe → ℕ → PlanWorker
plan_worker pipes place = record {
  name = worker_at pipes place;
  strands = heads_on pipes (worker_at pipes place);
}

-- the strands in file order of their heads, the workers in file order of the first pipe of each
abbrev pub plan_of : List Pipe → Plan
plan_of pipes = record {
  strands = map (plan_strand pipes) (heads pipes);
  workers = map (plan_worker pipes) (worker_places pipes);
  lane_count = length (lanes pipes);
}
