use Rattle.std.proofs.Common.{◌≡◌, length, take}
use Rattle.std.specs.List.{filter}
use Rattle.up_model.specs.Inputs.{passes_at}
use Rattle.up_model.specs.Plans.{ends_at_sink}
use Rattle.up_trials.proofs.split.Split.sinks_at.Given as goal

abbrev pub invariant-loop-k : goal.invariant-loop-k
invariant-loop-k g l =
    length l.sinks ≡ length (filter (passes_at ends_at_sink l.self.graph.pipes) (take l.k l.places))
