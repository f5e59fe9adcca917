use Rattle.std.specs.List.{All}
use Rattle.up_model.specs.Packet.{IsLegal}
use Rattle.up_trials.proofs.lane_flags.flagged_flow.Given as goal

abbrev pub invariant-loop-k : goal.invariant-loop-k
invariant-loop-k g l = All IsLegal l.came
