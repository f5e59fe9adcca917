use Rattle.std.proofs.Common.{ℕ, List}
use Rattle.upipe_bench.specs.Pieces.{Counts}
use Rattle.up_model.specs.Packet.{Flow}
use Rattle.upipe_bench.proofs.pieces.Reading.take_all.Given as goal

abbrev pub invariant-loop : goal.invariant-loop
invariant-loop l = (bytes : List ℕ) (given : Flow) → Counts l.initial.self bytes given
    → (now : Flow) × Counts l.self bytes now
