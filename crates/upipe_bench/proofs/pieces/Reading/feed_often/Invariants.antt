use Rattle.std.proofs.Common.{◌++◌, ℕ, List, replicate}
use Rattle.std.specs.List.{concat}
use Rattle.upipe_bench.specs.Pieces.{HasRead}
use Rattle.upipe_bench.proofs.pieces.Reading.feed_often.Given as goal

abbrev pub invariant-loop : goal.invariant-loop
invariant-loop l = (before : List ℕ) → HasRead l.initial.self before → HasRead l.self (before ++ concat (replicate l.counter l.bytes))
