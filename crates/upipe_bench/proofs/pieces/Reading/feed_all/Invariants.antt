use Rattle.std.proofs.Common.{◌-◌, ◌≤◌, ◌++◌, ℕ, List, length, take}
use Rattle.upipe_bench.specs.Pieces.{HasRead}
use Rattle.upipe_bench.proofs.pieces.Reading.feed_all.Given as goal

abbrev pub invariant-loop-start : goal.invariant-loop-start
invariant-loop-start l =
    record {
      within : l.start ≤ length l.bytes;
      read : (before : List ℕ) → HasRead l.initial.self before → HasRead l.self (before ++ take l.start l.bytes);
    }

abbrev pub decreases-loop-start : goal.decreases-loop-start
decreases-loop-start l = length l.bytes - l.start
