use Rattle.std.proofs.Common.{◌≡◌, ℕ, ◌<◌, get_or, length}
use Rattle.up_engine.proofs.tables.numbers_of.Given as goal

abbrev pub invariant-loop-i : goal.invariant-loop-i
invariant-loop-i l =
    record {
      count : length l.numbers.items ≡ l.count;
      numbers : (k : ℕ) → k < l.i → get_or l.numbers.items (get_or l.heads k 0) 0 ≡ k;
    }
