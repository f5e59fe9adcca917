use Rattle.std.proofs.Common.{◌≡◌, ℕ, ◌<◌, Some, get_or, length, slice_get}
use Rattle.up_engine.specs.Joins.{filler_of}
use Rattle.up_model.specs.Plans.{heads}
use Rattle.up_engine.proofs.tables.fillers_of.Given as goal

abbrev pub invariant-loop-i : goal.invariant-loop-i
invariant-loop-i l =
    record {
      count : length l.fillers.items ≡ l.i;
      fillers : (k filler : ℕ) → k < l.i → filler_of l.graph.pipes (get_or l.heads k 0) ≡ Some filler
          → slice_get (heads l.graph.pipes) (get_or l.fillers.items k 0) ≡ Some filler;
    }
