use Rattle.std.proofs.Common.{◌≡◌, ℕ, ◌<◌, false}
use Rattle.up_strand.specs.Strands.{has_item}
use Rattle.up_strand.proofs.strand.Strand.ready_from.Given as goal

abbrev pub invariant-loop-i : goal.invariant-loop-i
invariant-loop-i g l = (i : ℕ) → i < l.i → has_item l.self i ≡ false
