use Rattle.std.proofs.Common.{◌≡◌, take}
use Rattle.up_strand.proofs.shape.copied.Given as goal

abbrev pub invariant-loop-i : goal.invariant-loop-i
invariant-loop-i l = l.copy.items ≡ take l.i l.places
