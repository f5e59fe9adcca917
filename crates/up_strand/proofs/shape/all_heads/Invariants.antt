use Rattle.std.proofs.Common.{◌≡◌, take, map}
use Rattle.up_strand.proofs.shape.all_heads.Given as goal

abbrev pub invariant-loop-i : goal.invariant-loop-i
invariant-loop-i l = l.all.items ≡ map (λ strand. strand.head) (take l.i l.plan.strands)
