use Rattle.std.proofs.Common.{◌≡◌, map, take}
use Rattle.up_engine.proofs.tables.heads_of.Given as goal

abbrev pub invariant-loop-i : goal.invariant-loop-i
invariant-loop-i l = l.heads.items ≡ map (λ strand. strand.head) (take l.i l.plan.strands)
