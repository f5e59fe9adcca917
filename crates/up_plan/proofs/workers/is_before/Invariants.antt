use Rattle.std.proofs.Common.{◌≡◌, take, false}
use Rattle.std.specs.List.{list_any}
use Rattle.std.specs.Str.{bytes_eq}
use Rattle.up_plan.proofs.workers.is_before.Given as goal

abbrev pub invariant-loop-earlier : goal.invariant-loop-earlier
invariant-loop-earlier l = list_any (λ earlier. bytes_eq earlier.worker l.worker) (take l.earlier l.pipes) ≡ false
