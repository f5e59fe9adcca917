use Rattle.std.proofs.Common.{sym, arith, rules}
use Rattle.up_plan.proofs.Places.{any_before-true, any_before-more}
use Rattle.up_plan.proofs.workers.is_before.Goals as goal

pub returns-then-runs_on : goal.returns-then-runs_on
returns-then-runs_on c =
    sym (any_before-true c.args.pipes.now c.args.worker.now c.loop-earlier.earlier c.args.place (omega arith) (search rules))

pub loop-earlier-preserved : goal.loop-earlier-preserved
loop-earlier-preserved c =
    any_before-more c.args.pipes.now c.args.worker.now c.loop-earlier.earlier (omega arith) c.loop-earlier.invariant (search rules)
