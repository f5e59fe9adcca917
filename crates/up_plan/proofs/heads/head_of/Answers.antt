use Rattle.std.proofs.Common.{◌≡◌, ◌-◌, ◌+◌, suc, sym, ◌∙◌, arith, rules}
use Rattle.up_model.proofs.AlongInputs.{goes_on}
use Rattle.up_model.specs.Plans as plans
use Rattle.up_plan.proofs.heads.head_of.Goals as goal

pub loop-preserved : goal.loop-preserved
loop-preserved c =
    let pipes = c.args.pipes.now in
    let left = c.len-end.result - (c.loop.counter + 1) in
    let one_more : c.len-end.result - c.loop.counter ≡ suc left = omega arith in
    sym (goes_on plans.is_head pipes left c.loop.at c.in_ok-at.at (search rules) (search rules))
    ∙ (rw one_more at c.loop.invariant)
