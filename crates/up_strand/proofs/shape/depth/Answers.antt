use Rattle.std.proofs.Common.{◌+◌, sym, ◌∙◌}
use Rattle.up_strand.proofs.ShapeDepths.{depth_next}
use Rattle.up_strand.proofs.shape.depth.Goals as goal

pub loop-steps-preserved : goal.loop-steps-preserved
loop-steps-preserved c =
    depth_next c.args.pipes.now c.args.head (c.len-limit.result + 1) c.loop-steps.steps c.loop-steps.at c.in-Some.input c.loop-steps-test.true c.if-at-head.false
    (sym c.input_at.ensures ∙ c.in-Some.is) ∙ c.loop-steps.invariant
