use Rattle.std.proofs.lemmas.Result.{err_from_is_err_and}
use Rattle.up_frame.proofs.ReadAttributes.{none_passed, one_passed, one_refused, all_passed}
use Rattle.up_frame.proofs.reading.behind_attributes.Goals as goal

pub loop-init : goal.loop-init
loop-init c = none_passed c.args.count c.args.bytes.now

pub loop-preserved : goal.loop-preserved
loop-preserved c =
    one_passed _ _ _ _ _ _ _ _ c.loop-test.true c.in_ok-name.ensures.front c.loop.invariant

pub returns-in_err-name : goal.returns-in_err-name
returns-in_err-name c =
    let p = err_from_is_err_and c.from_residual.result c.from_residual.ensures.1 in
    rw (p.1, p.2)
    (one_refused c.args.count c.loop.counter c.args.bytes.now c.loop.before.now c.loop.rest.now c.in_err-name.field-0.0
    c.loop-test.true c.in_err-name.ensures.front c.loop.invariant)

pub returns : goal.returns
returns c = (c.loop.invariant.front, all_passed _ _ _ _ _ c.loop-test.false c.loop.invariant)
