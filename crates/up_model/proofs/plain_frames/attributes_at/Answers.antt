use Rattle.std.proofs.Common.{◌≡◌, [], ◌∷◌, ◌++◌, rules}
use Rattle.up_model.proofs.PlainReading.{none_read, one_read, one_refused, all_read}
use Rattle.up_model.specs.Value.{lent}
use Rattle.up_model.proofs.plain_frames.attributes_at.Goals as goal

pub loop-init : goal.loop-init
loop-init c = rw c.new-attrs.ensures.items (none_read c.args.count c.args.bytes.now)

pub returns-in-Err : goal.returns-in-Err
returns-in-Err c =
    one_refused c.args.count c.loop.counter c.args.bytes.now c.loop.attrs.items c.loop.before.now c.loop.rest.now c.in-Err.refused
    c.loop-test.true c.in-Err.ensures.front c.loop.invariant

pub loop-preserved : goal.loop-preserved
loop-preserved c =
    let added : c.push.new.self.items ≡ c.loop.attrs.items ++ (c.in-Ok.found.0.now, lent c.in-Ok.found.1) ∷ [] = search rules in
    rw added
    (one_read c.args.count c.loop.counter c.args.bytes.now c.loop.attrs.items c.loop.before.now c.loop.rest.now
    (c.in-Ok.found.0.now, lent c.in-Ok.found.1) c.in-Ok.found.2.now c.loop-test.true c.in-Ok.ensures.front c.loop.invariant)

pub returns : goal.returns
returns c =
    all_read c.args.count c.loop.counter c.args.bytes.now c.loop.attrs.items c.loop.before.now c.loop.rest.now c.loop-test.false c.loop.invariant
