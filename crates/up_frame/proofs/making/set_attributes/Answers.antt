use Rattle.std.proofs.Common.{◌≡◌, ℕ, List, ap, ◌∙◌, inr}
use Rattle.std.specs.FinMap.{insert}
use Rattle.up_frame.proofs.AttrBytes.{legal_there}
use Rattle.up_frame.proofs.SetAttributes.{none_set, next_is, not_refused, next_read, in_order, next_set, has_room, all_set}
use Rattle.up_model.specs.FrameFronts.{attribute_at}
use Rattle.up_model.specs.Value.{lent}
use Rattle.up_model.specs.declared.limits.TheConstants.{MAX_ATTRS}
use Rattle.up_frame.proofs.making.set_attributes.Goals as goal

pub loop-init : goal.loop-init
loop-init g c = record {
  set = λ list behind read. none_set (g.P.LocalPacket.plain c.args.packet.now) c.args.parts.count list behind c.args.parts.attrs.now c.requires.none read;
  family = λ f fits. fits;
}

pub unreachable-requires : goal.unreachable-requires
unreachable-requires g c =
    let parts = c.requires.parts in
    let next = next_is _ _ c.args.parts.count c.loop.counter parts.list parts.behind c.loop.before.now c.loop.rest.now c.loop-test.true
    (c.loop.invariant.set parts.list parts.behind parts.read) in
    not_refused (attribute_at c.loop.before.now c.loop.rest.now) (next.0, next.1.0) c.in_default.field-0 next.1.1.read c.in_default.ensures.front

pub set_attr-requires-clause-legal : goal.set_attr-requires-clause-legal
set_attr-requires-clause-legal g c =
    let parts = c.requires.parts in
    let next = next_is _ _ c.args.parts.count c.loop.counter parts.list parts.behind c.loop.before.now c.loop.rest.now c.loop-test.true
    (c.loop.invariant.set parts.list parts.behind parts.read) in
    let here = next_read _ _ _ _ _ _ next.0 (c.in-Ok.name.now, lent c.in-Ok.value) next.1.0 c.in-Ok.after.now c.in-Ok.ensures.front next.1.1 in
    legal_there parts.list c.loop.counter (c.in-Ok.name.now, lent c.in-Ok.value)
    (in_order c.args.parts.count parts.list parts.behind c.args.parts.attrs.now parts.below parts.read).1 here.there

pub set_attr-requires-clause-room : goal.set_attr-requires-clause-room
set_attr-requires-clause-room g c =
    let parts = c.requires.parts in
    let so_far = c.loop.invariant.set parts.list parts.behind parts.read in
    let next = next_is _ _ c.args.parts.count c.loop.counter parts.list parts.behind c.loop.before.now c.loop.rest.now c.loop-test.true so_far in
    inr (has_room _ _ c.args.parts.count c.loop.counter MAX_ATTRS parts.list parts.behind c.loop.before.now c.loop.rest.now next.0
    c.loop-test.true parts.few next.1.1.there so_far)

pub loop-preserved : goal.loop-preserved
loop-preserved g c = record {
  set = λ list behind read.
      let so_far = c.loop.invariant.set list behind read in
      let next = next_is _ _ c.args.parts.count c.loop.counter list behind c.loop.before.now c.loop.rest.now c.loop-test.true so_far in
      let here = next_read _ _ _ _ _ _ next.0 (c.in-Ok.name.now, lent c.in-Ok.value) next.1.0 c.in-Ok.after.now c.in-Ok.ensures.front next.1.1 in
      let order = (in_order c.args.parts.count list behind c.args.parts.attrs.now c.requires.parts.below read).0 in
      let now = g.P.LocalPacket.plain c.loop.packet in
      let set : g.P.LocalPacket.plain c.set_attr.new.self ≡ record now { attrs = insert now.attrs c.in-Ok.name.now (lent c.in-Ok.value) } =
      c.in_ok-set_attr.ensures.set ∙ ap (λ (name : List ℕ). record now { attrs = insert now.attrs name (lent c.in-Ok.value) }) c.of.ensures in
      next_set _ now (g.P.LocalPacket.plain c.set_attr.new.self) c.args.parts.count c.loop.counter list behind c.loop.before.now c.loop.rest.now
      c.in-Ok.name.now (lent c.in-Ok.value) c.in-Ok.after.now order set here so_far;
  family = λ f fits. c.in_ok-set_attr.ensures.family f (c.loop.invariant.family f fits);
}

pub returns-clause-set : goal.returns-clause-set
returns-clause-set g c list behind read =
    let are = in_order c.args.parts.count list behind c.args.parts.attrs.now c.requires.parts.below read in
    all_set _ (g.P.LocalPacket.plain c.loop.packet) c.args.parts.count c.loop.counter list behind c.loop.before.now c.loop.rest.now are.0 are.2
    c.loop-test.false (c.loop.invariant.set list behind read)
