use Rattle.std.proofs.Common.{◌≡◌, [], true, refl, length, get_or, subst, arith}
use Rattle.up_shape.proofs.StoreSteps.{Stays-trans}
use Rattle.up_strand.proofs.Finishing.{ready_later, taking_ended, done_next, either_next}
use Rattle.up_strand.proofs.Gives.{placed_on}
use Rattle.up_strand.proofs.Lists.{pairs_on}
use Rattle.up_strand.proofs.Passing.{stand_on}
use Rattle.up_strand.proofs.Sweeping.{swept_on, settled_passed}
use Rattle.up_strand.specs.Nodes.{IsAsPlaced, IsDone}
use Rattle.up_strand.specs.Stand.{IsSettled}
use Rattle.up_strand.proofs.ending.end_all.Goals as goal

pub end_at-requires-clause-tree : goal.end_at-requires-clause-tree
end_at-requires-clause-tree g c =
    let swept = swept_on c.args.order.now c.args.nodes.now c.loop-k.nodes c.loop-k.auto.nodes c.loop-k.invariant.placed c.requires.swept in
    (swept.rank, swept.tree)

pub end_at-requires-clause-ready : goal.end_at-requires-clause-ready
end_at-requires-clause-ready g c =
    let order = c.args.order.now in
    let swept = swept_on order c.args.nodes.now c.loop-k.nodes c.loop-k.auto.nodes c.loop-k.invariant.placed c.requires.swept in
    ready_later g.P.LocalPacket.plain g.K.Sink.state order c.loop-k.nodes c.loop-k.nodes swept c.loop-k.k c.loop-k-test.true (get_or order c.loop-k.k 0) refl refl
    c.loop-k.invariant.taking

pub loop-k-preserved : goal.loop-k-preserved
loop-k-preserved g c =
    let plain = g.P.LocalPacket.plain in
    let state = g.K.Sink.state in
    let inv = c.loop-k.invariant in
    let init = c.args.nodes.now in
    let olds = c.loop-k.nodes in
    let news = c.end_at.new.nodes in
    let order = c.args.order.now in
    let k = c.loop-k.k in
    let place = get_or order k 0 in
    let ends = c.in-Ok.ensures.ends in
    let same : length news ≡ length olds = c.end_at.auto.nodes in
    let swept = swept_on order init olds c.loop-k.auto.nodes inv.placed c.requires.swept in
    record {
      stand = stand_on plain state init olds news [] [] c.loop-k.auto.nodes inv.placed inv.stand ends.stand;
      settled = settled_passed plain state place olds news same order k 0 swept c.loop-k-test.true refl
          (λ i d inside other. (ends.others i d inside other).still) inv.settled c.in-Ok.ensures.settled;
      taking = taking_ended plain state order olds news swept k c.loop-k-test.true place refl same true ends inv.taking;
      either = λ sound. either_next plain state order olds news swept k c.loop-k-test.true place refl same ends inv.taking (inv.either sound);
      done = λ sound. done_next plain state order olds news swept k c.loop-k-test.true place refl same ends (inv.either sound) (inv.done sound);
      placed = pairs_on IsAsPlaced IsAsPlaced IsAsPlaced init olds news c.loop-k.auto.nodes placed_on inv.placed ends.placed;
      family = rw inv.stays.same at c.end_at.ensures.family;
      stays = Stays-trans _ _ _ inv.stays c.end_at.ensures.store;
    }

pub returns-in-Err-clause-stand : goal.returns-in-Err-clause-stand
returns-in-Err-clause-stand g c =
    let inv = c.loop-k.invariant in
    stand_on g.P.LocalPacket.plain g.K.Sink.state c.args.nodes.now c.loop-k.nodes c.end_at.new.nodes [] [] c.loop-k.auto.nodes inv.placed inv.stand c.end_at.ensures.ends.stand

pub returns-in-Err-clause-placed : goal.returns-in-Err-clause-placed
returns-in-Err-clause-placed g c =
    pairs_on IsAsPlaced IsAsPlaced IsAsPlaced c.args.nodes.now c.loop-k.nodes c.end_at.new.nodes c.loop-k.auto.nodes placed_on c.loop-k.invariant.placed
    c.end_at.ensures.ends.placed

pub returns-in-Err-clause-family : goal.returns-in-Err-clause-family
returns-in-Err-clause-family g c = rw c.loop-k.invariant.stays.same at c.end_at.ensures.family

pub returns-clause-settled : goal.returns-clause-settled
returns-clause-settled g c i d within =
    let at = c.requires.swept.sweeps.all i (omega (arith, within, c.loop-k.auto.nodes)) in
    subst (λ n. IsSettled (get_or c.loop-k.nodes n d)) (at.2 0) (c.loop-k.invariant.settled at.0 d 0 (omega (arith, at.1, c.loop-k-test.false)))

pub returns-clause-done : goal.returns-clause-done
returns-clause-done g c sound i d within =
    let at = c.requires.swept.sweeps.all i (omega (arith, within, c.loop-k.auto.nodes)) in
    subst (λ n. IsDone (get_or c.loop-k.nodes n d)) (at.2 0) (c.loop-k.invariant.done sound at.0 d 0 (omega (arith, at.1, c.loop-k-test.false)))
