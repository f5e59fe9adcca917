use Rattle.std.proofs.Common.{◌≡◌, true, [], refl, length, get_or, subst, arith}
use Rattle.up_shape.proofs.StoreSteps.{Stays-trans}
use Rattle.up_strand.proofs.Gives.{placed_on}
use Rattle.up_strand.proofs.Lists.{pairs_on}
use Rattle.up_strand.proofs.Passing.{stand_on, placed_passed}
use Rattle.up_strand.proofs.Sweeping.{swept_on, taking_passed, sound_passed, settled_passed}
use Rattle.up_strand.specs.Nodes.{IsAsPlaced}
use Rattle.up_strand.specs.Stand.{IsSettled}
use Rattle.up_strand.proofs.sweep.settle.Goals as goal

pub pass_on-requires-clause-tree : goal.pass_on-requires-clause-tree
pass_on-requires-clause-tree g c =
    let swept = swept_on c.args.order.now c.args.nodes.now c.loop-k.nodes c.loop-k.auto.nodes c.loop-k.invariant.placed c.requires.swept in
    (swept.rank, swept.tree)

pub loop-k-preserved : goal.loop-k-preserved
loop-k-preserved g c =
    let plain = g.P.LocalPacket.plain in
    let state = g.K.Sink.state in
    let inv = c.loop-k.invariant in
    let init = c.args.nodes.now in
    let olds = c.loop-k.nodes in
    let news = c.pass_on.new.nodes in
    let order = c.args.order.now in
    let place = get_or order c.loop-k.k 0 in
    let passed = c.in-Ok.ensures.passes in
    let same : length news ≡ length olds = c.pass_on.auto.nodes in
    let swept = swept_on order init olds c.loop-k.auto.nodes inv.placed c.requires.swept in
    record {
      stand = stand_on plain state init olds news [] [] c.loop-k.auto.nodes inv.placed inv.stand passed.stand;
      settled = settled_passed plain state place olds news same order c.loop-k.k 0 swept c.loop-k-test.true refl
          (λ i d inside other. (passed.others i d inside other).still) inv.settled c.in-Ok.ensures.settled;
      sound = λ sound. sound_passed plain state place olds news same passed (inv.sound sound);
      taking = taking_passed plain state place olds news same true passed inv.taking;
      placed = pairs_on IsAsPlaced IsAsPlaced IsAsPlaced init olds news c.loop-k.auto.nodes placed_on inv.placed (placed_passed plain state place true olds news passed);
      family = rw inv.stays.same at c.pass_on.ensures.family;
      stays = Stays-trans _ _ _ inv.stays c.pass_on.ensures.store;
    }

pub returns-in-Err-clause-stand : goal.returns-in-Err-clause-stand
returns-in-Err-clause-stand g c =
    let inv = c.loop-k.invariant in
    stand_on g.P.LocalPacket.plain g.K.Sink.state c.args.nodes.now c.loop-k.nodes c.pass_on.new.nodes [] [] c.loop-k.auto.nodes inv.placed inv.stand c.pass_on.ensures.passes.stand

pub returns-in-Err-clause-taking : goal.returns-in-Err-clause-taking
returns-in-Err-clause-taking g c =
    taking_passed g.P.LocalPacket.plain g.K.Sink.state _ c.loop-k.nodes c.pass_on.new.nodes c.pass_on.auto.nodes _ c.pass_on.ensures.passes c.loop-k.invariant.taking

pub returns-in-Err-clause-placed : goal.returns-in-Err-clause-placed
returns-in-Err-clause-placed g c =
    pairs_on IsAsPlaced IsAsPlaced IsAsPlaced c.args.nodes.now c.loop-k.nodes c.pass_on.new.nodes c.loop-k.auto.nodes placed_on c.loop-k.invariant.placed
    (placed_passed g.P.LocalPacket.plain g.K.Sink.state _ _ c.loop-k.nodes c.pass_on.new.nodes c.pass_on.ensures.passes)

pub returns-in-Err-clause-family : goal.returns-in-Err-clause-family
returns-in-Err-clause-family g c = rw c.loop-k.invariant.stays.same at c.pass_on.ensures.family

pub returns-clause-settled : goal.returns-clause-settled
returns-clause-settled g c i d within =
    let at = c.requires.swept.sweeps.all i (omega (arith, within, c.loop-k.auto.nodes)) in
    subst (λ n. IsSettled (get_or c.loop-k.nodes n d)) (at.2 0) (c.loop-k.invariant.settled at.0 d 0 (omega (arith, at.1, c.loop-k-test.false)))
