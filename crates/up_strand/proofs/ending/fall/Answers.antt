use Rattle.std.proofs.Common.{◌≡◌, ◌<◌, ◌∙◌, [], length, get_or, refl, subst, arith}
use Rattle.std.proofs.lemmas.List.{get_or_default}
use Rattle.up_shape.proofs.StoreSteps.{Stays-refl, Stays-trans}
use Rattle.up_strand.proofs.Gives.{placed_itself, placed_on}
use Rattle.up_strand.proofs.Lists.{all_set, done_next, left_next, pairs_on}
use Rattle.up_strand.proofs.Passing.{stand_on, stand_still}
use Rattle.up_strand.proofs.Sweeping.{placed_set, stand_stepped}
use Rattle.up_strand.specs.Nodes.{HasGivenUp, IsAsPlaced, IsTaking, NodeFits}
use Rattle.up_strand.specs.declared.node.Node.{Node}
use Rattle.up_strand.proofs.ending.fall.Goals as goal

pub loop-i-init : goal.loop-i-init
loop-i-init g c = record {
  stand = stand_still g.P.LocalPacket.plain g.K.Sink.state c.args.nodes.now;
  given_up = λ i d below. absurd (omega arith);
  left = λ i d behind. refl;
  taking = λ taking. taking;
  placed = λ i d within. placed_itself _;
  family = c.requires.family;
  stays = Stays-refl _;
}

pub loop-i-preserved : goal.loop-i-preserved
loop-i-preserved g c =
    let plain = g.P.LocalPacket.plain in
    let state = g.K.Sink.state in
    let inv = c.loop-i.invariant in
    let init = c.args.nodes.now in
    let now = c.loop-i.nodes in
    let i = c.loop-i.i in
    let e = c.index-nodes-i.result in
    let y = c.abandon.new.self in
    let fell = c.abandon.ensures in
    let within : i < length now = omega (arith, c.loop-i-test.true, c.loop-i.auto.nodes) in
    let placed = placed_set plain state now i e y within fell.placed in
    record {
      stand = stand_on plain state init now _ [] [] c.loop-i.auto.nodes inv.placed inv.stand (stand_stepped plain state now i e y within fell.placed fell.took);
      given_up = done_next HasGivenUp init now i y within inv.given_up
          (λ d.
          let there : get_or now i e ≡ get_or init i d = get_or_default now i e d within ∙ inv.left i d (omega arith) in
          subst (λ (n : Node g.row.P.Denot g.row.K.Denot). HasGivenUp n y) there fell.given_up);
      left = left_next HasGivenUp init now i y inv.left;
      taking = λ taking. let before = inv.taking taking in all_set IsTaking now i y before (fell.taking (before i e within));
      placed = pairs_on IsAsPlaced IsAsPlaced IsAsPlaced init now _ c.loop-i.auto.nodes placed_on inv.placed placed;
      family = all_set (λ n. NodeFits g.P.LocalPacket.fits n (g.P.Store.Stash.state c.args.s.now).family) now i y inv.family (rw inv.stays.same at fell.family);
      stays = Stays-trans _ _ _ inv.stays fell.store;
    }

pub returns-clause-given_up : goal.returns-clause-given_up
returns-clause-given_up g c i d within = c.loop-i.invariant.given_up i d (omega (arith, within, c.loop-i-test.false, c.loop-i.auto.nodes))
