use Rattle.std.proofs.Common.{◌≡◌, ◌<◌, ◌∙◌, [], false, refl, length, arith}
use Rattle.up_shape.proofs.StoreSteps.{Stays-refl, Stays-trans}
use Rattle.up_strand.proofs.Gives.{placed_itself, placed_on}
use Rattle.up_strand.proofs.Lists.{done_next, pairs_on, pairs_set}
use Rattle.up_strand.proofs.Passing.{stand_on, stand_still}
use Rattle.up_strand.proofs.Sweeping.{placed_set, stand_stepped}
use Rattle.up_strand.specs.Nodes.{IsAsPlaced, is_pipe, is_whole}
use Rattle.up_strand.specs.declared.node.Node.{Node}
use Rattle.up_strand.proofs.ending.break_all.Goals as goal

pub loop-i-init : goal.loop-i-init
loop-i-init g c = record {
  stand = stand_still g.P.LocalPacket.plain g.K.Sink.state c.args.nodes.now;
  ended = λ i d below. absurd (omega arith);
  out = λ i d within. refl;
  short = λ i d within. refl;
  whole = λ i d within. refl;
  placed = λ i d within. placed_itself _;
  stays = Stays-refl _;
}

pub loop-i-preserved : goal.loop-i-preserved
loop-i-preserved g c =
    let plain = g.P.LocalPacket.plain in
    let state = g.K.Sink.state in
    let inv = c.loop-i.invariant in
    let init = c.args.nodes.now in
    let now = c.loop-i.nodes in
    let i = c.loop-i.i in
    let e = c.index-nodes-i.result in
    let y = c.break_off.new.self in
    let broke = c.break_off.ensures in
    let within : i < length now = omega (arith, c.loop-i-test.true, c.loop-i.auto.nodes) in
    let placed = placed_set plain state now i e y within broke.placed in
    record {
      stand = stand_on plain state init now _ [] [] c.loop-i.auto.nodes inv.placed inv.stand (stand_stepped plain state now i e y within broke.placed broke.took);
      ended = done_next (λ (a b : Node g.row.P.Denot g.row.K.Denot). is_pipe b.part ≡ false) now now i y within inv.ended (λ d. broke.ended);
      out = pairs_on (λ (a b : Node g.row.P.Denot g.row.K.Denot). b.out ≡ a.out) (λ (a b : Node g.row.P.Denot g.row.K.Denot). b.out ≡ a.out)
          (λ (a b : Node g.row.P.Denot g.row.K.Denot). b.out ≡ a.out) init now _ c.loop-i.auto.nodes (λ a b c one two. two ∙ one) inv.out
          (pairs_set (λ (a b : Node g.row.P.Denot g.row.K.Denot). b.out ≡ a.out) now i y e within (λ a. refl) broke.out);
      short = pairs_on (λ (a b : Node g.row.P.Denot g.row.K.Denot). b.short ≡ a.short) (λ (a b : Node g.row.P.Denot g.row.K.Denot). b.short ≡ a.short)
          (λ (a b : Node g.row.P.Denot g.row.K.Denot). b.short ≡ a.short) init now _ c.loop-i.auto.nodes (λ a b c one two. two ∙ one) inv.short
          (pairs_set (λ (a b : Node g.row.P.Denot g.row.K.Denot). b.short ≡ a.short) now i y e within (λ a. refl) broke.short);
      whole = pairs_on (λ (a b : Node g.row.P.Denot g.row.K.Denot). is_whole b.part ≡ is_whole a.part) (λ (a b : Node g.row.P.Denot g.row.K.Denot). is_whole b.part ≡ is_whole a.part)
          (λ (a b : Node g.row.P.Denot g.row.K.Denot). is_whole b.part ≡ is_whole a.part) init now _ c.loop-i.auto.nodes (λ a b c one two. two ∙ one) inv.whole
          (pairs_set (λ (a b : Node g.row.P.Denot g.row.K.Denot). is_whole b.part ≡ is_whole a.part) now i y e within (λ a. refl) broke.whole);
      placed = pairs_on IsAsPlaced IsAsPlaced IsAsPlaced init now _ c.loop-i.auto.nodes placed_on inv.placed placed;
      stays = Stays-trans _ _ _ inv.stays broke.store;
    }
