use Rattle.std.proofs.Common.{refl, sym, arith}
use Rattle.up_shape.proofs.StoreSteps.{Stays-refl, Stays-trans}
use Rattle.up_engine.proofs.Going.{ends_within_some, stayed, turned_to_end, turned_to_read, turned_unread}
use Rattle.up_engine.proofs.net.Net.run_to_read.Goals as goal

pub of-ahead-requires : goal.of-ahead-requires
of-ahead-requires g c = ends_within_some _ _ _ _ c.requires.stands

pub turns-init : goal.turns-init
turns-init g c =
    let ahead = c.of-ahead.ensures in
    record {
      went = λ pipes past stands. (stayed _ _ _ pipes past _ _ stands, refl);
      left = (ahead.pipes, ahead.past, ahead.stands, ahead.turns_within);
      family = c.requires.family;
      stays = Stays-refl _;
    }

pub returns-in-Read-clause-went : goal.returns-in-Read-clause-went
returns-in-Read-clause-went g c pipes past stands =
    let so_far = c.turns.invariant.went pipes past stands in
    let turned = c.turn.ensures.turned pipes so_far.0.now so_far.0.stands in
    turned_to_read _ _ _ pipes past _ _ _ _ _ _ so_far turned c.in-Read.is

pub returns-in-Done-clause-went : goal.returns-in-Done-clause-went
returns-in-Done-clause-went g c pipes past stands =
    let so_far = c.turns.invariant.went pipes past stands in
    let turned = c.turn.ensures.turned pipes so_far.0.now so_far.0.stands in
    turned_to_end _ _ _ pipes past _ _ _ _ _ _ so_far turned c.in-Done.is

pub turns-smaller : goal.turns-smaller
turns-smaller g c =
    let left = c.turns.invariant.left in
    let turned = c.turn.ensures.turned left.0 left.1 left.2 in
    omega (arith, left.3, turned.moved c.in-Moved.is, c.lowered-ahead.ensures.turns)

pub turns-preserved : goal.turns-preserved
turns-preserved g c =
    let so_far = c.turns.invariant in
    let left = so_far.left in
    let turned = c.turn.ensures.turned left.0 left.1 left.2 in
    record {
      went = λ pipes past stands.
          let before = so_far.went pipes past stands in
          turned_unread _ _ _ pipes past _ _ _ _ _ _ before
          (c.turn.ensures.turned pipes before.0.now before.0.stands) c.in-Moved.is;
      left = (
        left.0,
        turned.went.now,
        turned.went.stands,
        omega (arith, left.3, turned.moved c.in-Moved.is, c.lowered-ahead.ensures.turns),
      );
      family = rw (sym so_far.stays.same) c.turn.ensures.family;
      stays = Stays-trans _ _ _ so_far.stays c.turn.ensures.store;
    }
