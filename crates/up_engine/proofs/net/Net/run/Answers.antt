use Rattle.std.proofs.Common.{sym, arith}
use Rattle.up_shape.proofs.StoreSteps.{Stays-refl, Stays-trans}
use Rattle.up_engine.proofs.Going.{ends_within_some, stayed, went_on}
use Rattle.up_engine.proofs.net.Net.run.Goals as goal

pub of-ahead-requires : goal.of-ahead-requires
of-ahead-requires g c = ends_within_some _ _ _ _ c.requires.stands

pub reads-init : goal.reads-init
reads-init g c =
    let ahead = c.of-ahead.ensures in
    record {
      went = λ pipes past stands. stayed _ _ _ pipes past _ _ stands;
      left = (ahead.pipes, ahead.past, ahead.stands, ahead.reads_within);
      family = c.requires.family;
      stays = Stays-refl _;
    }

pub run_to_read-requires-clause-stands : goal.run_to_read-requires-clause-stands
run_to_read-requires-clause-stands g c =
    let left = c.reads.invariant.left in (left.0, left.1, left.2)

pub reads-smaller : goal.reads-smaller
reads-smaller g c =
    let left = c.reads.invariant.left in
    let went = c.run_to_read.ensures.went left.0 left.1 left.2 in
    omega (arith, left.3, went.read c.reads-test.true, c.lowered-ahead.ensures.reads)

pub reads-preserved : goal.reads-preserved
reads-preserved g c =
    let so_far = c.reads.invariant in
    let left = so_far.left in
    let went = c.run_to_read.ensures.went left.0 left.1 left.2 in
    record {
      went = λ pipes past stands.
          let before = so_far.went pipes past stands in
          let then = c.run_to_read.ensures.went pipes before.now before.stands in
          went_on _ _ _ pipes past _ _ _ _ _ before then.went;
      left = (
        left.0,
        went.went.now,
        went.went.stands,
        omega (arith, left.3, went.read c.reads-test.true, c.lowered-ahead.ensures.reads),
      );
      family = rw (sym so_far.stays.same) c.run_to_read.ensures.family;
      stays = Stays-trans _ _ _ so_far.stays c.run_to_read.ensures.store;
    }

pub returns-clause-ran : goal.returns-clause-ran
returns-clause-ran g c pipes past stands =
    let before = c.reads.invariant.went pipes past stands in
    let then = c.run_to_read.ensures.went pipes before.now before.stands in
    record {
      went = went_on _ _ _ pipes past _ _ _ _ _ before then.went;
      over = then.over c.reads-test.false;
    }
