use Rattle.std.proofs.Common.{arith}
use Rattle.up_dict.proofs.InRun.{none_passed, inside, first_there, passed_more, found_here, gap_here, gap_at_end}
use Rattle.up_dict.specs.Reading.{attrs_in}
use Rattle.up_dict.proofs.find.find.Goals as goal

pub loop-byte-init : goal.loop-byte-init
loop-byte-init c = none_passed (attrs_in c.args.run.now) c.args.name.now

pub compare-requires : goal.compare-requires
compare-requires c =
    let run = c.args.run.now in
    rw c.rest_from.ensures (first_there (attrs_in run) run c.args.name.now c.requires c.loop-byte.byte c.loop-byte.invariant (omega arith))

pub loop-byte-preserved : goal.loop-byte-preserved
loop-byte-preserved c =
    let run = c.args.run.now in
    let less = rw c.rest_from.ensures at c.in-Less.ensures in
    rw less.1 (passed_more (attrs_in run) run c.args.name.now c.requires c.loop-byte.byte c.loop-byte.invariant (omega arith) less.0)

pub returns-in-Same : goal.returns-in-Same
returns-in-Same c =
    let run = c.args.run.now in
    let passed = c.loop-byte.invariant in
    let same = rw c.rest_from.ensures at c.in-Same.ensures in
    record {
      place = passed.place;
      before = passed.before;
      within = inside (attrs_in run) run c.requires passed.place c.loop-byte.byte passed.before (omega arith);
      here = found_here (attrs_in run) run c.args.name.now c.requires c.loop-byte.byte passed (omega arith) same;
    }

pub returns-in-Greater : goal.returns-in-Greater
returns-in-Greater c =
    let run = c.args.run.now in
    let passed = c.loop-byte.invariant in
    let greater = rw c.rest_from.ensures at c.in-Greater.ensures in
    record {
      place = passed.place;
      before = passed.before;
      gap = gap_here (attrs_in run) run c.args.name.now c.requires c.loop-byte.byte passed (omega arith) greater;
    }

pub returns : goal.returns
returns c =
    let run = c.args.run.now in
    let passed = c.loop-byte.invariant in
    record {
      place = passed.place;
      before = passed.before;
      gap = gap_at_end (attrs_in run) run c.args.name.now c.requires c.loop-byte.byte passed (omega arith);
    }
