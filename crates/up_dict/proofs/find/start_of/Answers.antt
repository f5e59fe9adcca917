use Rattle.std.proofs.Common.{arith}
use Rattle.up_dict.proofs.InRun.{none_before, byte_within, first_here, one_further}
use Rattle.up_dict.specs.Reading.{attrs_in}
use Rattle.up_dict.proofs.find.start_of.Goals as goal

pub loop-before-init : goal.loop-before-init
loop-before-init c = none_before (attrs_in c.args.run.now)

pub rest_from-requires : goal.rest_from-requires
rest_from-requires c =
    byte_within (attrs_in c.args.run.now) c.args.run.now c.requires.run c.loop-before._before c.loop-before.byte c.loop-before.invariant

pub first_size-byte-requires : goal.first_size-byte-requires
first_size-byte-requires c =
    let run = c.args.run.now in
    rw c.rest_from.ensures
    (first_here (attrs_in run) run c.requires.run c.loop-before._before c.loop-before.byte c.loop-before.invariant (omega arith))

pub loop-before-preserved : goal.loop-before-preserved
loop-before-preserved c =
    let run = c.args.run.now in
    rw (c.first_size-byte.ensures.size, c.rest_from.ensures)
    (one_further (attrs_in run) run c.requires.run c.loop-before._before c.loop-before.byte c.loop-before.invariant (omega arith))
