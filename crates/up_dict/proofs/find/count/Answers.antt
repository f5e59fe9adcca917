use Rattle.std.proofs.Common.{arith}
use Rattle.up_dict.proofs.InRun.{inside, first_here, one_further, all_before}
use Rattle.up_dict.specs.Reading.{attrs_in}
use Rattle.up_dict.proofs.find.count.Goals as goal

pub first_size-byte-requires : goal.first_size-byte-requires
first_size-byte-requires c =
    let run = c.args.run.now in
    let before = c.loop-byte.invariant in
    rw c.rest_from.ensures
    (first_here (attrs_in run) run c.requires c.loop-byte.count c.loop-byte.byte before
    (inside (attrs_in run) run c.requires c.loop-byte.count c.loop-byte.byte before (omega arith)))

pub loop-byte-preserved : goal.loop-byte-preserved
loop-byte-preserved c =
    let run = c.args.run.now in
    let before = c.loop-byte.invariant in
    let within = inside (attrs_in run) run c.requires c.loop-byte.count c.loop-byte.byte before (omega arith) in
    rw (c.first_size-byte.ensures.size, c.rest_from.ensures)
    (one_further (attrs_in run) run c.requires c.loop-byte.count c.loop-byte.byte before within)

pub returns : goal.returns
returns c =
    all_before (attrs_in c.args.run.now) c.args.run.now c.requires c.loop-byte.count c.loop-byte.byte c.loop-byte.invariant (omega arith)
