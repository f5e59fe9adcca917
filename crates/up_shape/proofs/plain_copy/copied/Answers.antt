use Rattle.std.proofs.Common.{◌≡◌, ◌≤◌, Some, slice_get, arith}
use Rattle.std.specs.FinMap as map
use Rattle.std.specs.Cmp.Lexicographic.{nat_list_cmp_total}
use Rattle.up_shape.proofs.Copies.{next_copied, entries-empty, all_copied}
use Rattle.up_shape.proofs.plain_copy.copied.Goals as goal

pub loop-i-init : goal.loop-i-init
loop-i-init c = entries-empty c.new-made.result c.new-made.ensures

pub loop-i-preserved : goal.loop-i-preserved
loop-i-preserved c =
    let next : slice_get (map.entries c.args.attrs.now) c.loop-i.i ≡ Some (c.at-name.result.0, c.in_ok-value.value) =
    rw c.in_ok-value.ensures c.at-name.ensures in
    rw c.in-Ok.ensures.set (next_copied nat_list_cmp_total c.args.attrs.now c.loop-i.made c.loop-i.i _ _ next c.loop-i.invariant)

pub returns : goal.returns
returns c =
    let all : map.len c.args.attrs.now ≤ c.loop-i.i = omega arith in
    all_copied c.args.attrs.now c.loop-i.made c.loop-i.i all c.loop-i.invariant
