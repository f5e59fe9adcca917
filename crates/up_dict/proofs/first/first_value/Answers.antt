use Rattle.std.proofs.Common.{◌≤◌, ◌+◌, length, arith, rules}
use Rattle.up_dict.proofs.ReadBack.{first_within, value_part}
use Rattle.up_dict.proofs.first.first_value.Goals as goal

pub bounds-run-0 : goal.bounds-run-0
bounds-run-0 c = omega (arith, first_within c.args.run.now c.requires)

pub bounds-run-place : goal.bounds-run-place
bounds-run-place c = omega (arith, first_within c.args.run.now c.requires)

pub read_u16-requires : goal.read_u16-requires
read_u16-requires c = omega (arith, first_within c.args.run.now c.requires)

pub slice_bounds-value_of-end : goal.slice_bounds-value_of-end
slice_bounds-value_of-end c =
    let within = first_within c.args.run.now c.requires in
    let end : c.from-place.result + 1 + 3 + c.from-size.result ≤ length c.args.run.now =
    rw (c.from-size.ensures, c.read_u16.ensures, c.from-place.ensures) within in
    search rules

pub value_of-requires : goal.value_of-requires
value_of-requires c =
    rw (c.unwrap_or-kind.ensures, c.of_number.ensures, c.from-size.ensures, c.read_u16.ensures, c.from-place.ensures) (value_part c.args.run.now c.requires)
