use Rattle.std.proofs.Common.{refl, arith}
use Rattle.up_dict.specs.Reading.{first_size}
use Rattle.up_dict.proofs.ReadBack.{first_within}
use Rattle.up_dict.proofs.first.first_size.Goals as goal

pub bounds-run-0 : goal.bounds-run-0
bounds-run-0 c = omega (arith, first_within c.args.run.now c.requires)

pub read_u16-requires : goal.read_u16-requires
read_u16-requires c = omega (arith, first_within c.args.run.now c.requires)

pub returns-clause-size : goal.returns-clause-size
unfolding first_size
returns-clause-size c = rw (c.from.ensures, c.read_u16.ensures, c.from-place.ensures) refl

pub returns-clause-within : goal.returns-clause-within
returns-clause-within c =
    rw (c.from.ensures, c.read_u16.ensures, c.from-place.ensures) (first_within c.args.run.now c.requires)
