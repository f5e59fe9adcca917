use Rattle.std.proofs.Common.{◌≡◌, take}
use Rattle.up_base.specs.Number.{big_endian}
use Rattle.up_model.proofs.plain_fields.big_endian.Given as goal

abbrev pub invariant-loop-place : goal.invariant-loop-place
invariant-loop-place l = l.number ≡ big_endian (take l.place l.digits)
