use Rattle.std.proofs.Common.{arith}
use Rattle.up_model.proofs.PlainReading.{are_bytes, digits_small}
use Rattle.up_model.proofs.plain_fields.big_endian.Goals as goal

pub overflow_mul-number : goal.overflow_mul-number
overflow_mul-number c =
    let below = are_bytes c.args.digits.now (λ i. omega (arith, c.type_inv.digits i)) in
    let small = digits_small c.args.digits.now c.loop-place.place below (omega (arith, c.requires, c.loop-place-test.true)) in
    omega (arith, small, c.loop-place.invariant)

pub overflow_add-number : goal.overflow_add-number
overflow_add-number c =
    let below = are_bytes c.args.digits.now (λ i. omega (arith, c.type_inv.digits i)) in
    let small = digits_small c.args.digits.now c.loop-place.place below (omega (arith, c.requires, c.loop-place-test.true)) in
    omega (arith, small, c.loop-place.invariant, c.from.ensures, c.type_inv.digits c.loop-place.place)
