use Rattle.std.proofs.Common.{◌≤◌, length, sym, arith, rules, refl}
use Rattle.up_model.specs.Value.{lent}
use Rattle.up_model.specs.ValueTypes.{value_bytes}
use Rattle.up_model.specs.declared.limits.TheConstants.{MAX_VALUE}
use Rattle.up_dict.proofs.Changed.{replaces, inserts}
use Rattle.up_dict.proofs.Found.{found_within, found_first, found_size, found_there, missing_within, missing_there}
use Rattle.up_dict.proofs.Refused.{taken_there, taken_new, refused_new}
use Rattle.up_dict.proofs.dict.Dict.set.Goals as goal

pub rest_from-requires : goal.rest_from-requires
rest_from-requires c =
    let found = rw (c.deref.ensures.value, c.bytes.ensures.bytes) at c.in-Ok.ensures in
    rw c.deref-in-Ok.ensures.value (found_within c.self.inside.run.items _ c.in-Ok.byte c.self.invariant found)

pub first_size-size-requires : goal.first_size-size-requires
first_size-size-requires c =
    let found = rw (c.deref.ensures.value, c.bytes.ensures.bytes) at c.in-Ok.ensures in
    rw (c.rest_from.ensures, c.deref-in-Ok.ensures.value)
    (found_first c.self.inside.run.items _ c.in-Ok.byte c.self.invariant found)

pub put-requires-clause-within : goal.put-requires-clause-within
put-requires-clause-within c =
    let found = rw (c.deref.ensures.value, c.bytes.ensures.bytes) at c.in-Ok.ensures in
    let size = rw (c.rest_from.ensures, c.deref-in-Ok.ensures.value) at c.first_size-size.ensures.size in
    omega (arith, size, found_size c.self.inside.run.items _ c.in-Ok.byte c.self.invariant found)

pub invariant_of-self-in-Ok : goal.invariant_of-self-in-Ok
invariant_of-self-in-Ok c =
    let found = rw (c.deref.ensures.value, c.bytes.ensures.bytes) at c.in-Ok.ensures in
    let named = rw c.bytes.ensures.bytes at c.bytes.ensures.name in
    let legal = c.value_size-len.ensures.legal c.if-len-gt-MAX_VALUE.false in
    rw (c.in_ok-put-in-Ok.ensures.put, c.first_size-size.ensures.size, c.rest_from.ensures, c.deref-in-Ok.ensures.value, c.bytes-in-Ok.ensures.bytes)
    (replaces c.self.inside.run.items c.args.name.now c.in-Ok.byte c.self.invariant (lent c.args.value) found named legal).is_run

pub returns-in_ok-put-in-Ok-clause-set : goal.returns-in_ok-put-in-Ok-clause-set
returns-in_ok-put-in-Ok-clause-set c =
    let found = rw (c.deref.ensures.value, c.bytes.ensures.bytes) at c.in-Ok.ensures in
    let named = rw c.bytes.ensures.bytes at c.bytes.ensures.name in
    let legal = c.value_size-len.ensures.legal c.if-len-gt-MAX_VALUE.false in
    rw (← c.self.view_is, c.in_ok-put-in-Ok.ensures.put, c.first_size-size.ensures.size, c.rest_from.ensures, c.deref-in-Ok.ensures.value, c.bytes-in-Ok.ensures.bytes)
    (replaces c.self.inside.run.items c.args.name.now c.in-Ok.byte c.self.invariant (lent c.args.value) found named legal).held

pub returns-in_ok-put-in-Ok-clause-there : goal.returns-in_ok-put-in-Ok-clause-there
returns-in_ok-put-in-Ok-clause-there c =
    let found = rw (c.deref.ensures.value, c.bytes.ensures.bytes) at c.in-Ok.ensures in
    rw (← c.self.view_is) (sym (found_there c.self.inside.run.items c.args.name.now c.in-Ok.byte c.self.invariant found))

pub returns-in_ok-put-in-Ok-clause-refused : goal.returns-in_ok-put-in-Ok-clause-refused
returns-in_ok-put-in-Ok-clause-refused c =
    let found = rw (c.deref.ensures.value, c.bytes.ensures.bytes) at c.in-Ok.ensures in
    let fits : length (value_bytes (lent c.args.value)) ≤ MAX_VALUE = omega (arith, c.value_size-len.ensures.size) in
    let taken = taken_there c.self.inside.run.items c.args.name.now c.in-Ok.byte c.self.invariant (lent c.args.value) fits found in
    rw (← c.self.view_is, taken) tt

pub returns-in_err-put-in-Ok-clause-refused : goal.returns-in_err-put-in-Ok-clause-refused
returns-in_err-put-in-Ok-clause-refused c =
    let found = rw (c.deref.ensures.value, c.bytes.ensures.bytes) at c.in-Ok.ensures in
    let fits : length (value_bytes (lent c.args.value)) ≤ MAX_VALUE = omega (arith, c.value_size-len.ensures.size) in
    let taken = taken_there c.self.inside.run.items c.args.name.now c.in-Ok.byte c.self.invariant (lent c.args.value) fits found in
    rw (← c.self.view_is, taken) (search rules)

pub returns-then-count-ge-MAX_ATTRS-clause-refused : goal.returns-then-count-ge-MAX_ATTRS-clause-refused
returns-then-count-ge-MAX_ATTRS-clause-refused c =
    let missing = rw (c.deref.ensures.value, c.bytes.ensures.bytes) at c.in-Err.ensures in
    let fits : length (value_bytes (lent c.args.value)) ≤ MAX_VALUE = omega (arith, c.value_size-len.ensures.size) in
    let counted = rw c.deref-in-Err.ensures.value at c.count-count.ensures in
    let refused = refused_new c.self.inside.run.items c.args.name.now c.in-Err.byte c.self.invariant (lent c.args.value) fits missing c.count-count.result counted c.if-count-ge-MAX_ATTRS.true in
    rw (← c.self.view_is, refused) refl

pub put-requires-in-Err-clause-within : goal.put-requires-in-Err-clause-within
put-requires-in-Err-clause-within c =
    let missing = rw (c.deref.ensures.value, c.bytes.ensures.bytes) at c.in-Err.ensures in
    omega (arith, missing_within c.self.inside.run.items c.args.name.now c.in-Err.byte c.self.invariant missing)

pub invariant_of-self-in-Err : goal.invariant_of-self-in-Err
invariant_of-self-in-Err c =
    let missing = rw (c.deref.ensures.value, c.bytes.ensures.bytes) at c.in-Err.ensures in
    let named = rw c.bytes.ensures.bytes at c.bytes.ensures.name in
    let legal = c.value_size-len.ensures.legal c.if-len-gt-MAX_VALUE.false in
    let counted = rw c.deref-in-Err.ensures.value at c.count-count.ensures in
    rw (c.in_ok-put-in-Err.ensures.put, c.bytes-in-Err.ensures.bytes)
    (inserts c.self.inside.run.items c.args.name.now c.in-Err.byte c.self.invariant (lent c.args.value) missing named legal (omega (arith, counted))).is_run

pub returns-in_ok-put-in-Err-clause-set : goal.returns-in_ok-put-in-Err-clause-set
returns-in_ok-put-in-Err-clause-set c =
    let missing = rw (c.deref.ensures.value, c.bytes.ensures.bytes) at c.in-Err.ensures in
    let named = rw c.bytes.ensures.bytes at c.bytes.ensures.name in
    let legal = c.value_size-len.ensures.legal c.if-len-gt-MAX_VALUE.false in
    let counted = rw c.deref-in-Err.ensures.value at c.count-count.ensures in
    rw (← c.self.view_is, c.in_ok-put-in-Err.ensures.put, c.bytes-in-Err.ensures.bytes)
    (inserts c.self.inside.run.items c.args.name.now c.in-Err.byte c.self.invariant (lent c.args.value) missing named legal (omega (arith, counted))).held

pub returns-in_ok-put-in-Err-clause-there : goal.returns-in_ok-put-in-Err-clause-there
returns-in_ok-put-in-Err-clause-there c =
    let missing = rw (c.deref.ensures.value, c.bytes.ensures.bytes) at c.in-Err.ensures in
    rw (← c.self.view_is) (sym (missing_there c.self.inside.run.items c.args.name.now c.in-Err.byte c.self.invariant missing))

pub returns-in_ok-put-in-Err-clause-refused : goal.returns-in_ok-put-in-Err-clause-refused
returns-in_ok-put-in-Err-clause-refused c =
    let missing = rw (c.deref.ensures.value, c.bytes.ensures.bytes) at c.in-Err.ensures in
    let fits : length (value_bytes (lent c.args.value)) ≤ MAX_VALUE = omega (arith, c.value_size-len.ensures.size) in
    let counted = rw c.deref-in-Err.ensures.value at c.count-count.ensures in
    let taken = taken_new c.self.inside.run.items c.args.name.now c.in-Err.byte c.self.invariant (lent c.args.value) fits missing c.count-count.result counted c.if-count-ge-MAX_ATTRS.false in
    rw (← c.self.view_is, taken) tt

pub returns-in_err-put-in-Err-clause-refused : goal.returns-in_err-put-in-Err-clause-refused
returns-in_err-put-in-Err-clause-refused c =
    let missing = rw (c.deref.ensures.value, c.bytes.ensures.bytes) at c.in-Err.ensures in
    let fits : length (value_bytes (lent c.args.value)) ≤ MAX_VALUE = omega (arith, c.value_size-len.ensures.size) in
    let counted = rw c.deref-in-Err.ensures.value at c.count-count.ensures in
    let taken = taken_new c.self.inside.run.items c.args.name.now c.in-Err.byte c.self.invariant (lent c.args.value) fits missing c.count-count.result counted c.if-count-ge-MAX_ATTRS.false in
    rw (← c.self.view_is, taken) (search rules)
