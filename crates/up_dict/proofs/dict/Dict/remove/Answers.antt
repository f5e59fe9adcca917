use Rattle.std.proofs.Common.{sym, arith}
use Rattle.up_dict.proofs.Changed.{removes}
use Rattle.up_dict.proofs.Found.{found_within, found_first, found_size, found_there, missing_there, missing_removed}
use Rattle.up_dict.proofs.dict.Dict.remove.Goals as goal

pub rest_from-requires : goal.rest_from-requires
rest_from-requires c =
    let found = rw (c.deref.ensures.value, c.bytes.ensures.bytes) at c.in-Ok.ensures in
    rw c.deref-in-Ok.ensures.value (found_within c.self.inside.run.items _ c.in-Ok.byte c.self.invariant found)

pub first_size-size-requires : goal.first_size-size-requires
first_size-size-requires c =
    let found = rw (c.deref.ensures.value, c.bytes.ensures.bytes) at c.in-Ok.ensures in
    rw (c.rest_from.ensures, c.deref-in-Ok.ensures.value) (found_first c.self.inside.run.items _ c.in-Ok.byte c.self.invariant found)

pub cut-requires : goal.cut-requires
cut-requires c =
    let found = rw (c.deref.ensures.value, c.bytes.ensures.bytes) at c.in-Ok.ensures in
    let size = rw (c.rest_from.ensures, c.deref-in-Ok.ensures.value) at c.first_size-size.ensures.size in
    omega (arith, size, found_size c.self.inside.run.items _ c.in-Ok.byte c.self.invariant found)

pub invariant_of-self : goal.invariant_of-self
invariant_of-self c =
    let found = rw (c.deref.ensures.value, c.bytes.ensures.bytes) at c.in-Ok.ensures in
    rw (c.cut.ensures, c.first_size-size.ensures.size, c.rest_from.ensures, c.deref-in-Ok.ensures.value)
    (removes c.self.inside.run.items c.args.name.now c.in-Ok.byte c.self.invariant found).is_run

pub returns-in-Ok-clause-gone : goal.returns-in-Ok-clause-gone
returns-in-Ok-clause-gone c =
    let found = rw (c.deref.ensures.value, c.bytes.ensures.bytes) at c.in-Ok.ensures in
    rw (← c.self.view_is, c.cut.ensures, c.first_size-size.ensures.size, c.rest_from.ensures, c.deref-in-Ok.ensures.value)
    (removes c.self.inside.run.items c.args.name.now c.in-Ok.byte c.self.invariant found).held

pub returns-in-Ok-clause-there : goal.returns-in-Ok-clause-there
returns-in-Ok-clause-there c =
    let found = rw (c.deref.ensures.value, c.bytes.ensures.bytes) at c.in-Ok.ensures in
    rw (← c.self.view_is) (sym (found_there c.self.inside.run.items c.args.name.now c.in-Ok.byte c.self.invariant found))

pub returns-in-Err-clause-gone : goal.returns-in-Err-clause-gone
returns-in-Err-clause-gone c =
    let missing = rw (c.deref.ensures.value, c.bytes.ensures.bytes) at c.in-Err.ensures in
    rw (← c.self.view_is) (missing_removed c.self.inside.run.items c.args.name.now c.in-Err.field-0 c.self.invariant missing)

pub returns-in-Err-clause-there : goal.returns-in-Err-clause-there
returns-in-Err-clause-there c =
    let missing = rw (c.deref.ensures.value, c.bytes.ensures.bytes) at c.in-Err.ensures in
    rw (← c.self.view_is) (sym (missing_there c.self.inside.run.items c.args.name.now c.in-Err.field-0 c.self.invariant missing))
