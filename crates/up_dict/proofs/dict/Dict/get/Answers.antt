use Rattle.up_dict.proofs.Found.{found_within, found_first, found_value, missing_value}
use Rattle.up_dict.proofs.dict.Dict.get.Goals as goal

pub rest_from-requires : goal.rest_from-requires
rest_from-requires c =
    let found = rw (c.deref.ensures.value, c.bytes.ensures.bytes) at c.in-Ok.ensures in
    rw c.deref-in-Ok.ensures.value (found_within c.self.inside.run.items _ c.in-Ok.byte c.self.invariant found)

pub first_value-requires : goal.first_value-requires
first_value-requires c =
    let found = rw (c.deref.ensures.value, c.bytes.ensures.bytes) at c.in-Ok.ensures in
    rw (c.rest_from.ensures, c.deref-in-Ok.ensures.value) (found_first c.self.inside.run.items _ c.in-Ok.byte c.self.invariant found)

pub returns-in-Ok : goal.returns-in-Ok
returns-in-Ok c =
    let found = rw (c.deref.ensures.value, c.bytes.ensures.bytes) at c.in-Ok.ensures in
    rw (← c.self.view_is, c.first_value.ensures, c.rest_from.ensures, c.deref-in-Ok.ensures.value)
    (found_value c.self.inside.run.items c.args.name.now c.in-Ok.byte c.self.invariant found)

pub returns-in-Err : goal.returns-in-Err
returns-in-Err c =
    let missing = rw (c.deref.ensures.value, c.bytes.ensures.bytes) at c.in-Err.ensures in
    rw (← c.self.view_is) (missing_value c.self.inside.run.items c.args.name.now c.in-Err.field-0 c.self.invariant missing)
