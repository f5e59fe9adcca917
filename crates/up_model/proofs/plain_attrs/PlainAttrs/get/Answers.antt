use Rattle.up_model.specs.Value.{lent}
use Rattle.up_model.proofs.AttrLists.{gap, get-there, get-missing}
use Rattle.up_model.proofs.plain_attrs.PlainAttrs.get.Goals as goal

pub returns-in-Ok : goal.returns-in-Ok
returns-in-Ok c =
    let within = rw c.deref.ensures.value at c.in-Ok.ensures.bound in
    let here = rw c.deref.ensures.value at c.in-Ok.ensures.place in
    let is = rw c.deref-in-Ok.ensures.value at c.value_at.ensures in
    rw (← c.self.view_is) (get-there c.self.inside.entries.items c.args.name.now (lent c.value_at.result) c.in-Ok.at c.self.invariant within here is)

pub returns-in-Err : goal.returns-in-Err
returns-in-Err c =
    let cut = gap c.self.inside.entries.items c.args.name.now c.in-Err.field-0 c.self.invariant (rw c.deref.ensures.value at c.in-Err.ensures.place) in
    rw (← c.self.view_is) (get-missing c.self.inside.entries.items c.args.name.now c.in-Err.field-0 c.self.invariant cut)
