use Rattle.std.proofs.Common.{sym, ap, is_some}
use Rattle.up_model.proofs.AttrLists.{gap, remove-there, remove-missing, contains-there, get-missing}
use Rattle.up_model.proofs.plain_attrs.PlainAttrs.remove.Goals as goal

pub invariant_of-self : goal.invariant_of-self
invariant_of-self c =
    let within = rw c.deref.ensures.value at c.in-Ok.ensures.bound in
    let here = rw c.deref.ensures.value at c.in-Ok.ensures.place in
    (remove-there c.self.inside.entries.items c.remove.new.self.items c.args.name.now c.in-Ok.at c.self.invariant within here c.remove.ensures.items).order

pub returns-in-Ok-clause-gone : goal.returns-in-Ok-clause-gone
returns-in-Ok-clause-gone c =
    let within = rw c.deref.ensures.value at c.in-Ok.ensures.bound in
    let here = rw c.deref.ensures.value at c.in-Ok.ensures.place in
    rw (← c.self.view_is)
    (remove-there c.self.inside.entries.items c.remove.new.self.items c.args.name.now c.in-Ok.at c.self.invariant within here c.remove.ensures.items).is

pub returns-in-Ok-clause-there : goal.returns-in-Ok-clause-there
returns-in-Ok-clause-there c =
    let within = rw c.deref.ensures.value at c.in-Ok.ensures.bound in
    let here = rw c.deref.ensures.value at c.in-Ok.ensures.place in
    rw (← c.self.view_is) (sym (contains-there c.self.inside.entries.items c.args.name.now c.in-Ok.at c.self.invariant within here))

pub returns-in-Err-clause-gone : goal.returns-in-Err-clause-gone
returns-in-Err-clause-gone c =
    let cut = gap c.self.inside.entries.items c.args.name.now c.in-Err.field-0 c.self.invariant (rw c.deref.ensures.value at c.in-Err.ensures.place) in
    rw (← c.self.view_is) (remove-missing c.self.inside.entries.items c.args.name.now c.in-Err.field-0 c.self.invariant cut)

pub returns-in-Err-clause-there : goal.returns-in-Err-clause-there
returns-in-Err-clause-there c =
    let cut = gap c.self.inside.entries.items c.args.name.now c.in-Err.field-0 c.self.invariant (rw c.deref.ensures.value at c.in-Err.ensures.place) in
    rw (← c.self.view_is) (sym (ap is_some (get-missing c.self.inside.entries.items c.args.name.now c.in-Err.field-0 c.self.invariant cut)))
