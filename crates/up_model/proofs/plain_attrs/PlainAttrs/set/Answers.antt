use Rattle.std.proofs.Common.{sym, ap, is_some}
use Rattle.up_model.proofs.AttrLists.{gap, set-there, set-missing, contains-there, get-missing}
use Rattle.up_model.proofs.plain_attrs.PlainAttrs.set.Goals as goal

pub invariant_of-self : goal.invariant_of-self
invariant_of-self c =
    let within = rw c.deref.ensures.value at c.in-Ok.ensures.bound in
    let here = rw c.deref.ensures.value at c.in-Ok.ensures.place in
    (set-there c.self.inside.entries.items c.put_at.new.entries.items c.args.name c.args.value c.in-Ok.at c.self.invariant within here c.put_at.ensures).order

pub returns-in-Ok-clause-set : goal.returns-in-Ok-clause-set
returns-in-Ok-clause-set c =
    let within = rw c.deref.ensures.value at c.in-Ok.ensures.bound in
    let here = rw c.deref.ensures.value at c.in-Ok.ensures.place in
    rw (← c.self.view_is)
    (set-there c.self.inside.entries.items c.put_at.new.entries.items c.args.name c.args.value c.in-Ok.at c.self.invariant within here c.put_at.ensures).is

pub returns-in-Ok-clause-there : goal.returns-in-Ok-clause-there
returns-in-Ok-clause-there c =
    let within = rw c.deref.ensures.value at c.in-Ok.ensures.bound in
    let here = rw c.deref.ensures.value at c.in-Ok.ensures.place in
    rw (← c.self.view_is) (sym (contains-there c.self.inside.entries.items c.args.name c.in-Ok.at c.self.invariant within here))

pub invariant_of-self-in-Err : goal.invariant_of-self-in-Err
invariant_of-self-in-Err c =
    let list = c.self.inside.entries.items in
    let within = rw c.deref.ensures.value at c.in-Err.ensures.bound in
    let cut = gap list c.args.name c.in-Err.at c.self.invariant (rw c.deref.ensures.value at c.in-Err.ensures.place) in
    let added = c.in_ok-insert_at-in-Err.ensures.added in
    (set-missing list c.insert_at.new.entries.items c.args.name c.args.value c.in-Err.at c.self.invariant within cut added).order

pub returns-in_ok-insert_at-in-Err-clause-set : goal.returns-in_ok-insert_at-in-Err-clause-set
returns-in_ok-insert_at-in-Err-clause-set c =
    let list = c.self.inside.entries.items in
    let within = rw c.deref.ensures.value at c.in-Err.ensures.bound in
    let cut = gap list c.args.name c.in-Err.at c.self.invariant (rw c.deref.ensures.value at c.in-Err.ensures.place) in
    let added = c.in_ok-insert_at-in-Err.ensures.added in
    rw (← c.self.view_is)
    (set-missing list c.insert_at.new.entries.items c.args.name c.args.value c.in-Err.at c.self.invariant within cut added).is

pub returns-in_ok-insert_at-in-Err-clause-there : goal.returns-in_ok-insert_at-in-Err-clause-there
returns-in_ok-insert_at-in-Err-clause-there c =
    let list = c.self.inside.entries.items in
    let cut = gap list c.args.name c.in-Err.at c.self.invariant (rw c.deref.ensures.value at c.in-Err.ensures.place) in
    rw (← c.self.view_is) (sym (ap is_some (get-missing list c.args.name c.in-Err.at c.self.invariant cut)))
