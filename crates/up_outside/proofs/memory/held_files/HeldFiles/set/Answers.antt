use Rattle.std.proofs.Common.{sym, ◌∙◌}
use Rattle.up_outside.proofs.HeldFiles.{held-put}
use Rattle.up_outside.proofs.memory.held_files.HeldFiles.set.Goals as goal

pub returns-in-Some-clause-set : goal.returns-in-Some-clause-set
returns-in-Some-clause-set c =
    let place = rw c.deref.ensures.value at (sym c.place_of.ensures ∙ c.in-Some.is) in
    rw (← c.self.view_is) (held-put c.self.inside.files.items c.put_at.new.files.items c.args.path.now c.in-Some.at c.args.bytes place c.put_at.ensures)
