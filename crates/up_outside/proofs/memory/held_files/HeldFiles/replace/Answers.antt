use Rattle.std.proofs.Common.{◌≡◌, true, false, sym, ◌∙◌}
use Rattle.up_outside.proofs.HeldFiles.{held-put, held-not}
use Rattle.up_outside.proofs.memory.held_files.HeldFiles.replace.Goals as goal

pub unreachable-requires : goal.unreachable-requires
unreachable-requires c =
    let none = rw c.deref.ensures.value at (sym c.place_of.ensures ∙ c.in-None.is) in
    let absent = rw c.self.view_is at (held-not c.self.inside.files.items c.args.path.now none) in
    let no : false ≡ true = rw absent at c.requires in
    cc

pub returns : goal.returns
returns c =
    let place = rw c.deref.ensures.value at (sym c.place_of.ensures ∙ c.in-Some.is) in
    rw (← c.self.view_is) (held-put c.self.inside.files.items c.put_at.new.files.items c.args.path.now c.in-Some.at c.args.bytes place c.put_at.ensures)
