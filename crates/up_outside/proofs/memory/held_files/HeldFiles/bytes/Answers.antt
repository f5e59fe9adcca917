use Rattle.std.proofs.Common.{sym, ◌∙◌}
use Rattle.up_outside.proofs.HeldFiles.{held-at, held-not}
use Rattle.up_outside.proofs.memory.held_files.HeldFiles.bytes.Goals as goal

pub returns-in-Some : goal.returns-in-Some
returns-in-Some c =
    let place = rw c.deref.ensures.value at (sym c.place_of.ensures ∙ c.in-Some.is) in
    rw (← c.self.view_is) (held-at c.self.inside.files.items c.args.path.now c.in-Some.at _ place (rw c.deref-in-Some.ensures.value at c.bytes_at.ensures))

pub returns-in-None : goal.returns-in-None
returns-in-None c =
    let none = rw c.deref.ensures.value at (sym c.place_of.ensures ∙ c.in-None.is) in
    rw (← c.self.view_is) (held-not c.self.inside.files.items c.args.path.now none)
