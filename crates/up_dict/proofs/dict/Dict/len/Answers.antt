use Rattle.std.proofs.Common.{length, sym, ap, ◌∙◌}
use Rattle.up_dict.proofs.Found.{len_held, held_is_legal}
use Rattle.up_dict.specs.Reading.{attrs_in}
use Rattle.up_dict.proofs.dict.Dict.len.Goals as goal

pub returns-clause-len : goal.returns-clause-len
returns-clause-len c =
    rw (← c.self.view_is)
    (c.count.ensures ∙ ap (λ run. length (attrs_in run)) c.deref.ensures.value ∙ sym (len_held c.self.inside.run.items c.self.invariant))

pub returns-clause-legal : goal.returns-clause-legal
returns-clause-legal c = rw (← c.self.view_is) (held_is_legal c.self.inside.run.items c.self.invariant)
