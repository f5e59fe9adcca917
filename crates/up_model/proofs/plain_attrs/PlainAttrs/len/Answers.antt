use Rattle.std.proofs.Common.{◌≡◌, length, sym, ◌∙◌, rules}
use Rattle.up_model.proofs.AttrLists.{len-list}
use Rattle.up_model.proofs.plain_attrs.PlainAttrs.len.Goals as goal

pub returns : goal.returns
returns c =
    let all : c.len.result ≡ length c.self.inside.entries.items = search rules in
    rw (← c.self.view_is) (all ∙ sym (len-list c.self.inside.entries.items c.self.invariant))
