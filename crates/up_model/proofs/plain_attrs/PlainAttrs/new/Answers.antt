use Rattle.up_model.proofs.AttrLists.{no_attrs}
use Rattle.up_model.proofs.plain_attrs.PlainAttrs.new.Goals as goal

pub returns : goal.returns
returns c = no_attrs c.new.result.items c.new.ensures.items
