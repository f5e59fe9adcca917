use Rattle.up_model.proofs.AttrLists.{no_attrs}
use Rattle.up_dict.proofs.ReadBack.{empty_run, none_read}
use Rattle.up_dict.proofs.dict.Dict.new.Goals as goal

pub invariant_of-result : goal.invariant_of-result
invariant_of-result c = rw c.new.ensures.items empty_run

pub returns : goal.returns
returns c = rw c.new.ensures.items (no_attrs _ none_read)
