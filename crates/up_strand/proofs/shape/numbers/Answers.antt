use Rattle.std.proofs.Common.{refl, arith}
use Rattle.std.proofs.lemmas.Iterator.{items_from_collect, YieldsList-from_range}
use Rattle.std.proofs.lemmas.Result.{IfOk-at_ok}
use Rattle.up_strand.proofs.shape.numbers.Goals as goal

pub returns : goal.returns
returns c = IfOk-at_ok _ c.in_ok-collect.was (items_from_collect _ c.collect.ensures.ran (YieldsList-from_range 0 c.args.count c.args.count refl (omega arith)))
