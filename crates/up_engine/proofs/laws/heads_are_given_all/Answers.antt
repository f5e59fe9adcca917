use Rattle.up_engine.proofs.AlongLanes.{source_is_head}
use Rattle.up_engine.proofs.WholeParts.{heads_end}
use Rattle.up_engine.proofs.laws.heads_are_given_all.Goals as goal

pub returns : goal.returns
returns c pipes past waiting source head pipe well joined memory ended is of there =
    heads_end pipes past ended source (source_is_head pipes head source of) waiting well joined memory head pipe is of there
