use Rattle.std.proofs.Common.{rules, tests}
use Rattle.std.proofs.lemmas.Iterator.{YieldsList-from_slice}
use Rattle.std.proofs.lemmas.Iterator.Search.{any_from_yields_List}
use Rattle.up_engine.proofs.rooms.any_no_memory.Goals as goal
use Rattle.up_engine.specs.Rooms.{is_no_memory}

pub returns : goal.returns
returns c =
    any_from_yields_List is_no_memory _ _ _ c.any.ensures.ran (YieldsList-from_slice c.args.outcomes.now (cc)) (λ x b q k. search (rules, tests))
