use Rattle.std.proofs.Common.{arith, rules, tests, ◌∙◌, length}
use Rattle.std.proofs.lemmas.Iterator.{YieldsList-from_range}
use Rattle.std.proofs.lemmas.Iterator.Search.{position_from_yields_List}
use Rattle.up_model.proofs.Places.{passes, position_of_all}
use Rattle.up_model.specs.Outcomes.{is_cause}
use Rattle.up_model.proofs.outcome.deciding.Goals as goal

pub returns : goal.returns
returns c =
    let outcomes = c.args.outcomes.now in
    position_from_yields_List (passes is_cause outcomes) _ _ _ c.position.ensures.ran
    (YieldsList-from_range 0 c.len.result (length outcomes) (cc) (omega arith)) (λ x b q k. search (rules, tests))
    ∙ position_of_all is_cause outcomes
