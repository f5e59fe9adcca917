use Rattle.std.proofs.Common.{arith, rules, tests, refl, ◌∙◌}
use Rattle.std.proofs.lemmas.Iterator.{YieldsList-from_range}
use Rattle.std.proofs.lemmas.Iterator.Search.{any_from_yields_List}
use Rattle.up_model.proofs.Places.{passes, any_of_first}
use Rattle.up_model.specs.FaultTests.{are_alike}
use Rattle.up_model.specs.declared.pipe.Pipe.{Pipe}
use Rattle.up_model.proofs.faults.Common.is_shared_before.Goals as goal

pub returns : goal.returns
returns c =
    let alike = λ (earlier : Pipe). are_alike c.args.self earlier c.args.pipe.now in
    let pipes = c.args.pipes.now in
    any_from_yields_List (passes alike pipes) _ _ _ c.any.ensures.ran
    (YieldsList-from_range 0 c.args.place c.args.place refl (omega arith)) (λ x b q k. search (rules, tests))
    ∙ any_of_first alike pipes c.args.place
