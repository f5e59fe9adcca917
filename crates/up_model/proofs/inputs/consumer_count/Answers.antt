use Rattle.std.proofs.Common.{arith, rules, tests, ◌∙◌, length}
use Rattle.std.proofs.lemmas.Iterator.{YieldsList-from_range}
use Rattle.std.proofs.lemmas.Iterator.Consumers.{YieldsList-from_filter, count_from_yields_List}
use Rattle.std.proofs.lemmas.List.Sums.{length-filter}
use Rattle.up_model.proofs.Places.{passes, count_of_all}
use Rattle.up_model.specs.Inputs.{is_consumer_of}
use Rattle.up_model.proofs.inputs.consumer_count.Goals as goal

pub returns : goal.returns
returns c =
    let takes = is_consumer_of c.args.place in
    let pipes = c.args.pipes.now in
    count_from_yields_List c.filter.result c.count.result c.count.ensures.ran
    (YieldsList-from_filter _ (passes takes pipes) (YieldsList-from_range 0 (length pipes) (length pipes) (cc) (omega arith))
    c.filter.ensures.closure (λ x b q k. search (rules, tests)))
    ∙ count_of_all takes pipes
    ∙ length-filter takes pipes
