use Rattle.std.proofs.Common.{◌≤◌, ◌+◌, [], ◌∷◌, length, ap, sym, ◌∙◌, arith}
use Rattle.std.specs.List.{filter}
use Rattle.std.proofs.lemmas.List.{take_all}
use Rattle.up_model.specs.Inputs.{passes_at}
use Rattle.up_model.specs.Plans.{ends_at_sink}
use Rattle.up_strand.proofs.ShapeLists.{one_more_passes}
use Rattle.up_trials.proofs.split.Split.sinks_at.Goals as goal

pub loop-k-preserved : goal.loop-k-preserved
loop-k-preserved g c =
    let test = passes_at ends_at_sink c.args.self.now.graph.pipes in
    let own = c.at.result.now in
    c.add_sink.ensures ∙ ap (λ count. count + length (filter test (own ∷ []))) c.loop-k.invariant
    ∙ sym (one_more_passes test c.args.places.now c.loop-k.k own c.at.ensures)

pub returns : goal.returns
returns g c =
    let test = passes_at ends_at_sink c.args.self.now.graph.pipes in
    let past : length c.args.places.now ≤ c.loop-k.k = omega (arith, c.len-k-end.ensures, c.loop-k-test.false) in
    c.loop-k.invariant ∙ ap (λ places. length (filter test places)) (take_all c.loop-k.k c.args.places.now past)
