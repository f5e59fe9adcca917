use Rattle.std.proofs.Common.{length, ap, refl, ◌∙◌}
use Rattle.std.specs.List.{filter}
use Rattle.up_model.specs.Inputs.{passes_at}
use Rattle.up_model.specs.Plans.{ends_at_sink}
use Rattle.up_strand.proofs.ShapeLists.{head_there, strand_found}
use Rattle.upipe_bench.proofs.chain.strand_of.Goals as goal

pub new-requires-clause-head : goal.new-requires-clause-head
new-requires-clause-head c =
    let pipes = c.args.graph.now.pipes in
    head_there pipes c.in_ok-plan.plan.strands 0 c.at-planned.result.now (ap (λ plan. plan.strands) c.in_ok-plan.ensures) c.at-planned.ensures

pub new-requires-clause-sinks : goal.new-requires-clause-sinks
new-requires-clause-sinks c =
    let pipes = c.args.graph.now.pipes in
    let planned = c.at-planned.result.now in
    let own = strand_found pipes c.in_ok-plan.plan.strands 0 planned.head planned (ap (λ plan. plan.strands) c.in_ok-plan.ensures) c.at-planned.ensures refl in
    c.in_ok-sinks.ensures ∙ ap (λ places. length (filter (passes_at ends_at_sink pipes) places)) own
