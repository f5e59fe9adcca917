use Rattle.std.proofs.Common.{ap}
use Rattle.up_strand.proofs.ShapeLists.{head_there}
use Rattle.up_strand.proofs.shape_tests.shape_at.Goals as goal

pub of-requires-clause-head : goal.of-requires-clause-head
of-requires-clause-head g c =
    head_there c.args.graph.now.pipes c.in_ok-plan.plan.strands c.args.i c.at.result.now (ap (λ p. p.strands) c.in_ok-plan.ensures) c.at.ensures
