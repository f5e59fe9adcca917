use Rattle.std.proofs.Common.{ap}
use Rattle.up_strand.proofs.ShapeLists.{strand_found}
use Rattle.up_trials.proofs.split.Split.own_pipes.Goals as goal

pub returns-then-planned-head-clause-pipes : goal.returns-then-planned-head-clause-pipes
returns-then-planned-head-clause-pipes g c =
    let split = c.args.self.now in
    strand_found split.graph.pipes split.plan.strands c.loop-i.i c.args.head c.at-planned.result.now
    (ap (λ plan. plan.strands) split.planned) c.at-planned.ensures c.if-planned-head.true
