use Rattle.std.proofs.Common.{[]}
use Rattle.up_strand.proofs.NodeSteps.{Took-then}
use Rattle.up_strand.proofs.node.Node.abandon.Goals as goal

pub returns-clause-took : goal.returns-clause-took
returns-clause-took g c =
    Took-then g.P.LocalPacket.plain g.K.Sink.state c.args.self.now c.fall.new.self c.empty.new.self [] c.fall.ensures.took c.empty.ensures.took
