use Rattle.up_strand.proofs.NodeSteps.{emptied}
use Rattle.up_strand.proofs.node.Node.empty.Goals as goal

pub returns-clause-took : goal.returns-clause-took
returns-clause-took g c =
    emptied g.P.LocalPacket.plain g.K.Sink.state c.args.self.now c.give_up_waiting.new.out c.requires.short c.give_up_waiting.ensures.empty c.give_up_waiting.ensures.tally
