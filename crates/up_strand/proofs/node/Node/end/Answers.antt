use Rattle.std.proofs.Common.{sym, ◌∙◌}
use Rattle.up_strand.proofs.NodeSteps.{pipe_ends_short}
use Rattle.up_strand.proofs.node.Node.end.Goals as goal

pub returns-in-Err-clause-took : goal.returns-in-Err-clause-took
returns-in-Err-clause-took g c =
    pipe_ends_short g.P.LocalPacket.plain g.K.Sink.state c.args.self.now c.replace.new.dest c.in-Pipe.module c.finish.new.out c.if-self.false
    (sym c.replace.ensures.value ∙ c.in-Pipe.is) c.replace.ensures.after c.in-Err.ensures.in_part
