use Rattle.std.proofs.Common.{true, []}
use Rattle.up_strand.proofs.NodeSteps.{falls_short, Took-then}
use Rattle.up_strand.proofs.node.Node.fall.Goals as goal

pub returns-clause-took : goal.returns-clause-took
returns-clause-took g c =
    let old = c.args.self.now in
    let plain = g.P.LocalPacket.plain in
    let state = g.K.Sink.state in
    Took-then plain state old (record old { short = true }) c.break_off.new.self [] (falls_short plain state old) c.break_off.ensures.took
