use Rattle.up_strand.proofs.LaneFlows.{lane_stands}
use Rattle.up_strand.proofs.laws.lanes_are_given_the_flow.Goals as goal

pub returns : goal.returns
returns g c strand h lane pipe stands contains there =
    lane_stands g.P.LocalPacket.plain g.S.Source.state g.K.Sink.state strand h stands lane pipe contains there
