use Rattle.std.proofs.Common.{true}
use Rattle.up_shape.specs.Stores.{Stays}
use Rattle.up_strand.specs.Gifts.{NodesFit}
use Rattle.up_strand.specs.Stand.{Passes}
use Rattle.up_strand.specs.Tree.{AreTakers}
use Rattle.up_strand.specs.Waiting.{waiting_at}
use Rattle.up_strand.proofs.giving.pass_on.Given as goal

abbrev pub invariant-packets : goal.invariant-packets
invariant-packets g l =
    let packet = g.P.LocalPacket in
    let state = g.P.Store.Stash.state in
    record {
      passed : Passes packet.plain g.K.Sink.state true l.place l.initial.nodes l.nodes;
      takers : AreTakers l.place l.initial.nodes l.takers;
      family : NodesFit packet.fits (state l.initial.s).family l.nodes;
      stays : Stays (state l.initial.s) (state l.s);
    }

abbrev pub decreases-packets : goal.decreases-packets
decreases-packets g l = waiting_at l.place l.nodes
