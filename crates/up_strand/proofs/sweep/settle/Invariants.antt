use Rattle.std.proofs.Common.{ℕ, ◌<◌, [], get_or}
use Rattle.up_shape.specs.Stores.{Stays}
use Rattle.up_strand.specs.Gifts.{NodesFit}
use Rattle.up_strand.specs.Stand.{StandWith, AreAsPlaced, AreTaking, AreSound, IsSettled}
use Rattle.up_strand.specs.declared.node.Node.{Node}
use Rattle.up_strand.proofs.sweep.settle.Given as goal

abbrev pub invariant-loop-k : goal.invariant-loop-k
invariant-loop-k g l =
    let packet = g.P.LocalPacket in
    let state = g.P.Store.Stash.state in
    record {
      stand : StandWith packet.plain g.K.Sink.state l.initial.nodes l.nodes [];
      settled : (k : ℕ) (d : Node _ _) (e : ℕ) → k < l.k → IsSettled (get_or l.nodes (get_or l.order k e) d);
      sound : AreSound l.initial.nodes → AreSound l.nodes;
      taking : AreTaking l.nodes;
      placed : AreAsPlaced l.initial.nodes l.nodes;
      family : NodesFit packet.fits (state l.initial.s).family l.nodes;
      stays : Stays (state l.initial.s) (state l.s);
    }
