use Rattle.std.proofs.Common.{◌≡◌, ℕ, ◌<◌, ◌≤◌, [], get_or}
use Rattle.up_shape.specs.Stores.{Stays}
use Rattle.up_strand.specs.Gifts.{NodesFit}
use Rattle.up_strand.specs.Nodes.{HasGivenUp}
use Rattle.up_strand.specs.Stand.{StandWith, AreAsPlaced, AreTaking}
use Rattle.up_strand.specs.declared.node.Node.{Node}
use Rattle.up_strand.proofs.ending.fall.Given as goal

abbrev pub invariant-loop-i : goal.invariant-loop-i
invariant-loop-i g l =
    let packet = g.P.LocalPacket in
    let state = g.P.Store.Stash.state in
    record {
      stand : StandWith packet.plain g.K.Sink.state l.initial.nodes l.nodes [];
      given_up : (i : ℕ) (d : Node _ _) → i < l.i → HasGivenUp (get_or l.initial.nodes i d) (get_or l.nodes i d);
      left : (i : ℕ) (d : Node _ _) → l.i ≤ i → get_or l.nodes i d ≡ get_or l.initial.nodes i d;
      taking : AreTaking l.initial.nodes → AreTaking l.nodes;
      placed : AreAsPlaced l.initial.nodes l.nodes;
      family : NodesFit packet.fits (state l.initial.s).family l.nodes;
      stays : Stays (state l.initial.s) (state l.s);
    }
