use Rattle.std.proofs.Common.{◌≢◌, ℕ, ◌<◌, [], length, get_or, ◌⊎◌}
use Rattle.up_shape.specs.Stores.{Stays}
use Rattle.up_strand.specs.Gifts.{NodesFit}
use Rattle.up_strand.specs.Nodes.{IsTaking, IsSound, IsDone}
use Rattle.up_strand.specs.Stand.{StandWith, AreAsPlaced, AreSound, IsSettled}
use Rattle.up_strand.specs.declared.node.Node.{Node}
use Rattle.up_strand.proofs.ending.end_all.Given as goal

abbrev pub invariant-loop-k : goal.invariant-loop-k
invariant-loop-k g l =
    let packet = g.P.LocalPacket in
    let state = g.P.Store.Stash.state in
    record {
      stand : StandWith packet.plain g.K.Sink.state l.initial.nodes l.nodes [];
      settled : (k : ℕ) (d : Node _ _) (e : ℕ) → k < l.k → IsSettled (get_or l.nodes (get_or l.order k e) d);
      taking : (i : ℕ) (d : Node _ _) → i < length l.nodes → ((k e : ℕ) → k < l.k → get_or l.order k e ≢ i) → IsTaking (get_or l.nodes i d);
      either : AreSound l.initial.nodes → (i : ℕ) (d : Node _ _) → i < length l.nodes → IsSound (get_or l.nodes i d) ⊎ IsDone (get_or l.nodes i d);
      done : AreSound l.initial.nodes → (k : ℕ) (d : Node _ _) (e : ℕ) → k < l.k → IsDone (get_or l.nodes (get_or l.order k e) d);
      placed : AreAsPlaced l.initial.nodes l.nodes;
      family : NodesFit packet.fits (state l.initial.s).family l.nodes;
      stays : Stays (state l.initial.s) (state l.s);
    }
