use Rattle.std.proofs.Common.{◌≡◌, ℕ, ◌<◌, ◌≤◌, [], ◌∷◌, is_ok, get_or}
use Rattle.up_shape.specs.Stores.{Stays}
use Rattle.up_strand.specs.Gifts.{Given, NodesFit, share}
use Rattle.up_strand.specs.declared.node.Node.{Node}
use Rattle.up_strand.proofs.giving.give.Given as goal

abbrev pub invariant-loop-i : goal.invariant-loop-i
invariant-loop-i g l =
    let packet = g.P.LocalPacket in
    let state = g.P.Store.Stash.state in
    record {
      upto : l.i ≤ l.last;
      done : (k : ℕ) (d : Node _ _) → k < l.i → Given packet.plain g.K.Sink.state (is_ok l.given) (get_or l.initial.nodes k d)
          (get_or l.nodes k d) (share (get_or l.initial.nodes k d).input l.place (packet.plain l.initial.p ∷ []));
      left : (k : ℕ) (d : Node _ _) → l.i ≤ k → get_or l.nodes k d ≡ get_or l.initial.nodes k d;
      same : packet.plain l.p ≡ packet.plain l.initial.p;
      fits : packet.fits l.p (state l.initial.s).family;
      family : NodesFit packet.fits (state l.initial.s).family l.nodes;
      stays : Stays (state l.initial.s) (state l.s);
    }
