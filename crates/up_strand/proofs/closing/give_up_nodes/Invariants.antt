use Rattle.std.proofs.Common.{◌≡◌, false, length}
use Rattle.up_shape.specs.Stores.{Stays}
use Rattle.up_strand.specs.Nodes.{holds_sink}
use Rattle.up_strand.specs.Gifts.{NodesFit}
use Rattle.up_strand.specs.Tree.{AllAt}
use Rattle.up_strand.specs.declared.node.Node.{Node}
use Rattle.up_strand.proofs.closing.give_up_nodes.Given as goal

abbrev pub invariant-loop-node : goal.invariant-loop-node
invariant-loop-node g l =
    let packet = g.P.LocalPacket in
    let state = g.P.Store.Stash.state in
    record {
      none : AllAt (λ (node : Node _ _). holds_sink node.part ≡ false) l.nodes.items;
      family : NodesFit packet.fits (state l.initial.s).family l.nodes.items;
      stays : Stays (state l.initial.s) (state l.s);
    }

abbrev pub decreases-loop-node : goal.decreases-loop-node
decreases-loop-node g l = length l.nodes.items
