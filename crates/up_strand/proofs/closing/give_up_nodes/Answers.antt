use Rattle.std.proofs.Common.{◌≡◌, false}
use Rattle.std.proofs.lemmas.List.Elements.{All-pop}
use Rattle.up_shape.proofs.StoreSteps.{Stays-trans}
use Rattle.up_strand.specs.Nodes.{NodeFits, holds_sink}
use Rattle.up_strand.specs.declared.node.Node.{Node}
use Rattle.up_strand.proofs.closing.give_up_nodes.Goals as goal

pub loop-node-preserved : goal.loop-node-preserved
loop-node-preserved g c =
    let so_far = c.loop-node.invariant in
    let packet = g.P.LocalPacket in
    let family = (g.P.Store.Stash.state c.args.s.now).family in
    record {
      none = (All-pop (λ (node : Node _ _). holds_sink node.part ≡ false) _ _ c.pop.result c.pop.ensures.items so_far.none).0;
      family = (All-pop (λ node. NodeFits packet.fits node family) _ _ c.pop.result c.pop.ensures.items so_far.family).0;
      stays = Stays-trans _ _ _ so_far.stays c.give_up.ensures.store;
    }
