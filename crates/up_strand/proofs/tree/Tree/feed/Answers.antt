use Rattle.std.proofs.Common.{rules, ◌≡◌, None, drop, false, length, refl, subst, sym}
use Rattle.up_strand.proofs.Trees.{as_written}
use Rattle.up_strand.specs.Gifts.{NodesFit}
use Rattle.up_strand.specs.Stand.{NodesAre}
use Rattle.up_strand.specs.Steps.{NodesTook, taken_where}
use Rattle.up_strand.proofs.tree.Tree.feed.Goals as goal

pub returns-clause-went : goal.returns-clause-went
returns-clause-went g c =
    let plain = g.P.LocalPacket.plain in
    let state = g.K.Sink.state in
    let olds = c.args.self.now.nodes.items in
    let news = c.feed_nodes-self.new.nodes in
    let size : c.args.self.now.nodes.len ≡ length news = search rules in
    let long : c.args.self.now.short ≡ false = c.if-self.false in
    let written = sym (as_written c.args.self.now.nodes.len news (drop (length news) olds) size) in
    let took : NodesTook plain state olds news (taken_where c.args.self.now.short (plain c.args.p)) = rw long (rw c.deref_mut.ensures.value at c.feed_nodes-self.ensures.took) in
    record {
      took = record {
        nodes = subst (λ nodes. NodesTook plain state olds nodes (taken_where c.args.self.now.short (plain c.args.p))) written took;
        order = refl;
        stays = λ is. search rules;
      };
      is = subst (NodesAre c.feed_nodes-self.result None) written c.feed_nodes-self.ensures.are;
      fitting = subst (NodesFit g.P.LocalPacket.fits (g.P.Store.Stash.state c.args.s.now).family) written c.feed_nodes-self.ensures.family;
    }
