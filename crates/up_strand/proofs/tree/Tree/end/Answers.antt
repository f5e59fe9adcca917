use Rattle.std.proofs.Common.{rules, ◌≡◌, [], Some, drop, false, length, refl, subst, sym}
use Rattle.up_model.specs.declared.outcome.Outcome.TheVariants as outcomes
use Rattle.up_strand.proofs.Trees.{as_written}
use Rattle.up_strand.specs.Gifts.{NodesFit}
use Rattle.up_strand.specs.Stand.{NodesAre}
use Rattle.up_strand.specs.Steps.{NodesTook}
use Rattle.up_strand.proofs.tree.Tree.end.Goals as goal

pub returns-clause-went : goal.returns-clause-went
returns-clause-went g c =
    let plain = g.P.LocalPacket.plain in
    let state = g.K.Sink.state in
    let olds = c.args.self.now.nodes.items in
    let news = c.end_nodes-self.new.nodes in
    let size : c.args.self.now.nodes.len ≡ length news = search rules in
    let long : c.args.self.now.short ≡ false = c.if-self.false in
    let written = sym (as_written c.args.self.now.nodes.len news (drop (length news) olds) size) in
    let took = rw c.deref_mut.ensures.value at c.end_nodes-self.ensures.took in
    record {
      took = record {
        nodes = subst (λ nodes. NodesTook plain state olds nodes []) written took;
        order = refl;
        stays = λ is. search rules;
      };
      is = subst (NodesAre c.end_nodes-self.result (Some outcomes.Whole)) written c.end_nodes-self.ensures.are;
      fitting = subst (NodesFit g.P.LocalPacket.fits (g.P.Store.Stash.state c.args.s.now).family) written c.end_nodes-self.ensures.family;
    }
