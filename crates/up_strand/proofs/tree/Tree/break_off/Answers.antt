use Rattle.std.proofs.Common.{rules, ◌≡◌, [], Some, drop, length, refl, subst, sym}
use Rattle.up_strand.proofs.Trees.{as_written}
use Rattle.up_strand.specs.Gifts.{NodesFit}
use Rattle.up_strand.specs.Stand.{NodesAre}
use Rattle.up_strand.specs.Steps.{NodesTook}
use Rattle.up_strand.proofs.tree.Tree.break_off.Goals as goal

pub returns-clause-went : goal.returns-clause-went
returns-clause-went g c outcome other =
    let plain = g.P.LocalPacket.plain in
    let state = g.K.Sink.state in
    let olds = c.args.self.now.nodes.items in
    let news = c.break_nodes.new.nodes in
    let size : c.args.self.now.nodes.len ≡ length news = search rules in
    let written = sym (as_written c.args.self.now.nodes.len news (drop (length news) olds) size) in
    let took = rw c.deref_mut.ensures.value at c.break_nodes.ensures.took in
    let are = rw c.deref_mut.ensures.value at c.break_nodes.ensures.are c.args.self.now.short outcome other in
    let fits = rw c.deref_mut.ensures.value at c.break_nodes.ensures.family in
    record {
      took = record { nodes = subst (λ nodes. NodesTook plain state olds nodes []) written took; order = refl; stays = λ is. is };
      is = subst (NodesAre c.args.self.now.short (Some outcome)) written (are c.requires.going.is);
      fitting = subst (NodesFit g.P.LocalPacket.fits (g.P.Store.Stash.state c.args.s.now).family) written (fits c.requires.going.fitting);
    }
