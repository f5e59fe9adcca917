use Rattle.std.proofs.Common.{◌≡◌, None, set, refl, sym, ap, inr, ◌∙◌}
use Rattle.std.proofs.lemmas.List.{get_or_default, get_or-set_other, length-set, set-get_or}
use Rattle.up_strand.proofs.Leaving.{kept_same, left_there, outgoing_same}
use Rattle.up_shape.specs.Outgoing.{Outgoing}
use Rattle.up_strand.specs.declared.node.Node.{Node}
use Rattle.up_strand.proofs.strand.Strand.take_out.Goals as goal

pub returns-in-None-next : goal.returns-in-None-next
returns-in-None-next g c =
    let items = c.args.self.now.tree.nodes.items in
    let node = c.index_mut.result.now in
    let left = c.next.new.self in
    let none : c.args.self.now.kept ≡ None = sym c.replace.ensures.value ∙ c.in-None.is in
    let same : left ≡ node.out = outgoing_same left node.out (c.in-None-next.ensures.packet.1 ∙ sym c.in-None-next.ensures.packet.0) c.next.ensures.tally in
    record {
      none = none;
      empty = λ d. ap (λ (n : Node _ _). n.out.packets) (get_or_default items c.args.place d node c.requires.within ∙ sym c.index_mut.ensures.value) ∙ c.in-None-next.ensures.packet.0;
      kind_is = c.end_by.ensures;
      nodes = ap (λ (out : Outgoing _). set items c.args.place (record node { out = out })) same
          ∙ ap (λ (n : Node _ _). set items c.args.place n) c.index_mut.ensures.value ∙ set-get_or items c.args.place node;
      closed = refl;
      same = kept_same _ _ (c.replace.ensures.after ∙ sym none);
    }

pub returns-in-Some-next : goal.returns-in-Some-next
returns-in-Some-next g c =
    let items = c.args.self.now.tree.nodes.items in
    let node = c.index_mut.result.now in
    let none : c.args.self.now.kept ≡ None = sym c.replace.ensures.value ∙ c.in-None.is in
    inr (record {
      none = none;
      count = length-set items c.args.place _;
      here = λ d. left_there items c.args.place node d c.in-Some-next.p c.next.new.self c.requires.within c.index_mut.ensures.value c.in-Some-next.ensures.packet c.next.ensures.tally;
      others = λ i d other. get_or-set_other items c.args.place i _ d other;
      same = kept_same _ _ (c.replace.ensures.after ∙ sym none);
    })
