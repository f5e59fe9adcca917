use Rattle.std.proofs.Common.{◌++◌, take, append_assoc, sym, ap, ◌∙◌, arith}
use Rattle.std.specs.FinMap.{entries, len-entries}
use Rattle.std.specs.List.{flat_map}
use Rattle.up_frame.proofs.AttrBytes.{all_there, legal_there, one_more, part_there}
use Rattle.up_frame.proofs.Parts.{refused}
use Rattle.up_model.proofs.AttrLists.{Attr}
use Rattle.up_model.specs.FrameSpelling.{attribute_bytes}
use Rattle.up_model.specs.Value.{lent}
use Rattle.up_frame.proofs.writing.put_attributes.Goals as goal

pub put_attribute-requires : goal.put_attribute-requires
put_attribute-requires g c =
    legal_there (entries (g.P.LocalPacket.plain c.args.p.now).attrs) c.loop-i.i _ c.requires c.attr_at-name.ensures

pub returns-in_err-put_attribute-clause-part : goal.returns-in_err-put_attribute-clause-part
returns-in_err-put_attribute-clause-part g c =
    refused _ (part_there _ _ _ (entries (g.P.LocalPacket.plain c.args.p.now).attrs) c.loop-i.i _ c.attr_at-name.ensures
    c.loop-i.invariant c.in_err-put_attribute.ensures.part)

pub loop-i-preserved : goal.loop-i-preserved
loop-i-preserved g c =
    let attrs = entries (g.P.LocalPacket.plain c.args.p.now).attrs in
    let attr : Attr = (c.attr_at-name.result.0, lent c.attr_at-name.result.1) in
    c.in_ok-put_attribute.ensures.added
    ∙ ap (λ front. front ++ attribute_bytes attr) c.loop-i.invariant
    ∙ append_assoc c.args.out.now (flat_map attribute_bytes (take c.loop-i.i attrs)) (attribute_bytes attr)
    ∙ ap (λ all. c.args.out.now ++ all) (sym (one_more attrs c.loop-i.i attr c.attr_at-name.ensures))

pub returns-clause-added : goal.returns-clause-added
returns-clause-added g c =
    let attrs = (g.P.LocalPacket.plain c.args.p.now).attrs in
    all_there c.args.out.now c.loop-i.out (entries attrs) c.loop-i.i
    (omega (arith, c.attr_count-i-end.ensures, len-entries attrs)) c.loop-i.invariant
