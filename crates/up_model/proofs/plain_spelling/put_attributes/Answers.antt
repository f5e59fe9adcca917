use Rattle.std.proofs.Common.{◌∙◌, arith}
use Rattle.std.specs.FinMap.{entries, len-entries}
use Rattle.up_model.proofs.PlainSpelling.{holds_mapped, one_more, all_spelled}
use Rattle.up_model.specs.FrameSpelling.{attribute_bytes}
use Rattle.up_model.specs.Value.{lent, IsLegalValue}
use Rattle.up_model.proofs.plain_spelling.put_attributes.Goals as goal

pub put_attribute-requires : goal.put_attribute-requires
put_attribute-requires c =
    holds_mapped IsLegalValue (λ e. e.1) (entries c.args.attrs.now) c.loop-place.place
    (c.at-name.result.0, lent c.at-name.result.1) c.requires c.at-name.ensures

pub loop-place-preserved : goal.loop-place-preserved
loop-place-preserved c =
    c.in_ok-put_attribute.ensures
    ∙ one_more attribute_bytes (entries c.args.attrs.now) c.loop-place.place (c.at-name.result.0, lent c.at-name.result.1)
    c.args.out.now c.loop-place.out c.at-name.ensures c.loop-place.invariant

pub returns : goal.returns
returns c =
    all_spelled attribute_bytes (entries c.args.attrs.now) c.loop-place.place c.args.out.now c.loop-place.out
    (omega (arith, c.len-place-end.ensures, len-entries c.args.attrs.now)) c.loop-place.invariant
