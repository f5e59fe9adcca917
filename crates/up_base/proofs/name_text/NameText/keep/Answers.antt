use Rattle.std.proofs.Common.{arith}
use Rattle.up_base.proofs.Padding.{copied-more, is_name-short, padded_name}
use Rattle.up_base.proofs.name_text.NameText.keep.Goals as goal

pub loop-at-preserved : goal.loop-at-preserved
loop-at-preserved c = rw c.loop-at.invariant (copied-more c.args.text.now c.loop-at.at (omega arith) (is_name-short c.args.text.now c.requires))

pub invariant_of-result : goal.invariant_of-result
invariant_of-result c = padded_name c.args.text.now c.loop-at.bytes c.loop-at.at c.requires (omega arith) (omega arith) c.loop-at.invariant
