use Rattle.std.proofs.Common.{◌≡◌}
use Rattle.up_base.proofs.Padding.{copied}
use Rattle.up_base.proofs.name_text.NameText.keep.Given as goal

abbrev pub invariant-loop-at : goal.invariant-loop-at
invariant-loop-at l = l.bytes ≡ copied l.text l.at
