use Rattle.std.proofs.Common.{◌≡◌}
use Rattle.up_model.specs.Cutting.{pieces}
use Rattle.up_model.proofs.plain_ends.pieces.Given as goal

abbrev pub invariant-loop-place : goal.invariant-loop-place
invariant-loop-place l = l.packets ≡ pieces l.size l.bytes l.place
