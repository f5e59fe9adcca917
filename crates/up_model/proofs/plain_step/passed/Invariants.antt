use Rattle.std.proofs.Common.{◌≡◌, take}
use Rattle.up_model.specs.Packetwise.{passed}
use Rattle.up_model.proofs.plain_step.passed.Given as goal

abbrev pub invariant-loop-place : goal.invariant-loop-place
invariant-loop-place g l = l.put ≡ passed (g.S.PlainStep.step l.step) (take l.place l.flow)
