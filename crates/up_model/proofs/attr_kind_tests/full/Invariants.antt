use Rattle.up_model.specs.Packet.{IsLegal}
use Rattle.up_model.proofs.attr_kind_tests.full.Given as goal

abbrev pub invariant-loop-place : goal.invariant-loop-place
invariant-loop-place g l = IsLegal l.packet
