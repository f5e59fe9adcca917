use Rattle.up_model.specs.Packet.{IsLegal}
use Rattle.up_shape.specs.VecPackets.{plain_of}
use Rattle.up_basic.proofs.setattr_tests.numbered.Given as goal

abbrev pub invariant-loop-place : goal.invariant-loop-place
invariant-loop-place g l =
    IsLegal (plain_of l.packet) × (goal.iterator-loop-place g).can_next l.place-iterator × (goal.iterator-loop-place g).is_finite l.place-iterator
