use Rattle.up_model.specs.Packet.{IsLegal}
use Rattle.up_shape.specs.VecPackets.{plain_of}
use Rattle.up_frame.proofs.reader_tests.greatest.Given as goal

abbrev pub invariant-loop-number : goal.invariant-loop-number
invariant-loop-number g l = IsLegal (plain_of l.packet)
