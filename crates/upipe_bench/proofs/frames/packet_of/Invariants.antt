use Rattle.up_model.specs.Packet.{IsLegal}
use Rattle.up_shape.specs.VecPackets.{plain_of}
use Rattle.upipe_bench.proofs.frames.packet_of.Given as goal

abbrev pub invariant-loop-number : goal.invariant-loop-number
invariant-loop-number l = IsLegal (plain_of l.packet)
