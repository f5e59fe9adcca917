use Rattle.up_model.specs.Packet.{IsLegal}
use Rattle.up_shape.specs.VecPackets.{plain_of}
use Rattle.up_basic.proofs.attr_packets.packet_of.Given as goal

abbrev pub invariant-loop-name : goal.invariant-loop-name
invariant-loop-name g l = IsLegal (plain_of l.packet)
