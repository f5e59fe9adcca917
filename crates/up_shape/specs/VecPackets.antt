-- The plain packet that a packet of vectors stands for.
use Rattle.up_model.specs.declared.plain_packet.PlainPacket.{PlainPacket}
use Rattle.up_shape.specs.declared.vec_packet.VecPacket.{VecPacket}

-- its attributes and its bytes
abbrev pub plain_of : VecPacket → PlainPacket
plain_of packet = record { attrs = packet.attrs; bytes = packet.bytes }
