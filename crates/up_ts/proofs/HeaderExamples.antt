-- Worked examples of the header's fields and of the payload's place, computed.
use Rattle.std.proofs.Common.{◌≡◌, ℕ, List, [], ◌∷◌, true, false, Some, None, refl}
use Rattle.up_ts.specs.Header.{transport_error_indicator, payload_unit_start_indicator, transport_priority, transport_scrambling_control, adaptation_field_control, continuity_counter}
use Rattle.up_base.specs.Transport.{bits, packet_identifier}
use Rattle.up_ts.specs.Payload.{payload_start}

-- 1011 0110: the three bits above the lowest two are 101
pub bits_of_a_byte : bits 182 2 3 ≡ 5
bits_of_a_byte = refl

-- 0100 0111, 010 00001 0000 0000, 11 01 0111: the start of a unit, on PID 256
abbrev start_of_a_unit : List ℕ
start_of_a_unit = 0x47 ∷ 0x41 ∷ 0x00 ∷ 0xd7 ∷ []

pub flags :
    (transport_error_indicator start_of_a_unit ≡ false)
    × (payload_unit_start_indicator start_of_a_unit ≡ true)
    × (transport_priority start_of_a_unit ≡ false)
flags = (refl, refl, refl)

pub numbers :
    (packet_identifier start_of_a_unit ≡ 256) × (transport_scrambling_control start_of_a_unit ≡ 3)
    × (adaptation_field_control start_of_a_unit ≡ 1) × (continuity_counter start_of_a_unit ≡ 7)
numbers = (refl, refl, refl, refl)

-- a packet's first bytes, with adaptation_field_control and the byte after the header
abbrev first_bytes : ℕ → ℕ → List ℕ
first_bytes byte_3 byte_4 = 0x47 ∷ 0x1f ∷ 0xff ∷ byte_3 ∷ byte_4 ∷ []

pub null_packet : packet_identifier (first_bytes 0x10 0xff) ≡ 0x1fff
null_packet = refl

pub after_the_header : payload_start (first_bytes 0x10 183) ≡ Some 4
after_the_header = refl

pub after_the_field : payload_start (first_bytes 0x30 7) ≡ Some 12
after_the_field = refl

-- the field fills the packet, and the payload is empty
pub empty_payload : payload_start (first_bytes 0x30 183) ≡ Some 188
empty_payload = refl

pub no_payload :
    (payload_start (first_bytes 0x20 7) ≡ None) × (payload_start (first_bytes 0x00 7) ≡ None)
no_payload = (refl, refl)
