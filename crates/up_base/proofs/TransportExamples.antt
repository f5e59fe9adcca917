-- Worked examples of packets of a transport stream and of their PIDs, computed.
use Rattle.std.proofs.Common.{◌≡◌, ℕ, List, [], ◌∷◌, true, false, refl}
use Rattle.std.specs.Prelude.{replicate}
use Rattle.up_base.specs.Transport.{is_ts_packet, packet_identifier}

-- so many bytes, the first of them this one
abbrev beginning : ℕ → ℕ → List ℕ
beginning byte count = byte ∷ replicate count 0

pub packets :
    (is_ts_packet (beginning 0x47 187) ≡ true) × (is_ts_packet (beginning 0x46 187) ≡ false)
packets = (refl, refl)

-- a byte too few, a byte too many, and none
pub other_sizes :
    (is_ts_packet (beginning 0x47 186) ≡ false) × (is_ts_packet (beginning 0x47 188) ≡ false)
    × (is_ts_packet [] ≡ false)
other_sizes = (refl, refl, refl)

-- the three flags above the PID are no part of it
pub flags_are_left_out : packet_identifier (0x47 ∷ 0xe1 ∷ 0x02 ∷ []) ≡ 258
flags_are_left_out = refl

pub null_packets : packet_identifier (0x47 ∷ 0x1f ∷ 0xff ∷ []) ≡ 0x1fff
null_packets = refl
