-- A packet of a transport stream, and the number of its flow: ISO/IEC 13818-1, 2.4.3.2.
use Rattle.std.specs.Prelude.{ℕ, ◌+◌, ◌*◌, ◌/◌, ◌%◌, ◌^◌, Bool, ◌&&◌, ◌==◌, List, length, slice_index}
use Rattle.up_base.specs.declared.transport.TheConstants.{SYNC_BYTE, TS_SIZE}

-- the bytes are a packet by their number and by the first of them, which is sync_byte
abbrev pub is_ts_packet : List ℕ → Bool
is_ts_packet bytes = (length bytes == TS_SIZE) && (slice_index bytes 0 == SYNC_BYTE)

-- the number in a byte's `width` bits above the lowest `low` ones
abbrev pub bits : ℕ → ℕ → ℕ → ℕ
bits byte low width = byte / 2 ^ low % 2 ^ width

-- the PID: byte 1, bits 4 to 0, and byte 2, where bit 7 is the highest of a byte
abbrev pub packet_identifier : List ℕ → ℕ
packet_identifier packet = bits (slice_index packet 1) 0 5 * 256 + slice_index packet 2
