-- The adaptation field and the payload of a packet: ISO/IEC 13818-1, 2.4.3.2 and 2.4.3.4.
use Rattle.std.specs.Prelude.{◌≡◌, ℕ, ◌+◌, ◌≤◌, ◌==◌, true, List, slice_index, Option, Some, None, if◌then◌else◌}
use Rattle.up_base.specs.Transport.{is_ts_packet}
use Rattle.up_ts.specs.Header.{adaptation_field_control}
use Rattle.up_ts.specs.declared.packet.TheConstants.{FIELD_AND_PAYLOAD, HEADER_SIZE, MAX_FIELD, PAYLOAD_ONLY}

-- the byte after the header, where there is an adaptation field; it doesn't count itself
abbrev pub adaptation_field_length : List ℕ → ℕ
adaptation_field_length packet = slice_index packet 4

-- a packet in which the adaptation field before a payload has room
abbrev pub FieldFits : List ℕ → Type 0
FieldFits packet =
    (is_ts_packet packet ≡ true)
    × (adaptation_field_control packet ≡ FIELD_AND_PAYLOAD
    → adaptation_field_length packet ≤ MAX_FIELD)

-- the payload begins after the header, or after the adaptation field that follows the header
abbrev pub payload_start : List ℕ → Option ℕ
payload_start packet =
    if adaptation_field_control packet == PAYLOAD_ONLY then Some HEADER_SIZE
    else if adaptation_field_control packet == FIELD_AND_PAYLOAD
    then Some (HEADER_SIZE + 1 + adaptation_field_length packet)
    else None
