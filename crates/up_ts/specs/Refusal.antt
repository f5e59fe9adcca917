-- Why bytes are refused: the length is looked at first, then byte 0, then the adaptation field.
use Rattle.std.specs.Prelude.{◌≡◌, ◌≢◌, ℕ, ◌<◌, true, List, length, slice_get, Some}
use Rattle.up_base.specs.Transport.{is_ts_packet}
use Rattle.up_base.specs.declared.transport.TheConstants.{SYNC_BYTE, TS_SIZE}
use Rattle.up_ts.specs.Header.{adaptation_field_control}
use Rattle.up_ts.specs.Payload.{adaptation_field_length}
use Rattle.up_ts.specs.declared.packet.TheConstants.{FIELD_AND_PAYLOAD, MAX_FIELD}
use Rattle.up_ts.specs.declared.ts_refused.TsRefused.{TsRefused}
use Rattle.up_ts.specs.declared.ts_refused.TsRefused.TheVariants.{Short, NoSync, BadAdaptation}

-- the bytes are no packet
abbrev pub IsNoPacket : List ℕ → TsRefused → Type 0
IsNoPacket bytes (Short len) = (len ≡ length bytes) × (len ≢ TS_SIZE)
IsNoPacket bytes (NoSync byte) =
    (length bytes ≡ TS_SIZE) × (slice_get bytes 0 ≡ Some byte) × (byte ≢ SYNC_BYTE)
IsNoPacket bytes (BadAdaptation len) = ⊥

-- they are no packet, or the adaptation field before the payload has no room
abbrev pub IsRefusedFor : List ℕ → TsRefused → Type 0
IsRefusedFor bytes (Short len) = IsNoPacket bytes (Short len)
IsRefusedFor bytes (NoSync byte) = IsNoPacket bytes (NoSync byte)
IsRefusedFor bytes (BadAdaptation len) =
    (is_ts_packet bytes ≡ true) × (adaptation_field_control bytes ≡ FIELD_AND_PAYLOAD)
    × (len ≡ adaptation_field_length bytes) × (MAX_FIELD < len)
