-- The fields of a packet's bytes 1 to 3, beside the PID: ISO/IEC 13818-1, 2.4.3.2. Bit 7 of a byte is the highest.
use Rattle.std.specs.Prelude.{◌≡◌, ℕ, Bool, ◌==◌, List, slice_index}
use Rattle.up_base.specs.Transport.{bits, packet_identifier}
use Rattle.up_ts.specs.declared.ts_header.TsHeader.{TsHeader}

-- byte 1, bit 7
abbrev pub transport_error_indicator : List ℕ → Bool
transport_error_indicator packet = bits (slice_index packet 1) 7 1 == 1

-- byte 1, bit 6
abbrev pub payload_unit_start_indicator : List ℕ → Bool
payload_unit_start_indicator packet = bits (slice_index packet 1) 6 1 == 1

-- byte 1, bit 5
abbrev pub transport_priority : List ℕ → Bool
transport_priority packet = bits (slice_index packet 1) 5 1 == 1

-- byte 3, bits 7 and 6
abbrev pub transport_scrambling_control : List ℕ → ℕ
transport_scrambling_control packet = bits (slice_index packet 3) 6 2

-- byte 3, bits 5 and 4
abbrev pub adaptation_field_control : List ℕ → ℕ
adaptation_field_control packet = bits (slice_index packet 3) 4 2

-- byte 3, bits 3 to 0
abbrev pub continuity_counter : List ℕ → ℕ
continuity_counter packet = bits (slice_index packet 3) 0 4

-- the header is that of the packet
pub record IsHeader (packet : List ℕ) (header : TsHeader) : Type 0 where
  pub error : header.error ≡ transport_error_indicator packet
  pub start : header.start ≡ payload_unit_start_indicator packet
  pub priority : header.priority ≡ transport_priority packet
  pub pid : header.pid ≡ packet_identifier packet
  pub scrambling : header.scrambling ≡ transport_scrambling_control packet
  pub adaptation : header.adaptation ≡ adaptation_field_control packet
  pub counter : header.counter ≡ continuity_counter packet
