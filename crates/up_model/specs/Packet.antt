-- Packets: a finite map from names to values, and a list of bytes.
use Rattle.std.specs.Prelude.{◌≡◌, ℕ, ◌≤◌, true, List, length, map, nat_lt, All}
use Rattle.std.specs.List.{concat, filter}
use Rattle.std.specs.FinMap.{empty, keys, values as values_of, len}
use Rattle.up_base.specs.Name.{is_name}
use Rattle.up_model.specs.Value.{IsLegalValue}
use Rattle.up_model.specs.declared.limits.TheConstants.{MAX_ATTRS, MAX_PACKET}
pub use Rattle.up_model.specs.Attrs.{Attrs}
pub use Rattle.up_model.specs.declared.plain_packet.PlainPacket.{PlainPacket}

-- packets in order
abbrev pub Flow : Type 0
Flow = List PlainPacket

-- a packet without attributes
abbrev pub plain : List ℕ → PlainPacket
plain bytes = record { attrs = empty; bytes = bytes }

-- at most 64 attributes, their names are names and their values legal, and at most 1,048,576 bytes
pub record IsLegal (packet : PlainPacket) : Type 0 where
  pub few : len packet.attrs ≤ MAX_ATTRS
  pub names : All (λ name. is_name name ≡ true) (keys packet.attrs)
  pub values : All IsLegalValue (values_of packet.attrs)
  pub size : length packet.bytes ≤ MAX_PACKET

-- how many of the packets have bytes
abbrev pub count_with_bytes : Flow → ℕ
count_with_bytes flow = length (filter (λ packet. nat_lt 0 (length packet.bytes)) flow)

-- the bytes of the packets, one after the other
abbrev pub joined : Flow → List ℕ
joined flow = concat (map (λ packet. packet.bytes) flow)
