-- The one spelling of a packet as a frame (docs/FRAMES.md). All numbers are big endian.
use Rattle.std.specs.Prelude.{ℕ, List, ◌∷◌, ◌++◌, length}
use Rattle.std.specs.List.{flat_map}
use Rattle.std.specs.FinMap.{entries, len}
use Rattle.up_base.specs.Number.{big_endian_bytes}
use Rattle.up_model.specs.Packet.{Flow}
use Rattle.up_model.specs.ValueTypes.{number_of, type_of, value_bytes}
use Rattle.up_model.specs.declared.frame_layout.TheConstants.{MARK, VERSION}
use Rattle.up_model.specs.declared.plain_packet.PlainPacket.{PlainPacket}
use Rattle.up_model.specs.declared.value.Value.{Value}

-- in four bytes how many there are, and then the bytes
abbrev pub sized : List ℕ → List ℕ
sized bytes = big_endian_bytes 4 (length bytes) ++ bytes

-- a name behind its length
abbrev pub named : List ℕ → List ℕ
named name = length name ∷ name

-- a value behind the number of its type and its length
abbrev pub typed : Value → List ℕ
typed value = number_of (type_of value) ∷ sized (value_bytes value)

-- an attribute: its name and its value
abbrev pub attribute_bytes : List ℕ × Value → List ℕ
attribute_bytes attribute = named attribute.0 ++ typed attribute.1

-- the mark, the version, and how many attributes and bytes there are
abbrev pub head_bytes : ℕ → ℕ → List ℕ
head_bytes count size = MARK ∷ VERSION ∷ big_endian_bytes 2 count ++ big_endian_bytes 4 size

-- the head, the attributes in the order of their names, and the bytes
abbrev pub frame_of : PlainPacket → List ℕ
frame_of packet =
    head_bytes (len packet.attrs) (length packet.bytes)
    ++ flat_map attribute_bytes (entries packet.attrs)
    ++ packet.bytes

-- the frames of the packets, one after the other
abbrev pub frames_of : Flow → List ℕ
frames_of flow = flat_map frame_of flow
