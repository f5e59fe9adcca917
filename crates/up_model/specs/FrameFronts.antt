-- What stands at the front of bytes, field by field, each judged once all its bytes are there.
use Rattle.std.specs.Prelude.{ℕ, zero, suc, Bool, true, ◌&&◌, ◌==◌, nat_lt, nat_le, List, [], ◌∷◌, length, take, drop, Option, Some, None, Result, Ok, Err, if◌then◌else◌}
use Rattle.std.specs.Ordering.{nat_cmp, is_lt}
use Rattle.std.specs.Cmp.Lexicographic.{slice_cmp}
use Rattle.std.specs.FinMap.{from_sorted}
use Rattle.std.specs.Str.{is_utf8}
use Rattle.up_base.specs.Name.{is_name, is_within}
use Rattle.up_base.specs.Number.{big_endian}
use Rattle.up_base.specs.declared.name_text.TheConstants.{NAME_SIZE}
use Rattle.up_model.specs.ValueTypes.{type_with, value_of}
use Rattle.up_model.specs.declared.frame_layout.NotWhole.{NotWhole}
use Rattle.up_model.specs.declared.frame_layout.NotWhole.TheVariants.{Broken, Unfinished}
use Rattle.up_model.specs.declared.frame_layout.TheConstants.{MARK, VERSION}
use Rattle.up_model.specs.declared.limits.TheConstants.{MAX_ATTRS, MAX_PACKET, MAX_VALUE}
use Rattle.up_model.specs.declared.plain_packet.PlainPacket.{PlainPacket}
use Rattle.up_model.specs.declared.value.Value.{Value}
use Rattle.up_model.specs.declared.value_type.ValueType.{ValueType}
use Rattle.up_model.specs.declared.value_type.ValueType.TheVariants as types

-- what stands at the front, with the bytes behind it, or why nothing whole does
abbrev pub Front : Type 0 → Type 0
Front A = Result (A × List ℕ) NotWhole

infixl 10 ◌>>=◌
abbrev pub ◌>>=◌ : {A B : Type 0} → Result A NotWhole → (A → Result B NotWhole) → Result B NotWhole
(Ok found) >>= next = next found
(Err refused) >>= next = Err refused

-- a field of so many bytes, for which the rule holds
abbrev pub field : ℕ → (List ℕ → Bool) → List ℕ → Front (List ℕ)
field size rule bytes =
    if nat_lt (length bytes) size then Err Unfinished
    else if rule (take size bytes) then Ok (take size bytes, drop size bytes)
    else Err Broken

-- a field of so many bytes, a number for which the rule holds
abbrev pub number_at : ℕ → (ℕ → Bool) → List ℕ → Front ℕ
number_at size rule bytes = do
  found ← field size (λ digits. rule (big_endian digits)) bytes
  Ok (big_endian found.0, found.1)

-- in byte order the name is greater than the one before it
abbrev pub is_name_behind : List ℕ → List ℕ → Bool
is_name_behind before name = is_name name && is_lt (slice_cmp nat_cmp before name)

-- the type, where one has the number
abbrev pub type_by : Option ValueType → List ℕ → Front ValueType
type_by (Some type_) bytes = Ok (type_, bytes)
type_by None bytes = Err Broken

-- the type with the number in the first byte
abbrev pub type_at : List ℕ → Front ValueType
type_at [] = Err Unfinished
type_at (number ∷ bytes) = type_by (type_with number) bytes

-- a value of this type may have so many bytes
abbrev pub is_size_of : ValueType → ℕ → Bool
is_size_of types.Void size = size == 0
is_size_of types.Flag size = size == 1
is_size_of types.Unsigned size = size == 8
is_size_of types.Words size = nat_le size MAX_VALUE
is_size_of types.Opaque size = nat_le size MAX_VALUE

-- a value of this type may be these bytes
abbrev pub is_value_of : ValueType → List ℕ → Bool
is_value_of types.Void bytes = true
is_value_of types.Flag bytes = nat_le (big_endian bytes) 1
is_value_of types.Unsigned bytes = true
is_value_of types.Words bytes = is_utf8 bytes
is_value_of types.Opaque bytes = true

-- the bytes that were found, as a value of this type
abbrev pub as_value : ValueType → Front (List ℕ) → Front Value
as_value type_ front = do
  value ← front
  Ok (value_of type_ value.0, value.1)

-- a value of this type, behind its length
unfoldable pub value_at : ValueType → List ℕ → Front Value
value_at type_ bytes = do
  size ← number_at 4 (is_size_of type_) bytes
  as_value type_ (field size.0 (is_value_of type_) size.1)

-- a name behind the one before, and its value
unfoldable pub attribute_at : List ℕ → List ℕ → Front (List ℕ × Value)
attribute_at before bytes = do
  size ← number_at 1 (is_within 1 NAME_SIZE) bytes
  name ← field size.0 (is_name_behind before) size.1
  type_ ← type_at name.1
  value ← value_at type_.0 type_.1
  Ok ((name.0, value.0), value.1)

-- so many attributes, each with a name behind the one before
unfoldable pub attributes_at : ℕ → List ℕ → List ℕ → Front (List (List ℕ × Value))
attributes_at zero before bytes = Ok ([], bytes)
attributes_at (suc count) before bytes = do
  first ← attribute_at before bytes
  others ← attributes_at count first.0.0 first.1
  Ok (first.0 ∷ others.0, others.1)

-- any bytes
abbrev pub is_any : List ℕ → Bool
is_any bytes = true

-- so many attributes and bytes; a list of attributes in order is read as their map
unfoldable pub content_at : ℕ → ℕ → List ℕ → Front PlainPacket
content_at count size bytes = do
  attrs ← attributes_at count [] bytes
  content ← field size is_any attrs.1
  Ok (record { attrs = from_sorted attrs.0; bytes = content.0 }, content.1)

-- a frame
unfoldable pub packet_at : List ℕ → Front PlainPacket
packet_at bytes = do
  mark ← number_at 1 (λ number. number == MARK) bytes
  version ← number_at 1 (λ number. number == VERSION) mark.1
  count ← number_at 2 (λ number. nat_le number MAX_ATTRS) version.1
  size ← number_at 4 (λ number. nat_le number MAX_PACKET) count.1
  content_at count.0 size.0 size.1
