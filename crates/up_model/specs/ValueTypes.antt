-- The types of values, their numbers, and the bytes that a value is spelled with.
use Rattle.std.specs.Prelude.{ℕ, ◌==◌, List, [], ◌∷◌, Option, Some, None, if◌then◌else◌}
use Rattle.up_base.specs.Number.{big_endian, big_endian_bytes}
use Rattle.up_model.specs.declared.value.Value.{Value}
use Rattle.up_model.specs.declared.value.Value.TheVariants.{Void, Flag, Unsigned, Words, Opaque}
use Rattle.up_model.specs.declared.value_type.ValueType.{ValueType}
use Rattle.up_model.specs.declared.value_type.ValueType.TheVariants as types

-- the number of the type
abbrev pub number_of : ValueType → ℕ
number_of types.Void = 1
number_of types.Flag = 2
number_of types.Unsigned = 3
number_of types.Words = 4
number_of types.Opaque = 5

-- the type with the number
abbrev pub type_with : ℕ → Option ValueType
type_with number =
    if number == 1 then Some types.Void
    else if number == 2 then Some types.Flag
    else if number == 3 then Some types.Unsigned
    else if number == 4 then Some types.Words
    else if number == 5 then Some types.Opaque
    else None

-- the type of the value
abbrev pub type_of : Value → ValueType
type_of Void = types.Void
type_of (Flag flag) = types.Flag
type_of (Unsigned number) = types.Unsigned
type_of (Words text) = types.Words
type_of (Opaque bytes) = types.Opaque

-- the value of this type that the bytes are
abbrev pub value_of : ValueType → List ℕ → Value
value_of types.Void bytes = Void
value_of types.Flag bytes = Flag (big_endian bytes == 1)
value_of types.Unsigned bytes = Unsigned (big_endian bytes)
value_of types.Words bytes = Words bytes
value_of types.Opaque bytes = Opaque bytes

-- the bytes of the value: a flag is 1 where it is set, and else 0; a number has eight bytes
abbrev pub value_bytes : Value → List ℕ
value_bytes Void = []
value_bytes (Flag flag) = (if flag then 1 else 0) ∷ []
value_bytes (Unsigned number) = big_endian_bytes 8 number
value_bytes (Words text) = text
value_bytes (Opaque bytes) = bytes
