-- Attributes as one run of bytes. Of each stand, in this order: the length of its name (1 byte),
-- the name, the number of its value's type (1 byte), the length of the value (2 bytes, the higher byte
-- first), the value.
use Rattle.std.specs.Prelude.{◌≡◌, ℕ, true, List, ◌∷◌, ◌++◌, length}
use Rattle.std.specs.List.{flat_map}
use Rattle.up_base.specs.Name.{is_name}
use Rattle.up_base.specs.Number.{big_endian_bytes}
use Rattle.up_model.specs.Value.{IsLegalValue}
use Rattle.up_model.specs.ValueTypes.{number_of, type_of, value_bytes}
use Rattle.up_model.specs.declared.value.Value.{Value}
use Rattle.up_model.specs.declared.value_type.ValueType.{ValueType}

-- a name and its value
abbrev pub Attr : Type 0
Attr = List ℕ × Value

-- the name is one, and the value is legal
abbrev pub IsLegalAttr : Attr → Type 0
IsLegalAttr attr = (is_name attr.0 ≡ true) × IsLegalValue attr.1

-- what stands before the value
abbrev pub head_bytes : List ℕ → ValueType → ℕ → List ℕ
head_bytes name kind size =
    (length name ∷ name) ++ (number_of kind ∷ big_endian_bytes 2 size)

-- the bytes of an attribute
unfoldable pub attr_bytes : Attr → List ℕ
attr_bytes attr =
    head_bytes attr.0 (type_of attr.1) (length (value_bytes attr.1)) ++ value_bytes attr.1

-- the bytes of the attributes, one after the other
abbrev pub spelled : List Attr → List ℕ
spelled attrs = flat_map attr_bytes attrs
