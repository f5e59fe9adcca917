-- What a run of bytes says of the attributes in it, read from its front.
use Rattle.std.specs.Prelude.{ℕ, zero, suc, ◌+◌, List, [], ◌∷◌, length, drop, slice_index, slice_range}
use Rattle.std.specs.Option.{unwrap_or}
use Rattle.up_base.specs.Number.{big_endian}
use Rattle.up_model.specs.ValueTypes.{type_with, value_of}
use Rattle.up_model.specs.declared.value.Value.{Value}
use Rattle.up_model.specs.declared.value_type.ValueType.{ValueType}
use Rattle.up_model.specs.declared.value_type.ValueType.TheVariants as types
use Rattle.up_dict.specs.Spelling.{Attr}

-- the type with the number; a run has no number without a type
abbrev pub type_of_byte : ℕ → ValueType
type_of_byte byte = unwrap_or (type_with byte) types.Opaque

-- the name of the first attribute, which follows its length
abbrev pub first_name : List ℕ → List ℕ
first_name run = slice_range run 1 (1 + slice_index run 0)

-- where the first attribute's type stands
abbrev pub type_place : List ℕ → ℕ
type_place run = slice_index run 0 + 1

-- how many bytes the first attribute's value has
abbrev pub value_size : List ℕ → ℕ
value_size run = big_endian (slice_range run (type_place run + 1) (type_place run + 1 + 2))

-- the first attribute's value
abbrev pub first_value : List ℕ → Value
first_value run =
    value_of (type_of_byte (slice_index run (type_place run)))
    (slice_range run (type_place run + 3) (type_place run + 3 + value_size run))

-- how many bytes the first attribute has
unfoldable pub first_size : List ℕ → ℕ
first_size run = type_place run + 3 + value_size run

-- the attributes of a run, where it has no more than so many
abbrev pub attrs_within : ℕ → List ℕ → List Attr
attrs_within zero run = []
attrs_within (suc most) [] = []
attrs_within (suc most) (byte ∷ rest) =
    (first_name (byte ∷ rest), first_value (byte ∷ rest))
    ∷ attrs_within most (drop (first_size (byte ∷ rest)) (byte ∷ rest))

-- the attributes of a run, each of which has at least one byte
unfoldable pub attrs_in : List ℕ → List Attr
attrs_in run = attrs_within (length run) run
