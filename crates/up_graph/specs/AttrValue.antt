-- What may stand at `value`, and the value that an attribute is set to by it.
use Rattle.std.specs.Prelude.{◌-◌, ◌^◌, ℕ, Bool, ◌&&◌, List, length, codes, Option, Some, None, option_map}
use Rattle.toml.specs.Data.{Data, string, integer, boolean}
use Rattle.up_graph.specs.Field.{Rule}
use Rattle.up_graph.specs.Values.{number_in, text_that}
use Rattle.up_model.specs.FrameFronts.{is_size_of, is_value_of}
use Rattle.up_model.specs.declared.value.Value.{Value}
use Rattle.up_model.specs.declared.value.Value.TheVariants.{Void, Flag, Unsigned, Words}
use Rattle.up_model.specs.declared.value_type.ValueType.TheVariants as types

-- the text is a legal value: its bytes are those of one, and not too many
abbrev pub is_legal_text : List ℕ → Bool
is_legal_text text = is_value_of types.Words text && is_size_of types.Words (length text)

-- a boolean is a flag, an integer from 0 a number, a text a text
abbrev pub value_in : Data → Option Value
value_in (boolean flag) = Some (Flag flag)
value_in (integer number) = option_map Unsigned (number_in 0 (2 ^ 64 - 1) (integer number))
value_in (string text) = option_map Words (text_that is_legal_text (Some (string text)))
value_in value = None

-- a missing value is void
abbrev pub value_or_void : Option Data → Option Value
value_or_void None = Some Void
value_or_void (Some value) = value_in value

abbrev pub attr_value : Rule Value
attr_value = record { name = codes "value"; value = value_or_void }
