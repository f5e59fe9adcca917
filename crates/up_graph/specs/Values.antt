-- What may stand at a field, and what it gives.
use Rattle.std.specs.Prelude.{ℕ, ℤ, int_le, Bool, ◌&&◌, pos, List, [], ◌∷◌, codes, Option, Some, None, option_map, if◌then◌else◌}
use Rattle.std.specs.List.{list_all}
use Rattle.std.specs.Option.{is_some}
use Rattle.std.specs.Str.{is_utf8}
use Rattle.toml.specs.Data.{Data, string, integer, array, Items, no_items, item, as_str}
use Rattle.up_base.specs.Name.{is_name, is_within}
use Rattle.up_graph.specs.Field.{Rule}
use Rattle.up_model.specs.Delay.{least_shift, greatest_shift}
use Rattle.up_model.specs.Ends.{is_path}

-- the values of an array
abbrev pub values : Items → List Data
values no_items = []
values (item value others) = value ∷ values others

abbrev pub is_text : Data → Bool
is_text value = is_some (as_str value)

-- a text that passes
abbrev pub text_that : (List ℕ → Bool) → Option Data → Option (List ℕ)
text_that passes (Some (string text)) = if passes text then Some text else None
text_that passes _ = None

-- 1 to 64 bytes, each one of `A-Z a-z 0-9 . _ -`
abbrev pub a_name : List ℕ → Rule (List ℕ)
a_name key = record { name = key; value = text_that is_name }

-- 1 to 4,096 bytes of UTF-8, none of them zero
abbrev pub a_path : List ℕ → Rule (List ℕ)
a_path key = record { name = key; value = text_that (λ path. is_utf8 path && is_path path) }

-- an integer from low to high
abbrev pub number_in : ℕ → ℕ → Data → Option ℕ
number_in low high (integer (pos number)) = if is_within low high number then Some number else None
number_in low high value = None

-- the same, or what stands for a missing one
abbrev pub number_or : Option ℕ → ℕ → ℕ → Option Data → Option ℕ
number_or missing low high None = missing
number_or missing low high (Some value) = number_in low high value

abbrev pub a_number : List ℕ → ℕ → ℕ → Option ℕ → Rule ℕ
a_number key low high missing = record { name = key; value = number_or missing low high }

-- an integer by which dates can be moved
abbrev pub shift_in : Option Data → Option ℤ
shift_in (Some (integer by)) =
    if int_le least_shift by && int_le by greatest_shift then Some by else None
shift_in _ = None

abbrev pub a_shift : List ℕ → Rule ℤ
a_shift key = record { name = key; value = shift_in }

-- what an array of texts names: one pipe, or two and more, for which None stands
abbrev pub named_in : List Data → Option (Option (List ℕ))
named_in [] = None
named_in (only ∷ []) = option_map Some (as_str only)
named_in (first ∷ second ∷ others) =
    if list_all is_text (first ∷ second ∷ others) then Some None else None

-- a text means the same as an array of that text
abbrev pub named_by : Option Data → Option (Option (List ℕ))
named_by (Some (string text)) = Some (Some text)
named_by (Some (array items)) = named_in (values items)
named_by _ = None

abbrev pub an_input : Rule (Option (List ℕ))
an_input = record { name = codes "input"; value = named_by }
