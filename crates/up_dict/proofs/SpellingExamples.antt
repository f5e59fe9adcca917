-- Worked examples of attributes as bytes, computed.
use Rattle.std.proofs.Common.{◌≡◌, ℕ, List, [], ◌∷◌, true, refl}
use Rattle.std.specs.Prelude.{codes}
use Rattle.up_model.specs.declared.value.Value.TheVariants.{Void, Flag, Unsigned, Words, Opaque}
use Rattle.up_dict.specs.Reading.{attrs_in, first_size}
use Rattle.up_dict.specs.Spelling.{Attr, attr_bytes, spelled}

-- the number 7 under the name `x`: 1 and the name, type 3, 8 and the number
abbrev x_7 : List ℕ
x_7 = 1 ∷ 120 ∷ 3 ∷ 0 ∷ 8 ∷ 0 ∷ 0 ∷ 0 ∷ 0 ∷ 0 ∷ 0 ∷ 0 ∷ 7 ∷ []

pub a_number : spelled ((codes "x", Unsigned 7) ∷ []) ≡ x_7
unfolding attr_bytes
a_number = refl

-- a flag that is set and a value without bytes, under `a` and `ab`
pub a_flag_and_no_value :
    spelled ((codes "a", Flag true) ∷ (codes "ab", Void) ∷ [])
    ≡ 1 ∷ 97 ∷ 2 ∷ 0 ∷ 1 ∷ 1 ∷ 2 ∷ 97 ∷ 98 ∷ 1 ∷ 0 ∷ 0 ∷ []
unfolding attr_bytes
a_flag_and_no_value = refl

-- a text and bytes, under `t` and `u`
abbrev text_and_bytes : List ℕ
text_and_bytes = 1 ∷ 116 ∷ 4 ∷ 0 ∷ 2 ∷ 101 ∷ 110 ∷ 1 ∷ 117 ∷ 5 ∷ 0 ∷ 3 ∷ 0 ∷ 255 ∷ 1 ∷ []

abbrev text_and_opaque : List Attr
text_and_opaque =
    (codes "t", Words (codes "en")) ∷ (codes "u", Opaque (0 ∷ 255 ∷ 1 ∷ [])) ∷ []

pub a_text_and_bytes : spelled text_and_opaque ≡ text_and_bytes
unfolding attr_bytes
a_text_and_bytes = refl

-- no attributes have no bytes
pub nothing : spelled [] ≡ []
nothing = refl

pub a_number_reads_back : attrs_in x_7 ≡ (codes "x", Unsigned 7) ∷ []
unfolding attrs_in first_size
a_number_reads_back = refl

pub a_text_and_bytes_read_back : attrs_in text_and_bytes ≡ text_and_opaque
unfolding attrs_in first_size
a_text_and_bytes_read_back = refl
