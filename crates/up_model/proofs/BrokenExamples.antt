-- Worked examples of broken fields, computed: one a field of a frame. Each is told with its last byte, though the frame isn't
-- finished.
use Rattle.std.proofs.Common.{◌≡◌, ℕ, List, [], ◌∷◌, ◌++◌, Some, None, refl}
use Rattle.std.specs.Str.{is_utf8, chars}
use Rattle.up_model.proofs.FrameExamples.{ab}
use Rattle.up_model.specs.FrameFronts.{packet_at, content_at, attributes_at, attribute_at, value_at}
use Rattle.up_model.specs.FrameStreams.{broken_at}

-- behind a whole frame of ten bytes these show nothing yet, and with this last byte that the frame that begins there is
-- broken
abbrev IsBrokenBy : ℕ → List ℕ → Type 0
IsBrokenBy last front = (broken_at (ab ++ front) ≡ None) × (broken_at (ab ++ front ++ last ∷ []) ≡ Some 10)

-- the mark, and the version
pub mark : IsBrokenBy 0x47 []
unfolding packet_at content_at attributes_at
mark = (refl, refl)

pub version : IsBrokenBy 2 (0x46 ∷ [])
unfolding packet_at content_at attributes_at
version = (refl, refl)

-- 65 attributes, and 1,048,577 bytes
pub attributes : IsBrokenBy 65 (0x46 ∷ 1 ∷ 0 ∷ [])
unfolding packet_at content_at attributes_at
attributes = (refl, refl)

pub size : IsBrokenBy 1 (0x46 ∷ 1 ∷ 0 ∷ 0 ∷ 0 ∷ 0x10 ∷ 0 ∷ [])
unfolding packet_at content_at attributes_at
size = (refl, refl)

-- a frame of one attribute and no byte, from its attribute on
abbrev one : List ℕ → List ℕ
one bytes = 0x46 ∷ 1 ∷ 0 ∷ 1 ∷ 0 ∷ 0 ∷ 0 ∷ 0 ∷ bytes

-- the length of a name: 0, and 65
pub no_name : IsBrokenBy 0 (one [])
unfolding packet_at content_at attributes_at attribute_at value_at
no_name = (refl, refl)

pub long_name : IsBrokenBy 65 (one [])
unfolding packet_at content_at attributes_at attribute_at value_at
long_name = (refl, refl)

-- a byte that no name has: wherever it stands, it is told with the last byte of the name
pub name_byte : IsBrokenBy 0x20 (one (2 ∷ 0x78 ∷ []))
unfolding packet_at content_at attributes_at attribute_at value_at
name_byte = (refl, refl)

pub first_name_byte : IsBrokenBy 0x78 (one (2 ∷ 0x20 ∷ []))
unfolding packet_at content_at attributes_at attribute_at value_at
first_name_byte = (refl, refl)

-- the number of a type: 0, and 6
pub no_type : IsBrokenBy 0 (one (1 ∷ 0x78 ∷ []))
unfolding packet_at content_at attributes_at attribute_at value_at
no_type = (refl, refl)

pub sixth_type : IsBrokenBy 6 (one (1 ∷ 0x78 ∷ []))
unfolding packet_at content_at attributes_at attribute_at value_at
sixth_type = (refl, refl)

-- the length of a value: a void of one byte, a flag of none, a number of seven, a text and bytes of 4,097
abbrev with_type : ℕ → List ℕ → List ℕ
with_type type_ bytes = one (1 ∷ 0x78 ∷ type_ ∷ 0 ∷ 0 ∷ bytes)

pub long_void : IsBrokenBy 1 (with_type 1 (0 ∷ []))
unfolding packet_at content_at attributes_at attribute_at value_at
long_void = (refl, refl)

pub short_flag : IsBrokenBy 0 (with_type 2 (0 ∷ []))
unfolding packet_at content_at attributes_at attribute_at value_at
short_flag = (refl, refl)

pub short_number : IsBrokenBy 7 (with_type 3 (0 ∷ []))
unfolding packet_at content_at attributes_at attribute_at value_at
short_number = (refl, refl)

pub long_text : IsBrokenBy 1 (with_type 4 (0x10 ∷ []))
unfolding packet_at content_at attributes_at attribute_at value_at
long_text = (refl, refl)

pub long_bytes : IsBrokenBy 1 (with_type 5 (0x10 ∷ []))
unfolding packet_at content_at attributes_at attribute_at value_at
long_bytes = (refl, refl)

-- a flag that is 2, and a text that is no UTF-8
pub flag : IsBrokenBy 2 (with_type 2 (0 ∷ 1 ∷ []))
unfolding packet_at content_at attributes_at attribute_at value_at
flag = (refl, refl)

pub text : IsBrokenBy 0xff (with_type 4 (0 ∷ 2 ∷ 0x78 ∷ []))
unfolding chars is_utf8 lib.Utf8.encode packet_at content_at attributes_at attribute_at value_at
text = (refl, refl)

-- two attributes, the first a void: a second of the same name, and one whose name comes before it
abbrev second_name : ℕ → List ℕ → List ℕ
second_name first bytes =
    0x46 ∷ 1 ∷ 0 ∷ 2 ∷ 0 ∷ 0 ∷ 0 ∷ 0 ∷ 1 ∷ first ∷ 1 ∷ 0 ∷ 0 ∷ 0 ∷ 0 ∷ bytes

pub same_name : IsBrokenBy 0x78 (second_name 0x78 (1 ∷ []))
unfolding packet_at content_at attributes_at attribute_at value_at
same_name = (refl, refl)

pub name_before : IsBrokenBy 0x77 (second_name 0x78 (1 ∷ []))
unfolding packet_at content_at attributes_at attribute_at value_at
name_before = (refl, refl)

-- a size that is too great from its first byte on isn't told before its last
pub great_size : IsBrokenBy 0 (0x46 ∷ 1 ∷ 0 ∷ 0 ∷ 0xff ∷ 0 ∷ 0 ∷ [])
unfolding packet_at content_at attributes_at
great_size = (refl, refl)
