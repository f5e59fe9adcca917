-- Worked examples of names, and of the place where a text is none, computed.
use Rattle.std.proofs.Common.{◌≡◌, List, ℕ, [], ◌∷◌, ◌++◌, true, false, Ok, Err, refl}
use Rattle.std.specs.Prelude.{codes, replicate}
use Rattle.std.specs.List.{list_all}
use Rattle.up_base.specs.Name.{is_name_byte, is_name, bad_place}
use Rattle.up_base.specs.NameOf.{name_of}

-- a text of so many `a`
abbrev letters : ℕ → List ℕ
letters count = replicate count 97

pub name_bytes :
    list_all is_name_byte (codes "ABCDEFGHIJKLMNOPQRSTUVWXYZabcdefghijklmnopqrstuvwxyz0123456789._-") ≡ true
name_bytes = refl

-- a blank, a slash, and the bytes next to the letters and digits are no name bytes
pub other_bytes :
    (is_name_byte 32 ≡ false) × (is_name_byte 47 ≡ false) × (is_name_byte 58 ≡ false) × (is_name_byte 64 ≡ false)
    × (is_name_byte 91 ≡ false) × (is_name_byte 96 ≡ false) × (is_name_byte 123 ≡ false) × (is_name_byte 255 ≡ false)
other_bytes = (refl, refl, refl, refl, refl, refl, refl, refl)

-- a name has 1 to 64 bytes
pub lengths :
    (is_name [] ≡ false) × (is_name (letters 1) ≡ true) × (is_name (letters 64) ≡ true) × (is_name (letters 65) ≡ false)
lengths = (refl, refl, refl, refl)

pub video : name_of (codes "video.1") ≡ Ok (codes "video.1")
unfolding name_of
video = refl

pub blank_inside : name_of (codes "a b") ≡ Err (record { at = 1 })
unfolding name_of
blank_inside = refl

-- the first of two bad bytes is told
pub first_bad_byte : bad_place (codes "a/b c") ≡ 1
first_bad_byte = refl

pub empty_text : bad_place [] ≡ 0
empty_text = refl

-- a bad byte at place 63 is told, and one at place 64 is not
pub bad_byte_of_a_long_text :
    (bad_place (letters 63 ++ 32 ∷ letters 9) ≡ 63) × (bad_place (letters 64 ++ 32 ∷ letters 9) ≡ 74)
bad_byte_of_a_long_text = (refl, refl)
