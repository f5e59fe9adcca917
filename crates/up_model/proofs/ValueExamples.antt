-- Worked examples of values and of their sizes, computed.
use Rattle.std.proofs.Common.{◌≡◌, ◌-◌, ◌^◌, List, ℕ, [], ◌∷◌, true, Some, None, refl, arith}
use Rattle.std.specs.Prelude.{codes}
use Rattle.std.proofs.Common.{Bor}
use Rattle.std.specs.Str.{is_utf8, chars}
use Rattle.up_model.specs.Value.{lent, IsLegalValue, unsigned_of}
use Rattle.up_model.specs.declared.value.Value.TheVariants.{Void, Flag, Unsigned, Words, Opaque}
use Rattle.up_model.specs.declared.value.ValueView.TheVariants as views

-- a value that is lent is itself
pub plain_values : (lent views.Void ≡ Void) × (lent (views.Flag true) ≡ Flag true) × (lent (views.Unsigned (2 ^ 64 - 1)) ≡ Unsigned (2 ^ 64 - 1))
plain_values = (refl, refl, refl)

-- a text and bytes that are lent are what they are
pub values_of_bytes : (bytes : Bor (List ℕ)) → (lent (views.Words bytes) ≡ Words bytes.now) × (lent (views.Opaque bytes) ≡ Opaque bytes.now)
values_of_bytes bytes = (refl, refl)

-- the greatest number is legal, and the next is no value
pub greatest_number : IsLegalValue (Unsigned (2 ^ 64 - 1)) × (IsLegalValue (Unsigned (2 ^ 64)) → ⊥)
greatest_number = (omega arith, λ below. omega (arith, below))

-- the number that a value is
pub numbers :
    (unsigned_of (Unsigned 27000000) ≡ Some 27000000) × (unsigned_of (Words (codes "7")) ≡ None)
    × (unsigned_of (Flag true) ≡ None) × (unsigned_of Void ≡ None) × (unsigned_of (Opaque (7 ∷ [])) ≡ None)
numbers = (refl, refl, refl, refl, refl)

title_is_utf8 : is_utf8 (codes "title") ≡ true
unfolding chars is_utf8 lib.Utf8.encode
title_is_utf8 = refl

-- a text is UTF-8; bytes are any
pub texts_are_utf8 : IsLegalValue (Words (codes "title")) × IsLegalValue (Opaque (0 ∷ 255 ∷ []))
texts_are_utf8 = ((title_is_utf8, omega arith), omega arith)
