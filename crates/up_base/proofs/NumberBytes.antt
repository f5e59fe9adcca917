-- The bytes of a number, and the number in them.
use Rattle.std.proofs.Common.{◌≡◌, ℕ, zero, suc, ◌+◌, ◌*◌, ◌/◌, ◌%◌, ◌^◌, ◌<◌, List, [], ◌∷◌, ◌++◌, length, append-nil, append_assoc, refl, ap, ◌∙◌, arith, lit≤}
use Rattle.std.specs.Prelude.{fold}
use Rattle.std.proofs.Math.Nat.{pow-succ'}
use Rattle.std.proofs.lemmas.List.Elements.{All-head, All-tail}
use Rattle.std.proofs.lemmas.List.Sums.{fold-append}
use Rattle.std.proofs.lemmas.Nat.{div-add-mod', div_below}
use Rattle.up_base.specs.Number.{AreBytes, big_endian, big_endian_bytes}

-- a number of at most so many bytes is the number in those bytes
pub number_of_bytes : (count number : ℕ) → number < 256 ^ count
    → big_endian (big_endian_bytes count number) ≡ number
number_of_bytes zero number fits = omega arith
number_of_bytes (suc count) number fits =
    let front : number / 256 < 256 ^ count = div_below number 256 (256 ^ count) (lit≤ tt) (omega (arith, pow-succ' 256 count)) in
    fold-append (λ number byte. number * 256 + byte) 0 (big_endian_bytes count (number / 256)) (number % 256 ∷ [])
    ∙ ap (λ before. before * 256 + number % 256) (number_of_bytes count (number / 256) front)
    ∙ div-add-mod' number 256

-- one byte more stands behind those of the number before it
one_byte_behind : (count number byte : ℕ) → byte < 256
    → big_endian_bytes (suc count) (number * 256 + byte) ≡ big_endian_bytes count number ++ byte ∷ []
one_byte_behind count number byte below =
    let before : (number * 256 + byte) / 256 ≡ number = omega arith in
    let last : (number * 256 + byte) % 256 ≡ byte = omega arith in
    rw (before, last) refl

-- bytes stand behind those of the number before them
bytes_behind : (count number : ℕ) (bytes : List ℕ) → AreBytes bytes
    → big_endian_bytes (length bytes + count) (fold (λ number byte. number * 256 + byte) number bytes)
    ≡ big_endian_bytes count number ++ bytes
bytes_behind count number [] below =
    let none : 0 + count ≡ count = omega arith in
    rw (none, append-nil (big_endian_bytes count number)) refl
bytes_behind count number (byte ∷ bytes) below =
    let first : byte < 256 = All-head (λ b. b < 256) byte bytes below in
    let whole = fold (λ number byte. number * 256 + byte) (number * 256 + byte) bytes in
    let counts : suc (length bytes) + count ≡ length bytes + suc count = omega arith in
    ap (λ digits. big_endian_bytes digits whole) counts
    ∙ bytes_behind (suc count) (number * 256 + byte) bytes (All-tail (λ b. b < 256) byte bytes below)
    ∙ ap (λ before. before ++ bytes) (one_byte_behind count number byte first)
    ∙ append_assoc (big_endian_bytes count number) (byte ∷ []) bytes

-- bytes are those of the number in them
pub bytes_of_number : (bytes : List ℕ) → AreBytes bytes
    → big_endian_bytes (length bytes) (big_endian bytes) ≡ bytes
bytes_of_number bytes below =
    let all : length bytes ≡ length bytes + 0 = omega arith in
    ap (λ count. big_endian_bytes count (big_endian bytes)) all ∙ bytes_behind 0 0 bytes below
