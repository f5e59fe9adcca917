-- The place of the first byte that may not stand in a name, and whether there is one.
use Rattle.std.proofs.Common.{◌≡◌, ℕ, ◌<◌, ◌≤◌, Bool, true, false, not, cond, List, [], ◌∷◌, length, take, Some, None, Err, ltb, arith, get_or, inl, inr, refl}
use Rattle.std.specs.Prelude.{◌&&◌, position}
use Rattle.std.specs.List.{list_all, position_or_len}
use Rattle.std.proofs.lemmas.List.{get_or-take, length-take, take_all}
use Rattle.std.proofs.lemmas.List.Folds.{list_all_at}
use Rattle.std.proofs.lemmas.List.Quantifiers.{position-Some}
use Rattle.std.proofs.lemmas.Bool.{not-true, cases_Bool, cases_lt, lt-ltb}
use Rattle.up_base.specs.Name.{is_name, is_name_byte}
use Rattle.up_base.specs.NameOf.{name_of}

-- where the test fails at one of the first n, it doesn't hold of all
list_all-position : (test : ℕ → Bool) (n at : ℕ) (xs : List ℕ) → position (λ x. not (test x)) (take n xs) ≡ Some at → list_all test xs ≡ false
list_all-position test n at xs found =
    let place = position-Some (λ x. not (test x)) (take n xs) at 0 found in
    let within : (at < n) × (at < length xs) = (omega (arith, place.0, length-take n xs), omega (arith, place.0, length-take n xs)) in
    let fails : test (get_or xs at 0) ≡ false = rw (← get_or-take n xs at 0 within.0) (not-true _ place.1) in
    list_all_at test xs at 0 within.1 fails

all_pass : (test : ℕ → Bool) (xs : List ℕ) → length xs ≤ position_or_len (λ x. not (test x)) xs → list_all test xs ≡ true
all_pass test [] beyond = refl
all_pass test (x ∷ xs) beyond =
    elim (cases_Bool (test x)) [
      | inl passes ↦ rw passes (all_pass test xs (omega (arith, simp passes at beyond)))
      | inr fails ↦ absurd (omega (arith, simp fails at beyond))
    ]

no_place : (n len : ℕ) → cond (ltb n len) (Some n) None ≡ None → len ≤ n
no_place n len none =
    elim (cases_lt n len) [
      | inl within ↦ absurd (let some : Some n ≡ None = rw (lt-ltb n len within) at none in cc)
      | inr beyond ↦ beyond
    ]

-- where it fails at none of the first n, and there are no more, it holds of all
pub list_all-no_position : (test : ℕ → Bool) (n : ℕ) (xs : List ℕ) → position (λ x. not (test x)) (take n xs) ≡ None → length xs ≤ n → list_all test xs ≡ true
list_all-no_position test n xs none few =
    let whole : position (λ x. not (test x)) xs ≡ None = rw (take_all n xs few) at none in
    all_pass test xs (no_place _ _ whole)

last_fails : (a b : Bool) → b ≡ false → (a && b) ≡ false
last_fails true b fails = fails
last_fails false b fails = refl

-- a text with a byte that may not stand in a name is none
pub name_of-bad_byte : (text : List ℕ) (at : ℕ) → position (λ byte. not (is_name_byte byte)) (take 64 text) ≡ Some at → Err (record { at = at }) ≡ name_of text
unfolding name_of
name_of-bad_byte text at found =
    let fails : is_name text ≡ false = last_fails _ _ (list_all-position is_name_byte 64 at text found) in
    rw (fails, found) refl
