-- A name that is copied to the front of 64 zeros.
use Rattle.std.proofs.Common.{◌≡◌, ℕ, ◌+◌, ◌-◌, ◌<◌, ◌≤◌, true, List, ◌++◌, length, take, set, get_or, zero-add, arith, ◌∙◌, sym, ap, refl}
use Rattle.std.specs.Prelude.{replicate}
use lib.Seq.{paste}
use Rattle.std.proofs.lemmas.List.{take_at, take_all, drop-replicate}
use Rattle.std.proofs.lemmas.List.Edits.{paste_more}
use Rattle.std.proofs.lemmas.Bool.Decides.{nat_tests}
use Rattle.up_base.specs.Name.{is_name}
use Rattle.up_base.specs.NameText.{IsPadded}

-- 64 bytes, of which the first n are the text's and the others zero
abbrev pub copied : List ℕ → ℕ → List ℕ
copied text n = paste (replicate 64 0) 0 text n

pub is_name-short : (text : List ℕ) → is_name text ≡ true → length text ≤ 64
is_name-short text is = grind (arith, nat_tests)

-- one more byte is copied
pub copied-more : (text : List ℕ) (n : ℕ) → n < length text → length text ≤ 64 → set (copied text n) n (get_or text n 0) ≡ copied text (n + 1)
copied-more text n within short =
    ap (λ (k : ℕ). set (copied text n) k (get_or text n 0)) (sym (zero-add n)) ∙ paste_more (replicate 64 0) 0 text n 0 (omega arith) within

copied-all : (text : List ℕ) → length text ≤ 64 → copied text (length text) ≡ text ++ replicate (64 - length text) 0
copied-all text short =
    rw (take_all (length text) text (omega arith), zero-add) (ap (λ (zeros : List ℕ). text ++ zeros) (drop-replicate (length text) 64 0))

-- a name that is copied whole is padded
pub padded_name : (text bytes : List ℕ) (n : ℕ) → is_name text ≡ true → length text ≤ n → n ≤ length text → bytes ≡ copied text n
    → IsPadded (record { bytes = bytes; len = length text })
padded_name text bytes n is low high made =
    let short = is_name-short text is in
    let all : n ≡ length text = omega arith in
    let whole : bytes ≡ text ++ replicate (64 - length text) 0 = made ∙ ap (copied text) all ∙ copied-all text short in
    let front : take (length text) bytes ≡ text = rw whole (take_at text _ (length text) refl) in
    record { name = rw front is; count = ap length front; zeros = rw front (sym whole) }
