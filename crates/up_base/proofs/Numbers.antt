-- The number in some bytes, from those in their two halves.
use Rattle.std.proofs.Common.{◌≡◌, ℕ, suc, ◌+◌, ◌*◌, ◌^◌, ◌≤◌, ◌-◌, List, [], ◌∷◌, ◌++◌, length, drop, sym, ap, ◌∙◌, arith, length-take, length-drop}
use Rattle.std.specs.Prelude.{slice_range, fold}
use Rattle.std.proofs.Math.Nat.{pow-succ'}
use Rattle.std.proofs.Math.Seq.{take-add}
use Rattle.std.proofs.lemmas.List.{drop-drop}
use Rattle.std.proofs.lemmas.List.Sums.{fold-append}
use Rattle.up_base.specs.Number.{big_endian}

one_byte_more : (number b worth rest : ℕ) → (number * 256 + b) * worth + rest ≡ number * (256 * worth) + ((0 * 256 + b) * worth + rest)
one_byte_more number b worth rest = omega arith

-- bytes before others are worth 256 times as much for each of them
fold-worth : (number : ℕ) (bytes : List ℕ) → fold (λ n b. n * 256 + b) number bytes ≡ number * 256 ^ length bytes + big_endian bytes
fold-worth number [] = omega arith
fold-worth number (b ∷ bytes) =
    fold-worth (number * 256 + b) bytes
    ∙ one_byte_more number b (256 ^ length bytes) (big_endian bytes)
    ∙ ap (λ worth. number * worth + ((0 * 256 + b) * 256 ^ length bytes + big_endian bytes)) (sym (pow-succ' 256 (length bytes)))
    ∙ ap (λ rest. number * 256 ^ suc (length bytes) + rest) (sym (fold-worth (0 * 256 + b) bytes))

range-halves : (bytes : List ℕ) (at n m : ℕ) → slice_range bytes at (at + (n + m)) ≡ slice_range bytes at (at + n) ++ slice_range bytes (at + n) (at + n + m)
range-halves bytes at n m =
    let whole : at + (n + m) - at ≡ n + m = omega arith in
    let front : at + n - at ≡ n = omega arith in
    let back : at + n + m - (at + n) ≡ m = omega arith in
    rw (whole, front, back, ← drop-drop n at bytes) (take-add n m (drop at bytes))

-- the number in n and then m bytes
pub big_endian-halves : (bytes : List ℕ) (at n m : ℕ) → at + (n + m) ≤ length bytes
    → big_endian (slice_range bytes at (at + (n + m))) ≡ big_endian (slice_range bytes at (at + n)) * 256 ^ m + big_endian (slice_range bytes (at + n) (at + n + m))
big_endian-halves bytes at n m within =
    let back : length (slice_range bytes (at + n) (at + n + m)) ≡ m = omega (arith, length-take {A = ℕ}, length-drop {A = ℕ}) in
    ap big_endian (range-halves bytes at n m)
    ∙ fold-append (λ number b. number * 256 + b) 0 (slice_range bytes at (at + n)) (slice_range bytes (at + n) (at + n + m))
    ∙ fold-worth (big_endian (slice_range bytes at (at + n))) (slice_range bytes (at + n) (at + n + m))
    ∙ ap (λ k. big_endian (slice_range bytes at (at + n)) * 256 ^ k + big_endian (slice_range bytes (at + n) (at + n + m))) back
