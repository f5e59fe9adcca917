-- Bytes that are cut into blocks, a packet's worth at a time.
use Rattle.std.proofs.Common.{◌≡◌, ℕ, ◌+◌, ◌-◌, ◌*◌, ◌/◌, ◌<◌, ◌≤◌, List, [], ◌∷◌, ◌++◌, length, take, drop, sym, ap, ◌∙◌, arith, length-append}
use Rattle.std.proofs.lemmas.List.{take_all}
use Rattle.std.proofs.lemmas.List.FromFn.{map-range_with_len_more}
use Rattle.std.proofs.lemmas.Nat.{div-mul-add}
use Rattle.std.proofs.Math.Seq.{drop-append_seam, take-append-add}
use Rattle.up_model.proofs.Blocks.{pieces_of_front}
use Rattle.up_model.specs.Cutting.{piece, pieces, blocks, full_blocks}
use Rattle.up_model.specs.Packet.{plain}

-- a piece behind the front
piece_behind : (size : ℕ) (a b : List ℕ) (count : ℕ) → length a ≡ count * size → length b ≤ size → piece size (a ++ b) count ≡ b
piece_behind size a b count even short =
    ap (λ n. take size (drop n (a ++ b))) (sym even) ∙ ap (take size) (drop-append_seam a b) ∙ take_all size b short

-- the pieces of the front, and then the one behind it
pieces_more : (size : ℕ) (a b : List ℕ) (count : ℕ) → length a ≡ count * size → length b ≤ size
    → pieces size (a ++ b) (count + 1) ≡ pieces size a count ++ plain b ∷ []
pieces_more size a b count even short =
    let same : (0 + count) * size ≤ length a = omega (arith, even) in
    map-range_with_len_more (λ p. plain (piece size (a ++ b) p)) 0 count count (omega arith)
    ∙ ap (λ f. f ++ plain (piece size (a ++ b) count) ∷ []) (pieces_of_front size a b 0 count same)
    ∙ ap (λ l. pieces size a count ++ plain l ∷ []) (piece_behind size a b count even short)

quotient : (size n count rest : ℕ) → n ≡ count * size + rest → rest < size → n / size ≡ count
quotient size n count rest is small = ap (λ m. m / size) is ∙ div-mul-add count size rest small

-- so many whole blocks
full_blocks-even : (size : ℕ) (a : List ℕ) (count : ℕ) → 0 < size → length a ≡ count * size → full_blocks size a ≡ pieces size a count
full_blocks-even size a count some even = ap (pieces size a) (quotient size (length a) count 0 (omega (arith, even)) some)

-- one whole block more
pub full_blocks-more : (size : ℕ) (a b : List ℕ) (count : ℕ) → 0 < size → length a ≡ count * size → length b ≡ size
    → full_blocks size (a ++ b) ≡ full_blocks size a ++ plain b ∷ []
full_blocks-more size a b count some even whole =
    let more : (count + 1) * size ≡ count * size + size = omega arith in
    ap (pieces size (a ++ b)) (quotient size (length (a ++ b)) (count + 1) 0 (omega (arith, length-append a b)) some)
    ∙ pieces_more size a b count even (omega arith)
    ∙ ap (λ f. f ++ plain b ∷ []) (sym (full_blocks-even size a count some even))

-- bytes that fill no block add none
pub full_blocks-short : (size : ℕ) (a b : List ℕ) (count : ℕ) → 0 < size → length a ≡ count * size → length b < size
    → full_blocks size (a ++ b) ≡ full_blocks size a
full_blocks-short size a b count some even short =
    let same : (0 + count) * size ≤ length a = omega (arith, even) in
    ap (pieces size (a ++ b)) (quotient size (length (a ++ b)) count (length b) (omega (arith, length-append a b)) short)
    ∙ pieces_of_front size a b 0 count same
    ∙ sym (full_blocks-even size a count some even)

-- at the end they make one that is shorter
pub blocks-more : (size : ℕ) (a b : List ℕ) (count : ℕ) → length a ≡ count * size → 0 < length b → length b < size
    → blocks size (a ++ b) ≡ full_blocks size a ++ plain b ∷ []
blocks-more size a b count even some short =
    let more : (count + 1) * size ≡ count * size + size = omega arith in
    ap (pieces size (a ++ b))
    (quotient size (length (a ++ b) + size - 1) (count + 1) (length b - 1) (omega (arith, length-append a b)) (omega arith))
    ∙ pieces_more size a b count even (omega arith)
    ∙ ap (λ f. f ++ plain b ∷ []) (sym (full_blocks-even size a count (omega arith) even))

-- and none where there are none
pub blocks-even : (size : ℕ) (a : List ℕ) (count : ℕ) → 0 < size → length a ≡ count * size → blocks size a ≡ full_blocks size a
blocks-even size a count some even =
    ap (pieces size a) (quotient size (length a + size - 1) count (size - 1) (omega arith) (omega arith))
    ∙ sym (full_blocks-even size a count some even)

-- the bytes within the limit
pub within_limit : (taken more : List ℕ) (limit left : ℕ) → length taken + left ≡ limit → take limit (taken ++ more) ≡ taken ++ take left more
within_limit taken more limit left is = ap (λ n. take n (taken ++ more)) (sym is) ∙ take-append-add taken more left
