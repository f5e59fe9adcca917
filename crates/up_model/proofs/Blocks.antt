-- The blocks of some bytes, where more bytes come after them.
use Rattle.std.proofs.Common.{◌≡◌, ℕ, zero, suc, ◌+◌, ◌-◌, ◌*◌, ◌/◌, ◌<◌, ◌≤◌, List, ◌∷◌, ◌++◌, length, take, drop, map, refl, ap, ◌∙◌, arith, length-append, length-drop, subst}
use Rattle.std.specs.List.{range_with_len}
use Rattle.std.proofs.lemmas.List.{take-append-le, drop-append-le}
use Rattle.std.proofs.Math.Nat.{div-mul-le_self}
use Rattle.std.proofs.lemmas.Nat.{le-div}
use Rattle.up_base.specs.Lists.{IsPrefix}
use Rattle.up_model.specs.Cutting.{piece, pieces, blocks, full_blocks}
use Rattle.up_model.specs.Packet.{plain}

-- a piece of the front is one of the whole
piece_of_front : (size : ℕ) (a b : List ℕ) (place : ℕ) → (place + 1) * size ≤ length a → piece size (a ++ b) place ≡ piece size a place
piece_of_front size a b place within =
    let more : (place + 1) * size ≡ place * size + size = omega arith in
    ap (take size) (drop-append-le (place * size) a b (omega arith))
    ∙ take-append-le size (drop (place * size) a) b (omega (arith, length-drop (place * size) a))

-- so are all pieces that lie in the front
pub pieces_of_front : (size : ℕ) (a b : List ℕ) (place count : ℕ) → (place + count) * size ≤ length a
    → map (λ p. plain (piece size (a ++ b) p)) (range_with_len place count) ≡ map (λ p. plain (piece size a p)) (range_with_len place count)
pieces_of_front size a b place zero within = refl
pieces_of_front size a b place (suc count) within =
    let apart : (place + suc count) * size ≡ (place + 1) * size + count * size = omega arith in
    let shifted : (place + 1 + count) * size ≡ (place + suc count) * size = omega arith in
    let one = ap plain (piece_of_front size a b place (omega arith)) in
    let rest = pieces_of_front size a b (place + 1) count (omega arith) in
    λ i. one i ∷ rest i

-- the first of a run of numbers, and then the others
mapped-range : {X : Type 0} (f : ℕ → X) (start count more : ℕ)
    → map f (range_with_len start (count + more)) ≡ map f (range_with_len start count) ++ map f (range_with_len (start + count) more)
mapped-range f start zero more =
    let none : 0 + more ≡ more = omega arith in
    let here : start + 0 ≡ start = omega arith in
    rw (none, here) refl
mapped-range f start (suc count) more =
    let one_less : suc count + more ≡ suc (count + more) = omega arith in
    let next : start + suc count ≡ start + 1 + count = omega arith in
    rw (one_less, next) (ap (λ l. f start ∷ l) (mapped-range f (start + 1) count more))

-- more pieces of more bytes go on with those of the front
pieces_go_on : (size : ℕ) (a b : List ℕ) (count more : ℕ) → count * size ≤ length a → IsPrefix (pieces size a count) (pieces size (a ++ b) (count + more))
pieces_go_on size a b count more within =
    let same : (0 + count) * size ≤ length a = omega arith in (
      map (λ p. plain (piece size (a ++ b) p)) (range_with_len (0 + count) more),
      mapped-range (λ p. plain (piece size (a ++ b) p)) 0 count more
          ∙ ap (λ f. f ++ map (λ p. plain (piece size (a ++ b) p)) (range_with_len (0 + count) more)) (pieces_of_front size a b 0 count same),
    )

go_on_to : (size : ℕ) (a b : List ℕ) (count all : ℕ) → count * size ≤ length a → count ≤ all → IsPrefix (pieces size a count) (pieces size (a ++ b) all)
go_on_to size a b count all within few =
    let is : count + (all - count) ≡ all = omega arith in
    subst (λ (n : ℕ). IsPrefix (pieces size a count) (pieces size (a ++ b) n)) is (pieces_go_on size a b count (all - count) within)

-- whole blocks stay, whatever comes after them
pub full_blocks-go_on : (size : ℕ) (a b : List ℕ) → 0 < size → IsPrefix (full_blocks size a) (full_blocks size (a ++ b))
full_blocks-go_on size a b some =
    let more : length a ≤ length (a ++ b) = omega (arith, length-append a b) in
    let within : length a / size * size ≤ length a = div-mul-le_self (length a) size in
    go_on_to size a b (length a / size) (length (a ++ b) / size) within (le-div (length a / size) (length (a ++ b)) size some (omega (arith, within, more)))

-- and they are the first of all blocks
pub full_blocks-blocks : (size : ℕ) (a b : List ℕ) → 0 < size → IsPrefix (full_blocks size a) (blocks size (a ++ b))
full_blocks-blocks size a b some =
    let more : length a ≤ length (a ++ b) + size - 1 = omega (arith, length-append a b, some) in
    let within : length a / size * size ≤ length a = div-mul-le_self (length a) size in
    go_on_to size a b (length a / size) ((length (a ++ b) + size - 1) / size) within
    (le-div (length a / size) (length (a ++ b) + size - 1) size some (omega (arith, within, more)))
