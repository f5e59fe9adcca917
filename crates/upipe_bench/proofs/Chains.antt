-- The pipes of a chain, one after the other.
use Rattle.std.proofs.Common.{◌≡◌, ◌↔◌, IsTrue, ℕ, zero, suc, ◌+◌, ◌<◌, ◌≤◌, ◌++◌, List, [], ◌∷◌, Bool, true, false, Some, length, map, slice_get, take, get_or, replicate, nat_le, refl, ap, ◌∙◌, arith, inl, inr}
use Rattle.std.proofs.lemmas.Bool.{cases_Bool, leb-true, leb-false, lt-ltb}
use Rattle.std.proofs.lemmas.List.{take_all, take_more, length-append, length-replicate}
use Rattle.upipe_bench.specs.Chains.{chain, is_inner}

-- behind the source stand the idems, and then none
an_idem : (idems place : ℕ) → place < idems → get_or (replicate idems true ++ false ∷ []) place false ≡ true
an_idem zero place inside = absurd (omega (arith, inside))
an_idem (suc idems) zero inside = refl
an_idem (suc idems) (suc place) inside = an_idem idems place (omega (arith, inside))

no_idem : (idems place : ℕ) → idems ≤ place → get_or (replicate idems true ++ false ∷ []) place false ≡ false
no_idem zero zero past = refl
no_idem zero (suc place) past = refl
no_idem (suc idems) zero past = absurd (omega (arith, past))
no_idem (suc idems) (suc place) past = no_idem idems place (omega (arith, past))

at_place : (idems place : ℕ) → get_or (chain idems) place false ≡ is_inner idems place
at_place idems zero = refl
at_place idems (suc place) = rw (lt-ltb 0 (suc place) (omega arith))
    (elim (cases_Bool (nat_le (suc place) idems)) [
      | inl within ↦ rw within (an_idem idems place (leb-true (suc place) idems within))
      | inr past ↦ rw past (no_idem idems place (let less = leb-false (suc place) idems past in omega arith))
    ])

chain_length : (idems : ℕ) → length (chain idems) ≡ idems + 2
chain_length idems = omega (arith, length-append (replicate idems true) (false ∷ []), length-replicate idems true)

-- one pipe more of a chain
pub next_pipe : (idems place : ℕ) → place < idems + 2 → take (place + 1) (chain idems) ≡ take place (chain idems) ++ is_inner idems place ∷ []
next_pipe idems place inside =
    take_more (chain idems) place false (omega (arith, inside, chain_length idems))
    ∙ ap (λ here. take place (chain idems) ++ here ∷ []) (at_place idems place)

-- all pipes of a chain
pub all_pipes : (idems place : ℕ) → idems + 2 ≤ place → take place (chain idems) ≡ chain idems
all_pipes idems place past = take_all place (chain idems) (omega (arith, past, chain_length idems))

-- a list of one item
pub one_item : {X Y : Type 0} (f : X → Y) (xs : List X) (x : X) → length xs ≡ 1 → slice_get xs 0 ≡ Some x → map f xs ≡ f x ∷ []
one_item f [] x one there = absurd (omega (arith, one))
one_item f (y ∷ []) x one there = ap (λ z. f z ∷ []) (some_same y x there)
  where
    some_same : {Z : Type 0} (a b : Z) → Some a ≡ Some b → a ≡ b
    some_same a b is = cc
one_item f (y ∷ z ∷ ys) x one there = absurd (omega (arith, one))

-- whether it is this item
pub is_only : {X Y : Type 0} (f : X → Y) (xs : List X) (x : X) (y : Y) (same : Bool) → length xs ≡ 1 → slice_get xs 0 ≡ Some x
    → (IsTrue same ↔ f x ≡ y) → (IsTrue same ↔ map f xs ≡ y ∷ [])
is_only f xs x y same one there tells = rw (one_item f xs x one there)
    ((λ is. ap (λ z. z ∷ []) (tells.0 is)), λ is. tells.1 (cc))
