-- Items of a list that are put in the place of others, one after the other.
use Rattle.std.proofs.Common.{◌≡◌, ℕ, ◌+◌, ◌<◌, ◌≤◌, List, length, set, get_or, sym, ◌∙◌, subst, arith, inl, inr}
use Rattle.std.proofs.lemmas.List.{get_or-set_same, get_or-set_other, get_or_default, length-set}
use Rattle.std.proofs.lemmas.Bool.{cases_lt}
use Rattle.std.proofs.lemmas.Bool.Decides.{eqb_tells}
use Rattle.up_strand.specs.Tree.{AllAt, Pairwise}

-- an item that is put in the place of another is as good
pub all_set : {X : Type 0} (Q : X → Type 0) (now : List X) (i : ℕ) (y : X) → AllAt Q now → Q y → AllAt Q (set now i y)
all_set {X} Q now i y all good k d within =
    let inside : k < length now = omega (arith, length-set {A = X}) in
    elim (eqb_tells k i) [
      | inl same ↦
          let there : Q (get_or (set now i y) i d) = subst Q (sym (get_or-set_same now i y d (omega arith))) good in
          subst (λ (n : ℕ). Q (get_or (set now i y) n d)) (sym same.1) there
      | inr other ↦ subst Q (sym (get_or-set_other now i k y d other.1)) (all k d inside)
    ]

-- each item stands to itself, but for one that was put in the place of another
pub pairs_set : {X : Type 0} (R : X → X → Type 0) (now : List X) (i : ℕ) (y e : X) → i < length now → ((x : X) → R x x) → R (get_or now i e) y → Pairwise R now (set now i y)
pairs_set {X} R now i y e within itself here k d inside =
    elim (eqb_tells k i) [
      | inl same ↦
          let there : R (get_or now i d) (get_or (set now i y) i d) =
          rw (get_or-set_same now i y d within, get_or_default now i d e within) here in
          subst (λ (n : ℕ). R (get_or now n d) (get_or (set now i y) n d)) (sym same.1) there
      | inr other ↦ subst (R (get_or now k d)) (sym (get_or-set_other now i k y d other.1)) (itself (get_or now k d))
    ]

-- one step after the other
pub pairs_on : {X : Type 0} (R S U : X → X → Type 0) (a b c : List X) → length b ≡ length a → ((x y z : X) → R x y → S y z → U x z)
    → Pairwise R a b → Pairwise S b c → Pairwise U a c
pairs_on R S U a b c same both one two i d within = both _ _ _ (one i d within) (two i d (omega arith))

module _ {X : Type 0} (R : X → X → Type 0) (init now : List X) (i : ℕ) (y : X) where
  -- the items before a place are done, and the one there too
  pub done_next : i < length now → ((k : ℕ) (d : X) → k < i → R (get_or init k d) (get_or now k d)) → ((d : X) → R (get_or init i d) y)
      → (k : ℕ) (d : X) → k < i + 1 → R (get_or init k d) (get_or (set now i y) k d)
  done_next within done here k d below =
      elim (cases_lt k i) [
        | inl before ↦
            let other : get_or (set now i y) k d ≡ get_or now k d = get_or-set_other now i k y d (λ same. absurd (omega arith)) in
            subst (λ (x : X). R (get_or init k d) x) (sym other) (done k d before)
        | inr behind ↦
            let same : k ≡ i = omega arith in
            let here_now : R (get_or init i d) (get_or (set now i y) i d) =
            subst (λ (x : X). R (get_or init i d) x) (sym (get_or-set_same now i y d within)) (here d) in
            subst (λ (n : ℕ). R (get_or init n d) (get_or (set now i y) n d)) (sym same) here_now
      ]

  -- the items behind it are as they were
  pub left_next : ((k : ℕ) (d : X) → i ≤ k → get_or now k d ≡ get_or init k d)
      → (k : ℕ) (d : X) → i + 1 ≤ k → get_or (set now i y) k d ≡ get_or init k d
  left_next left k d behind = get_or-set_other now i k y d (λ same. absurd (omega arith)) ∙ left k d (omega arith)
