-- Sums over a list, by what is so of its members.
use Rattle.std.proofs.Common.{◌≡◌, ◌≢◌, ℕ, zero, suc, ◌+◌, ◌*◌, ◌<◌, ◌≤◌, ◌==◌, List, [], ◌∷◌, length, map, get_or, sum, count_by, cond, Bool, true, false, refl, ap, sym, ◌∙◌, subst, arith, inl, inr}
use Rattle.std.specs.List.{Contains}
use Rattle.std.proofs.lemmas.Bool.Decides.{eqb_tells}
use Rattle.std.proofs.lemmas.List.Sums.{sum_by-cons}

in_rest : {X : Type 0} (x y : X) (xs : List X) → Contains xs x → Contains (y ∷ xs) x
in_rest x y xs there = (suc there.0, omega (arith, there.1), there.2)

here_first : {X : Type 0} (x : X) (xs : List X) → Contains (x ∷ xs) x
here_first x xs = (0, omega arith, refl)

sum_cons : {X : Type 0} (f : X → ℕ) (x : X) (xs : List X) → sum (map f (x ∷ xs)) ≡ f x + sum (map f xs)
sum_cons f x xs = sum_by-cons (λ (n : ℕ). n) (f x) (map f xs)

module _ {X : Type 0} (f g : X → ℕ) where
  pub sum_same : (xs : List X) → ((x : X) → Contains xs x → f x ≡ g x) → sum (map f xs) ≡ sum (map g xs)
  sum_same [] same = refl
  sum_same (x ∷ xs) same =
      let here = same x (here_first x xs) in
      let rest = sum_same xs (λ y there. same y (in_rest y x xs there)) in
      omega (arith, here, rest, sum_cons f x xs, sum_cons g x xs)

  pub sum_less : (xs : List X) → ((x : X) → Contains xs x → f x ≤ g x) → sum (map f xs) ≤ sum (map g xs)
  sum_less [] less = omega arith
  sum_less (x ∷ xs) less =
      let here = less x (here_first x xs) in
      let rest = sum_less xs (λ y there. less y (in_rest y x xs there)) in
      omega (arith, here, rest, sum_cons f x xs, sum_cons g x xs)

  falls_at : (xs : List X) (k : ℕ) (d : X) → k < length xs → ((y : X) → Contains xs y → f y ≤ g y) → f (get_or xs k d) < g (get_or xs k d)
      → sum (map f xs) < sum (map g xs)
  falls_at [] k d within less falls = absurd (omega (arith, within))
  falls_at (x ∷ xs) zero d within less falls =
      let rest = sum_less xs (λ y there. less y (in_rest y x xs there)) in
      omega (arith, falls, rest, sum_cons f x xs, sum_cons g x xs)
  falls_at (x ∷ xs) (suc k) d within less falls =
      let here = less x (here_first x xs) in
      let rest = falls_at xs k d (omega (arith, within)) (λ y there. less y (in_rest y x xs there)) falls in
      omega (arith, here, rest, sum_cons f x xs, sum_cons g x xs)

  -- where no part of a sum grows and one falls, it falls
  pub sum_falls : (xs : List X) (x : X) → Contains xs x → ((y : X) → Contains xs y → f y ≤ g y) → f x < g x → sum (map f xs) < sum (map g xs)
  sum_falls xs x there less falls =
      falls_at xs there.0 x there.1 less (subst (λ (y : X). f y < g y) (sym there.2) falls)

pub times_more : (count n : ℕ) → (1 + count) * n ≡ n + count * n
times_more count n = grind arith

module _ (f g : ℕ → ℕ) (place n : ℕ) (same : (y : ℕ) → y ≢ place → f y ≡ g y) (here : f place ≤ g place + n) where
  abbrev times : List ℕ → ℕ
  times xs = count_by (λ y. y == place) xs

  times_here : (y : ℕ) (xs : List ℕ) → (y == place) ≡ true → times (y ∷ xs) ≡ 1 + times xs
  times_here y xs is = sum_by-cons (λ (y : ℕ). cond (y == place) 1 0) y xs ∙ rw is refl

  times_other : (y : ℕ) (xs : List ℕ) → (y == place) ≡ false → times (y ∷ xs) ≡ times xs
  times_other y xs is = sum_by-cons (λ (y : ℕ). cond (y == place) 1 0) y xs ∙ ap (λ (b : Bool). cond b 1 0 + times xs) is ∙ omega arith

  -- where one part grows, a sum grows by no more than that as often as it stands there
  pub sum_grows : (xs : List ℕ) → sum (map f xs) ≤ sum (map g xs) + times xs * n
  sum_grows [] = omega arith
  sum_grows (y ∷ xs) =
      let rest = sum_grows xs in
      elim (eqb_tells y place) [
        | inl at ↦
            let now : f y ≤ g y + n = subst (λ (y : ℕ). f y ≤ g y + n) (sym at.1) here in
            let more : times (y ∷ xs) * n ≡ n + times xs * n = ap (λ (t : ℕ). t * n) (times_here y xs at.0) ∙ times_more (times xs) n in
            omega (arith, now, rest, more, sum_cons f y xs, sum_cons g y xs)
        | inr other ↦
            let now = same y other.1 in
            let more : times (y ∷ xs) * n ≡ times xs * n = ap (λ (t : ℕ). t * n) (times_other y xs other.0) in
            omega (arith, now, rest, more, sum_cons f y xs, sum_cons g y xs)
      ]
