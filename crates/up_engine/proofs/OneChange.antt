-- Lists that are made place by place, where one place changed.
use Rattle.std.proofs.Common.{◌≡◌, ℕ, zero, suc, ◌+◌, ◌-◌, ◌<◌, ◌≤◌, List, [], ◌∷◌, ◌++◌, length, map, get_or, set, cond, count_by, Bool, false, Some, slice_get, refl, sym, ap, ◌∙◌, arith, inl, inr}
use Rattle.std.proofs.lemmas.Bool.{cases_eq}
use Rattle.std.proofs.lemmas.List.{get_or-append-add, get_or-map, get_or-set_same, get_or-set_other, get_or_append_left, length-append, length-map, length-set, same_lists, set-append_left, set-append_right}
use Rattle.std.proofs.lemmas.List.Sums.{sum_by-cons}
use Rattle.std.proofs.lemmas.Option.{slice_get-get_or}
use Rattle.std.specs.List.{range_with_len}

module _ {X : Type 0} (f g : ℕ → X) (places : List ℕ) where
  -- two that agree at each place
  pub map_agree : ((k : ℕ) → k < length places → g (get_or places k 0) ≡ f (get_or places k 0)) → map g places ≡ map f places
  map_agree same =
      same_lists (map g places) (map f places) (length-map places g ∙ sym (length-map places f)) (λ k d within.
      let inside : k < length places = omega (arith, within, length-map places g) in
      get_or-map g places k 0 d inside ∙ same k inside ∙ sym (get_or-map f places k 0 d inside))

  -- two that agree everywhere but at one
  pub map_one : (i : ℕ) → i < length places → ((k : ℕ) → k < length places → (k ≡ i → ⊥) → g (get_or places k 0) ≡ f (get_or places k 0))
      → map g places ≡ set (map f places) i (g (get_or places i 0))
  map_one i here same =
      same_lists (map g places) (set (map f places) i (g (get_or places i 0)))
      (length-map places g ∙ sym (length-map places f) ∙ sym (length-set (map f places) i (g (get_or places i 0)))) (λ k d within.
      let inside : k < length places = omega (arith, within, length-map places g) in
      get_or-map g places k 0 d inside ∙ elim (cases_eq k i) [
        | inl is ↦
            ap (λ (n : ℕ). g (get_or places n 0)) is ∙ sym (get_or-set_same (map f places) i (g (get_or places i 0)) d (omega (arith, here, length-map places f)))
            ∙ ap (λ (n : ℕ). get_or (set (map f places) i (g (get_or places i 0))) n d) (sym is)
        | inr other ↦ same k inside other ∙ sym (get_or-map f places k 0 d inside) ∙ sym (get_or-set_other (map f places) i k (g (get_or places i 0)) d other)
      ])

-- what stands in the middle of three lists, and what is put there
module _ {X : Type 0} (front middle back : List X) (i : ℕ) (within : i < length middle) where
  pub get_inside : (d : X) → slice_get (front ++ (middle ++ back)) (length front + i) ≡ Some (get_or middle i d)
  get_inside d =
      let long = length-append front (middle ++ back) in
      let rest = length-append middle back in
      slice_get-get_or (front ++ (middle ++ back)) (length front + i) d (omega (arith, within, long, rest))
      ∙ ap Some (get_or-append-add front (middle ++ back) i d ∙ get_or_append_left middle back d i within)

  pub set_inside : (x : X) → set (front ++ (middle ++ back)) (length front + i) x ≡ front ++ (set middle i x ++ back)
  set_inside x =
      let at : (length front + i) - length front ≡ i = omega arith in
      set-append_right front (middle ++ back) (length front) (length front + i) x refl (omega arith)
      ∙ ap (λ (n : ℕ). front ++ set (middle ++ back) n x) at ∙ ap (λ l. front ++ l) (set-append_left middle back i x within)

-- a test as a count
abbrev one_if : Bool → ℕ
one_if passes = cond passes 1 0

count_cons : (test : ℕ → Bool) (x : ℕ) (xs : List ℕ) → count_by test (x ∷ xs) ≡ one_if (test x) + count_by test xs
count_cons test x xs = sum_by-cons (λ x. one_if (test x)) x xs

pub count_none : (test : ℕ → Bool) (xs : List ℕ) → ((x : ℕ) → test x ≡ false) → count_by test xs ≡ 0
count_none test [] none = refl
count_none test (x ∷ xs) none = count_cons test x xs ∙ ap (λ b. one_if b + count_by test xs) (none x) ∙ ap (λ n. 0 + n) (count_none test xs none)

pub count_agree : (f g : ℕ → Bool) (xs : List ℕ) → ((x : ℕ) → g x ≡ f x) → count_by g xs ≡ count_by f xs
count_agree f g [] same = refl
count_agree f g (x ∷ xs) same =
    count_cons g x xs ∙ ap (λ b. one_if b + count_by g xs) (same x) ∙ ap (λ n. one_if (f x) + n) (count_agree f g xs same) ∙ sym (count_cons f x xs)

module _ (f g : ℕ → Bool) (place : ℕ) (same : (other : ℕ) → (other ≡ place → ⊥) → g other ≡ f other) where
  count_above : (low count : ℕ) → place < low → count_by g (range_with_len low count) ≡ count_by f (range_with_len low count)
  count_above low zero above = refl
  count_above low (suc count) above =
      count_cons g low (range_with_len (low + 1) count)
      ∙ ap (λ b. one_if b + count_by g (range_with_len (low + 1) count)) (same low (λ is. omega (arith, is, above)))
      ∙ ap (λ n. one_if (f low) + n) (count_above (low + 1) count (omega (arith, above)))
      ∙ sym (count_cons f low (range_with_len (low + 1) count))

  count_from : (low count : ℕ) → low ≤ place → place < low + count → f place ≡ false
      → count_by g (range_with_len low count) ≡ count_by f (range_with_len low count) + one_if (g place)
  count_from low zero from below none = absurd (omega (arith, from, below))
  count_from low (suc count) from below none =
      let rest_g = count_by g (range_with_len (low + 1) count) in
      let rest_f = count_by f (range_with_len (low + 1) count) in
      let all_g = count_cons g low (range_with_len (low + 1) count) in
      let all_f = count_cons f low (range_with_len (low + 1) count) in
      elim (cases_eq low place) [
        | inl is ↦
            let rest : rest_g ≡ rest_f = count_above (low + 1) count (omega (arith, is)) in
            let here_g : one_if (g low) ≡ one_if (g place) = ap (λ (n : ℕ). one_if (g n)) is in
            let here_f : one_if (f low) ≡ 0 = ap (λ (n : ℕ). one_if (f n)) is ∙ ap one_if none in
            omega (arith, all_g, all_f, rest, here_g, here_f)
        | inr other ↦
            let rest : rest_g ≡ rest_f + one_if (g place) = count_from (low + 1) count (omega (arith, from, other)) (omega (arith, below)) none in
            let here : one_if (g low) ≡ one_if (f low) = ap one_if (same low other) in
            omega (arith, all_g, all_f, rest, here)
      ]

  -- one more, where one place begins to pass
  pub count_one : (count : ℕ) → place < count → f place ≡ false
      → count_by g (range_with_len 0 count) ≡ count_by f (range_with_len 0 count) + one_if (g place)
  count_one count within none = count_from 0 count (omega arith) (omega (arith, within)) none
