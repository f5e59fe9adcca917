-- What stands in a list of places that pass a test.
use Rattle.std.proofs.Common.{◌≡◌, ℕ, zero, suc, ◌+◌, ◌<◌, ◌≤◌, ◌==◌, List, [], ◌∷◌, length, get_or, Some, slice_get, Bool, true, false, refl, ap, ◌∙◌, sym, arith, cond, inl, inr, count_by, eq-eqb}
use Rattle.std.proofs.lemmas.Bool.{cases_Bool, cases_lt, ne_eqb}
use Rattle.std.proofs.lemmas.List.Elements.{All-contains, All-contains_itself, All-filter, filter_passes}
use Rattle.std.proofs.lemmas.List.FromFn.{length-range_with_len, get_or-range_with_len}
use Rattle.std.proofs.lemmas.List.Sums.{length-filter}
use Rattle.std.proofs.lemmas.Option.{slice_get_cases, slice_get_within}
use Rattle.std.specs.List.{Contains, filter, range_with_len}
use Rattle.up_model.specs.Inputs.{PipeTest, passes_at, places}
use Rattle.up_model.specs.declared.pipe.Pipe.{Pipe}

module _ {X : Type 0} (test : X → Bool) where
  later : (x y : X) (xs : List X) → Contains xs x → Contains (y ∷ xs) x
  later x y xs there = (suc there.0, omega (arith, there.1), there.2)

  kept_later : (passes : Bool) (x y : X) (xs : List X) → Contains xs x → Contains (cond passes (y ∷ xs) xs) x
  kept_later true x y xs there = later x y xs there
  kept_later false x y xs there = there

  kept_at : (xs : List X) (k : ℕ) (x : X) → k < length xs → get_or xs k x ≡ x → test x ≡ true → Contains (filter test xs) x
  kept_at [] k x within is passes = absurd (omega (arith, within))
  kept_at (y ∷ xs) zero x within is passes =
      let here : test y ≡ true = ap test is ∙ passes in rw here (0, omega arith, is)
  kept_at (y ∷ xs) (suc k) x within is passes = kept_later (test y) x y (filter test xs) (kept_at xs k x (omega (arith, within)) is passes)

  -- what passes is kept
  pub filter_has : (xs : List X) (x : X) → Contains xs x → test x ≡ true → Contains (filter test xs) x
  filter_has xs x there passes = kept_at xs there.0 x there.1 there.2 passes

  -- what is kept passes
  pub kept_passes : (xs : List X) (x : X) → Contains (filter test xs) x → test x ≡ true
  kept_passes xs x there = All-contains (λ x. test x ≡ true) (filter test xs) x (filter_passes test xs) there

  -- and was there
  pub kept_was_there : (xs : List X) (x : X) → Contains (filter test xs) x → Contains xs x
  kept_was_there xs x there =
      All-contains (Contains xs) (filter test xs) x (All-filter test (Contains xs) xs (All-contains_itself xs)) there

pub places_have : (pipes : List Pipe) (place : ℕ) → place < length pipes → Contains (places pipes) place
places_have pipes place within = (
  place,
  omega (arith, within, length-range_with_len 0 (length pipes)),
  get_or-range_with_len 0 (length pipes) place place within ∙ omega arith,
)

-- where a test passes a pipe stands
pub passing_pipe : (test : PipeTest) (pipes : List Pipe) (place : ℕ) → passes_at test pipes place ≡ true
    → (pipe : Pipe) × (slice_get pipes place ≡ Some pipe) × (test pipes place pipe ≡ true)
passing_pipe test pipes place passes = elim (slice_get_cases pipes place).1 [
  | inl there ↦ (there.0, there.2, rw there.2 at passes)
  | inr past ↦ let fails = rw past.1 at passes in cc
]

pub passes_within : (test : PipeTest) (pipes : List Pipe) (place : ℕ) → passes_at test pipes place ≡ true → place < length pipes
passes_within test pipes place passes =
    let there = passing_pipe test pipes place passes in slice_get_within pipes place there.0 there.1

-- the places that pass are those in the list
pub passing_places_have : (test : PipeTest) (pipes : List Pipe) (place : ℕ) → passes_at test pipes place ≡ true
    → Contains (filter (passes_at test pipes) (places pipes)) place
passing_places_have test pipes place passes =
    filter_has (passes_at test pipes) (places pipes) place (places_have pipes place (passes_within test pipes place passes)) passes

module _ (test : ℕ → Bool) (place : ℕ) where
  abbrev is_place : ℕ → Bool
  is_place other = other == place

  none_above : (low count : ℕ) → place < low → length (filter is_place (filter test (range_with_len low count))) ≡ 0
  none_above low zero above = refl
  none_above low (suc count) above =
      let rest = none_above (low + 1) count (omega (arith, above)) in
      elim (cases_Bool (test low)) [
        | inl kept ↦ rw (kept, ne_eqb low place (omega (arith, above))) rest
        | inr left ↦ rw left rest
      ]

  one_there : (low count : ℕ) → low ≤ place → place < low + count → test place ≡ true
      → length (filter is_place (filter test (range_with_len low count))) ≡ 1
  one_there low zero from below passes = absurd (omega (arith, from, below))
  one_there low (suc count) from below passes = elim (cases_lt low place) [
    | inl before ↦
        let rest = one_there (low + 1) count (omega (arith, before)) (omega (arith, below)) passes in
        elim (cases_Bool (test low)) [
          | inl kept ↦ rw (kept, ne_eqb low place (omega (arith, before))) rest
          | inr left ↦ rw left rest
        ]
    | inr after ↦
        let here : low ≡ place = omega (arith, from, after) in
        let kept : test low ≡ true = ap test here ∙ passes in
        rw (kept, eq-eqb low place here) (ap suc (none_above (low + 1) count (omega (arith, here))))
  ]

  -- of numbers in a row each that passes is kept once
  pub kept_once : (count : ℕ) → place < count → test place ≡ true
      → count_by (λ other. other == place) (filter test (range_with_len 0 count)) ≡ 1
  kept_once count within passes =
      sym (length-filter is_place (filter test (range_with_len 0 count))) ∙ one_there 0 count (omega arith) (omega (arith, within)) passes
