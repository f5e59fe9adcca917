-- The pipes before a place, and the way along inputs.
use Rattle.std.proofs.Common.{◌≡◌, ℕ, zero, suc, ◌+◌, ◌<◌, Bool, true, false, List, [], ◌∷◌, length, take, slice_get, Some, None, refl, ap, ◌∙◌, arith, add-one, inl, inr}
use Rattle.std.proofs.lemmas.Bool.{cases_Bool}
use Rattle.std.specs.List.{range_with_len, list_any, filter}
use Rattle.std.specs.Option.{option_map_or}
use Rattle.std.proofs.lemmas.List.FromFn.{length-range_with_len}
use Rattle.std.specs.Prelude.{position}
use Rattle.std.specs.List.{position_or_len}
use Rattle.up_model.specs.Inputs.{PipeTest, reached_within}
use Rattle.up_model.specs.declared.pipe.Pipe.{Pipe}

-- what stands at the place passes
abbrev pub passes : {X : Type 0} → (X → Bool) → List X → ℕ → Bool
passes test items place = option_map_or test (slice_get items place) false

module _ {X : Type 0} (test : X → Bool) where
  next_place : (x : X) (items : List X) (place : ℕ) → passes test (x ∷ items) (place + 1) ≡ passes test items place
  next_place x items place = rw add-one refl

  -- a row of places of a list, without place 0, is one of its rest
  any_later : (x : X) (items : List X) (low count : ℕ)
      → list_any (passes test (x ∷ items)) (range_with_len (low + 1) count) ≡ list_any (passes test items) (range_with_len low count)
  any_later x items low zero = refl
  any_later x items low (suc count) = rw (next_place x items low, any_later x items (low + 1) count) refl

  none : (low count : ℕ) → list_any (passes test []) (range_with_len low count) ≡ false
  none low zero = refl
  none low (suc count) = none (low + 1) count

  -- one of the first so many passes
  pub any_of_first : (items : List X) (count : ℕ)
      → list_any (passes test items) (range_with_len 0 count) ≡ list_any test (take count items)
  any_of_first items zero = refl
  any_of_first [] (suc count) = none 1 count
  any_of_first (x ∷ items) (suc count) = rw (any_later x items 0 count, any_of_first items count) refl

  count_later : (x : X) (items : List X) (low count : ℕ)
      → length (filter (passes test (x ∷ items)) (range_with_len (low + 1) count)) ≡ length (filter (passes test items) (range_with_len low count))
  count_later x items low zero = refl
  count_later x items low (suc count) =
      let later = count_later x items (low + 1) count in
      elim (cases_Bool (passes test items low)) [
        | inl passing ↦ rw (next_place x items low, passing) (ap suc later)
        | inr failing ↦ rw (next_place x items low, failing) later
      ]

  -- how many pass
  pub count_of_all : (items : List X)
      → length (filter (passes test items) (range_with_len 0 (length items))) ≡ length (filter test items)
  count_of_all [] = refl
  count_of_all (x ∷ items) =
      let later = count_later x items 0 (length items) ∙ count_of_all items in
      elim (cases_Bool (test x)) [
        | inl passing ↦ rw passing (ap suc later)
        | inr failing ↦ rw failing later
      ]

  first_later : (x : X) (items : List X) (low count : ℕ)
      → position_or_len (passes test (x ∷ items)) (range_with_len (low + 1) count) ≡ position_or_len (passes test items) (range_with_len low count)
  first_later x items low zero = refl
  first_later x items low (suc count) = rw (next_place x items low, first_later x items (low + 1) count) refl

  first_of_all : (items : List X) → position_or_len (passes test items) (range_with_len 0 (length items)) ≡ position_or_len test items
  first_of_all [] = refl
  first_of_all (x ∷ items) = rw (first_later x items 0 (length items), first_of_all items) refl

  -- the first that passes
  pub position_of_all : (items : List X) → position (passes test items) (range_with_len 0 (length items)) ≡ position test items
  position_of_all items = rw (first_of_all items, length-range_with_len 0 (length items)) refl

module _ (test : PipeTest) (pipes : List Pipe) (place : ℕ) where
  pub reached-nowhere : (steps : ℕ) → slice_get pipes place ≡ None → reached_within steps test pipes place ≡ None
  reached-nowhere zero gone = refl
  reached-nowhere (suc steps) gone = rw gone refl

  module _ (pipe : Pipe) (there : slice_get pipes place ≡ Some pipe) where
    pub reached-here : (steps : ℕ) → test pipes place pipe ≡ true → 0 < steps → reached_within steps test pipes place ≡ Some place
    reached-here zero passing some = absurd (omega (arith, some))
    reached-here (suc steps) passing some = rw (there, passing) refl

    pub reached-end : (steps : ℕ) → test pipes place pipe ≡ false → pipe.input ≡ None → reached_within steps test pipes place ≡ None
    reached-end zero failing end = refl
    reached-end (suc steps) failing end = rw (there, failing, end) refl

    pub reached-on : (steps input : ℕ) → test pipes place pipe ≡ false → pipe.input ≡ Some input
        → reached_within (suc steps) test pipes place ≡ reached_within steps test pipes input
    reached-on steps input failing on = rw (there, failing, on) refl
