-- What is found first along the circle.
use Rattle.std.proofs.Common.{◌≡◌, ℕ, zero, suc, ◌+◌, ◌-◌, ◌<◌, ◌≤◌, ◌≢◌, Bool, true, List, [], ◌∷◌, length, Option, Some, arith, inl, inr, refl, ap, ◌∙◌}
use Rattle.std.specs.Prelude.{find}
use Rattle.std.specs.List.{range_with_len}
use Rattle.std.specs.Option.{option_or}
use Rattle.std.proofs.lemmas.Bool.{cases_Bool}
use Rattle.std.proofs.lemmas.List.Folds.{find-append}
use Rattle.std.proofs.lemmas.Option.{slice_get_cases}
use Rattle.up_pump.specs.Circle.{circle, is_due_at, first_due}
use Rattle.up_pump.specs.declared.pump.Pump.{Pump}

-- what is found passes
find-passes : (test : ℕ → Bool) (numbers : List ℕ) (x : ℕ)
    → find test numbers ≡ Some x → test x ≡ true
find-passes test [] x found = cc
find-passes test (n ∷ numbers) x found =
    elim (cases_Bool (test n)) [
      | inl passes ↦ let first = rw passes at found in let same : n ≡ x = cc in rw (← same) passes
      | inr fails ↦ find-passes test numbers x (rw fails at found)
    ]

-- a pump that is due is there
pub is_due_at-within : (pumps : List Pump) (number : ℕ)
    → is_due_at pumps number ≡ true → number < length pumps
is_due_at-within pumps number due =
    elim (slice_get_cases pumps number).1 [
      | inl there ↦ there.1
      | inr past ↦ absurd (let none = rw past.1 at due in cc)
    ]

-- the pump that is found is there
pub first_due_within : (pumps : List Pump) (start number : ℕ)
    → first_due pumps start ≡ Some number → number < length pumps
first_due_within pumps start number found =
    let due = find-passes (is_due_at pumps) (circle start (length pumps)) number found in
    is_due_at-within pumps number due

-- what is found in a row of numbers is one of them
pub found_in_row : (test : ℕ → Bool) (low count x : ℕ)
    → find test (range_with_len low count) ≡ Some x → (low ≤ x) × (x < low + count)
found_in_row test low zero x found = cc
found_in_row test low (suc count) x found =
    elim (cases_Bool (test low)) [
      | inl passes ↦
          let first = rw passes at found in
          let same : low ≡ x = cc in
          (omega arith, omega arith)
      | inr fails ↦
          let later = found_in_row test (low + 1) count x (rw fails at found) in
          (omega arith, omega arith)
    ]

-- where a number of the row passes, one is found that comes no later
pub found_no_later : (test : ℕ → Bool) (low count i : ℕ) → test i ≡ true → low ≤ i → i < low + count
    → (x : ℕ) × (find test (range_with_len low count) ≡ Some x) × (x ≤ i)
found_no_later test low zero i passes from below = absurd (omega arith)
found_no_later test low (suc count) i passes from below =
    elim (cases_Bool (test low)) [
      | inl first ↦ (low, rw first refl, from)
      | inr fails ↦
          let apart : low ≢ i = λ same. let here = rw same at fails in cc in
          let later = found_no_later test (low + 1) count i passes (omega arith) (omega arith) in
          (later.0, rw fails later.1, later.2)
    ]

-- the first pump that is due from the start to the end, and the first before the start
abbrev pub due_from : List Pump → ℕ → Option ℕ
due_from pumps start = find (is_due_at pumps) (range_with_len start (length pumps - start))

abbrev pub due_before : List Pump → ℕ → Option ℕ
due_before pumps start = find (is_due_at pumps) (range_with_len 0 start)

pub first_due-parts : (pumps : List Pump) (start : ℕ) (first : Option ℕ)
    → due_from pumps start ≡ first
    → first_due pumps start ≡ option_or first (due_before pumps start)
first_due-parts pumps start first found =
    let upward = range_with_len start (length pumps - start) in
    find-append (is_due_at pumps) upward (range_with_len 0 start)
    ∙ ap (λ (part : Option ℕ). option_or part (due_before pumps start)) found
