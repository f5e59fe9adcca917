-- A pump that stays due is given in its turn: each call gives it, or one before it in the circle.
use Rattle.std.proofs.Common.{◌≡◌, ◌⊎◌, ℕ, zero, suc, ◌+◌, ◌-◌, ◌<◌, ◌≤◌, true, List, length, Option, Some, None, arith, inl, inr, refl, ap, ◌∙◌}
use Rattle.std.specs.Option.{option_or}
use Rattle.std.proofs.lemmas.Bool.{cases_lt}
use Rattle.up_pump.specs.Circle.{is_due_at, first_due, start_of, next_pump}
use Rattle.up_pump.specs.Pumps.{Pumps}
use Rattle.up_pump.specs.Turns.{AreCalls, StaysDue, IsGiven}
use Rattle.up_pump.specs.declared.pump.Pump.{Pump}
use Rattle.up_pump.proofs.FirstDue.{due_from, first_due-parts, found_in_row, found_no_later, is_due_at-within}

-- the number is among the first so many of the circle
abbrev IsWithin : ℕ → ℕ → ℕ → ℕ → Type 0
IsWithin count start number bound =
    ((start ≤ number) × (number < start + bound))
    ⊎ ((number < start) × (count - start + number < bound))

-- what was given is the number, or the number is among the first so many of the circle after it
abbrev Nears : ℕ → ℕ → ℕ → ℕ → Type 0
Nears count given number bound = (given ≡ number) ⊎ IsWithin count (given + 1) number bound

nears-upward : (count given number bound : ℕ)
    → given ≤ number → number ≤ given + bound → Nears count given number bound
nears-upward count given number bound low high =
    elim (cases_lt given number) [
      | inl before ↦ inr (inl (omega arith, omega arith))
      | inr same ↦ inl (omega arith)
    ]

-- a pump is given, and the number is it or has come nearer
abbrev NextNears : List Pump → ℕ → ℕ → ℕ → Type 0
NextNears pumps start number bound =
    (given : ℕ) × (first_due pumps start ≡ Some given) × Nears (length pumps) given number bound

nears-round : (pumps : List Pump) (start number bound : ℕ) (first : Option ℕ)
    → is_due_at pumps number ≡ true → number < start → length pumps - start + number ≤ bound
    → due_from pumps start ≡ first → NextNears pumps start number bound
nears-round pumps start number bound (Some given) due below near found =
    let among = found_in_row (is_due_at pumps) start (length pumps - start) given found in
    (given, first_due-parts pumps start _ found, inr (inr (omega arith, omega arith)))
nears-round pumps start number bound None due below near found =
    let second = found_no_later (is_due_at pumps) 0 start number due (omega arith) (omega arith) in
    let given = first_due-parts pumps start None found ∙ second.1 in
    (second.0, given, nears-upward _ _ _ _ second.2 (omega arith))

next_nears : (pumps : List Pump) (start number bound : ℕ) → is_due_at pumps number ≡ true
    → IsWithin (length pumps) start number (suc bound) → NextNears pumps start number bound
next_nears pumps start number bound due (inl upward) =
    let within = is_due_at-within pumps number due in
    let row = length pumps - start in
    let first = found_no_later (is_due_at pumps) start row number due upward.0 (omega arith) in
    let among = found_in_row (is_due_at pumps) start row first.0 first.1 in
    (first.0, first_due-parts pumps start _ first.1, nears-upward _ _ _ _ first.2 (omega arith))
next_nears pumps start number bound due (inr round) =
    nears-round pumps start number bound _ due round.0 (omega arith) refl

-- a pump among the first so many of the circle is given within so many calls
given_within : (count number : ℕ) (loops : ℕ → Pumps) → AreCalls count loops → StaysDue loops number
    → (bound call : ℕ) → IsWithin count (start_of (loops call).last) number bound
    → (turn : ℕ) × (turn < call + bound) × (next_pump (loops turn) ≡ Some number)
given_within count number loops calls due zero call (inl upward) = absurd (omega arith)
given_within count number loops calls due zero call (inr round) = absurd (omega arith)
given_within count number loops calls due (suc bound) call ahead =
    let same = calls.same_count call in
    let start = start_of (loops call).last in
    let next = next_nears (loops call).pumps start number bound (due call) (rw same ahead) in
    let last = calls.remembered call ∙ ap (λ given. option_or given (loops call).last) next.1 in
    let nears : Nears count next.0 number bound = rw same at next.2 in
    elim nears [
      | inl is ↦ (call, omega arith, next.1 ∙ ap Some is)
      | inr near ↦
          let later = given_within count number loops calls due bound (call + 1) (rw last near) in
          (later.0, omega arith, later.2)
    ]

-- all pumps are among the first of the circle, as many as there are
pub given_in_turn : (count number : ℕ) (loops : ℕ → Pumps)
    → AreCalls count loops → StaysDue loops number → IsGiven count loops number
given_in_turn count number loops calls due =
    let there = is_due_at-within (loops 0).pumps number (due 0) in
    let within : number < count = rw calls.same_count at there in
    let start = start_of (loops 0).last in
    let ahead : IsWithin count start number count =
    elim (cases_lt number start) [
      | inl below ↦ inr (below, omega arith)
      | inr upward ↦ inl (upward, omega arith)
    ] in
    let turn = given_within count number loops calls due count 0 ahead in
    (turn.0, omega arith, turn.2)
