-- Which pumps are due where one is given, and where none is.
use Rattle.std.proofs.Common.{◌≡◌, ℕ, ◌-◌, ◌<◌, Bool, true, false, List, [], ◌∷◌, length, Option, Some, None, arith, inl, inr, refl, sym, ap, ◌∙◌}
use Rattle.std.specs.Prelude.{◌⊎◌, ◌≢◌, ◌==◌, ◌&&◌, find}
use Rattle.std.specs.Option.{option_or}
use Rattle.std.proofs.lemmas.Bool.{and_cases, cases_Bool, cases_lt}
use Rattle.std.proofs.lemmas.List.{get_or_default}
use Rattle.std.proofs.lemmas.Bool.Decides.{eqb_tells}
use Rattle.std.proofs.lemmas.Option.{slice_get_cases}
use Rattle.up_pump.proofs.FirstDue.{due_before, due_from, first_due-parts, found_no_later}
use Rattle.up_pump.specs.Circle.{circle, first_due, is_due_at, next_pump, start_of}
use Rattle.up_pump.specs.Pump.{idle}
use Rattle.up_pump.specs.Pumps.{Pumps, blockers_at, pump_at}
use Rattle.up_pump.specs.declared.pump.Pump.{Pump}

found_passes_test : (test : ℕ → Bool) (numbers : List ℕ) (x : ℕ) → find test numbers ≡ Some x → test x ≡ true
found_passes_test test [] x found = absurd (cc)
found_passes_test test (n ∷ numbers) x found = elim (cases_Bool (test n)) [
  | inl passes ↦ let first = rw passes at found in let same : n ≡ x = cc in rw (← same) passes
  | inr fails ↦ found_passes_test test numbers x (rw fails at found)
]

-- a pump that is given is due
pub given_is_due : (loop : Pumps) (i : ℕ) → next_pump loop ≡ Some i → is_due_at loop.pumps i ≡ true
given_is_due loop i given = found_passes_test (is_due_at loop.pumps) (circle (start_of loop.last) (length loop.pumps)) i given

blocked : (count : ℕ) → (count == 0) ≡ false → count ≡ 0 → ⊥
blocked count some none = elim (eqb_tells count 0) [
  | inl same ↦ let no : true ≡ false = sym same.0 ∙ some in cc
  | inr other ↦ other.1 none
]

or_some : (a b : Option ℕ) (x : ℕ) → b ≡ Some x → option_or a b ≡ None → ⊥
or_some None b x some none = let no : Some x ≡ None = sym some ∙ none in cc
or_some (Some y) b x some none = cc

module _ (loop : Pumps) (i : ℕ) where
  abbrev start : ℕ
  start = start_of loop.last

  not_given : next_pump loop ≡ None → i < length loop.pumps → is_due_at loop.pumps i ≡ true → ⊥
  not_given none within due = elim (cases_lt i start) [
    | inl before ↦
        let found = found_no_later (is_due_at loop.pumps) 0 start i due (omega arith) (omega (arith, before)) in
        or_some (due_from loop.pumps start) (due_before loop.pumps start) found.0 found.1
        (sym (first_due-parts loop.pumps start (due_from loop.pumps start) refl) ∙ none)
    | inr behind ↦
        let found = found_no_later (is_due_at loop.pumps) start (length loop.pumps - start) i due behind (omega (arith, within, behind)) in
        let given : first_due loop.pumps start ≡ Some found.0 = first_due-parts loop.pumps start (Some found.0) found.1 in
        let no : Some found.0 ≡ None = sym given ∙ none in
        cc
  ]

  -- where none is given, none is due
  pub none_is_due : next_pump loop ≡ None → i < length loop.pumps → is_due_at loop.pumps i ≡ false
  none_is_due none within = elim (cases_Bool (is_due_at loop.pumps i)) [
    | inl due ↦ absurd (not_given none within due)
    | inr rests ↦ rests
  ]

  -- what isn't due isn't ready, or is held back
  pub rests_or_is_held : i < length loop.pumps → is_due_at loop.pumps i ≡ false
      → ((pump_at loop i).ready ≡ false) ⊎ (blockers_at loop i ≢ 0)
  rests_or_is_held within rests = elim (slice_get_cases loop.pumps i).1 [
    | inl there ↦
        let here : pump_at loop i ≡ there.0 = get_or_default loop.pumps i idle there.0 within ∙ there.3 in
        let fails : (there.0.ready && (there.0.blockers == 0)) ≡ false = rw there.2 at rests in
        elim (and_cases there.0.ready (there.0.blockers == 0) fails) [
          | inl unready ↦ inl (ap (λ (pump : Pump). pump.ready) here ∙ unready)
          | inr some ↦ inr (λ none. blocked there.0.blockers some (sym (ap (λ (pump : Pump). pump.blockers) here) ∙ none))
        ]
    | inr past ↦ absurd (omega (arith, within, past.0))
  ]
