-- Every worker has one first pipe, and a strand is on one worker.
use Rattle.std.proofs.Common.{◌≡◌, ℕ, zero, suc, ◌<◌, List, [], ◌∷◌, length, take, Bool, true, false, refl, ◌∙◌, sym, arith, inl, inr}
use Rattle.std.proofs.lemmas.Bool.{cases_Bool}
use Rattle.std.proofs.lemmas.Option.{slice_get_cases}
use Rattle.std.proofs.lemmas.Slice.Eq.{bytes_eq-Decides}
use Rattle.std.specs.List.{Contains, list_any}
use Rattle.std.specs.Prelude.{not}
use Rattle.std.specs.Str.{bytes_eq}
use Rattle.up_model.specs.Inputs.{passes_at, places}
use Rattle.up_model.specs.Plans.{is_head, heads, runs_on}
use Rattle.up_model.specs.WellFormed.{is_first_of_worker}
use Rattle.up_model.specs.declared.pipe.Pipe.{Pipe}
use Rattle.up_model.proofs.Members.{filter_has, kept_passes, passes_within, passing_places_have}
use Rattle.up_plan.proofs.Places.{any_before-true}
use Rattle.up_plan.specs.Laws.{IsOnOneWorker}
use Rattle.up_plan.specs.Plan.{worker_at}

-- where a pipe before a place has a worker, one stands there
found_before : (pipes : List Pipe) (worker : List ℕ) (place : ℕ) → list_any (λ pipe. bytes_eq pipe.worker worker) (take place pipes) ≡ true
    → (earlier : ℕ) × (earlier < place) × (passes_at (runs_on worker) pipes earlier ≡ true)
found_before pipes worker zero any = cc
found_before [] worker (suc place) any = cc
found_before (p ∷ pipes) worker (suc place) any = elim (cases_Bool (bytes_eq p.worker worker)) [
  | inl same ↦ (0, omega arith, same)
  | inr differs ↦
      let earlier = found_before pipes worker place (rw differs at any) in
      (suc earlier.0, omega (arith, earlier.1), earlier.2)
]

not_true : (a : Bool) → not a ≡ true → a ≡ false
not_true true is = cc
not_true false is = refl

not_false : (a : Bool) → not a ≡ false → a ≡ true
not_false true is = refl
not_false false is = cc

module _ (pipes : List Pipe) where
  -- the pipe at a place runs on this worker where the place's worker is this
  runs_on_its_worker : (place : ℕ) (worker : List ℕ) → place < length pipes → worker_at pipes place ≡ worker → passes_at (runs_on worker) pipes place ≡ true
  runs_on_its_worker place worker within is = elim (slice_get_cases pipes place).1 [
    | inl there ↦
        let same : there.0.worker ≡ worker = rw there.2 at is in
        rw there.2 ((bytes_eq-Decides there.0.worker worker).1 same)
    | inr past ↦ absurd (omega (arith, past.0))
  ]

  worker_that_runs : (place : ℕ) (worker : List ℕ) → passes_at (runs_on worker) pipes place ≡ true → worker_at pipes place ≡ worker
  worker_that_runs place worker runs = elim (slice_get_cases pipes place).1 [
    | inl there ↦
        let same : bytes_eq there.0.worker worker ≡ true = rw there.2 at runs in
        rw there.2 ((bytes_eq-Decides there.0.worker worker).0 same)
    | inr past ↦ let fails = rw past.1 at runs in cc
  ]

  -- whether an earlier pipe has a place's worker
  abbrev is_met : ℕ → Bool
  is_met place = list_any (λ earlier. bytes_eq earlier.worker (worker_at pipes place)) (take place pipes)

  first_is_not_met : (place : ℕ) → passes_at is_first_of_worker pipes place ≡ true → is_met place ≡ false
  first_is_not_met place first = elim (slice_get_cases pipes place).1 [
    | inl there ↦ let new = rw there.2 at first in rw there.2 (not_true _ new)
    | inr past ↦ let fails = rw past.1 at first in cc
  ]

  other_is_met : (place : ℕ) → place < length pipes → passes_at is_first_of_worker pipes place ≡ false → is_met place ≡ true
  other_is_met place within other = elim (slice_get_cases pipes place).1 [
    | inl there ↦ let old = rw there.2 at other in rw there.2 (not_false _ old)
    | inr past ↦ absurd (omega (arith, past.0))
  ]

  -- the first pipe that has a place's worker
  first_with : (steps place : ℕ) → place < steps → place < length pipes
      → (first : ℕ) × (passes_at is_first_of_worker pipes first ≡ true) × (worker_at pipes first ≡ worker_at pipes place)
  first_with zero place few within = absurd (omega (arith, few))
  first_with (suc steps) place few within = elim (cases_Bool (passes_at is_first_of_worker pipes place)) [
    | inl first ↦ (place, first, refl)
    | inr other ↦
        let earlier = found_before pipes (worker_at pipes place) place (other_is_met place within other) in
        let same = worker_that_runs earlier.0 (worker_at pipes place) earlier.2 in
        let first = first_with steps earlier.0 (omega (arith, earlier.1, few)) (omega (arith, earlier.1, within)) in
        (first.0, first.1, first.2 ∙ same)
  ]

  -- no later pipe is the first with the same worker
  not_later : (a b : ℕ) → a < b → b < length pipes → passes_at is_first_of_worker pipes b ≡ true → worker_at pipes a ≡ worker_at pipes b → ⊥
  not_later a b before within first same =
      let runs = runs_on_its_worker a (worker_at pipes b) (omega arith) same in
      let met = any_before-true pipes (worker_at pipes b) a b before runs in
      let new = first_is_not_met b first in cc

  one_first : (a b : ℕ) → passes_at is_first_of_worker pipes a ≡ true → passes_at is_first_of_worker pipes b ≡ true → worker_at pipes a ≡ worker_at pipes b → a ≡ b
  one_first a b first_a first_b same =
      let within_a : a < length pipes = passes_within is_first_of_worker pipes a first_a in
      let within_b : b < length pipes = passes_within is_first_of_worker pipes b first_b in
      let not_before : a < b → ⊥ = λ before. not_later a b before within_b first_b same in
      let not_after : b < a → ⊥ = λ before. not_later b a before within_a first_a (sym same) in
      omega arith

  pub strand_on_one_worker : (head : ℕ) → Contains (heads pipes) head → IsOnOneWorker pipes head
  strand_on_one_worker head there =
      let within = passes_within is_head pipes head (kept_passes (passes_at is_head pipes) (places pipes) head there) in
      let first = first_with (length pipes) head within within in
      record {
        first = first.0;
        is_worker = passing_places_have is_first_of_worker pipes first.0 first.1;
        runs = filter_has (passes_at (runs_on (worker_at pipes first.0)) pipes) (heads pipes) head there
            (runs_on_its_worker head (worker_at pipes first.0) within (sym first.2));
        alone = λ other is_worker runs.
            one_first other first.0 (kept_passes (passes_at is_first_of_worker pipes) (places pipes) other is_worker) first.1
            (sym (worker_that_runs head (worker_at pipes other) (kept_passes (passes_at (runs_on (worker_at pipes other)) pipes) (heads pipes) head runs)) ∙ sym first.2);
      }
