-- Along inputs no more steps are needed than there are pipes.
use Rattle.std.proofs.Common.{◌≡◌, ℕ, zero, suc, ◌+◌, ◌-◌, ◌<◌, ◌≤◌, ◌⊎◌, inl, inr, Bool, true, false, cond, eqb, List, [], ◌∷◌, Option, Some, None, slice_get, refl, sym, ap, ◌∙◌, length, subst, arith}
use Rattle.std.specs.Prelude.{option_and_then}
use Rattle.std.specs.List.{AllByRecursion, IsDistinct, list_any}
use Rattle.std.proofs.lemmas.Bool.{eqb-true, cases_Bool, or_cases}
use Rattle.std.proofs.lemmas.Map.Steps.{length-le_from_distinct_below}
use Rattle.std.proofs.lemmas.Option.{slice_get_within}
use Rattle.up_model.specs.Inputs.{PipeTest, reached_within, reached}
use Rattle.up_model.specs.declared.pipe.Pipe.{Pipe}

module _ (test : PipeTest) (pipes : List Pipe) where
  -- what is reached from a place in one step more: the place itself, or what is reached from its input
  pub record Steps (steps place found : ℕ) : Type 0 where
    pub pipe : Pipe
    pub at : slice_get pipes place ≡ Some pipe
    pub way : ((test pipes place pipe ≡ true) × (place ≡ found))
        ⊎ ((test pipes place pipe ≡ false) × (input : ℕ) × (pipe.input ≡ Some input) × (reached_within steps test pipes input ≡ Some found))

  from_input : (steps found : ℕ) (input : Option ℕ) → option_and_then (reached_within steps test pipes) input ≡ Some found
      → (at : ℕ) × (input ≡ Some at) × (reached_within steps test pipes at ≡ Some found)
  from_input steps found None is = absurd (cc)
  from_input steps found (Some at) is = (at, refl, is)

  by_test : (steps place found : ℕ) (pipe : Pipe) (passes : Bool) → slice_get pipes place ≡ Some pipe → test pipes place pipe ≡ passes
      → cond passes (Some place) (option_and_then (reached_within steps test pipes) pipe.input) ≡ Some found → Steps steps place found
  by_test steps place found pipe true at passes is = record { pipe = pipe; at = at; way = inl (passes, some_same place found is) }
    where
      some_same : (a b : ℕ) → Some a ≡ Some b → a ≡ b
      some_same a b is = cc
  by_test steps place found pipe false at fails is =
      let further = from_input steps found pipe.input is in
      record { pipe = pipe; at = at; way = inr (fails, further.0, further.1, further.2) }

  at_step : (steps place found : ℕ) (pipe : Option Pipe) → slice_get pipes place ≡ pipe
      → option_and_then (λ (p : Pipe). cond (test pipes place p) (Some place) (option_and_then (reached_within steps test pipes) p.input)) pipe ≡ Some found
      → Steps steps place found
  at_step steps place found None at is = absurd (cc)
  at_step steps place found (Some pipe) at is = by_test steps place found pipe (test pipes place pipe) at refl is

  pub step_of : (steps place found : ℕ) → reached_within (suc steps) test pipes place ≡ Some found → Steps steps place found
  step_of steps place found is = at_step steps place found (slice_get pipes place) refl is

  -- what is reached stands in the graph and passes
  pub found_passes : (steps place found : ℕ) → reached_within steps test pipes place ≡ Some found
      → (pipe : Pipe) × (slice_get pipes found ≡ Some pipe) × (test pipes found pipe ≡ true)
  found_passes zero place found is = absurd (cc)
  found_passes (suc steps) place found is =
      let step = step_of steps place found is in
      elim step.way [
        | inl here ↦ subst (λ (f : ℕ). (pipe : Pipe) × (slice_get pipes f ≡ Some pipe) × (test pipes f pipe ≡ true)) here.1 (step.pipe, step.at, here.0)
        | inr further ↦ found_passes steps further.1 found further.3
      ]

  -- one step more reaches the same
  pub step_more : (steps place found : ℕ) → reached_within steps test pipes place ≡ Some found → reached_within (suc steps) test pipes place ≡ Some found
  step_more zero place found is = absurd (cc)
  step_more (suc steps) place found is =
      let step = step_of steps place found is in
      elim step.way [
        | inl here ↦ rw (step.at, here.0) (ap Some here.1)
        | inr further ↦ rw (step.at, further.0, further.2) (step_more steps further.1 found further.3)
      ]

  pub steps_more : (more steps place found : ℕ) → reached_within steps test pipes place ≡ Some found → reached_within (more + steps) test pipes place ≡ Some found
  steps_more zero steps place found is =
      let same : 0 + steps ≡ steps = omega arith in
      rw same is
  steps_more (suc more) steps place found is =
      let next : suc more + steps ≡ suc (more + steps) = omega arith in
      rw next (step_more (more + steps) place found (steps_more more steps place found is))

  -- the fewest steps that reach what is reached
  pub record Fewest (steps place found : ℕ) : Type 0 where
    pub fewest : ℕ
    pub few : fewest ≤ steps
    pub is : reached_within fewest test pipes place ≡ Some found
    pub none : (k : ℕ) → k < fewest → reached_within k test pipes place ≡ None

  not_before : (steps k place : ℕ) → k ≤ steps → reached_within steps test pipes place ≡ None → reached_within k test pipes place ≡ None
  not_before steps k place few none = by_answer (reached_within k test pipes place) refl
    where
      by_answer : (answer : Option ℕ) → reached_within k test pipes place ≡ answer → answer ≡ None
      by_answer None is = refl
      by_answer (Some found) is =
          let count : (steps - k) + k ≡ steps = omega (arith, few) in
          let later : reached_within steps test pipes place ≡ Some found = subst (λ (n : ℕ). reached_within n test pipes place ≡ Some found) count (steps_more (steps - k) k place found is) in
          absurd (cc)

  fewest_of : (steps place found : ℕ) → reached_within steps test pipes place ≡ Some found → Fewest steps place found
  fewest_of zero place found is = absurd (cc)
  fewest_of (suc steps) place found is = by_answer (reached_within steps test pipes place) refl (fewest_of steps place found)
    where
      by_answer : (answer : Option ℕ) → reached_within steps test pipes place ≡ answer
          → (reached_within steps test pipes place ≡ Some found → Fewest steps place found) → Fewest (suc steps) place found
      by_answer None none before = record {
        fewest = suc steps;
        few = omega arith;
        is = is;
        none = λ k before. not_before steps k place (omega (arith, before)) none;
      }
      by_answer (Some other) some before =
          let same : Some other ≡ Some found = sym (step_more steps place other some) ∙ is in
          let less = before (some ∙ same) in
          record { fewest = less.fewest; few = omega (arith, less.few); is = less.is; none = less.none }

  -- the places on the way, none twice, each of which reaches it in fewer steps
  pub record Way (steps found : ℕ) : Type 0 where
    pub places : List ℕ
    pub count : length places ≡ steps
    pub apart : IsDistinct eqb places
    pub each : AllByRecursion (λ place. (place < length pipes) × (reached_within steps test pipes place ≡ Some found)) places

  later : (steps found : ℕ) (places : List ℕ) → AllByRecursion (λ place. (place < length pipes) × (reached_within steps test pipes place ≡ Some found)) places
      → AllByRecursion (λ place. (place < length pipes) × (reached_within (suc steps) test pipes place ≡ Some found)) places
  later steps found [] each = tt
  later steps found (place ∷ places) each = ((each.0.0, step_more steps place found each.0.1), later steps found places each.1)

  not_among : (steps found here : ℕ) (places : List ℕ) → reached_within steps test pipes here ≡ None
      → AllByRecursion (λ place. (place < length pipes) × (reached_within steps test pipes place ≡ Some found)) places
      → AllByRecursion (λ place. eqb here place ≡ false) places
  not_among steps found here [] none each = tt
  not_among steps found here (place ∷ places) none each = (apart (cases_Bool (eqb here place)), not_among steps found here places none each.1)
    where
      apart : (eqb here place ≡ true) ⊎ (eqb here place ≡ false) → eqb here place ≡ false
      apart (inl same) =
          let is : reached_within steps test pipes here ≡ Some found = subst (λ (p : ℕ). reached_within steps test pipes p ≡ Some found) (sym (eqb-true here place same)) each.0.1 in
          absurd (cc)
      apart (inr other) = other

  -- a place that passes itself is reached in one step
  alone : (steps place found : ℕ) → reached_within (suc steps) test pipes place ≡ Some found → (pipe : Pipe) → slice_get pipes place ≡ Some pipe
      → test pipes place pipe ≡ true → ((k : ℕ) → k < suc steps → reached_within k test pipes place ≡ None) → place < length pipes → Way (suc steps) found
  unfolding IsDistinct
  alone zero place found is pipe at passes none here = record { places = place ∷ []; count = refl; apart = (tt, tt); each = ((here, is), tt) }
  alone (suc more) place found is pipe at passes none here =
      let one : Some place ≡ None = rw (at, passes) at (none 1 (omega arith)) in
      absurd (cc)

  way_of : (steps place found : ℕ) → reached_within steps test pipes place ≡ Some found
      → ((k : ℕ) → k < steps → reached_within k test pipes place ≡ None) → Way steps found
  unfolding IsDistinct
  way_of zero place found is none = absurd (cc)
  way_of (suc steps) place found is none =
      let step = step_of steps place found is in
      let here : place < length pipes = slice_get_within pipes place step.pipe step.at in
      elim step.way [
        | inl passes ↦ alone steps place found is step.pipe step.at passes.0 none here
        | inr further ↦
            let rest = way_of steps further.1 found further.3 (λ k before. before_input k further.1 step.pipe step.at further.0 further.2 (none (suc k) (omega (arith, before)))) in
            record {
              places = place ∷ rest.places;
              count = omega (arith, rest.count);
              apart = (not_among steps found place rest.places (none steps (omega arith)) rest.each, rest.apart);
              each = ((here, is), later steps found rest.places rest.each);
            }
      ]
    where
      before_input : (k input : ℕ) (pipe : Pipe) → slice_get pipes place ≡ Some pipe → test pipes place pipe ≡ false → pipe.input ≡ Some input
          → reached_within (suc k) test pipes place ≡ None → reached_within k test pipes input ≡ None
      before_input k input pipe at fails of is = rw (at, fails, of) at is

  below : (n at : ℕ) (P : ℕ → Type 0) (places : List ℕ) → AllByRecursion (λ place. (place < n) × P place) places → list_any (eqb at) places ≡ true → at < n
  below n at P [] each is = absurd (cc)
  below n at P (place ∷ places) each is =
      elim (or_cases (eqb at place) (list_any (eqb at) places) is) [
        | inl same ↦ subst (λ (p : ℕ). p < n) (sym (eqb-true at place same)) each.0.0
        | inr other ↦ below n at P places each.1 other
      ]

  pub enough_steps : (steps place found : ℕ) → reached_within steps test pipes place ≡ Some found → reached test pipes place ≡ Some found
  enough_steps steps place found is =
      let least = fewest_of steps place found is in
      let way = way_of least.fewest place found least.is least.none in
      let few : length way.places ≤ length pipes =
      length-le_from_distinct_below way.places (length pipes) way.apart (λ at among. below (length pipes) at _ way.places way.each among) in
      let count : (length pipes - least.fewest) + least.fewest ≡ length pipes = omega (arith, few, way.count) in
      subst (λ (n : ℕ). reached_within n test pipes place ≡ Some found) count (steps_more (length pipes - least.fewest) least.fewest place found least.is)
