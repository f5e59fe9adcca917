-- What holds all along inputs, and which tests are met on the way.
use Rattle.std.proofs.Common.{◌≡◌, ℕ, zero, suc, List, Some, slice_get, true, false, ap, ◌∙◌, arith, inl, inr}
use Rattle.std.proofs.lemmas.Bool.{cases_Bool}
use Rattle.std.proofs.lemmas.Option.{slice_get_cases}
use Rattle.up_model.proofs.Places.{reached-here, reached-on}
use Rattle.up_model.proofs.Steps.{step_of}
use Rattle.up_model.specs.Inputs.{PipeTest, passes_at, input_at, reached_within}
use Rattle.up_model.specs.declared.pipe.Pipe.{Pipe}

module _ (test : PipeTest) (pipes : List Pipe) where
  -- something is reached from a pipe alone
  pub starts_at : (steps place found : ℕ) → reached_within steps test pipes place ≡ Some found → (pipe : Pipe) × (slice_get pipes place ≡ Some pipe)
  starts_at zero place found is = cc
  starts_at (suc steps) place found is = let step = step_of test pipes steps place found is in (step.pipe, step.at)

  -- from a place that fails what its input reaches is reached
  pub goes_on : (steps place input : ℕ) → passes_at test pipes place ≡ false → input_at pipes place ≡ Some input
      → reached_within (suc steps) test pipes place ≡ reached_within steps test pipes input
  goes_on steps place input fails takes = elim (slice_get_cases pipes place).1 [
    | inl there ↦ reached-on test pipes place there.0 there.2 steps input (rw there.2 at fails) (rw there.2 at takes)
    | inr past ↦ let none = rw past.1 at takes in cc
  ]

  -- what is the same for each pipe that fails and its input is the same at what is reached
  pub same_along : {X : Type 0} (of : ℕ → X)
      → ((place input : ℕ) (pipe from : Pipe) → slice_get pipes place ≡ Some pipe → slice_get pipes input ≡ Some from
      → test pipes place pipe ≡ false → pipe.input ≡ Some input → of place ≡ of input)
      → (steps place found : ℕ) → reached_within steps test pipes place ≡ Some found → of place ≡ of found
  same_along of same zero place found is = cc
  same_along of same (suc steps) place found is =
      let step = step_of test pipes steps place found is in
      elim step.way [
        | inl here ↦ ap of here.1
        | inr further ↦
            let from = starts_at steps further.1 found further.3 in
            same place further.1 step.pipe from.0 step.at from.1 further.0 further.2 ∙ same_along of same steps further.1 found further.3
      ]

  -- where this test reaches a place, so does one that passes wherever this one does
  pub weaker_reaches : (other : PipeTest) → ((place : ℕ) (pipe : Pipe) → test pipes place pipe ≡ true → other pipes place pipe ≡ true)
      → (steps place found : ℕ) → reached_within steps test pipes place ≡ Some found → (sooner : ℕ) × (reached_within steps other pipes place ≡ Some sooner)
  weaker_reaches other weaker zero place found is = cc
  weaker_reaches other weaker (suc steps) place found is =
      let step = step_of test pipes steps place found is in
      elim (cases_Bool (other pipes place step.pipe)) [
        | inl passes ↦ (place, reached-here other pipes place step.pipe step.at (suc steps) passes (omega arith))
        | inr fails ↦ elim step.way [
          | inl here ↦ let passes = weaker place step.pipe here.0 in cc
          | inr further ↦
              let sooner = weaker_reaches other weaker steps further.1 found further.3 in
              (sooner.0, reached-on other pipes place step.pipe step.at steps further.1 fails further.2 ∙ sooner.1)
        ]
      ]
