-- How many steps along inputs it is from the pipes of a strand to its head.
use Rattle.std.proofs.Common.{◌≡◌, ◌≢◌, ℕ, zero, suc, ◌+◌, ◌-◌, ◌<◌, List, length, Some, refl, ap, sym, ◌∙◌, arith, inl, inr}
use Rattle.std.proofs.lemmas.Bool.{ne_eqb}
use Rattle.std.proofs.lemmas.Bool.Decides.{eqb_tells}
use Rattle.up_model.proofs.Steps.{step_of}
use Rattle.up_model.specs.Inputs.{input_at, reached_within}
use Rattle.up_model.specs.Plans.{is_head, head_of}
use Rattle.up_model.specs.declared.pipe.Pipe.{Pipe}
use Rattle.up_strand.specs.Shapes.{depth_within, depth_of}

module _ (pipes : List Pipe) (head : ℕ) where
  pub depth_on : (steps place input : ℕ) → place ≢ head → input_at pipes place ≡ Some input
      → depth_within (suc steps) pipes head place ≡ suc (depth_within steps pipes head input)
  depth_on steps place input other takes = rw (ne_eqb place head other, takes) refl

  pub depth_at_head : (steps : ℕ) → depth_within steps pipes head head ≡ 0
  depth_at_head zero = refl
  depth_at_head (suc steps) = elim (eqb_tells head head) [
    | inl same ↦ rw same.0 refl
    | inr other ↦ absurd (other.1 refl)
  ]

  -- a loop that has gone these steps goes one more
  pub depth_next : (limit steps place input : ℕ) → steps < limit → place ≢ head → input_at pipes place ≡ Some input
      → (steps + 1) + depth_within (limit - (steps + 1)) pipes head input ≡ steps + depth_within (limit - steps) pipes head place
  depth_next limit steps place input within other takes =
      let left : limit - steps ≡ suc (limit - (steps + 1)) = omega (arith, within) in
      let on = depth_on (limit - (steps + 1)) place input other takes in
      rw (left, on) (omega arith)

  -- where the head is reached in these steps, one more changes nothing
  depth_same : (steps place : ℕ) → reached_within steps is_head pipes place ≡ Some head
      → depth_within steps pipes head place ≡ depth_within (suc steps) pipes head place
  depth_same zero place is = absurd (cc)
  depth_same (suc steps) place is = elim (eqb_tells place head) [
    | inl same ↦ rw same.1 (depth_at_head (suc steps) ∙ sym (depth_at_head (suc (suc steps))))
    | inr other ↦
        let step = step_of is_head pipes steps place head is in
        elim step.way [
          | inl here ↦ absurd (other.1 here.1)
          | inr further ↦
              let takes : input_at pipes place ≡ Some further.1 = rw step.at further.2 in
              depth_on steps place further.1 other.1 takes ∙ ap suc (depth_same steps further.1 further.3) ∙ sym (depth_on (suc steps) place further.1 other.1 takes)
        ]
  ]

  -- a node of a strand is nearer the head than one that takes from it
  pub depth_rises : (place input : ℕ) → place ≢ head → input_at pipes place ≡ Some input → head_of pipes input ≡ Some head
      → depth_of pipes head input < depth_of pipes head place
  depth_rises place input other takes is =
      let on = depth_on (length pipes) place input other takes in
      let same = depth_same (length pipes) input is in
      omega (arith, on, same)
