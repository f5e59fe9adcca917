-- From the heads of strands back to their sources, a lane at a time.
use Rattle.std.proofs.Common.{◌≡◌, ◌≢◌, ℕ, zero, suc, ◌<◌, ◌||◌, List, length, Bool, true, false, not, Option, Some, None, slice_get, refl, sym, ap, ◌∙◌, subst, arith, eq-eqb, inl, inr}
use Rattle.std.specs.Prelude.{option_and_then}
use Rattle.std.specs.List.{Contains}
use Rattle.std.proofs.lemmas.Bool.{cases_Bool, not-true}
use Rattle.std.proofs.lemmas.Option.{same_Some, slice_get_within}
use Rattle.up_engine.proofs.CutAtHeads.{IsBehind}
use Rattle.up_engine.specs.Joins.{filler_of}
use Rattle.up_model.proofs.Members.{filter_has, kept_passes, kept_was_there, passing_places_have}
use Rattle.up_model.proofs.Places.{reached-here}
use Rattle.up_model.proofs.Steps.{enough_steps, found_passes, step_of}
use Rattle.up_model.proofs.WellFormed.{input_there}
use Rattle.up_model.specs.Ends.{is_source}
use Rattle.up_model.specs.Inputs.{ends_at_source, input_at, passes_at, reached_within, source_of}
use Rattle.up_model.specs.Plans.{changes_worker, head_of, heads, is_fed, is_head, lanes, outlets_of, takes_of}
use Rattle.up_model.specs.WellFormed.{IsWellFormed}
use Rattle.up_model.specs.declared.pipe.Pipe.{Pipe}
use Rattle.up_plan.proofs.Lanes.{lane_comes_from_elsewhere}
use Rattle.up_plan.proofs.OneStrand.{has_head_of, on_one_worker, own_head, strand_has}
use Rattle.up_plan.specs.Plan.{worker_at}

some_and_then : (of : ℕ → Option ℕ) (o : Option ℕ) (found : ℕ) → option_and_then of o ≡ Some found → (x : ℕ) × (o ≡ Some x) × (of x ≡ Some found)
some_and_then of None found is = absurd (cc)
some_and_then of (Some x) found is = (x, refl, is)

pub one_of : (a b : Bool) → a ≡ true → (a || b) ≡ true
one_of a b is = rw is refl

-- a strand fills the lane of this head
pub record IsFilled (pipes : List Pipe) (lane filler : ℕ) (pipe own : Pipe) : Type 0 where
  pub lane_is : Contains (lanes pipes) lane
  pub filled : filler_of pipes lane ≡ Some filler
  pub head_is : Contains (heads pipes) lane
  pub none : is_source pipe.kind ≡ false
  pub filler_is : Contains (heads pipes) filler
  pub outlet : Contains (outlets_of pipes filler) lane
  pub behind : IsBehind pipes lane filler pipe own

module _ (pipes : List Pipe) where
  -- along a lane the worker changes
  other_head : (lane input filler : ℕ) → Contains (lanes pipes) lane → input_at pipes lane ≡ Some input → head_of pipes input ≡ Some filler → lane ≢ filler
  other_head lane input filler is takes within same =
      let elsewhere = lane_comes_from_elsewhere pipes lane is in
      let one : elsewhere.input ≡ input = same_Some elsewhere.input input (sym elsewhere.takes ∙ takes) in
      let worker : worker_at pipes input ≡ worker_at pipes filler = on_one_worker pipes filler input (strand_has pipes filler input within) in
      elsewhere.other (ap (worker_at pipes) one ∙ worker ∙ sym (ap (worker_at pipes) same))

  -- what the pipe at a place takes from
  pub input_of : (place input : ℕ) (pipe : Pipe) → slice_get pipes place ≡ Some pipe → input_at pipes place ≡ Some input → pipe.input ≡ Some input
  input_of place input pipe there takes = rw there at takes

  pub is_filled : (lane filler : ℕ) (pipe : Pipe) → Contains (lanes pipes) lane → filler_of pipes lane ≡ Some filler → slice_get pipes lane ≡ Some pipe
      → (own : Pipe) × IsFilled pipes lane filler pipe own
  is_filled lane filler pipe is filled there =
      let from = some_and_then (head_of pipes) (input_at pipes lane) filler filled in
      let takes = input_of lane from.0 pipe there from.1 in
      let found = found_passes is_head pipes (length pipes) from.0 filler from.2 in
      let fed : not (is_source pipe.kind) ≡ true = rw there at (kept_passes (passes_at is_fed pipes) (heads pipes) lane is) in (
        found.0,
        record {
          lane_is = is;
          filled = filled;
          head_is = kept_was_there (passes_at is_fed pipes) (heads pipes) lane is;
          none = not-true (is_source pipe.kind) fed;
          filler_is = passing_places_have is_head pipes filler (rw found.1 found.2);
          outlet = filter_has (passes_at (takes_of filler) pipes) (lanes pipes) lane is (rw (there, takes, from.2) (eq-eqb filler filler refl));
          behind = record {
            there = there;
            stands = found.1;
            other = other_head lane from.0 filler is from.1 from.2;
            input = from.0;
            takes = takes;
            within = from.2;
          };
        },
      )

  -- a source is a head
  pub source_is_head : (place source : ℕ) → source_of pipes place ≡ Some source → Contains (heads pipes) source
  source_is_head place source is =
      let found = found_passes ends_at_source pipes (length pipes) place source is in
      passing_places_have is_head pipes source (rw found.1 (one_of (is_source found.0.kind) (changes_worker pipes found.0) found.2))

  -- what isn't a head has the head of its input
  head_of_input : (steps place input head : ℕ) (pipe : Pipe) → reached_within steps is_head pipes place ≡ Some head → slice_get pipes place ≡ Some pipe
      → is_head pipes place pipe ≡ false → pipe.input ≡ Some input → head_of pipes input ≡ Some head
  head_of_input zero place input head pipe is there fails takes = absurd (cc)
  head_of_input (suc steps) place input head pipe is there fails takes =
      let step = step_of is_head pipes steps place head is in
      let one : step.pipe ≡ pipe = same_Some step.pipe pipe (sym step.at ∙ there) in
      elim step.way [
        | inl here ↦ absurd (let no : true ≡ false = sym here.0 ∙ ap (is_head pipes place) one ∙ fails in cc)
        | inr further ↦
            let at : further.1 ≡ input = same_Some further.1 input (sym further.2 ∙ ap (λ (p : Pipe). p.input) one ∙ takes) in
            enough_steps is_head pipes steps input head (subst (λ (i : ℕ). reached_within steps is_head pipes i ≡ Some head) at further.3)
      ]

  pub head_here : (place head : ℕ) (pipe : Pipe) → slice_get pipes place ≡ Some pipe → is_head pipes place pipe ≡ true → head_of pipes place ≡ Some head → place ≡ head
  head_here place head pipe there passes is =
      let within : place < length pipes = slice_get_within pipes place pipe there in
      same_Some place head (sym (reached-here is_head pipes place pipe there (length pipes) passes (omega (arith, within))) ∙ is)

  -- what holds of a source, and of a head where it holds of that of the strand that fills its lane, holds of all heads
  module _ (well : IsWellFormed pipes) (Q : ℕ → Pipe → Type 0) (source : ℕ)
      (start : (pipe : Pipe) → Contains (heads pipes) source → slice_get pipes source ≡ Some pipe → is_source pipe.kind ≡ true → Q source pipe)
      (further : (lane filler : ℕ) (pipe own : Pipe) → IsFilled pipes lane filler pipe own → Q filler own → Q lane pipe) where
    at_source : (place head : ℕ) (own pipe : Pipe) → slice_get pipes place ≡ Some own → is_source own.kind ≡ true → place ≡ source → head_of pipes place ≡ Some head
        → slice_get pipes head ≡ Some pipe → Q head pipe
    at_source place head own pipe there is same of stands =
        let here : place ≡ head = head_here place head own there (one_of (is_source own.kind) (changes_worker pipes own) is) of in
        let at : head ≡ source = sym here ∙ same in
        let one : own ≡ pipe = same_Some own pipe (sym there ∙ ap (slice_get pipes) here ∙ stands) in
        let is_one : is_source pipe.kind ≡ true = sym (ap (λ (p : Pipe). is_source p.kind) one) ∙ is in
        let passes : is_head pipes source pipe ≡ true = one_of (is_source pipe.kind) (changes_worker pipes pipe) is_one in
        let stands_there : slice_get pipes source ≡ Some pipe = sym (ap (slice_get pipes) at) ∙ stands in
        rw at (start pipe (passing_places_have is_head pipes source (rw stands_there passes)) stands_there is_one)

    within : (steps place head : ℕ) (pipe : Pipe) → reached_within steps ends_at_source pipes place ≡ Some source → head_of pipes place ≡ Some head
        → slice_get pipes head ≡ Some pipe → Q head pipe
    within zero place head pipe is of stands = absurd (cc)
    within (suc steps) place head pipe is of stands =
        let step = step_of ends_at_source pipes steps place source is in
        elim step.way [
          | inl here ↦ at_source place head step.pipe pipe step.at here.0 here.1 of stands
          | inr on ↦ elim (cases_Bool (is_head pipes place step.pipe)) [
            | inl begins ↦
                let here : place ≡ head = head_here place head step.pipe step.at begins of in
                let one : step.pipe ≡ pipe = same_Some step.pipe pipe (sym step.at ∙ ap (slice_get pipes) here ∙ stands) in
                let filler = has_head_of pipes on.1 well (input_there pipes well place on.1 step.pipe step.at on.2) in
                let is_lane : Contains (lanes pipes) place = filter_has (passes_at is_fed pipes) (heads pipes) place
                (passing_places_have is_head pipes place (rw step.at begins)) (rw (step.at, on.0) refl) in
                let filled = is_filled place filler.0 step.pipe is_lane (rw (step.at, on.2) filler.1) step.at in
                let holds : Q place step.pipe = further place filler.0 step.pipe filled.0 filled.1
                (within steps on.1 filler.0 filled.0 on.3 filler.1 filled.1.behind.stands) in
                rw (← here, ← one) holds
            | inr fails ↦ within steps on.1 head pipe on.3 (head_of_input (length pipes) place on.1 head step.pipe of step.at fails on.2) stands
          ]
        ]

    pub along_lanes : (head : ℕ) (pipe : Pipe) → Contains (heads pipes) head → source_of pipes head ≡ Some source → slice_get pipes head ≡ Some pipe → Q head pipe
    along_lanes head pipe is of stands = within (length pipes) head head pipe of (own_head pipes head is) stands
