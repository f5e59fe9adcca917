-- The heads of strands by their numbers, and which strand fills the lane of each.
use Rattle.std.proofs.Common.{◌≡◌, ℕ, ◌<◌, ◌==◌, List, length, Bool, true, false, not, is_some, Option, Some, None, slice_get, refl, sym, ap, ◌∙◌, eq-eqb}
use Rattle.std.specs.Prelude.{option_and_then}
use Rattle.std.specs.List.{Contains}
use Rattle.std.specs.Option.{option_map_or}
use Rattle.std.proofs.lemmas.Bool.Decides.{Decides-eqb}
use Rattle.std.proofs.lemmas.List.Elements.{Contains-get_or}
use Rattle.std.proofs.lemmas.List.{get_or_default}
use Rattle.up_engine.specs.Joins.{filler_of}
use Rattle.up_engine.specs.Nets.{head_at}
use Rattle.up_model.proofs.Members.{filter_has, kept_passes, kept_was_there, passes_within, passing_pipe, passing_places_have}
use Rattle.up_model.proofs.Steps.{found_passes}
use Rattle.up_model.proofs.WellFormed.{input_there, is_pipe}
use Rattle.up_model.specs.Ends.{is_source}
use Rattle.up_model.specs.Inputs.{ends_at_source, input_at, passes_at, places}
use Rattle.up_model.specs.Plans.{head_of, heads, is_fed, is_head, is_in_strand, lanes, outlets_of, takes_of}
use Rattle.up_model.specs.WellFormed.{IsWellFormed}
use Rattle.up_model.specs.declared.pipe.Pipe.{Pipe}
use Rattle.up_plan.proofs.OneStrand.{has_head_of}

pub some_and_then : (of : ℕ → Option ℕ) (o : Option ℕ) (found : ℕ) → option_and_then of o ≡ Some found → (x : ℕ) × (o ≡ Some x) × (of x ≡ Some found)
some_and_then of None found is = absurd (cc)
some_and_then of (Some x) found is = (x, refl, is)

-- what passes a test of an option is there
some_passes : (test : ℕ → Bool) (o : Option ℕ) → option_map_or test o false ≡ true → (x : ℕ) × (o ≡ Some x) × (test x ≡ true)
some_passes test None passes = absurd (cc)
some_passes test (Some x) passes = (x, refl, passes)

pub same_head : (own : Option ℕ) (head : ℕ) → option_map_or (λ own. own == head) own false ≡ true → own ≡ Some head
same_head None head is = absurd (cc)
same_head (Some own) head is = ap Some ((Decides-eqb own head).0 is)

not_true : (b : Bool) → not b ≡ true → b ≡ false
not_true true is = absurd (cc)
not_true false is = refl

some_input : (input : Option ℕ) (source : Bool) → is_some input ≡ not source → source ≡ false → (x : ℕ) × (input ≡ Some x)
some_input None source is none = absurd (let no : false ≡ true = is ∙ ap not none in cc)
some_input (Some x) source is none = (x, refl)

no_source : (input : Option ℕ) (source : Bool) (x : ℕ) → is_some input ≡ not source → input ≡ Some x → not source ≡ true
no_source input source x is takes = sym is ∙ ap is_some takes

pub input_is : (pipes : List Pipe) (place : ℕ) (pipe : Pipe) → slice_get pipes place ≡ Some pipe → input_at pipes place ≡ pipe.input
input_is pipes place pipe there = ap (λ (p : Option Pipe). option_and_then (λ (pipe : Pipe). pipe.input) p) there

module _ (pipes : List Pipe) where
  pub head_there : (i : ℕ) → i < length (heads pipes) → Contains (heads pipes) (head_at pipes i)
  head_there i within = Contains-get_or (heads pipes) i 0 within

  -- a head has a number
  pub head_number : (place : ℕ) → Contains (heads pipes) place → (i : ℕ) × (i < length (heads pipes)) × (head_at pipes i ≡ place)
  head_number place there = (there.0, there.1, get_or_default (heads pipes) there.0 0 place there.1 ∙ there.2)

  pub head_within : (place : ℕ) → Contains (heads pipes) place → place < length pipes
  head_within place there = passes_within is_head pipes place (kept_passes (passes_at is_head pipes) (places pipes) place there)

  pub lane_is_head : (lane : ℕ) → Contains (lanes pipes) lane → Contains (heads pipes) lane
  lane_is_head lane is = kept_was_there (passes_at is_fed pipes) (heads pipes) lane is

  pub lane_is_fed : (lane : ℕ) → Contains (lanes pipes) lane → passes_at is_fed pipes lane ≡ true
  lane_is_fed lane is = kept_passes (passes_at is_fed pipes) (heads pipes) lane is

  pub fed_is_lane : (lane : ℕ) → Contains (heads pipes) lane → passes_at is_fed pipes lane ≡ true → Contains (lanes pipes) lane
  fed_is_lane lane there fed = filter_has (passes_at is_fed pipes) (heads pipes) lane there fed

  -- a lane that a strand fills, and a lane of which it is the filler, are the same
  pub outlet_is_lane : (filler lane : ℕ) → Contains (outlets_of pipes filler) lane → Contains (lanes pipes) lane
  outlet_is_lane filler lane outlet = kept_was_there (passes_at (takes_of filler) pipes) (lanes pipes) lane outlet

  pub outlet_is_filled : (filler lane : ℕ) → Contains (outlets_of pipes filler) lane → filler_of pipes lane ≡ Some filler
  outlet_is_filled filler lane outlet =
      let there = passing_pipe (takes_of filler) pipes lane (kept_passes (passes_at (takes_of filler) pipes) (lanes pipes) lane outlet) in
      let takes = some_passes (is_in_strand pipes filler) there.0.input there.2 in
      let own = same_head (head_of pipes takes.0) filler takes.2 in
      rw (there.1, takes.1) own

  pub filled_is_outlet : (filler lane : ℕ) → Contains (lanes pipes) lane → filler_of pipes lane ≡ Some filler → Contains (outlets_of pipes filler) lane
  filled_is_outlet filler lane is filled =
      let there = passing_pipe is_fed pipes lane (lane_is_fed lane is) in
      let from = some_and_then (head_of pipes) (input_at pipes lane) filler filled in
      let takes : there.0.input ≡ Some from.0 = sym (input_is pipes lane there.0 there.1) ∙ from.1 in
      filter_has (passes_at (takes_of filler) pipes) (lanes pipes) lane is (rw (there.1, takes, from.2) (eq-eqb filler filler refl))

  pub filler_is_head : (filler lane : ℕ) → filler_of pipes lane ≡ Some filler → Contains (heads pipes) filler
  filler_is_head filler lane filled =
      let from = some_and_then (head_of pipes) (input_at pipes lane) filler filled in
      let found = found_passes is_head pipes (length pipes) from.0 filler from.2 in
      passing_places_have is_head pipes filler (rw found.1 found.2)

  module _ (well : IsWellFormed pipes) where
    -- a lane has a filler
    pub lane_is_filled : (lane : ℕ) → Contains (lanes pipes) lane → (filler : ℕ) × (filler_of pipes lane ≡ Some filler)
    lane_is_filled lane is =
        let there = passing_pipe is_fed pipes lane (lane_is_fed lane is) in
        let input = some_input there.0.input (is_source there.0.kind) (is_pipe pipes well lane there.0 there.1).input (not_true (is_source there.0.kind) there.2) in
        let filler = has_head_of pipes input.0 well (input_there pipes well lane input.0 there.0 there.1 input.1) in
        (filler.0, ap (option_and_then (head_of pipes)) (input_is pipes lane there.0 there.1 ∙ input.1) ∙ filler.1)

    -- a head that is filled has a lane
    pub filled_is_lane : (filler lane : ℕ) → Contains (heads pipes) lane → filler_of pipes lane ≡ Some filler → Contains (lanes pipes) lane
    filled_is_lane filler lane head filled =
        let there = passing_pipe is_head pipes lane (kept_passes (passes_at is_head pipes) (places pipes) lane head) in
        let from = some_and_then (head_of pipes) (input_at pipes lane) filler filled in
        let takes : there.0.input ≡ Some from.0 = sym (input_is pipes lane there.0 there.1) ∙ from.1 in
        let fed : not (is_source there.0.kind) ≡ true = no_source there.0.input (is_source there.0.kind) from.0 (is_pipe pipes well lane there.0 there.1).input takes in
        fed_is_lane lane head (rw there.1 fed)

  -- a source is fed by no lane
  source_or_fed : (place : ℕ) (pipe : Option Pipe) → option_map_or (λ (pipe : Pipe). is_source pipe.kind) pipe false ≡ true → option_map_or (λ (pipe : Pipe). not (is_source pipe.kind)) pipe false ≡ false
  source_or_fed place None is = refl
  source_or_fed place (Some pipe) is = ap not is

  pub source_is_unfed : (place : ℕ) → passes_at ends_at_source pipes place ≡ true → passes_at is_fed pipes place ≡ false
  source_is_unfed place is = source_or_fed place (slice_get pipes place) is
