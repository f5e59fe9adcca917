-- A graph puts out the same behind the head of a strand, where the head is fed what it takes of the whole and nothing else is fed.
use Rattle.std.proofs.Common.{◌≡◌, ◌≢◌, ℕ, zero, suc, ◌==◌, List, length, Bool, true, false, not, is_some, cond, Option, Some, None, slice_get, refl, sym, ap, ◌∙◌, subst, inl, inr}
use Rattle.std.specs.Prelude.{unwrap_or}
use Rattle.std.specs.Option.{IsSome}
use Rattle.std.proofs.lemmas.Bool.Decides.{eqb_tells}
use Rattle.std.proofs.lemmas.Option.{same_Some, slice_get_within}
use Rattle.up_base.specs.Lists.{IsPrefix}
use Rattle.up_model.proofs.FedSources.{fed_reached, unfed}
use Rattle.up_model.proofs.GraphFlows.{GrowsTo, flows_grow, taken_grows}
use Rattle.up_model.proofs.Steps.{step_of}
use Rattle.up_model.proofs.Ways.{flow_by-unique, flow_by-unrolled}
use Rattle.up_model.proofs.WellFormed.{are_bounded, has_source, is_pipe}
use Rattle.up_model.specs.Ends.{is_source}
use Rattle.up_model.specs.Inputs.{reached, reached_within}
use Rattle.up_model.specs.Kinds.{module_kind}
use Rattle.up_model.specs.Meaning.{Doing, Feeding, IsFedMore, done_by, flow_by, input_by, is_fed_by, selected, shared, taken_at, taken_by, taken_from, to_sources, work_at}
use Rattle.up_model.specs.Packet.{Flow}
use Rattle.up_model.specs.Plans.{head_of}
use Rattle.up_model.specs.WellFormed.{IsWellFormed}
use Rattle.up_model.specs.declared.pipe.Pipe.{Pipe}
use Rattle.up_strand.proofs.Meanings.{fed_at_head, given_other}
use Rattle.up_strand.specs.History.{to_head}

pub given_head : (head : ℕ) (flow : Flow) → to_head head flow head ≡ Some flow
given_head head flow = elim (eqb_tells head head) [
  | inl same ↦ rw same.0 refl
  | inr other ↦ absurd (other.1 refl)
]

-- a head takes what it is fed
pub head_takes : (does : Doing) (pipes : List Pipe) (head : ℕ) (flow : Flow) (pipe : Pipe) → input_by does pipes (to_head head flow) head pipe ≡ flow
head_takes does pipes head flow pipe =
    ap (λ fed. unwrap_or fed (taken_by pipes (flow_by does pipes (to_head head flow)) pipe)) (given_head head flow)

-- any other pipe takes of its input
pub other_takes : (does : Doing) (pipes : List Pipe) (head place : ℕ) (flow : Flow) (pipe : Pipe) → place ≢ head
    → input_by does pipes (to_head head flow) place pipe ≡ taken_by pipes (flow_by does pipes (to_head head flow)) pipe
other_takes does pipes head place flow pipe other =
    ap (λ fed. unwrap_or fed (taken_by pipes (flow_by does pipes (to_head head flow)) pipe)) (given_other head flow place other)

-- a pipe that isn't a source takes of its input
pub pipe_takes : (does : Doing) (pipes : List Pipe) (given : ℕ → Flow) (place : ℕ) (pipe : Pipe) → slice_get pipes place ≡ Some pipe → is_source pipe.kind ≡ false
    → input_by does pipes (to_sources pipes given) place pipe ≡ taken_by pipes (flow_by does pipes (to_sources pipes given)) pipe
pipe_takes does pipes given place pipe there none =
    ap (λ fed. unwrap_or fed (taken_by pipes (flow_by does pipes (to_sources pipes given)) pipe)) (unfed pipes given place pipe there none)

no_source : (source : Bool) (input : Option ℕ) (at : ℕ) → is_some input ≡ not source → input ≡ Some at → source ≡ false
no_source true input at is takes = absurd (let no : true ≡ false = sym (ap is_some takes) ∙ is in cc)
no_source false input at is takes = refl

module _ (pipes : List Pipe) (well : IsWellFormed pipes) where
  -- what takes from a pipe is no source
  pub takes_no_source : (place at : ℕ) (pipe : Pipe) → slice_get pipes place ≡ Some pipe → pipe.input ≡ Some at → is_source pipe.kind ≡ false
  takes_no_source place at pipe there takes = no_source (is_source pipe.kind) pipe.input at (is_pipe pipes well place pipe there).input takes

  module _ (does : Doing) (given : ℕ → Flow) (head : ℕ) (own : Pipe) (there : slice_get pipes head ≡ Some own) where
    abbrev flows : ℕ → Flow
    flows = flow_by does pipes (to_sources pipes given)

    abbrev cut : Feeding
    cut = to_head head (input_by does pipes (to_sources pipes given) head own)

    is_unfed : (place : ℕ) → place ≢ head → is_some (cut place) ≡ false
    is_unfed place other = ap is_some (given_other head (input_by does pipes (to_sources pipes given) head own) place other)

    same_at_other : (place : ℕ) (pipe : Pipe) → slice_get pipes place ≡ Some pipe → place ≢ head → is_source pipe.kind ≡ false
        → taken_at does pipes (to_sources pipes given) flows place pipe ≡ taken_at does pipes cut flows place pipe
    same_at_other place pipe here other none =
        pipe_takes does pipes given place pipe here none
        ∙ sym (ap (λ fed. unwrap_or fed (taken_by pipes flows pipe)) (given_other head (input_by does pipes (to_sources pipes given) head own) place other))

    same_at_head : (place : ℕ) (pipe : Pipe) → slice_get pipes place ≡ Some pipe → place ≡ head
        → taken_at does pipes (to_sources pipes given) flows place pipe ≡ taken_at does pipes cut flows place pipe
    same_at_head place pipe here is =
        let same : pipe ≡ own = same_Some pipe own (sym here ∙ ap (slice_get pipes) is ∙ there) in
        rw (is, same) (sym (ap (λ fed. unwrap_or fed (taken_by pipes flows own)) (given_head head (input_by does pipes (to_sources pipes given) head own))))

    -- each pipe from which the head is reached takes the same
    same_taken : (steps place found : ℕ) (pipe : Pipe) → reached_within (suc steps) (is_fed_by cut) pipes place ≡ Some found → slice_get pipes place ≡ Some pipe
        → taken_at does pipes (to_sources pipes given) flows place pipe ≡ taken_at does pipes cut flows place pipe
    same_taken steps place found pipe is here = elim (eqb_tells place head) [
      | inl same ↦ same_at_head place pipe here same.1
      | inr other ↦
          let step = step_of (is_fed_by cut) pipes steps place found is in
          elim step.way [
            | inl fed ↦ absurd (let no : false ≡ true = sym (is_unfed place other.1) ∙ fed.0 in cc)
            | inr further ↦
                let one : step.pipe ≡ pipe = same_Some step.pipe pipe (sym step.at ∙ here) in
                same_at_other place pipe here other.1 (takes_no_source place further.1 pipe here (sym (ap (λ (p : Pipe). p.input) one) ∙ further.2))
          ]
    ]

    at_pipe : (steps place found : ℕ) → reached_within steps (is_fed_by cut) pipes place ≡ Some found
        → flows place ≡ (work_at does pipes cut flows place (slice_get pipes place)).flow
    at_pipe zero place found is = absurd (cc)
    at_pipe (suc steps) place found is =
        let step = step_of (is_fed_by cut) pipes steps place found is in
        let whole : IsSome (reached (is_fed_by (to_sources pipes given)) pipes place) =
        rw (fed_reached pipes given place) (has_source pipes well place (slice_get_within pipes place step.pipe step.at)) in
        flow_by-unrolled pipes does (to_sources pipes given) place whole
        ∙ ap (λ pipe. (work_at does pipes (to_sources pipes given) flows place pipe).flow) step.at
        ∙ ap (λ taken. (done_by does place (module_kind (selected pipes place) step.pipe.kind) taken).flow) (same_taken steps place found step.pipe is step.at)
        ∙ sym (ap (λ pipe. (work_at does pipes cut flows place pipe).flow) step.at)

    some_found : (o : Option ℕ) → IsSome o → (found : ℕ) × (o ≡ Some found)
    some_found None some = absurd (cc)
    some_found (Some found) some = (found, refl)

    -- what a pipe of its strand puts out
    pub flow_behind : (place : ℕ) → head_of pipes place ≡ Some head → flows place ≡ flow_by does pipes cut place
    flow_behind place behind =
        flow_by-unique pipes does cut flows
        (λ at reaches. let found = some_found (reached (is_fed_by cut) pipes at) reaches in at_pipe (length pipes) at found.0 found.1)
        place (fed_at_head pipes head place _ behind)

more_if : (b : Bool) (flow more : Flow) → IsPrefix flow more → IsFedMore (cond b (Some flow) None) (cond b (Some more) None)
more_if true flow more longer = longer
more_if false flow more longer = tt

-- the pipe at a place takes from one of the strand of this head, and is no head of it
pub record IsBehind (pipes : List Pipe) (place head : ℕ) (pipe own : Pipe) : Type 0 where
  pub there : slice_get pipes place ≡ Some pipe
  pub stands : slice_get pipes head ≡ Some own
  pub other : place ≢ head
  pub input : ℕ
  pub takes : pipe.input ≡ Some input
  pub within : head_of pipes input ≡ Some head

module _ (pipes : List Pipe) (well : IsWellFormed pipes) (given : ℕ → Flow) (place head : ℕ) (pipe own : Pipe) (behind : IsBehind pipes place head pipe own) where
  -- it takes the same where the head is fed what it takes of the whole
  pub same_behind : (does : Doing) (flow : Flow) → flow ≡ input_by does pipes (to_sources pipes given) head own
      → input_by does pipes (to_head head flow) place pipe ≡ input_by does pipes (to_sources pipes given) place pipe
  same_behind does flow is =
      other_takes does pipes head place flow pipe behind.other
      ∙ ap (λ fed. taken_by pipes (flow_by does pipes (to_head head fed)) pipe) is
      ∙ ap (taken_from pipes (flow_by does pipes (to_head head (input_by does pipes (to_sources pipes given) head own))) pipe.select) behind.takes
      ∙ sym (ap (shared (slice_get pipes behind.input) pipe.select) (flow_behind pipes well does given head own behind.stands behind.input behind.within))
      ∙ sym (ap (taken_from pipes (flow_by does pipes (to_sources pipes given)) pipe.select) behind.takes)
      ∙ sym (pipe_takes does pipes given place pipe behind.there (takes_no_source pipes well place behind.input pipe behind.there behind.takes))

  -- and the first of it where the head is fed the first of that
  pub first_behind : (less more : Doing) (flow : Flow) → GrowsTo less more → IsPrefix flow (input_by more pipes (to_sources pipes given) head own)
      → IsPrefix (input_by less pipes (to_head head flow) place pipe) (input_by more pipes (to_sources pipes given) place pipe)
  first_behind less more flow grows first =
      let fed = input_by more pipes (to_sources pipes given) head own in
      let feeds : (at : ℕ) → IsFedMore (to_head head flow at) (to_head head fed at) = λ at. more_if (at == head) flow fed first in
      let longer : IsPrefix (taken_by pipes (flow_by less pipes (to_head head flow)) pipe) (taken_by pipes (flow_by more pipes (to_head head fed)) pipe) =
      taken_grows pipes _ _ pipe.select pipe.input
      (flows_grow pipes less more grows (are_bounded pipes well) (to_head head flow) (to_head head fed) feeds (length pipes)) in
      rw (other_takes less pipes head place flow pipe behind.other)
      (subst (IsPrefix (taken_by pipes (flow_by less pipes (to_head head flow)) pipe))
      (sym (other_takes more pipes head place fed pipe behind.other) ∙ same_behind more fed refl) longer)
