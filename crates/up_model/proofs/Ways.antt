-- What the pipes put out is said by what their inputs put out, and by nothing else.
use Rattle.std.proofs.Common.{◌≡◌, ◌<◌, ◌⊎◌, ℕ, zero, suc, Bool, true, false, List, Option, Some, None, slice_get, refl, sym, ap, ◌∙◌, length, subst, if◌then◌else◌, inl, inr}
use Rattle.std.specs.Prelude.{option_and_then, unwrap_or}
use Rattle.std.specs.Option.{IsSome, is_some}
use Rattle.std.proofs.lemmas.Option.{slice_get_within}
use Rattle.up_model.proofs.Steps.{step_of, enough_steps}
use Rattle.up_model.specs.Inputs.{PipeTest, reached_within, reached}
use Rattle.up_model.specs.Kinds.{module_kind}
use Rattle.up_model.specs.Meaning.{Doing, Feeding, selected, done_by, is_fed_by, shared, taken_from, taken_by, taken_at, work_at, flow_within, flow_by, pipe_work}
use Rattle.up_model.specs.Packet.{Flow}
use Rattle.up_model.specs.declared.pipe.Pipe.{Pipe}

-- a place that is reached, or what is reached further on
abbrev here_or : Bool → ℕ → Option ℕ → Option ℕ
here_or passes place further = if passes then Some place else further

some_of : {X : Type 0} (o : Option X) → IsSome o → (x : X) × (o ≡ Some x)
some_of None some = absurd (cc)
some_of (Some x) some = (x, refl)

is_some_of : {X : Type 0} (o : Option X) (x : X) → o ≡ Some x → IsSome o
is_some_of o x is = rw is refl

-- what is fed, or what is taken further on, where that is the same
fed_same : (fed : Option Flow) (place : ℕ) (further : Option ℕ) (a b : Flow) → IsSome (here_or (is_some fed) place further) → (IsSome further → a ≡ b)
    → unwrap_or fed a ≡ unwrap_or fed b
fed_same (Some flow) place further a b some same = refl
fed_same None place further a b some same = same some

fed_alike : (fed fed' : Option Flow) (a b : Flow) → is_some fed ≡ true → fed' ≡ fed → unwrap_or fed' a ≡ unwrap_or fed b
fed_alike None fed' a b some is = absurd (cc)
fed_alike (Some flow) fed' a b some is = ap (λ fed. unwrap_or fed a) is

unfed_alike : (fed fed' : Option Flow) (a b : Flow) → is_some fed ≡ false → fed' ≡ fed → a ≡ b → unwrap_or fed' a ≡ unwrap_or fed b
unfed_alike None fed' a b none is same = ap (λ fed. unwrap_or fed a) is ∙ same
unfed_alike (Some flow) fed' a b none is same = absurd (cc)

-- what reaches something stands in the graph
reached_inside : (test : PipeTest) (pipes : List Pipe) (steps place : ℕ) → IsSome (reached_within steps test pipes place) → place < length pipes
reached_inside test pipes zero place some = absurd (cc)
reached_inside test pipes (suc steps) place some =
    let found = some_of (reached_within (suc steps) test pipes place) some in
    let step = step_of test pipes steps place found.0 found.1 in
    slice_get_within pipes place step.pipe step.at

module _ (pipes : List Pipe) where
  taken_same : (flows flows' : ℕ → Flow) (way : ℕ → Option ℕ) (select input : Option ℕ) → ((place : ℕ) → IsSome (way place) → flows place ≡ flows' place)
      → IsSome (option_and_then way input) → taken_from pipes flows select input ≡ taken_from pipes flows' select input
  taken_same flows flows' way select None same some = refl
  taken_same flows flows' way select (Some place) same some = ap (shared (slice_get pipes place) select) (same place some)

  module _ (does : Doing) (fed : Feeding) where
    at_same : (place : ℕ) (pipe : Option Pipe) (way : ℕ → Option ℕ) (flows flows' : ℕ → Flow)
        → IsSome (option_and_then (λ (p : Pipe). here_or (is_some (fed place)) place (option_and_then way p.input)) pipe)
        → ((p : ℕ) → IsSome (way p) → flows p ≡ flows' p)
        → (work_at does pipes fed flows place pipe).flow ≡ (work_at does pipes fed flows' place pipe).flow
    at_same place None way flows flows' some same = refl
    at_same place (Some pipe) way flows flows' some same =
        ap (λ taken. (done_by does place (module_kind (selected pipes place) pipe.kind) taken).flow)
        (fed_same (fed place) place (option_and_then way pipe.input) _ _ some (λ further. taken_same flows flows' way pipe.select pipe.input same further))

    -- where something fed is reached in these steps, one step more changes nothing
    one_step_more : (steps place : ℕ) → IsSome (reached_within steps (is_fed_by fed) pipes place)
        → flow_within does pipes fed steps place ≡ flow_within does pipes fed (suc steps) place
    one_step_more zero place some = absurd (cc)
    one_step_more (suc steps) place some = at_same place (slice_get pipes place) (reached_within steps (is_fed_by fed) pipes) _ _ some (one_step_more steps)

    -- what a pipe puts out, by what its input does: the number of steps is gone
    pub flow_by-unrolled : (place : ℕ) → IsSome (reached (is_fed_by fed) pipes place) → flow_by does pipes fed place ≡ (pipe_work does pipes fed place).flow
    flow_by-unrolled place some = one_step_more (length pipes) place some

    -- whatever meets that equation is what they put out
    module _ (flows : ℕ → Flow)
        (meets : (place : ℕ) → IsSome (reached (is_fed_by fed) pipes place) → flows place ≡ (work_at does pipes fed flows place (slice_get pipes place)).flow) where
      within_steps : (steps place : ℕ) → IsSome (reached_within steps (is_fed_by fed) pipes place) → flows place ≡ flow_within does pipes fed steps place
      within_steps zero place some = absurd (cc)
      within_steps (suc steps) place some =
          let found = some_of (reached_within (suc steps) (is_fed_by fed) pipes place) some in
          let all : IsSome (reached (is_fed_by fed) pipes place) = is_some_of _ found.0 (enough_steps (is_fed_by fed) pipes (suc steps) place found.0 found.1) in
          meets place all ∙ at_same place (slice_get pipes place) (reached_within steps (is_fed_by fed) pipes) _ _ some (within_steps steps)

      pub flow_by-unique : (place : ℕ) → IsSome (reached (is_fed_by fed) pipes place) → flows place ≡ flow_by does pipes fed place
      flow_by-unique place some = within_steps (length pipes) place some

  -- what a pipe puts out is said by what is fed at the one place that it is reached from
  module _ (does : Doing) (fed fed' : Feeding) (alike : (place : ℕ) → is_some (fed place) ≡ false → fed' place ≡ fed place) where
    same_taken : (steps place at : ℕ) (pipe : Pipe) → fed' at ≡ fed at
        → ((input : ℕ) → reached_within steps (is_fed_by fed) pipes input ≡ Some at → flow_within does pipes fed' steps input ≡ flow_within does pipes fed steps input)
        → ((is_some (fed place) ≡ true) × (place ≡ at))
        ⊎ ((is_some (fed place) ≡ false) × (input : ℕ) × (pipe.input ≡ Some input) × (reached_within steps (is_fed_by fed) pipes input ≡ Some at))
        → taken_at does pipes fed' (flow_within does pipes fed' steps) place pipe ≡ taken_at does pipes fed (flow_within does pipes fed steps) place pipe
    same_taken steps place at pipe same before (inl here) =
        fed_alike (fed place) (fed' place) _ _ here.0 (subst (λ (p : ℕ). fed' p ≡ fed p) (sym here.1) same)
    same_taken steps place at pipe same before (inr further) =
        let taken : taken_by pipes (flow_within does pipes fed' steps) pipe ≡ taken_by pipes (flow_within does pipes fed steps) pipe =
        rw further.2 (ap (shared (slice_get pipes further.1) pipe.select) (before further.1 further.3)) in
        unfed_alike (fed place) (fed' place) _ _ further.0 (alike place further.0) taken

    same_within : (steps place at : ℕ) → reached_within steps (is_fed_by fed) pipes place ≡ Some at → fed' at ≡ fed at
        → flow_within does pipes fed' steps place ≡ flow_within does pipes fed steps place
    same_within zero place at is same = absurd (cc)
    same_within (suc steps) place at is same =
        let step = step_of (is_fed_by fed) pipes steps place at is in
        ap (λ pipe. (work_at does pipes fed' (flow_within does pipes fed' steps) place pipe).flow) step.at
        ∙ ap (λ taken. (done_by does place (module_kind (selected pipes place) step.pipe.kind) taken).flow)
        (same_taken steps place at step.pipe same (λ input further. same_within steps input at further same) step.way)
        ∙ sym (ap (λ pipe. (work_at does pipes fed (flow_within does pipes fed steps) place pipe).flow) step.at)

    pub same_flow : (place at : ℕ) → reached (is_fed_by fed) pipes place ≡ Some at → fed' at ≡ fed at → flow_by does pipes fed' place ≡ flow_by does pipes fed place
    same_flow place at is same = same_within (length pipes) place at is same

  -- where each place takes what it takes of the whole, it puts out what it puts out of the whole
  module _ (does : Doing) (fed cut : Feeding) (all : (place : ℕ) → place < length pipes → IsSome (reached (is_fed_by fed) pipes place))
      (takes : (place : ℕ) (pipe : Pipe) → slice_get pipes place ≡ Some pipe
      → taken_at does pipes cut (flow_by does pipes fed) place pipe ≡ taken_at does pipes fed (flow_by does pipes fed) place pipe) where
    cut_meets : (place : ℕ) (pipe : Option Pipe) → slice_get pipes place ≡ pipe
        → (work_at does pipes fed (flow_by does pipes fed) place pipe).flow ≡ (work_at does pipes cut (flow_by does pipes fed) place pipe).flow
    cut_meets place None is = refl
    cut_meets place (Some pipe) is =
        ap (λ taken. (done_by does place (module_kind (selected pipes place) pipe.kind) taken).flow) (sym (takes place pipe is))

    pub cut_flow : (place : ℕ) → place < length pipes → IsSome (reached (is_fed_by cut) pipes place) → flow_by does pipes fed place ≡ flow_by does pipes cut place
    cut_flow place within some = flow_by-unique does cut (flow_by does pipes fed)
        (λ at reaches. flow_by-unrolled does fed at (all at (reached_inside (is_fed_by cut) pipes (length pipes) at reaches))
        ∙ cut_meets at (slice_get pipes at) refl) place some
