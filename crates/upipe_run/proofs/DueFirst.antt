-- What is due to a sink is the first of what the graph means of all that lies at the sources' paths.
use Rattle.std.proofs.Common.{◌≡◌, inl, inr, ℕ, List, [], ◌++◌, take, Bool, true, false, Option, Some, None, slice_get, refl, sym, ap, subst, ◌∙◌, append-nil, append_assoc}
use Rattle.std.specs.Prelude.{option_and_then, unwrap_or}
use Rattle.std.specs.FinMap.{get}
use Rattle.std.specs.Option.{option_map_or}
use Rattle.std.proofs.lemmas.Bool.{cases_Bool}
use Rattle.std.proofs.lemmas.List.{append_cancel_left}
use Rattle.std.proofs.lemmas.Option.{slice_get_within}
use Rattle.up_base.specs.Lists.{IsPrefix}
use Rattle.up_engine.proofs.MeantBytes.{whole_bytes}
use Rattle.up_engine.specs.Runs.{Gave, Ways, carried, due_at, due_of, ending, held_bytes}
use Rattle.up_model.proofs.Carried.{carried_is_first}
use Rattle.up_model.proofs.GraphFlows.{so_far-wholly}
use Rattle.up_model.proofs.GrownBytes.{sink_bytes_grow}
use Rattle.up_model.proofs.Shown.{whole_unshown}
use Rattle.up_model.proofs.WellFormed.{are_bounded, comes_to_source, is_pipe}
use Rattle.up_model.specs.Ends.{is_sink, is_source, path_of}
use Rattle.up_model.specs.Inputs.{source_of}
use Rattle.up_model.specs.Meaning.{settled_bytes, sink_bytes, so_far, wholly}
use Rattle.up_model.specs.Outcomes.{carried_as, is_cause, outcome_behind, own_at, own_outcome, settled_source_flow, shown_of, source_flow, source_flows, source_outcome_at}
use Rattle.up_model.specs.Packet.{Flow}
use Rattle.up_model.specs.WellFormed.{IsWellFormed}
use Rattle.up_model.specs.declared.kind.Kind.{Kind}
use Rattle.up_model.specs.declared.kind.Kind.TheVariants.{Source}
use Rattle.up_model.specs.declared.outcome.Outcome.{Outcome}
use Rattle.up_model.specs.declared.outcome.Outcome.TheVariants.{Whole, ReadFault, WriteFault, BadFrame, TooLong, Broken, NoMemory}
use Rattle.up_model.specs.declared.pipe.Pipe.{Pipe}
use Rattle.up_outside.specs.Held.{Held}
use Rattle.upipe_run.proofs.WholeRuns.{source_clean}

-- a pipe that is no source carries nothing of its own
no_flow : (kind : Kind) (bytes : List ℕ) → is_source kind ≡ false → source_flow kind bytes ≡ []
no_flow (Source path form limit) bytes none = absurd (cc)
no_flow kind bytes none = refl

no_settled_flow : (kind : Kind) (bytes : List ℕ) → is_source kind ≡ false → settled_source_flow kind bytes ≡ []
no_settled_flow (Source path form limit) bytes none = absurd (cc)
no_settled_flow kind bytes none = refl

nothing_carried : (ends : Outcome) (kind : Kind) (bytes : List ℕ) → is_source kind ≡ false → carried_as ends kind bytes ≡ []
nothing_carried Whole kind bytes none = no_flow kind bytes none
nothing_carried ReadFault kind bytes none = no_settled_flow kind bytes none
nothing_carried (BadFrame offset) kind bytes none = no_settled_flow kind bytes none
nothing_carried (TooLong limit) kind bytes none = no_settled_flow kind (take limit bytes) none
nothing_carried WriteFault kind bytes none = no_settled_flow kind bytes none
nothing_carried Broken kind bytes none = no_settled_flow kind bytes none
nothing_carried NoMemory kind bytes none = no_settled_flow kind bytes none

-- what the pipe carries that stands at a place
of_pipe : (ends : Outcome) (bytes : List ℕ) (pipe : Pipe) (at : Option Pipe) → at ≡ Some pipe
    → option_map_or (λ (p : Pipe). carried_as ends p.kind bytes) at [] ≡ carried_as ends pipe.kind bytes
of_pipe ends bytes pipe at is = rw is refl

of_none : (ends : Outcome) (bytes : List ℕ) (at : Option Pipe) → at ≡ None → option_map_or (λ (p : Pipe). carried_as ends p.kind bytes) at [] ≡ []
of_none ends bytes at is = rw is refl

-- the first of what comes first comes first
pub prefix_on : (a b c : List ℕ) → IsPrefix a b → IsPrefix b c → IsPrefix a c
prefix_on a b c one two = (one.0 ++ two.0, two.1 ∙ ap (λ l. l ++ two.0) one.1 ∙ append_assoc a one.0 two.0)

-- the bytes at the path of the pipe that stands at a place
held_is : (held : Held) (pipes : List Pipe) (place : ℕ) (pipe : Pipe) (path bytes : List ℕ) → slice_get pipes place ≡ Some pipe → path_of pipe.kind ≡ Some path
    → get held path ≡ Some bytes → held_bytes held pipes place ≡ bytes
held_is held pipes place pipe path bytes at on there = rw (at, on, there) refl

-- the outcome of a source by itself
own_is : (pipes : List Pipe) (failed : ℕ → Bool) (given : ℕ → List ℕ) (source : ℕ) (pipe : Pipe) (reached : Option ℕ) → reached ≡ Some source → slice_get pipes source ≡ Some pipe
    → unwrap_or (option_and_then (own_at pipes failed given) reached) Whole ≡ unwrap_or (own_outcome pipe.kind (failed source) (given source)) Whole
own_is pipes failed given source pipe reached is at = rw (is, at) refl

-- nothing is left of what is all
nothing_left : (given rest bytes : List ℕ) → bytes ≡ given ++ rest → given ≡ bytes → rest ≡ []
nothing_left given rest bytes is all = append_cancel_left given rest [] (sym is ∙ sym all ∙ sym (append-nil given))

-- a source that is whole by itself ends so
ends_whole : (kind : Kind) (failed : Bool) (bytes : List ℕ) (behind : Outcome) → is_source kind ≡ true
    → unwrap_or (own_outcome kind failed bytes) Whole ≡ Whole → unwrap_or (own_outcome kind failed bytes) behind ≡ Whole
ends_whole (Source path form limit) true bytes behind source own = own
ends_whole (Source path form limit) false bytes behind source own = own
ends_whole kind failed bytes behind source own = absurd (cc)

module _ (pipes : List Pipe) (well : IsWellFormed pipes) (ways : Ways) (held : Held)
    (gave : (place : ℕ) (pipe : Pipe) → slice_get pipes place ≡ Some pipe → is_source pipe.kind ≡ true → Gave pipes ways held place pipe) where
  -- what each source carries of all that lies at its path
  abbrev all_flows : ℕ → Flow
  all_flows place = source_flows pipes (held_bytes held pipes) place

  -- what a source gave
  record GivesAt (place : ℕ) (kind : Kind) : Type 0 where
    rest : List ℕ
    all : held_bytes held pipes place ≡ ways.given place ++ rest
    none : ending pipes ways place ≡ Whole → rest ≡ []

  gives_at : (place : ℕ) (pipe : Pipe) → slice_get pipes place ≡ Some pipe → (kind : Kind) → pipe.kind ≡ kind → is_source kind ≡ true → GivesAt place kind
  gives_at place pipe at (Source path form limit) is source =
      let gives = (gave place pipe at (rw is refl)).there path (rw is refl) in
      record {
        rest = gives.2.0;
        all = held_is held pipes place pipe path gives.0 at (rw is refl) gives.1 ∙ gives.2.1;
        none = λ whole.
            let clean = source_clean path form limit (ways.failed place) (ways.given place) _ (rw (at, is) at (ap is_cause whole)) in
            let unshown : shown_of pipe.kind (ways.given place) ≡ None = rw is (whole_unshown form limit (ways.given place) clean.1) in
            nothing_left (ways.given place) gives.2.0 gives.0 gives.2.1 (gives.3 clean.0 unshown);
      }
  gives_at place pipe at kind is source = absurd (cc)

  carried_at : (place : ℕ) (pipe : Pipe) → slice_get pipes place ≡ Some pipe → carried pipes ways place ≡ carried_as (ending pipes ways place) pipe.kind (ways.given place)
  carried_at place pipe at = of_pipe (ending pipes ways place) (ways.given place) pipe (slice_get pipes place) at

  all_at : (place : ℕ) (pipe : Pipe) → slice_get pipes place ≡ Some pipe → all_flows place ≡ carried_as Whole pipe.kind (held_bytes held pipes place)
  all_at place pipe at = of_pipe Whole (held_bytes held pipes place) pipe (slice_get pipes place) at

  -- what each carried is the first of that
  first_by : (place : ℕ) (pipe : Option Pipe) → slice_get pipes place ≡ pipe → IsPrefix (carried pipes ways place) (all_flows place)
  first_by place None at =
      subst (λ (flow : Flow). IsPrefix flow (all_flows place)) (sym (of_none (ending pipes ways place) (ways.given place) (slice_get pipes place) at)) (all_flows place, refl)
  first_by place (Some pipe) at = elim (cases_Bool (is_source pipe.kind)) [
    | inl source ↦
        let gives = gives_at place pipe at pipe.kind refl source in
        subst (λ (flow : Flow). IsPrefix flow (all_flows place)) (sym (carried_at place pipe at))
        (subst (IsPrefix (carried_as (ending pipes ways place) pipe.kind (ways.given place))) (sym (all_at place pipe at ∙ ap (carried_as Whole pipe.kind) gives.all))
        (carried_is_first (ending pipes ways place) pipe.kind (ways.given place) gives.rest (is_pipe pipes well place pipe at).kind gives.none))
    | inr none ↦
        subst (λ (flow : Flow). IsPrefix flow (all_flows place))
        (sym (carried_at place pipe at ∙ nothing_carried (ending pipes ways place) pipe.kind (ways.given place) none)) (all_flows place, refl)
  ]

  carried_first : (place : ℕ) → IsPrefix (carried pipes ways place) (all_flows place)
  carried_first place = first_by place (slice_get pipes place) refl

  -- a whole source carried all of it
  carried_all : (place : ℕ) (pipe : Pipe) → slice_get pipes place ≡ Some pipe → is_source pipe.kind ≡ true → ending pipes ways place ≡ Whole → carried pipes ways place ≡ all_flows place
  carried_all place pipe at source whole =
      let gives = gives_at place pipe at pipe.kind refl source in
      carried_at place pipe at
      ∙ ap (λ (ends : Outcome). carried_as ends pipe.kind (ways.given place)) whole
      ∙ ap (carried_as Whole pipe.kind) (sym (gives.all ∙ ap (λ l. ways.given place ++ l) (gives.none whole) ∙ append-nil (ways.given place)))
      ∙ sym (all_at place pipe at)

  module _ (place : ℕ) (pipe : Pipe) (at : slice_get pipes place ≡ Some pipe) (sink : is_sink pipe.kind ≡ true) where
    no_source : (kind : Kind) → is_sink kind ≡ true → is_source kind ≡ false
    no_source (Source path form limit) is = absurd (cc)
    no_source kind is = refl

    settled_first : IsPrefix (settled_bytes pipes (carried pipes ways) pipe) (sink_bytes pipes all_flows pipe)
    settled_first = sink_bytes_grow pipes so_far wholly so_far-wholly (are_bounded pipes well) (carried pipes ways) all_flows carried_first pipe (is_pipe pipes well place pipe at).kind

    whole_first : source_outcome_at pipes ways.failed ways.given place ≡ Whole → IsPrefix (sink_bytes pipes (carried pipes ways) pipe) (sink_bytes pipes all_flows pipe)
    whole_first whole =
        let to = comes_to_source pipes well place (slice_get_within pipes place pipe at) in
        let own : unwrap_or (own_outcome to.pipe.kind (ways.failed to.source) (ways.given to.source)) Whole ≡ Whole =
        sym (own_is pipes ways.failed ways.given to.source to.pipe (source_of pipes place) to.reached to.stands) ∙ whole in
        let ended : ending pipes ways to.source ≡ Whole =
        ap (λ (p : Option Pipe). unwrap_or (option_and_then (λ (p : Pipe). own_outcome p.kind (ways.failed to.source) (ways.given to.source)) p)
        (outcome_behind (source_outcome_at pipes ways.failed ways.given to.source))) to.stands
        ∙ ends_whole to.pipe.kind (ways.failed to.source) (ways.given to.source) _ to.is own in
        let same = carried_all to.source to.pipe to.stands to.is ended in
        let none = no_source pipe.kind sink in
        let bytes : sink_bytes pipes (carried pipes ways) pipe ≡ sink_bytes pipes all_flows pipe =
        sym (whole_bytes pipes well place to.source pipe at none to.reached (carried pipes ways) (carried pipes ways) refl)
        ∙ whole_bytes pipes well place to.source pipe at none to.reached all_flows (carried pipes ways) same in
        ([], sym bytes ∙ sym (append-nil (sink_bytes pipes (carried pipes ways) pipe)))

    due_by : (outcome : Outcome) → source_outcome_at pipes ways.failed ways.given place ≡ outcome → IsPrefix (due_of pipes ways outcome pipe) (sink_bytes pipes all_flows pipe)
    due_by Whole is = whole_first is
    due_by ReadFault is = settled_first
    due_by WriteFault is = settled_first
    due_by (BadFrame offset) is = settled_first
    due_by (TooLong limit) is = settled_first
    due_by Broken is = settled_first
    due_by NoMemory is = settled_first

    -- what is due to a sink is the first of what the graph means
    pub due_first : IsPrefix (due_at pipes ways place pipe) (sink_bytes pipes all_flows pipe)
    due_first = due_by (source_outcome_at pipes ways.failed ways.given place) refl
