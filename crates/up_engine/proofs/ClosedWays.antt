-- How the pipes of a graph ended, once the closes of some of its sinks were refused: those sinks have a fault, and all else is as it was.
use Rattle.std.proofs.Common.{◌≡◌, ℕ, ◌||◌, not, length, List, [], Bool, true, false, Option, Some, None, slice_get, refl, sym, ap, ◌∙◌, inl, inr, ◌⊎◌}
use Rattle.std.proofs.lemmas.Bool.{true≢false}
use Rattle.std.specs.Option.{option_map_or}
use Rattle.std.specs.Prelude.{option_and_then, unwrap_or}
use Rattle.up_engine.proofs.OtherPaths.{sink_no_source}
use Rattle.up_engine.specs.Objects.{outcome_closed}
use Rattle.up_engine.specs.Runs.{Ways, carried, due_at, due_of, ending}
use Rattle.up_model.proofs.Members.{passing_pipe}
use Rattle.up_model.proofs.Steps.{found_passes}
use Rattle.up_model.specs.Ends.{is_sink, is_source}
use Rattle.up_model.specs.Inputs.{ends_at_source, passes_at, source_of}
use Rattle.up_model.specs.Meaning.{settled_bytes, sink_bytes}
use Rattle.up_model.specs.Outcomes.{carried_as, outcome_behind, own_at, own_outcome, source_outcome_at}
use Rattle.up_model.specs.Packet.{Flow}
use Rattle.up_model.specs.Plans.{ends_at_sink}
use Rattle.up_model.specs.declared.kind.Kind.{Kind}
use Rattle.up_model.specs.declared.kind.Kind.TheVariants.{Sink}
use Rattle.up_model.specs.declared.outcome.Outcome.{Outcome}
use Rattle.up_model.specs.declared.outcome.Outcome.TheVariants as outcomes
use Rattle.up_model.specs.declared.pipe.Pipe.{Pipe}
use mathlib.Core.Path.{fun_ext}

-- the ways of a run, where the closes at these places were refused too
abbrev pub ways_closed : Ways → (ℕ → Bool) → Ways
ways_closed ways refused = record {
  given = ways.given;
  failed = λ place. ways.failed place || refused place;
  shut = λ place. not (refused place);
}

pub or_false : (a b : Bool) → b ≡ false → (a || b) ≡ a
or_false true b none = refl
or_false false b none = none

or_true : (a b : Bool) → b ≡ true → (a || b) ≡ true
or_true true b one = refl
or_true false b one = one

pub not_so : (b : Bool) → not b ≡ true → b ≡ false
not_so true is = absurd (cc)
not_so false is = refl

pub true_or_false : (b : Bool) → (b ≡ true) ⊎ (b ≡ false)
true_or_false true = inl refl
true_or_false false = inr refl

-- a sink whose close was refused has a write fault
sink_closed : (kind : Kind) (failed : Bool) (bytes : List ℕ) (behind later : Outcome) → is_sink kind ≡ true
    → outcome_closed true (unwrap_or (own_outcome kind failed bytes) (outcome_behind behind))
    ≡ unwrap_or (own_outcome kind true bytes) (outcome_behind later)
sink_closed (Sink path form) true bytes behind later is = refl
sink_closed (Sink path form) false bytes outcomes.Whole later is = refl
sink_closed (Sink path form) false bytes outcomes.ReadFault later is = refl
sink_closed (Sink path form) false bytes outcomes.WriteFault later is = refl
sink_closed (Sink path form) false bytes (outcomes.BadFrame offset) later is = refl
sink_closed (Sink path form) false bytes (outcomes.TooLong limit) later is = refl
sink_closed (Sink path form) false bytes outcomes.Broken later is = refl
sink_closed (Sink path form) false bytes outcomes.NoMemory later is = refl
sink_closed kind failed bytes behind later is = absurd (cc)

-- a sink carries nothing of its own
sink_carries : (kind : Kind) (ends : Outcome) (bytes : List ℕ) → is_sink kind ≡ true → carried_as ends kind bytes ≡ []
sink_carries (Sink path form) outcomes.Whole bytes is = refl
sink_carries (Sink path form) outcomes.ReadFault bytes is = refl
sink_carries (Sink path form) outcomes.WriteFault bytes is = refl
sink_carries (Sink path form) (outcomes.BadFrame offset) bytes is = refl
sink_carries (Sink path form) (outcomes.TooLong limit) bytes is = refl
sink_carries (Sink path form) outcomes.Broken bytes is = refl
sink_carries (Sink path form) outcomes.NoMemory bytes is = refl
sink_carries kind ends bytes is = absurd (cc)

-- whole at the end is whole before
pub whole_before : (refused : Bool) (outcome : Outcome) → outcome_closed refused outcome ≡ outcomes.Whole → outcome ≡ outcomes.Whole
whole_before false outcome is = is
whole_before true outcomes.Whole is = refl
whole_before true outcomes.ReadFault is = absurd (cc)
whole_before true outcomes.WriteFault is = absurd (cc)
whole_before true (outcomes.BadFrame offset) is = absurd (cc)
whole_before true (outcomes.TooLong limit) is = absurd (cc)
whole_before true outcomes.Broken is = absurd (cc)
whole_before true outcomes.NoMemory is = absurd (cc)

module _ (pipes : List Pipe) (ways : Ways) (refused : ℕ → Bool)
    (of_sinks : (place : ℕ) → refused place ≡ true → passes_at ends_at_sink pipes place ≡ true) where
  pub not_refused : (place : ℕ) → passes_at ends_at_source pipes place ≡ true → refused place ≡ false
  not_refused place source = elim (true_or_false (refused place)) [
    | inl is ↦
        let sink = passing_pipe ends_at_sink pipes place (of_sinks place is) in
        let both : is_source sink.0.kind ≡ true = rw sink.1 at source in
        absurd (true≢false (sym both ∙ sink_no_source sink.0.kind sink.2))
    | inr is ↦ is
  ]

  own_same : (place : ℕ) → refused place ≡ false
      → own_at pipes (ways_closed ways refused).failed ways.given place ≡ own_at pipes ways.failed ways.given place
  own_same place none =
      ap (λ (failed : Bool). option_and_then (λ (pipe : Pipe). own_outcome pipe.kind failed (ways.given place)) (slice_get pipes place))
      (or_false (ways.failed place) (refused place) none)

  by_source : (source : Option ℕ) (place : ℕ) → source_of pipes place ≡ source
      → unwrap_or (option_and_then (own_at pipes (ways_closed ways refused).failed ways.given) source) outcomes.Whole
      ≡ unwrap_or (option_and_then (own_at pipes ways.failed ways.given) source) outcomes.Whole
  by_source None place of = refl
  by_source (Some source) place of =
      let found = found_passes ends_at_source pipes (length pipes) place source of in
      ap (λ (own : Option Outcome). unwrap_or own outcomes.Whole) (own_same source (not_refused source (rw found.1 found.2)))

  -- no source's outcome is another
  pub source_outcome_same : (place : ℕ)
      → source_outcome_at pipes (ways_closed ways refused).failed ways.given place ≡ source_outcome_at pipes ways.failed ways.given place
  source_outcome_same place = by_source (source_of pipes place) place refl

  -- the outcome of each pipe once all is closed
  pub ending_closed : (place : ℕ) → outcome_closed (refused place) (ending pipes ways place) ≡ ending pipes (ways_closed ways refused) place
  ending_closed place = elim (true_or_false (refused place)) [
    | inl is ↦
        let sink = passing_pipe ends_at_sink pipes place (of_sinks place is) in
        let now : (ways_closed ways refused).failed place ≡ true = or_true (ways.failed place) (refused place) is in
        ap (λ (flag : Bool). outcome_closed flag (ending pipes ways place)) is
        ∙ rw (sink.1) (sink_closed sink.0.kind (ways.failed place) (ways.given place) (source_outcome_at pipes ways.failed ways.given place)
        (source_outcome_at pipes (ways_closed ways refused).failed ways.given place) sink.2
        ∙ ap (λ (flag : Bool). unwrap_or (own_outcome sink.0.kind flag (ways.given place))
        (outcome_behind (source_outcome_at pipes (ways_closed ways refused).failed ways.given place))) (sym now))
    | inr is ↦
        ap (λ (flag : Bool). outcome_closed flag (ending pipes ways place)) is
        ∙ ap (λ (own : Option Outcome). unwrap_or own (outcome_behind (source_outcome_at pipes ways.failed ways.given place))) (sym (own_same place is))
        ∙ ap (λ (behind : Outcome). unwrap_or (own_at pipes (ways_closed ways refused).failed ways.given place) (outcome_behind behind)) (sym (source_outcome_same place))
  ]

  carried_at : (place : ℕ) → carried pipes (ways_closed ways refused) place ≡ carried pipes ways place
  carried_at place = elim (true_or_false (refused place)) [
    | inl is ↦
        let sink = passing_pipe ends_at_sink pipes place (of_sinks place is) in
        rw (sink.1) (sink_carries sink.0.kind _ (ways.given place) sink.2 ∙ sym (sink_carries sink.0.kind _ (ways.given place) sink.2))
    | inr is ↦
        sym (ap (λ (ends : Outcome). option_map_or (λ (pipe : Pipe). carried_as ends pipe.kind (ways.given place)) (slice_get pipes place) [])
        (sym (ap (λ (flag : Bool). outcome_closed flag (ending pipes ways place)) is) ∙ ending_closed place))
  ]

  -- what each source carried
  pub carried_closed : carried pipes (ways_closed ways refused) ≡ carried pipes ways
  carried_closed = fun_ext {f = carried pipes (ways_closed ways refused)} {g = carried pipes ways} carried_at

  due_as : (outcome : Outcome) (sink : Pipe) → due_of pipes (ways_closed ways refused) outcome sink ≡ due_of pipes ways outcome sink
  due_as outcomes.Whole sink = ap (λ (flows : ℕ → Flow). sink_bytes pipes flows sink) carried_closed
  due_as outcomes.ReadFault sink = ap (λ (flows : ℕ → Flow). settled_bytes pipes flows sink) carried_closed
  due_as outcomes.WriteFault sink = ap (λ (flows : ℕ → Flow). settled_bytes pipes flows sink) carried_closed
  due_as (outcomes.BadFrame offset) sink = ap (λ (flows : ℕ → Flow). settled_bytes pipes flows sink) carried_closed
  due_as (outcomes.TooLong limit) sink = ap (λ (flows : ℕ → Flow). settled_bytes pipes flows sink) carried_closed
  due_as outcomes.Broken sink = ap (λ (flows : ℕ → Flow). settled_bytes pipes flows sink) carried_closed
  due_as outcomes.NoMemory sink = ap (λ (flows : ℕ → Flow). settled_bytes pipes flows sink) carried_closed

  -- what is due to each sink
  pub due_closed : (place : ℕ) (sink : Pipe) → due_at pipes (ways_closed ways refused) place sink ≡ due_at pipes ways place sink
  due_closed place sink =
      ap (λ (outcome : Outcome). due_of pipes (ways_closed ways refused) outcome sink) (source_outcome_same place)
      ∙ due_as (source_outcome_at pipes ways.failed ways.given place) sink
