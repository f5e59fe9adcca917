-- A run without a cause: every source gave all bytes at its path, and every sink has all of its own.
use Rattle.std.proofs.Common.{◌≡◌, ℕ, List, [], Bool, true, false, Option, Some, None, slice_get, refl, sym, ap, ◌∙◌, inl, inr}
use Rattle.std.specs.Prelude.{option_and_then, unwrap_or}
use Rattle.std.specs.FinMap.{get}
use Rattle.std.specs.Option.{option_map_or}
use Rattle.std.proofs.Math.Path.{fun_ext}
use Rattle.std.proofs.lemmas.Bool.{cases_Bool}
use Rattle.up_engine.specs.Runs.{Ways, ending, carried, due_of, due_at, held_bytes, Gave, Wrote}
use Rattle.up_model.proofs.Members.{passing_pipe}
use Rattle.up_model.proofs.Shown.{is_of_bytes, not_fault, whole_unshown}
use Rattle.up_model.specs.Ends.{is_sink, is_source}
use Rattle.up_model.specs.Inputs.{ends_at_source, passes_at, source_of}
use Rattle.up_model.specs.Meaning.{flow_by, sink_bytes, taken_by, to_sources, wholly}
use Rattle.up_model.specs.Kinds.{written_of}
use Rattle.up_model.specs.Outcomes.{carried_as, is_cause, own_at, own_outcome, shown_of, source_flows, source_outcome, source_outcome_at}
use Rattle.up_model.specs.Packet.{Flow}
use Rattle.up_model.specs.declared.form.SinkForm.{SinkForm}
use Rattle.up_model.specs.declared.form.SourceForm.{SourceForm}
use Rattle.up_model.specs.declared.kind.Kind.{Kind}
use Rattle.up_model.specs.declared.kind.Kind.TheVariants.{Source, Sink}
use Rattle.up_model.specs.declared.outcome.Outcome.{Outcome}
use Rattle.up_model.specs.declared.outcome.Outcome.TheVariants.{Whole, ReadFault, WriteFault, BadFrame, TooLong, Broken, NoMemory}
use Rattle.up_model.specs.declared.pipe.Pipe.{Pipe}
use Rattle.up_outside.specs.Held.{Held}
use Rattle.upipe_run.specs.WholeOutput.{IsWholeOutput, IsWholeSink, IsWholeSource}

-- bytes that tell no cause are whole
told_whole : (outcome : Outcome) → is_of_bytes outcome ≡ true → is_cause outcome ≡ false → outcome ≡ Whole
told_whole Whole told none = refl
told_whole ReadFault told none = absurd (cc)
told_whole WriteFault told none = absurd (cc)
told_whole (BadFrame offset) told none = absurd (cc)
told_whole (TooLong limit) told none = absurd (cc)
told_whole Broken told none = absurd (cc)
told_whole NoMemory told none = absurd (cc)

-- a source without a cause: no read failed, and its bytes are whole
pub source_clean : (path : List ℕ) (form : SourceForm) (limit : ℕ) (failed : Bool) (bytes : List ℕ) (behind : Outcome)
    → is_cause (unwrap_or (own_outcome (Source path form limit) failed bytes) behind) ≡ false → (failed ≡ false) × (source_outcome form limit bytes ≡ Whole)
source_clean path form limit true bytes behind none = absurd (cc)
source_clean path form limit false bytes behind none = (refl, told_whole (source_outcome form limit bytes) (not_fault form limit bytes) none)

-- a pipe without a cause is whole by itself, or ends as its source does
pub own_whole : (kind : Kind) (failed : Bool) (bytes : List ℕ) (behind : Outcome) → is_cause (unwrap_or (own_outcome kind failed bytes) behind) ≡ false
    → unwrap_or (own_outcome kind failed bytes) Whole ≡ Whole
own_whole (Source path form limit) failed bytes behind none =
    let clean = source_clean path form limit failed bytes behind none in
    rw (clean.0, clean.1) refl
own_whole (Sink path form) true bytes behind none = absurd (cc)
own_whole (Sink path form) false bytes behind none = refl
own_whole kind failed bytes behind none = refl

-- a sink without one: no write failed
pub sink_clean : (path : List ℕ) (form : SinkForm) (failed : Bool) (bytes : List ℕ) (behind : Outcome)
    → is_cause (unwrap_or (own_outcome (Sink path form) failed bytes) behind) ≡ false → failed ≡ false
sink_clean path form true bytes behind none = absurd (cc)
sink_clean path form false bytes behind none = refl

module _ (pipes : List Pipe) (ways : Ways)
    (none : (place : ℕ) (pipe : Pipe) → slice_get pipes place ≡ Some pipe → is_cause (ending pipes ways place) ≡ false) where
  -- so the source of every pipe is whole
  pub source_whole : (place : ℕ) → source_outcome_at pipes ways.failed ways.given place ≡ Whole
  source_whole place = by (source_of pipes place)
    where
      at : (source : ℕ) (pipe : Option Pipe) → slice_get pipes source ≡ pipe
          → unwrap_or (option_and_then (λ (pipe : Pipe). own_outcome pipe.kind (ways.failed source) (ways.given source)) pipe) Whole ≡ Whole
      at source None is = refl
      at source (Some pipe) is = own_whole pipe.kind (ways.failed source) (ways.given source) _ (rw is at (none source pipe is))

      by : (source : Option ℕ) → unwrap_or (option_and_then (own_at pipes ways.failed ways.given) source) Whole ≡ Whole
      by None = refl
      by (Some source) = at source (slice_get pipes source) refl

  -- and all of its meaning is due to every sink
  due_whole : (place : ℕ) (sink : Pipe) → due_at pipes ways place sink ≡ sink_bytes pipes (carried pipes ways) sink
  due_whole place sink = ap (λ (outcome : Outcome). due_of pipes ways outcome sink) (source_whole place)

  module _ (held : Held) (gave : (place : ℕ) (pipe : Pipe) → slice_get pipes place ≡ Some pipe → is_source pipe.kind ≡ true → Gave pipes ways held place pipe) where
    -- what a source gave, where it stands at a place
    record GaveAll (place : ℕ) (path : List ℕ) (form : SourceForm) (limit : ℕ) : Type 0 where
      whole : ending pipes ways place ≡ Whole
      held_there : get held path ≡ Some (ways.given place)
      within : source_outcome form limit (ways.given place) ≡ Whole

    gave_all : (place : ℕ) (pipe : Pipe) (path : List ℕ) (form : SourceForm) (limit : ℕ) → slice_get pipes place ≡ Some pipe → pipe.kind ≡ Source path form limit
        → GaveAll place path form limit
    gave_all place pipe path form limit there is =
        let gives = (gave place pipe there (rw is refl)).there path (rw is refl) in
        let clean = source_clean path form limit (ways.failed place) (ways.given place) _ (rw (there, is) at (none place pipe there)) in
        let whole : ending pipes ways place ≡ Whole = rw (there, is, clean.0, clean.1) refl in
        let unshown : shown_of pipe.kind (ways.given place) ≡ None = rw is (whole_unshown form limit (ways.given place) clean.1) in
        record { whole = whole; held_there = gives.1 ∙ ap Some (sym (gives.3 clean.0 unshown)); within = clean.1 }

    source_is : (place : ℕ) (pipe : Pipe) → slice_get pipes place ≡ Some pipe → (kind : Kind) → pipe.kind ≡ kind → IsWholeSource held kind
    source_is place pipe there (Source path form limit) is =
        let all = gave_all place pipe path form limit there is in
        (ways.given place, all.held_there, all.within)
    source_is place pipe there kind is = tt

    -- what a source carried is the flow of the bytes at its path
    same_flow : (place : ℕ) (pipe : Pipe) → slice_get pipes place ≡ Some pipe → (kind : Kind) → pipe.kind ≡ kind → is_source kind ≡ true
        → carried pipes ways place ≡ source_flows pipes (held_bytes held pipes) place
    same_flow place pipe there (Source path form limit) is source =
        let all = gave_all place pipe path form limit there is in
        let one : carried pipes ways place ≡ carried_as Whole (Source path form limit) (ways.given place) =
        ap (λ (outcome : Outcome). option_map_or (λ (pipe : Pipe). carried_as outcome pipe.kind (ways.given place)) (slice_get pipes place) []) all.whole
        ∙ rw (there, is) refl in
        let other : source_flows pipes (held_bytes held pipes) place ≡ carried_as Whole (Source path form limit) (ways.given place) =
        rw (there, is, all.held_there) refl in
        one ∙ sym other
    same_flow place pipe there kind is source = absurd (cc)

    fed_same : to_sources pipes (carried pipes ways) ≡ to_sources pipes (source_flows pipes (held_bytes held pipes))
    fed_same = fun_ext (λ place. elim (cases_Bool (passes_at ends_at_source pipes place)) [
      | inl passes ↦
          let here = passing_pipe ends_at_source pipes place passes in
          rw passes (ap Some (same_flow place here.0 here.1 here.0.kind refl here.2))
      | inr fails ↦ rw fails refl
    ])

    same_bytes : (sink : Pipe) → sink_bytes pipes (carried pipes ways) sink ≡ sink_bytes pipes (source_flows pipes (held_bytes held pipes)) sink
    same_bytes sink = ap (λ (fed : ℕ → Option Flow). written_of sink.kind (taken_by pipes (flow_by wholly pipes fed) sink)) fed_same

    module _ (after : Held) (shut : (place : ℕ) → ways.shut place ≡ false → ways.failed place ≡ true)
        (wrote : (place : ℕ) (pipe : Pipe) → slice_get pipes place ≡ Some pipe → is_sink pipe.kind ≡ true → Wrote pipes ways after place pipe) where
      is_shut : (place : ℕ) → ways.failed place ≡ false → ways.shut place ≡ true
      is_shut place clean = elim (cases_Bool (ways.shut place)) [
        | inl is ↦ is
        | inr not ↦ absurd (let wrong : true ≡ false = sym (shut place not) ∙ clean in cc)
      ]

      sink_is : (place : ℕ) (pipe : Pipe) → slice_get pipes place ≡ Some pipe → (kind : Kind) → pipe.kind ≡ kind
          → IsWholeSink after (sink_bytes pipes (source_flows pipes (held_bytes held pipes)) pipe) kind
      sink_is place pipe there (Sink path form) is =
          let clean = sink_clean path form (ways.failed place) (ways.given place) _ (rw (there, is) at (none place pipe there)) in
          let lies = (wrote place pipe there (rw is refl)).there path (rw is refl) (is_shut place clean) in
          lies.1 ∙ ap Some (lies.3 clean ∙ due_whole place pipe ∙ same_bytes pipe)
      sink_is place pipe there kind is = tt

      pub whole_output : IsWholeOutput held after pipes
      whole_output = record {
        sources = λ place pipe there. source_is place pipe there pipe.kind refl;
        sinks = λ place pipe there. sink_is place pipe there pipe.kind refl;
      }
