-- A strand that did nothing yet owes its sinks nothing, and what it has is as it was given.
use Rattle.std.proofs.Common.{◌≡◌, ℕ, zero, suc, ◌+◌, ◌==◌, List, [], cond, length, Bool, true, false, Option, Some, None, slice_get, refl, sym, ap, ◌∙◌, arith, inl, inr}
use Rattle.std.specs.Io.KnownBytes.{Consumes}
use Rattle.std.specs.Option.{option_map_or}
use Rattle.std.proofs.KnownBytes.{Appends-nil}
use Rattle.std.proofs.lemmas.Bool.{cases_Bool}
use Rattle.up_model.proofs.EveryKind.{lawful}
use Rattle.up_model.proofs.WellFormed.{are_bounded}
use Rattle.up_model.specs.Ends.{is_source}
use Rattle.up_model.specs.Kinds.{IsWithinBounds, settled_output, written_of}
use Rattle.up_model.specs.Meaning.{bytes_by, done_by, flow_by, flow_within, shared, so_far, taken_at, taken_from, work_at}
use Rattle.up_model.specs.Packet.{Flow}
use Rattle.up_model.specs.Shares.{share_by}
use Rattle.up_model.specs.WellFormed.{IsWellFormed}
use Rattle.up_model.specs.declared.fan_out.FanOut.{FanOut}
use Rattle.up_model.specs.declared.fan_out.FanOut.TheVariants as fans
use Rattle.up_model.specs.declared.form.SinkForm.TheVariants as sink_forms
use Rattle.up_model.specs.declared.kind.Kind.{Kind}
use Rattle.up_model.specs.declared.kind.Kind.TheVariants as kinds
use Rattle.up_model.specs.declared.pipe.Pipe.{Pipe}
use Rattle.up_outside.specs.Counts.{CountsWhere}
use Rattle.up_outside.specs.States.{SourceState, SinkState}
use Rattle.up_outside.specs.Told.{Then}
use Rattle.up_strand.proofs.Writes.{same_itself}
use Rattle.up_strand.specs.History.{doing, to_head}
use Rattle.up_strand.specs.StrandCalls.{SinkEnds, SourceEnds, begun, bytes_due}

-- a sink writes nothing of nothing, and no other kind writes anything
written_none : (kind : Kind) → written_of kind [] ≡ []
written_none (kinds.Sink path sink_forms.Raw) = refl
written_none (kinds.Sink path sink_forms.Framed) = refl
written_none kind = refl

share_none : (fan_out : FanOut) (select : Option ℕ) → share_by fan_out select [] ≡ []
share_none fans.None select = refl
share_none fans.One select = refl
share_none fans.All select = refl
share_none fans.Selected None = refl
share_none fans.Selected (Some number) = refl

-- of nothing comes nothing while the flow goes on: a source puts out what it is fed, and every kind starts with nothing
done_none : (place : ℕ) (kind : Kind) (taken : Flow) → IsWithinBounds kind → taken ≡ [] → (done_by so_far place kind taken).flow ≡ []
done_none place (kinds.Source path form limit) taken within none = none
done_none place kind taken within none = ap (settled_output kind) none ∙ ((lawful kind).flows within).settles_nothing

shared_none : (input : Option Pipe) (select : Option ℕ) (flow : Flow) → flow ≡ [] → shared input select flow ≡ []
shared_none None select flow none = refl
shared_none (Some input) select flow none = ap (shared (Some input) select) none ∙ share_none _ select

module _ (pipes : List Pipe) (well : IsWellFormed pipes) (head : ℕ) where
  from_none : (flows : ℕ → Flow) → ((place : ℕ) → flows place ≡ []) → (select input : Option ℕ) → taken_from pipes flows select input ≡ []
  from_none flows none select None = refl
  from_none flows none select (Some input) = shared_none (slice_get pipes input) select (flows input) (none input)

  takes_none : (flows : ℕ → Flow) → ((place : ℕ) → flows place ≡ []) → (place : ℕ) (pipe : Pipe) → taken_at so_far pipes (to_head head []) flows place pipe ≡ []
  takes_none flows none place pipe = elim (cases_Bool (place == head)) [
    | inl here ↦ rw here refl
    | inr other ↦ rw other (from_none flows none pipe.select pipe.input)
  ]

  work_none : (flows : ℕ → Flow) → ((place : ℕ) → flows place ≡ []) → (place : ℕ) (pipe : Option Pipe) → slice_get pipes place ≡ pipe
      → (work_at so_far pipes (to_head head []) flows place pipe).flow ≡ []
  work_none flows none place None is = refl
  work_none flows none place (Some pipe) is = done_none place _ _ (are_bounded pipes well place pipe is) (takes_none flows none place pipe)

  puts_none : (steps place : ℕ) → flow_within so_far pipes (to_head head []) steps place ≡ []
  puts_none zero place = refl
  puts_none (suc steps) place = work_none (flow_within so_far pipes (to_head head []) steps) (puts_none steps) place (slice_get pipes place) refl

-- no head had anything yet
had_by_kind : (source : Bool) (flow : Flow) → cond source flow flow ≡ flow
had_by_kind true flow = refl
had_by_kind false flow = refl

had_none : (flow : Flow) (pipe : Option Pipe) → option_map_or (λ (pipe : Pipe). cond (is_source pipe.kind) flow flow) pipe flow ≡ flow
had_none flow None = refl
had_none flow (Some pipe) = had_by_kind (is_source pipe.kind) flow

-- nothing is to be written yet
pub nothing_due : (pipes : List Pipe) (well : IsWellFormed pipes) (head : ℕ) (source : Option SourceState) (told : ℕ → SinkState) (place : ℕ) (pipe : Pipe)
    → bytes_due (begun pipes head source told) place pipe (doing None) ≡ []
nothing_due pipes well head source told place pipe =
    ap (λ (had : Flow). bytes_by so_far pipes (to_head head had) place pipe) (had_none [] (slice_get pipes head))
    ∙ ap (written_of pipe.kind) (takes_none pipes well head (flow_by so_far pipes (to_head head [])) (λ p. puts_none pipes well head (length pipes) p) place pipe)
    ∙ written_none pipe.kind

uncounted : (count : ℕ) → CountsWhere false count count
uncounted count = record { later = omega arith; rose = λ wrong. absurd (cc); stays = λ is. refl }

-- a source of which nothing was read, and a sink that was given nothing
pub source_unread : (pipes : List Pipe) (head : ℕ) (told : ℕ → SinkState) (start : SourceState) → SourceEnds (begun pipes head (Some start) told) start
source_unread pipes head told start = record {
  start = start;
  told = refl;
  took = record { bytes_of = consumes_none start.left; sum = same_sum start.moved; place = refl };
  faults = uncounted start.faults;
  once = omega arith;
  left = refl;
  whole = λ is. absurd (cc);
  settled = λ offset is. absurd (cc);
}
  where
    consumes_none : (left : Option (List ℕ)) → Consumes left left []
    consumes_none None = tt
    consumes_none (Some bytes) = refl

    same_sum : (moved : Option ℕ) → Then (λ before after. after ≡ before + 0) moved moved
    same_sum None = tt
    same_sum (Some count) = omega arith

pub sink_ungiven : (pipes : List Pipe) (well : IsWellFormed pipes) (head : ℕ) (source : Option SourceState) (told : ℕ → SinkState) (place : ℕ) (pipe : Pipe)
    → SinkEnds (begun pipes head source told) place pipe (told place)
sink_ungiven pipes well head source told place pipe =
    let due = nothing_due pipes well head source told place pipe in
    record {
      put = [];
      appended = Appends-nil (told place).written;
      first = (bytes_due (begun pipes head source told) place pipe (doing None), refl);
      all = λ long works. sym due;
      faults = uncounted (told place).faults;
      once = omega arith;
      left = refl;
      same = same_itself (told place);
    }
