-- All that is open for a strand, taken out of the table and put back into it.
use Rattle.std.proofs.Common.{◌≡◌, ◌≢◌, ℕ, ◌<◌, List, length, get_or, set, Bool, true, false, is_some, Option, Some, None, slice_get, refl, sym, ap, ◌∙◌, subst, arith, inl, inr}
use Rattle.std.specs.Prelude.{MatchOption}
use Rattle.std.specs.List.{Contains}
use Rattle.std.specs.Option.{option_map_or}
use Rattle.std.proofs.lemmas.Bool.{cases_Bool}
use Rattle.std.proofs.lemmas.Bool.Decides.{eqb_tells}
use Rattle.std.proofs.lemmas.List.{get_or_default, length-set}
use Rattle.up_engine.proofs.Opened.{put_elsewhere, put_here}
use Rattle.up_engine.proofs.OwnSources.{sink_is_no_source, source_passes}
use Rattle.up_engine.proofs.PutParts.{is_sink_there, same_sinks}
use Rattle.up_engine.specs.Objects.{object_at}
use Rattle.up_engine.specs.Parts.{HasEnds, HasNone, HasSinkWhere, IsEndOf, IsStrandOf, PutsParts, SinksPut, SinksTaken, TakesParts, sinks_at, sinks_in, source_in, without_sink, without_source}
use Rattle.up_engine.specs.declared.object.Object.{Object}
use Rattle.up_engine.specs.declared.object.Object.TheVariants as objects
use Rattle.up_model.proofs.WellFormed.{there}
use Rattle.up_model.specs.Ends.{is_sink, is_source}
use Rattle.up_model.specs.Inputs.{ends_at_source, passes_at}
use Rattle.up_model.specs.Plans.{ends_at_sink}
use Rattle.up_model.specs.declared.kind.Kind.{Kind}
use Rattle.up_model.specs.declared.pipe.Pipe.{Pipe}
use Rattle.up_strand.specs.declared.strand_end.StrandParts.{StrandParts}

-- what is so at each number of a list is so of each place that it has
pub at_contained : (R : ℕ → Type 0) (places : List ℕ) → ((k : ℕ) → k < length places → R (get_or places k 0)) → (place : ℕ) → Contains places place → R place
at_contained R places each place has = subst R (get_or_default places has.0 0 place has.1 ∙ has.2) (each has.0 has.1)

pub is_source_there : (pipes : List Pipe) (place : ℕ) (pipe : Pipe) → slice_get pipes place ≡ Some pipe → passes_at ends_at_source pipes place ≡ is_source pipe.kind
is_source_there pipes place pipe there = ap (λ (p : Option Pipe). option_map_or (λ (pipe : Pipe). is_source pipe.kind) p false) there

no_source : {S : Type 0} (source : Option S) → is_some source ≡ false → source ≡ None
no_source None is = refl
no_source (Some s) is = absurd (cc)

module _ {S : Type 0} (K : Type 0) where
  -- what stands where this source was put
  abbrev as_object : Option S → Object S K
  as_object None = objects.None
  as_object (Some s) = objects.Source s

  source_of_object : (source : Option S) → source ≡ source_in (as_object source)
  source_of_object None = refl
  source_of_object (Some s) = refl

  end_of_source : (kind : Kind) (source : Option S) → is_some source ≡ is_source kind → is_sink kind ≡ false → IsEndOf kind (as_object source)
  end_of_source kind None is no_sink = (sym is, no_sink)
  end_of_source kind (Some s) is no_sink = sym is

module _ (pipes : List Pipe) (head : ℕ) (places : List ℕ) (strand : IsStrandOf pipes head places) where
  pub pipe_there : (place : ℕ) → Contains places place → (pipe : Pipe) × (slice_get pipes place ≡ Some pipe)
  pipe_there place has = there pipes place (at_contained (λ p. p < length pipes) places strand.within place has)

  head_below : head < length pipes
  head_below = at_contained (λ p. p < length pipes) places strand.within head strand.has_head

module _ {S K : Type 0} where
  both_out : (object : Object S K) → without_sink (without_source object) ≡ objects.None
  both_out objects.None = refl
  both_out (objects.Source s) = refl
  both_out (objects.Sink k) = refl

  same_sinks_without : (object : Object S K) → sinks_in (without_source object) ≡ sinks_in object
  same_sinks_without objects.None = refl
  same_sinks_without (objects.Source s) = refl
  same_sinks_without (objects.Sink k) = refl

  module _ (pipes : List Pipe) (head : ℕ) (places : List ℕ) (strand : IsStrandOf pipes head places) where
    no_source_there : (place : ℕ) (pipe : Pipe) (object : Object S K) → slice_get pipes place ≡ Some pipe → Contains places place → place ≢ head
        → IsEndOf pipe.kind object → without_sink object ≡ objects.None
    no_source_there place pipe objects.None is has apart end = refl
    no_source_there place pipe (objects.Source s) is has apart end = absurd (apart (strand.one_source place has (source_passes pipes place pipe is end)))
    no_source_there place pipe (objects.Sink k) is has apart end = refl

    module _ (before after : List (Object S K)) (size : length before ≡ length pipes) (ends : HasEnds places pipes before)
        (taken : SinksTaken places (set before head (without_source (object_at before head))) after) where
      abbrev mid : List (Object S K)
      mid = set before head (without_source (object_at before head))

      mid_here : (place : ℕ) → place ≡ head → object_at mid place ≡ without_source (object_at before head)
      mid_here place same = put_here before head place (without_source (object_at before head)) (let within = head_below pipes head places strand in omega (arith, within, size)) same

      mid_other : (place : ℕ) → place ≢ head → object_at mid place ≡ object_at before place
      mid_other place apart = put_elsewhere before head place (without_source (object_at before head)) apart

      none_left : HasNone places after
      none_left place has =
          at_contained (λ p. object_at after p ≡ without_sink (object_at mid p)) places taken.here place has
          ∙ elim (eqb_tells place head) [
            | inl same ↦ ap without_sink (mid_here place same.1) ∙ both_out (object_at before head)
            | inr apart ↦
                let pipe = pipe_there pipes head places strand place has in
                ap without_sink (mid_other place apart.1) ∙ no_source_there place pipe.0 (object_at before place) pipe.1 has apart.1 (ends place pipe.0 has pipe.1)
          ]

      same_here : (place : ℕ) → sinks_in (object_at mid place) ≡ sinks_in (object_at before place)
      same_here place = elim (eqb_tells place head) [
        | inl same ↦ ap sinks_in (mid_here place same.1) ∙ same_sinks_without (object_at before head) ∙ ap (λ p. sinks_in (object_at before p)) (sym same.1)
        | inr apart ↦ ap sinks_in (mid_other place apart.1)
      ]

      pub takes_parts : (parts : StrandParts S K) → parts.source ≡ source_in (object_at before head) → parts.sinks ≡ sinks_at mid places
          → TakesParts places head before after parts
      takes_parts parts source sinks = record {
        are = record { source = source; sinks = sinks ∙ same_sinks mid before places (λ k below. same_here (get_or places k 0)) };
        none = none_left;
        others = record {
          size = taken.size ∙ length-set before head (without_source (object_at before head));
          same = λ place not. taken.others place not ∙ mid_other place (λ is. not (subst (Contains places) (sym is) strand.has_head));
        };
      }

    module _ (before mid after : List (Object S K)) (source : Option S) (sinks : List K) (is_there : is_some source ≡ passes_at ends_at_source pipes head)
        (size : length before ≡ length pipes) (none : HasNone places before)
        (put : MatchOption source (mid ≡ before) (λ s. mid ≡ set before head (objects.Source s))) (puts : SinksPut pipes places mid after sinks) where
      set_head : (source : Option S) → MatchOption source (mid ≡ before) (λ s. mid ≡ set before head (objects.Source s))
          → (object_at mid head ≡ as_object K source) × ((place : ℕ) → place ≢ head → object_at mid place ≡ object_at before place) × (length mid ≡ length before)
      set_head None is = (ap (λ t. object_at t head) is ∙ none head strand.has_head, λ place apart. ap (λ t. object_at t place) is, ap length is)
      set_head (Some s) is = (
        ap (λ t. object_at t head) is ∙ put_here before head head (objects.Source s) (let within = head_below pipes head places strand in omega (arith, within, size)) refl,
        λ place apart. ap (λ t. object_at t place) is ∙ put_elsewhere before head place (objects.Source s) apart,
        ap length is ∙ length-set before head (objects.Source s),
      )

      abbrev was_set : (object_at mid head ≡ as_object K source) × ((place : ℕ) → place ≢ head → object_at mid place ≡ object_at before place) × (length mid ≡ length before)
      was_set = set_head source put

      where_sink : (place : ℕ) → Contains places place → HasSinkWhere (passes_at ends_at_sink pipes place) (object_at mid place) (object_at after place)
      where_sink place has = at_contained (λ p. HasSinkWhere (passes_at ends_at_sink pipes p) (object_at mid p) (object_at after p)) places puts.here place has

      -- where no sink is to stand, the end of the pipe stands there before the sinks are put in
      end_before : (place : ℕ) (pipe : Pipe) → Contains places place → slice_get pipes place ≡ Some pipe → is_sink pipe.kind ≡ false → IsEndOf pipe.kind (object_at mid place)
      end_before place pipe has is no_sink = elim (eqb_tells place head) [
        | inl same ↦
            let source_is : is_some source ≡ is_source pipe.kind = is_there ∙ ap (passes_at ends_at_source pipes) (sym same.1) ∙ is_source_there pipes place pipe is in
            subst (IsEndOf pipe.kind) (sym (ap (object_at mid) same.1 ∙ was_set.0)) (end_of_source K pipe.kind source source_is no_sink)
        | inr apart ↦
            subst (IsEndOf pipe.kind) (sym (was_set.1 place apart.1 ∙ none place has)) (elim (cases_Bool (is_source pipe.kind)) [
              | inl source ↦ absurd (apart.1 (strand.one_source place has (source_passes pipes place pipe is source)))
              | inr not ↦ (not, no_sink)
            ])
      ]

      end_at : (sink : Bool) (place : ℕ) (pipe : Pipe) → Contains places place → slice_get pipes place ≡ Some pipe → is_sink pipe.kind ≡ sink
          → HasSinkWhere sink (object_at mid place) (object_at after place) → IsEndOf pipe.kind (object_at after place)
      end_at true place pipe has is kind one = subst (IsEndOf pipe.kind) (sym one.1) kind
      end_at false place pipe has is kind same = subst (IsEndOf pipe.kind) (sym same) (end_before place pipe has is kind)

      source_at : (sink : Bool) (pipe : Pipe) → slice_get pipes head ≡ Some pipe → is_sink pipe.kind ≡ sink
          → HasSinkWhere sink (object_at mid head) (object_at after head) → source ≡ source_in (object_at after head)
      source_at true pipe is kind one =
          no_source source (is_there ∙ is_source_there pipes head pipe is ∙ sink_is_no_source pipe.kind kind) ∙ sym (ap source_in one.1)
      source_at false pipe is kind same = source_of_object K source ∙ ap source_in (sym (same ∙ was_set.0))

      pub puts_parts : PutsParts places head pipes before after (record { source = source; sinks = sinks })
      puts_parts = record {
        are = record {
          source = let pipe = pipe_there pipes head places strand head strand.has_head in
              source_at (is_sink pipe.0.kind) pipe.0 pipe.1 refl
              (subst (λ (b : Bool). HasSinkWhere b (object_at mid head) (object_at after head)) (is_sink_there pipes head pipe.0 pipe.1) (where_sink head strand.has_head));
          sinks = puts.are;
        };
        ends = λ place pipe has is. end_at (is_sink pipe.kind) place pipe has is refl
            (subst (λ (b : Bool). HasSinkWhere b (object_at mid place) (object_at after place)) (is_sink_there pipes place pipe is) (where_sink place has));
        others = record {
          size = puts.size ∙ was_set.2;
          same = λ place not. puts.others place not ∙ was_set.1 place (λ is. not (subst (Contains places) (sym is) strand.has_head));
        };
      }
