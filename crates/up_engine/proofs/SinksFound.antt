-- The sinks of a strand, by the places at which they stand in the table.
use Rattle.std.proofs.Common.{◌≡◌, ℕ, suc, ◌<◌, List, [], ◌∷◌, length, map, get_or, Bool, true, false, refl, sym, ap, ◌∙◌, subst, arith, inl, inr}
use Rattle.std.specs.List.{filter}
use Rattle.std.proofs.lemmas.Bool.{cases_Bool}
use Rattle.std.proofs.lemmas.List.{get_or-map, length-map}
use Rattle.std.proofs.lemmas.List.Elements.{Contains-get_or}
use Rattle.up_engine.proofs.OwnSources.{sink_is_no_source}
use Rattle.up_engine.proofs.PutParts.{is_sink_there}
use Rattle.up_engine.proofs.StrandParts.{pipe_there}
use Rattle.up_engine.specs.Objects.{object_at}
use Rattle.up_engine.specs.Parts.{HasEnds, IsEndOf, IsStrandOf, sinks_at, sinks_in}
use Rattle.up_engine.specs.declared.object.Object.{Object}
use Rattle.up_engine.specs.declared.object.Object.TheVariants as objects
use Rattle.up_model.specs.Ends.{is_sink}
use Rattle.up_model.specs.Inputs.{passes_at}
use Rattle.up_model.specs.Plans.{ends_at_sink}
use Rattle.up_model.specs.declared.kind.Kind.{Kind}
use Rattle.up_model.specs.declared.pipe.Pipe.{Pipe}

module _ {S K : Type 0} where
  -- a sink stands there where one is to, else none
  abbrev pub SinkWhere : Bool → Object S K → Type 0
  SinkWhere true object = (k : K) × (object ≡ objects.Sink k)
  SinkWhere false object = sinks_in object ≡ []

  sink_by_end : (kind : Kind) (object : Object S K) → IsEndOf kind object → SinkWhere (is_sink kind) object
  sink_by_end kind objects.None end = rw end.1 refl
  sink_by_end kind (objects.Source s) end =
      elim (cases_Bool (is_sink kind)) [
        | inl sink ↦ absurd (let no : true ≡ false = sym end ∙ sink_is_no_source kind sink in cc)
        | inr not ↦ rw not refl
      ]
  sink_by_end kind (objects.Sink k) end = rw end (k, refl)

  -- the sinks at some places are the objects at those that pass
  sinks_of_passing : (test : ℕ → Bool) (table : List (Object S K)) (places : List ℕ)
      → ((k : ℕ) → k < length places → SinkWhere (test (get_or places k 0)) (object_at table (get_or places k 0)))
      → map objects.Sink (sinks_at table places) ≡ map (object_at table) (filter test places)
  sinks_of_passing test table [] each = refl
  sinks_of_passing test table (place ∷ places) each =
      let rest = sinks_of_passing test table places (λ k below. each (suc k) (omega (arith, below))) in
      let first = each 0 (omega arith) in
      elim (cases_Bool (test place)) [
        | inl is ↦
            let one = subst (λ (b : Bool). SinkWhere b (object_at table place)) is first in
            rw (is, one.1) (ap (λ l. objects.Sink one.0 ∷ l) rest)
        | inr not ↦
            let none = subst (λ (b : Bool). SinkWhere b (object_at table place)) not first in
            rw (not, none) rest
      ]

  sink_there : (a b : K) → ◌≡◌ {A = Object S K} (objects.Sink a) (objects.Sink b) → a ≡ b
  sink_there a b is = cc

  module _ (pipes : List Pipe) (head : ℕ) (places : List ℕ) (strand : IsStrandOf pipes head places) (table : List (Object S K)) (ends : HasEnds places pipes table) where
    sinks_are : map objects.Sink (sinks_at table places) ≡ map (object_at table) (filter (passes_at ends_at_sink pipes) places)
    sinks_are = sinks_of_passing (passes_at ends_at_sink pipes) table places (λ k below.
        let has = Contains-get_or places k 0 below in
        let pipe = pipe_there pipes head places strand (get_or places k 0) has in
        subst (λ (b : Bool). SinkWhere b (object_at table (get_or places k 0))) (sym (is_sink_there pipes (get_or places k 0) pipe.0 pipe.1))
        (sink_by_end pipe.0.kind (object_at table (get_or places k 0)) (ends (get_or places k 0) pipe.0 has pipe.1)))

    -- as many as the strand has pipes that are sinks
    pub sinks_count : length (sinks_at table places) ≡ length (filter (passes_at ends_at_sink pipes) places)
    sinks_count = sym (length-map (sinks_at table places) objects.Sink) ∙ ap length sinks_are ∙ length-map (filter (passes_at ends_at_sink pipes) places) (object_at table)

    -- each stands at the place of its number
    pub sink_stands : (j : ℕ) (d : K) → j < length (filter (passes_at ends_at_sink pipes) places)
        → object_at table (get_or (filter (passes_at ends_at_sink pipes) places) j 0) ≡ objects.Sink (get_or (sinks_at table places) j d)
    sink_stands j d below =
        sym (get_or-map (object_at table) (filter (passes_at ends_at_sink pipes) places) j 0 objects.None below)
        ∙ ap (λ l. get_or l j objects.None) (sym sinks_are)
        ∙ get_or-map objects.Sink (sinks_at table places) j d objects.None (omega (arith, below, sinks_count))

    pub sink_found : (j place : ℕ) (k : K) → j < length (filter (passes_at ends_at_sink pipes) places) → get_or (filter (passes_at ends_at_sink pipes) places) j 0 ≡ place
        → object_at table place ≡ objects.Sink k → get_or (sinks_at table places) j k ≡ k
    sink_found j place k below at stands = sink_there _ _ (sym (sink_stands j k below) ∙ ap (object_at table) at ∙ stands)
