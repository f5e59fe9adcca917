-- What stands in a table of what is open, at the places of the pipes that have a path.
use Rattle.std.proofs.Common.{◌≡◌, ℕ, ◌<◌, List, length, take, get_or, true, Option, Some, None, slice_get, refl, sym, ap, ◌∙◌, subst, arith, inl, inr}
use Rattle.std.proofs.Math.Seq.{take-length}
use Rattle.std.proofs.lemmas.Bool.{true≢false}
use Rattle.std.proofs.lemmas.List.{get_or-take, get_or_default, get_or_past, length-take}
use Rattle.std.proofs.lemmas.Option.{slice_get_cases}
use Rattle.std.specs.List.{Contains}
use Rattle.up_engine.proofs.OtherPaths.{sink_no_source}
use Rattle.up_engine.proofs.PathPlaces.{index_at, index_is}
use Rattle.up_engine.specs.Entries.{path_places}
use Rattle.up_engine.specs.Objects.{AreThere, IsOfKind, StandsAt, index_of, object_at}
use Rattle.up_engine.specs.declared.object.Object.{Object}
use Rattle.up_engine.specs.declared.object.Object.TheVariants as objects
use Rattle.up_model.specs.Ends.{is_sink, is_source}
use Rattle.up_model.specs.declared.kind.Kind.{Kind}
use Rattle.up_model.specs.declared.pipe.Pipe.{Pipe}
use Rattle.up_outside.specs.States.{SourceState, SinkState}

module _ {S K : Type 0} (kind : Kind) where
  -- an object of a source's side, of a sink's side
  the_source : (object : Object S K) → is_source kind ≡ true → IsOfKind kind object → (s : S) × (object ≡ objects.Source s)
  the_source objects.None is side = absurd side
  the_source (objects.Source s) is side = (s, refl)
  the_source (objects.Sink k) is side = absurd (true≢false (sym is ∙ sink_no_source kind side))

  the_sink : (object : Object S K) → is_sink kind ≡ true → IsOfKind kind object → (k : K) × (object ≡ objects.Sink k)
  the_sink objects.None is side = absurd side
  the_sink (objects.Source s) is side = absurd (true≢false (sym side ∙ sink_no_source kind is))
  the_sink (objects.Sink k) is side = (k, refl)

  -- where a sink stands, its pipe is one, and has an index
  sink_side : (index : Option ℕ) (object : Object S K) (k : K) → StandsAt index kind object → object ≡ objects.Sink k
      → (i : ℕ) × (index ≡ Some i) × (is_sink kind ≡ true)
  sink_side None object k stands is = absurd (let no : objects.None ≡ objects.Sink k = sym stands ∙ is in cc)
  sink_side (Some i) object k stands is = (i, refl, subst (IsOfKind kind) is stands)

  source_side : (index : Option ℕ) (object : Object S K) (s : S) → StandsAt index kind object → object ≡ objects.Source s
      → (i : ℕ) × (index ≡ Some i) × (is_source kind ≡ true)
  source_side None object s stands is = absurd (let no : objects.None ≡ objects.Source s = sym stands ∙ is in cc)
  source_side (Some i) object s stands is = (i, refl, subst (IsOfKind kind) is stands)

  stands_found : (index : Option ℕ) (i : ℕ) (object : Object S K) → index ≡ Some i → StandsAt index kind object → IsOfKind kind object
  stands_found index i object is stands = subst (λ (index : Option ℕ). StandsAt index kind object) is stands

module _ (pipes : List Pipe) (count : ℕ) where
  -- a place among the first so many has an index there
  pub index_among : (place : ℕ) → Contains (take count (path_places pipes)) place → (i : ℕ) × (index_of pipes count place ≡ Some i)
  index_among place there =
      let i = there.0 in
      let long = length-take count (path_places pipes) in
      let less : i < count = let within = there.1 in omega (arith, within, long) in
      let inside : i < length (path_places pipes) = let within = there.1 in omega (arith, within, long) in
      let at : get_or (path_places pipes) i 0 ≡ place =
      get_or_default (path_places pipes) i 0 place inside ∙ sym (get_or-take count (path_places pipes) i place less) ∙ there.2 in
      (i, subst (λ (p : ℕ). index_of pipes count p ≡ Some i) at (index_at pipes count i inside less))

  -- and one that has an index is among them
  pub among_index : (place i : ℕ) → index_of pipes count place ≡ Some i → Contains (take count (path_places pipes)) place
  among_index place i found =
      let is = index_is pipes count place i found in
      let long = length-take count (path_places pipes) in
      (i, omega (arith, is.0, is.1, long), get_or-take count (path_places pipes) i place is.0 ∙ get_or_default (path_places pipes) i place 0 is.1 ∙ is.2)

  -- where all were opened every place is among them
  pub among_all : count ≡ length (path_places pipes) → (place : ℕ) → Contains (path_places pipes) place → Contains (take count (path_places pipes)) place
  among_all all place there =
      subst (λ (places : List ℕ). Contains places place) (sym (ap (λ (n : ℕ). take n (path_places pipes)) all ∙ take-length (path_places pipes))) there

-- a pipe with a path, of which something stands in the table
pub record HasOpened (pipes : List Pipe) (count place : ℕ) : Type 0 where
  pub pipe : Pipe
  pub there : slice_get pipes place ≡ Some pipe
  pub among : Contains (take count (path_places pipes)) place

module _ {S K : Type 0} (reads : S → SourceState) (writes : K → SinkState) (pipes : List Pipe) (count : ℕ) (table : List (Object S K))
    (there : AreThere reads writes pipes count table) where
  pipe_there : (place : ℕ) → (object_at table place ≡ objects.None → ⊥) → (pipe : Pipe) × (slice_get pipes place ≡ Some pipe)
  pipe_there place some =
      let size = there.size in
      elim (slice_get_cases pipes place).1 [
        | inl stands ↦ (stands.0, stands.2)
        | inr past ↦ absurd (some (get_or_past table place objects.None (omega (arith, size, past.0))))
      ]

  -- where a sink stands a pipe was opened that is one
  pub sink_pipe : (place : ℕ) (k : K) → object_at table place ≡ objects.Sink k → (has : HasOpened pipes count place) × (is_sink has.pipe.kind ≡ true)
  sink_pipe place k is =
      let own = pipe_there place (λ none. let no : objects.None ≡ objects.Sink k = sym none ∙ is in cc) in
      let side = sink_side own.0.kind (index_of pipes count place) (object_at table place) k (there.kinds place own.0 own.1) is in
      (record { pipe = own.0; there = own.1; among = among_index pipes count place side.0 side.1 }, side.2)

  pub source_pipe : (place : ℕ) (s : S) → object_at table place ≡ objects.Source s → (has : HasOpened pipes count place) × (is_source has.pipe.kind ≡ true)
  source_pipe place s is =
      let own = pipe_there place (λ none. let no : objects.None ≡ objects.Source s = sym none ∙ is in cc) in
      let side = source_side own.0.kind (index_of pipes count place) (object_at table place) s (there.kinds place own.0 own.1) is in
      (record { pipe = own.0; there = own.1; among = among_index pipes count place side.0 side.1 }, side.2)

  module _ (place : ℕ) (pipe : Pipe) (is : slice_get pipes place ≡ Some pipe) (among : Contains (take count (path_places pipes)) place) where
    -- what stands where a path was opened
    pub opened_side : IsOfKind pipe.kind (object_at table place)
    opened_side =
        let at = index_among pipes count place among in
        stands_found pipe.kind (index_of pipes count place) at.0 (object_at table place) at.1 (there.kinds place pipe is)

    pub source_stands : is_source pipe.kind ≡ true → (s : S) × (object_at table place ≡ objects.Source s)
    source_stands source = the_source pipe.kind (object_at table place) source opened_side

    pub sink_stands : is_sink pipe.kind ≡ true → (k : K) × (object_at table place ≡ objects.Sink k)
    sink_stands sink = the_sink pipe.kind (object_at table place) sink opened_side
