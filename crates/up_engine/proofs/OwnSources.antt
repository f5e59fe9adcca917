-- The source and the head of each pipe, and the places that have a path.
use Rattle.std.proofs.Common.{◌≡◌, ℕ, ◌==◌, ◌||◌, List, length, get_or, Bool, true, false, not, cond, is_some, Option, Some, None, slice_get, refl, sym, ap, ◌∙◌, arith, inl, inr}
use Rattle.std.specs.Prelude.{option_and_then}
use Rattle.std.specs.List.{Contains, filter, position, position_or_len}
use Rattle.std.specs.Option.{option_map_or}
use Rattle.std.proofs.Math.Seq.{take-length}
use Rattle.std.proofs.lemmas.Bool.{cases_lt, eq-eqb, lt-ltb}
use Rattle.std.proofs.lemmas.List.Elements.{Contains-append_left, Contains-append_right}
use Rattle.std.proofs.lemmas.List.Sums.{fails_before_first}
use Rattle.std.proofs.lemmas.Option.{slice_get_within}
use Rattle.up_engine.proofs.AlongLanes.{head_here, one_of}
use Rattle.up_engine.specs.Entries.{path_places}
use Rattle.up_engine.specs.Objects.{index_of}
use Rattle.up_model.proofs.AlongInputs.{goes_on, same_along}
use Rattle.up_model.proofs.Members.{passing_places_have}
use Rattle.up_model.proofs.Steps.{found_passes, step_more}
use Rattle.up_model.proofs.WellFormed.{comes_to_source, is_pipe, takes_rightly}
use Rattle.up_model.specs.Ends.{is_sink, is_source}
use Rattle.up_model.specs.Inputs.{ends_at_source, input_at, passes_at, places, source_of}
use Rattle.up_model.specs.Kinds.{fan_out_of}
use Rattle.up_model.specs.Plans.{changes_worker, ends_at_sink, head_of, heads, is_head, strand_of}
use Rattle.up_model.specs.Rules.{TakesRightly}
use Rattle.up_model.specs.WellFormed.{IsWellFormed}
use Rattle.up_model.specs.declared.kind.Kind.{Kind}
use Rattle.up_model.specs.declared.kind.Kind.TheVariants.{Source, Sink}
use Rattle.up_model.specs.declared.pipe.Pipe.{Pipe}
use Rattle.up_plan.proofs.OneStrand.{has_head_of, strand_has}

-- nothing can be taken from a sink
no_output : (kind : Kind) (select : Option ℕ) → TakesRightly (fan_out_of kind) select → is_sink kind ≡ false
no_output (Sink path form) select takes = absurd takes
no_output kind select takes = refl

pub sink_is_no_source : (kind : Kind) → is_sink kind ≡ true → is_source kind ≡ false
sink_is_no_source (Source path form limit) is = absurd (cc)
sink_is_no_source kind is = refl

no_head : (source changes : Bool) → (source || changes) ≡ false → source ≡ false
no_head true changes is = absurd (cc)
no_head false changes is = refl

some_input : (input : Option ℕ) (source : Bool) → is_some input ≡ not source → source ≡ false → (at : ℕ) × (input ≡ Some at)
some_input None source is none = absurd (let no : false ≡ true = is ∙ ap not none in cc)
some_input (Some at) source is none = (at, refl)

-- a number that isn't found isn't there
not_found : (place : ℕ) (xs : List ℕ) → position (λ other. other == place) xs ≡ None → Contains xs place → ⊥
not_found place xs none there =
    elim (cases_lt (position_or_len (λ other. other == place) xs) (length xs)) [
      | inl found ↦ let some : Some (position_or_len (λ other. other == place) xs) ≡ None = sym (ap (λ b. cond b (Some (position_or_len (λ other. other == place) xs)) None) (lt-ltb _ (length xs) found)) ∙ none in cc
      | inr past ↦
          let fails : (get_or xs there.0 place == place) ≡ false = fails_before_first (λ other. other == place) xs there.0 place (let within = there.1 in omega (arith, within, past)) in
          let no : true ≡ false = sym (eq-eqb (get_or xs there.0 place) place there.2) ∙ fails in
          cc
    ]

module _ (pipes : List Pipe) where
  pub source_passes : (place : ℕ) (pipe : Pipe) → slice_get pipes place ≡ Some pipe → is_source pipe.kind ≡ true → passes_at ends_at_source pipes place ≡ true
  source_passes place pipe there is = ap (λ (p : Option Pipe). option_map_or (λ (pipe : Pipe). is_source pipe.kind) p false) there ∙ is

  pub source_heads : (place : ℕ) (pipe : Pipe) → slice_get pipes place ≡ Some pipe → is_source pipe.kind ≡ true → Contains (heads pipes) place
  source_heads place pipe there is = passing_places_have is_head pipes place (rw there (one_of (is_source pipe.kind) (changes_worker pipes pipe) is))

  -- the head of a source is the source
  pub source_is_own_head : (place head : ℕ) (pipe : Pipe) → slice_get pipes place ≡ Some pipe → is_source pipe.kind ≡ true → head_of pipes place ≡ Some head → place ≡ head
  source_is_own_head place head pipe there is of = head_here pipes place head pipe there (one_of (is_source pipe.kind) (changes_worker pipes pipe) is) of

  module _ (well : IsWellFormed pipes) where
    pub takes_from : (place : ℕ) (pipe : Pipe) → slice_get pipes place ≡ Some pipe → is_source pipe.kind ≡ false → (input : ℕ) × (pipe.input ≡ Some input)
    takes_from place pipe there none = some_input pipe.input (is_source pipe.kind) (is_pipe pipes well place pipe there).input none

    -- what gives to a pipe is no sink
    pub feeds_as_no_sink : (place at : ℕ) (pipe input : Pipe) → slice_get pipes place ≡ Some pipe → pipe.input ≡ Some at → slice_get pipes at ≡ Some input
        → is_sink input.kind ≡ false
    feeds_as_no_sink place at pipe input there takes stands = no_output input.kind pipe.select (takes_rightly pipes well place at pipe input there takes stands)

    -- what isn't a source has the source of its input
    pub source_of_input : (place input : ℕ) (pipe : Pipe) → slice_get pipes place ≡ Some pipe → is_source pipe.kind ≡ false → pipe.input ≡ Some input
        → source_of pipes place ≡ source_of pipes input
    source_of_input place input pipe there none takes =
        let to = comes_to_source pipes well place (slice_get_within pipes place pipe there) in
        let fails : passes_at ends_at_source pipes place ≡ false = ap (λ (p : Option Pipe). option_map_or (λ (pipe : Pipe). is_source pipe.kind) p false) there ∙ none in
        let at : input_at pipes place ≡ Some input = ap (λ (p : Option Pipe). option_and_then (λ (pipe : Pipe). pipe.input) p) there ∙ takes in
        to.reached ∙ sym (sym (goes_on ends_at_source pipes (length pipes) place input fails at) ∙ step_more ends_at_source pipes (length pipes) place to.source to.reached)

    -- the pipes of a strand have the source of its head
    pub source_of_head : (place head : ℕ) → head_of pipes place ≡ Some head → source_of pipes place ≡ source_of pipes head
    source_of_head place head of =
        same_along is_head pipes (source_of pipes)
        (λ at input pipe from there stands fails takes. source_of_input at input pipe there (no_head (is_source pipe.kind) (changes_worker pipes pipe) fails) takes)
        (length pipes) place head of

  -- the strand of a pipe
  pub record HasStrand (place : ℕ) : Type 0 where
    pub head : ℕ
    pub is_head : Contains (heads pipes) head
    pub within : Contains (strand_of pipes head) place
    pub of : head_of pipes place ≡ Some head
    pub own : Pipe
    pub stands : slice_get pipes head ≡ Some own

  pub has_strand : IsWellFormed pipes → (place : ℕ) (pipe : Pipe) → slice_get pipes place ≡ Some pipe → HasStrand place
  has_strand well place pipe there =
      let head = has_head_of pipes place well (slice_get_within pipes place pipe there) in
      let found = found_passes is_head pipes (length pipes) place head.0 head.1 in
      record {
        head = head.0;
        is_head = passing_places_have is_head pipes head.0 (rw found.1 found.2);
        within = strand_has pipes head.0 place head.1;
        of = head.1;
        own = found.0;
        stands = found.1;
      }

  -- a pipe with a path stands among those
  pub source_has_place : (place : ℕ) (pipe : Pipe) → slice_get pipes place ≡ Some pipe → is_source pipe.kind ≡ true → Contains (path_places pipes) place
  source_has_place place pipe there is =
      Contains-append_left (filter (passes_at ends_at_source pipes) (places pipes)) (filter (passes_at ends_at_sink pipes) (places pipes)) place
      (passing_places_have ends_at_source pipes place (source_passes place pipe there is))

  pub sink_has_place : (place : ℕ) (pipe : Pipe) → slice_get pipes place ≡ Some pipe → is_sink pipe.kind ≡ true → Contains (path_places pipes) place
  sink_has_place place pipe there is =
      Contains-append_right (filter (passes_at ends_at_source pipes) (places pipes)) (filter (passes_at ends_at_sink pipes) (places pipes)) place
      (passing_places_have ends_at_sink pipes place (ap (λ (p : Option Pipe). option_map_or (λ (pipe : Pipe). is_sink pipe.kind) p false) there ∙ is))

  pub has_index : (place : ℕ) → Contains (path_places pipes) place → index_of pipes (length (path_places pipes)) place ≡ None → ⊥
  has_index place there none =
      not_found place (path_places pipes) (sym (ap (position (λ other. other == place)) (take-length (path_places pipes))) ∙ none) there
