-- A strand that is made of what was taken out of the table for it.
use Rattle.std.proofs.Common.{◌≡◌, ◌⊎◌, ℕ, zero, suc, ◌<◌, List, [], ◌∷◌, ◌++◌, length, get_or, true, is_some, Option, refl, sym, ap, ◌∙◌, subst, arith, inl, inr}
use Rattle.std.specs.Prelude.{option_map}
use Rattle.std.specs.List.{Contains, filter}
use Rattle.std.proofs.lemmas.Bool.{cases_lt}
use Rattle.std.proofs.lemmas.Bool.Decides.{eqb_tells}
use Rattle.std.proofs.lemmas.List.{get_or_append_left, get_or_default, get_or_push, length_push}
use Rattle.std.proofs.lemmas.Option.{same_Some}
use Rattle.up_engine.proofs.OwnSources.{sink_is_no_source, source_passes}
use Rattle.up_engine.proofs.PutParts.{is_sink_there}
use Rattle.up_engine.proofs.SinksFound.{sink_found, sinks_count}
use Rattle.up_engine.proofs.StrandParts.{is_source_there, pipe_there}
use Rattle.up_engine.specs.Begun.{HasSameObjects, StrandsFit, beginning}
use Rattle.up_engine.specs.Making.{source_told}
use Rattle.up_engine.specs.Objects.{object_at}
use Rattle.up_engine.specs.Parts.{ArePartsOf, HasEnds, IsEndOf, IsStrandOf, PutsParts, TakesParts, sinks_at, source_in}
use Rattle.up_engine.specs.declared.object.Object.{Object}
use Rattle.up_engine.specs.declared.object.Object.TheVariants as objects
use Rattle.up_model.proofs.Members.{filter_has}
use Rattle.up_model.specs.Ends.{is_sink, is_source}
use Rattle.up_model.specs.Inputs.{ends_at_source, passes_at}
use Rattle.up_model.specs.Plans.{ends_at_sink, strand_of}
use Rattle.up_model.specs.declared.kind.Kind.{Kind}
use Rattle.up_model.specs.declared.pipe.Pipe.{Pipe}
use Rattle.up_outside.specs.States.{SourceState, SinkState}
use Rattle.up_strand.specs.StrandCalls.{begun, sinks_told}
use Rattle.up_strand.specs.Strands.{StrandFits}
use Rattle.up_strand.specs.declared.strand.Strand.{Strand}
use Rattle.up_strand.specs.declared.strand_end.StrandParts.{StrandParts}

is_first_or_later : (x place : ℕ) (xs : List ℕ) → (x ≡ place → ⊥) → (Contains xs place → ⊥) → (k : ℕ) → k < length (x ∷ xs) → get_or (x ∷ xs) k place ≡ place → ⊥
is_first_or_later x place xs differs not zero below is = differs is
is_first_or_later x place xs differs not (suc k) below is = not (k, omega (arith, below), is)

-- a place is one of these, or isn't
contained : (places : List ℕ) (place : ℕ) → Contains places place ⊎ (Contains places place → ⊥)
contained [] place = inr (λ has. absurd (let below = has.1 in omega (arith, below)))
contained (x ∷ xs) place = elim (eqb_tells x place) [
  | inl same ↦ inl (0, omega arith, same.1)
  | inr apart ↦ elim (contained xs place) [
    | inl later ↦ inl (suc later.0, (let below = later.1 in omega (arith, below)), later.2)
    | inr not ↦ inr (λ has. is_first_or_later x place xs apart.1 not has.0 has.1 has.2)
  ]
]

module _ {S K : Type 0} where
  source_by_end : (kind : Kind) (object : Object S K) → IsEndOf kind object → is_some (source_in object) ≡ is_source kind
  source_by_end kind objects.None end = sym end.0
  source_by_end kind (objects.Source s) end = sym end
  source_by_end kind (objects.Sink k) end = sym (sink_is_no_source kind end)

  told_source : (reads : S → SourceState) (writes : K → SinkState) (pipes : List Pipe) (object : Object S K)
      → option_map reads (source_in object) ≡ source_told reads writes pipes object
  told_source reads writes pipes objects.None = refl
  told_source reads writes pipes (objects.Source s) = refl
  told_source reads writes pipes (objects.Sink k) = refl

  -- two objects of a kind are one where their sources are one and their sinks are
  one_object : (kind : Kind) (a b : Object S K) → IsEndOf kind a → IsEndOf kind b → (is_source kind ≡ true → source_in a ≡ source_in b)
      → (is_sink kind ≡ true → (k l : K) → a ≡ objects.Sink k → b ≡ objects.Sink l → k ≡ l) → a ≡ b
  one_object kind objects.None objects.None one other sources sinks = refl
  one_object kind objects.None (objects.Source t) one other sources sinks = absurd (let no = sym other ∙ one.0 in cc)
  one_object kind objects.None (objects.Sink l) one other sources sinks = absurd (let no = sym other ∙ one.1 in cc)
  one_object kind (objects.Source s) objects.None one other sources sinks = absurd (let no = sym one ∙ other.0 in cc)
  one_object kind (objects.Source s) (objects.Source t) one other sources sinks = ap objects.Source (same_Some s t (sources one))
  one_object kind (objects.Source s) (objects.Sink l) one other sources sinks = absurd (let no = sym one ∙ sink_is_no_source kind other in cc)
  one_object kind (objects.Sink k) objects.None one other sources sinks = absurd (let no = sym one ∙ other.1 in cc)
  one_object kind (objects.Sink k) (objects.Source t) one other sources sinks = absurd (let no = sym other ∙ sink_is_no_source kind one in cc)
  one_object kind (objects.Sink k) (objects.Sink l) one other sources sinks = ap objects.Sink (sinks one k l refl refl)

  module _ (pipes : List Pipe) (head : ℕ) (places : List ℕ) (strand : IsStrandOf pipes head places) (table : List (Object S K)) (parts : StrandParts S K)
      (ends : HasEnds places pipes table) (are : ArePartsOf places head table parts) where
    -- there is a source where the head is one
    pub has_source : is_some parts.source ≡ passes_at ends_at_source pipes head
    has_source =
        let pipe = pipe_there pipes head places strand head strand.has_head in
        ap is_some are.source ∙ source_by_end pipe.0.kind (object_at table head) (ends head pipe.0 strand.has_head pipe.1) ∙ sym (is_source_there pipes head pipe.0 pipe.1)

    -- and a sink for each pipe that is one
    pub has_sinks : length parts.sinks ≡ length (filter (passes_at ends_at_sink pipes) places)
    has_sinks = ap length are.sinks ∙ sinks_count pipes head places strand table ends

    -- taken out and put back, all stands as it stood
    pub same_objects : (mid after : List (Object S K)) → TakesParts places head table mid parts → PutsParts places head pipes mid after parts → HasSameObjects table after
    same_objects mid after takes puts = record {
      size = puts.others.size ∙ takes.others.size;
      same = λ place. elim (contained places place) [
        | inl has ↦
            let pipe = pipe_there pipes head places strand place has in
            sym (one_object pipe.0.kind (object_at table place) (object_at after place) (ends place pipe.0 has pipe.1) (puts.ends place pipe.0 has pipe.1)
            (λ is.
            let own = strand.one_source place has (source_passes pipes place pipe.0 pipe.1 is) in
            ap (λ p. source_in (object_at table p)) own ∙ sym are.source ∙ puts.are.source ∙ ap (λ p. source_in (object_at after p)) (sym own))
            (λ is k l one other.
            let sink = filter_has (passes_at ends_at_sink pipes) places place has (is_sink_there pipes place pipe.0 pipe.1 ∙ is) in
            let j = sink.0 in
            let at : get_or (filter (passes_at ends_at_sink pipes) places) j 0 ≡ place =
            get_or_default (filter (passes_at ends_at_sink pipes) places) j 0 place sink.1 ∙ sink.2 in
            let below : j < length (sinks_at after places) = let within = sink.1 in omega (arith, within, sinks_count pipes head places strand after puts.ends) in
            sym (sink_found pipes head places strand table ends j place k sink.1 at one)
            ∙ ap (λ sinks. get_or sinks j k) (sym are.sinks ∙ puts.are.sinks)
            ∙ get_or_default (sinks_at after places) j k l below
            ∙ sink_found pipes head places strand after puts.ends j place l sink.1 at other))
        | inr not ↦ puts.others.same place not ∙ takes.others.same place not
      ];
    }

  -- it begins with what stood in the table for it
  pub parts_begin : (reads : S → SourceState) (writes : K → SinkState) (pipes : List Pipe) (head at : ℕ) (places : List ℕ) (table : List (Object S K)) (parts : StrandParts S K)
      → ArePartsOf places head table parts → places ≡ strand_of pipes head → head ≡ at
      → begun pipes head (option_map reads parts.source) (sinks_told writes pipes head parts.sinks) ≡ beginning reads writes pipes table at
  parts_begin reads writes pipes head at places table parts are own is =
      ap (λ (source : Option S). begun pipes head (option_map reads source) (sinks_told writes pipes head parts.sinks)) are.source
      ∙ ap (λ (source : Option SourceState). begun pipes head source (sinks_told writes pipes head parts.sinks)) (told_source reads writes pipes (object_at table head))
      ∙ ap (λ (sinks : List K). begun pipes head (source_told reads writes pipes (object_at table head)) (sinks_told writes pipes head sinks))
      (are.sinks ∙ ap (sinks_at table) own)
      ∙ ap (beginning reads writes pipes table) is

-- one strand more is of the family
pub more_fit : {P S K F : Type 0} (fits : P → F → Type 0) (family : F) (old new : List (Strand P S K)) (strand : Strand P S K) → new ≡ old ++ strand ∷ []
    → StrandsFit old fits family → StrandFits strand fits family → StrandsFit new fits family
more_fit fits family old new strand added all one i d below =
    let long = length_push old strand in
    let within = ap length added in
    elim (cases_lt i (length old)) [
      | inl before ↦
          subst (λ (x : Strand _ _ _). StrandFits x fits family) (sym (ap (λ l. get_or l i d) added ∙ get_or_append_left old (strand ∷ []) d i before)) (all i d before)
      | inr after ↦
          subst (λ (x : Strand _ _ _). StrandFits x fits family) (sym (ap (λ l. get_or l i d) added ∙ get_or_push old strand d i (omega (arith, after, below, long, within)))) one
    ]
