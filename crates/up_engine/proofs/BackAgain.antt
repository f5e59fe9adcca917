-- What was open is back in the table: each source and each sink of before, as its strand left it.
use Rattle.std.proofs.Common.{◌≡◌, ◌≢◌, ℕ, List, length, true, false, Option, Some, None, slice_get, refl, sym, ap, ◌∙◌, subst, arith, inl, inr}
use Rattle.std.specs.List.{Contains}
use Rattle.std.specs.Option.{option_map_or}
use Rattle.std.proofs.lemmas.List.{get_or_past}
use Rattle.std.proofs.lemmas.Option.{same_Some, slice_get_cases}
use Rattle.up_engine.proofs.OwnSources.{HasStrand, has_index, has_strand, sink_has_place, sink_is_no_source, source_has_place, source_heads}
use Rattle.up_engine.specs.Entries.{path_places}
use Rattle.up_engine.specs.Making.{AllBegin, AreBack, IsBack, source_told}
use Rattle.up_engine.specs.Nets.{GoesOn}
use Rattle.up_engine.specs.Objects.{AreThere, IsOfKind, StandsAt, index_of, object_at}
use Rattle.up_engine.specs.declared.object.Object.{Object}
use Rattle.up_engine.specs.declared.object.Object.TheVariants as objects
use Rattle.up_model.proofs.Members.{filter_has}
use Rattle.up_model.specs.Ends.{is_sink, is_source}
use Rattle.up_model.specs.Inputs.{passes_at}
use Rattle.up_model.specs.Plans.{ends_at_sink, heads, is_head, strand_of}
use Rattle.up_model.specs.WellFormed.{IsWellFormed}
use Rattle.up_model.specs.declared.kind.Kind.{Kind}
use Rattle.up_model.specs.declared.pipe.Pipe.{Pipe}
use Rattle.up_outside.specs.States.{SourceState, SinkState}
use Rattle.up_plan.proofs.OneStrand.{own_head, strand_has}
use Rattle.up_strand.specs.History.{History}
use Rattle.up_strand.specs.StrandCalls.{SinkEnds, SourceEnds}

-- what a source told when its strand was made
began_as : (h : History) (new old : SourceState) (ends : SourceEnds h new) → h.source ≡ Some old → ends.start ≡ old
began_as h new old ends told = same_Some ends.start old (sym ends.told ∙ told)

module _ {S K : Type 0} where
  some_stands : (i : Option ℕ) (kind : Kind) (object : Object S K) → StandsAt i kind object → object ≢ objects.None → IsOfKind kind object
  some_stands None kind object stands some = absurd (some stands)
  some_stands (Some i) kind object stands some = stands

  found_stands : (i : Option ℕ) (kind : Kind) (object : Object S K) → StandsAt i kind object → (i ≡ None → ⊥) → IsOfKind kind object
  found_stands None kind object stands found = absurd (found refl)
  found_stands (Some i) kind object stands found = stands

  is_at_end : (kind : Kind) (object : Object S K) → IsOfKind kind object → is_source kind ≡ false → is_sink kind ≡ false → ⊥
  is_at_end kind objects.None stands source sink = stands
  is_at_end kind (objects.Source s) stands source sink = let no : true ≡ false = sym stands ∙ source in cc
  is_at_end kind (objects.Sink k) stands source sink = let no : true ≡ false = sym stands ∙ sink in cc

  is_the_source : (kind : Kind) (object : Object S K) → IsOfKind kind object → is_source kind ≡ true → (s : S) × (object ≡ objects.Source s)
  is_the_source kind objects.None stands source = absurd stands
  is_the_source kind (objects.Source s) stands source = (s, refl)
  is_the_source kind (objects.Sink k) stands source = absurd (let no : true ≡ false = sym source ∙ sink_is_no_source kind stands in cc)

  source_is_some : (object : Object S K) (s : S) → object ≡ objects.Source s → object ≢ objects.None
  source_is_some object s is none = cc

  sink_is_some : (object : Object S K) (k : K) → object ≡ objects.Sink k → object ≢ objects.None
  sink_is_some object k is none = cc

module _ {S K : Type 0} (reads : S → SourceState) (writes : K → SinkState) (pipes : List Pipe) where
  -- a pipe stands where an object does, and is of its kind
  record IsObjectOf (table : List (Object S K)) (place : ℕ) : Type 0 where
    pub pipe : Pipe
    pub there : slice_get pipes place ≡ Some pipe
    pub kind : IsOfKind pipe.kind (object_at table place)

  object_of : (count : ℕ) (table : List (Object S K)) → AreThere reads writes pipes count table → (place : ℕ) → object_at table place ≢ objects.None → IsObjectOf table place
  object_of count table stands place some = elim (slice_get_cases pipes place).1 [
    | inl there ↦ record {
      pipe = there.0;
      there = there.2;
      kind = some_stands (index_of pipes count place) there.0.kind (object_at table place) (stands.kinds place there.0 there.2) some;
    }
    | inr past_end ↦ absurd (some (get_or_past table place objects.None (let behind = past_end.0 in let size = stands.size in omega (arith, size, behind))))
  ]

  source_left : (h : History) (place : ℕ) (pipe : Pipe) (object : Object S K) → IsBack reads writes pipes h place pipe object → is_source pipe.kind ≡ true
      → (new : S) × (object ≡ objects.Source new) × SourceEnds h (reads new)
  source_left h place pipe objects.None back kind = absurd (let no : true ≡ false = sym kind ∙ back.0 in cc)
  source_left h place pipe (objects.Source s) back kind = (s, refl, back.2)
  source_left h place pipe (objects.Sink k) back kind = absurd (let no : true ≡ false = sym kind ∙ sink_is_no_source pipe.kind back.0 in cc)

  sink_left : (h : History) (place : ℕ) (pipe : Pipe) (object : Object S K) → IsBack reads writes pipes h place pipe object → is_sink pipe.kind ≡ true
      → (new : K) × (object ≡ objects.Sink new) × SinkEnds h place pipe (writes new)
  sink_left h place pipe objects.None back kind = absurd (let no : true ≡ false = sym kind ∙ back.1 in cc)
  sink_left h place pipe (objects.Source s) back kind = absurd (let no : true ≡ false = sym back.1 ∙ sink_is_no_source pipe.kind kind in cc)
  sink_left h place pipe (objects.Sink k) back kind = (k, refl, back.1)

  stands_again : (i : Option ℕ) (h : History) (place : ℕ) (pipe : Pipe) (old new : Object S K) → StandsAt i pipe.kind old
      → (is_source pipe.kind ≡ true → i ≡ None → ⊥) → (is_sink pipe.kind ≡ true → i ≡ None → ⊥) → IsBack reads writes pipes h place pipe new → StandsAt i pipe.kind new
  stands_again None h place pipe old objects.None stood source sink back = refl
  stands_again None h place pipe old (objects.Source s) stood source sink back = absurd (source back.1 refl)
  stands_again None h place pipe old (objects.Sink k) stood source sink back = absurd (sink back.0 refl)
  stands_again (Some i) h place pipe old objects.None stood source sink back = is_at_end pipe.kind old stood back.0 back.1
  stands_again (Some i) h place pipe old (objects.Source s) stood source sink back = back.1
  stands_again (Some i) h place pipe old (objects.Sink k) stood source sink back = back.0

  module _ (well : IsWellFormed pipes) (before after : List (Object S K)) (there : AreThere reads writes pipes (length (path_places pipes)) before) (past now : ℕ → History)
      (begins : AllBegin reads writes pipes before past) (on : (head : ℕ) → GoesOn (past head) (now head)) (back : AreBack reads writes pipes now after) where
    -- all stand where they stood
    pub there_again : AreThere reads writes pipes (length (path_places pipes)) after
    there_again = record {
      size = back.size;
      kinds = λ place pipe at.
          let own = has_strand pipes well place pipe at in
          stands_again (index_of pipes (length (path_places pipes)) place) (now own.head) place pipe (object_at before place) (object_at after place) (there.kinds place pipe at)
          (λ source. has_index pipes place (source_has_place pipes place pipe at source)) (λ sink. has_index pipes place (sink_has_place pipes place pipe at sink))
          (back.each own.head place pipe own.is_head own.within at);
    }

    -- a source was open for each pipe that is one
    pub source_was : (place : ℕ) (pipe : Pipe) → slice_get pipes place ≡ Some pipe → is_source pipe.kind ≡ true → (old : S) × (object_at before place ≡ objects.Source old)
    source_was place pipe at source =
        is_the_source pipe.kind (object_at before place)
        (found_stands (index_of pipes (length (path_places pipes)) place) pipe.kind (object_at before place) (there.kinds place pipe at)
        (has_index pipes place (source_has_place pipes place pipe at source))) source

    -- a source, as its strand left it
    pub record SourceIsBack (place : ℕ) (old : S) : Type 0 where
      pub pipe : Pipe
      pub stands : slice_get pipes place ≡ Some pipe
      pub kind : is_source pipe.kind ≡ true
      pub new : S
      pub is : object_at after place ≡ objects.Source new
      pub ends : SourceEnds (now place) (reads new)
      pub start : ends.start ≡ reads old

    told_then : (place : ℕ) (old : S) → Contains (heads pipes) place → object_at before place ≡ objects.Source old → (now place).source ≡ Some (reads old)
    told_then place old is_head was =
        (on place).source ∙ ap (λ (h : History). h.source) (begins place is_head).begins ∙ ap (source_told reads writes pipes) was

    pub source_back : (place : ℕ) (old : S) → object_at before place ≡ objects.Source old → SourceIsBack place old
    source_back place old was =
        let own = object_of (length (path_places pipes)) before there place (source_is_some (object_at before place) old was) in
        let kind : is_source own.pipe.kind ≡ true = subst (IsOfKind own.pipe.kind) was own.kind in
        let is_head = source_heads pipes place own.pipe own.there kind in
        let left = source_left (now place) place own.pipe (object_at after place)
        (back.each place place own.pipe is_head (strand_has pipes place place (own_head pipes place is_head)) own.there) kind in
        record {
          pipe = own.pipe;
          stands = own.there;
          kind = kind;
          new = left.0;
          is = left.1;
          ends = left.2;
          start = began_as (now place) (reads left.0) (reads old) left.2 (told_then place old is_head was);
        }

    -- a sink, as its strand left it
    pub record SinkIsBack (place : ℕ) (pipe : Pipe) (old : K) : Type 0 where
      pub kind : is_sink pipe.kind ≡ true
      pub strand : HasStrand pipes place
      pub new : K
      pub is : object_at after place ≡ objects.Sink new
      pub ends : SinkEnds (now strand.head) place pipe (writes new)
      pub start : (now strand.head).sinks place ≡ writes old

    pub sink_back : (place : ℕ) (pipe : Pipe) (old : K) → slice_get pipes place ≡ Some pipe → object_at before place ≡ objects.Sink old → SinkIsBack place pipe old
    sink_back place pipe old at was =
        let kind : is_sink pipe.kind ≡ true = subst (IsOfKind pipe.kind) was
        (some_stands (index_of pipes (length (path_places pipes)) place) pipe.kind (object_at before place) (there.kinds place pipe at) (sink_is_some (object_at before place) old was)) in
        let own = has_strand pipes well place pipe at in
        let left = sink_left (now own.head) place pipe (object_at after place) (back.each own.head place pipe own.is_head own.within at) kind in
        let passes : passes_at ends_at_sink pipes place ≡ true = ap (λ (p : Option Pipe). option_map_or (λ (pipe : Pipe). is_sink pipe.kind) p false) at ∙ kind in
        let begun = begins own.head own.is_head in
        record {
          kind = kind;
          strand = own;
          new = left.0;
          is = left.1;
          ends = left.2;
          start = ap (λ (told : ℕ → SinkState). told place) (on own.head).sinks ∙ ap (λ (h : History). h.sinks place) begun.begins
              ∙ begun.sinks place old (filter_has (passes_at ends_at_sink pipes) (strand_of pipes own.head) place own.within passes) was;
        }
