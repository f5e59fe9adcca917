-- What a strand that is given up puts back into the table.
use Rattle.std.proofs.Common.{◌≡◌, ℕ, List, get_or, Bool, true, false, not, is_some, Option, Some, None, slice_get, refl, sym, ap, ◌∙◌, subst}
use Rattle.std.specs.Prelude.{MatchOption}
use Rattle.std.specs.List.{Contains}
use Rattle.std.proofs.lemmas.List.{get_or_default}
use Rattle.std.proofs.lemmas.Option.{MatchOption-at_some, slice_get-get_or}
use Rattle.up_engine.proofs.OwnSources.{source_passes}
use Rattle.up_engine.proofs.PutParts.{is_sink_there}
use Rattle.up_engine.proofs.SinksFound.{sink_found}
use Rattle.up_engine.proofs.StrandParts.{is_source_there}
use Rattle.up_engine.specs.Making.{IsBack}
use Rattle.up_engine.specs.Objects.{object_at}
use Rattle.up_engine.specs.Parts.{IsEndOf, IsPutBack, IsStrandOf, PutsParts, source_in}
use Rattle.up_engine.specs.declared.object.Object.{Object}
use Rattle.up_engine.specs.declared.object.Object.TheVariants as objects
use Rattle.up_model.proofs.Members.{filter_has, passing_pipe}
use Rattle.up_model.specs.Ends.{is_sink, is_source}
use Rattle.up_model.specs.Inputs.{ends_at_source, passes_at}
use Rattle.up_model.specs.Plans.{ends_at_sink, is_fed, sinks_of, strand_of}
use Rattle.up_model.specs.declared.form.SourceForm.{SourceForm}
use Rattle.up_model.specs.declared.form.SourceForm.TheVariants.{Raw, Framed}
use Rattle.up_model.specs.declared.pipe.Pipe.{Pipe}
use Rattle.up_outside.specs.States.{SourceState, SinkState}
use Rattle.up_strand.specs.History.{History}
use Rattle.up_strand.specs.StrandCalls.{Finished, SinkEnds, SourceEnds}
use Rattle.up_strand.specs.Strands.{IntakeStands, IsReading}
use Rattle.up_strand.specs.declared.intake.Intake.{Intake}
use Rattle.up_strand.specs.declared.intake.Intake.TheVariants.{FromSource, FromFrames, FromLane}
use Rattle.up_strand.specs.declared.strand_end.StrandEnd.{StrandEnd}

not_so : (b : Bool) → not b ≡ true → b ≡ false
not_so true is = absurd (cc)
not_so false is = refl

-- a pipe that is fed is no source
fed_no_source : (pipes : List Pipe) (place : ℕ) → passes_at is_fed pipes place ≡ true → passes_at ends_at_source pipes place ≡ false
fed_no_source pipes place fed =
    let pipe = passing_pipe is_fed pipes place fed in
    is_source_there pipes place pipe.0 pipe.1 ∙ not_so (is_source pipe.0.kind) pipe.2

module _ {S : Type 0} (reads : S → SourceState) where
  reading_source : (now : SourceState) (form : SourceForm) (limit : ℕ) (h : History) → IsReading now form limit h
      → is_some h.source ≡ passes_at ends_at_source h.pipes h.head
  reading_source now form limit h reading =
      ap is_some reading.told ∙ sym (is_source_there h.pipes h.head reading.pipe reading.there ∙ ap is_source reading.kind)

  -- a strand has a source where its head is one
  pub intake_source : (intake : Intake S) (h : History) → IntakeStands reads intake h → is_some h.source ≡ passes_at ends_at_source h.pipes h.head
  intake_source (FromSource source block limit left) h stands =
      reading_source (reads source) (Raw block) limit h stands.reading
  intake_source (FromFrames frames) h stands = reading_source (reads frames.source) Framed frames.limit h stands.reading
  intake_source FromLane h stands = ap is_some stands.none ∙ sym (fed_no_source h.pipes h.head stands.fed)

  pub source_left : (source : Option S) (h : History) → MatchOption source (h.source ≡ None) (λ s. SourceEnds h (reads s)) → is_some source ≡ is_some h.source
  source_left None h is = sym (ap is_some is)
  source_left (Some s) h ends = sym (ap is_some ends.told)

module _ {S K : Type 0} (reads : S → SourceState) (writes : K → SinkState) (h : History) (done : Bool) (end : StrandEnd S K)
    (finished : Finished reads writes done h end) (before after : List (Object S K)) (strand : IsStrandOf h.pipes h.head (strand_of h.pipes h.head))
    (puts : PutsParts (strand_of h.pipes h.head) h.head h.pipes before after end.parts) where
  sink_back : (place : ℕ) (pipe : Pipe) (k : K) → Contains (strand_of h.pipes h.head) place → slice_get h.pipes place ≡ Some pipe → is_sink pipe.kind ≡ true
      → object_at after place ≡ objects.Sink k → SinkEnds h place pipe (writes k)
  sink_back place pipe k has there is stands =
      let sinks = sinks_of h.pipes h.head in
      let found = filter_has (passes_at ends_at_sink h.pipes) (strand_of h.pipes h.head) place has (is_sink_there h.pipes place pipe there ∙ is) in
      let at : get_or sinks found.0 0 ≡ place = get_or_default sinks found.0 0 place found.1 ∙ found.2 in
      let own = sink_found h.pipes h.head (strand_of h.pipes h.head) strand after puts.ends found.0 place k found.1 at stands in
      subst (λ (x : K). SinkEnds h place pipe (writes x)) (ap (λ l. get_or l found.0 k) puts.are.sinks ∙ own)
      (finished.written found.0 place pipe k (slice_get-get_or sinks found.0 0 found.1 ∙ ap Some at) there)

  source_back : (s : S) → object_at after h.head ≡ objects.Source s → SourceEnds h (reads s)
  source_back s stands =
      MatchOption-at_some (h.source ≡ None) (λ (s : S). SourceEnds h (reads s)) s (puts.are.source ∙ ap source_in stands) finished.source

  back_of : (place : ℕ) (pipe : Pipe) (object : Object S K) → Contains (strand_of h.pipes h.head) place → slice_get h.pipes place ≡ Some pipe
      → object_at after place ≡ object → IsEndOf pipe.kind object → IsBack reads writes h.pipes h place pipe object
  back_of place pipe objects.None has there stands end = end
  back_of place pipe (objects.Source s) has there stands end =
      let own = strand.one_source place has (source_passes h.pipes place pipe there end) in
      (own, end, source_back s (ap (object_at after) (sym own) ∙ stands))
  back_of place pipe (objects.Sink k) has there stands end = (end, sink_back place pipe k has there end stands)

  pub strand_back : IsPutBack reads writes h.pipes h before after
  strand_back = record {
    back = λ place pipe has there. back_of place pipe (object_at after place) has there refl (puts.ends place pipe has there);
    others = puts.others;
  }

-- the same of the places of a strand of a plan
module _ {S K : Type 0} (reads : S → SourceState) (writes : K → SinkState) (pipes : List Pipe) (head : ℕ) (places : List ℕ) (own : places ≡ strand_of pipes head)
    (strand : IsStrandOf pipes head places) (h : History) (graph : h.pipes ≡ pipes) (place : h.head ≡ head) where
  places_are : places ≡ strand_of h.pipes h.head
  places_are = own ∙ ap (λ ps. strand_of ps head) (sym graph) ∙ ap (strand_of h.pipes) (sym place)

  strand_is : IsStrandOf h.pipes h.head (strand_of h.pipes h.head)
  strand_is =
      subst (IsStrandOf h.pipes h.head) places_are
      (subst (λ (at : ℕ). IsStrandOf h.pipes at places) (sym place)
      (subst (λ (ps : List Pipe). IsStrandOf ps head places) (sym graph) strand))

  pub planned_strand_back : (done : Bool) (end : StrandEnd S K) → Finished reads writes done h end → (before after : List (Object S K))
      → PutsParts places head pipes before after end.parts → IsPutBack reads writes pipes h before after
  planned_strand_back done end finished before after puts =
      subst (λ (ps : List Pipe). IsPutBack reads writes ps h before after) graph
      (strand_back reads writes h done end finished before after strand_is
      (subst (λ (own : List ℕ). PutsParts own h.head h.pipes before after end.parts) places_are
      (subst (λ (at : ℕ). PutsParts places at h.pipes before after end.parts) (sym place)
      (subst (λ (ps : List Pipe). PutsParts places head ps before after end.parts) (sym graph) puts))))
