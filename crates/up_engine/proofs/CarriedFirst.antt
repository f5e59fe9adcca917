-- Whatever became of memory, the sinks hold the first of what the graph means of all that the sources could give.
use Rattle.std.proofs.Common.{◌≡◌, ℕ, ◌+◌, ◌≤◌, List, [], ◌++◌, length, Bool, true, Option, Some, None, slice_get, refl, sym, ap, ◌∙◌, subst, append-nil}
use Rattle.std.specs.Io.KnownBytes.{Appends, Consumes, IsAtEnd}
use Rattle.std.specs.List.{Contains}
use Rattle.std.specs.Option.{option_map_or}
use Rattle.std.proofs.lemmas.Option.{slice_get_within}
use Rattle.up_base.specs.Lists.{IsPrefix}
use Rattle.up_engine.proofs.BackAgain.{sink_back, source_back, source_was, there_again}
use Rattle.up_engine.proofs.MeantBytes.{meant_first}
use Rattle.up_engine.proofs.OwnSources.{sink_is_no_source, source_heads, source_of_head}
use Rattle.up_engine.proofs.StrandEnds.{SourceStands}
use Rattle.up_engine.proofs.WithinStrands.{sink_due_first}
use Rattle.up_engine.specs.Carried.{CarriedShort}
use Rattle.up_engine.specs.Entries.{path_places}
use Rattle.up_engine.specs.Flows.{AreJoined, bytes_meant, put_out}
use Rattle.up_engine.specs.Joins.{PlainItem}
use Rattle.up_engine.specs.Making.{AllBegin, AreBack}
use Rattle.up_engine.specs.Nets.{GoesOn}
use Rattle.up_engine.specs.Objects.{AreThere, object_at}
use Rattle.up_engine.specs.Runs.{GaveWithin, Ways}
use Rattle.up_engine.specs.declared.object.Object.{Object}
use Rattle.up_engine.specs.declared.object.Object.TheVariants as objects
use Rattle.up_model.proofs.Carried.{carried_is_first, so_far_first}
use Rattle.up_model.proofs.WellFormed.{comes_to_source, is_pipe}
use Rattle.up_model.specs.Ends.{is_source}
use Rattle.up_model.specs.Inputs.{source_of}
use Rattle.up_model.specs.Kinds.{IsWithinBounds}
use Rattle.up_model.specs.Meaning.{sink_bytes}
use Rattle.up_model.specs.Outcomes.{carried_as, settled_source_flow, shown_of, source_flow, source_flows}
use Rattle.up_model.specs.Packet.{Flow}
use Rattle.up_model.specs.Plans.{heads}
use Rattle.up_model.specs.WellFormed.{IsWellFormed}
use Rattle.up_model.specs.declared.form.SourceForm.{SourceForm}
use Rattle.up_model.specs.declared.kind.Kind.{Kind}
use Rattle.up_model.specs.declared.kind.Kind.TheVariants.{Source}
use Rattle.up_model.specs.declared.outcome.Outcome.{Outcome}
use Rattle.up_model.specs.declared.outcome.Outcome.TheVariants.{Whole}
use Rattle.up_model.specs.declared.pipe.Pipe.{Pipe}
use Rattle.up_outside.specs.Counts.{CountsWhere}
use Rattle.up_outside.specs.States.{SourceState, SinkState}
use Rattle.up_strand.proofs.Reaching.{prefix_on}
use Rattle.up_strand.specs.History.{History, carried_by, doing, head_flow}
use Rattle.up_strand.specs.Reads.{WereRead}
use Rattle.up_strand.specs.StrandCalls.{bytes_due}
use Rattle.up_strand.specs.Strands.{ended_at_fault}
use Rattle.up_strand.specs.Writing.{IsSameSink}

-- what is left of the bytes of which some were read
consumed : (old new : Option (List ℕ)) (read all : List ℕ) → old ≡ Some all → Consumes old new read → (rest : List ℕ) × (all ≡ read ++ rest) × (IsAtEnd new → rest ≡ [])
consumed None new read all is took = absurd (cc)
consumed (Some bytes) None read all is took = absurd took
consumed (Some bytes) (Some rest) read all is took = (rest, (let same : all ≡ bytes = cc in same ∙ took), λ end. end)

carried_first : (ended : Option Outcome) (put : Flow) (kind : Kind) (bytes rest : List ℕ) → IsWithinBounds kind
    → (ended ≡ None → IsPrefix put (settled_source_flow kind bytes)) → (ended ≡ Some Whole → rest ≡ [])
    → IsPrefix (carried_by ended put kind bytes) (source_flow kind (bytes ++ rest))
carried_first None put kind bytes rest within settled whole =
    prefix_on put (settled_source_flow kind bytes) (source_flow kind (bytes ++ rest)) (settled refl) (so_far_first kind bytes rest within)
carried_first (Some ended) put kind bytes rest within settled whole = carried_is_first ended kind bytes rest within (λ is. whole (ap Some is))

carried_whole : (ended : Option Outcome) (put : Flow) (kind : Kind) (bytes rest : List ℕ) → ended ≡ Some Whole → rest ≡ []
    → carried_by ended put kind bytes ≡ source_flow kind (bytes ++ rest)
carried_whole ended put kind bytes rest whole none =
    ap (λ e. carried_by e put kind bytes) whole ∙ sym (ap (source_flow kind) (ap (λ r. bytes ++ r) none ∙ append-nil bytes))

-- what a source put out is what it carried of what was read of it
pub source_put_out : (pipes : List Pipe) (source : ℕ) (h : History) (pipe : Pipe) → h.pipes ≡ pipes → h.head ≡ source → slice_get pipes source ≡ Some pipe → is_source pipe.kind ≡ true
    → head_flow h ≡ carried_by h.ended h.fed pipe.kind h.read
source_put_out pipes source h pipe graph place there is = rw (graph, place, there, is) refl

pub gave_within : (pipes : List Pipe) (ways : Ways) (place : ℕ) (kind : Kind)
    → ((path : List ℕ) (form : SourceForm) (limit : ℕ) → kind ≡ Source path form limit → length (ways.given place) ≤ limit + 1)
    → (is_source kind ≡ true → ways.failed place ≡ true → shown_of kind (ways.given place) ≡ None) → GaveWithin pipes ways place kind
gave_within pipes ways place (Source path form limit) few unshown = (few path form limit refl, unshown refl)
gave_within pipes ways place kind few unshown = tt

-- so it is of every source
pub sources_within : (pipes : List Pipe) (now : ℕ → History) → ((head : ℕ) → Contains (heads pipes) head → SourceStands pipes head (now head))
    → (failed shut : ℕ → Bool) (place : ℕ) (pipe : Pipe) → slice_get pipes place ≡ Some pipe
    → (is_source pipe.kind ≡ true → failed place ≡ ended_at_fault (now place).ended)
    → GaveWithin pipes (record { given = λ source. (now source).read; failed = failed; shut = shut }) place pipe.kind
sources_within pipes now gave failed shut place pipe there same =
    gave_within pipes (record { given = λ source. (now source).read; failed = failed; shut = shut }) place pipe.kind
    (λ path form limit kind. (gave place (source_heads pipes place pipe there (ap is_source kind))).few pipe path form limit there kind)
    (λ source fails. (gave place (source_heads pipes place pipe there source)).unshown pipe there (sym (same source) ∙ fails))

module _ {S K : Type 0} (reads : S → SourceState) (writes : K → SinkState) (pipes : List Pipe) (well : IsWellFormed pipes) (before after : List (Object S K))
    (there : AreThere reads writes pipes (length (path_places pipes)) before) (past now : ℕ → History) (begins : AllBegin reads writes pipes before past)
    (on : (head : ℕ) → GoesOn (past head) (now head)) (back : AreBack reads writes pipes now after) (waiting : ℕ → List PlainItem) (joined : AreJoined pipes now waiting)
    (gave : (head : ℕ) → Contains (heads pipes) head → SourceStands pipes head (now head)) where
  -- what a source put out is the first of what its bytes hold, and all where its flow came to its whole end
  record PutsOutOf (source : ℕ) (all : List ℕ) : Type 0 where
    pub first : IsPrefix (put_out pipes now source) (source_flows pipes (λ place. all) source)
    pub whole : (now source).ended ≡ Some Whole → put_out pipes now source ≡ source_flows pipes (λ place. all) source

  puts_out_of : (source : ℕ) (pipe : Pipe) (old : S) (all : List ℕ) → slice_get pipes source ≡ Some pipe → is_source pipe.kind ≡ true
      → object_at before source ≡ objects.Source old → (reads old).left ≡ Some all → PutsOutOf source all
  puts_out_of source pipe old all at kind was told =
      let own = source_back reads writes pipes well before after there past now begins on back source old was in
      let head = source_heads pipes source pipe at kind in
      let strand = joined.strands source head in
      let rest = consumed own.ends.start.left (reads own.new).left (now source).read all (ap (λ (s : SourceState). s.left) own.start ∙ told) own.ends.took.bytes_of in
      let put : head_flow (now source) ≡ carried_by (now source).ended (now source).fed pipe.kind (now source).read = source_put_out pipes source (now source) pipe strand.graph strand.place at kind in
      let meant : source_flows pipes (λ place. all) source ≡ source_flow pipe.kind ((now source).read ++ rest.0) =
      ap (λ (p : Option Pipe). option_map_or (λ (pipe : Pipe). carried_as Whole pipe.kind all) p []) at ∙ ap (source_flow pipe.kind) rest.1 in
      let none : (now source).ended ≡ Some Whole → rest.0 ≡ [] = λ whole. rest.2 (own.ends.whole whole) in
      record {
        first = subst (λ (flow : Flow). IsPrefix flow (source_flows pipes (λ place. all) source)) (sym put)
            (subst (λ (flow : Flow). IsPrefix (carried_by (now source).ended (now source).fed pipe.kind (now source).read) flow) (sym meant)
            (carried_first (now source).ended (now source).fed pipe.kind (now source).read rest.0 (is_pipe pipes well source pipe at).kind
            ((gave source head).settled pipe at kind) none));
        whole = λ whole. put ∙ carried_whole (now source).ended (now source).fed pipe.kind (now source).read rest.0 whole (none whole) ∙ sym meant;
      }

  sink_first : (place : ℕ) (pipe : Pipe) (old : K) (at : slice_get pipes place ≡ Some pipe) (was : object_at before place ≡ objects.Sink old) (bytes : ℕ → List ℕ)
      → ((source : ℕ) (s : S) → object_at before source ≡ objects.Source s → (reads s).left ≡ Some (bytes source))
      → IsPrefix (sink_back reads writes pipes well before after there past now begins on back place pipe old at was).ends.put (sink_bytes pipes (source_flows pipes bytes) pipe)
  sink_first place pipe old at was bytes told =
      let own = sink_back reads writes pipes well before after there past now begins on back place pipe old at was in
      let to = comes_to_source pipes well place (slice_get_within pipes place pipe at) in
      let from = source_was reads writes pipes well before after there past now begins on back to.source to.pipe to.stands to.is in
      let of : source_of pipes own.strand.head ≡ Some to.source = sym (source_of_head pipes well place own.strand.head own.strand.of) ∙ to.reached in
      let put = puts_out_of to.source to.pipe from.0 (bytes to.source) to.stands to.is from.1 (told to.source from.0 from.1) in
      let due = bytes_due (now own.strand.head) place pipe (doing (now own.strand.head).ended) in
      let meant = bytes_meant pipes now to.source place pipe in
      prefix_on own.ends.put due (sink_bytes pipes (source_flows pipes bytes) pipe) own.ends.first
      (prefix_on due meant (sink_bytes pipes (source_flows pipes bytes) pipe)
      (sink_due_first pipes now waiting well joined to.source own.strand.head place pipe own.strand.is_head own.strand.within of at)
      (meant_first pipes well place to.source pipe at (sink_is_no_source pipe.kind own.kind) to.reached (now to.source).ended (put_out pipes now) (source_flows pipes bytes) put.first put.whole))

  pub carried_short : CarriedShort reads writes pipes before after
  carried_short = record {
    there = there_again reads writes pipes well before after there past now begins on back;
    given = λ source. (now source).read;
    failed = λ source. ended_at_fault (now source).ended;
    sources = λ place old was.
        let own = source_back reads writes pipes well before after there past now begins on back place old was in (
          own.new,
          own.is,
          subst (λ (start : SourceState). WereRead start (reads own.new) (now place).read (length (now place).read)) own.start own.ends.took,
          subst (λ (start : SourceState). CountsWhere (ended_at_fault (now place).ended) start.faults (reads own.new).faults) own.start own.ends.faults,
        );
    within = λ place pipe at.
        sources_within pipes now gave (λ source. ended_at_fault (now source).ended) (λ other. true) place pipe at (λ source. refl);
    sinks = λ place pipe old at was.
        let own = sink_back reads writes pipes well before after there past now begins on back place pipe old at was in (
          own.new,
          own.is,
          subst (λ (start : SinkState). IsSameSink start (writes own.new)) own.start own.ends.same,
          subst (λ (start : SinkState). start.faults ≤ (writes own.new).faults) own.start own.ends.faults.later,
          λ bytes told. (
            own.ends.put,
            subst (λ (start : SinkState). Appends start.written (writes own.new).written own.ends.put) own.start own.ends.appended,
            sink_first place pipe old at was bytes told,
          ),
        );
  }
