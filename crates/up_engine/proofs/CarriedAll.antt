-- Unless memory ran out, which an outcome tells, the pipes ended, put out and counted as the graph means of what its sources gave.
use Rattle.std.proofs.Common.{◌≡◌, ◌⊎◌, ℕ, ◌+◌, ◌<◌, ◌≤◌, List, [], length, map, get_or, min, sum, Bool, true, false, not, Option, Some, None, slice_get, filter, refl, sym, ap, ◌∙◌, subst, arith, inl, inr, if◌then◌else◌}
use Rattle.std.specs.Io.KnownBytes.{Appends, IsAtEnd}
use Rattle.std.specs.List.{Contains}
use Rattle.std.specs.Prelude.{option_and_then}
use Rattle.std.specs.Option.{option_map_or}
use Rattle.std.proofs.lemmas.Bool.{cases_Bool}
use Rattle.std.proofs.lemmas.List.FromFn.{get_or-map-range_with_len, length-range_with_len}
use Rattle.std.proofs.lemmas.List.{ext_get_or, length-map}
use Rattle.std.proofs.lemmas.Option.{same_Some, slice_get_within}
use Rattle.up_base.specs.Lists.{IsPrefix}
use Rattle.up_engine.proofs.BackAgain.{sink_back, source_back}
use Rattle.up_engine.proofs.CarriedFirst.{source_put_out, sources_within}
use Rattle.up_engine.proofs.CarriedSums.{source_input, source_puts, sum_of_none, sum_of_some, sums_meant, sums_of_strand, sums_with}
use Rattle.up_engine.proofs.Fillers.{source_is_unfed}
use Rattle.up_engine.proofs.MeantBytes.{input_same, part_bytes, whole_bytes}
use Rattle.up_engine.proofs.OwnSources.{HasStrand, has_strand, sink_is_no_source, source_heads}
use Rattle.up_engine.proofs.StrandEnds.{EndsAs}
use Rattle.up_engine.proofs.ToldEnds.{NoneShort, SourceIs, behind_source, long_of_sink, pipe_ends, sink_failed, source_ending, source_end, source_failed, source_is, tells_of, told_as_ended, told_is, ways_of}
use Rattle.up_engine.proofs.WholeParts.{same_doing}
use Rattle.up_engine.proofs.WithinStrands.{due_all, sink_due_all}
use Rattle.up_engine.specs.Carried.{CarriedBy, SinkTook, SourceGave}
use Rattle.up_engine.specs.Entries.{path_places}
use Rattle.up_engine.specs.Flows.{AreJoined, HaveEnded, doing_behind, flow_meant, put_out}
use Rattle.up_engine.specs.Joins.{PlainItem}
use Rattle.up_engine.specs.Making.{AllBegin, AreBack, AreTold}
use Rattle.up_engine.specs.Nets.{GoesOn, fed_at, fed_in_all}
use Rattle.up_engine.specs.Objects.{AreThere, object_at}
use Rattle.up_engine.specs.Runs.{carried, due_at, due_of, ending}
use Rattle.up_engine.specs.declared.object.Object.{Object}
use Rattle.up_engine.specs.declared.object.Object.TheVariants as objects
use Rattle.up_engine.specs.declared.results.Results.{Results}
use Rattle.up_model.proofs.Members.{kept_passes, passing_pipe, passing_places_have}
use Rattle.up_model.proofs.Shown.{unshown_is_at_end}
use Rattle.up_model.proofs.WellFormed.{there as pipe_there}
use Rattle.up_model.specs.Ends.{is_source}
use Rattle.up_model.specs.Inputs.{ends_at_source, passes_at, places, source_of}
use Rattle.up_model.specs.Meaning.{Doing, bytes_by, input_by, tally_of, to_sources, wholly}
use Rattle.up_model.specs.FrameStreams.{cut_at}
use Rattle.up_model.specs.Outcomes.{carried_as, outcome_at_end, own_outcome, shown_of, source_outcome}
use Rattle.up_model.specs.Packet.{Flow, count_with_bytes}
use Rattle.up_model.specs.Plans.{heads, is_fed, is_head}
use Rattle.up_model.specs.Tallies.{greatest_sum, nothing}
use Rattle.up_model.specs.WellFormed.{IsWellFormed}
use Rattle.up_model.specs.declared.form.SourceForm.{SourceForm}
use Rattle.up_model.specs.declared.form.SourceForm.TheVariants.{Raw, Framed}
use Rattle.up_model.specs.declared.kind.Kind.{Kind}
use Rattle.up_model.specs.declared.kind.Kind.TheVariants.{Source, Sink}
use Rattle.up_model.specs.declared.outcome.Outcome.{Outcome}
use Rattle.up_model.specs.declared.outcome.Outcome.TheVariants.{Whole, ReadFault, WriteFault, BadFrame, TooLong, Broken, NoMemory}
use Rattle.up_model.specs.declared.pipe.Pipe.{Pipe}
use Rattle.up_model.specs.declared.tally.Tally.{Tally}
use Rattle.up_outside.specs.Counts.{CountsWhere}
use Rattle.up_outside.specs.States.{SourceState, SinkState}
use Rattle.up_shape.specs.Stores.{StoreState}
use Rattle.up_plan.proofs.OneStrand.{own_head, strand_has}
use Rattle.up_strand.specs.History.{History, carried_by, doing, head_flow, outcome_by, outcome_of_source, outcome_without, sums_at}
use Rattle.up_strand.specs.Reads.{WereRead}
use Rattle.up_strand.specs.StrandCalls.{SourceEnds, bytes_due, flow_due, shown_at_head}
use Rattle.up_strand.specs.Strands.{ended_at_fault}
use Rattle.up_strand.specs.Writing.{IsSameSink}

-- a pipe that is told whole is of a strand without want of memory
whole_without : (short : Bool) (ended : Option Outcome) → outcome_without short ended ≡ Whole → short ≡ false
whole_without true ended is = absurd (cc)
whole_without false ended is = refl

whole_of_source : (short : Bool) (ended : Option Outcome) → outcome_of_source short ended ≡ Whole → short ≡ false
whole_of_source false ended is = refl
whole_of_source true None is = absurd (cc)
whole_of_source true (Some Whole) is = absurd (cc)
whole_of_source true (Some ReadFault) is = absurd (cc)
whole_of_source true (Some WriteFault) is = absurd (cc)
whole_of_source true (Some (BadFrame offset)) is = absurd (cc)
whole_of_source true (Some (TooLong limit)) is = absurd (cc)
whole_of_source true (Some Broken) is = absurd (cc)
whole_of_source true (Some NoMemory) is = absurd (cc)

whole_is_long : (kind : Kind) (failed short : Bool) (ended : Option Outcome) → outcome_by kind failed short ended ≡ Whole → short ≡ false
whole_is_long (Source path form limit) failed short ended is = whole_of_source short ended is
whole_is_long (Sink path form) true short ended is = absurd (cc)
whole_is_long (Sink path form) false short ended is = whole_without short ended is
whole_is_long kind failed short ended is = whole_without short ended is

-- an outcome of bytes at their end: they are whole, or a frame is unfinished
told_at_end : (form : SourceForm) (bytes : List ℕ) → (outcome_at_end form bytes ≡ Whole) ⊎ ((offset : ℕ) × (outcome_at_end form bytes ≡ BadFrame offset))
told_at_end (Raw block) bytes = inl refl
told_at_end Framed bytes = by_cut (cut_at bytes)
  where
    by_cut : (cut : Option ℕ) → (option_map_or BadFrame cut Whole ≡ Whole) ⊎ ((offset : ℕ) × (option_map_or BadFrame cut Whole ≡ BadFrame offset))
    by_cut None = inl refl
    by_cut (Some offset) = inr (offset, refl)

unshown_own : (kind : Kind) (bytes : List ℕ) (outcome : Outcome) → is_source kind ≡ true → own_outcome kind false bytes ≡ Some outcome → shown_of kind bytes ≡ None
    → (outcome ≡ Whole) ⊎ ((offset : ℕ) × (outcome ≡ BadFrame offset))
unshown_own (Source path form limit) bytes outcome source own unshown =
    let same : source_outcome form limit bytes ≡ outcome = same_Some (source_outcome form limit bytes) outcome own in
    let ends : outcome ≡ outcome_at_end form bytes = sym same ∙ unshown_is_at_end form limit bytes unshown in
    elim (told_at_end form bytes) [
      | inl whole ↦ inl (ends ∙ whole)
      | inr bad ↦ inr (bad.0, ends ∙ bad.1)
    ]
unshown_own kind bytes outcome source own unshown = absurd (cc)

-- a source of which no read failed gave all where its bytes show no outcome
gave_to_end : (h : History) (pipe : Pipe) (now : SourceState) (outcome : Outcome) → slice_get h.pipes h.head ≡ Some pipe → SourceEnds h now → h.ended ≡ Some outcome
    → is_source pipe.kind ≡ true → own_outcome pipe.kind false h.read ≡ Some outcome → shown_of pipe.kind h.read ≡ None → IsAtEnd now.left
gave_to_end h pipe now outcome there ends ended source own unshown = elim (unshown_own pipe.kind h.read outcome source own unshown) [
  | inl whole ↦ ends.whole (ended ∙ ap Some whole)
  | inr bad ↦ elim (ends.settled bad.0 (ended ∙ ap Some bad.1)) [
    | inl shown ↦ absurd (
        let none : shown_at_head h ≡ None = ap (option_and_then (λ (pipe : Pipe). shown_of pipe.kind h.read)) there ∙ unshown in
        let no : None ≡ Some (BadFrame bad.0) = sym none ∙ shown in
        cc)
    | inr end ↦ end
  ]
]

module _ {S K : Type 0} (reads : S → SourceState) (writes : K → SinkState) (pipes : List Pipe) (well : IsWellFormed pipes) (before after : List (Object S K))
    (there : AreThere reads writes pipes (length (path_places pipes)) before) (past now : ℕ → History) (begins : AllBegin reads writes pipes before past)
    (on : (head : ℕ) → GoesOn (past head) (now head)) (back : AreBack reads writes pipes now after) (waiting : ℕ → List PlainItem) (joined : AreJoined pipes now waiting)
    (ends : (head : ℕ) → Contains (heads pipes) head → EndsAs pipes head (now head)) (ended : HaveEnded pipes now) (tells : NoneShort pipes now) where
  abbrev source_so : (source : ℕ) (pipe : Pipe) (at : slice_get pipes source ≡ Some pipe) (is : is_source pipe.kind ≡ true) → SourceIs pipes now well ends ended tells source pipe
  source_so source pipe at is = source_is pipes now well ends ended tells source pipe at is (own_head pipes source (source_heads pipes source pipe at is))

  ending_is : (source : ℕ) (pipe : Pipe) (at : slice_get pipes source ≡ Some pipe) (is : is_source pipe.kind ≡ true) → ending pipes (ways_of pipes now) source ≡ (source_so source pipe at is).outcome
  ending_is source pipe at is = source_ending pipes now well ends ended tells source pipe at is (own_head pipes source (source_heads pipes source pipe at is))

  -- what a source put out is what it carried
  source_carried : (source : ℕ) (pipe : Pipe) → slice_get pipes source ≡ Some pipe → is_source pipe.kind ≡ true → put_out pipes now source ≡ carried pipes (ways_of pipes now) source
  source_carried source pipe at is =
      let head = source_heads pipes source pipe at is in
      let own = source_so source pipe at is in
      source_put_out pipes source (now source) pipe (ends source head).graph (ends source head).place at is
      ∙ ap (λ e. carried_by e (now source).fed pipe.kind (now source).read) own.end
      ∙ ap (λ e. carried_as e pipe.kind (now source).read) (sym (ending_is source pipe at is))
      ∙ sym (ap (λ (p : Option Pipe). option_map_or (λ (pipe : Pipe). carried_as (ending pipes (ways_of pipes now) source) pipe.kind (now source).read) p []) at)

  source_gave : (place : ℕ) (pipe : Pipe) (old : S) → slice_get pipes place ≡ Some pipe → object_at before place ≡ objects.Source old
      → (new : S) × (object_at after place ≡ objects.Source new) × SourceGave reads writes pipes before after (ways_of pipes now) place pipe old new
  source_gave place pipe old at was =
      let own = source_back reads writes pipes well before after there past now begins on back place old was in
      let same : own.pipe ≡ pipe = same_Some own.pipe pipe (sym own.stands ∙ at) in
      let is : is_source pipe.kind ≡ true = sym (ap (λ (p : Pipe). is_source p.kind) same) ∙ own.kind in
      let end = source_so place pipe at is in (
        own.new,
        own.is,
        record {
          took = subst (λ (start : SourceState). WereRead start (reads own.new) (now place).read (length (now place).read)) own.start own.ends.took;
          faults = subst (λ (failed : Bool). CountsWhere failed (reads old).faults (reads own.new).faults) (sym (source_failed pipes now place pipe at is))
              (subst (λ (start : SourceState). CountsWhere (ended_at_fault (now place).ended) start.faults (reads own.new).faults) own.start own.ends.faults);
          all = λ clean unshown.
              let strand = ends place (source_heads pipes place pipe at is) in
              let stands : slice_get (now place).pipes (now place).head ≡ Some pipe =
              ap (λ (ps : List Pipe). slice_get ps (now place).head) strand.graph ∙ ap (slice_get pipes) strand.place ∙ at in
              let fine : ended_at_fault (now place).ended ≡ false = sym (source_failed pipes now place pipe at is) ∙ clean in
              let told : own_outcome pipe.kind false (now place).read ≡ Some end.outcome =
              ap (λ failed. own_outcome pipe.kind failed (now place).read) (sym fine) ∙ end.own in
              gave_to_end (now place) pipe (reads own.new) end.outcome stands own.ends end.end is told unshown;
          within = sources_within pipes now (λ head is_head. (ends head is_head).gave) (ways_of pipes now).failed (ways_of pipes now).shut place pipe at
              (source_failed pipes now place pipe at);
        },
      )

  -- what is meant of a sink is what is due to it
  meant_is_due : (place source : ℕ) (pipe : Pipe) → slice_get pipes place ≡ Some pipe → is_source pipe.kind ≡ false → source_of pipes place ≡ Some source
      → put_out pipes now source ≡ carried pipes (ways_of pipes now) source → (outcome : Outcome)
      → bytes_by (doing (Some outcome)) pipes (to_sources pipes (put_out pipes now)) place pipe ≡ due_of pipes (ways_of pipes now) outcome pipe
  meant_is_due place source pipe at none of same Whole = whole_bytes pipes well place source pipe at none of (carried pipes (ways_of pipes now)) (put_out pipes now) same
  meant_is_due place source pipe at none of same ReadFault = part_bytes pipes well place source pipe at none of (carried pipes (ways_of pipes now)) (put_out pipes now) same
  meant_is_due place source pipe at none of same WriteFault = part_bytes pipes well place source pipe at none of (carried pipes (ways_of pipes now)) (put_out pipes now) same
  meant_is_due place source pipe at none of same (BadFrame offset) = part_bytes pipes well place source pipe at none of (carried pipes (ways_of pipes now)) (put_out pipes now) same
  meant_is_due place source pipe at none of same (TooLong limit) = part_bytes pipes well place source pipe at none of (carried pipes (ways_of pipes now)) (put_out pipes now) same
  meant_is_due place source pipe at none of same Broken = part_bytes pipes well place source pipe at none of (carried pipes (ways_of pipes now)) (put_out pipes now) same
  meant_is_due place source pipe at none of same NoMemory = part_bytes pipes well place source pipe at none of (carried pipes (ways_of pipes now)) (put_out pipes now) same

  due_is_due : (place : ℕ) (pipe : Pipe) (strand : HasStrand pipes place) → slice_get pipes place ≡ Some pipe → is_source pipe.kind ≡ false
      → bytes_due (now strand.head) place pipe (doing (now strand.head).ended) ≡ due_at pipes (ways_of pipes now) place pipe
  due_is_due place pipe strand at none =
      let all = pipe_ends pipes now well ends ended tells waiting joined place pipe strand at in
      let end = source_end pipes now well ends ended tells waiting joined place pipe strand at all in
      sink_due_all pipes now waiting well joined all.source strand.head place pipe strand.is_head strand.within all.at_head at strand.own strand.stands all.head_ends ended
      ∙ ap (λ (e : Option Outcome). bytes_by (doing e) pipes (to_sources pipes (put_out pipes now)) place pipe) end.end
      ∙ meant_is_due place all.source pipe at none all.reached (source_carried all.source all.from all.stands all.kind) end.outcome
      ∙ ap (λ outcome. due_of pipes (ways_of pipes now) outcome pipe) (sym (behind_source pipes now well ends ended tells waiting joined place pipe strand at all))

  sink_took : (place : ℕ) (pipe : Pipe) (old : K) → slice_get pipes place ≡ Some pipe → object_at before place ≡ objects.Sink old
      → (new : K) × (object_at after place ≡ objects.Sink new) × SinkTook reads writes pipes before after (ways_of pipes now) place pipe old new
  sink_took place pipe old at was =
      let own = sink_back reads writes pipes well before after there past now begins on back place pipe old at was in
      let h = now own.strand.head in
      let none = sink_is_no_source pipe.kind own.kind in
      let due = due_is_due place pipe own.strand at none in
      let failed : (ways_of pipes now).failed place ≡ h.failed place = sink_failed pipes now place own.strand.head pipe at own.kind own.strand.of in (
        own.new,
        own.is,
        record {
          put = own.ends.put;
          appended = subst (λ (start : SinkState). Appends start.written (writes own.new).written own.ends.put) own.start own.ends.appended;
          first = subst (λ (bytes : List ℕ). IsPrefix own.ends.put bytes) due own.ends.first;
          all = λ wrote.
              own.ends.all (long_of_sink pipe.kind (h.failed place) h.short h.ended none (sym failed ∙ wrote)
              (tells_of pipes now well ends ended tells own.strand.head place pipe own.strand.is_head own.strand.within at)) (sym failed ∙ wrote) ∙ due;
          faults = subst (λ (failed : Bool). CountsWhere failed (writes old).faults (writes own.new).faults) (sym failed)
              (subst (λ (start : SinkState). CountsWhere (h.failed place) start.faults (writes own.new).faults) own.start own.ends.faults);
          same = subst (λ (start : SinkState). IsSameSink start (writes own.new)) own.start own.ends.same;
        },
      )

  -- what a pipe is to take is the same of what its source carried
  meant_taken : (place source : ℕ) (pipe : Pipe) (does : Doing) → slice_get pipes place ≡ Some pipe → source_of pipes place ≡ Some source
      → put_out pipes now source ≡ carried pipes (ways_of pipes now) source
      → input_by does pipes (to_sources pipes (put_out pipes now)) place pipe ≡ input_by does pipes (to_sources pipes (carried pipes (ways_of pipes now))) place pipe
  meant_taken place source pipe does at of same = elim (cases_Bool (is_source pipe.kind)) [
    | inl is ↦ source_input does pipes (put_out pipes now) place pipe at is ∙ source_carried place pipe at is ∙ sym (source_input does pipes (carried pipes (ways_of pipes now)) place pipe at is)
    | inr none ↦ input_same pipes well place source pipe at none of does (carried pipes (ways_of pipes now)) (put_out pipes now) same
  ]

  abbrev AllWhole : Type 0
  AllWhole = (place : ℕ) → place < length pipes → ending pipes (ways_of pipes now) place ≡ Whole

  -- the sums of each pipe where all are whole
  sums_are_meant : AllWhole → (place : ℕ) (pipe : Pipe) (strand : HasStrand pipes place) → slice_get pipes place ≡ Some pipe
      → ((now strand.head).short ≡ false) × (sums_at (now strand.head) place ≡ tally_of pipes (carried pipes (ways_of pipes now)) place)
  sums_are_meant whole place pipe strand at =
      let h = now strand.head in
      let own = ends strand.head strand.is_head in
      let all = pipe_ends pipes now well ends ended tells waiting joined place pipe strand at in
      let end = source_end pipes now well ends ended tells waiting joined place pipe strand at all in
      let told : outcome_by pipe.kind (h.failed place) h.short h.ended ≡ Whole =
      sym (told_is pipes now strand.head place pipe own at) ∙ told_as_ended pipes now well ends ended tells waiting joined place pipe strand at all ∙ whole place (slice_get_within pipes place pipe at) in
      let is_whole : end.outcome ≡ Whole = sym (source_ending pipes now well ends ended tells all.source all.from all.stands all.kind all.of) ∙ whole all.source (slice_get_within pipes all.source all.from all.stands) in
      let does : doing_behind pipes now all.source ≡ wholly = ap doing (end.end ∙ ap Some is_whole) in
      let same = same_doing pipes now ended all.source (source_heads pipes all.source all.from all.stands all.kind) strand.head strand.own all.head_ends in
      let stands : slice_get h.pipes place ≡ Some pipe = ap (λ (ps : List Pipe). slice_get ps place) own.graph ∙ at in (
        whole_is_long pipe.kind (h.failed place) h.short h.ended told,
        sums_of_strand h place pipe stands
            ∙ ap (λ (ps : List Pipe). sums_with (doing h.ended) ps place pipe (flow_due h place pipe (doing h.ended))) own.graph
            ∙ ap (sums_with (doing h.ended) pipes place pipe)
            (due_all pipes now well all.source strand.head place pipe strand.own (joined.strands strand.head strand.is_head) strand.within strand.stands at same all.head_ends.all)
            ∙ ap (λ (d : Doing). sums_with d pipes place pipe (flow_meant pipes now all.source place pipe)) (same ∙ does)
            ∙ ap (λ (d : Doing). sums_with wholly pipes place pipe (input_by d pipes (to_sources pipes (put_out pipes now)) place pipe)) does
            ∙ ap (sums_with wholly pipes place pipe) (meant_taken place all.source pipe wholly at all.reached (source_carried all.source all.from all.stands all.kind))
            ∙ sym (sums_meant pipes (carried pipes (ways_of pipes now)) place pipe at),
      )

  module _ (results : Results) (told : AreTold pipes now results) where
    ends_so : (place : ℕ) (d : Outcome) → place < length pipes → get_or results.outcomes.items place d ≡ ending pipes (ways_of pipes now) place
    ends_so place d within =
        let pipe = pipe_there pipes place within in
        let strand = has_strand pipes well place pipe.0 pipe.1 in
        told.outcomes strand.head place d strand.is_head strand.within
        ∙ told_as_ended pipes now well ends ended tells waiting joined place pipe.0 strand pipe.1 (pipe_ends pipes now well ends ended tells waiting joined place pipe.0 strand pipe.1)

    puts_so : (place : ℕ) (pipe : Pipe) (d : Tally) → slice_get pipes place ≡ Some pipe → is_source pipe.kind ≡ true
        → (get_or results.tallies.items place d).put ≡ min (length (carried pipes (ways_of pipes now) place)) greatest_sum
    puts_so place pipe d at is =
        let head = source_heads pipes place pipe at is in
        ap (λ (sums : Tally). sums.put) (told.tallies place place d head (strand_has pipes place place (own_head pipes place head)) (source_so place pipe at is).long)
        ∙ source_puts (now place) pipes place pipe (joined.strands place head) at is
        ∙ ap (λ (flow : Flow). min (length flow) greatest_sum) (source_carried place pipe at is)

    sums_so : AllWhole → results.tallies.items ≡ map (tally_of pipes (carried pipes (ways_of pipes now))) (places pipes)
    sums_so whole =
        let tally = tally_of pipes (carried pipes (ways_of pipes now)) in
        let count = told.tally_count in
        ext_get_or nothing results.tallies.items (map tally (places pipes)) (count ∙ sym (length-map (places pipes) tally ∙ length-range_with_len 0 (length pipes)))
        (λ place before.
        let within : place < length pipes = omega (arith, count, before) in
        let pipe = pipe_there pipes place within in
        let strand = has_strand pipes well place pipe.0 pipe.1 in
        let sums = sums_are_meant whole place pipe.0 strand pipe.1 in
        told.tallies strand.head place nothing strand.is_head strand.within sums.0 ∙ sums.1
        ∙ sym (get_or-map-range_with_len tally 0 (length pipes) place place nothing within (omega arith)))

  -- what was fed in all is what the sources carried
  fed_as_carried : (place : ℕ) → passes_at ends_at_source pipes place ≡ true → (passes_at is_head pipes place ≡ true) × (fed_at pipes now place ≡ count_with_bytes (carried pipes (ways_of pipes now) place))
  fed_as_carried place is =
      let pipe = passing_pipe ends_at_source pipes place is in
      let head = source_heads pipes place pipe.0 pipe.1 pipe.2 in
      let fed : (now place).fed ≡ head_flow (now place) = (ends place head).fed (source_so place pipe.0 pipe.1 pipe.2).long in (
        kept_passes (passes_at is_head pipes) (places pipes) place head,
        ap (λ (b : Bool). if b then 0 else count_with_bytes (now place).fed) (source_is_unfed pipes place is) ∙ ap count_with_bytes (fed ∙ source_carried place pipe.0 pipe.1 pipe.2),
      )

  fed_none : (place : ℕ) → passes_at ends_at_source pipes place ≡ false → passes_at is_head pipes place ≡ true → fed_at pipes now place ≡ 0
  fed_none place other is =
      let pipe = passing_pipe is_head pipes place is in
      let none : is_source pipe.0.kind ≡ false = sym (ap (λ (p : Option Pipe). option_map_or (λ (pipe : Pipe). is_source pipe.kind) p false) pipe.1) ∙ other in
      ap (λ (b : Bool). if b then 0 else count_with_bytes (now place).fed) (ap (λ (p : Option Pipe). option_map_or (λ (pipe : Pipe). not (is_source pipe.kind)) p false) pipe.1 ∙ ap not none)

  pub fed_is_carried : fed_in_all pipes now ≡ sum (map (λ place. count_with_bytes (carried pipes (ways_of pipes now) place)) (filter (passes_at ends_at_source pipes) (places pipes)))
  fed_is_carried =
      sum_of_some (passes_at is_head pipes) (passes_at ends_at_source pipes) (fed_at pipes now) (λ place. count_with_bytes (carried pipes (ways_of pipes now) place))
      fed_as_carried fed_none (places pipes)

  -- nothing was fed when the strands began
  begun_unfed : (place : ℕ) → passes_at is_head pipes place ≡ true → fed_at pipes past place ≡ 0
  begun_unfed place is =
      let none : count_with_bytes (past place).fed ≡ 0 = ap (λ (h : History). count_with_bytes h.fed) (begins place (passing_places_have is_head pipes place is)).begins in
      elim (cases_Bool (passes_at is_fed pipes place)) [
        | inl fed ↦ ap (λ (b : Bool). if b then 0 else count_with_bytes (past place).fed) fed
        | inr source ↦ ap (λ (b : Bool). if b then 0 else count_with_bytes (past place).fed) source ∙ none
      ]

  pub begun_none_fed : fed_in_all pipes past ≡ 0
  begun_none_fed = sum_of_none (fed_at pipes past) (passes_at is_head pipes) begun_unfed (places pipes)

  -- what a run carried: from the store before the strands were made, when they began, when they were done, and after they were given up
  pub carried_all : {F : Type 0} (results : Results) → AreTold pipes now results → (store_before made ran store_after : StoreState F) → store_before.drawn ≤ made.drawn
      → made.drawn + fed_in_all pipes now ≤ ran.drawn + fed_in_all pipes past → ran.drawn ≤ store_after.drawn
      → CarriedBy reads writes pipes before after (ways_of pipes now) results store_before store_after
  carried_all results told store_before made ran store_after made_later ran_later end_later = record {
    sources = λ place pipe old at was. source_gave place pipe old at was;
    sinks = λ place pipe old at was. sink_took place pipe old at was;
    ends = ends_so results told;
    put = puts_so results told;
    sums = sums_so results told;
    drawn =
        let carried_sum = fed_is_carried in
        let none = begun_none_fed in
        omega (arith, made_later, ran_later, end_later, carried_sum, none);
  }
