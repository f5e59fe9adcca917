-- How each pipe ended is told by what the sources gave and by which calls failed; and where no pipe tells of want of memory, no strand
-- that fills a lane met it.
use Rattle.std.proofs.Common.{◌≡◌, ◌≢◌, ℕ, List, Bool, true, false, Option, Some, slice_get, refl, sym, ap, ◌∙◌, subst, inl, inr, cond}
use Rattle.std.specs.Prelude.{option_and_then, unwrap_or}
use Rattle.std.specs.List.{Contains}
use Rattle.std.specs.Option.{option_map_or}
use Rattle.std.proofs.lemmas.Bool.{cases_Bool}
use Rattle.std.proofs.lemmas.Option.{same_Some, slice_get_within}
use Rattle.up_engine.proofs.AlongLanes.{is_filled, source_is_head}
use Rattle.up_engine.proofs.Fillers.{lane_is_fed}
use Rattle.up_engine.proofs.OwnSources.{HasStrand, feeds_as_no_sink, source_heads, source_is_own_head, source_of_head}
use Rattle.up_engine.proofs.StrandEnds.{EndsAs}
use Rattle.up_engine.proofs.WholeParts.{behind_twice, heads_end, some_outcome}
use Rattle.up_engine.specs.Flows.{AreJoined, HadMemory, HaveEnded, HeadEnds}
use Rattle.up_engine.specs.Joins.{PlainItem}
use Rattle.up_engine.specs.Runs.{Ways, ending}
use Rattle.up_model.proofs.Members.{passing_pipe}
use Rattle.up_model.proofs.Shown.{is_of_bytes, not_fault}
use Rattle.up_model.proofs.WellFormed.{comes_to_source, input_there, there}
use Rattle.up_model.specs.Ends.{is_sink, is_source}
use Rattle.up_model.specs.Inputs.{source_of}
use Rattle.up_model.specs.Outcomes.{is_cause, outcome_behind, own_at, own_outcome, source_outcome, source_outcome_at}
use Rattle.up_model.specs.Plans.{head_of, heads, is_fed, strand_of}
use Rattle.up_model.specs.WellFormed.{IsWellFormed}
use Rattle.up_model.specs.declared.kind.Kind.{Kind}
use Rattle.up_model.specs.declared.kind.Kind.TheVariants.{Source, Sink}
use Rattle.up_model.specs.declared.outcome.Outcome.{Outcome}
use Rattle.up_model.specs.declared.outcome.Outcome.TheVariants.{Whole, ReadFault, WriteFault, BadFrame, TooLong, Broken, NoMemory}
use Rattle.up_model.specs.declared.pipe.Pipe.{Pipe}
use Rattle.up_plan.proofs.OneStrand.{own_head, strand_has}
use Rattle.up_strand.specs.History.{History, outcome_by, outcome_of_source, outcome_without, told_at}
use Rattle.up_strand.specs.Strands.{ended_at_fault}

-- a strand without want of memory
long_without : (short : Bool) (ended : Option Outcome) → outcome_without short ended ≢ NoMemory → short ≡ false
long_without true ended told = absurd (told refl)
long_without false ended told = refl

long_source : (short : Bool) (ended : Option Outcome) (outcome : Outcome) → ended ≡ Some outcome → outcome_of_source short ended ≢ NoMemory
    → (is_cause outcome ≡ true → short ≡ false) → short ≡ false
long_source false ended outcome is told long = refl
long_source true ended outcome is told long = elim (cases_Bool (is_cause outcome)) [
  | inl cause ↦ long cause
  | inr none ↦ absurd (told (ap (outcome_of_source true) is ∙ ap (λ b. cond b outcome NoMemory) none))
]

long_of_source : (kind : Kind) (failed short : Bool) (ended : Option Outcome) (outcome : Outcome) → is_source kind ≡ true → ended ≡ Some outcome
    → outcome_by kind failed short ended ≢ NoMemory → (is_cause outcome ≡ true → short ≡ false) → short ≡ false
long_of_source (Source path form limit) failed short ended outcome source is told long = long_source short ended outcome is told long
long_of_source kind failed short ended outcome source is told long = absurd (cc)

long_between : (kind : Kind) (failed short : Bool) (ended : Option Outcome) → is_source kind ≡ false → is_sink kind ≡ false
    → outcome_by kind failed short ended ≢ NoMemory → short ≡ false
long_between (Source path form limit) failed short ended source sink told = absurd (cc)
long_between (Sink path form) failed short ended source sink told = absurd (cc)
long_between kind failed short ended source sink told = long_without short ended told

pub long_of_sink : (kind : Kind) (failed short : Bool) (ended : Option Outcome) → is_source kind ≡ false → failed ≡ false
    → outcome_by kind failed short ended ≢ NoMemory → short ≡ false
long_of_sink (Source path form limit) failed short ended source none told = absurd (cc)
long_of_sink (Sink path form) true short ended source none told = absurd (cc)
long_of_sink (Sink path form) false short ended source none told = long_without short ended told
long_of_sink kind failed short ended source none told = long_without short ended told

-- the outcome of a source is its own
by_bytes : (outcome : Outcome) → is_of_bytes outcome ≡ true → outcome_of_source false (Some outcome) ≡ outcome
by_bytes Whole is = refl
by_bytes ReadFault is = absurd (cc)
by_bytes WriteFault is = absurd (cc)
by_bytes (BadFrame offset) is = refl
by_bytes (TooLong limit) is = refl
by_bytes Broken is = absurd (cc)
by_bytes NoMemory is = absurd (cc)

own_told : (kind : Kind) (fault failed : Bool) (bytes : List ℕ) (outcome : Outcome) → is_source kind ≡ true → own_outcome kind fault bytes ≡ Some outcome
    → outcome_by kind failed false (Some outcome) ≡ outcome
own_told (Source path form limit) true failed bytes outcome source is = subst (λ (o : Outcome). outcome_of_source false (Some o) ≡ o) (same_Some ReadFault outcome is) refl
own_told (Source path form limit) false failed bytes outcome source is =
    by_bytes outcome (ap is_of_bytes (sym (same_Some (source_outcome form limit bytes) outcome is)) ∙ not_fault form limit bytes)
own_told kind fault failed bytes outcome source is = absurd (cc)

-- the outcome of any other is a write fault, or comes from behind
told_behind : (kind : Kind) (failed short : Bool) (ended : Option Outcome) (bytes : List ℕ) (behind : Outcome) → is_source kind ≡ false
    → outcome_by kind failed short ended ≢ NoMemory → outcome_without false ended ≡ behind → outcome_by kind failed short ended ≡ unwrap_or (own_outcome kind failed bytes) behind
told_behind (Source path form limit) failed short ended bytes behind source told is = absurd (cc)
told_behind (Sink path form) true short ended bytes behind source told is = refl
told_behind (Sink path form) false short ended bytes behind source told is = ap (λ s. outcome_without s ended) (long_without short ended told) ∙ is
told_behind kind failed short ended bytes behind source told is = ap (λ s. outcome_without s ended) (long_without short ended told) ∙ is

-- which call failed: a source's read, a sink's write
abbrev pub failed_as : Kind → Bool → Bool → Bool
failed_as (Source path form limit) read write = read
failed_as (Sink path form) read write = write
failed_as kind read write = false

failed_source : (kind : Kind) (read write : Bool) → is_source kind ≡ true → failed_as kind read write ≡ read
failed_source (Source path form limit) read write is = refl
failed_source kind read write is = absurd (cc)

failed_sink : (kind : Kind) (read write : Bool) → is_sink kind ≡ true → failed_as kind read write ≡ write
failed_sink (Sink path form) read write is = refl
failed_sink kind read write is = absurd (cc)

own_other : (kind : Kind) (read write : Bool) (bytes : List ℕ) → is_source kind ≡ false → own_outcome kind (failed_as kind read write) bytes ≡ own_outcome kind write bytes
own_other (Source path form limit) read write bytes is = absurd (cc)
own_other (Sink path form) read write bytes is = refl
own_other kind read write bytes is = refl

module _ (pipes : List Pipe) (now : ℕ → History) where
  -- whether a write to the sink at a place failed
  abbrev pub write_failed : ℕ → Bool
  write_failed place = option_map_or (λ head. (now head).failed place) (head_of pipes place) false

  -- what the strands did, by the places of pipes
  abbrev pub ways_of : Ways
  ways_of = record {
    given = λ place. (now place).read;
    failed = λ place. option_map_or (λ pipe. failed_as pipe.kind (ended_at_fault (now place).ended) (write_failed place)) (slice_get pipes place) false;
    shut = λ place. true;
  }

  failed_at : (place : ℕ) (pipe : Pipe) → slice_get pipes place ≡ Some pipe → ways_of.failed place ≡ failed_as pipe.kind (ended_at_fault (now place).ended) (write_failed place)
  failed_at place pipe at =
      ap (λ (p : Option Pipe). option_map_or (λ (pipe : Pipe). failed_as pipe.kind (ended_at_fault (now place).ended) (write_failed place)) p false) at

  pub source_failed : (place : ℕ) (pipe : Pipe) → slice_get pipes place ≡ Some pipe → is_source pipe.kind ≡ true → ways_of.failed place ≡ ended_at_fault (now place).ended
  source_failed place pipe at is = failed_at place pipe at ∙ failed_source pipe.kind (ended_at_fault (now place).ended) (write_failed place) is

  pub sink_failed : (place head : ℕ) (pipe : Pipe) → slice_get pipes place ≡ Some pipe → is_sink pipe.kind ≡ true → head_of pipes place ≡ Some head
      → ways_of.failed place ≡ (now head).failed place
  sink_failed place head pipe at is of =
      failed_at place pipe at ∙ failed_sink pipe.kind (ended_at_fault (now place).ended) (write_failed place) is
      ∙ ap (λ (h : Option ℕ). option_map_or (λ head. (now head).failed place) h false) of

  own_is : (place : ℕ) (pipe : Pipe) → slice_get pipes place ≡ Some pipe
      → own_at pipes ways_of.failed ways_of.given place ≡ own_outcome pipe.kind (ways_of.failed place) (now place).read
  own_is place pipe at = ap (option_and_then (λ (pipe : Pipe). own_outcome pipe.kind (ways_of.failed place) (now place).read)) at

  -- what the strand of a head tells of its pipe
  pub told_is : (head place : ℕ) (pipe : Pipe) → EndsAs pipes head (now head) → slice_get pipes place ≡ Some pipe
      → told_at (now head) place ≡ outcome_by pipe.kind ((now head).failed place) (now head).short (now head).ended
  told_is head place pipe ends at =
      ap (λ (p : Option Pipe). option_map_or (λ (pipe : Pipe). outcome_by pipe.kind ((now head).failed place) (now head).short (now head).ended) p Whole)
      (ap (λ (ps : List Pipe). slice_get ps place) ends.graph ∙ at)

  -- no pipe tells of want of memory
  abbrev pub NoneShort : Type 0
  NoneShort = (head place : ℕ) → Contains (heads pipes) head → Contains (strand_of pipes head) place → told_at (now head) place ≢ NoMemory

  module _ (well : IsWellFormed pipes) (ends : (head : ℕ) → Contains (heads pipes) head → EndsAs pipes head (now head)) (ended : HaveEnded pipes now) (tells : NoneShort) where
    -- what is told by the outcome of a pipe
    pub tells_of : (head place : ℕ) (pipe : Pipe) → Contains (heads pipes) head → Contains (strand_of pipes head) place → slice_get pipes place ≡ Some pipe
        → outcome_by pipe.kind ((now head).failed place) (now head).short (now head).ended ≢ NoMemory
    tells_of head place pipe is within at none = tells head place is within (told_is head place pipe (ends head is) at ∙ none)

    -- a source, how its flow ended
    pub record SourceIs (source : ℕ) (pipe : Pipe) : Type 0 where
      pub outcome : Outcome
      pub end : (now source).ended ≡ Some outcome
      pub long : (now source).short ≡ false
      pub own : own_outcome pipe.kind (ended_at_fault (now source).ended) (now source).read ≡ Some outcome

    pub source_is : (source : ℕ) (pipe : Pipe) → slice_get pipes source ≡ Some pipe → is_source pipe.kind ≡ true → head_of pipes source ≡ Some source → SourceIs source pipe
    source_is source pipe at is of =
        let head = source_heads pipes source pipe at is in
        let end = some_outcome (now source).ended (ended source head) in
        let own = ends source head in
        let long : (now source).short ≡ false = long_of_source pipe.kind ((now source).failed source) (now source).short (now source).ended end.0 is end.1
        (tells_of source source pipe head (strand_has pipes source source of) at) (own.long pipe end.0 at is end.1) in
        record {
          outcome = end.0;
          end = end.1;
          long = long;
          own = own.own pipe end.0 long at is end.1;
        }

    abbrev given_by : ℕ → List ℕ
    given_by = ways_of.given

    source_own : (source : ℕ) (pipe : Pipe) (at : slice_get pipes source ≡ Some pipe) (is : is_source pipe.kind ≡ true) (of : head_of pipes source ≡ Some source)
        → own_at pipes ways_of.failed given_by source ≡ Some (source_is source pipe at is of).outcome
    source_own source pipe at is of =
        own_is source pipe at ∙ ap (λ failed. own_outcome pipe.kind failed (now source).read) (source_failed source pipe at is) ∙ (source_is source pipe at is of).own

    pub source_ending : (source : ℕ) (pipe : Pipe) (at : slice_get pipes source ≡ Some pipe) (is : is_source pipe.kind ≡ true) (of : head_of pipes source ≡ Some source)
        → ending pipes ways_of source ≡ (source_is source pipe at is of).outcome
    source_ending source pipe at is of = ap (λ own. unwrap_or own (outcome_behind (source_outcome_at pipes ways_of.failed given_by source))) (source_own source pipe at is of)

    -- a source tells how its flow ended
    source_told : (source : ℕ) (pipe : Pipe) → slice_get pipes source ≡ Some pipe → is_source pipe.kind ≡ true → head_of pipes source ≡ Some source
        → told_at (now source) source ≡ ending pipes ways_of source
    source_told source pipe at is of =
        let own = source_is source pipe at is of in
        told_is source source pipe (ends source (source_heads pipes source pipe at is)) at
        ∙ ap (λ short. outcome_by pipe.kind ((now source).failed source) short (now source).ended) own.long
        ∙ ap (outcome_by pipe.kind ((now source).failed source) false) own.end
        ∙ own_told pipe.kind (ended_at_fault (now source).ended) ((now source).failed source) (now source).read own.outcome is own.own
        ∙ sym (source_ending source pipe at is of)

    -- memory ran out in no strand that fills a lane
    pub had_memory : HadMemory pipes now
    had_memory lane filler is filled =
        let fed = passing_pipe is_fed pipes lane (lane_is_fed pipes lane is) in
        let own = is_filled pipes lane filler fed.0 is filled fed.1 in
        let input = own.1.behind.input in
        let from = there pipes input (input_there pipes well lane input fed.0 fed.1 own.1.behind.takes) in
        let sink = feeds_as_no_sink pipes well lane input fed.0 from.0 fed.1 own.1.behind.takes from.1 in
        elim (cases_Bool (is_source from.0.kind)) [
          | inl source ↦
              let same : input ≡ filler = source_is_own_head pipes input filler from.0 from.1 source own.1.behind.within in
              subst (λ (at : ℕ). (now at).short ≡ false) same (source_is input from.0 from.1 source (own.1.behind.within ∙ ap Some (sym same))).long
          | inr other ↦ long_between from.0.kind ((now filler).failed input) (now filler).short (now filler).ended other sink
              (tells_of filler input from.0 own.1.filler_is (strand_has pipes filler input own.1.behind.within) from.1)
        ]

    module _ (waiting : ℕ → List PlainItem) (joined : AreJoined pipes now waiting) where
      -- a pipe with its source and its strand, and what its head had
      pub record PipeEnds (place : ℕ) (pipe : Pipe) (strand : HasStrand pipes place) : Type 0 where
        pub source : ℕ
        pub from : Pipe
        pub reached : source_of pipes place ≡ Some source
        pub at_head : source_of pipes strand.head ≡ Some source
        pub stands : slice_get pipes source ≡ Some from
        pub kind : is_source from.kind ≡ true
        pub of : head_of pipes source ≡ Some source
        pub head_ends : HeadEnds pipes now source strand.head strand.own

      pub pipe_ends : (place : ℕ) (pipe : Pipe) (strand : HasStrand pipes place) → slice_get pipes place ≡ Some pipe → PipeEnds place pipe strand
      pipe_ends place pipe own at =
          let to = comes_to_source pipes well place (slice_get_within pipes place pipe at) in
          let at_head : source_of pipes own.head ≡ Some to.source = sym (source_of_head pipes well place own.head own.of) ∙ to.reached in
          record {
            source = to.source;
            from = to.pipe;
            reached = to.reached;
            at_head = at_head;
            stands = to.stands;
            kind = to.is;
            of = own_head pipes to.source (source_heads pipes to.source to.pipe to.stands to.is);
            head_ends = heads_end pipes now ended to.source (source_is_head pipes own.head to.source at_head) waiting well joined had_memory own.head own.own own.is_head at_head own.stands;
          }

      module _ (place : ℕ) (pipe : Pipe) (strand : HasStrand pipes place) (at : slice_get pipes place ≡ Some pipe) (all : PipeEnds place pipe strand) where
        abbrev pub source_end : SourceIs all.source all.from
        source_end = source_is all.source all.from all.stands all.kind all.of

        pub behind_source : source_outcome_at pipes ways_of.failed given_by place ≡ source_end.outcome
        behind_source =
            ap (λ found. unwrap_or (option_and_then (own_at pipes ways_of.failed given_by) found) Whole) all.reached
            ∙ ap (λ own. unwrap_or own Whole) (source_own all.source all.from all.stands all.kind all.of)

        -- the flow of its head ended so
        head_behind : outcome_without false (now strand.head).ended ≡ outcome_behind source_end.outcome
        head_behind = elim (all.head_ends.ended source_end.outcome source_end.end) [
          | inl same ↦ ap (λ head. outcome_without false (now head).ended) same ∙ ap (outcome_without false) source_end.end
          | inr behind ↦ ap (outcome_without false) behind ∙ behind_twice source_end.outcome
        ]

        other_told : is_source pipe.kind ≡ false → told_at (now strand.head) place ≡ ending pipes ways_of place
        other_told none =
            let h = now strand.head in
            let own : own_at pipes ways_of.failed given_by place ≡ own_outcome pipe.kind (h.failed place) (now place).read =
            own_is place pipe at ∙ ap (λ failed. own_outcome pipe.kind failed (now place).read) (failed_at place pipe at)
            ∙ own_other pipe.kind (ended_at_fault (now place).ended) (write_failed place) (now place).read none
            ∙ ap (λ (head : Option ℕ). own_outcome pipe.kind (option_map_or (λ head. (now head).failed place) head false) (now place).read) strand.of in
            told_is strand.head place pipe (ends strand.head strand.is_head) at
            ∙ told_behind pipe.kind (h.failed place) h.short h.ended (now place).read (outcome_behind source_end.outcome) none
            (tells_of strand.head place pipe strand.is_head strand.within at) head_behind
            ∙ sym (ap (λ own. unwrap_or own (outcome_behind (source_outcome_at pipes ways_of.failed given_by place))) own
            ∙ ap (λ outcome. unwrap_or (own_outcome pipe.kind (h.failed place) (now place).read) (outcome_behind outcome)) behind_source)

        -- what is told of each pipe is how it ended
        pub told_as_ended : told_at (now strand.head) place ≡ ending pipes ways_of place
        told_as_ended = elim (cases_Bool (is_source pipe.kind)) [
          | inl source ↦
              let same = source_is_own_head pipes place strand.head pipe at source strand.of in
              subst (λ (head : ℕ). told_at (now head) place ≡ ending pipes ways_of place) same (source_told place pipe at source (strand.of ∙ ap Some (sym same)))
          | inr other ↦ other_told other
        ]
