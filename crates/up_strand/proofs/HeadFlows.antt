-- How the flow of a source ended is told by its bytes, and by whether a read failed.
use Rattle.std.proofs.Common.{◌≡◌, ◌⊎◌, ℕ, ◌+◌, ◌≤◌, List, length, Bool, true, false, not, is_some, Option, Some, None, slice_get, refl, sym, ap, ◌∙◌, subst, arith, inl, inr, if◌then◌else◌}
use Rattle.std.specs.Option.{option_map_or}
use Rattle.std.proofs.lemmas.Option.{same_Some}
use Rattle.up_model.proofs.Members.{passing_pipe}
use Rattle.up_model.proofs.Shown.{shown_is_told, unshown_within, whole_unshown}
use Rattle.up_model.specs.Ends.{is_source}
use Rattle.up_model.specs.Inputs.{ends_at_source, passes_at}
use Rattle.up_model.specs.Outcomes.{is_cause, own_outcome, shown_by, shown_of}
use Rattle.up_model.specs.Plans.{is_fed}
use Rattle.up_model.specs.declared.form.SourceForm.{SourceForm}
use Rattle.up_model.specs.declared.form.SourceForm.TheVariants.{Raw, Framed}
use Rattle.up_model.specs.declared.kind.Kind.{Kind}
use Rattle.up_model.specs.declared.kind.Kind.TheVariants as kinds
use Rattle.up_model.specs.declared.outcome.Outcome.{Outcome}
use Rattle.up_model.specs.declared.outcome.Outcome.TheVariants.{Whole, ReadFault, WriteFault, BadFrame, TooLong, Broken, NoMemory}
use Rattle.up_model.specs.declared.pipe.Pipe.{Pipe}
use Rattle.up_outside.specs.States.{SourceState}
use Rattle.up_strand.specs.History.{History}
use Rattle.up_strand.specs.StrandCalls.{is_done, is_output}
use Rattle.up_strand.specs.Strands.{EndsRightly, IntakeStands, IsBehindLane, IsEndOfLane, IsReading, ended_at_fault, wants_in}
use Rattle.up_strand.specs.declared.intake.Intake.{Intake}
use Rattle.up_strand.specs.declared.intake.Intake.TheVariants.{FromSource, FromFrames, FromLane}
use Rattle.up_strand.specs.declared.strand.Strand.{Strand}
use Rattle.up_strand.specs.declared.want.Want.{Want}
use Rattle.up_strand.specs.declared.want.Want.TheVariants.{Read, Input, Output, Done}

limit_of : Kind → ℕ
limit_of (kinds.Source path form limit) = limit
limit_of kind = 0

-- where memory didn't run out, a source that ended so ended so by itself
ended_by_itself : (path : List ℕ) (form : SourceForm) (limit : ℕ) (rest : Option (List ℕ)) (h : History) (outcome : Outcome) → h.short ≡ false
    → EndsRightly form limit rest h (Some outcome)
    → own_outcome (kinds.Source path form limit) (ended_at_fault (Some outcome)) h.read ≡ Some outcome
ended_by_itself path form limit rest h Whole long ends = ap Some ends.0
ended_by_itself path form limit rest h ReadFault long ends = refl
ended_by_itself path form limit rest h WriteFault long ends = absurd ends
ended_by_itself path form limit rest h (BadFrame offset) long ends = ap Some ends.by.is
ended_by_itself path form limit rest h (TooLong most) long ends = ap Some (shown_is_told form limit h.read (TooLong most) ends.by)
ended_by_itself path form limit rest h Broken long ends = absurd ends
ended_by_itself path form limit rest h NoMemory long ends = absurd (let no = sym long ∙ ends.0 in cc)

-- the form and the limit of the source that an intake reads, and what is known of it
record FromForm (now : SourceState) (h : History) : Type 0 where
  pub form : SourceForm
  pub limit : ℕ
  pub reading : IsReading now form limit h

-- a head behind a lane is no source
pub no_source : (h : History) (pipe : Pipe) → IsBehindLane h → slice_get h.pipes h.head ≡ Some pipe → is_source pipe.kind ≡ true → ⊥
no_source h pipe behind there source_is =
    let own = passing_pipe is_fed h.pipes h.head behind.fed in
    let same : own.0 ≡ pipe = same_Some own.0 pipe (sym own.1 ∙ there) in
    let fed : not (is_source pipe.kind) ≡ true = ap (λ (p : Pipe). not (is_source p.kind)) (sym same) ∙ own.2 in
    let no : false ≡ true = sym (ap not source_is) ∙ fed in
    cc

-- what is read by an intake that isn't behind a lane
reads_form : {S : Type 0} (reads : S → SourceState) (intake : Intake S) (h : History) → IntakeStands reads intake h
    → ((now : SourceState) × FromForm now h) ⊎ IsBehindLane h
reads_form reads (FromSource source block limit left) h cutting = inl (reads source, record { form = Raw block; limit = limit; reading = cutting.reading })
reads_form reads (FromFrames frames) h unframing = inl (reads frames.source, record { form = Framed; limit = frames.limit; reading = unframing.reading })
reads_form reads FromLane h behind = inr behind

-- so many bytes of a source were read at most, and none past its limit where a read failed, which the bytes don't tell
pub few_read : (form : SourceForm) (limit : ℕ) (rest : Option (List ℕ)) (h : History) (ended : Option Outcome) → EndsRightly form limit rest h ended → length h.read ≤ limit + 1
few_read form limit rest h None ends = ends.1
few_read form limit rest h (Some Whole) ends = let within = unshown_within form limit h.read (whole_unshown form limit h.read ends.0) in omega (arith, within)
few_read form limit rest h (Some ReadFault) ends = ends.few
few_read form limit rest h (Some WriteFault) ends = absurd ends
few_read form limit rest h (Some (BadFrame offset)) ends = ends.few
few_read form limit rest h (Some (TooLong most)) ends = ends.few
few_read form limit rest h (Some Broken) ends = absurd ends
few_read form limit rest h (Some NoMemory) ends = ends.1

none_shown : (form : SourceForm) (limit : ℕ) (rest : Option (List ℕ)) (h : History) (ended : Option Outcome) → ended_at_fault ended ≡ true → EndsRightly form limit rest h ended
    → shown_by form limit h.read ≡ None
none_shown form limit rest h None fault ends = absurd (cc)
none_shown form limit rest h (Some Whole) fault ends = absurd (cc)
none_shown form limit rest h (Some ReadFault) fault ends = ends.by
none_shown form limit rest h (Some WriteFault) fault ends = absurd (cc)
none_shown form limit rest h (Some (BadFrame offset)) fault ends = absurd (cc)
none_shown form limit rest h (Some (TooLong most)) fault ends = absurd (cc)
none_shown form limit rest h (Some Broken) fault ends = absurd (cc)
none_shown form limit rest h (Some NoMemory) fault ends = absurd (cc)

-- where a source ended by a cause of its own, memory hadn't run out
long_at_cause : (form : SourceForm) (limit : ℕ) (rest : Option (List ℕ)) (h : History) (outcome : Outcome) → is_cause outcome ≡ true → EndsRightly form limit rest h (Some outcome) → h.short ≡ false
long_at_cause form limit rest h Whole cause ends = absurd (cc)
long_at_cause form limit rest h ReadFault cause ends = ends.long
long_at_cause form limit rest h WriteFault cause ends = absurd ends
long_at_cause form limit rest h (BadFrame offset) cause ends = ends.long
long_at_cause form limit rest h (TooLong most) cause ends = ends.long
long_at_cause form limit rest h Broken cause ends = absurd (cc)
long_at_cause form limit rest h NoMemory cause ends = absurd (cc)

-- the flow of a lane ends at no fault
no_fault_of_lane : (ended : Option Outcome) → IsEndOfLane ended → ended_at_fault ended ≡ true → ⊥
no_fault_of_lane None ends fault = absurd (cc)
no_fault_of_lane (Some Whole) ends fault = absurd (cc)
no_fault_of_lane (Some ReadFault) ends fault = ends
no_fault_of_lane (Some WriteFault) ends fault = ends
no_fault_of_lane (Some (BadFrame offset)) ends fault = ends
no_fault_of_lane (Some (TooLong limit)) ends fault = ends
no_fault_of_lane (Some Broken) ends fault = absurd (cc)
no_fault_of_lane (Some NoMemory) ends fault = ends

module _ {S : Type 0} (reads : S → SourceState) where
  pub source_ended : (intake : Intake S) (h : History) (pipe : Pipe) (outcome : Outcome) → IntakeStands reads intake h → h.short ≡ false → slice_get h.pipes h.head ≡ Some pipe
      → is_source pipe.kind ≡ true → h.ended ≡ Some outcome → own_outcome pipe.kind (ended_at_fault h.ended) h.read ≡ Some outcome
  source_ended intake h pipe outcome stands long there source_is ended = elim (reads_form reads intake h stands) [
    | inl from ↦
        let reading = from.1.reading in
        let form = from.1.form in
        let limit = from.1.limit in
        let same : reading.pipe ≡ pipe = same_Some reading.pipe pipe (sym reading.there ∙ there) in
        let kind : pipe.kind ≡ kinds.Source reading.path form limit = ap (λ (p : Pipe). p.kind) (sym same) ∙ reading.kind in
        let ends = subst (EndsRightly form limit from.0.left h) ended reading.ends in
        ap (λ (k : Kind). own_outcome k (ended_at_fault h.ended) h.read) kind
        ∙ ap (λ (o : Option Outcome). own_outcome (kinds.Source reading.path form limit) (ended_at_fault o) h.read) ended
        ∙ ended_by_itself reading.path form limit from.0.left h outcome long ends
    | inr behind ↦ absurd (no_source h pipe behind there source_is)
  ]

  pub long_of_head : (intake : Intake S) (h : History) (pipe : Pipe) (outcome : Outcome) → IntakeStands reads intake h
      → slice_get h.pipes h.head ≡ Some pipe → is_source pipe.kind ≡ true → h.ended ≡ Some outcome → is_cause outcome ≡ true → h.short ≡ false
  long_of_head intake h pipe outcome stands there source_is ended cause = elim (reads_form reads intake h stands) [
    | inl from ↦
        let reading = from.1.reading in
        long_at_cause from.1.form from.1.limit from.0.left h outcome cause (subst (EndsRightly from.1.form from.1.limit from.0.left h) ended reading.ends)
    | inr behind ↦ absurd (no_source h pipe behind there source_is)
  ]

  -- the form and the limit of the source of the head are those that are read
  form_of : Kind → SourceForm
  form_of (kinds.Source path form limit) = form
  form_of kind = Framed

  pub ends_within : (intake : Intake S) (h : History) (pipe : Pipe) (path : List ℕ) (form : SourceForm) (limit : ℕ) → IntakeStands reads intake h
      → slice_get h.pipes h.head ≡ Some pipe → pipe.kind ≡ kinds.Source path form limit → (rest : Option (List ℕ)) × EndsRightly form limit rest h h.ended
  unfolding limit_of form_of
  ends_within intake h pipe path form limit stands there kind = elim (reads_form reads intake h stands) [
    | inl from ↦
        let reading = from.1.reading in
        let same : reading.pipe ≡ pipe = same_Some reading.pipe pipe (sym reading.there ∙ there) in
        let kinds_same : kinds.Source reading.path from.1.form from.1.limit ≡ kinds.Source path form limit = sym reading.kind ∙ ap (λ (p : Pipe). p.kind) same ∙ kind in
        let limits : from.1.limit ≡ limit = ap limit_of kinds_same in
        let forms : from.1.form ≡ form = ap form_of kinds_same in (
          from.0.left,
          subst (λ (f : SourceForm). EndsRightly f limit from.0.left h h.ended) forms
              (subst (λ (l : ℕ). EndsRightly from.1.form l from.0.left h h.ended) limits reading.ends),
        )
    | inr behind ↦ absurd (no_source h pipe behind there (ap is_source kind))
  ]

  pub few_read_of_head : (intake : Intake S) (h : History) (pipe : Pipe) (path : List ℕ) (form : SourceForm) (limit : ℕ) → IntakeStands reads intake h
      → slice_get h.pipes h.head ≡ Some pipe → pipe.kind ≡ kinds.Source path form limit → length h.read ≤ limit + 1
  few_read_of_head intake h pipe path form limit stands there kind =
      let ends = ends_within intake h pipe path form limit stands there kind in few_read form limit ends.0 h h.ended ends.1

  pub fewer_read_of_head : (intake : Intake S) (h : History) (pipe : Pipe) (path : List ℕ) (form : SourceForm) (limit : ℕ) → IntakeStands reads intake h
      → slice_get h.pipes h.head ≡ Some pipe → pipe.kind ≡ kinds.Source path form limit → ended_at_fault h.ended ≡ true → length h.read ≤ limit
  fewer_read_of_head intake h pipe path form limit stands there kind fault =
      let ends = ends_within intake h pipe path form limit stands there kind in
      unshown_within form limit h.read (none_shown form limit ends.0 h h.ended fault ends.1)

  shown_as : (kind other : Kind) (bytes : List ℕ) → kind ≡ other → shown_of other bytes ≡ None → shown_of kind bytes ≡ None
  shown_as kind other bytes same none = ap (λ (k : Kind). shown_of k bytes) same ∙ none

  pub unshown_at_fault : (intake : Intake S) (h : History) (pipe : Pipe) → IntakeStands reads intake h
      → slice_get h.pipes h.head ≡ Some pipe → ended_at_fault h.ended ≡ true → shown_of pipe.kind h.read ≡ None
  unshown_at_fault intake h pipe stands there fault = elim (reads_form reads intake h stands) [
    | inl from ↦
        let reading = from.1.reading in
        let same : reading.pipe ≡ pipe = same_Some reading.pipe pipe (sym reading.there ∙ there) in
        shown_as pipe.kind (kinds.Source reading.path from.1.form from.1.limit) h.read (ap (λ (p : Pipe). p.kind) (sym same) ∙ reading.kind)
        (none_shown from.1.form from.1.limit from.0.left h h.ended fault reading.ends)
    | inr behind ↦ absurd (no_fault_of_lane h.ended behind.ends fault)
  ]

  -- what an intake wants tells from where the head is fed
  reads_of : (now : SourceState) (h : History) → FromForm now h → passes_at ends_at_source h.pipes h.head ≡ true
  reads_of now h from =
      ap (λ (o : Option Pipe). option_map_or (λ (p : Pipe). is_source p.kind) o false) from.reading.there ∙ ap is_source from.reading.kind

  pub reads_of_source : {P K : Type 0} (strand : Strand P S K) (intake : Intake S) (h : History) → IntakeStands reads intake h → wants_in strand intake ≡ Read
      → passes_at ends_at_source h.pipes h.head ≡ true
  reads_of_source strand (FromSource source block bound left) h cutting is = reads_of (reads source) h (record { form = Raw block; limit = bound; reading = cutting.reading })
  reads_of_source strand (FromFrames frames) h unframing is =
      reads_of (reads frames.source) h (record { form = Framed; limit = frames.limit; reading = unframing.reading })
  reads_of_source strand FromLane h behind is = absurd (cc)

  pub takes_of_lane : {P K : Type 0} (strand : Strand P S K) (intake : Intake S) (h : History) → IntakeStands reads intake h → wants_in strand intake ≡ Input
      → passes_at is_fed h.pipes h.head ≡ true
  takes_of_lane strand (FromSource source block bound left) h reading is = absurd (cc)
  takes_of_lane strand (FromFrames frames) h unframing is = absurd (cc)
  takes_of_lane strand FromLane h behind is = behind.fed

-- a strand wants what its intake wants while its flow goes on and nothing is ready
pub wants_more : (ready : Option ℕ) (places : ℕ → ℕ) (ended : Bool) (other want : Want) → is_output want ≡ false → is_done want ≡ false
    → option_map_or (λ i. Output (places i)) ready (if ended then Done else other) ≡ want → (ended ≡ false) × (other ≡ want)
wants_more (Some i) places ended other want no_output no_end is = absurd (let no : true ≡ false = ap is_output is ∙ no_output in cc)
wants_more None places true other want no_output no_end is = absurd (let no : true ≡ false = ap is_done is ∙ no_end in cc)
wants_more None places false other want no_output no_end is = (refl, is)

pub none_of : {X : Type 0} (o : Option X) → is_some o ≡ false → o ≡ None
none_of None is = refl
none_of (Some x) is = absurd (cc)
