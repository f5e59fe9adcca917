-- What the pipe that decides a run says of it.
use Rattle.std.proofs.Common.{◌≡◌, ◌⊎◌, ℕ, ◌<◌, List, [], length, map, get_or, cond, Bool, true, false, Option, Some, None, slice_get, refl, sym, ap, ◌∙◌, arith, inl, inr, count_by}
use Rattle.std.specs.Prelude.{unwrap_or}
use Rattle.std.specs.List.{Contains}
use Rattle.std.specs.Option.{option_map_or}
use Rattle.std.proofs.lemmas.List.Elements.{Contains-get_or}
use Rattle.std.proofs.lemmas.List.FromFn.{get_or-map-range_with_len}
use Rattle.std.proofs.lemmas.List.Quantifiers.{position-Some}
use Rattle.std.proofs.lemmas.List.Sums.{length-filter}
use Rattle.std.proofs.lemmas.Option.{slice_get_within}
use Rattle.up_engine.specs.Counting.{RoseBy}
use Rattle.up_engine.specs.Runs.{Ways, ending, ending_refused, failures, is_read_fault, is_write_fault, RanThrough, StoppedThere, RanGraph}
use Rattle.up_engine.specs.declared.run_outcome.RunOutcome.{RunOutcome}
use Rattle.up_engine.specs.declared.run_outcome.RunOutcome.TheVariants as runs
use Rattle.up_model.proofs.Members.{filter_has, places_have}
use Rattle.up_model.proofs.Shown.{is_of_bytes, not_fault}
use Rattle.up_model.specs.Ends.{is_source, is_sink}
use Rattle.up_model.specs.Inputs.{places}
use Rattle.up_model.specs.Outcomes.{deciding, is_cause, outcome_behind, own_outcome, source_outcome, source_outcome_at}
use Rattle.up_model.specs.declared.form.SourceForm.{SourceForm}
use Rattle.up_model.specs.declared.kind.Kind.{Kind}
use Rattle.up_model.specs.declared.kind.Kind.TheVariants.{Source, Sink}
use Rattle.up_model.specs.declared.outcome.Outcome.{Outcome}
use Rattle.up_model.specs.declared.outcome.Outcome.TheVariants.{Whole, ReadFault, WriteFault, BadFrame, TooLong, Broken, NoMemory}
use Rattle.up_model.specs.declared.pipe.Pipe.{Pipe}
use Rattle.up_model.specs.declared.tally.Tally.{Tally}
use Rattle.up_outside.specs.Counts.{Rose}
use Rattle.up_outside.specs.States.{DepotState}
use Rattle.up_report.specs.declared.fault.Fault.{Fault}
use Rattle.up_report.specs.declared.fault.Fault.TheVariants as faults
use Rattle.up_shape.specs.Stores.{StoreState}
use Rattle.upipe_run.specs.Endings.{ending_by, ending_of, ending_told}
use Rattle.upipe_run.specs.declared.ending.Ending.{Ending}
use Rattle.upipe_run.specs.declared.ending.Ending.TheVariants as endings
use Rattle.upipe_run.proofs.Deciding.{each_told}
use Rattle.upipe_run.proofs.RanFiles.{WentThrough}

-- the kinds that have a path
abbrev pub HasPath : Kind → Type 0
HasPath kind = (is_source kind ≡ true) ⊎ (is_sink kind ≡ true)

-- a fault is that of a pipe of the graph
pub record Decided (pipes : List Pipe) (outcome : RunOutcome) (fault : Fault) : Type 0 where
  pub ends : List Outcome
  pub tallies : List Tally
  pub ended : outcome ≡ runs.Ended ends tallies
  pub place : ℕ
  pub pipe : Pipe
  pub at : slice_get pipes place ≡ Some pipe
  pub told : endings.Faulty fault ≡ ending_by pipe (get_or ends place Whole)
  pub first : (other : ℕ) → other < place → is_cause (get_or ends other Whole) ≡ false

pub decided : (pipes : List Pipe) (outcome : RunOutcome) (fault : Fault) → endings.Faulty fault ≡ ending_of pipes outcome → Decided pipes outcome fault
decided pipes runs.NoMemory fault so = absurd (cc)
decided pipes (runs.Ended ends tallies) fault so = by (deciding ends) refl so
  where
    at : (place : ℕ) → deciding ends ≡ Some place → (pipe : Option Pipe) → slice_get pipes place ≡ pipe
        → endings.Faulty fault ≡ option_map_or (λ (pipe : Pipe). ending_by pipe (get_or ends place Whole)) pipe endings.Whole
        → Decided pipes (runs.Ended ends tallies) fault
    at place found None is so = absurd (cc)
    at place found (Some pipe) is so = record {
      ends = ends;
      tallies = tallies;
      ended = refl;
      place = place;
      pipe = pipe;
      at = is;
      told = so;
      first = (position-Some is_cause ends place Whole found).2;
    }

    by : (decides : Option ℕ) → deciding ends ≡ decides → endings.Faulty fault ≡ ending_told pipes ends decides → Decided pipes (runs.Ended ends tallies) fault
    by None found so = absurd (cc)
    by (Some place) found so = at place found (slice_get pipes place) refl so

-- the outcome that an ending tells
abbrev outcome_told : Ending → Outcome
outcome_told (endings.Faulty (faults.Read name)) = ReadFault
outcome_told (endings.Faulty (faults.Write name)) = WriteFault
outcome_told (endings.Faulty (faults.BadFrame name offset)) = BadFrame offset
outcome_told (endings.Faulty (faults.TooLong name limit)) = TooLong limit
outcome_told (endings.Faulty fault) = Whole
outcome_told endings.Whole = Whole
outcome_told endings.NoMemory = NoMemory

told_back : (pipe : Pipe) (outcome : Outcome) (fault : Fault) → endings.Faulty fault ≡ ending_by pipe outcome → outcome ≡ outcome_told (endings.Faulty fault)
told_back pipe Whole fault told = absurd (cc)
told_back pipe ReadFault fault told = ap outcome_told (sym told)
told_back pipe WriteFault fault told = ap outcome_told (sym told)
told_back pipe (BadFrame offset) fault told = ap outcome_told (sym told)
told_back pipe (TooLong limit) fault told = ap outcome_told (sym told)
told_back pipe Broken fault told = absurd (cc)
told_back pipe NoMemory fault told = absurd (cc)

-- the pipe that an ending names
abbrev name_told : Ending → List ℕ
name_told (endings.Faulty (faults.Read name)) = name
name_told (endings.Faulty (faults.Write name)) = name
name_told (endings.Faulty (faults.BadFrame name offset)) = name
name_told (endings.Faulty (faults.TooLong name limit)) = name
name_told (endings.Faulty fault) = []
name_told endings.Whole = []
name_told endings.NoMemory = []

name_back : (pipe : Pipe) (outcome : Outcome) → is_cause outcome ≡ true → name_told (ending_by pipe outcome) ≡ pipe.name
name_back pipe Whole cause = absurd (cc)
name_back pipe ReadFault cause = refl
name_back pipe WriteFault cause = refl
name_back pipe (BadFrame offset) cause = refl
name_back pipe (TooLong limit) cause = refl
name_back pipe Broken cause = absurd (cc)
name_back pipe NoMemory cause = absurd (cc)

-- a pipe without a cause of its own has none of its source
behind_is_no_cause : (source : Outcome) → is_cause (outcome_behind source) ≡ false
behind_is_no_cause Whole = refl
behind_is_no_cause ReadFault = refl
behind_is_no_cause WriteFault = refl
behind_is_no_cause (BadFrame offset) = refl
behind_is_no_cause (TooLong limit) = refl
behind_is_no_cause Broken = refl
behind_is_no_cause NoMemory = refl

not_behind : (source outcome : Outcome) → is_cause outcome ≡ true → outcome_behind source ≡ outcome → ⊥
not_behind source outcome cause is = let wrong : true ≡ false = sym cause ∙ ap is_cause (sym is) ∙ behind_is_no_cause source in cc

-- nor do bytes tell an outcome that they can't
not_of_bytes : (form : SourceForm) (limit : ℕ) (bytes : List ℕ) (outcome : Outcome) → is_of_bytes outcome ≡ false → source_outcome form limit bytes ≡ outcome → ⊥
not_of_bytes form limit bytes outcome none is = let wrong : true ≡ false = sym (not_fault form limit bytes) ∙ ap is_of_bytes is ∙ none in cc

read_of_source : (kind : Kind) (failed : Bool) (bytes : List ℕ) (source : Outcome) → unwrap_or (own_outcome kind failed bytes) (outcome_behind source) ≡ ReadFault
    → (is_source kind ≡ true) × (failed ≡ true)
read_of_source (Source path form limit) true bytes source is = (refl, refl)
read_of_source (Source path form limit) false bytes source is = absurd (not_of_bytes form limit bytes ReadFault refl is)
read_of_source (Sink path form) true bytes source is = absurd (cc)
read_of_source (Sink path form) false bytes source is = absurd (not_behind source ReadFault refl is)
read_of_source kind failed bytes source is = absurd (not_behind source ReadFault refl is)

write_of_sink : (kind : Kind) (failed : Bool) (bytes : List ℕ) (source : Outcome) → unwrap_or (own_outcome kind failed bytes) (outcome_behind source) ≡ WriteFault
    → (is_sink kind ≡ true) × (failed ≡ true)
write_of_sink (Source path form limit) true bytes source is = absurd (cc)
write_of_sink (Source path form limit) false bytes source is = absurd (not_of_bytes form limit bytes WriteFault refl is)
write_of_sink (Sink path form) true bytes source is = (refl, refl)
write_of_sink (Sink path form) false bytes source is = absurd (not_behind source WriteFault refl is)
write_of_sink kind failed bytes source is = absurd (not_behind source WriteFault refl is)

-- a source, no read of which failed, whose bytes have this outcome
pub record IsToldBy (kind : Kind) (failed : Bool) (bytes : List ℕ) (outcome : Outcome) : Type 0 where
  pub path : List ℕ
  pub form : SourceForm
  pub limit : ℕ
  pub is : kind ≡ Source path form limit
  pub clean : failed ≡ false
  pub told : source_outcome form limit bytes ≡ outcome

-- a fault is told by no bytes
not_such : (fault outcome : Outcome) → is_of_bytes fault ≡ false → is_of_bytes outcome ≡ true → fault ≡ outcome → ⊥
not_such fault outcome none of is = let wrong : true ≡ false = sym of ∙ ap is_of_bytes (sym is) ∙ none in cc

told_of_source : (kind : Kind) (failed : Bool) (bytes : List ℕ) (source outcome : Outcome) → is_cause outcome ≡ true → is_of_bytes outcome ≡ true
    → unwrap_or (own_outcome kind failed bytes) (outcome_behind source) ≡ outcome → IsToldBy kind failed bytes outcome
told_of_source (Source path form limit) true bytes source outcome cause of is = absurd (not_such ReadFault outcome refl of is)
told_of_source (Source path form limit) false bytes source outcome cause of is = record { path = path; form = form; limit = limit; is = refl; clean = refl; told = is }
told_of_source (Sink path form) true bytes source outcome cause of is = absurd (not_such WriteFault outcome refl of is)
told_of_source (Sink path form) false bytes source outcome cause of is = absurd (not_behind source outcome cause is)
told_of_source kind failed bytes source outcome cause of is = absurd (not_behind source outcome cause is)

neither : (is_one : Bool) (one other outcome : Outcome) → is_of_bytes one ≡ false → is_of_bytes other ≡ false → is_of_bytes outcome ≡ true → cond is_one one other ≡ outcome → ⊥
neither true one other outcome not_one not_other of is = not_such one outcome not_one of is
neither false one other outcome not_one not_other of is = not_such other outcome not_other of is

-- where a run stopped at a refused open, no outcome is told by bytes
not_told : (pipes : List Pipe) (refused : ℕ) (shut : ℕ → Bool) (place : ℕ) (outcome : Outcome) → is_of_bytes outcome ≡ true → (pipe : Pipe)
    → slice_get pipes place ≡ Some pipe → (kind : Kind) → pipe.kind ≡ kind → ending_refused pipes refused shut place ≡ outcome → ⊥
not_told pipes refused shut place outcome of pipe at (Source path form limit) is told = neither _ ReadFault Broken outcome refl refl of (rw (at, is) at told)
not_told pipes refused shut place outcome of pipe at (Sink path form) is told = neither _ WriteFault Broken outcome refl refl of (rw (at, is) at told)
not_told pipes refused shut place outcome of pipe at kind is told = neither _ Broken Broken outcome refl refl of (rw (at, is) at told)

-- what passes is counted
some_counted : {X : Type 0} (test : X → Bool) (xs : List X) (x : X) → Contains xs x → test x ≡ true → 0 < count_by test xs
some_counted test xs x there passes = let has = filter_has test xs x there passes in omega (arith, has.1, length-filter test xs)

rose_once : (faults before now : ℕ) → 0 < faults → RoseBy faults before now → Rose before now
rose_once faults before now some by = omega (arith, some, by.rose)

ends_at : (pipes : List Pipe) (of : ℕ → Outcome) (ends : List Outcome) (place : ℕ) → ends ≡ map of (places pipes) → place < length pipes → get_or ends place Whole ≡ of place
ends_at pipes of ends place is within = ap (λ (l : List Outcome). get_or l place Whole) is ∙ get_or-map-range_with_len of 0 (length pipes) place place Whole within (omega arith)

module _ {F : Type 0} (pipes : List Pipe) (old new : DepotState) (drew draws : StoreState F) where
  module _ (ways : Ways) (ends : List Outcome) (tallies : List Tally) (ran : RanThrough pipes ways old new drew draws ends tallies)
      (place : ℕ) (pipe : Pipe) (at : slice_get pipes place ≡ Some pipe) where
    within : place < length pipes
    within = slice_get_within pipes place pipe at

    came : (outcome : Outcome) → get_or ends place Whole ≡ outcome
        → unwrap_or (own_outcome pipe.kind (ways.failed place) (ways.given place)) (outcome_behind (source_outcome_at pipes ways.failed ways.given place)) ≡ outcome
    came outcome is = rw at at (sym (ends_at pipes (ending pipes ways) ends place ran.endings within) ∙ is)

    failure : (is_such : Kind → Bool) → (is_such pipe.kind ≡ true) × (ways.failed place ≡ true) → 0 < failures pipes ways is_such
    failure is_such is = some_counted _ (places pipes) place (places_have pipes place within) (rw (at, is.0, is.1) refl)

    read_through : get_or ends place Whole ≡ ReadFault → Rose old.source_faults new.source_faults
    read_through is = rose_once _ _ _ (failure is_source (read_of_source pipe.kind _ _ _ (came ReadFault is))) ran.sources

    write_through : get_or ends place Whole ≡ WriteFault → Rose old.sink_faults new.sink_faults
    write_through is = rose_once _ _ _ (failure is_sink (write_of_sink pipe.kind _ _ _ (came WriteFault is))) ran.sinks

    told_through : (told : Outcome) → is_cause told ≡ true → is_of_bytes told ≡ true → get_or ends place Whole ≡ told
        → IsToldBy pipe.kind (ways.failed place) (ways.given place) told
    told_through told cause of is = told_of_source pipe.kind (ways.failed place) (ways.given place) _ told cause of (came told is)

  module _ (ends : List Outcome) (tallies : List Tally) (stopped : StoppedThere pipes old new ends tallies)
      (place : ℕ) (pipe : Pipe) (at : slice_get pipes place ≡ Some pipe) where
    refused_within : place < length ends
    refused_within = omega (arith, slice_get_within pipes place pipe at, ap length stopped.endings, each_told pipes (ending_refused pipes stopped.place stopped.shut))

    counted : (test : Outcome → Bool) (outcome : Outcome) → test outcome ≡ true → get_or ends place Whole ≡ outcome → 0 < count_by test ends
    counted test outcome passes is = some_counted test ends _ (Contains-get_or ends place Whole refused_within) (ap test is ∙ passes)

    told_refused : (told : Outcome) → is_of_bytes told ≡ true → get_or ends place Whole ≡ told → ⊥
    told_refused told of is =
        let ends_as = ending_refused pipes stopped.place stopped.shut in
        not_told pipes stopped.place stopped.shut place told of pipe at pipe.kind refl
        (sym (ends_at pipes ends_as ends place stopped.endings (slice_get_within pipes place pipe at)) ∙ is)

  -- a run that went through, a source of which has this name, and this outcome by its bytes; no pipe before it has a cause
  pub record RanTold (name : List ℕ) (told : Outcome) : Type 0 where
    pub run : WentThrough pipes old new drew draws
    pub place : ℕ
    pub pipe : Pipe
    pub at : slice_get pipes place ≡ Some pipe
    pub named : name ≡ pipe.name
    pub source : IsToldBy pipe.kind (run.ways.failed place) (run.ways.given place) told
    pub earlier : (other : ℕ) (one : Pipe) → other < place → slice_get pipes other ≡ Some one → is_cause (ending pipes run.ways other) ≡ false

  -- a run that went through, in which a call on the path of a pipe failed; no pipe before it has a cause
  pub record RanFailed : Type 0 where
    pub run : WentThrough pipes old new drew draws
    pub place : ℕ
    pub pipe : Pipe
    pub at : slice_get pipes place ≡ Some pipe
    pub has_path : HasPath pipe.kind
    pub failed : run.ways.failed place ≡ true
    pub earlier : (other : ℕ) (one : Pipe) → other < place → slice_get pipes other ≡ Some one → is_cause (ending pipes run.ways other) ≡ false

  -- a run whose open was refused
  abbrev pub WasRefused : Type 0
  WasRefused = (ends : List Outcome) × (tallies : List Tally) × StoppedThere pipes old new ends tallies

  module _ (outcome : RunOutcome) (ran : RanGraph pipes old new drew draws outcome) where
    pub read_rose : (name : List ℕ) → endings.Faulty (faults.Read name) ≡ ending_of pipes outcome → Rose old.source_faults new.source_faults
    read_rose name so =
        let by = decided pipes outcome (faults.Read name) so in
        let fault = told_back by.pipe _ (faults.Read name) by.told in
        elim (rw by.ended at ran.to) [
          | inl (ways, through) ↦ read_through ways by.ends by.tallies through by.place by.pipe by.at fault
          | inr stopped ↦ rose_once _ _ _ (counted by.ends by.tallies stopped by.place by.pipe by.at is_read_fault ReadFault refl fault) stopped.sources
        ]

    pub write_rose : (name : List ℕ) → endings.Faulty (faults.Write name) ≡ ending_of pipes outcome → Rose old.sink_faults new.sink_faults
    write_rose name so =
        let by = decided pipes outcome (faults.Write name) so in
        let fault = told_back by.pipe _ (faults.Write name) by.told in
        elim (rw by.ended at ran.to) [
          | inl (ways, through) ↦ write_through ways by.ends by.tallies through by.place by.pipe by.at fault
          | inr stopped ↦ rose_once _ _ _ (counted by.ends by.tallies stopped by.place by.pipe by.at is_write_fault WriteFault refl fault) stopped.sinks
        ]

    -- where it is a read or a write, a call on the path of that pipe failed in a run that went through, or an open was refused
    failed_by : (fault : Fault) → endings.Faulty fault ≡ ending_of pipes outcome
        → ((kind : Kind) (failed : Bool) (bytes : List ℕ) (source : Outcome) → unwrap_or (own_outcome kind failed bytes) (outcome_behind source) ≡ outcome_told (endings.Faulty fault)
        → HasPath kind × (failed ≡ true)) → RanFailed ⊎ WasRefused
    failed_by fault so of_path =
        let by = decided pipes outcome fault so in
        let told = told_back by.pipe _ fault by.told in
        elim (rw by.ended at ran.to) [
          | inl (ways, through) ↦
              let is = of_path by.pipe.kind _ _ _ (came ways by.ends by.tallies through by.place by.pipe by.at _ told) in
              inl (record {
                run = record { ways = ways; ends = by.ends; tallies = by.tallies; through = through };
                place = by.place;
                pipe = by.pipe;
                at = by.at;
                has_path = is.0;
                failed = is.1;
                earlier = λ other one below there.
                    let same = ends_at pipes (ending pipes ways) by.ends other through.endings (slice_get_within pipes other one there) in
                    ap is_cause (sym same) ∙ by.first other below;
              })
          | inr stopped ↦ inr (by.ends, by.tallies, stopped)
        ]

    pub read_failed : (name : List ℕ) → endings.Faulty (faults.Read name) ≡ ending_of pipes outcome → RanFailed ⊎ WasRefused
    read_failed name so = failed_by (faults.Read name) so
        (λ kind failed bytes source is. let of_source = read_of_source kind failed bytes source is in (inl of_source.0, of_source.1))

    pub write_failed : (name : List ℕ) → endings.Faulty (faults.Write name) ≡ ending_of pipes outcome → RanFailed ⊎ WasRefused
    write_failed name so = failed_by (faults.Write name) so
        (λ kind failed bytes source is. let of_sink = write_of_sink kind failed bytes source is in (inr of_sink.0, of_sink.1))

    -- where the fault that is told is one of bytes, the run went through
    pub ran_told : (fault : Fault) → is_cause (outcome_told (endings.Faulty fault)) ≡ true → is_of_bytes (outcome_told (endings.Faulty fault)) ≡ true
        → endings.Faulty fault ≡ ending_of pipes outcome → RanTold (name_told (endings.Faulty fault)) (outcome_told (endings.Faulty fault))
    ran_told fault cause of so =
        let by = decided pipes outcome fault so in
        let told = told_back by.pipe _ fault by.told in
        elim (rw by.ended at ran.to) [
          | inl (ways, through) ↦ record {
            run = record { ways = ways; ends = by.ends; tallies = by.tallies; through = through };
            place = by.place;
            pipe = by.pipe;
            at = by.at;
            named = ap name_told by.told ∙ name_back by.pipe _ (ap is_cause told ∙ cause);
            earlier = λ other one below there.
                let same = ends_at pipes (ending pipes ways) by.ends other through.endings (slice_get_within pipes other one there) in
                ap is_cause (sym same) ∙ by.first other below;
            source = told_through ways by.ends by.tallies through by.place by.pipe by.at _ cause of told;
          }
          | inr stopped ↦ absurd (told_refused by.ends by.tallies stopped by.place by.pipe by.at _ of told)
        ]

    pub ran_bad : (name : List ℕ) (offset : ℕ) → endings.Faulty (faults.BadFrame name offset) ≡ ending_of pipes outcome → RanTold name (BadFrame offset)
    ran_bad name offset so = ran_told (faults.BadFrame name offset) refl refl so

    pub ran_long : (name : List ℕ) (limit : ℕ) → endings.Faulty (faults.TooLong name limit) ≡ ending_of pipes outcome → RanTold name (TooLong limit)
    ran_long name limit so = ran_told (faults.TooLong name limit) refl refl so
