-- What a well-formed graph keeps, a rule at a time.
use Rattle.std.proofs.Common.{◌≡◌, ℕ, zero, suc, ◌+◌, ◌<◌, ◌≤◌, ◌⊎◌, Bool, true, false, not, cond, ltb, List, [], ◌∷◌, All, length, take, get_or, Option, Some, None, slice_get, refl, sym, ap, ◌∙◌, subst, arith, inl, inr}
use Rattle.std.specs.Prelude.{option_map, option_and_then, ◌==◌, ◌&&◌, nat_le, nat_lt, if◌then◌else◌}
use Rattle.std.specs.List.{position_or_len, cons_option, list_any}
use Rattle.std.specs.Str.{bytes_eq}
use Rattle.std.specs.Option.{IsSome, option_map_or}
use Rattle.std.proofs.lemmas.Bool.{cases_lt, lt-ltb, le-leb, leb-false, eqb-false, ltb-true, cases_Bool}
use Rattle.std.proofs.lemmas.List.Elements.{All-nil, All-cons, All-head, All-tail, All-get_or}
use Rattle.std.proofs.lemmas.List.Quantifiers.{position-Some}
use Rattle.std.proofs.lemmas.List.FromFn.{get_or-range_with_len, length-range_with_len}
use Rattle.std.proofs.lemmas.List.{get_or-take, length-take-le}
use Rattle.std.proofs.lemmas.List.Folds.{list_any_at}
use Rattle.std.proofs.lemmas.List.Sums.{fails_before_first}
use Rattle.std.proofs.lemmas.Slice.Eq.{bytes_eq-Decides}
use Rattle.std.proofs.lemmas.Option.{get_or_from_slice_get, slice_get_within}
use Rattle.up_model.proofs.EveryKind.{lawful}
use Rattle.up_model.proofs.GraphFlows.{AreBounded}
use Rattle.up_model.proofs.Steps.{found_passes}
use Rattle.up_model.specs.Ends.{is_source, is_one_path, path_of, clash_on_path}
use Rattle.up_model.specs.Inputs.{PipeTest, passes_at, places, first_place, consumer_count, input_pipe, ends_at_source, source_of}
use Rattle.up_model.specs.Kinds.{fan_out_of}
use Rattle.up_model.specs.Rules.{ComesToSource, FeedsRightly, TakesRightly, IsFirst, IsTold}
use Rattle.up_model.specs.declared.fan_out.FanOut.{FanOut}
use Rattle.up_model.specs.declared.fan_out.FanOut.TheVariants as fans
use Rattle.up_model.specs.declared.kind.Kind.{Kind}
use Rattle.up_model.specs.Meaning.{selects, selected}
use Rattle.up_model.specs.WellFormed.{has_same_name, has_unknown_input, has_cycle, has_many_outputs, has_no_output, has_wrong_flow, has_same_path, are_too_many, are_too_few, is_wrong_for, worker_places, worker_fault, first_of, graph_faults, graph_fault, IsPipe, IsWellFormed}
use Rattle.up_model.specs.declared.graph_fault.GraphFault.{GraphFault}
use Rattle.up_model.specs.declared.graph_fault.GraphFault.TheVariants.{SameName, UnknownInput, Cycle, ManyOutputs, NoOutput, WrongFlow, SamePath, TooManyWorkers}
use Rattle.up_model.specs.declared.limits.TheConstants.{MAX_PID, MAX_WORKERS}
use Rattle.up_model.specs.declared.pipe.Pipe.{Pipe}

-- what stands at a place of the list
pub there : (pipes : List Pipe) (place : ℕ) → place < length pipes → (pipe : Pipe) × (slice_get pipes place ≡ Some pipe)
there [] place within = absurd (omega arith)
there (pipe ∷ pipes) zero within = (pipe, refl)
there (pipe ∷ pipes) (suc place) within = there pipes place (omega arith)

none_before : (n len : ℕ) → cond (ltb n len) (Some n) None ≡ None → len ≤ n
none_before n len none =
    elim (cases_lt n len) [
      | inl within ↦ absurd (let some : Some n ≡ None = rw (lt-ltb n len within) at none in cc)
      | inr beyond ↦ beyond
    ]

-- where no pipe is the first that passes, none passes
pub nowhere : (test : PipeTest) (pipes : List Pipe) → first_place test pipes ≡ None → (place : ℕ) (pipe : Pipe) → slice_get pipes place ≡ Some pipe
    → test pipes place pipe ≡ false
nowhere test pipes none place pipe is =
    let within : place < length pipes = slice_get_within pipes place pipe is in
    let far : length (places pipes) ≤ position_or_len (passes_at test pipes) (places pipes) = none_before _ _ none in
    let same : 0 + place ≡ place = omega arith in
    let here : get_or (places pipes) place 0 ≡ place = get_or-range_with_len 0 (length pipes) place 0 within ∙ same in
    let fails : passes_at test pipes place ≡ false =
    subst (λ (p : ℕ). passes_at test pipes p ≡ false) here
    (fails_before_first (passes_at test pipes) (places pipes) place 0 (omega (arith, within, far, length-range_with_len 0 (length pipes)))) in
    subst (λ (p : Option Pipe). option_map_or (test pipes place) p false ≡ false) is fails

abbrev AreNone : List (Option GraphFault) → Type 0
AreNone [] = Unit {0}
AreNone (fault ∷ faults) = (fault ≡ None) × AreNone faults

-- where there is no first fault, there is none
all_none : (faults : List (Option GraphFault)) → first_of faults ≡ None → AreNone faults
all_none [] none = tt
all_none (None ∷ faults) none = (refl, all_none faults none)
all_none (Some fault ∷ faults) none = absurd (cc)

no_place : (fault : ℕ → GraphFault) (place : Option ℕ) → option_map fault place ≡ None → place ≡ None
no_place fault None none = refl
no_place fault (Some place) none = absurd (cc)

-- each fault is nowhere
pub record HasNoFault (pipes : List Pipe) : Type 0 where
  pub same_name : first_place has_same_name pipes ≡ None
  pub unknown_input : first_place has_unknown_input pipes ≡ None
  pub cycle : first_place has_cycle pipes ≡ None
  pub many_outputs : first_place has_many_outputs pipes ≡ None
  pub no_output : first_place has_no_output pipes ≡ None
  pub wrong_flow : first_place has_wrong_flow pipes ≡ None
  pub clash_on_path : first_place has_same_path pipes ≡ None
  pub workers : worker_fault (length (worker_places pipes)) ≡ None

pub no_fault : (pipes : List Pipe) → graph_fault pipes ≡ None → HasNoFault pipes
no_fault pipes none =
    let names = all_none (graph_faults pipes) none in
    let inputs = names.1 in
    let cycles = inputs.1 in
    let many = cycles.1 in
    let no = many.1 in
    let wrong = no.1 in
    let paths = wrong.1 in
    let workers = paths.1 in
    record {
      same_name = no_place SameName _ names.0;
      unknown_input = no_place UnknownInput _ inputs.0;
      cycle = no_place Cycle _ cycles.0;
      many_outputs = no_place ManyOutputs _ many.0;
      no_output = no_place NoOutput _ no.0;
      wrong_flow = no_place WrongFlow _ wrong.0;
      clash_on_path = no_place SamePath _ paths.0;
      workers = workers.0;
    }

not_not : (b : Bool) → not b ≡ false → b ≡ true
not_not true is = refl
not_not false is = absurd (cc)

-- what the consumers of a place select are packet identifiers
selected_of : (place : ℕ) (pipe : Pipe) (number : ℕ) → ((number : ℕ) → pipe.select ≡ Some number → number ≤ MAX_PID) → selects place pipe ≡ Some number → number ≤ MAX_PID
selected_of place pipe number few is = few number (from_input pipe.input pipe.select is)
  where
    by_test : (b : Bool) (select : Option ℕ) → cond b select None ≡ Some number → select ≡ Some number
    by_test true select is = is
    by_test false select is = absurd (cc)

    from_input : (input select : Option ℕ) → option_and_then (λ input. if input == place then select else None) input ≡ Some number → select ≡ Some number
    from_input None select is = absurd (cc)
    from_input (Some input) select is = by_test (input == place) select is

keep_one : (P : ℕ → Type 0) (o : Option ℕ) (ns : List ℕ) → ((n : ℕ) → o ≡ Some n → P n) → All P ns → All P (cons_option o ns)
keep_one P None ns one rest = rest
keep_one P (Some n) ns one rest = All-cons P n ns (one n refl) rest

selected_are : (place : ℕ) (pipes : List Pipe) → All IsPipe pipes → All (λ number. number ≤ MAX_PID) (selected pipes place)
selected_are place [] each = All-nil _
selected_are place (pipe ∷ pipes) each =
    keep_one (λ number. number ≤ MAX_PID) (selects place pipe) (selected pipes place)
    (λ number is. selected_of place pipe number (All-head IsPipe pipe pipes each).select is)
    (selected_are place pipes (All-tail IsPipe pipe pipes each))

rightly_fed : (fan_out : FanOut) (count : ℕ) → are_too_many fan_out count ≡ false → are_too_few fan_out count ≡ false → FeedsRightly fan_out count
rightly_fed fans.None count many few = tt
rightly_fed fans.One count many few = between count (nat_le 2 count) refl many (count == 0) refl few
  where
    between : (count : ℕ) (b : Bool) → nat_le 2 count ≡ b → b ≡ false → (e : Bool) → (count == 0) ≡ e → e ≡ false → count ≡ 1
    between count b is few e same some = omega (arith, leb-false 2 count (is ∙ few), eqb-false count 0 (same ∙ some))
rightly_fed fans.All count many few = omega (arith, eqb-false count 0 few)
rightly_fed fans.Selected count many few = omega (arith, eqb-false count 0 few)

rightly_taken : (fan_out : FanOut) (select : Option ℕ) → is_wrong_for fan_out select ≡ false → TakesRightly fan_out select
rightly_taken fans.None select right = absurd (cc)
rightly_taken fans.One None right = refl
rightly_taken fans.One (Some number) right = absurd (cc)
rightly_taken fans.All None right = refl
rightly_taken fans.All (Some number) right = absurd (cc)
rightly_taken fans.Selected None right = absurd (cc)
rightly_taken fans.Selected (Some number) right = refl

-- two pipes of one path clash where one of them is no source
clash : (a b : Kind) (path : List ℕ) → path_of a ≡ Some path → path_of b ≡ Some path → (is_source a ≡ false) ⊎ (is_source b ≡ false) → clash_on_path a b ≡ true
clash a b path of of_other free =
    let one : is_one_path (path_of a) (path_of b) ≡ true = rw (of, of_other) ((bytes_eq-Decides path path).1 refl) in
    rw (not_both (is_source a) (is_source b) free, one) refl
  where
    not_both : (a b : Bool) → (a ≡ false) ⊎ (b ≡ false) → not (a && b) ≡ true
    not_both true true free = absurd (elim free [ inl is ↦ cc | inr is ↦ cc ])
    not_both true false free = refl
    not_both false b free = refl

at_most : (count : ℕ) → worker_fault count ≡ None → count ≤ MAX_WORKERS
at_most count none =
    elim (cases_lt MAX_WORKERS count) [
      | inl more ↦ absurd (let many : nat_lt MAX_WORKERS count ≡ true = lt-ltb MAX_WORKERS count more in
          let some : Some (TooManyWorkers count) ≡ None = rw many at none in cc)
      | inr few ↦ few
    ]

module _ (pipes : List Pipe) (well : IsWellFormed pipes) where
  pub is_pipe : (place : ℕ) (pipe : Pipe) → slice_get pipes place ≡ Some pipe → IsPipe pipe
  is_pipe place pipe is =
      subst IsPipe (get_or_from_slice_get pipes place pipe pipe is) (All-get_or IsPipe pipes place pipe (slice_get_within pipes place pipe is) well.each)

  pub are_bounded : AreBounded pipes
  are_bounded place pipe is = (lawful pipe.kind).stand_in (selected pipes place) (is_pipe place pipe is).kind (selected_are place pipes well.each)

  -- from each place a source is reached
  pub has_source : (place : ℕ) → place < length pipes → IsSome (source_of pipes place)
  has_source place within =
      let at = there pipes place within in
      not_not _ (nowhere has_cycle pipes (no_fault pipes well.faultless).cycle place at.0 at.1)

  -- an input is a pipe of the graph
  pub input_there : (place input : ℕ) (pipe : Pipe) → slice_get pipes place ≡ Some pipe → pipe.input ≡ Some input → input < length pipes
  input_there place input pipe is of =
      let fails : option_map_or (λ input. nat_le (length pipes) input) pipe.input false ≡ false =
      nowhere has_unknown_input pipes (no_fault pipes well.faultless).unknown_input place pipe is in
      let known : nat_le (length pipes) input ≡ false = subst (λ (o : Option ℕ). option_map_or (λ input. nat_le (length pipes) input) o false ≡ false) of fails in
      elim (cases_lt input (length pipes)) [
        | inl within ↦ within
        | inr beyond ↦ absurd (let unknown : nat_le (length pipes) input ≡ true = le-leb (length pipes) input beyond in cc)
      ]

  -- an earlier pipe has another name
  earlier_differs : (a b : ℕ) (one other : Pipe) → slice_get pipes a ≡ Some one → slice_get pipes b ≡ Some other → one.name ≡ other.name → a < b → ⊥
  earlier_differs a b one other is also same before =
      let fails : list_any (λ earlier. bytes_eq earlier.name other.name) (take b pipes) ≡ false =
      nowhere has_same_name pipes (no_fault pipes well.faultless).same_name b other also in
      let there : get_or (take b pipes) a other ≡ one = get_or-take b pipes a other before ∙ get_or_from_slice_get pipes a one other is in
      let short : length (take b pipes) ≡ b = length-take-le b pipes (omega (arith, slice_get_within pipes b other also)) in
      let same_bytes : bytes_eq one.name other.name ≡ true = (bytes_eq-Decides one.name other.name).1 same in
      let found : list_any (λ earlier. bytes_eq earlier.name other.name) (take b pipes) ≡ true =
      list_any_at (λ earlier. bytes_eq earlier.name other.name) (take b pipes) a other (omega (arith, before, short)) (rw there same_bytes) in
      cc

  pub names_differ : (a b : ℕ) (one other : Pipe) → slice_get pipes a ≡ Some one → slice_get pipes b ≡ Some other → one.name ≡ other.name → a ≡ b
  names_differ a b one other is also same =
      elim (cases_lt a b) [
        | inl before ↦ absurd (earlier_differs a b one other is also same before)
        | inr after ↦ elim (cases_lt b a) [
          | inl before ↦ absurd (earlier_differs b a other one also is (sym same) before)
          | inr equal ↦ omega (arith, after, equal)
        ]
      ]

  pub comes_to_source : (place : ℕ) → place < length pipes → ComesToSource pipes place
  comes_to_source place within =
      let found = reached_place (source_of pipes place) (has_source place within) in
      let at = found_passes ends_at_source pipes (length pipes) place found.0 found.1 in
      record { source = found.0; pipe = at.0; reached = found.1; stands = at.1; is = at.2 }
    where
      reached_place : (o : Option ℕ) → IsSome o → (n : ℕ) × (o ≡ Some n)
      reached_place None some = absurd (cc)
      reached_place (Some n) some = (n, refl)

  pub feeds_rightly : (place : ℕ) (pipe : Pipe) → slice_get pipes place ≡ Some pipe → FeedsRightly (fan_out_of pipe.kind) (consumer_count pipes place)
  feeds_rightly place pipe is =
      rightly_fed (fan_out_of pipe.kind) (consumer_count pipes place)
      (nowhere has_many_outputs pipes (no_fault pipes well.faultless).many_outputs place pipe is)
      (nowhere has_no_output pipes (no_fault pipes well.faultless).no_output place pipe is)

  pub takes_rightly : (place at : ℕ) (pipe input : Pipe) → slice_get pipes place ≡ Some pipe → pipe.input ≡ Some at → slice_get pipes at ≡ Some input
      → TakesRightly (fan_out_of input.kind) pipe.select
  takes_rightly place at pipe input is of there =
      let fails : has_wrong_flow pipes place pipe ≡ false = nowhere has_wrong_flow pipes (no_fault pipes well.faultless).wrong_flow place pipe is in
      let found : input_pipe pipes pipe ≡ Some input = ap (option_and_then (slice_get pipes)) of ∙ there in
      rightly_taken (fan_out_of input.kind) pipe.select
      (subst (λ (o : Option Pipe). option_map_or (λ (input : Pipe). is_wrong_for (fan_out_of input.kind) pipe.select) o false ≡ false) found fails)

  -- an earlier pipe has another path, unless both are sources
  earlier_path : (a b : ℕ) (one other : Pipe) → slice_get pipes a ≡ Some one → slice_get pipes b ≡ Some other → clash_on_path one.kind other.kind ≡ true → a < b → ⊥
  earlier_path a b one other is also same before =
      let fails : list_any (λ earlier. clash_on_path earlier.kind other.kind) (take b pipes) ≡ false =
      nowhere has_same_path pipes (no_fault pipes well.faultless).clash_on_path b other also in
      let there : get_or (take b pipes) a other ≡ one = get_or-take b pipes a other before ∙ get_or_from_slice_get pipes a one other is in
      let short : length (take b pipes) ≡ b = length-take-le b pipes (omega (arith, slice_get_within pipes b other also)) in
      let found : list_any (λ earlier. clash_on_path earlier.kind other.kind) (take b pipes) ≡ true =
      list_any_at (λ earlier. clash_on_path earlier.kind other.kind) (take b pipes) a other (omega (arith, before, short)) (rw there same) in
      cc

  pub paths_differ : (a b : ℕ) (one other : Pipe) (path : List ℕ) → slice_get pipes a ≡ Some one → slice_get pipes b ≡ Some other
      → path_of one.kind ≡ Some path → path_of other.kind ≡ Some path → is_source one.kind ≡ false → a ≡ b
  paths_differ a b one other path is also of of_other free =
      elim (cases_lt a b) [
        | inl before ↦ absurd (earlier_path a b one other is also (clash one.kind other.kind path of of_other (inl free)) before)
        | inr after ↦ elim (cases_lt b a) [
          | inl before ↦ absurd (earlier_path b a other one also is (clash other.kind one.kind path of_other of (inr free)) before)
          | inr equal ↦ omega (arith, after, equal)
        ]
      ]

  pub few_workers : length (worker_places pipes) ≤ MAX_WORKERS
  few_workers = at_most (length (worker_places pipes)) (no_fault pipes well.faultless).workers

-- the first place that passes
first_is : (test : PipeTest) (pipes : List Pipe) (place : ℕ) → first_place test pipes ≡ Some place → IsFirst test pipes place
first_is test pipes place is =
    let found = position-Some (passes_at test pipes) (places pipes) place 0 is in
    let stands : place < length pipes = omega (arith, found.0, length-range_with_len 0 (length pipes)) in
    let at : (k : ℕ) → k < length pipes → get_or (places pipes) k 0 ≡ k =
    λ k within. get_or-range_with_len 0 (length pipes) k 0 within ∙ (omega arith) in
    record {
      stands = stands;
      passes = subst (λ (p : ℕ). passes_at test pipes p ≡ true) (at place stands) found.1;
      none_before = λ before earlier. subst (λ (p : ℕ). passes_at test pipes p ≡ false) (at before (omega (arith, earlier, stands))) (found.2 before earlier);
    }

-- what each fault in the list would tell
abbrev TellsAll : List Pipe → List (Option GraphFault) → Type 0
TellsAll pipes [] = Unit {0}
TellsAll pipes (fault ∷ faults) = ((told : GraphFault) → fault ≡ Some told → IsTold pipes told) × TellsAll pipes faults

first_told : (pipes : List Pipe) (faults : List (Option GraphFault)) (fault : GraphFault) → TellsAll pipes faults → first_of faults ≡ Some fault → IsTold pipes fault
first_told pipes [] fault tells is = absurd (cc)
first_told pipes (None ∷ faults) fault tells is = first_told pipes faults fault tells.1 is
first_told pipes (Some here ∷ faults) fault tells is = tells.0 fault is

told_by : (pipes : List Pipe) (of : ℕ → GraphFault) (test : PipeTest) → ((place : ℕ) → IsFirst test pipes place → IsTold pipes (of place))
    → (told : GraphFault) → option_map of (first_place test pipes) ≡ Some told → IsTold pipes told
told_by pipes of test tells told is = by_place (first_place test pipes) refl is
  where
    by_place : (found : Option ℕ) → first_place test pipes ≡ found → option_map of found ≡ Some told → IsTold pipes told
    by_place None at is = absurd (cc)
    by_place (Some place) at is = subst (IsTold pipes) (same (of place) told is) (tells place (first_is test pipes place at))
      where
        same : (a b : GraphFault) → Some a ≡ Some b → a ≡ b
        same a b is = cc

many_told : (pipes : List Pipe) (told : GraphFault) → worker_fault (length (worker_places pipes)) ≡ Some told → IsTold pipes told
many_told pipes told is =
    let count = length (worker_places pipes) in
    elim (cases_Bool (nat_lt MAX_WORKERS count)) [
      | inl many ↦
          let tells : Some (TooManyWorkers count) ≡ Some told = rw many at is in
          subst (IsTold pipes) (same (TooManyWorkers count) told tells) (refl, ltb-true MAX_WORKERS count many)
      | inr few ↦ absurd (let tells : None ≡ Some told = rw few at is in cc)
    ]
  where
    same : (a b : GraphFault) → Some a ≡ Some b → a ≡ b
    same a b is = cc

pub fault_is_told : (pipes : List Pipe) (fault : GraphFault) → graph_fault pipes ≡ Some fault → IsTold pipes fault
fault_is_told pipes fault is = first_told pipes (graph_faults pipes) fault (
  told_by pipes SameName has_same_name (λ place first. first),
  (
    told_by pipes UnknownInput has_unknown_input (λ place first. first),
    (
      told_by pipes Cycle has_cycle (λ place first. first),
      (
        told_by pipes ManyOutputs has_many_outputs (λ place first. first),
        (
          told_by pipes NoOutput has_no_output (λ place first. first),
          (
            told_by pipes WrongFlow has_wrong_flow (λ place first. first),
            (told_by pipes SamePath has_same_path (λ place first. first), (many_told pipes, tt)),
          ),
        ),
      ),
    ),
  ),
) is
