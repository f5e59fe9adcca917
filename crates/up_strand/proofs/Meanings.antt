-- What a strand put out, counted and wrote is what the graph says of the packets that its head had.
use Rattle.std.proofs.Common.{◌≡◌, ◌≢◌, ℕ, zero, suc, ◌+◌, ◌<◌, ◌≤◌, List, length, get_or, Bool, true, false, not, ◌&&◌, cond, is_some, Option, Some, None, slice_get, refl, sym, ap, ap₂, ◌∙◌, subst, arith, inl, inr, ◌⊎◌}
use Rattle.std.specs.Prelude.{MatchOption, option_and_then, unwrap_or}
use Rattle.std.specs.Option.{IsSome}
use Rattle.std.proofs.lemmas.Bool.Decides.{eqb_tells, leb_tells}
use Rattle.std.proofs.lemmas.List.{get_or_append_left, length-append}
use Rattle.std.proofs.lemmas.List.Elements.{Contains-get_or}
use Rattle.std.proofs.lemmas.Option.{same_Some}
use Rattle.std.specs.List.{Contains}
use Rattle.up_base.specs.Lists.{IsPrefix}
use Rattle.up_model.proofs.Steps.{step_of}
use Rattle.up_model.specs.Ends.{written_by}
use Rattle.up_model.specs.Inputs.{PipeTest, reached, reached_within}
use Rattle.up_model.specs.Meaning.{Doing, wholly, so_far, is_fed_by, flow_by, input_by, taken_by, bytes_by, pipe_work}
use Rattle.up_model.specs.Packet.{Flow}
use Rattle.up_model.specs.Plans.{head_of, is_head, outlets_of, strand_of}
use Rattle.up_model.specs.Tallies.{IsAtMost, past_own_probe, stopped, uncaught}
use Rattle.up_model.specs.declared.form.SinkForm.{SinkForm}
use Rattle.up_model.specs.declared.catch_set.CatchSet.{CatchSet}
use Rattle.up_model.specs.declared.outcome.Outcome.{Outcome}
use Rattle.up_model.specs.declared.outcome.Outcome.TheVariants.{Whole, ReadFault, WriteFault, BadFrame, TooLong, Broken, NoMemory}
use Rattle.up_model.specs.declared.pipe.Pipe.{Pipe}
use Rattle.up_model.specs.declared.plain_packet.PlainPacket.{PlainPacket}
use Rattle.up_outside.specs.Counts.{CountsWhere}
use Rattle.up_outside.specs.States.{SourceState, SinkState}
use Rattle.up_plan.proofs.OneStrand.{in_strand}
use Rattle.up_strand.proofs.AtMost.{uncaught_grows}
use Rattle.up_strand.proofs.Reaching as reaching
use Rattle.up_strand.proofs.Told.{failed_is}
use Rattle.up_strand.specs.History.{History, doing, head_flow, sums_at, to_head}
use Rattle.up_strand.specs.Nodes.{has_failed, is_outlet, is_whole, node_work, takes_from}
use Rattle.up_strand.specs.OfGraph.{AreFedAs, IsReached, IsReachedInPart}
use Rattle.up_strand.specs.Spellings.{IsSinkOf, form_of}
use Rattle.up_strand.specs.Stand.{AreDone, IsUnfinished}
use Rattle.up_strand.specs.StrandCalls.{SinkEnds}
use Rattle.up_strand.specs.Strands.{StandsFor, place_of}
use Rattle.up_strand.specs.Tree.{AllAt}
use Rattle.up_strand.specs.Writing.{Receives}
use Rattle.up_strand.specs.declared.node.Node.{Node}
use Rattle.up_strand.specs.declared.node.Part.TheVariants.{Sink}
use Rattle.up_strand.specs.declared.spelling.Spelling.{Spelling}
use Rattle.up_strand.specs.declared.strand.Strand.{Strand}

some_here : (passes : Bool) (place : ℕ) (further : Option ℕ) → (passes ≡ true) ⊎ IsSome further → IsSome (cond passes (Some place) further)
some_here true place further some = refl
some_here false place further (inl passes) = absurd (cc)
some_here false place further (inr some) = some

-- where a place is reached, something that passes another test is, if that place passes it
reached_too : (test other : PipeTest) (pipes : List Pipe) (steps place found : ℕ) → ((pipe : Pipe) → other pipes found pipe ≡ true)
    → reached_within steps test pipes place ≡ Some found → IsSome (reached_within steps other pipes place)
reached_too test other pipes zero place found passes is = absurd (cc)
reached_too test other pipes (suc steps) place found passes is =
    let step = step_of test pipes steps place found is in
    let further : (other pipes place step.pipe ≡ true) ⊎ IsSome (option_and_then (reached_within steps other pipes) step.pipe.input) =
    elim step.way [
      | inl here ↦ inl (subst (λ (p : ℕ). other pipes p step.pipe ≡ true) (sym here.1) (passes step.pipe))
      | inr on ↦ inr (rw on.2 (reached_too test other pipes steps on.1 found passes on.3))
    ] in
    rw step.at (some_here _ place _ further)

given_head : (head : ℕ) (fed : Flow) (place : ℕ) → place ≡ head → to_head head fed place ≡ Some fed
given_head head fed place is = elim (eqb_tells place head) [
  | inl same ↦ rw same.0 refl
  | inr other ↦ absurd (other.1 is)
]

pub given_other : (head : ℕ) (fed : Flow) (place : ℕ) → place ≢ head → to_head head fed place ≡ None
given_other head fed place other_than = elim (eqb_tells place head) [
  | inl same ↦ absurd (other_than same.1)
  | inr other ↦ rw other.0 refl
]

-- and so is what is fed to it
pub fed_at_head : (pipes : List Pipe) (head place : ℕ) (flow : Flow) → head_of pipes place ≡ Some head
    → IsSome (reached (is_fed_by (to_head head flow)) pipes place)
fed_at_head pipes head place flow is = reached_too is_head (is_fed_by (to_head head flow)) pipes (length pipes) place head
    (λ pipe. ap is_some (given_head head flow head refl)) is

module _ {P S K : Type 0} (plain : P → PlainPacket) (reads : S → SourceState) (writes : K → SinkState) (strand : Strand P S K) (h : History)
    (stands : StandsFor plain reads writes strand h) where
  abbrev nodes : List (Node P K)
  nodes = strand.tree.nodes.items

  abbrev place : ℕ → ℕ
  place = place_of strand

  abbrev own_places : List ℕ
  own_places = strand_of h.pipes h.head

  abbrev given : ℕ → Option Flow
  given = to_head h.head (head_flow h)

  -- the first nodes are the pipes of the strand
  pub is_pipe_node : (i : ℕ) (d : Node P K) → i < length own_places → (i < length nodes) × (is_outlet (get_or nodes i d).part ≡ false)
  is_pipe_node i d within =
      let long = length-append own_places (outlets_of h.pipes h.head) in
      let all = ap length stands.built.places in
      let count = stands.built.count in
      let inside : i < length nodes = omega (arith, long, all, count, within) in
      (inside, stands.built.outlets i d inside ∙ elim (leb_tells (length own_places) i) [ inl past ↦ absurd (omega (arith, past.1, within)) | inr before ↦ before.0 ])

  pub is_within_pipes : (i : ℕ) (d : Node P K) → i < length nodes → is_outlet (get_or nodes i d).part ≡ false → i < length own_places
  is_within_pipes i d within inner = elim (leb_tells (length own_places) i) [
    | inl past ↦ absurd (let is = sym past.0 ∙ sym (stands.built.outlets i d within) ∙ inner in cc)
    | inr before ↦ before.1
  ]

  -- the place of a node that is a pipe
  pub place_of_pipe : (i : ℕ) → i < length own_places → place i ≡ get_or own_places i 0
  place_of_pipe i within =
      ap (λ (l : List ℕ). get_or l i 0) stands.built.places ∙ get_or_append_left own_places (outlets_of h.pipes h.head) 0 i within

  -- the head is reached from each pipe
  reaches_head : (i : ℕ) → i < length own_places → head_of h.pipes (place i) ≡ Some h.head
  reaches_head i within =
      in_strand h.pipes h.head (place i) (subst (Contains own_places) (sym (place_of_pipe i within)) (Contains-get_or own_places i 0 within))

  -- a node behind another isn't the head
  pub behind_head : (i k : ℕ) (d : Node P K) → i < length nodes → takes_from (get_or nodes i d).input k ≡ true → place i ≢ h.head
  behind_head i k d within takes is =
      let first = get_or strand.tree.order.items 0 0 in
      let inside : first < length nodes = stands.built.swept.sweeps.within 0 0 stands.built.some in
      let none : (get_or nodes first d).input ≡ None = stands.built.first d 0 in
      let there : place first ≡ h.head = stands.built.head first d inside none in
      let count = stands.built.count in
      let same : i ≡ first = stands.built.apart i first (omega (arith, count, within)) (omega (arith, count, inside)) (is ∙ sym there) in
      let takes_none : takes_from None k ≡ true = sym (ap (λ input. takes_from input k) (ap (λ n. (get_or nodes n d).input) same ∙ none)) ∙ takes in
      cc

  are_fed : (does : Doing) (IsTold : Flow → Flow → Type 0) → IsTold h.fed (head_flow h) → AreFedAs does h.pipes given IsTold place nodes stands.past
  are_fed does IsTold told = record {
    reaches = λ i d within inner. fed_at_head h.pipes h.head (place i) (head_flow h) (reaches_head i (is_within_pipes i d within inner));
    behind = λ i k d within inner takes. given_other h.head (head_flow h) (place i) (behind_head i k d within takes);
    head = λ i d pipe within none there.
        let input : input_by does h.pipes given (place i) pipe ≡ head_flow h = ap (λ fed. unwrap_or fed (taken_by h.pipes (flow_by does h.pipes given) pipe)) (given_head h.head (head_flow h) (place i) (stands.built.head i d within none)) in
        subst (λ (f : Flow). IsTold f (input_by does h.pipes given (place i) pipe)) (sym (stands.fed.fed i d within none))
        (subst (IsTold h.fed) (sym input) told);
  }

  -- whatever became of memory: first parts of what the graph says
  pub record Begins (does : Doing) : Type 0 where
    pub reached : IsReachedInPart does h.pipes given writes place nodes stands.past
    pub bytes : (form : SinkForm) (i : ℕ) (d : Node P K) (pipe : Pipe) → i < length nodes → is_outlet (get_or nodes i d).part ≡ false
        → MatchOption (stands.past.seats i).kind ⊥ (IsSinkOf form) → slice_get h.pipes (place i) ≡ Some pipe
        → IsPrefix (written_by form (stands.past.fed i)) (bytes_by does h.pipes given (place i) pipe)

  whole_begins : Begins wholly
  whole_begins = record {
    reached = reaching.reached_in_part plain writes wholly h.pipes place given nodes stands.past stands.built.swept.rank stands.built.swept.tree stands.stand stands.built.are
        (λ i d within kind taken bounds first. reaching.whole_first (place i) _ kind (stands.past.fed i) taken bounds first)
        (are_fed wholly IsPrefix stands.fed.first)
        (λ i d within kind taken bounds first. reaching.whole_sums_first (place i) _ kind (stands.past.fed i) taken bounds first);
    bytes = reaching.bytes_first plain writes wholly h.pipes place given nodes stands.past stands.built.swept.rank stands.built.swept.tree stands.stand stands.built.are
        (λ i d within kind taken bounds first. reaching.whole_first (place i) _ kind (stands.past.fed i) taken bounds first)
        (are_fed wholly IsPrefix stands.fed.first);
  }

  part_begins : h.ended ≢ Some Whole → Begins so_far
  part_begins other_than =
      let owed = stands.ended.nodes.owed other_than in
      record {
        reached = reaching.reached_in_part plain writes so_far h.pipes place given nodes stands.past stands.built.swept.rank stands.built.swept.tree stands.stand stands.built.are
            (λ i d within kind taken bounds first. rw (owed i d within) (reaching.settled_first (place i) kind (stands.past.fed i) taken bounds first))
            (are_fed so_far IsPrefix stands.fed.first)
            (λ i d within kind taken bounds first. rw (owed i d within) (reaching.settled_sums_first (place i) kind (stands.past.fed i) taken bounds first));
        bytes = reaching.bytes_first plain writes so_far h.pipes place given nodes stands.past stands.built.swept.rank stands.built.swept.tree stands.stand stands.built.are
            (λ i d within kind taken bounds first. rw (owed i d within) (reaching.settled_first (place i) kind (stands.past.fed i) taken bounds first))
            (are_fed so_far IsPrefix stands.fed.first);
      }

  begins_by : (ended : Option Outcome) → h.ended ≡ ended → Begins (doing ended)
  begins_by None is = part_begins (λ same. cc)
  begins_by (Some Whole) is = whole_begins
  begins_by (Some ReadFault) is = part_begins (λ same. cc)
  begins_by (Some WriteFault) is = part_begins (λ same. cc)
  begins_by (Some (BadFrame offset)) is = part_begins (λ same. cc)
  begins_by (Some (TooLong limit)) is = part_begins (λ same. cc)
  begins_by (Some Broken) is = part_begins (λ same. cc)
  begins_by (Some NoMemory) is = part_begins (λ same. cc)

  pub begins : Begins (doing h.ended)
  begins = begins_by h.ended refl

  -- where memory didn't run out: what the graph says
  pub record Comes (does : Doing) : Type 0 where
    pub long : (i : ℕ) (d : Node P K) → i < length nodes → (get_or nodes i d).short ≡ false
    pub reached : IsReached does h.pipes given writes place nodes stands.past
    pub bytes : (form : SinkForm) (i : ℕ) (d : Node P K) (pipe : Pipe) → i < length nodes → is_outlet (get_or nodes i d).part ≡ false
        → MatchOption (stands.past.seats i).kind ⊥ (IsSinkOf form) → slice_get h.pipes (place i) ≡ Some pipe
        → written_by form (stands.past.fed i) ≡ bytes_by does h.pipes given (place i) pipe

  unfinished_comes : h.short ≡ false → AllAt IsUnfinished nodes → Comes so_far
  unfinished_comes long unfinished = record {
    long = λ i d within. (unfinished i d within).long;
    reached = reaching.reached plain writes false h.pipes place given nodes stands.past stands.built.swept.rank stands.built.swept.tree stands.stand stands.built.are stands.ended.nodes.settled
        (λ i d within. (unfinished i d within).long) (λ i d within inner. rw (unfinished i d within).part refl)
        (are_fed so_far (λ took takes. took ≡ takes) (stands.fed.all long));
    bytes = reaching.bytes_are plain writes false h.pipes place given nodes stands.past stands.built.swept.rank stands.built.swept.tree stands.stand stands.built.are stands.ended.nodes.settled
        (λ i d within. (unfinished i d within).long) (λ i d within inner. rw (unfinished i d within).part refl)
        (are_fed so_far (λ took takes. took ≡ takes) (stands.fed.all long));
  }

  done_comes : h.short ≡ false → AreDone nodes → Comes wholly
  done_comes long done =
      let works : (i : ℕ) (d : Node P K) → i < length nodes → is_outlet (get_or nodes i d).part ≡ false
      → node_work (is_whole (get_or nodes i d).part) (stands.past.seats i).kind (stands.past.fed i) ≡ node_work true (stands.past.seats i).kind (stands.past.fed i) =
      λ i d within inner. reaching.whole_as_done plain writes (stands.past.seats i) (get_or nodes i d).short (get_or nodes i d).part (stands.past.fed i) inner
      (done i d within).ended (done i d within).whole (stands.stand.node i d within).part in
      record {
        long = λ i d within. (done i d within).long;
        reached = reaching.reached plain writes true h.pipes place given nodes stands.past stands.built.swept.rank stands.built.swept.tree stands.stand stands.built.are stands.ended.nodes.settled
            (λ i d within. (done i d within).long) works (are_fed wholly (λ took takes. took ≡ takes) (stands.fed.all long));
        bytes = reaching.bytes_are plain writes true h.pipes place given nodes stands.past stands.built.swept.rank stands.built.swept.tree stands.stand stands.built.are stands.ended.nodes.settled
            (λ i d within. (done i d within).long) works (are_fed wholly (λ took takes. took ≡ takes) (stands.fed.all long));
      }

  broken_comes : (outcome : Outcome) → h.short ≡ false → h.ended ≡ Some outcome → outcome ≢ Whole → Comes so_far
  broken_comes outcome long is other_than = unfinished_comes long (stands.ended.nodes.broken long outcome is other_than)

  comes_by : (ended : Option Outcome) → h.short ≡ false → h.ended ≡ ended → Comes (doing ended)
  comes_by None long is = unfinished_comes long
      (λ i d within. let sound = stands.ended.nodes.going long is i d within in record { long = sound.long; part = reaching.whole_as_sound plain writes _ sound.going })
  comes_by (Some Whole) long is = done_comes long (stands.ended.nodes.done long is)
  comes_by (Some ReadFault) long is = broken_comes ReadFault long is (λ same. cc)
  comes_by (Some WriteFault) long is = broken_comes WriteFault long is (λ same. cc)
  comes_by (Some (BadFrame offset)) long is = broken_comes (BadFrame offset) long is (λ same. cc)
  comes_by (Some (TooLong limit)) long is = broken_comes (TooLong limit) long is (λ same. cc)
  comes_by (Some Broken) long is = broken_comes Broken long is (λ same. cc)
  comes_by (Some NoMemory) long is = broken_comes NoMemory long is (λ same. cc)

  pub comes : h.short ≡ false → Comes (doing h.ended)
  comes long = comes_by h.ended long refl

  -- the sums of a pipe, past its own probe
  pub sums_are : (i : ℕ) (d : Node P K) (caught : CatchSet) → i < length (strand_of h.pipes h.head) → h.short ≡ false → slice_get strand.caught.items i ≡ Some caught
      → uncaught caught (get_or strand.tree.nodes.items i d).out.tally ≡ sums_at h (place_of strand i)
  sums_are i d caught within long there =
      let node = is_pipe_node i d within in
      let own = stands.built.are.each i d node.0 node.1 in
      let sums = stopped (pipe_work (doing h.ended) h.pipes given (place i)).tally in
      let same : caught ≡ own.pipe.caught = same_Some caught own.pipe.caught (sym there ∙ stands.built.caught i own.pipe within own.there) in
      ap (uncaught caught) ((comes long).reached.sums i d node.0 node.1) ∙ ap (λ c. uncaught c sums) same ∙ sym (ap (λ o. past_own_probe o sums) own.there)

  -- whatever became of memory they are at most those
  pub sums_most : (i : ℕ) (d : Node P K) (caught : CatchSet) → i < length (strand_of h.pipes h.head) → slice_get strand.caught.items i ≡ Some caught
      → IsAtMost (uncaught caught (get_or strand.tree.nodes.items i d).out.tally) (sums_at h (place_of strand i))
  sums_most i d caught within there =
      let node = is_pipe_node i d within in
      let own = stands.built.are.each i d node.0 node.1 in
      let sums = stopped (pipe_work (doing h.ended) h.pipes given (place i)).tally in
      let same : caught ≡ own.pipe.caught = same_Some caught own.pipe.caught (sym there ∙ stands.built.caught i own.pipe within own.there) in
      let is : uncaught caught sums ≡ sums_at h (place_of strand i) = ap (λ c. uncaught c sums) same ∙ sym (ap (λ o. past_own_probe o sums) own.there) in
      subst (IsAtMost (uncaught caught (get_or nodes i d).out.tally)) is (uncaught_grows caught (get_or nodes i d).out.tally sums (begins.reached.sums i d node.0 node.1))

  -- what a sink was given
  pub sink_ends : (i : ℕ) (d : Node P K) (sink : K) (spelling : Spelling) (failed : Bool) (pipe : Pipe) → i < length strand.tree.nodes.items
      → (get_or strand.tree.nodes.items i d).part ≡ Sink sink spelling failed → slice_get h.pipes (place_of strand i) ≡ Some pipe
      → SinkEnds h (place_of strand i) pipe (writes sink)
  sink_ends i d sink spelling failed pipe within is there =
      let inner : is_outlet (get_or nodes i d).part ≡ false = rw is refl in
      let part = rw is at (stands.stand.node i d within).part in
      let form = form_of spelling in
      let took = written_by form (stands.past.fed i) in
      let works = not (get_or nodes i d).short && not failed in
      let start = stands.writing.starts i d sink spelling failed within is in
      let received : Receives (h.sinks (place i)) (writes sink) works took = subst (λ (s : SinkState). Receives s (writes sink) works took) start part.1 in
      let faults : CountsWhere failed (h.sinks (place i)).faults (writes sink).faults = subst (λ (s : SinkState). CountsWhere failed s.faults (writes sink).faults) start part.2.counts in
      let has : h.failed (place i) ≡ failed = failed_is plain reads writes strand h stands i d within ∙ ap has_failed is in
      record {
        put = received.put;
        appended = received.appended;
        first = reaching.prefix_on received.put took _ received.prefix (begins.bytes form i d pipe within inner part.0 there);
        all = λ long right.
            received.whole (ap₂ (λ short fell. not short && not fell) ((comes long).long i d within) (sym has ∙ right))
            ∙ (comes long).bytes form i d pipe within inner part.0 there;
        faults = subst (λ (fell : Bool). CountsWhere fell (h.sinks (place i)).faults (writes sink).faults) (sym has) faults;
        once = subst (λ (s : SinkState). (writes sink).faults ≤ s.faults + 1) start part.2.once;
        left = stands.writing.now i d sink spelling failed within is;
        same = received.same;
      }
