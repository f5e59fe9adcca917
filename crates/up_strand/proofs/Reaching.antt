-- What the nodes of a strand took and put out is what the graph says, by induction on their ranks.
use Rattle.std.proofs.Common.{◌≡◌, ℕ, zero, suc, ◌+◌, ◌<◌, List, [], ◌++◌, length, map, get_or, Bool, true, false, Option, Some, None, slice_get, refl, sym, ap, ◌∙◌, subst, append-nil, append_assoc, arith, inl, inr}
use Rattle.std.specs.Prelude.{MatchOption, unwrap_or}
use Rattle.std.specs.Io.KnownBytes.{Appends}
use Rattle.std.proofs.lemmas.Bool.Decides.{eqb_tells}
use Rattle.std.proofs.lemmas.Option.{same_Some}
use Rattle.up_base.specs.Lists.{IsPrefix}
use Rattle.up_model.proofs.EveryKind.{lawful}
use Rattle.up_model.proofs.GraphFlows.{written_grows, so_far-wholly}
use Rattle.up_model.proofs.Ways.{flow_by-unrolled}
use Rattle.up_model.specs.Ends.{written_by}
use Rattle.up_model.specs.Kinds.{IsWithinBounds, output_of, settled_output, settled_work, work_of, module_kind, share_of, written_of}
use Rattle.up_model.specs.Meaning.{Doing, Feeding, wholly, so_far, selected, done_by, shared, taken_from, taken_by, work_at, flow_by, pipe_work, input_by, bytes_by}
use Rattle.up_model.specs.Packet.{Flow}
use Rattle.up_model.specs.Tallies.{IsAtMost, of_source, stopped}
use Rattle.up_model.specs.Work.{Work}
use Rattle.up_model.specs.declared.form.SinkForm.{SinkForm}
use Rattle.up_model.specs.declared.kind.Kind.{Kind}
use Rattle.up_model.specs.declared.kind.Kind.TheVariants as kinds
use Rattle.up_model.specs.declared.pipe.Pipe.{Pipe}
use Rattle.up_model.specs.declared.plain_packet.PlainPacket.{PlainPacket}
use Rattle.up_model.specs.declared.tally.Tally.{Tally}
use Rattle.up_outside.specs.States.{SinkState}
use Rattle.up_strand.proofs.AtMost.{at_most_on, stopped_grows}
use Rattle.up_strand.proofs.NodeSteps.{head_work, sink_work, source_sums_grow}
use Rattle.up_strand.specs.Nodes.{Seat, PartStands, node_work, is_outlet, is_whole, has_ended, is_pipe, takes_from}
use Rattle.up_strand.specs.OfGraph.{IsInputOf, AreNodesOf, AreFed, AreFedInPart, IsReached, IsReachedInPart}
use Rattle.up_strand.specs.Spellings.{IsSinkOf, form_of}
use Rattle.up_strand.specs.Stand.{Past, Stand, AreSettled}
use Rattle.up_strand.specs.Tree.{IsTree}
use Rattle.up_strand.specs.declared.node.Node.{Node}
use Rattle.up_strand.specs.declared.node.Part.{Part}
use Rattle.up_strand.specs.declared.node.Part.TheVariants.{Head, Pipe as PipePart, Sink, Outlet, Ended}

-- no kind has another in its place, and each gives its whole output
pub same_kind : (numbers : List ℕ) (kind : Kind) → module_kind numbers kind ≡ kind
same_kind numbers (kinds.Source path form limit) = refl
same_kind numbers (kinds.Sink path form) = refl
same_kind numbers kinds.Idem = refl
same_kind numbers kinds.Null = refl
same_kind numbers kinds.Dup = refl
same_kind numbers (kinds.Skip bytes) = refl
same_kind numbers (kinds.SetAttr attr value) = refl
same_kind numbers (kinds.DelAttr attr) = refl
same_kind numbers (kinds.MatchAttr attr low high) = refl
same_kind numbers (kinds.Delay by) = refl

pub whole_output : (kind : Kind) (select : Option ℕ) (flow : Flow) → share_of kind select flow ≡ flow
whole_output (kinds.Source path form limit) select flow = refl
whole_output (kinds.Sink path form) select flow = refl
whole_output kinds.Idem select flow = refl
whole_output kinds.Null select flow = refl
whole_output kinds.Dup select flow = refl
whole_output (kinds.Skip bytes) select flow = refl
whole_output (kinds.SetAttr attr value) select flow = refl
whole_output (kinds.DelAttr attr) select flow = refl
whole_output (kinds.MatchAttr attr low high) select flow = refl
whole_output (kinds.Delay by) select flow = refl

-- what a pipe does, wholly or so far
abbrev pub doing : Bool → Doing
doing true = wholly
doing false = so_far

-- the work of a node is what its pipe does with what it took
done_as : (whole : Bool) (place : ℕ) (kind : Kind) (fed taken : Flow) → fed ≡ taken
    → node_work whole (Some kind) fed ≡ done_by (doing whole) place kind taken
done_as false place (kinds.Source path form limit) fed taken is = rw is refl
done_as true place (kinds.Source path form limit) fed taken is = rw is refl
done_as false place kind fed taken is = rw is refl
done_as true place kind fed taken is = rw is refl

-- a prefix of a prefix
pub prefix_on : {X : Type 0} (a b c : List X) → IsPrefix a b → IsPrefix b c → IsPrefix a c
prefix_on a b c one two = (one.0 ++ two.0, two.1 ∙ ap (λ l. l ++ two.0) one.1 ∙ append_assoc a one.0 two.0)

-- what is settled of the first packets that a pipe takes comes first of what is settled of all
pub settled_first : (place : ℕ) (kind : Kind) (fed taken : Flow) → IsWithinBounds kind → IsPrefix fed taken
    → IsPrefix (node_work false (Some kind) fed).flow (done_by so_far place kind taken).flow
settled_first place (kinds.Source path form limit) fed taken within first = first
settled_first place kind fed taken within first =
    subst (λ (f : Flow). IsPrefix (settled_output kind fed) (settled_output kind f)) (sym first.1) (((lawful kind).flows within).longer fed first.0)

-- no kind holds packets back for the end of its flow: what it put out at an end is what it put out before. A kind that does enters here.
holds_nothing_back : (kind : Kind) (taken : Flow) → output_of kind taken ≡ settled_output kind taken
holds_nothing_back (kinds.Source path form limit) taken = refl
holds_nothing_back (kinds.Sink path form) taken = refl
holds_nothing_back kinds.Idem taken = refl
holds_nothing_back kinds.Null taken = refl
holds_nothing_back kinds.Dup taken = refl
holds_nothing_back (kinds.Skip bytes) taken = refl
holds_nothing_back (kinds.SetAttr attr value) taken = refl
holds_nothing_back (kinds.DelAttr attr) taken = refl
holds_nothing_back (kinds.MatchAttr attr low high) taken = refl
holds_nothing_back (kinds.Delay by) taken = refl

-- what a node put out of the first packets that its pipe takes comes first of what comes of all, also where its flow has ended
pub whole_first : (place : ℕ) (whole : Bool) (kind : Kind) (fed taken : Flow) → IsWithinBounds kind → IsPrefix fed taken
    → IsPrefix (node_work whole (Some kind) fed).flow (done_by wholly place kind taken).flow
whole_first place false (kinds.Source path form limit) fed taken within first = first
whole_first place true (kinds.Source path form limit) fed taken within first = first
whole_first place false kind fed taken within first = so_far-wholly place kind fed taken within first
whole_first place true kind fed taken within first =
    subst (λ (f : Flow). IsPrefix f (output_of kind taken)) (sym (holds_nothing_back kind fed)) (so_far-wholly place kind fed taken within first)

-- no kind counts more at the end of its flow
counts_nothing_more : (kind : Kind) (taken : Flow) → (work_of kind taken).tally ≡ (settled_work kind taken).tally
counts_nothing_more (kinds.Source path form limit) taken = refl
counts_nothing_more (kinds.Sink path form) taken = refl
counts_nothing_more kinds.Idem taken = refl
counts_nothing_more kinds.Null taken = refl
counts_nothing_more kinds.Dup taken = refl
counts_nothing_more (kinds.Skip bytes) taken = refl
counts_nothing_more (kinds.SetAttr attr value) taken = refl
counts_nothing_more (kinds.DelAttr attr) taken = refl
counts_nothing_more (kinds.MatchAttr attr low high) taken = refl
counts_nothing_more (kinds.Delay by) taken = refl

source_sums_first : (fed taken : Flow) → IsPrefix fed taken → IsAtMost (of_source fed) (of_source taken)
source_sums_first fed taken first = subst (λ (f : Flow). IsAtMost (of_source fed) (of_source f)) (sym first.1) (source_sums_grow fed first.0)

-- what a node counted of the first packets that its pipe takes is at most what is counted of all
pub settled_sums_first : (place : ℕ) (kind : Kind) (fed taken : Flow) → IsWithinBounds kind → IsPrefix fed taken
    → IsAtMost (node_work false (Some kind) fed).tally (done_by so_far place kind taken).tally
settled_sums_first place (kinds.Source path form limit) fed taken within first = source_sums_first fed taken first
settled_sums_first place kind fed taken within first =
    subst (λ (f : Flow). IsAtMost (settled_work kind fed).tally (settled_work kind f).tally) (sym first.1) (((lawful kind).flows within).sums_longer fed first.0)

sums_so_far_wholly : (kind : Kind) (fed taken : Flow) → IsWithinBounds kind → IsPrefix fed taken
    → IsAtMost (settled_work kind fed).tally (work_of kind taken).tally
sums_so_far_wholly kind fed taken within first =
    subst (λ (f : Flow). IsAtMost (settled_work kind fed).tally (work_of kind f).tally) (sym first.1) (((lawful kind).flows within).sums_whole fed first.0)

pub whole_sums_first : (place : ℕ) (whole : Bool) (kind : Kind) (fed taken : Flow) → IsWithinBounds kind → IsPrefix fed taken
    → IsAtMost (node_work whole (Some kind) fed).tally (done_by wholly place kind taken).tally
whole_sums_first place false (kinds.Source path form limit) fed taken within first = source_sums_first fed taken first
whole_sums_first place true (kinds.Source path form limit) fed taken within first = source_sums_first fed taken first
whole_sums_first place false kind fed taken within first = sums_so_far_wholly kind fed taken within first
whole_sums_first place true kind fed taken within first =
    subst (λ (t : Tally). IsAtMost t (work_of kind taken).tally) (sym (counts_nothing_more kind fed)) (sums_so_far_wholly kind fed taken within first)

-- a sink and a source do the same wholly and so far, and an outlet is no pipe
module _ {P K : Type 0} (plain : P → PlainPacket) (state : K → SinkState) where
  pub whole_as_done : (seat : Seat) (short : Bool) (part : Part K) (fed : Flow) → is_outlet part ≡ false → is_pipe part ≡ false → has_ended part ≡ is_whole part
      → PartStands plain state seat short part fed → node_work (is_whole part) seat.kind fed ≡ node_work true seat.kind fed
  whole_as_done seat short Head fed inner ended whole part = head_work false seat.kind fed part ∙ sym (head_work true seat.kind fed part)
  whole_as_done seat short (PipePart m) fed inner ended whole part = absurd (cc)
  whole_as_done seat short (Sink sink spelling failed) fed inner ended whole part = sink_work false seat.kind (form_of spelling) fed part.0 ∙ sym (sink_work true seat.kind (form_of spelling) fed part.0)
  whole_as_done seat short Outlet fed inner ended whole part = absurd (cc)
  whole_as_done seat short (Ended w) fed inner ended whole part = rw (sym whole) refl

  pub whole_as_sound : (part : Part K) → has_ended part ≡ false → is_whole part ≡ false
  whole_as_sound Head going = refl
  whole_as_sound (PipePart m) going = refl
  whole_as_sound (Sink sink spelling failed) going = refl
  whole_as_sound Outlet going = refl
  whole_as_sound (Ended w) going = absurd (cc)

  own_bytes : (form : SinkForm) (kind : Option Kind) (own : Kind) (fed : Flow) → kind ≡ Some own → MatchOption kind ⊥ (IsSinkOf form)
      → written_by form fed ≡ written_of own fed
  own_bytes form kind own fed is sink = by_kind own (rw is at sink)
    where
      by_kind : (k : Kind) → IsSinkOf form k → written_by form fed ≡ written_of k fed
      by_kind (kinds.Sink path its) same = ap (λ f. written_by f fed) (sym same)
      by_kind k wrong = absurd wrong

  module _ (whole : Bool) (pipes : List Pipe) (places : ℕ → ℕ) (given : Feeding) (nodes : List (Node P K)) (past : Past) (rank : ℕ → ℕ) (tree : IsTree rank nodes)
      (stand : Stand plain state nodes past) (of : AreNodesOf pipes places nodes past) (settled : AreSettled nodes)
      (long : (i : ℕ) (d : Node P K) → i < length nodes → (get_or nodes i d).short ≡ false)
      (works : (i : ℕ) (d : Node P K) → i < length nodes → is_outlet (get_or nodes i d).part ≡ false
      → node_work (is_whole (get_or nodes i d).part) (past.seats i).kind (past.fed i) ≡ node_work whole (past.seats i).kind (past.fed i))
      (are_fed : AreFed (doing whole) pipes given places nodes past) where
    abbrev flows : ℕ → Flow
    flows = flow_by (doing whole) pipes given

    -- what a node took, where what its input put out is what the graph says
    fed_by : (i : ℕ) (d : Node P K) (input : Option ℕ) (pipe : Pipe) → i < length nodes → (get_or nodes i d).input ≡ input
        → is_outlet (get_or nodes i d).part ≡ false → IsInputOf pipes places input pipe → slice_get pipes (places i) ≡ Some pipe
        → ((k : ℕ) → k < length nodes → rank k < rank i → is_outlet (get_or nodes k d).part ≡ false → past.gone k ≡ flows (places k))
        → past.fed i ≡ input_by (doing whole) pipes given (places i) pipe
    fed_by i d None pipe within is own input there before = are_fed.head i d pipe within is there
    fed_by i d (Some k) pipe within is own input there before =
        let takes : takes_from (get_or nodes i d).input k ≡ true =
        rw is (elim (eqb_tells k k) [ inl same ↦ same.0 | inr other ↦ absurd (other.1 refl) ]) in
        let behind = tree.inputs i d k within takes in
        let inner = of.inner i k d within takes in
        let input_node = of.each k d behind.0 inner in
        let shares : taken_by pipes flows pipe ≡ flows (places k) =
        ap (taken_from pipes flows pipe.select) input ∙ ap (λ (o : Option Pipe). shared o pipe.select (flows (places k))) input_node.there
        ∙ whole_output input_node.pipe.kind pipe.select (flows (places k)) in
        let unfed : input_by (doing whole) pipes given (places i) pipe ≡ taken_by pipes flows pipe =
        ap (λ fed. unwrap_or fed (taken_by pipes flows pipe)) (are_fed.behind i k d within own takes) in
        stand.edge i d k within takes ∙ before k behind.0 behind.1 inner ∙ sym shares ∙ sym unfed

    -- the work of a node is that of its pipe
    work_is : (i : ℕ) (d : Node P K) → (within : i < length nodes) → is_outlet (get_or nodes i d).part ≡ false
        → ((k : ℕ) → k < length nodes → rank k < rank i → is_outlet (get_or nodes k d).part ≡ false → past.gone k ≡ flows (places k))
        → node_work (is_whole (get_or nodes i d).part) (past.seats i).kind (past.fed i) ≡ pipe_work (doing whole) pipes given (places i)
    work_is i d within inner before =
        let node = of.each i d within inner in
        let taken = input_by (doing whole) pipes given (places i) node.pipe in
        let kind : (past.seats i).kind ≡ Some node.pipe.kind = node.kind ∙ ap Some (same_kind (selected pipes (places i)) node.pipe.kind) in
        let fed = fed_by i d (get_or nodes i d).input node.pipe within refl inner node.input_of node.there before in
        works i d within inner ∙ ap (λ k. node_work whole k (past.fed i)) kind
        ∙ done_as whole (places i) node.pipe.kind (past.fed i) taken fed
        ∙ ap (λ k. done_by (doing whole) (places i) k taken) (sym (same_kind (selected pipes (places i)) node.pipe.kind))
        ∙ ap (work_at (doing whole) pipes given flows (places i)) (sym node.there)

    all_gone : (i : ℕ) (d : Node P K) → (within : i < length nodes) → is_outlet (get_or nodes i d).part ≡ false
        → past.gone i ≡ (node_work (is_whole (get_or nodes i d).part) (past.seats i).kind (past.fed i)).flow
    all_gone i d within inner =
        let holds = (stand.node i d within).holds in
        let none : holds.lacking ≡ [] = holds.all (long i d within) in
        sym (holds.flow ∙ ap (λ l. past.gone i ++ map plain (get_or nodes i d).out.packets ++ l) none ∙ append-nil _
        ∙ ap (λ ps. past.gone i ++ map plain ps) (settled i d within inner) ∙ append-nil (past.gone i))

    -- what has left each node is what its pipe puts out
    pub gone_is : (n i : ℕ) (d : Node P K) → rank i < n → i < length nodes → is_outlet (get_or nodes i d).part ≡ false → past.gone i ≡ flows (places i)
    gone_is zero i d below within inner = absurd (omega arith)
    gone_is (suc n) i d below within inner =
        let node = of.each i d within inner in
        let work = work_is i d within inner (λ k inside less other. gone_is n k d (omega arith) inside other) in
        all_gone i d within inner ∙ ap (λ (w : Work). w.flow) work
        ∙ sym (flow_by-unrolled pipes (doing whole) given (places i) (are_fed.reaches i d within inner))

    -- the bytes that a sink took are those that it is to write
    pub bytes_are : (form : SinkForm) (i : ℕ) (d : Node P K) (pipe : Pipe) → i < length nodes → is_outlet (get_or nodes i d).part ≡ false
        → MatchOption (past.seats i).kind ⊥ (IsSinkOf form) → slice_get pipes (places i) ≡ Some pipe
        → written_by form (past.fed i) ≡ bytes_by (doing whole) pipes given (places i) pipe
    bytes_are form i d pipe within inner sink there =
        let node = of.each i d within inner in
        let same_pipe : node.pipe ≡ pipe = same_Some node.pipe pipe (sym node.there ∙ there) in
        let kind : (past.seats i).kind ≡ Some node.pipe.kind = node.kind ∙ ap Some (same_kind (selected pipes (places i)) node.pipe.kind) in
        let fed = fed_by i d (get_or nodes i d).input node.pipe within refl inner node.input_of node.there (λ k inside less other. gone_is (rank k + 1) k d (omega arith) inside other) in
        own_bytes form (past.seats i).kind node.pipe.kind (past.fed i) kind sink ∙ ap (written_of node.pipe.kind) fed
        ∙ ap (bytes_by (doing whole) pipes given (places i)) same_pipe

    pub reached : IsReached (doing whole) pipes given state places nodes past
    reached =
        let gone : (d : Node P K) (k : ℕ) → k < length nodes → is_outlet (get_or nodes k d).part ≡ false → past.gone k ≡ flows (places k) =
        λ d k within inner. gone_is (rank k + 1) k d (omega arith) within inner in
        record {
          put = λ i d within inner. gone d i within inner;
          outlets = λ i k d within takes. stand.edge i d k within takes ∙ gone d k (tree.inputs i d k within takes).0 (of.inner i k d within takes);
          sums = λ i d within inner.
              (stand.node i d within).holds.tally (long i d within)
              ∙ ap (λ (w : Work). stopped w.tally) (work_is i d within inner (λ k inside less other. gone d k inside other));
          sinks = λ i d sink spelling pipe within is there.
              let inner : is_outlet (get_or nodes i d).part ≡ false = rw is refl in
              let part = rw (is, long i d within) at (stand.node i d within).part in
              let bytes : part.1.put ≡ bytes_by (doing whole) pipes given (places i) pipe = part.1.whole refl ∙ bytes_are (form_of spelling) i d pipe within inner part.0 there in
              subst (Appends (past.seats i).start.written (state sink).written) bytes part.1.appended;
        }

  -- so of first parts, where what each node puts out of a first part of what its pipe takes comes first of what the pipe puts out
  module _ (does : Doing) (pipes : List Pipe) (places : ℕ → ℕ) (given : Feeding) (nodes : List (Node P K)) (past : Past) (rank : ℕ → ℕ) (tree : IsTree rank nodes)
      (stand : Stand plain state nodes past) (of : AreNodesOf pipes places nodes past)
      (firsts : (i : ℕ) (d : Node P K) → i < length nodes → (kind : Kind) (taken : Flow) → IsWithinBounds kind → IsPrefix (past.fed i) taken
      → IsPrefix (node_work (is_whole (get_or nodes i d).part) (Some kind) (past.fed i)).flow (done_by does (places i) kind taken).flow)
      (are_fed : AreFedInPart does pipes given places nodes past) where
    abbrev flows_of : ℕ → Flow
    flows_of = flow_by does pipes given

    -- what a node took comes first, where what its input put out does
    fed_first : (i : ℕ) (d : Node P K) (input : Option ℕ) (pipe : Pipe) → i < length nodes → (get_or nodes i d).input ≡ input
        → is_outlet (get_or nodes i d).part ≡ false → IsInputOf pipes places input pipe → slice_get pipes (places i) ≡ Some pipe
        → ((k : ℕ) → k < length nodes → rank k < rank i → is_outlet (get_or nodes k d).part ≡ false → IsPrefix (past.gone k) (flows_of (places k)))
        → IsPrefix (past.fed i) (input_by does pipes given (places i) pipe)
    fed_first i d None pipe within is own input there before = are_fed.head i d pipe within is there
    fed_first i d (Some k) pipe within is own input there before =
        let takes : takes_from (get_or nodes i d).input k ≡ true =
        rw is (elim (eqb_tells k k) [ inl same ↦ same.0 | inr other ↦ absurd (other.1 refl) ]) in
        let behind = tree.inputs i d k within takes in
        let inner = of.inner i k d within takes in
        let input_node = of.each k d behind.0 inner in
        let shares : taken_by pipes flows_of pipe ≡ flows_of (places k) =
        ap (taken_from pipes flows_of pipe.select) input ∙ ap (λ (o : Option Pipe). shared o pipe.select (flows_of (places k))) input_node.there
        ∙ whole_output input_node.pipe.kind pipe.select (flows_of (places k)) in
        let unfed : input_by does pipes given (places i) pipe ≡ taken_by pipes flows_of pipe =
        ap (λ fed. unwrap_or fed (taken_by pipes flows_of pipe)) (are_fed.behind i k d within own takes) in
        subst (λ (f : Flow). IsPrefix f (input_by does pipes given (places i) pipe)) (sym (stand.edge i d k within takes))
        (subst (IsPrefix (past.gone k)) (sym (unfed ∙ shares)) (before k behind.0 behind.1 inner))

    -- what has left each node comes first of what its pipe puts out
    pub gone_first : (n i : ℕ) (d : Node P K) → rank i < n → i < length nodes → is_outlet (get_or nodes i d).part ≡ false
        → IsPrefix (past.gone i) (flows_of (places i))
    gone_first zero i d below within inner = absurd (omega arith)
    gone_first (suc n) i d below within inner =
        let node = of.each i d within inner in
        let stood = stand.node i d within in
        let taken = input_by does pipes given (places i) node.pipe in
        let kind : (past.seats i).kind ≡ Some node.pipe.kind = node.kind ∙ ap Some (same_kind (selected pipes (places i)) node.pipe.kind) in
        let waits = map plain (get_or nodes i d).out.packets in
        let left : IsPrefix (past.gone i) (node_work (is_whole (get_or nodes i d).part) (past.seats i).kind (past.fed i)).flow =
        (waits ++ stood.holds.lacking, stood.holds.flow ∙ append_assoc (past.gone i) waits stood.holds.lacking) in
        let left_of_kind : IsPrefix (past.gone i) (node_work (is_whole (get_or nodes i d).part) (Some node.pipe.kind) (past.fed i)).flow = rw kind at left in
        let fed = fed_first i d (get_or nodes i d).input node.pipe within refl inner node.input_of node.there (λ k inside less other. gone_first n k d (omega arith) inside other) in
        let comes_first = firsts i d within node.pipe.kind taken (rw kind at stood.within) fed in
        let is_flow : (done_by does (places i) node.pipe.kind taken).flow ≡ flows_of (places i) =
        ap (λ k. (done_by does (places i) k taken).flow) (sym (same_kind (selected pipes (places i)) node.pipe.kind))
        ∙ ap (λ (o : Option Pipe). (work_at does pipes given flows_of (places i) o).flow) (sym node.there)
        ∙ sym (flow_by-unrolled pipes does given (places i) (are_fed.reaches i d within inner)) in
        prefix_on _ _ _ left_of_kind (subst (IsPrefix (node_work (is_whole (get_or nodes i d).part) (Some node.pipe.kind) (past.fed i)).flow) is_flow comes_first)

    -- the bytes that a sink took come first of those that it is to write
    pub bytes_first : (form : SinkForm) (i : ℕ) (d : Node P K) (pipe : Pipe) → i < length nodes → is_outlet (get_or nodes i d).part ≡ false
        → MatchOption (past.seats i).kind ⊥ (IsSinkOf form) → slice_get pipes (places i) ≡ Some pipe
        → IsPrefix (written_by form (past.fed i)) (bytes_by does pipes given (places i) pipe)
    bytes_first form i d pipe within inner sink there =
        let node = of.each i d within inner in
        let bytes = bytes_by does pipes given (places i) node.pipe in
        let same_pipe : node.pipe ≡ pipe = same_Some node.pipe pipe (sym node.there ∙ there) in
        let kind : (past.seats i).kind ≡ Some node.pipe.kind = node.kind ∙ ap Some (same_kind (selected pipes (places i)) node.pipe.kind) in
        let fed = fed_first i d (get_or nodes i d).input node.pipe within refl inner node.input_of node.there (λ k inside less other. gone_first (rank k + 1) k d (omega arith) inside other) in
        subst (λ (p : Pipe). IsPrefix (written_by form (past.fed i)) (bytes_by does pipes given (places i) p)) same_pipe
        (subst (λ (l : List ℕ). IsPrefix l bytes) (sym (own_bytes form (past.seats i).kind node.pipe.kind (past.fed i) kind sink))
        (written_grows node.pipe.kind _ _ (rw kind at (stand.node i d within).within) fed))

    -- what a node counted of a first part of what its pipe takes is at most what the pipe counts
    abbrev CountsLess : Type 0
    CountsLess = (i : ℕ) (d : Node P K) → i < length nodes → (kind : Kind) (taken : Flow) → IsWithinBounds kind → IsPrefix (past.fed i) taken
        → IsAtMost (node_work (is_whole (get_or nodes i d).part) (Some kind) (past.fed i)).tally (done_by does (places i) kind taken).tally

    -- no node counted more than its pipe
    counted_first : CountsLess → (i : ℕ) (d : Node P K) → i < length nodes → is_outlet (get_or nodes i d).part ≡ false
        → IsAtMost (get_or nodes i d).out.tally (stopped (pipe_work does pipes given (places i)).tally)
    counted_first counts i d within inner =
        let node = of.each i d within inner in
        let stood = stand.node i d within in
        let taken = input_by does pipes given (places i) node.pipe in
        let work = node_work (is_whole (get_or nodes i d).part) (Some node.pipe.kind) (past.fed i) in
        let kind : (past.seats i).kind ≡ Some node.pipe.kind = node.kind ∙ ap Some (same_kind (selected pipes (places i)) node.pipe.kind) in
        let fed = fed_first i d (get_or nodes i d).input node.pipe within refl inner node.input_of node.there (λ k inside less other. gone_first (rank k + 1) k d (omega arith) inside other) in
        let of_kind : IsAtMost (get_or nodes i d).out.tally (stopped work.tally) = rw kind at stood.holds.most in
        let is : (done_by does (places i) node.pipe.kind taken).tally ≡ (pipe_work does pipes given (places i)).tally =
        ap (λ k. (done_by does (places i) k taken).tally) (sym (same_kind (selected pipes (places i)) node.pipe.kind))
        ∙ ap (λ (o : Option Pipe). (work_at does pipes given flows_of (places i) o).tally) (sym node.there) in
        at_most_on _ _ _ of_kind (stopped_grows _ _ (subst (IsAtMost work.tally) is (counts i d within node.pipe.kind taken (rw kind at stood.within) fed)))

    pub reached_in_part : CountsLess → IsReachedInPart does pipes given state places nodes past
    reached_in_part counts =
        let gone : (d : Node P K) (k : ℕ) → k < length nodes → is_outlet (get_or nodes k d).part ≡ false → IsPrefix (past.gone k) (flows_of (places k)) =
        λ d k within inner. gone_first (rank k + 1) k d (omega arith) within inner in
        record {
          put = λ i d within inner. gone d i within inner;
          outlets = λ i k d within takes.
              subst (λ (f : Flow). IsPrefix f (flows_of (places k))) (sym (stand.edge i d k within takes)) (gone d k (tree.inputs i d k within takes).0 (of.inner i k d within takes));
          sums = counted_first counts;
          sinks = λ i d sink spelling failed pipe within is there.
              let inner : is_outlet (get_or nodes i d).part ≡ false = rw is refl in
              let part = rw is at (stand.node i d within).part in
              (part.1.put, part.1.appended, prefix_on part.1.put (written_by (form_of spelling) (past.fed i)) _ part.1.prefix (bytes_first (form_of spelling) i d pipe within inner part.0 there));
        }
