-- A strand of nodes that have begun stands for nothing done.
use Rattle.std.proofs.Common.{◌≡◌, ℕ, ◌+◌, ◌<◌, ◌≤◌, ◌==◌, ◌&&◌, ◌||◌, ◌∷◌, ◌++◌, List, [], length, map, get_or, cond, Bool, true, false, Option, Some, None, slice_get, refl, sym, ap, ◌∙◌, subst, arith, inl, inr}
use Rattle.std.specs.Prelude.{nat_le, nat_lt, option_and_then}
use Rattle.std.specs.List.{Contains, filter, position, position_or_len, range_with_len}
use Rattle.std.specs.Option.{option_map_or}
use Rattle.std.proofs.lemmas.Bool.{cases_Bool, cases_lt, lt-ltb, le-leb, leb-true, ltb-true}
use Rattle.std.proofs.lemmas.Bool.Decides.{eqb_tells}
use Rattle.std.proofs.lemmas.List.{get_or_default, get_or_append_left, length-map, length-append}
use Rattle.std.proofs.lemmas.List.FromFn.{get_or-range_with_len, length-range_with_len}
use Rattle.std.proofs.lemmas.Option.{slice_get-get_or, slice_get-map, slice_get_within, get_or_from_slice_get}
use Rattle.up_model.proofs.Members.{kept_was_there}
use Rattle.up_model.proofs.WellFormed.{there}
use Rattle.up_model.specs.Inputs.{input_at, passes_at, places}
use Rattle.up_model.specs.Ends.{is_source}
use Rattle.up_model.specs.Meaning.{selected}
use Rattle.up_model.specs.Plans.{ends_at_sink, heads, outlets_of, strand_of}
use Rattle.up_model.specs.WellFormed.{IsWellFormed}
use Rattle.up_model.specs.declared.pipe.Pipe.{Pipe}
use Rattle.up_model.specs.declared.plain_packet.PlainPacket.{PlainPacket}
use Rattle.up_outside.specs.States.{SourceState, SinkState}
use Rattle.up_strand.proofs.Begun.{one_plus, own_is}
use Rattle.up_strand.proofs.Reaching.{same_kind}
use Rattle.up_strand.specs.History.{head_flow}
use Rattle.up_strand.specs.Making.{CanBegin, HasBegun, caught_at, node_place, seat_in, sink_places}
use Rattle.up_strand.specs.Nodes.{has_ended, has_failed, is_outlet, is_whole, takes_from}
use Rattle.up_strand.specs.OfGraph.{AreNodesOf, IsInputOf}
use Rattle.up_strand.specs.Shapes.{AreTakersIn, IsInputIn, IsShapeOf, input_in}
use Rattle.up_strand.specs.Stand.{Past, Stand}
use Rattle.up_strand.specs.StrandCalls.{begun, no_sink, sinks_told, told_of}
use Rattle.up_strand.specs.Strands.{IntakeStands, IsAsEnded, IsBuilt, IsSent, IsWriting, HasRooms, StandsFor, has_item, item_waits, kept_at, node_of, place_of}
use Rattle.up_strand.specs.Tree.{AreTakers, IsSwept, IsTree}
use Rattle.up_strand.specs.declared.node.Node.{Node}
use Rattle.up_strand.specs.declared.node.Part.{Part}
use Rattle.up_strand.specs.declared.node.Part.TheVariants.{Head, Pipe as PipePart, Sink, Outlet, Ended}
use Rattle.up_strand.specs.declared.node.Takers.{Takers}
use Rattle.up_strand.specs.declared.shape.Shape.{Shape}
use Rattle.up_strand.specs.declared.spelling.Spelling.{Spelling}
use Rattle.up_strand.specs.declared.strand.Strand.{Strand}

-- a place that is kept of all places is one of the graph
pub kept_within : (test : ℕ → Bool) (pipes : List Pipe) (place : ℕ) → Contains (filter test (places pipes)) place → place < length pipes
kept_within test pipes place has =
    let was = kept_was_there test (places pipes) place has in
    let below : was.0 < length pipes = omega (arith, was.1, length-range_with_len 0 (length pipes)) in
    let plus : 0 + was.0 ≡ was.0 = omega arith in
    let item : was.0 ≡ place = sym plus ∙ sym (get_or-range_with_len 0 (length pipes) was.0 place below) ∙ was.2 in
    subst (λ n. n < length pipes) item below

-- the pipes of a strand are pipes of the graph
pub strand_within : (pipes : List Pipe) (head i : ℕ) → i < length (strand_of pipes head) → get_or (strand_of pipes head) i 0 < length pipes
strand_within pipes head i inside =
    let place = get_or (strand_of pipes head) i 0 in
    kept_within _ pipes place (i, inside, get_or_default (strand_of pipes head) i place 0 inside)

-- a shape is one that nodes can be made of
pub can_begin : (pipes : List Pipe) (head : ℕ) (shape : Shape) → IsShapeOf pipes head shape → CanBegin pipes shape
can_begin pipes head shape is = record {
  pipes_of = omega (arith, is.pipes_of, ap length is.places, length-append (strand_of pipes head) (outlets_of pipes head));
  within = λ i below.
      let inside : i < length (strand_of pipes head) = omega (arith, is.pipes_of) in
      rw (is.places, get_or_append_left (strand_of pipes head) (outlets_of pipes head) 0 i inside) (strand_within pipes head i inside);
  apart = is.apart;
  inputs = is.inputs_of;
  takers = is.takers_of;
}

-- what its sinks told
pub told_is : {K : Type 0} (writes : K → SinkState) (pipes : List Pipe) (head : ℕ) (shape : Shape) (sinks : List K) → IsShapeOf pipes head shape
    → told_of writes (sink_places pipes shape) sinks ≡ sinks_told writes pipes head sinks
told_is writes pipes head shape sinks is =
    let told : List ℕ → ℕ → SinkState = λ own place. option_map_or writes
    (option_and_then (slice_get sinks) (position (λ other. other == place) (filter (passes_at ends_at_sink pipes) own))) no_sink in
    ap told (own_is pipes head shape is)

-- where none passes, none is the first
none_first : {X : Type 0} (p : X → Bool) (xs : List X) → ((x : X) → p x ≡ false) → position_or_len p xs ≡ length xs
none_first p [] fails = refl
none_first p (x ∷ xs) fails = rw (fails x) (ap (λ n. 1 + n) (none_first p xs fails) ∙ one_plus (length xs))

none_at : {X : Type 0} (p : X → Bool) (xs : List X) → ((x : X) → p x ≡ false) → position p xs ≡ None
none_at p xs fails =
    let never : nat_lt (length xs) (length xs) ≡ false = elim (cases_Bool (nat_lt (length xs) (length xs))) [
      | inl below ↦ absurd (let less = ltb-true (length xs) (length xs) below in omega (arith, less))
      | inr is ↦ is
    ] in
    rw (none_first p xs fails, never) refl

-- what it takes from
pub input_taken : (o : Option ℕ) (k : ℕ) → takes_from o k ≡ true → o ≡ Some k
input_taken None k takes = absurd (cc)
input_taken (Some input) k takes = ap Some (elim (eqb_tells input k) [ inl same ↦ same.1 | inr other ↦ absurd (let wrong : true ≡ false = sym takes ∙ other.0 in cc) ])

module _ {P K : Type 0} (plain : P → PlainPacket) (state : K → SinkState) (pipes : List Pipe) (head : ℕ) (told : ℕ → SinkState)
    (shape : Shape) (is : IsShapeOf pipes head shape) (nodes : List (Node P K)) (count : length nodes ≡ length shape.places.items)
    (each : (i : ℕ) (d : Node P K) → i < length nodes → HasBegun pipes shape plain state told i (get_or nodes i d)) where
  abbrev pub past_begun : Past
  past_begun = record { seats = seat_in pipes shape told; fed = λ i. []; gone = λ i. [] }

  pub stand_begun : Stand plain state nodes past_begun
  stand_begun = record { node = λ i d within. (each i d within).stands; edge = λ i d k within takes. refl }

  -- whether it takes is told by the shape
  takes_as : (i k : ℕ) (d : Node P K) → i < length nodes → takes_from (get_or nodes i d).input k ≡ true → input_in shape.inputs.items i ≡ Some k
  takes_as i k d within takes = sym (each i d within).input ∙ input_taken (get_or nodes i d).input k takes

  input_there : (i k : ℕ) → i < length nodes → input_in shape.inputs.items i ≡ Some k
      → (k < shape.pipes) × (input_at pipes (node_place shape i) ≡ Some (node_place shape k))
  input_there i k within from = subst (IsInputIn pipes head shape i) from (is.input i (omega (arith, count)))

  pipes_within : shape.pipes ≤ length nodes
  pipes_within = omega (arith, count, is.pipes_of, ap length is.places, length-append (strand_of pipes head) (outlets_of pipes head))

  -- the node of a pipe
  inner_below : (i : ℕ) → nat_le shape.pipes i ≡ false → i < shape.pipes
  inner_below i inner =
      elim (cases_lt i shape.pipes) [
        | inl below ↦ below
        | inr past ↦ absurd (let wrong : true ≡ false = sym (le-leb shape.pipes i past) ∙ inner in cc)
      ]

  below_inner : (i : ℕ) → i < shape.pipes → nat_le shape.pipes i ≡ false
  below_inner i below =
      elim (cases_Bool (nat_le shape.pipes i)) [
        | inl past ↦ absurd (let more = leb-true shape.pipes i past in omega (arith, more))
        | inr is ↦ is
      ]

  own_place : (i : ℕ) → i < shape.pipes → node_place shape i ≡ get_or (strand_of pipes head) i 0
  own_place i below = rw is.places (get_or_append_left (strand_of pipes head) (outlets_of pipes head) 0 i (omega (arith, is.pipes_of)))

  own_within : (i : ℕ) → i < shape.pipes → node_place shape i < length pipes
  own_within i below =
      let place = get_or (strand_of pipes head) i 0 in
      let inside : i < length (strand_of pipes head) = omega (arith, is.pipes_of) in
      rw (own_place i below) (kept_within _ pipes place (i, inside, get_or_default (strand_of pipes head) i place 0 inside))

  takers_begun : (place : ℕ) (takers : Option Takers) → AreTakersIn shape.inputs.items place takers → AreTakers place nodes takers
  takers_begun place None are = λ i d within. rw (each i d within).input (are i (omega (arith, count, is.inputs_of)))
  takers_begun place (Some takers) are =
      let last : takers.last < length nodes = omega (arith, are.within, count, is.inputs_of) in
      let first : takers.first < length nodes = omega (arith, are.rising, last) in
      record {
        rising = are.rising;
        within = last;
        first = λ d. rw (each takers.first d first).input are.first;
        last = λ d. rw (each takers.last d last).input are.last;
        all = λ i d within takes. are.all i (omega (arith, count, is.inputs_of)) (rw (each i d within).input at takes);
      }

  pub tree_begun : IsTree is.rank nodes
  tree_begun = record {
    inputs = λ i d place within takes.
        let from = takes_as i place d within takes in
        let upto = pipes_within in
        let known = (input_there i place within from).0 in
        (omega (arith, known, upto), is.rises i place (omega (arith, count)) from);
    takers = λ place d within. rw (each place d within).takers (takers_begun place _ (is.takers place (omega (arith, count))));
  }

  pub swept_begun : IsSwept shape.order.items nodes
  swept_begun = record {
    rank = is.rank;
    tree = tree_begun;
    sweeps = rw count is.order;
    head = λ i d within none e. is.one_head i (omega (arith, count)) (sym (each i d within).input ∙ none) e;
  }

  input_of : (i : ℕ) (pipe : Pipe) (input : Option ℕ) → i < length nodes → slice_get pipes (node_place shape i) ≡ Some pipe
      → input_in shape.inputs.items i ≡ input → IsInputOf pipes (node_place shape) input pipe
  input_of i pipe None within is_pipe from = tt
  input_of i pipe (Some k) within is_pipe from = rw is_pipe at (input_there i k within from).1

  pub are_begun : AreNodesOf pipes (node_place shape) nodes past_begun
  are_begun = record {
    each = λ i d within inner.
        let below = inner_below i (sym (each i d within).outlet ∙ inner) in
        let found = there pipes (node_place shape i) (own_within i below) in
        record {
          pipe = found.0;
          there = found.1;
          kind = rw (lt-ltb i shape.pipes below, found.1, same_kind (selected pipes (node_place shape i)) found.0.kind) refl;
          input_of = input_of i found.0 _ within found.1 (sym (each i d within).input);
        };
    inner = λ i k d within takes.
        let below = (input_there i k within (takes_as i k d within takes)).0 in
        let upto = pipes_within in
        (each k d (omega (arith, below, upto))).outlet ∙ below_inner k below;
  }

  failed_none : (found : Option ℕ) → option_map_or (λ (node : Node P K). has_failed node.part) (option_and_then (slice_get nodes) found) false ≡ false
  failed_none None = refl
  failed_none (Some i) = by_node (slice_get nodes i) refl
    where
      by_node : (node : Option (Node P K)) → slice_get nodes i ≡ node → option_map_or (λ (node : Node P K). has_failed node.part) node false ≡ false
      by_node None is = refl
      by_node (Some node) is =
          let here = (each i node (slice_get_within nodes i node is)).failed in
          rw (get_or_from_slice_get nodes i node node is) at here

-- a head of which nothing was read had nothing
nothing_had : (pipes : List Pipe) (head : ℕ) (source : Option SourceState) (told : ℕ → SinkState) → [] ≡ head_flow (begun pipes head source told)
nothing_had pipes head source told = by_pipe (slice_get pipes head)
  where
    by_source : (source : Bool) → ◌≡◌ {A = List PlainPacket} [] (cond source [] [])
    by_source true = refl
    by_source false = refl

    by_pipe : (found : Option Pipe) → ◌≡◌ {A = List PlainPacket} [] (option_map_or (λ (pipe : Pipe). cond (is_source pipe.kind) [] []) found [])
    by_pipe None = refl
    by_pipe (Some pipe) = by_source (is_source pipe.kind)

none_either : {P : Type 0} (here : Bool) → ◌≡◌ {A = List P} (cond here [] []) []
none_either true = refl
none_either false = refl

none_waits : {P : Type 0} (waiting : List P) (outlet : Bool) → waiting ≡ [] → (outlet && (nat_lt 0 (length waiting) || false)) ≡ false
none_waits waiting false empty = refl
none_waits waiting true empty = rw empty refl

not_whole : {K : Type 0} (part : Part K) → has_ended part ≡ false → is_whole part ≡ false
not_whole Head going = refl
not_whole (PipePart m) going = refl
not_whole (Sink sink spelling failed) going = refl
not_whole Outlet going = refl
not_whole (Ended whole) going = absurd (cc)

module _ {P S K : Type 0} (plain : P → PlainPacket) (reads : S → SourceState) (writes : K → SinkState) (strand : Strand P S K) (pipes : List Pipe) (head : ℕ)
    (source : Option SourceState) (told : ℕ → SinkState) (shape : Shape) (is : IsShapeOf pipes head shape)
    (well : IsWellFormed pipes) (is_head : Contains (heads pipes) head) where
  -- it is built of this shape, and did nothing
  pub record IsMade : Type 0 where
    pub places : strand.places ≡ shape.places
    pub order : strand.tree.order ≡ shape.order
    pub count : length strand.tree.nodes.items ≡ length shape.places.items
    pub each : (i : ℕ) (d : Node P K) → i < length strand.tree.nodes.items → HasBegun pipes shape plain writes told i (get_or strand.tree.nodes.items i d)
    pub caught : strand.caught.items ≡ map (caught_at pipes) (strand_of pipes head)
    pub closings : length strand.closed.items ≡ length shape.places.items
    pub open_yet : (i : ℕ) → get_or strand.closed.items i false ≡ false
    pub long : strand.tree.short ≡ false
    pub ended : strand.ended ≡ None
    pub ready : strand.ready ≡ length shape.places.items
    pub kept : strand.kept ≡ None
    pub last : strand.last ≡ None
    pub intake : IntakeStands reads strand.intake (begun pipes head source told)
    pub rooms : HasRooms strand (begun pipes head source told)

  module _ (made : IsMade) where
    made_built : IsBuilt strand (begun pipes head source told) (past_begun plain writes pipes head told shape is strand.tree.nodes.items made.count made.each)
    made_built = record {
      well = well;
      is_head = is_head;
      places = rw made.places is.places;
      count = rw made.places made.count;
      apart = rw made.places is.apart;
      outlets = λ i d within. (made.each i d within).outlet ∙ ap (λ n. nat_le n i) is.pipes_of;
      some = rw made.order is.some;
      swept = rw made.order (swept_begun plain writes pipes head told shape is _ made.count made.each);
      are = rw made.places (are_begun plain writes pipes head told shape is _ made.count made.each);
      lanes = λ i d within outlet.
          let inside : i < length shape.places.items = omega (arith, made.count) in
          let past_pipes : shape.pipes ≤ i = leb-true shape.pipes i (sym (made.each i d within).outlet ∙ outlet) in
          let lane = is.lanes i inside past_pipes in
          rw made.places (lane.0, (made.each i d within).input ∙ lane.1, (input_there plain writes pipes head told shape is _ made.count made.each i lane.0 within lane.1).1);
      head = λ i d within none.
          let inside : i < length shape.places.items = omega (arith, made.count) in
          rw made.places (subst (IsInputIn pipes head shape i) (sym (made.each i d within).input ∙ none) (is.input i inside)).0;
      first = λ d e.
          let at = get_or shape.order.items 0 e in
          let within : at < length strand.tree.nodes.items = omega (arith, made.count, is.order.within 0 e is.some) in
          rw made.order ((made.each at d within).input ∙ is.first e);
      caught = λ i pipe within found.
          let place = get_or (strand_of pipes head) i 0 in
          let same : node_place shape i ≡ place = own_place plain writes pipes head told shape is _ made.count made.each i (omega (arith, is.pipes_of)) in
          let found_there : slice_get pipes place ≡ Some pipe = rw (made.places, same) at found in
          rw (made.caught, slice_get-map (caught_at pipes) (strand_of pipes head) i, slice_get-get_or (strand_of pipes head) i 0 within, found_there) refl;
      catches = ap length made.caught ∙ length-map (strand_of pipes head) (caught_at pipes);
      closings = rw made.places made.closings;
    }

    made_ended : IsAsEnded strand (begun pipes head source told)
    made_ended = record {
      ended = made.ended;
      short = made.long;
      nodes = record {
        settled = λ i d within inner. (made.each i d within).empty;
        going = λ long going i d within. (made.each i d within).sound;
        done = λ long wrong. absurd (cc);
        broken = λ long outcome wrong. absurd (cc);
        gone = λ either. elim either [ inl wrong ↦ absurd (cc) | inr wrong ↦ absurd (cc) ];
        fallen = λ wrong. absurd (cc);
        owed = λ unended i d within. not_whole (get_or strand.tree.nodes.items i d).part (made.each i d within).sound.going;
      };
    }

    kept_none : (i : ℕ) → kept_at strand i ≡ []
    kept_none i = rw made.kept (none_either {P = P} (i == strand.ready))

    -- no item waits
    nothing_waits : (i : ℕ) → has_item strand i ≡ false
    nothing_waits i = by_node (slice_get strand.tree.nodes.items i) refl
      where
        by_node : (node : Option (Node P K)) → slice_get strand.tree.nodes.items i ≡ node → option_map_or (item_waits strand i) node false ≡ false
        by_node None is = refl
        by_node (Some node) is =
            let here = (made.each i node (slice_get_within _ i node is)).empty in
            let empty : node.out.packets ≡ [] = rw (get_or_from_slice_get strand.tree.nodes.items i node node is) at here in
            let waiting : kept_at strand i ++ node.out.packets ≡ [] = ap (λ (l : List P). l ++ node.out.packets) (kept_none i) ∙ empty in
            rw made.ended (none_waits (kept_at strand i ++ node.out.packets) (is_outlet node.part) waiting)

    made_sent : IsSent strand plain (begun pipes head source told) (past_begun plain writes pipes head told shape is strand.tree.nodes.items made.count made.each)
    made_sent = record {
      sent = λ i d within outlet. sym (ap (map plain) (kept_none i));
      closed = λ i d within outlet. made.open_yet i;
      over = λ i d within outlet wrong. absurd (cc);
      ready = rw (none_at (has_item strand) (range_with_len 0 (length strand.tree.nodes.items)) nothing_waits) (made.ready ∙ sym made.count);
      kept = λ is. absurd (let wrong : false ≡ true = rw made.kept at is in cc);
      last = λ at is. absurd (let wrong : None ≡ Some at = rw made.last at is in cc);
    }

    made_writing : IsWriting strand writes (begun pipes head source told) (past_begun plain writes pipes head told shape is strand.tree.nodes.items made.count made.each)
    made_writing = record {
      starts = started;
      now = λ i d sink spelling failed within part. sym (started i d sink spelling failed within part) ∙ (made.each i d within).start sink spelling failed part;
      failed = λ place. sym (failed_none plain writes pipes head told shape is _ made.count made.each (node_of strand place));
    }
      where
        started : (i : ℕ) (d : Node P K) (sink : K) (spelling : Spelling) (failed : Bool) → i < length strand.tree.nodes.items → (get_or strand.tree.nodes.items i d).part ≡ Sink sink spelling failed
            → (seat_in pipes shape told i).start ≡ told (place_of strand i)
        started i d sink spelling failed within part =
            let inner : nat_le shape.pipes i ≡ false = sym (made.each i d within).outlet ∙ ap is_outlet part in
            let below = inner_below plain writes pipes head told shape is _ made.count made.each i inner in
            rw (made.places, lt-ltb i shape.pipes below) refl

    pub made_stands : StandsFor plain reads writes strand (begun pipes head source told)
    made_stands = record {
      past = past_begun plain writes pipes head told shape is strand.tree.nodes.items made.count made.each;
      stand = stand_begun plain writes pipes head told shape is strand.tree.nodes.items made.count made.each;
      built = made_built;
      rooms = made.rooms;
      ended = made_ended;
      fed = record {
        fed = λ i d within none. refl;
        first = (_, refl);
        all = λ long. nothing_had pipes head source told;
      };
      intake = made.intake;
      sent = made_sent;
      writing = made_writing;
    }
