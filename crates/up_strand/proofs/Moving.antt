-- A strand from which an item goes out, or to which one comes back: its nodes stay what they are.
use Rattle.std.proofs.Common.{◌≡◌, ℕ, ◌<◌, ◌≤◌, List, length, get_or, Bool, false, Option, Some, None, slice_get, refl, sym, ap, ◌∙◌, subst, arith, inl, inr}
use Rattle.std.specs.Prelude.{◌⊎◌, option_and_then}
use Rattle.std.specs.Option.{option_map_or}
use Rattle.std.proofs.lemmas.Option.{slice_get-get_or, slice_get_cases, slice_get_past}
use Rattle.up_model.specs.Packet.{Flow}
use Rattle.up_model.specs.declared.form.SourceForm.{SourceForm}
use Rattle.up_model.specs.declared.form.SourceForm.TheVariants.{Raw, Framed}
use Rattle.up_model.specs.declared.outcome.Outcome.{Outcome}
use Rattle.up_model.specs.declared.outcome.Outcome.TheVariants as outcomes
use Rattle.up_model.specs.declared.plain_packet.PlainPacket.{PlainPacket}
use Rattle.up_outside.specs.States.{SourceState, SinkState}
use Rattle.up_strand.proofs.Sweeping.{swept_on}
use Rattle.up_strand.specs.History.{History}
use Rattle.up_strand.specs.Nodes.{has_ended, has_failed, is_outlet, is_pipe, is_whole, takes_from}
use Rattle.up_strand.specs.OfGraph.{AreNodesOf, IsNodeOf}
use Rattle.up_strand.specs.Stand.{AreAsPlaced, Past, Stand}
use Rattle.up_strand.specs.Strands.{EndedWithMemory, EndsRightly, IsReading, IntakeStands, IsAsEnded, IsBuilt, IsSent, StandsFor, node_of, place_of}
use Rattle.up_strand.specs.declared.intake.Intake.{Intake}
use Rattle.up_strand.specs.declared.intake.Intake.TheVariants.{FromSource, FromFrames, FromLane}
use Rattle.up_strand.specs.declared.node.Node.{Node}
use Rattle.up_strand.specs.declared.strand.Strand.{Strand}

-- each node is the same but for what waits there, and that only at an outlet
pub record AreSameButOut {P K : Type 0} (olds news : List (Node P K)) : Type 0 where
  pub count : length news ≡ length olds
  pub same : (i : ℕ) (d : Node P K) → get_or news i d ≡ record (get_or olds i d) { out = (get_or news i d).out }
  pub inner : (i : ℕ) (d : Node P K) → is_outlet (get_or olds i d).part ≡ false → get_or news i d ≡ get_or olds i d

-- the strand with what an item changes taken from another
abbrev pub moved : {P S K : Type 0} → Strand P S K → Strand P S K → Strand P S K
moved old given = record old {
  tree = record old.tree { nodes = given.tree.nodes };
  closed = given.closed;
  ready = given.ready;
  kept = given.kept;
  last = given.last;
}

-- the history with other items taken out
abbrev pub taken_so : History → (ℕ → Flow) → (ℕ → Bool) → History
taken_so h sent closed = record h { sent = sent; closed = closed }

module _ (h : History) (sent : ℕ → Flow) (closed : ℕ → Bool) where
  alone_so : (form : SourceForm) (limit : ℕ) (rest : Option (List ℕ)) (outcome : Outcome) → EndedWithMemory form limit rest h outcome
      → EndedWithMemory form limit rest (taken_so h sent closed) outcome
  alone_so form limit rest outcome ended = record { long = ended.long; few = ended.few; by = ended.by }

  ends_so : (form : SourceForm) (limit : ℕ) (rest : Option (List ℕ)) (ended : Option Outcome) → EndsRightly form limit rest h ended
      → EndsRightly form limit rest (taken_so h sent closed) ended
  ends_so form limit rest None ends = ends
  ends_so form limit rest (Some outcomes.Whole) ends = ends
  ends_so form limit rest (Some outcomes.ReadFault) ends = alone_so form limit rest outcomes.ReadFault ends
  ends_so form limit rest (Some outcomes.WriteFault) ends = ends
  ends_so form limit rest (Some (outcomes.BadFrame offset)) ends = alone_so form limit rest (outcomes.BadFrame offset) ends
  ends_so form limit rest (Some (outcomes.TooLong most)) ends = alone_so form limit rest (outcomes.TooLong most) ends
  ends_so form limit rest (Some outcomes.Broken) ends = ends
  ends_so form limit rest (Some outcomes.NoMemory) ends = ends

  reading_so : (now : SourceState) (form : SourceForm) (limit : ℕ) → IsReading now form limit h → IsReading now form limit (taken_so h sent closed)
  reading_so now form limit stood = record {
    pipe = stood.pipe;
    there = stood.there;
    path = stood.path;
    kind = stood.kind;
    start = stood.start;
    told = stood.told;
    told_now = stood.told_now;
    took = stood.took;
    faults = stood.faults;
    ends = ends_so form limit now.left h.ended stood.ends;
    in_limit = stood.in_limit;
    alone = stood.alone;
  }

  intake_so : {S : Type 0} (reads : S → SourceState) (intake : Intake S) → IntakeStands reads intake h → IntakeStands reads intake (taken_so h sent closed)
  intake_so reads (FromSource source block limit left) stood = record {
    reading = reading_so (reads source) (Raw block) limit stood.reading;
    put = stood.put;
    rest = stood.rest;
    even = stood.even;
    in_block = stood.in_block;
  }
  intake_so reads (FromFrames frames) stood = record {
    reading = reading_so (reads frames.source) Framed frames.limit stood.reading;
    stands = stood.stands;
  }
  intake_so reads FromLane stood = record { fed = stood.fed; none = stood.none; none_now = stood.none_now; alone = stood.alone; ends = stood.ends }

module _ {P K : Type 0} (olds news : List (Node P K)) (alike : AreSameButOut olds news) where
  part_same : (i : ℕ) (d : Node P K) → (get_or news i d).part ≡ (get_or olds i d).part
  part_same i d = ap (λ (n : Node P K). n.part) (alike.same i d)

  input_same : (i : ℕ) (d : Node P K) → (get_or news i d).input ≡ (get_or olds i d).input
  input_same i d = ap (λ (n : Node P K). n.input) (alike.same i d)

  short_same : (i : ℕ) (d : Node P K) → (get_or news i d).short ≡ (get_or olds i d).short
  short_same i d = ap (λ (n : Node P K). n.short) (alike.same i d)

  placed_same : AreAsPlaced olds news
  placed_same i d within = record {
    input = input_same i d;
    takers = ap (λ (n : Node P K). n.takers) (alike.same i d);
    outlet = ap is_outlet (part_same i d);
    stopped = λ failed. part_same i d;
    fallen = λ short. short_same i d ∙ short;
    still = λ short sink. part_same i d;
  }

  failed_same : (found : Option ℕ) → option_map_or (λ (n : Node P K). has_failed n.part) (option_and_then (slice_get olds) found) false
      ≡ option_map_or (λ (n : Node P K). has_failed n.part) (option_and_then (slice_get news) found) false
  failed_same None = refl
  failed_same (Some i) = by_place (slice_get_cases olds i).1
    where
      by_place : ((x : Node P K) × (i < length olds) × (slice_get olds i ≡ Some x) × (get_or olds i x ≡ x)) ⊎ ((length olds ≤ i) × (slice_get olds i ≡ None))
          → option_map_or (λ (n : Node P K). has_failed n.part) (slice_get olds i) false ≡ option_map_or (λ (n : Node P K). has_failed n.part) (slice_get news i) false
      by_place (inl there) =
          let inside : i < length news = let less = there.1 in let count = alike.count in omega (arith, less, count) in
          ap (λ (o : Option (Node P K)). option_map_or (λ (n : Node P K). has_failed n.part) o false) (slice_get-get_or olds i there.0 there.1)
          ∙ ap has_failed (sym (part_same i there.0))
          ∙ ap (λ (o : Option (Node P K)). option_map_or (λ (n : Node P K). has_failed n.part) o false) (sym (slice_get-get_or news i there.0 inside))
      by_place (inr past) =
          let outside : length news ≤ i = let behind = past.0 in let count = alike.count in omega (arith, behind, count) in
          ap (λ (o : Option (Node P K)). option_map_or (λ (n : Node P K). has_failed n.part) o false) (past.1 ∙ sym (slice_get_past news i outside))

module _ {P S K : Type 0} (plain : P → PlainPacket) (reads : S → SourceState) (writes : K → SinkState) (old given : Strand P S K) (h : History)
    (stands : StandsFor plain reads writes old h) (alike : AreSameButOut old.tree.nodes.items given.tree.nodes.items)
    (closings : length given.closed.items ≡ length old.closed.items) (gone : ℕ → Flow) (sent : ℕ → Flow) (closed : ℕ → Bool) where
  abbrev olds : List (Node P K)
  olds = old.tree.nodes.items

  abbrev news : List (Node P K)
  news = given.tree.nodes.items

  abbrev after : Past
  after = record { seats = stands.past.seats; fed = stands.past.fed; gone = gone }

  inside : (i : ℕ) → i < length news → i < length olds
  inside i within = let count = alike.count in omega (arith, within, count)

  nodes_so : AreNodesOf h.pipes (place_of old) news after
  nodes_so = record {
    each = λ i d within inner.
        subst (λ (input : Option ℕ). IsNodeOf h.pipes (place_of old) (place_of old i) (stands.past.seats i) input) (sym (input_same olds news alike i d))
        (stands.built.are.each i d (inside i within) (ap is_outlet (sym (part_same olds news alike i d)) ∙ inner));
    inner = λ i k d within takes.
        ap is_outlet (part_same olds news alike k d)
        ∙ stands.built.are.inner i k d (inside i within) (ap (λ (input : Option ℕ). takes_from input k) (sym (input_same olds news alike i d)) ∙ takes);
  }

  built_so : IsBuilt (moved old given) (taken_so h sent closed) after
  built_so =
      let b = stands.built in
      record {
        well = b.well;
        is_head = b.is_head;
        places = b.places;
        count = alike.count ∙ b.count;
        apart = b.apart;
        outlets = λ i d within. ap is_outlet (part_same olds news alike i d) ∙ b.outlets i d (inside i within);
        some = b.some;
        swept = swept_on old.tree.order.items olds news alike.count (placed_same olds news alike) b.swept;
        are = nodes_so;
        lanes = λ i d within outlet.
            let lane = b.lanes i d (inside i within) (ap is_outlet (sym (part_same olds news alike i d)) ∙ outlet) in
            (lane.0, input_same olds news alike i d ∙ lane.1, lane.2);
        head = λ i d within none. b.head i d (inside i within) (sym (input_same olds news alike i d) ∙ none);
        first = λ d e. input_same olds news alike _ d ∙ b.first d e;
        caught = b.caught;
        catches = b.catches;
        closings = closings ∙ b.closings;
      }

  ended_so : IsAsEnded (moved old given) (taken_so h sent closed)
  ended_so =
      let e = stands.ended.nodes in
      record {
        ended = stands.ended.ended;
        short = stands.ended.short;
        nodes = record {
          settled = λ i d within inner.
              let inner_old = ap is_outlet (sym (part_same olds news alike i d)) ∙ inner in
              ap (λ (n : Node P K). n.out.packets) (alike.inner i d inner_old) ∙ e.settled i d (inside i within) inner_old;
          going = λ long none i d within.
              let sound = e.going long none i d (inside i within) in
              record { long = short_same olds news alike i d ∙ sound.long; going = ap has_ended (part_same olds news alike i d) ∙ sound.going };
          done = λ long whole i d within.
              let done = e.done long whole i d (inside i within) in
              record {
                long = short_same olds news alike i d ∙ done.long;
                ended = ap is_pipe (part_same olds news alike i d) ∙ done.ended;
                whole = ap has_ended (part_same olds news alike i d) ∙ done.whole ∙ ap is_whole (sym (part_same olds news alike i d));
              };
          broken = λ long outcome is other i d within.
              let broken = e.broken long outcome is other i d (inside i within) in
              record { long = short_same olds news alike i d ∙ broken.long; part = ap is_whole (part_same olds news alike i d) ∙ broken.part };
          gone = λ over i d within. ap is_pipe (part_same olds news alike i d) ∙ e.gone over i d (inside i within);
          fallen = λ short i d within. short_same olds news alike i d ∙ e.fallen short i d (inside i within);
          owed = λ other i d within. ap is_whole (part_same olds news alike i d) ∙ e.owed other i d (inside i within);
        };
      }

  -- it stands for the history with these items, where its nodes do, and what has left for lanes is what was taken out
  pub moved_stands : Stand plain writes news after → IsSent (moved old given) plain (taken_so h sent closed) after
      → StandsFor plain reads writes (moved old given) (taken_so h sent closed)
  moved_stands stand is_sent = record {
    past = after;
    stand = stand;
    built = built_so;
    rooms = record { outcomes = stands.rooms.outcomes; tallies = stands.rooms.tallies; sinks = stands.rooms.sinks };
    ended = ended_so;
    fed = record {
      fed = λ i d within none. stands.fed.fed i d (inside i within) (sym (input_same olds news alike i d) ∙ none);
      first = stands.fed.first;
      all = stands.fed.all;
    };
    intake = intake_so h sent closed reads old.intake stands.intake;
    sent = is_sent;
    writing = record {
      starts = λ i d sink spelling failed within is. stands.writing.starts i d sink spelling failed (inside i within) (sym (part_same olds news alike i d) ∙ is);
      now = λ i d sink spelling failed within is. stands.writing.now i d sink spelling failed (inside i within) (sym (part_same olds news alike i d) ∙ is);
      failed = λ place. stands.writing.failed place ∙ failed_same olds news alike (node_of old place);
    };
  }
