-- How runs of turns follow one another.
use Rattle.std.proofs.Common.{◌≡◌, ℕ, List, length, ◌∙◌, refl, sym, ap, true, false, None, arith}
use Rattle.std.specs.Prelude.{slice_index_or}
use Rattle.std.proofs.lemmas.Grind.{common_steps}
use Rattle.up_engine.specs.Nets.{IsHeldBack, IsOver, NetStands, NetStandsForSome, NetEndsWithin, Turned, Went, WentToRead, reads_left, turns_left}
use Rattle.up_engine.specs.declared.net.Net.{Net}
use Rattle.up_engine.specs.declared.net.Turn.{Turn}
use Rattle.up_engine.specs.declared.net.Turn.TheVariants.{Read, Moved, Done}
use Rattle.up_model.specs.declared.pipe.Pipe.{Pipe}
use Rattle.up_model.specs.declared.plain_packet.PlainPacket.{PlainPacket}
use Rattle.up_outside.specs.States.{SourceState, SinkState}
use Rattle.up_pump.specs.Pump.{idle}
use Rattle.up_pump.specs.Pumps.{Pumps}
use Rattle.up_shape.specs.Stores.{StoreState}
use Rattle.up_strand.specs.History.{History}
use Rattle.up_strand.specs.declared.strand.Strand.{Strand}

pub true_is_not_false : true ≡ false → ⊥
true_is_not_false e = grind (arith, common_steps, e)

pub moved_is_no_read : Moved ≡ Read → ⊥
moved_is_no_read e = grind (arith, common_steps, e)

done_is_no_read : Done ≡ Read → ⊥
done_is_no_read e = grind (arith, common_steps, e)

done_is_not_moved : Done ≡ Moved → ⊥
done_is_not_moved e = grind (arith, common_steps, e)

module _ {P S K F : Type 0} (plain : P → PlainPacket) (reads : S → SourceState)
    (writes : K → SinkState) (pipes : List Pipe) where
  -- nothing was done yet
  abbrev pub stayed : (past : ℕ → History) (net : Net P S K) (at : StoreState F)
      → NetStands plain reads writes net pipes past → Went plain reads writes pipes past net at at
  stayed past net at stands = record {
    now = past;
    stands = stands;
    on = λ head. record { source = refl; sinks = refl };
    drawn = omega arith;
  }

  -- one run of turns after another is a run of turns
  abbrev pub went_on : (past : ℕ → History) (net net' : Net P S K) (old mid new : StoreState F)
      → (first : Went plain reads writes pipes past net old mid)
      → Went plain reads writes pipes first.now net' mid new
      → Went plain reads writes pipes past net' old new
  went_on past net net' old mid new first then = record {
    now = then.now;
    stands = then.stands;
    on = λ head. record {
      source = (then.on head).source ∙ (first.on head).source;
      sinks = (then.on head).sinks ∙ (first.on head).sinks;
    };
    drawn = omega (arith, first.drawn, then.drawn);
  }

  -- it went on, and no source was read
  abbrev pub WentUnread : (past : ℕ → History) → Net P S K → StoreState F → StoreState F → Type 0
  WentUnread past net old new = (went : Went plain reads writes pipes past net old new)
      × (reads_left pipes went.now ≡ reads_left pipes past)

  abbrev pub TurnedTo : (past : ℕ → History) → Net P S K → Net P S K → StoreState F → StoreState F
      → Turn → Type 0
  TurnedTo past before after old new turn =
      Turned plain reads writes pipes past before after old new turn

  -- a turn in which no source was read goes on from that
  pub turned_unread : (past : ℕ → History) (net net' : Net P S K) (old mid new : StoreState F)
      (turn : Turn) (first : WentUnread past net old mid)
      → TurnedTo first.0.now net net' mid new turn → turn ≡ Moved → WentUnread past net' old new
  turned_unread past net net' old mid new turn first then moved = (
    went_on past net net' old mid new first.0 then.went,
    then.same_reads (λ read. moved_is_no_read (sym moved ∙ read)) ∙ first.1,
  )

  -- it went on to the read of a source
  pub turned_to_read : (past : ℕ → History) (net net' : Net P S K) (old mid new : StoreState F)
      (turn : Turn) (first : WentUnread past net old mid)
      → TurnedTo first.0.now net net' mid new turn → turn ≡ Read
      → WentToRead plain reads writes pipes past net' old new true
  turned_to_read past net net' old mid new turn first then read = record {
    went = went_on past net net' old mid new first.0 then.went;
    read = λ _. omega (arith, then.read read, first.1);
    over = λ no. absurd (true_is_not_false no);
  }

  -- or until nothing was to be done
  pub turned_to_end : (past : ℕ → History) (net net' : Net P S K) (old mid new : StoreState F)
      (turn : Turn) (first : WentUnread past net old mid)
      → TurnedTo first.0.now net net' mid new turn → turn ≡ Done
      → WentToRead plain reads writes pipes past net' old new false
  turned_to_end past net net' old mid new turn first then done = record {
    went = went_on past net net' old mid new first.0 then.went;
    read = λ yes. absurd (true_is_not_false (sym yes));
    over = λ _. then.done done;
  }

module _ {P S K : Type 0} (plain : P → PlainPacket) (reads : S → SourceState)
    (writes : K → SinkState) where
  -- where a net stands for some histories, there are numbers within which it ends
  pub ends_within_some : (net : Net P S K) → NetStandsForSome plain reads writes net
      → (reads_count : ℕ) × (turns_count : ℕ) × NetEndsWithin plain reads writes net reads_count turns_count
  ends_within_some net (pipes, past, stands) = (
    reads_left pipes past,
    turns_left pipes past net.pumps,
    record {
      pipes = pipes;
      past = past;
      stands = stands;
      reads_within = omega arith;
      turns_within = omega arith;
    },
  )

-- the net with other pumps
abbrev pub with_loop : {P S K : Type 0} → Net P S K → Pumps → Net P S K
with_loop net loop = record net { pumps = loop }

module _ {P S K : Type 0} (plain : P → PlainPacket) (reads : S → SourceState)
    (writes : K → SinkState) (net : Net P S K) (pipes : List Pipe) (past : ℕ → History) (loop : Pumps)
    (same : loop.pumps ≡ net.pumps.pumps) where
  -- it stands for the same whichever pump was given last
  pub stands_with_loop : NetStands plain reads writes net pipes past
      → NetStands plain reads writes (with_loop net loop) pipes past
  stands_with_loop stands = record {
    shape = record {
      well = stands.shape.well;
      head_places = stands.shape.head_places;
      strands = stands.shape.strands;
      lane_count = stands.shape.lane_count;
      lanes = stands.shape.lanes;
      room = stands.shape.room;
      filler_count = stands.shape.filler_count;
      fillers = stands.shape.fillers;
      number_count = stands.shape.number_count;
      numbers = stands.shape.numbers;
      pumps = ap length same ∙ stands.shape.pumps;
    };
    strands = stands.strands;
    graphs = stands.graphs;
    places = stands.places;
    joined = stands.joined;
    legal = stands.legal;
    pumped = record {
      ready = λ i d within unready. stands.pumped.ready i d within
          (sym (ap (λ pumps. (slice_index_or pumps i idle).ready) same) ∙ unready);
      held = λ i d within held. held_back (stands.pumped.held i d within
          (λ none. held (ap (λ pumps. (slice_index_or pumps i idle).blockers) same ∙ none)));
      few = λ i within. rw (ap (λ pumps. (slice_index_or pumps i idle).blockers) same) (stands.pumped.few i within);
    };
  }
    where
      held_back : {strand : Strand P S K} → IsHeldBack net pipes strand → IsHeldBack (with_loop net loop) pipes strand
      held_back back = record { lane = back.lane; wants = back.wants; full = back.full }

  -- a turn after which the same is true as after one of the net with these pumps
  pub turned_with_loop : {F : Type 0} (after : Net P S K) (old new : StoreState F) (turn : Turn)
      → Turned plain reads writes pipes past (with_loop net loop) after old new turn
      → Turned plain reads writes pipes past net after old new turn
  turned_with_loop after old new turn turned = record {
    went = turned.went;
    read = turned.read;
    same_reads = turned.same_reads;
    moved = λ moved. omega (arith, turned.moved moved, ap (λ pumps. turns_left pipes past (record { pumps = pumps; last = None })) same);
    done = turned.done;
  }

  -- nothing is to be done
  pub turned_to_over : {F : Type 0} (at : StoreState F) → NetStands plain reads writes net pipes past
      → IsOver net pipes → Turned plain reads writes pipes past net (with_loop net loop) at at Done
  turned_to_over at stands over = record {
    went = stayed plain reads writes pipes past (with_loop net loop) at (stands_with_loop stands);
    read = λ read. absurd (done_is_no_read read);
    same_reads = λ _. refl;
    moved = λ moved. absurd (done_is_not_moved moved);
    done = λ _. record { strands = over.strands; lanes = over.lanes };
  }
