-- What the calls of a strand do, for every history for which it stood.
use Rattle.std.specs.Prelude.{◌≡◌, ◌≢◌, ◌⊎◌, ℕ, ◌+◌, ◌<◌, ◌≤◌, ◌==◌, ◌++◌, List, [], ◌∷◌, length, map, slice_get, slice_index_or, Bool, true, false, Option, Some, None, MatchOption, option_map, option_and_then, if◌then◌else◌}
use Rattle.std.specs.Io.KnownBytes.{Appends, IsAtEnd}
use Rattle.std.specs.List.{position}
use Rattle.std.specs.Option.{option_map_or, is_some}
use Rattle.up_base.specs.Lists.{IsPrefix}
use Rattle.up_model.specs.Meaning.{Doing, input_by, bytes_by}
use Rattle.up_model.specs.Outcomes.{shown_of}
use Rattle.up_model.specs.Packet.{Flow, IsLegal, count_with_bytes}
use Rattle.up_model.specs.Plans.{sinks_of, strand_of}
use Rattle.up_model.specs.Tallies.{IsAtMost}
use Rattle.up_model.specs.declared.form.SourceForm.TheVariants.{Raw, Framed}
use Rattle.up_model.specs.declared.kind.Kind.TheVariants as kinds
use Rattle.up_model.specs.declared.outcome.Outcome.{Outcome}
use Rattle.up_model.specs.declared.outcome.Outcome.TheVariants as outcomes
use Rattle.up_model.specs.declared.pipe.Pipe.{Pipe}
use Rattle.up_model.specs.declared.plain_packet.PlainPacket.{PlainPacket}
use Rattle.up_model.specs.declared.tally.Tally.{Tally}
use Rattle.up_outside.specs.Counts.{CountsWhere}
use Rattle.up_outside.specs.States.{SourceState, SinkState}
use Rattle.up_queue.specs.declared.end_kind.EndKind.{EndKind}
use Rattle.up_queue.specs.declared.end_kind.EndKind.TheVariants as ends
use Rattle.up_queue.specs.declared.item.Item.{Item}
use Rattle.up_queue.specs.declared.item.Item.TheVariants.{Packet, End}
use Rattle.up_shape.specs.Stores.{StoreState}
use Rattle.up_strand.specs.Frames.{PutAll}
use Rattle.up_strand.specs.History.{History, doing, end_by, head_flow, sums_at, to_head, told_at, told_at_last}
use Rattle.up_strand.specs.Reads.{WereRead}
use Rattle.up_strand.specs.Strands.{StandsFor, ended_at_fault, place_of}
use Rattle.up_strand.specs.Writing.{IsSameSink}
use Rattle.up_strand.specs.declared.frame_source.TheConstants.{MAX_PIECE}
use Rattle.up_strand.specs.declared.strand.Strand.{Strand}
use Rattle.up_strand.specs.declared.strand_end.StrandEnd.{StrandEnd}
use Rattle.up_strand.specs.declared.want.Want.{Want}
use Rattle.up_strand.specs.declared.want.Want.TheVariants.{Read, Input, Output, Done}

-- a sink that isn't there
abbrev pub no_sink : SinkState
no_sink = record { written = None; place = None; moved = None; faults = 0 }

-- by the place of its pipe, what each of these sinks told, which stand at these places
abbrev pub told_of : {K : Type 0} → (K → SinkState) → List ℕ → List K → ℕ → SinkState
told_of writes places sinks place = option_map_or writes
    (option_and_then (slice_get sinks) (position (λ other. other == place) places)) no_sink

-- the same of those of the strand of the head
abbrev pub sinks_told : {K : Type 0} → (K → SinkState) → List Pipe → ℕ → List K → ℕ → SinkState
sinks_told writes pipes head sinks = told_of writes (sinks_of pipes head) sinks

-- nothing was done yet
abbrev pub begun : List Pipe → ℕ → Option SourceState → (ℕ → SinkState) → History
begun pipes head source sinks = record {
  pipes = pipes;
  head = head;
  source = source;
  sinks = sinks;
  source_now = source;
  sinks_now = sinks;
  read = [];
  came = [];
  fed = [];
  ended = None;
  short = false;
  sent = λ lane. [];
  closed = λ lane. false;
  failed = λ place. false;
}

-- the lane for which the last item was taken out, where it can come back
abbrev pub lane_given : {P S K : Type 0} → Strand P S K → Option ℕ
lane_given strand = option_map (place_of strand) strand.last

abbrev pub is_output : Want → Bool
is_output Read = false
is_output Input = false
is_output (Output lane) = true
is_output Done = false

abbrev pub is_done : Want → Bool
is_done Read = false
is_done Input = false
is_done (Output lane) = false
is_done Done = true

module _ {P : Type 0} (plain : P → PlainPacket) where
  -- the packets of an item
  abbrev pub packets_in : Item P → Flow
  packets_in (Packet p) = plain p ∷ []
  packets_in (End kind) = []

  abbrev pub IsLegalItem : Item P → Type 0
  IsLegalItem (Packet p) = IsLegal (plain p)
  IsLegalItem (End kind) = Unit {0}

  -- the same, and this item was taken out for the lane
  abbrev pub gave_out : History → ℕ → Item P → History
  gave_out h lane (Packet p) = record h {
    sent = λ other. if other == lane then h.sent other ++ plain p ∷ [] else h.sent other;
  }
  gave_out h lane (End kind) = record h {
    closed = λ other. if other == lane then true else h.closed other;
  }

-- how the flow of a head behind a lane ends with an item
abbrev pub end_in : {P : Type 0} → Item P → Option Outcome
end_in (Packet p) = None
end_in (End ends.Whole) = Some outcomes.Whole
end_in (End ends.Broken) = Some outcomes.Broken

-- an end is of the kind
abbrev pub IsEndOf : {P : Type 0} → EndKind → Item P → Type 0
IsEndOf kind (Packet p) = Unit {0}
IsEndOf kind (End other) = other ≡ kind

abbrev pub ItemFits : {P F : Type 0} → (P → F → Type 0) → F → Item P → Type 0
ItemFits fits family (Packet p) = fits p family
ItemFits fits family (End kind) = Unit {0}

module _ {P S K : Type 0} (plain : P → PlainPacket) (reads : S → SourceState)
    (writes : K → SinkState) where
  -- by how much a step went on
  pub record Stepped (strand : Strand P S K) (h : History) (came : Flow) : Type 0 where
    pub read : List ℕ
    pub fed : Flow
    pub ended : Option Outcome
    pub short : Bool
    pub failed : ℕ → Bool
    pub source_now : Option SourceState
    pub sinks_now : ℕ → SinkState
    pub stands : StandsFor plain reads writes strand (record h {
      source_now = source_now;
      sinks_now = sinks_now;
      read = h.read ++ read;
      came = h.came ++ came;
      fed = h.fed ++ fed;
      ended = ended;
      short = short;
      failed = failed;
    })
    pub stays : h.short ≡ true → short ≡ true
    -- a sink that failed stays as it is
    pub stopped : (place : ℕ) → h.failed place ≡ true
        → (failed place ≡ true) × (sinks_now place ≡ h.sinks_now place)
    -- once memory ran out, nothing is put out, and all sinks stay as they are
    pub given_up : h.short ≡ true
        → (fed ≡ []) × ((place : ℕ) → sinks_now place ≡ h.sinks_now place)

  -- a raw source gave at most a block, into room that was drawn of the store: without it nothing was
  -- read
  pub record StepsByBlock {F : Type 0} (size : ℕ) (old new : StoreState F) (read : List ℕ)
      (ended : Option Outcome) : Type 0 where
    pub moves : ended ≡ None → 0 < length read
    pub block : length read ≤ size
    pub room : ended ≢ Some outcomes.NoMemory → old.drawn < new.drawn
    pub into : 0 < length read → old.drawn < new.drawn

  -- a packet of a source of frames was put out; or it gave a piece of bytes, once all packets of those before
  -- were
  pub record StepsByFrame (limit : ℕ) (h : History) (read : List ℕ) (fed : Flow) : Type 0 where
    pub piece : length read ≤ MAX_PIECE
    pub either : (read ≡ []) ⊎ (fed ≡ [])
    pub all : 0 < length read → PutAll limit h.read h.fed

  -- the source gave bytes, or a packet of them was put out, or its flow ended; for each packet with
  -- bytes more was drawn of the store
  pub record SteppedRead {F : Type 0} (strand : Strand P S K) (h : History)
      (old new : StoreState F) : Type 0 where
    pub step : Stepped strand h []
    pub moves : step.ended ≡ None → 0 < length step.read + length step.fed
    pub one : length step.fed ≤ 1
    pub raw : (pipe : Pipe) (path : List ℕ) (size limit : ℕ)
        → slice_get h.pipes h.head ≡ Some pipe
        → pipe.kind ≡ kinds.Source path (Raw size) limit
        → StepsByBlock size old new step.read step.ended
    pub framed : (pipe : Pipe) (path : List ℕ) (limit : ℕ)
        → slice_get h.pipes h.head ≡ Some pipe
        → pipe.kind ≡ kinds.Source path Framed limit → StepsByFrame limit h step.read step.fed
    pub drawn : old.drawn + count_with_bytes step.fed ≤ new.drawn

  -- the item came through the lane of the head
  pub record SteppedItem (strand : Strand P S K) (h : History) (item : Item P) : Type 0 where
    pub step : Stepped strand h (packets_in plain item)
    pub unread : step.read ≡ []
    pub source_stays : step.source_now ≡ h.source_now
    pub ended : step.ended ≡ end_in item

  -- the item went out for the lane, whose end hadn't
  pub record WentOut (strand : Strand P S K) (h : History) (lane : ℕ)
      (item : Item P) : Type 0 where
    pub stands : StandsFor plain reads writes strand (gave_out plain h lane item)
    pub not_over : h.closed lane ≡ false
    pub kind : IsEndOf (end_by h.short h.ended) item

  -- the item is the one that was taken out last, for this lane
  pub record CameOut (strand : Strand P S K) (item : Item P) : Type 0 where
    pub h : History
    pub lane : ℕ
    pub given : lane_given strand ≡ Some lane
    pub stands : StandsFor plain reads writes strand (gave_out plain h lane item)
    pub not_over : h.closed lane ≡ false

module _ (h : History) (place : ℕ) (pipe : Pipe) where
  -- what is to be written to the sink, of the packets that the head had
  abbrev pub bytes_due : Doing → List ℕ
  bytes_due does = bytes_by does h.pipes (to_head h.head (head_flow h)) place pipe

  -- the sink was given its bytes, or the first of them where it failed or memory ran out; one write
  -- of it failed at most, and it is as the last step left it
  pub record SinkEnds (now : SinkState) : Type 0 where
    pub put : List ℕ
    pub appended : Appends (h.sinks place).written now.written put
    pub first : IsPrefix put (bytes_due (doing h.ended))
    pub all : h.short ≡ false → h.failed place ≡ false → put ≡ bytes_due (doing h.ended)
    pub faults : CountsWhere (h.failed place) (h.sinks place).faults now.faults
    pub once : now.faults ≤ (h.sinks place).faults + 1
    pub left : h.sinks_now place ≡ now
    pub same : IsSameSink (h.sinks place) now

-- what the bytes that the source gave show, whatever comes behind them
abbrev pub shown_at_head : History → Option Outcome
shown_at_head h =
    option_and_then (λ pipe. shown_of pipe.kind h.read) (slice_get h.pipes h.head)

-- the source gave the bytes that were read; one read of it failed at most, and it is as the last
-- step left it
pub record SourceEnds (h : History) (now : SourceState) : Type 0 where
  pub start : SourceState
  pub told : h.source ≡ Some start
  pub took : WereRead start now h.read (length h.read)
  pub faults : CountsWhere (ended_at_fault h.ended) start.faults now.faults
  pub once : now.faults ≤ start.faults + 1
  pub left : h.source_now ≡ Some now
  pub whole : h.ended ≡ Some outcomes.Whole → IsAtEnd now.left
  -- a bad frame that the bytes don't show yet is told only where nothing comes behind them
  pub settled : (offset : ℕ) → h.ended ≡ Some (outcomes.BadFrame offset)
      → (shown_at_head h ≡ Some (outcomes.BadFrame offset)) ⊎ IsAtEnd now.left

module _ {S K : Type 0} (reads : S → SourceState) (writes : K → SinkState) where
  -- what is left of a strand that did what the history says, and was done or not
  pub record Finished (done : Bool) (h : History) (end : StrandEnd S K) : Type 0 where
    pub outcomes : end.outcomes
        ≡ map (λ place. told_at_last done (told_at h place)) (strand_of h.pipes h.head)
    pub tallies : h.short ≡ false → end.tallies ≡ map (sums_at h) (strand_of h.pipes h.head)
    -- where memory ran out no sum is more than it would have been
    pub most : (k place : ℕ) (d : Tally) → slice_get (strand_of h.pipes h.head) k ≡ Some place
        → IsAtMost (slice_index_or end.tallies k d) (sums_at h place)
    pub count : length end.tallies ≡ length (strand_of h.pipes h.head)
    pub source : MatchOption end.parts.source (h.source ≡ None)
        (λ source. SourceEnds h (reads source))
    pub sinks : length end.parts.sinks ≡ length (sinks_of h.pipes h.head)
    pub written : (k place : ℕ) (pipe : Pipe) (d : K)
        → slice_get (sinks_of h.pipes h.head) k ≡ Some place
        → slice_get h.pipes place ≡ Some pipe
        → SinkEnds h place pipe (writes (slice_index_or end.parts.sinks k d))

module _ (h : History) (lane : ℕ) (pipe : Pipe) where
  -- what the head of the lane is to take
  abbrev pub flow_due : Doing → Flow
  flow_due does = input_by does h.pipes (to_head h.head (head_flow h)) lane pipe

  -- something is due still: a packet, or the end
  abbrev pub HasMoreDue : Type 0
  HasMoreDue = (length (h.sent lane) < length (flow_due (doing h.ended)))
      ⊎ ((is_some h.ended ≡ true) × (h.closed lane ≡ false))

  -- all that can be taken out was, but for what is lacking where memory ran out
  pub record HasNoneWaiting : Type 0 where
    pub all : h.short ≡ false → h.sent lane ≡ flow_due (doing h.ended)
    pub over : is_some h.ended ≡ true → h.closed lane ≡ true

  -- what was taken out comes first of that: all of it where nothing waits, and where the end was
  -- taken out
  pub record LaneStands (want : Want) : Type 0 where
    pub first : IsPrefix (h.sent lane) (flow_due (doing h.ended))
    pub all : h.short ≡ false → is_output want ≡ false
        → h.sent lane ≡ flow_due (doing h.ended)
    pub over : h.closed lane ≡ true → is_some h.ended ≡ true
    pub all_over : h.short ≡ false → h.closed lane ≡ true
        → h.sent lane ≡ flow_due (doing h.ended)
    pub closed : want ≡ Done → h.closed lane ≡ true
