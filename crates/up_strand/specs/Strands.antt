-- What a strand stands for: what it did since it was made.
use Rattle.std.specs.Prelude.{◌≡◌, ℕ, ◌+◌, ◌*◌, ◌<◌, ◌≤◌, ◌==◌, ◌++◌, ◌&&◌, ◌||◌, List, [], length, map, slice_get, slice_index_or, Bool, true, false, not, is_some, Option, Some, None, MatchOption, nat_le, nat_lt, option_and_then, if◌then◌else◌}
use Rattle.std.specs.List.{Contains, range_with_len, position}
use Rattle.std.specs.Option.{option_map_or, option_to_list}
use Rattle.up_base.specs.Lists.{IsPrefix}
use Rattle.up_model.specs.Inputs.{input_at, passes_at}
use Rattle.up_model.specs.Outcomes.{settled_packets_of}
use Rattle.up_model.specs.Plans.{heads, is_fed, outlets_of, sinks_of, strand_of}
use Rattle.up_model.specs.WellFormed.{IsWellFormed}
use Rattle.up_model.specs.declared.form.SourceForm.{SourceForm}
use Rattle.up_model.specs.declared.form.SourceForm.TheVariants.{Raw, Framed}
use Rattle.up_model.specs.declared.kind.Kind.TheVariants as kinds
use Rattle.up_model.specs.declared.limits.TheConstants.{MAX_LIMIT, MAX_PACKET}
use Rattle.up_model.specs.declared.outcome.Outcome.{Outcome}
use Rattle.up_model.specs.declared.outcome.Outcome.TheVariants as outcomes
use Rattle.up_model.specs.declared.pipe.Pipe.{Pipe}
use Rattle.up_model.specs.declared.plain_packet.PlainPacket.{PlainPacket}
use Rattle.up_outside.specs.Counts.{CountsOnce}
use Rattle.up_outside.specs.States.{SourceState, SinkState}
use Rattle.up_strand.specs.Frames.{FramesStand}
use Rattle.up_strand.specs.Gifts.{NodesFit}
use Rattle.up_strand.specs.History.{History, head_flow, outcome_of_source, outcome_without}
use Rattle.up_strand.specs.Nodes.{has_failed, is_outlet}
use Rattle.up_strand.specs.OfGraph.{AreNodesOf}
use Rattle.up_strand.specs.Reads.{EndsBy, WereRead}
use Rattle.up_strand.specs.Rooms.{HasOnlyRoom}
use Rattle.up_strand.specs.Stand.{NodesAre, Past, Stand}
use Rattle.up_strand.specs.Tree.{IsSwept}
use Rattle.up_strand.specs.declared.frame_source.FrameSource.{FrameSource}
use Rattle.up_strand.specs.declared.intake.Intake.{Intake}
use Rattle.up_strand.specs.declared.intake.Intake.TheVariants.{FromSource, FromFrames, FromLane}
use Rattle.up_strand.specs.declared.node.Node.{Node}
use Rattle.up_strand.specs.declared.node.Part.{Part}
use Rattle.up_strand.specs.declared.node.Part.TheVariants.{Head, Pipe as PipePart, Sink, Outlet, Ended}
use Rattle.up_strand.specs.declared.spelling.Spelling.{Spelling}
use Rattle.up_strand.specs.declared.strand.Strand.{Strand}
use Rattle.up_strand.specs.declared.want.Want.{Want}
use Rattle.up_strand.specs.declared.want.Want.TheVariants.{Read, Input, Output, Done}

-- the outcome of a pipe that does this part
abbrev pub outcome_of_part : {K : Type 0} → Part K → Bool → Option Outcome → Outcome
outcome_of_part Head short ended = outcome_of_source short ended
outcome_of_part (Sink sink spelling true) short ended = outcomes.WriteFault
outcome_of_part (Sink sink spelling false) short ended = outcome_without short ended
outcome_of_part (PipePart m) short ended = outcome_without short ended
outcome_of_part Outlet short ended = outcome_without short ended
outcome_of_part (Ended whole) short ended = outcome_without short ended

-- its packets are blocks of a source, or those of its frames
abbrev pub takes_blocks : {S : Type 0} → Intake S → Bool
takes_blocks (FromSource source block limit left) = true
takes_blocks (FromFrames frames) = false
takes_blocks FromLane = false

abbrev pub takes_frames : {S : Type 0} → Intake S → Bool
takes_frames (FromSource source block limit left) = false
takes_frames (FromFrames frames) = true
takes_frames FromLane = false

module _ {P S K : Type 0} (strand : Strand P S K) where
  -- the place of the pipe at a node, or of the head of the lane that ends there
  abbrev pub place_of : ℕ → ℕ
  place_of i = slice_index_or strand.places.items i 0

  -- the node of the place
  abbrev pub node_of : ℕ → Option ℕ
  node_of place = position (λ other. other == place) strand.places.items

  abbrev pub has_failed_at : ℕ → Bool
  has_failed_at place = option_map_or (λ node. has_failed node.part)
      (option_and_then (slice_get strand.tree.nodes.items) (node_of place)) false

  -- the packet that came back for the lane that ends at a node
  abbrev pub kept_at : ℕ → List P
  kept_at i = if i == strand.ready then option_to_list strand.kept else []

  -- an item waits at a node that fills a lane: a packet, or the end behind all of them
  abbrev pub item_waits : ℕ → Node P K → Bool
  item_waits i node = is_outlet node.part && (nat_lt 0 (length (kept_at i ++ node.out.packets))
      || (is_some strand.ended && not (slice_index_or strand.closed.items i false)))

  abbrev pub has_item : ℕ → Bool
  has_item i = option_map_or (item_waits i) (slice_get strand.tree.nodes.items i) false

  -- the first node at which one does
  abbrev pub first_ready : Option ℕ
  first_ready = position has_item (range_with_len 0 (length strand.tree.nodes.items))

  abbrev pub wants_in : Intake S → Want
  wants_in (FromSource source block limit left) = Read
  wants_in (FromFrames frames) = Read
  wants_in FromLane = Input

  -- items go out before anything comes in; after the end of its flow nothing does
  abbrev pub want_of : Want
  want_of = option_map_or (λ i. Output (place_of i)) first_ready
      (if is_some strand.ended then Done else wants_in strand.intake)

  -- what the strand holds is of the family
  pub record StrandFits {F : Type 0} (fits : P → F → Type 0) (family : F) : Type 0 where
    pub nodes : NodesFit fits family strand.tree.nodes.items
    pub kept : MatchOption strand.kept (Unit {0}) (λ packet. fits packet family)

  -- the strand is built of the pipes of its head's strand, in file order, and then of the ends of
  -- the lanes that it fills
  pub record IsBuilt (h : History) (past : Past) : Type 0 where
    pub well : IsWellFormed h.pipes
    pub is_head : Contains (heads h.pipes) h.head
    pub places : strand.places.items ≡ strand_of h.pipes h.head ++ outlets_of h.pipes h.head
    pub count : length strand.tree.nodes.items ≡ length strand.places.items
    pub apart : (i j : ℕ) → i < length strand.places.items → j < length strand.places.items
        → place_of i ≡ place_of j → i ≡ j
    pub outlets : (i : ℕ) (d : Node P K) → i < length strand.tree.nodes.items
        → is_outlet (slice_index_or strand.tree.nodes.items i d).part
        ≡ nat_le (length (strand_of h.pipes h.head)) i
    pub some : 0 < length strand.tree.order.items
    pub swept : IsSwept strand.tree.order.items strand.tree.nodes.items
    pub are : AreNodesOf h.pipes place_of strand.tree.nodes.items past
    pub lanes : (i : ℕ) (d : Node P K) → i < length strand.tree.nodes.items
        → is_outlet (slice_index_or strand.tree.nodes.items i d).part ≡ true
        → (k : ℕ) × ((slice_index_or strand.tree.nodes.items i d).input ≡ Some k)
        × (input_at h.pipes (place_of i) ≡ Some (place_of k))
    pub head : (i : ℕ) (d : Node P K) → i < length strand.tree.nodes.items
        → (slice_index_or strand.tree.nodes.items i d).input ≡ None → place_of i ≡ h.head
    pub first : (d : Node P K) (e : ℕ) → (slice_index_or strand.tree.nodes.items
        (slice_index_or strand.tree.order.items 0 e) d).input ≡ None
    pub caught : (i : ℕ) (pipe : Pipe) → i < length (strand_of h.pipes h.head)
        → slice_get h.pipes (place_of i) ≡ Some pipe
        → slice_get strand.caught.items i ≡ Some pipe.caught
    pub catches : length strand.caught.items ≡ length (strand_of h.pipes h.head)
    pub closings : length strand.closed.items ≡ length strand.places.items

  -- the room that its end needs is there
  abbrev pub HasRooms : History → Type 0
  HasRooms h =
      HasOnlyRoom (length (strand_of h.pipes h.head)) (length (sinks_of h.pipes h.head)) strand.told

  -- its nodes are as the flow of its head ended, and as memory ran out
  pub record IsAsEnded (h : History) : Type 0 where
    pub ended : strand.ended ≡ h.ended
    pub short : strand.tree.short ≡ h.short
    pub nodes : NodesAre h.short h.ended strand.tree.nodes.items

  -- what has left for lanes is what was taken out, but for the packet that came back
  pub record IsSent (plain : P → PlainPacket) (h : History) (past : Past) : Type 0 where
    pub sent : (i : ℕ) (d : Node P K) → i < length strand.tree.nodes.items
        → is_outlet (slice_index_or strand.tree.nodes.items i d).part ≡ true
        → past.gone i ≡ h.sent (place_of i) ++ map plain (kept_at i)
    pub closed : (i : ℕ) (d : Node P K) → i < length strand.tree.nodes.items
        → is_outlet (slice_index_or strand.tree.nodes.items i d).part ≡ true
        → slice_index_or strand.closed.items i false ≡ h.closed (place_of i)
    -- nothing waits where the end was taken out
    pub over : (i : ℕ) (d : Node P K) → i < length strand.tree.nodes.items
        → is_outlet (slice_index_or strand.tree.nodes.items i d).part ≡ true
        → h.closed (place_of i) ≡ true
        → (is_some h.ended ≡ true)
        × (kept_at i ++ (slice_index_or strand.tree.nodes.items i d).out.packets ≡ [])
    pub ready : strand.ready
        ≡ option_map_or (λ i. i) first_ready (length strand.tree.nodes.items)
    -- a packet that came back waits at the node for whose lane it is
    pub kept : is_some strand.kept ≡ true → (strand.last ≡ None)
        × (strand.ready < length strand.tree.nodes.items)
        × (nat_le (length (strand_of h.pipes h.head)) strand.ready ≡ true)
    -- the node from which the last item was taken out can take it back
    pub last : (at : ℕ) → strand.last ≡ Some at → (at ≤ strand.ready)
        × (at < length strand.tree.nodes.items)
        × (nat_le (length (strand_of h.pipes h.head)) at ≡ true)

  -- the sinks are those that it was made with, and what they tell and which failed is known
  pub record IsWriting (writes : K → SinkState) (h : History) (past : Past) : Type 0 where
    pub starts : (i : ℕ) (d : Node P K) (sink : K) (spelling : Spelling) (failed : Bool)
        → i < length strand.tree.nodes.items
        → (slice_index_or strand.tree.nodes.items i d).part ≡ Sink sink spelling failed
        → (past.seats i).start ≡ h.sinks (place_of i)
    pub now : (i : ℕ) (d : Node P K) (sink : K) (spelling : Spelling) (failed : Bool)
        → i < length strand.tree.nodes.items
        → (slice_index_or strand.tree.nodes.items i d).part ≡ Sink sink spelling failed
        → h.sinks_now (place_of i) ≡ writes sink
    pub failed : (place : ℕ) → h.failed place ≡ has_failed_at place

-- a read failed
abbrev pub ended_at_fault : Option Outcome → Bool
ended_at_fault None = false
ended_at_fault (Some outcomes.Whole) = false
ended_at_fault (Some outcomes.ReadFault) = true
ended_at_fault (Some outcomes.WriteFault) = false
ended_at_fault (Some (outcomes.BadFrame offset)) = false
ended_at_fault (Some (outcomes.TooLong limit)) = false
ended_at_fault (Some outcomes.Broken) = false
ended_at_fault (Some outcomes.NoMemory) = false

-- memory hadn't run out, and the source ended so by the bytes that were read, of which at most one is past
-- its limit
pub record EndedWithMemory (form : SourceForm) (limit : ℕ) (rest : Option (List ℕ)) (h : History)
    (outcome : Outcome) : Type 0 where
  pub long : h.short ≡ false
  pub few : length h.read ≤ limit + 1
  pub by : EndsBy form limit rest h.read outcome

-- how a source of the form ended, by the bytes that were read
abbrev pub EndsRightly : SourceForm → ℕ → Option (List ℕ) → History → Option Outcome → Type 0
EndsRightly form limit rest h None = (h.short ≡ false) × (length h.read ≤ limit + 1)
EndsRightly form limit rest h (Some outcomes.Whole) = EndsBy form limit rest h.read outcomes.Whole
EndsRightly form limit rest h (Some outcomes.ReadFault) =
    EndedWithMemory form limit rest h outcomes.ReadFault
EndsRightly form limit rest h (Some outcomes.WriteFault) = ⊥
EndsRightly form limit rest h (Some (outcomes.BadFrame offset)) =
    EndedWithMemory form limit rest h (outcomes.BadFrame offset)
EndsRightly form limit rest h (Some (outcomes.TooLong most)) =
    EndedWithMemory form limit rest h (outcomes.TooLong most)
EndsRightly form limit rest h (Some outcomes.Broken) = ⊥
EndsRightly form limit rest h (Some outcomes.NoMemory) =
    (h.short ≡ true) × (length h.read ≤ limit + 1)

-- the source of the head, which has the form and the limit, gave the bytes that were read
pub record IsReading (now : SourceState) (form : SourceForm) (limit : ℕ) (h : History) : Type 0 where
  pub pipe : Pipe
  pub there : slice_get h.pipes h.head ≡ Some pipe
  pub path : List ℕ
  pub kind : pipe.kind ≡ kinds.Source path form limit
  pub start : SourceState
  pub told : h.source ≡ Some start
  pub told_now : h.source_now ≡ Some now
  pub took : WereRead start now h.read (length h.read)
  pub faults : CountsOnce (ended_at_fault h.ended) start.faults now.faults
  pub ends : EndsRightly form limit now.left h h.ended
  pub in_limit : limit ≤ MAX_LIMIT
  pub alone : h.came ≡ []

-- its blocks were put out, and while its flow goes on nothing else was read
pub record IsCutting (now : SourceState) (block limit left : ℕ) (h : History) : Type 0 where
  pub reading : IsReading now (Raw block) limit h
  pub put : h.ended ≡ None → h.fed ≡ settled_packets_of (Raw block) h.read
  pub rest : h.ended ≡ None → length h.read + left ≡ limit
  pub even : h.ended ≡ None → (count : ℕ) × (length h.read ≡ count * block)
  pub in_block : (0 < block) × (block ≤ MAX_PACKET)

-- its frames were read, and while its flow goes on their packets were put out one after the other
pub record IsGivingFrames {S : Type 0} (now : SourceState) (frames : FrameSource S) (h : History)
    : Type 0 where
  pub reading : IsReading now Framed frames.limit h
  pub stands : h.ended ≡ None → FramesStand frames h.read h.fed

-- a lane's flow ends whole or broken
abbrev pub IsEndOfLane : Option Outcome → Type 0
IsEndOfLane None = Unit {0}
IsEndOfLane (Some outcomes.Whole) = Unit {0}
IsEndOfLane (Some outcomes.ReadFault) = ⊥
IsEndOfLane (Some outcomes.WriteFault) = ⊥
IsEndOfLane (Some (outcomes.BadFrame offset)) = ⊥
IsEndOfLane (Some (outcomes.TooLong limit)) = ⊥
IsEndOfLane (Some outcomes.Broken) = Unit {0}
IsEndOfLane (Some outcomes.NoMemory) = ⊥

-- the head is behind a lane
pub record IsBehindLane (h : History) : Type 0 where
  pub fed : passes_at is_fed h.pipes h.head ≡ true
  pub none : h.source ≡ None
  pub none_now : h.source_now ≡ None
  pub alone : h.read ≡ []
  pub ends : IsEndOfLane h.ended

abbrev pub IntakeStands : {S : Type 0} → (S → SourceState) → Intake S → History → Type 0
IntakeStands reads (FromSource source block limit left) h =
    IsCutting (reads source) block limit left h
IntakeStands reads (FromFrames frames) h =
    IsGivingFrames (reads frames.source) frames h
IntakeStands reads FromLane h = IsBehindLane h

-- the head was fed the packets that it had, or the first of them where memory ran out
pub record IsFed {P K : Type 0} (nodes : List (Node P K)) (h : History) (past : Past) : Type 0 where
  pub fed : (i : ℕ) (d : Node P K) → i < length nodes
      → (slice_index_or nodes i d).input ≡ None → past.fed i ≡ h.fed
  pub first : IsPrefix h.fed (head_flow h)
  pub all : h.short ≡ false → h.fed ≡ head_flow h

module _ {P S K : Type 0} (plain : P → PlainPacket) (reads : S → SourceState)
    (writes : K → SinkState) where
  -- the strand did what the history says
  pub record StandsFor (strand : Strand P S K) (h : History) : Type 0 where
    pub past : Past
    pub stand : Stand plain writes strand.tree.nodes.items past
    pub built : IsBuilt strand h past
    pub rooms : HasRooms strand h
    pub ended : IsAsEnded strand h
    pub fed : IsFed strand.tree.nodes.items h past
    pub intake : IntakeStands reads strand.intake h
    pub sent : IsSent strand plain h past
    pub writing : IsWriting strand writes h past

  abbrev pub StandsForSome : Strand P S K → Type 0
  StandsForSome strand = (h : History) × StandsFor strand h
