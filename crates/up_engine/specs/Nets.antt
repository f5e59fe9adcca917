-- The strands of a graph, joined by lanes of one thread, each on a pump of one loop.
use Rattle.std.specs.Prelude.{◌≡◌, ◌≢◌, ◌⊎◌, ℕ, ◌+◌, ◌-◌, ◌*◌, ◌<◌, ◌≤◌, ◌==◌, suc, List, [], length, map, sum, slice_get, slice_index_or, count_by, All, Bool, true, false, Option, Some, None, if◌then◌else◌}
use Rattle.std.specs.Option.{is_some, option_map_or}
use Rattle.up_engine.specs.Flows.{flow_meant}
use Rattle.up_engine.specs.Joins.{IsJoined, filler_of, items_come, items_sent, plain_item}
use Rattle.up_engine.specs.declared.net.Net.{Net}
use Rattle.up_engine.specs.declared.net.Turn.{Turn}
use Rattle.up_engine.specs.declared.net.Turn.TheVariants.{Read, Moved, Done}
use Rattle.up_model.specs.Inputs.{passes_at, source_of}
use Rattle.up_model.specs.Packet.{count_with_bytes}
use Rattle.up_model.specs.Plans.{heads, is_fed, lane_length, lanes}
use Rattle.up_model.specs.WellFormed.{IsWellFormed}
use Rattle.up_model.specs.declared.kind.Kind.{Kind}
use Rattle.up_model.specs.declared.kind.Kind.TheVariants.{Source}
use Rattle.up_model.specs.declared.pipe.Pipe.{Pipe}
use Rattle.up_model.specs.declared.plain_packet.PlainPacket.{PlainPacket}
use Rattle.up_outside.specs.States.{SourceState, SinkState}
use Rattle.up_pump.specs.Pumps.{Pumps, blockers_at, pump_at}
use Rattle.up_queue.specs.Lane.{Lane}
use Rattle.up_queue.specs.declared.item.Item.{Item}
use Rattle.up_shape.specs.Stores.{StoreState}
use Rattle.up_strand.specs.History.{History}
use Rattle.up_strand.specs.StrandCalls.{IsLegalItem, ItemFits}
use Rattle.up_strand.specs.Strands.{StandsFor, StrandFits, want_of}
use Rattle.up_strand.specs.declared.strand.Strand.{Strand}
use Rattle.up_strand.specs.declared.want.Want.TheVariants as wants

-- the place of the head of a strand, by the strand's number
abbrev pub head_at : List Pipe → ℕ → ℕ
head_at pipes i = slice_index_or (heads pipes) i 0

-- the items that wait in the lane of a strand's head
abbrev pub items_at : {P : Type 0} → List (Option (Lane P)) → ℕ → List (Item P)
items_at lanes i = option_map_or (λ lane. lane.items) (slice_index_or lanes i None) []

-- the lane has no room
abbrev pub IsFull : {P : Type 0} → Option (Lane P) → Type 0
IsFull None = ⊥
IsFull (Some lane) = length lane.items ≡ lane.cap

-- all that it holds is of the family
pub record NetFits {P S K F : Type 0} (net : Net P S K) (fits : P → F → Type 0) (family : F)
    : Type 0 where
  pub strands : (i : ℕ) (d : Strand P S K) → i < length net.strands.items
      → StrandFits (slice_index_or net.strands.items i d) fits family
  pub lanes : (i : ℕ) → All (ItemFits fits family) (items_at net.lanes.items i)

module _ {P S K : Type 0} (net : Net P S K) (pipes : List Pipe) where
  -- it has a strand for each head, joined as the inputs of the graph say
  pub record IsNetOf : Type 0 where
    pub well : IsWellFormed pipes
    pub head_places : net.heads.items ≡ heads pipes
    pub strands : length net.strands.items ≡ length (heads pipes)
    pub lane_count : length net.lanes.items ≡ length (heads pipes)
    pub lanes : (i : ℕ) → i < length (heads pipes)
        → is_some (slice_index_or net.lanes.items i None) ≡ passes_at is_fed pipes (head_at pipes i)
    -- a lane has the length of the pipe's `queue`
    pub room : (i : ℕ) (lane : Lane P) → slice_index_or net.lanes.items i None ≡ Some lane
        → lane.cap ≡ lane_length pipes (head_at pipes i)
    pub filler_count : length net.fillers.items ≡ length (heads pipes)
    pub fillers : (i filler : ℕ) → i < length (heads pipes)
        → filler_of pipes (head_at pipes i) ≡ Some filler
        → slice_get (heads pipes) (slice_index_or net.fillers.items i 0) ≡ Some filler
    pub number_count : length net.numbers.items ≡ length pipes
    pub numbers : (i : ℕ) → i < length (heads pipes)
        → slice_index_or net.numbers.items (head_at pipes i) 0 ≡ i
    pub pumps : length net.pumps.pumps ≡ length (heads pipes)

  -- a strand that isn't ready is done, or waits for its lane, which is empty
  abbrev pub IsAtRest : ℕ → Strand P S K → Type 0
  IsAtRest i strand = (want_of strand ≡ wants.Done)
      ⊎ ((want_of strand ≡ wants.Input) × (items_at net.lanes.items i ≡ []))

  -- a strand that is held back has an item for a lane without room
  pub record IsHeldBack (strand : Strand P S K) : Type 0 where
    pub lane : ℕ
    pub wants : want_of strand ≡ wants.Output lane
    pub full : IsFull
        (slice_index_or net.lanes.items (slice_index_or net.numbers.items lane 0) None)

  pub record ArePumped : Type 0 where
    pub ready : (i : ℕ) (d : Strand P S K) → i < length (heads pipes)
        → (pump_at net.pumps i).ready ≡ false → IsAtRest i (slice_index_or net.strands.items i d)
    pub held : (i : ℕ) (d : Strand P S K) → i < length (heads pipes)
        → blockers_at net.pumps i ≢ 0 → IsHeldBack (slice_index_or net.strands.items i d)
    pub few : (i : ℕ) → i < length (heads pipes) → blockers_at net.pumps i ≤ 1

  -- every strand is done, and nothing waits
  pub record IsOver : Type 0 where
    pub strands : (i : ℕ) (d : Strand P S K) → i < length (heads pipes)
        → want_of (slice_index_or net.strands.items i d) ≡ wants.Done
    pub lanes : (i : ℕ) → items_at net.lanes.items i ≡ []

module _ {P S K : Type 0} (plain : P → PlainPacket) (reads : S → SourceState)
    (writes : K → SinkState) where
  -- the strands did this, by the place of each head
  pub record NetStands (net : Net P S K) (pipes : List Pipe) (past : ℕ → History) : Type 0 where
    pub shape : IsNetOf net pipes
    pub strands : (i : ℕ) (d : Strand P S K) → i < length (heads pipes)
        → StandsFor plain reads writes (slice_index_or net.strands.items i d)
        (past (head_at pipes i))
    pub graphs : (i : ℕ) → i < length (heads pipes) → (past (head_at pipes i)).pipes ≡ pipes
    pub places : (i : ℕ) → i < length (heads pipes)
        → (past (head_at pipes i)).head ≡ head_at pipes i
    pub joined : (i filler : ℕ) → i < length (heads pipes)
        → filler_of pipes (head_at pipes i) ≡ Some filler
        → IsJoined (past filler) (past (head_at pipes i)) (head_at pipes i)
        (map (plain_item plain) (items_at net.lanes.items i))
    pub legal : (i : ℕ) → All (IsLegalItem plain) (items_at net.lanes.items i)
    pub pumped : ArePumped net pipes

  abbrev pub NetStandsForSome : Net P S K → Type 0
  NetStandsForSome net = (pipes : List Pipe) × (past : ℕ → History) × NetStands net pipes past

-- how many more bytes and packets a source may give, and its end
abbrev pub reads_of : History → Kind → ℕ
reads_of h (Source path form limit) =
    if is_some h.ended then 0 else (2 * limit + 3) - (length h.read + length h.fed)
reads_of h kind = 0

module _ (pipes : List Pipe) (past : ℕ → History) where
  abbrev pub reads_at : ℕ → ℕ
  reads_at head = option_map_or (λ pipe. reads_of (past head) pipe.kind) (slice_get pipes head) 0

  -- how many more bytes, packets and ends the sources may give
  abbrev pub reads_left : ℕ
  reads_left = sum (map reads_at (heads pipes))

  -- how many packets with bytes the sources put out
  abbrev pub fed_at : ℕ → ℕ
  fed_at head =
      if passes_at is_fed pipes head then 0 else count_with_bytes (past head).fed

  abbrev pub fed_in_all : ℕ
  fed_in_all = sum (map fed_at (heads pipes))

  -- how many items go through the lane of a head at most, of what the sources gave so far
  abbrev pub items_due : ℕ → ℕ
  items_due lane = option_map_or (λ pipe. option_map_or
      (λ source. suc (length (flow_meant pipes past source lane pipe)))
      (source_of pipes lane) 0) (slice_get pipes lane) 0

  abbrev pub sent_at : ℕ → ℕ
  sent_at lane = option_map_or (λ filler. length (items_sent (past filler) lane))
      (filler_of pipes lane) 0

  -- how many are still to be sent, and to be taken
  abbrev pub moves_at : ℕ → ℕ
  moves_at lane =
      (items_due lane - sent_at lane) + (items_due lane - length (items_come (past lane)))

  abbrev pub moves_left : ℕ
  moves_left = sum (map moves_at (lanes pipes))

  -- how many pumps are ready, and how many are not held back
  abbrev pub pumps_left : Pumps → ℕ
  pumps_left loop = count_by (λ pump. pump.ready) loop.pumps
      + count_by (λ pump. pump.blockers == 0) loop.pumps

  -- how many turns are still to come at most, before the next step of a source
  abbrev pub turns_left : Pumps → ℕ
  turns_left loop = moves_left * (2 * length (heads pipes) + 1) + pumps_left loop

-- so many steps of sources, and so many turns before the next of them, are still to come at most
pub record NetEndsWithin {P S K : Type 0} (plain : P → PlainPacket) (reads : S → SourceState)
    (writes : K → SinkState) (net : Net P S K) (read_count turn_count : ℕ) : Type 0 where
  pub pipes : List Pipe
  pub past : ℕ → History
  pub stands : NetStands plain reads writes net pipes past
  pub reads_within : reads_left pipes past ≤ read_count
  pub turns_within : turns_left pipes past net.pumps ≤ turn_count

-- the strand went on with the source and the sinks that it had
pub record GoesOn (before after : History) : Type 0 where
  pub source : after.source ≡ before.source
  pub sinks : after.sinks ≡ before.sinks

module _ {P S K : Type 0} (plain : P → PlainPacket) (reads : S → SourceState)
    (writes : K → SinkState) (pipes : List Pipe) (past : ℕ → History) where
  -- what the strands did goes on; for each packet with bytes that was fed by then, more was drawn of
  -- the store
  pub record Went {F : Type 0} (net : Net P S K) (old new : StoreState F) : Type 0 where
    pub now : ℕ → History
    pub stands : NetStands plain reads writes net pipes now
    pub on : (head : ℕ) → GoesOn (past head) (now head)
    pub drawn : old.drawn + fed_in_all pipes now ≤ new.drawn + fed_in_all pipes past

  -- after a step of a source fewer of those are to come; else as many, and there is less to be done
  -- before the next, or nothing at all
  pub record Turned {F : Type 0} (before after : Net P S K) (old new : StoreState F)
      (turn : Turn) : Type 0 where
    pub went : Went after old new
    pub read : turn ≡ Read → reads_left pipes went.now < reads_left pipes past
    pub same_reads : turn ≢ Read → reads_left pipes went.now ≡ reads_left pipes past
    pub moved : turn ≡ Moved
        → turns_left pipes went.now after.pumps < turns_left pipes past before.pumps
    pub done : turn ≡ Done → IsOver after pipes

  -- it went on until nothing was to be done
  pub record RanToEnd {F : Type 0} (net : Net P S K) (old new : StoreState F) : Type 0 where
    pub went : Went net old new
    pub over : IsOver net pipes

  -- it went on to the next step of a source, or nothing was to be done
  pub record WentToRead {F : Type 0} (net : Net P S K) (old new : StoreState F)
      (reads_on : Bool) : Type 0 where
    pub went : Went net old new
    pub read : reads_on ≡ true → reads_left pipes went.now < reads_left pipes past
    pub over : reads_on ≡ false → IsOver net pipes
