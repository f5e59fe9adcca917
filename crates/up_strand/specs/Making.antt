-- A strand that is made: its room, and its nodes, which took nothing.
use Rattle.std.specs.Prelude.{◌≡◌, ℕ, ◌<◌, ◌≤◌, ◌&&◌, List, [], length, map, take, slice_get, slice_index_or, Bool, false, nat_le, nat_lt, Option, None, option_map, if◌then◌else◌}
use Rattle.std.specs.List.{filter}
use Rattle.std.specs.Option.{option_map_or}
use Rattle.std.specs.Vec.{vec_capacity}
use Rattle.up_model.specs.Inputs.{passes_at}
use Rattle.up_model.specs.Plans.{ends_at_sink, sinks_of, strand_of}
use Rattle.up_model.specs.declared.catch_set.CatchSet.{CatchSet}
use Rattle.up_model.specs.declared.pipe.Pipe.{Pipe}
use Rattle.up_model.specs.declared.plain_packet.PlainPacket.{PlainPacket}
use Rattle.up_model.specs.declared.value.Value.{Value}
use Rattle.up_outside.specs.States.{SinkState}
use Rattle.up_strand.specs.Nodes.{IsSound, NodeStands, Seat, has_failed, is_outlet}
use Rattle.up_strand.specs.Rooms.{HasOnlyRoom}
use Rattle.up_strand.specs.Shapes.{IsShapeOf, input_in}
use Rattle.up_strand.specs.StrandCalls.{no_sink}
use Rattle.up_strand.specs.Values.{value_at}
use Rattle.up_strand.specs.declared.making.Rooms.{Rooms}
use Rattle.up_strand.specs.declared.node.Node.{Node}
use Rattle.up_strand.specs.declared.node.Part.TheVariants.{Sink}
use Rattle.up_strand.specs.declared.shape.Shape.{Shape}
use Rattle.up_strand.specs.declared.spelling.Spelling.{Spelling}

abbrev pub catches_nothing : CatchSet
catches_nothing = record { drop = false; cut = false; sync = false; lost = false }

-- what the probe of the pipe at a place catches
abbrev pub caught_at : List Pipe → ℕ → CatchSet
caught_at pipes place =
    option_map_or (λ pipe. pipe.caught) (slice_get pipes place) catches_nothing

-- the place of the node's pipe
abbrev pub node_place : Shape → ℕ → ℕ
node_place shape i = slice_index_or shape.places.items i 0

-- the places of the pipes
abbrev pub own_in : Shape → List ℕ
own_in shape = take shape.pipes shape.places.items

module _ (pipes : List Pipe) (shape : Shape) where
  -- the places of the sinks, in file order
  abbrev pub sink_places : List ℕ
  sink_places = filter (passes_at ends_at_sink pipes) (own_in shape)

  -- the node is a sink's
  abbrev pub is_sink_in : ℕ → Bool
  is_sink_in i = nat_lt i shape.pipes && passes_at ends_at_sink pipes (node_place shape i)

  -- what the module of the node owns
  abbrev pub value_in : ℕ → Option Value
  value_in i = if nat_lt i shape.pipes then value_at pipes (node_place shape i) else None

  -- what the nodes of the shape can be made of
  pub record CanBegin : Type 0 where
    pub pipes_of : shape.pipes ≤ length shape.places.items
    pub within : (i : ℕ) → i < shape.pipes → node_place shape i < length pipes
    pub apart : (i j : ℕ) → i < length shape.places.items → j < length shape.places.items
        → node_place shape i ≡ node_place shape j → i ≡ j
    pub inputs : length shape.inputs.items ≡ length shape.places.items
    pub takers : length shape.takers.items ≡ length shape.places.items

  -- what the node is: an outlet, or the pipe at its place
  abbrev pub seat_in : (ℕ → SinkState) → ℕ → Seat
  seat_in told i =
      if nat_lt i shape.pipes
      then record {
        kind = option_map (λ pipe. pipe.kind) (slice_get pipes (node_place shape i));
        start = told (node_place shape i);
      }
      else record { kind = None; start = no_sink }

  module _ {P K : Type 0} (plain : P → PlainPacket) (state : K → SinkState)
      (told : ℕ → SinkState) where
    -- the node took nothing
    pub record HasBegun (i : ℕ) (node : Node P K) : Type 0 where
      pub input : node.input ≡ input_in shape.inputs.items i
      pub takers : node.takers ≡ slice_index_or shape.takers.items i None
      pub outlet : is_outlet node.part ≡ nat_le shape.pipes i
      pub start : (sink : K) (spelling : Spelling) (failed : Bool)
          → node.part ≡ Sink sink spelling failed → (seat_in told i).start ≡ state sink
      pub failed : has_failed node.part ≡ false
      pub empty : node.out.packets ≡ []
      pub sound : IsSound node
      pub stands : NodeStands plain state (seat_in told i) node [] []

-- there is room for the strand of the head
pub record HasRoomFor {P K : Type 0} (pipes : List Pipe) (head : ℕ) (rooms : Rooms P K)
    : Type 0 where
  pub shape : IsShapeOf pipes head rooms.shape
  pub empty : rooms.nodes.items ≡ []
  pub room : length rooms.shape.places.items ≤ vec_capacity rooms.nodes
  pub values : rooms.values ≡ map (value_at pipes) (own_in rooms.shape)
  pub caught : rooms.caught.items ≡ map (caught_at pipes) (strand_of pipes head)
  pub closings : length rooms.closed.items ≡ length rooms.shape.places.items
  pub open_yet : (i : ℕ) → slice_index_or rooms.closed.items i false ≡ false
  pub told : HasOnlyRoom (length (strand_of pipes head)) (length (sinks_of pipes head)) rooms.told
