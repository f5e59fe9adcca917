-- What a node of a strand stands for: the flow that it took, and the flow that has left it.
use Rattle.std.specs.Prelude.{◌≡◌, ◌==◌, ℕ, [], ◌++◌, map, All, Bool, true, false, not, ◌&&◌, Option, Some, None, IfSome, MatchOption}
use Rattle.up_model.specs.Ends.{is_source, written_by}
use Rattle.up_model.specs.Kinds.{IsWithinBounds}
use Rattle.up_model.specs.Meaning.{wholly, so_far, done_by}
use Rattle.up_model.specs.Packet.{Flow, IsLegal}
use Rattle.up_model.specs.Tallies.{IsAtMost, nothing, stopped}
use Rattle.up_model.specs.Work.{Work}
use Rattle.up_model.specs.declared.kind.Kind.{Kind}
use Rattle.up_model.specs.declared.plain_packet.PlainPacket.{PlainPacket}
use Rattle.up_outside.specs.Counts.{CountsOnce}
use Rattle.up_outside.specs.States.{SinkState}
use Rattle.up_shape.specs.Outgoing.{Outgoing}
use Rattle.up_strand.specs.AnyModule.{any_kind, AnyStands, has_module}
use Rattle.up_strand.specs.Spellings.{IsSinkOf, form_of}
use Rattle.up_strand.specs.Writing.{Receives}
use Rattle.up_strand.specs.declared.node.Node.{Node}
use Rattle.up_strand.specs.declared.node.Part.{Part}
use Rattle.up_strand.specs.declared.node.Part.TheVariants.{Head, Pipe, Sink, Outlet, Ended}

-- whether a node with this input takes what the node at the place puts out
abbrev pub takes_from : Option ℕ → ℕ → Bool
takes_from None place = false
takes_from (Some input) place = input == place

abbrev pub is_outlet : {K : Type 0} → Part K → Bool
is_outlet Outlet = true
is_outlet part = false

-- its flow came to its whole end
abbrev pub is_whole : {K : Type 0} → Part K → Bool
is_whole (Ended whole) = whole
is_whole part = false

-- its module is gone
abbrev pub has_ended : {K : Type 0} → Part K → Bool
has_ended (Ended whole) = true
has_ended part = false

-- it is a pipe whose flow goes on
abbrev pub is_pipe : {K : Type 0} → Part K → Bool
is_pipe (Pipe m) = true
is_pipe part = false

abbrev pub holds_sink : {K : Type 0} → Part K → Bool
holds_sink (Sink sink spelling failed) = true
holds_sink part = false

-- a sink that failed
abbrev pub has_failed : {K : Type 0} → Part K → Bool
has_failed (Sink sink spelling failed) = failed
has_failed part = false

-- it can be given packets: its flow goes on, or it gives them up since memory ran out at it
pub record IsTaking {P K : Type 0} (node : Node P K) : Type 0 where
  pub goes_on : is_whole node.part ≡ false
  pub gone : has_ended node.part ≡ true → node.short ≡ true

-- its flow goes on, and memory didn't run out at it
pub record IsSound {P K : Type 0} (node : Node P K) : Type 0 where
  pub long : node.short ≡ false
  pub going : has_ended node.part ≡ false

-- its flow came to its whole end, where it is a pipe, and memory didn't run out at it
pub record IsDone {P K : Type 0} (node : Node P K) : Type 0 where
  pub long : node.short ≡ false
  pub ended : is_pipe node.part ≡ false
  pub whole : has_ended node.part ≡ is_whole node.part

-- memory ran out at it, and its module and what waits there are given up, but for what is left for
-- another strand
pub record HasGivenUp {P K : Type 0} (old new : Node P K) : Type 0 where
  pub short : new.short ≡ true
  pub gone : is_pipe new.part ≡ false
  pub kept : is_outlet old.part ≡ true → new.out ≡ old.out
  pub settled : is_outlet old.part ≡ false → new.out.packets ≡ []

-- it has the same input and takers, and is an outlet or not as it was; a sink that failed is the
-- same, and so is a sink at which memory ran out
pub record IsAsPlaced {P K : Type 0} (old new : Node P K) : Type 0 where
  pub input : new.input ≡ old.input
  pub takers : new.takers ≡ old.takers
  pub outlet : is_outlet new.part ≡ is_outlet old.part
  pub stopped : has_failed old.part ≡ true → new.part ≡ old.part
  pub fallen : old.short ≡ true → new.short ≡ true
  pub still : old.short ≡ true → holds_sink new.part ≡ true → new.part ≡ old.part

-- what is fixed of a node when its strand begins: the kind of its pipe, and the state of its sink,
-- if it is one. An outlet is no pipe and has no kind.
pub record Seat : Type 0 where
  pub kind : Option Kind
  pub start : SinkState

-- the work of a node that took this flow, wholly or so far. A source puts out what it is given, an
-- outlet what it takes.
abbrev pub node_work : Bool → Option Kind → Flow → Work
node_work whole None fed = record { flow = fed; tally = nothing }
node_work false (Some kind) fed = done_by so_far 0 kind fed
node_work true (Some kind) fed = done_by wholly 0 kind fed

-- of this work, what hasn't left waits in the outbox, but for what is lacking where memory ran out;
-- the outbox has counted no more than it, and else all of it
pub record Holds {P : Type 0} (plain : P → PlainPacket) (short : Bool) (work : Work)
    (out : Outgoing P) (gone : Flow) : Type 0 where
  pub lacking : Flow
  pub flow : work.flow ≡ gone ++ map plain out.packets ++ lacking
  pub all : short ≡ false → lacking ≡ []
  pub tally : short ≡ false → out.tally ≡ stopped work.tally
  pub most : IsAtMost out.tally (stopped work.tally)

module _ {P K : Type 0} (plain : P → PlainPacket) (state : K → SinkState) where
  -- a part is of the kind of its seat and took this flow; a sink that failed, or at which memory
  -- ran out, was given a prefix of its bytes, and one write of it failed at most
  abbrev pub PartStands : Seat → Bool → Part K → Flow → Type 0
  PartStands seat short Head fed = MatchOption seat.kind ⊥ (λ kind. is_source kind ≡ true)
  PartStands seat short (Pipe m) fed =
      (seat.kind ≡ Some (any_kind m)) × (short ≡ false → AnyStands m fed)
  PartStands seat short (Sink sink spelling failed) fed =
      MatchOption seat.kind ⊥ (IsSinkOf (form_of spelling))
      × Receives seat.start (state sink) (not short && not failed)
      (written_by (form_of spelling) fed)
      × CountsOnce failed seat.start.faults (state sink).faults
  PartStands seat short Outlet fed = seat.kind ≡ None
  PartStands seat short (Ended whole) fed = MatchOption seat.kind ⊥ (λ kind. has_module kind ≡ true)

  -- the node took the one flow, and the other has left it
  pub record NodeStands (seat : Seat) (node : Node P K) (fed gone : Flow) : Type 0 where
    pub legal : All IsLegal fed
    pub within : IfSome seat.kind IsWithinBounds
    pub part : PartStands seat node.short node.part fed
    pub holds : Holds plain node.short (node_work (is_whole node.part) seat.kind fed) node.out gone

  -- whatever the node stood for, it took these packets more
  abbrev pub Took : Node P K → Node P K → Flow → Type 0
  Took old new more =
      (seat : Seat) (fed gone : Flow) → NodeStands seat old fed gone
      → NodeStands seat new (fed ++ more) gone

-- what waits in the node is of the family
abbrev pub NodeFits : {P K F : Type 0} → (P → F → Type 0) → Node P K → F → Type 0
NodeFits fits node family = All (λ packet. fits packet family) node.out.packets
