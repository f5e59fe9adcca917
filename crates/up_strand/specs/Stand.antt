-- What the nodes of a strand stand for together.
use Rattle.std.specs.Prelude.{◌≡◌, ℕ, ◌<◌, List, [], ◌++◌, length, slice_index_or, true, false, Bool, is_some, Option, Some, None, ◌≢◌, ◌⊎◌}
use Rattle.up_model.specs.Packet.{Flow}
use Rattle.up_model.specs.declared.outcome.Outcome.{Outcome}
use Rattle.up_model.specs.declared.outcome.Outcome.TheVariants as outcomes
use Rattle.up_model.specs.declared.plain_packet.PlainPacket.{PlainPacket}
use Rattle.up_outside.specs.States.{SinkState}
use Rattle.up_strand.specs.Nodes.{IsTaking, IsSound, IsDone, IsAsPlaced, Seat, NodeStands, is_outlet, is_pipe, is_whole, takes_from}
use Rattle.up_strand.specs.Tree.{AllAt, Pairwise}
use Rattle.up_strand.specs.declared.node.Node.{Node}

-- by the places of the nodes: what they are, what they took, and what has left them
pub record Past : Type 0 where
  pub seats : ℕ → Seat
  pub fed : ℕ → Flow
  pub gone : ℕ → Flow

-- each node has the same input and takers
abbrev pub AreAsPlaced : {P K : Type 0} → List (Node P K) → List (Node P K) → Type 0
AreAsPlaced olds news = Pairwise IsAsPlaced olds news

-- beside a node that gave on what waited there: what takes from it is placed as it was, and what
-- doesn't is the same
pub record IsBeside {P K : Type 0} (well : Bool) (place : ℕ) (old new : Node P K) : Type 0 where
  pub still : takes_from old.input place ≡ false → new ≡ old
  pub placed : IsAsPlaced old new
  pub taking : IsTaking old → IsTaking new
  pub sound : well ≡ true → IsSound old → IsSound new

module _ {P K : Type 0} (plain : P → PlainPacket) (state : K → SinkState) where
  -- each node stands for what it took and what has left it, and what has left a node is what each
  -- of its takers took
  pub record Stand (nodes : List (Node P K)) (past : Past) : Type 0 where
    pub node : (i : ℕ) (d : Node P K) → i < length nodes
        → NodeStands plain state (past.seats i) (slice_index_or nodes i d)
        (past.fed i) (past.gone i)
    pub edge : (i : ℕ) (d : Node P K) (k : ℕ) → i < length nodes
        → takes_from (slice_index_or nodes i d).input k ≡ true → past.fed i ≡ past.gone k

  abbrev pub StandForSome : List (Node P K) → Type 0
  StandForSome nodes = (past : Past) × Stand nodes past

  -- after the past the head took this flow more, and nothing left an outlet
  pub record Went (olds news : List (Node P K)) (past : Past) (more : Flow) : Type 0 where
    pub fed : ℕ → Flow
    pub gone : ℕ → Flow
    pub stand : Stand news (record { seats = past.seats; fed = fed; gone = gone })
    pub head : (i : ℕ) (d : Node P K) → i < length olds
        → (slice_index_or olds i d).input ≡ None → fed i ≡ past.fed i ++ more
    pub outlet : (i : ℕ) (d : Node P K) → i < length olds
        → is_outlet (slice_index_or olds i d).part ≡ true → gone i ≡ past.gone i

  -- whatever the one list of nodes stood for, the other stands for when the head took this flow
  -- more
  abbrev pub StandWith : List (Node P K) → List (Node P K) → Flow → Type 0
  StandWith olds news more = (past : Past) → Stand olds past → Went olds news past more

  -- the node at the place gave packets on
  pub record Passes (well : Bool) (place : ℕ) (olds news : List (Node P K)) : Type 0 where
    pub stand : StandWith olds news []
    pub here : (d : Node P K) → slice_index_or news place d
        ≡ record (slice_index_or olds place d) { out = (slice_index_or news place d).out }
    pub others : (i : ℕ) (d : Node P K) → i < length olds → i ≢ place
        → IsBeside well place (slice_index_or olds i d) (slice_index_or news i d)

  -- the flow of the node at the place came to its whole end, and the node gave on what it owed
  pub record Ends (well : Bool) (place : ℕ) (olds news : List (Node P K)) : Type 0 where
    pub stand : StandWith olds news []
    pub placed : AreAsPlaced olds news
    pub done : well ≡ true → (d : Node P K)
        → IsSound (slice_index_or olds place d) ⊎ IsDone (slice_index_or olds place d)
        → IsDone (slice_index_or news place d)
    pub others : (i : ℕ) (d : Node P K) → i < length olds → i ≢ place
        → IsBeside well place (slice_index_or olds i d) (slice_index_or news i d)

-- every node can be given packets
abbrev pub AreTaking : {P K : Type 0} → List (Node P K) → Type 0
AreTaking nodes = AllAt IsTaking nodes

-- every node's flow goes on, and memory ran out at none
abbrev pub AreSound : {P K : Type 0} → List (Node P K) → Type 0
AreSound nodes = AllAt IsSound nodes

-- every flow came to its whole end, and memory ran out at no node
abbrev pub AreDone : {P K : Type 0} → List (Node P K) → Type 0
AreDone nodes = AllAt IsDone nodes

-- its flow didn't come to its whole end, and memory didn't run out at it
pub record IsUnfinished {P K : Type 0} (node : Node P K) : Type 0 where
  pub long : node.short ≡ false
  pub part : is_whole node.part ≡ false

-- nothing waits at the node, unless it is left there for another strand
abbrev pub IsSettled : {P K : Type 0} → Node P K → Type 0
IsSettled node = is_outlet node.part ≡ false → node.out.packets ≡ []

-- at each node of the one list and of the other this is the same
abbrev pub AreSame : {P K X : Type 0} → (Node P K → X) → List (Node P K) → List (Node P K) → Type 0
AreSame told olds news = Pairwise (λ old new. told new ≡ told old) olds news

abbrev pub IsSettledAt : {P K : Type 0} → ℕ → List (Node P K) → Type 0
IsSettledAt {P} {K} place nodes = (d : Node P K) → IsSettled (slice_index_or nodes place d)

abbrev pub AreSettled : {P K : Type 0} → List (Node P K) → Type 0
AreSettled nodes = AllAt IsSettled nodes

-- how nodes are whose flow goes on or has ended so, by whether memory ran out: nothing waits but
-- for lanes
pub record NodesAre {P K : Type 0} (short : Bool) (ended : Option Outcome)
    (nodes : List (Node P K)) : Type 0 where
  pub settled : AreSettled nodes
  pub going : short ≡ false → ended ≡ None → AreSound nodes
  pub done : short ≡ false → ended ≡ Some outcomes.Whole → AreDone nodes
  pub broken : short ≡ false → (outcome : Outcome) → ended ≡ Some outcome
      → outcome ≢ outcomes.Whole → AllAt IsUnfinished nodes
  -- modules are gone once the flow has ended or memory ran out
  pub gone : (short ≡ true) ⊎ (is_some ended ≡ true)
      → AllAt (λ node. is_pipe node.part ≡ false) nodes
  pub fallen : short ≡ true → AllAt (λ node. node.short ≡ true) nodes
  -- what they owed was put out at a whole end alone
  pub owed : ended ≢ Some outcomes.Whole → AllAt (λ node. is_whole node.part ≡ false) nodes
