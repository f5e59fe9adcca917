-- A packet that goes to every node that takes what one node puts out.
use Rattle.std.specs.Prelude.{◌≡◌, List, [], Bool, true, ℕ, Option, if◌then◌else◌}
use Rattle.up_model.specs.Packet.{Flow}
use Rattle.up_model.specs.declared.plain_packet.PlainPacket.{PlainPacket}
use Rattle.up_outside.specs.States.{SinkState}
use Rattle.up_strand.specs.Nodes.{IsTaking, IsSound, IsAsPlaced, NodeFits, Took, takes_from}
use Rattle.up_strand.specs.Tree.{AllAt, Pairwise}
use Rattle.up_strand.specs.declared.node.Node.{Node}

-- what a node with this input takes of the flow that the node at the place puts out
abbrev pub share : Option ℕ → ℕ → Flow → Flow
share input place flow = if takes_from input place then flow else []

module _ {P K : Type 0} (plain : P → PlainPacket) (state : K → SinkState) (well : Bool) where
  -- the node took these packets more, is the same where they are none, and goes on as it was where
  -- all went well
  pub record Given (old new : Node P K) (more : Flow) : Type 0 where
    pub took : Took plain state old new more
    pub still : more ≡ [] → new ≡ old
    pub placed : IsAsPlaced old new
    pub taking : IsTaking old → IsTaking new
    pub sound : well ≡ true → IsSound old → IsSound new

  -- each node took its share of the flow
  abbrev pub Gave : ℕ → Flow → List (Node P K) → List (Node P K) → Type 0
  Gave place flow olds news =
      Pairwise (λ old new. Given old new (share old.input place flow)) olds news

-- the nodes that take from the place can be given packets
abbrev pub AreReady : {P K : Type 0} → ℕ → List (Node P K) → Type 0
AreReady place nodes = AllAt (λ node. takes_from node.input place ≡ true → IsTaking node) nodes

-- what waits in the nodes is of the family
abbrev pub NodesFit : {P K F : Type 0} → (P → F → Type 0) → F → List (Node P K) → Type 0
NodesFit fits family nodes = AllAt (λ node. NodeFits fits node family) nodes
