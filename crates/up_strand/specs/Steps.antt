-- What the parts of a step of a strand do.
use Rattle.std.specs.Prelude.{◌≡◌, ℕ, ◌<◌, List, [], ◌∷◌, length, Bool, true, false, Option, Some, None}
use Rattle.std.specs.Option.{option_map_or}
use Rattle.up_model.specs.Packet.{Flow}
use Rattle.up_model.specs.declared.outcome.Outcome.{Outcome}
use Rattle.up_model.specs.declared.outcome.Outcome.TheVariants as outcomes
use Rattle.up_model.specs.declared.plain_packet.PlainPacket.{PlainPacket}
use Rattle.up_outside.specs.States.{SinkState}
use Rattle.up_strand.specs.Gifts.{NodesFit}
use Rattle.up_strand.specs.Stand.{NodesAre, StandForSome, StandWith, AreAsPlaced}
use Rattle.up_strand.specs.Strands.{first_ready}
use Rattle.up_strand.specs.Tree.{IsSwept}
use Rattle.up_strand.specs.declared.node.Node.{Node}
use Rattle.up_strand.specs.declared.strand.Strand.{Strand}
use Rattle.up_strand.specs.declared.tree.Tree.{Tree}

abbrev pub TreeIs : {P K : Type 0} → Tree P K → Option Outcome → Type 0
TreeIs tree ended = NodesAre tree.short ended tree.nodes.items

module _ {P K : Type 0} (plain : P → PlainPacket) (state : K → SinkState) where
  -- the nodes took this flow more
  pub record NodesTook (olds news : List (Node P K)) (more : Flow) : Type 0 where
    pub stand : StandWith plain state olds news more
    pub placed : AreAsPlaced olds news
    pub count : length news ≡ length olds

  -- the same of a tree, of which memory that ran out is out
  pub record TreeTook (old new : Tree P K) (more : Flow) : Type 0 where
    pub nodes : NodesTook old.nodes.items new.nodes.items more
    pub order : new.order ≡ old.order
    pub stays : old.short ≡ true → new.short ≡ true

module _ {P K F : Type 0} (plain : P → PlainPacket) (state : K → SinkState)
    (fits : P → F → Type 0) (family : F) where
  -- the flow of the tree goes on: its nodes, which its order sweeps from its head on, stand for
  -- something, and what waits in them is of the family
  pub record IsGoing (tree : Tree P K) : Type 0 where
    pub some : 0 < length tree.order.items
    pub swept : IsSwept tree.order.items tree.nodes.items
    pub is : TreeIs tree None
    pub stand : StandForSome plain state tree.nodes.items
    pub fitting : NodesFit fits family tree.nodes.items

  -- it took this flow more, and its flow goes on or has ended so
  pub record WentOn (old new : Tree P K) (more : Flow) (ended : Option Outcome) : Type 0 where
    pub took : TreeTook plain state old new more
    pub is : TreeIs new ended
    pub fitting : NodesFit fits family new.nodes.items

-- a packet is taken where memory didn't run out
abbrev pub taken_where : Bool → PlainPacket → Flow
taken_where true packet = []
taken_where false packet = packet ∷ []

-- how the flow of a source ended that gave a whole block
abbrev pub ended_where : Bool → Option Outcome
ended_where true = Some outcomes.NoMemory
ended_where false = None

module _ {P S K : Type 0} (strand : Strand P S K) where
  -- the strand from which nothing can come back, and whose first node at which an item waits is
  -- this
  abbrev pub looked_from : ℕ → Strand P S K
  looked_from ready = record strand { last = None; ready = ready }

  -- this holds of it once it has looked for what waits for lanes
  abbrev pub OnceLooked : (Strand P S K → Type 0) → Type 0
  OnceLooked Holds = (ready : ℕ) → ready ≡ option_map_or (λ i. i)
      (first_ready (looked_from ready)) (length strand.tree.nodes.items)
      → Holds (looked_from ready)
