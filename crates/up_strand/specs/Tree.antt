-- The tree of a strand's nodes, and the order in which they are swept.
use Rattle.std.specs.Prelude.{◌≡◌, ℕ, ◌<◌, ◌≤◌, List, length, slice_index_or, true, false, Option, None, Some}
use Rattle.up_strand.specs.Nodes.{takes_from}
use Rattle.up_strand.specs.declared.node.Node.{Node}
use Rattle.up_strand.specs.declared.node.Takers.{Takers}

-- this holds of the item at each place; the default stands for none of them
abbrev pub AllAt : {X : Type 0} → (X → Type 0) → List X → Type 0
AllAt {X} Holds items = (i : ℕ) (d : X) → i < length items → Holds (slice_index_or items i d)

-- this holds of the items at each place of two lists
abbrev pub Pairwise : {X : Type 0} → (X → X → Type 0) → List X → List X → Type 0
Pairwise {X} Holds olds news =
    (i : ℕ) (d : X) → i < length olds → Holds (slice_index_or olds i d) (slice_index_or news i d)

-- whether the node at one place takes what the node at the other puts out
abbrev pub TakesAt : {P K : Type 0} → List (Node P K) → ℕ → ℕ → Type 0
TakesAt {P} {K} nodes i place =
    (d : Node P K) → takes_from (slice_index_or nodes i d).input place ≡ true

-- both take from the place, and no node before the first or behind the last does
pub record AreBetween {P K : Type 0} (place : ℕ) (nodes : List (Node P K))
    (takers : Takers) : Type 0 where
  pub rising : takers.first ≤ takers.last
  pub within : takers.last < length nodes
  pub first : TakesAt nodes takers.first place
  pub last : TakesAt nodes takers.last place
  pub all : (i : ℕ) (d : Node P K) → i < length nodes
      → takes_from (slice_index_or nodes i d).input place ≡ true
      → (takers.first ≤ i) × (i ≤ takers.last)

-- they are the first and last node that take from the place, or none does
abbrev pub AreTakers : {P K : Type 0} → ℕ → List (Node P K) → Option Takers → Type 0
AreTakers place nodes None = AllAt (λ node. takes_from node.input place ≡ false) nodes
AreTakers place nodes (Some takers) = AreBetween place nodes takers

-- each node takes from one of less rank, and knows its takers
pub record IsTree {P K : Type 0} (rank : ℕ → ℕ) (nodes : List (Node P K)) : Type 0 where
  pub inputs : (i : ℕ) (d : Node P K) (place : ℕ) → i < length nodes
      → takes_from (slice_index_or nodes i d).input place ≡ true
      → (place < length nodes) × (rank place < rank i)
  pub takers : (place : ℕ) (d : Node P K) → place < length nodes
      → AreTakers place nodes (slice_index_or nodes place d).takers

abbrev pub HasTree : {P K : Type 0} → List (Node P K) → Type 0
HasTree nodes = (rank : ℕ → ℕ) × IsTree rank nodes

-- the order names the node at each place once, and ranks don't fall along it
pub record IsOrder (rank : ℕ → ℕ) (count : ℕ) (order : List ℕ) : Type 0 where
  pub once : length order ≡ count
  pub within : AllAt (λ place. place < count) order
  pub all : (place : ℕ) → place < count
      → (k : ℕ) × (k < length order) × ((d : ℕ) → slice_index_or order k d ≡ place)
  pub rising : (k l d : ℕ) → k ≤ l → l < length order
      → rank (slice_index_or order k d) ≤ rank (slice_index_or order l d)

-- the nodes are a tree, which this order sweeps from its head on; the head alone takes from no node
pub record IsSwept {P K : Type 0} (order : List ℕ) (nodes : List (Node P K)) : Type 0 where
  pub rank : ℕ → ℕ
  pub tree : IsTree rank nodes
  pub sweeps : IsOrder rank (length nodes) order
  pub head : (i : ℕ) (d : Node P K) → i < length nodes
      → (slice_index_or nodes i d).input ≡ None → (e : ℕ) → slice_index_or order 0 e ≡ i
