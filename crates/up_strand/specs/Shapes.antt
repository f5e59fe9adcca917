-- The tree of a strand before it has nodes.
use Rattle.std.specs.Prelude.{◌≡◌, ℕ, zero, suc, ◌==◌, ◌<◌, ◌≤◌, ◌++◌, List, length, position, slice_get, slice_index_or, Option, Some, None, option_and_then, true, false, if◌then◌else◌}
use Rattle.std.specs.Option.{option_map_or}
use Rattle.up_model.specs.Inputs.{input_at}
use Rattle.up_model.specs.Plans.{outlets_of, strand_of}
use Rattle.up_model.specs.declared.pipe.Pipe.{Pipe}
use Rattle.up_strand.specs.Nodes.{takes_from}
use Rattle.up_strand.specs.Tree.{IsOrder}
use Rattle.up_strand.specs.declared.node.Takers.{Takers}
use Rattle.up_strand.specs.declared.shape.Shape.{Shape}

-- how many steps along inputs it is from a place to the head, as far as these steps lead
abbrev pub depth_within : ℕ → List Pipe → ℕ → ℕ → ℕ
depth_within zero pipes head place = 0
depth_within (suc steps) pipes head place = if place == head then 0 else option_map_or
    (λ input. suc (depth_within steps pipes head input)) (input_at pipes place) 0

-- the end of a lane is one step further from the head than the pipe that fills it
abbrev pub depth_of : List Pipe → ℕ → ℕ → ℕ
depth_of pipes head place = depth_within (suc (length pipes)) pipes head place

-- the depth of the place of a node
abbrev pub node_depth : List Pipe → ℕ → List ℕ → ℕ → ℕ
node_depth pipes head places node =
    option_map_or (depth_of pipes head) (slice_get places node) 0

-- which of the pipes at these places the pipe at a place takes from
abbrev pub input_among : List Pipe → List ℕ → ℕ → Option ℕ
input_among pipes own place = option_and_then
    (λ input. position (λ other. other == input) own) (input_at pipes place)

-- the same, where the head takes from none
abbrev pub node_input : List Pipe → List ℕ → ℕ → ℕ → Option ℕ
node_input pipes own head place =
    if place == head then None else input_among pipes own place

-- what the node takes from
abbrev pub input_in : List (Option ℕ) → ℕ → Option ℕ
input_in inputs i = slice_index_or inputs i None

-- both take from the place, and none before the first or behind the last does
pub record AreBetweenIn (inputs : List (Option ℕ)) (place : ℕ) (takers : Takers) : Type 0 where
  pub rising : takers.first ≤ takers.last
  pub within : takers.last < length inputs
  pub first : takes_from (input_in inputs takers.first) place ≡ true
  pub last : takes_from (input_in inputs takers.last) place ≡ true
  pub all : (i : ℕ) → i < length inputs → takes_from (input_in inputs i) place ≡ true
      → (takers.first ≤ i) × (i ≤ takers.last)

-- these are the first and last that take from the place, or none does
abbrev pub AreTakersIn : List (Option ℕ) → ℕ → Option Takers → Type 0
AreTakersIn inputs place None =
    (i : ℕ) → i < length inputs → takes_from (input_in inputs i) place ≡ false
AreTakersIn inputs place (Some takers) = AreBetweenIn inputs place takers

module _ (pipes : List Pipe) (head : ℕ) (shape : Shape) where
  abbrev pub place_in : ℕ → ℕ
  place_in i = slice_index_or shape.places.items i 0

  -- the node is the head, or takes from the node of a pipe from whose place its own takes
  abbrev pub IsInputIn : ℕ → Option ℕ → Type 0
  IsInputIn i None = (place_in i ≡ head) × (i < shape.pipes)
  IsInputIn i (Some k) = (k < shape.pipes) × (input_at pipes (place_in i) ≡ Some (place_in k))

  -- the shape is that of the strand of the head
  pub record IsShapeOf : Type 0 where
    pub places : shape.places.items ≡ strand_of pipes head ++ outlets_of pipes head
    pub pipes_of : shape.pipes ≡ length (strand_of pipes head)
    pub apart : (i j : ℕ) → i < length shape.places.items → j < length shape.places.items
        → place_in i ≡ place_in j → i ≡ j
    pub inputs_of : length shape.inputs.items ≡ length shape.places.items
    pub input : (i : ℕ) → i < length shape.places.items
        → IsInputIn i (input_in shape.inputs.items i)
    pub lanes : (i : ℕ) → i < length shape.places.items → shape.pipes ≤ i
        → (k : ℕ) × (input_in shape.inputs.items i ≡ Some k)
    pub takers_of : length shape.takers.items ≡ length shape.places.items
    pub takers : (k : ℕ) → k < length shape.places.items
        → AreTakersIn shape.inputs.items k (slice_index_or shape.takers.items k None)
    pub rank : ℕ → ℕ
    pub rises : (i k : ℕ) → i < length shape.places.items
        → input_in shape.inputs.items i ≡ Some k → rank k < rank i
    pub order : IsOrder rank (length shape.places.items) shape.order.items
    -- the head comes first
    pub some : 0 < length shape.order.items
    pub first : (d : ℕ) → input_in shape.inputs.items (slice_index_or shape.order.items 0 d) ≡ None
    pub one_head : (i : ℕ) → i < length shape.places.items
        → input_in shape.inputs.items i ≡ None → (d : ℕ) → slice_index_or shape.order.items 0 d ≡ i
