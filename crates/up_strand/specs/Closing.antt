-- What is taken out of the nodes of a strand that is given up.
use Rattle.std.specs.Prelude.{◌≡◌, ℕ, ◌<◌, ◌≤◌, List, [], ◌∷◌, length, map, take, slice_index_or, false}
use Rattle.std.specs.List.{flat_map}
use Rattle.up_model.specs.Tallies.{uncaught}
use Rattle.up_model.specs.declared.catch_set.CatchSet.{CatchSet}
use Rattle.up_model.specs.declared.outcome.Outcome.{Outcome}
use Rattle.up_model.specs.declared.tally.Tally.{Tally}
use Rattle.up_strand.specs.History.{told_at_last}
use Rattle.up_strand.specs.Nodes.{holds_sink}
use Rattle.up_strand.specs.Strands.{outcome_of_part}
use Rattle.up_strand.specs.declared.closing.Ending.{Ending}
use Rattle.up_strand.specs.declared.closing.Told.{Told}
use Rattle.up_strand.specs.declared.node.Node.{Node}
use Rattle.up_strand.specs.declared.node.Part.{Part}
use Rattle.up_strand.specs.declared.node.Part.TheVariants.{Sink}

-- the sink of a node that is one
abbrev pub sinks_in : {K : Type 0} → Part K → List K
sinks_in (Sink sink spelling failed) = sink ∷ []
sinks_in part = []

-- the outcome of the pipe at a node
abbrev pub outcome_at : {P K : Type 0} → Ending → Node P K → Outcome
outcome_at ending node =
    told_at_last ending.done (outcome_of_part node.part ending.short ending.ended)

-- the sinks of some nodes
abbrev pub sinks_of_nodes : {P K : Type 0} → List (Node P K) → List K
sinks_of_nodes nodes = flat_map (λ node. sinks_in node.part) nodes

pub record HasSameRooms {K : Type 0} (old new : Told K) : Type 0 where
  pub outcomes : new.outcomes.room ≡ old.outcomes.room
  pub tallies : new.tallies.room ≡ old.tallies.room
  pub sinks : new.sinks.room ≡ old.sinks.room

-- nothing was told
pub record HasNone {K : Type 0} (told : Told K) : Type 0 where
  pub outcomes : told.outcomes.items ≡ []
  pub tallies : told.tallies.items ≡ []
  pub sinks : told.sinks.items ≡ []

module _ {P K : Type 0} where
  -- all can be told of as many of the nodes as catch something
  pub record HasRoomsFor (caught : List CatchSet) (nodes : List (Node P K)) (told : Told K)
      : Type 0 where
    pub outcomes : length caught ≤ told.outcomes.room
    pub tallies : length caught ≤ told.tallies.room
    pub sinks : length (sinks_of_nodes (take (length caught) nodes)) ≤ told.sinks.room

  -- it was told of so many of the nodes
  pub record AreToldFirst (count : ℕ) (ending : Ending) (caught : List CatchSet)
      (nodes : List (Node P K)) (told : Told K) : Type 0 where
    pub outcomes : told.outcomes.items ≡ map (outcome_at ending) (take count nodes)
    pub tallies : (i : ℕ) (d : Node P K) (c : CatchSet) (t : Tally) → i < count
        → slice_index_or told.tallies.items i t
        ≡ uncaught (slice_index_or caught i c) (slice_index_or nodes i d).out.tally
    pub count_of : length told.tallies.items ≡ count
    pub sinks : told.sinks.items ≡ sinks_of_nodes (take count nodes)

  abbrev pub AreTold : Ending → List CatchSet → List (Node P K) → Told K → Type 0
  AreTold ending caught nodes told = AreToldFirst (length caught) ending caught nodes told

  -- so many of the nodes hold no sink any more, and the others are the same
  pub record AreWithoutSinks (count : ℕ) (olds news : List (Node P K)) : Type 0 where
    pub none : (i : ℕ) (d : Node P K) → i < count
        → holds_sink (slice_index_or news i d).part ≡ false
    pub rest : (i : ℕ) (d : Node P K) → count ≤ i
        → slice_index_or news i d ≡ slice_index_or olds i d
    pub out : (i : ℕ) (d : Node P K)
        → (slice_index_or news i d).out ≡ (slice_index_or olds i d).out
