-- The nodes of a strand as pipes of a graph, and what they are to have taken and put out.
use Rattle.std.specs.Prelude.{◌≡◌, ℕ, ◌<◌, List, length, slice_get, slice_index_or, Bool, true, false, Option, Some, None}
use Rattle.std.specs.Io.KnownBytes.{Appends}
use Rattle.std.specs.Option.{IsSome}
use Rattle.up_model.specs.Inputs.{reached}
use Rattle.up_base.specs.Lists.{IsPrefix}
use Rattle.up_model.specs.Kinds.{module_kind}
use Rattle.up_model.specs.Meaning.{Doing, Feeding, is_fed_by, selected, flow_by, pipe_work, input_by, bytes_by}
use Rattle.up_model.specs.Packet.{Flow}
use Rattle.up_model.specs.Tallies.{IsAtMost, stopped}
use Rattle.up_model.specs.declared.pipe.Pipe.{Pipe}
use Rattle.up_outside.specs.States.{SinkState}
use Rattle.up_strand.specs.Nodes.{Seat, is_outlet, takes_from}
use Rattle.up_strand.specs.Stand.{Past}
use Rattle.up_strand.specs.declared.node.Node.{Node}
use Rattle.up_strand.specs.declared.node.Part.TheVariants.{Sink}
use Rattle.up_strand.specs.declared.spelling.Spelling.{Spelling}

module _ (pipes : List Pipe) (places : ℕ → ℕ) where
  -- the pipe takes from the pipe of the node from which its own node takes; what the head of a
  -- strand takes is told elsewhere
  abbrev pub IsInputOf : Option ℕ → Pipe → Type 0
  IsInputOf None pipe = Unit {0}
  IsInputOf (Some k) pipe = pipe.input ≡ Some (places k)

  -- the pipe at the place is that of the node, whose module has the kind that the pipe's consumers
  -- ask for
  pub record IsNodeOf (place : ℕ) (seat : Seat) (input : Option ℕ) : Type 0 where
    pub pipe : Pipe
    pub there : slice_get pipes place ≡ Some pipe
    pub kind : seat.kind ≡ Some (module_kind (selected pipes place) pipe.kind)
    pub input_of : IsInputOf input pipe

  -- each node but an outlet is the pipe at its place, and no node takes from an outlet
  pub record AreNodesOf {P K : Type 0} (nodes : List (Node P K)) (past : Past) : Type 0 where
    pub each : (i : ℕ) (d : Node P K) → i < length nodes
        → is_outlet (slice_index_or nodes i d).part ≡ false
        → IsNodeOf (places i) (past.seats i) (slice_index_or nodes i d).input
    pub inner : (i k : ℕ) (d : Node P K) → i < length nodes
        → takes_from (slice_index_or nodes i d).input k ≡ true
        → is_outlet (slice_index_or nodes k d).part ≡ false

module _ (does : Doing) (pipes : List Pipe) (given : Feeding) where
  -- something is fed from which each node's pipe is reached, nothing to a pipe behind the head, and
  -- what the head took is so told by what its pipe takes
  pub record AreFedAs {P K : Type 0} (IsTold : Flow → Flow → Type 0) (places : ℕ → ℕ)
      (nodes : List (Node P K)) (past : Past) : Type 0 where
    pub reaches : (i : ℕ) (d : Node P K) → i < length nodes
        → is_outlet (slice_index_or nodes i d).part ≡ false
        → IsSome (reached (is_fed_by given) pipes (places i))
    pub behind : (i k : ℕ) (d : Node P K) → i < length nodes
        → is_outlet (slice_index_or nodes i d).part ≡ false
        → takes_from (slice_index_or nodes i d).input k ≡ true → given (places i) ≡ None
    pub head : (i : ℕ) (d : Node P K) (pipe : Pipe) → i < length nodes
        → (slice_index_or nodes i d).input ≡ None → slice_get pipes (places i) ≡ Some pipe
        → IsTold (past.fed i) (input_by does pipes given (places i) pipe)

  -- the head took all that its pipe takes, or the first packets of it
  abbrev pub AreFed : {P K : Type 0} → (ℕ → ℕ) → List (Node P K) → Past → Type 0
  AreFed places nodes past = AreFedAs (λ took takes. took ≡ takes) places nodes past

  abbrev pub AreFedInPart : {P K : Type 0} → (ℕ → ℕ) → List (Node P K) → Past → Type 0
  AreFedInPart places nodes past = AreFedAs IsPrefix places nodes past

  module _ {P K : Type 0} (state : K → SinkState) (places : ℕ → ℕ) where
    -- the nodes put out and counted what the graph says, each outlet was given what its input put
    -- out, and each sink that works was given its bytes
    pub record IsReached (nodes : List (Node P K)) (past : Past) : Type 0 where
      pub put : (i : ℕ) (d : Node P K) → i < length nodes
          → is_outlet (slice_index_or nodes i d).part ≡ false
          → past.gone i ≡ flow_by does pipes given (places i)
      pub outlets : (i k : ℕ) (d : Node P K) → i < length nodes
          → takes_from (slice_index_or nodes i d).input k ≡ true
          → past.fed i ≡ flow_by does pipes given (places k)
      pub sums : (i : ℕ) (d : Node P K) → i < length nodes
          → is_outlet (slice_index_or nodes i d).part ≡ false
          → (slice_index_or nodes i d).out.tally
          ≡ stopped (pipe_work does pipes given (places i)).tally
      pub sinks : (i : ℕ) (d : Node P K) (sink : K) (spelling : Spelling) (pipe : Pipe)
          → i < length nodes
          → (slice_index_or nodes i d).part ≡ Sink sink spelling false
          → slice_get pipes (places i) ≡ Some pipe
          → Appends (past.seats i).start.written (state sink).written
          (bytes_by does pipes given (places i) pipe)

    -- what has left each node is a prefix of what the graph says, no node counted more than that,
    -- each outlet was given a prefix of what its input is to put out, and each sink, also one that
    -- failed or at which memory ran out, a prefix of its bytes
    pub record IsReachedInPart (nodes : List (Node P K)) (past : Past) : Type 0 where
      pub put : (i : ℕ) (d : Node P K) → i < length nodes
          → is_outlet (slice_index_or nodes i d).part ≡ false
          → IsPrefix (past.gone i) (flow_by does pipes given (places i))
      pub outlets : (i k : ℕ) (d : Node P K) → i < length nodes
          → takes_from (slice_index_or nodes i d).input k ≡ true
          → IsPrefix (past.fed i) (flow_by does pipes given (places k))
      pub sums : (i : ℕ) (d : Node P K) → i < length nodes
          → is_outlet (slice_index_or nodes i d).part ≡ false
          → IsAtMost (slice_index_or nodes i d).out.tally
          (stopped (pipe_work does pipes given (places i)).tally)
      pub sinks : (i : ℕ) (d : Node P K) (sink : K) (spelling : Spelling) (failed : Bool)
          (pipe : Pipe) → i < length nodes
          → (slice_index_or nodes i d).part ≡ Sink sink spelling failed
          → slice_get pipes (places i) ≡ Some pipe
          → (put : List ℕ) × Appends (past.seats i).start.written (state sink).written put
          × IsPrefix put (bytes_by does pipes given (places i) pipe)
