-- How the nodes of a tree are once they took a packet, or their flow ended.
use Rattle.std.proofs.Common.{◌≡◌, ◌≢◌, ℕ, ◌<◌, List, ◌++◌, length, take, Bool, true, false, Option, Some, None, refl, sym, ap, ◌∙◌, arith, inl, inr}
use Rattle.std.proofs.lemmas.List.{take-append-le, take_all}
use Rattle.up_model.specs.Packet.{Flow}
use Rattle.up_model.specs.declared.outcome.Outcome.{Outcome}
use Rattle.up_model.specs.declared.outcome.Outcome.TheVariants as outcomes
use Rattle.up_model.specs.declared.plain_packet.PlainPacket.{PlainPacket}
use Rattle.up_outside.specs.States.{SinkState}
use Rattle.up_strand.proofs.Gives.{placed_on}
use Rattle.up_strand.proofs.Lists.{pairs_on}
use Rattle.up_strand.proofs.Passing.{stand_on}
use Rattle.up_strand.proofs.Sweeping.{swept_on}
use Rattle.up_strand.specs.Nodes.{HasGivenUp, IsAsPlaced, is_pipe, is_whole}
use Rattle.up_strand.specs.Stand.{AreAsPlaced, AreDone, AreSame, AreSettled, AreSound, AreTaking, NodesAre, StandForSome}
use Rattle.up_strand.specs.Steps.{IsGoing, TreeTook, WentOn, ended_where}
use Rattle.up_strand.specs.Tree.{AllAt, IsSwept, Pairwise}
use Rattle.up_strand.specs.declared.node.Node.{Node}
use Rattle.up_strand.specs.declared.tree.Tree.{Tree}

module _ {P K : Type 0} where
  -- nodes whose flow goes on can be given packets
  pub are_taking : (short : Bool) (nodes : List (Node P K)) → NodesAre short None nodes → AreTaking nodes
  are_taking true nodes are i d within = record {
    goes_on = are.owed (λ is. absurd (cc)) i d within;
    gone = λ ended. are.fallen refl i d within;
  }
  are_taking false nodes are i d within = record {
    goes_on = are.owed (λ is. absurd (cc)) i d within;
    gone = λ ended. let going = (are.going refl refl i d within).going in let wrong : true ≡ false = sym ended ∙ going in absurd (cc);
  }

  -- memory ran out
  pub are_fallen : (olds news : List (Node P K)) (ended : Option Outcome) → length news ≡ length olds → AreAsPlaced olds news → Pairwise HasGivenUp olds news
      → (ended ≢ Some outcomes.Whole → AreTaking news) → NodesAre true ended news
  are_fallen olds news ended same placed given_up taking = record {
    settled = λ i d within inner.
        let here : i < length olds = omega arith in
        (given_up i d here).settled (sym (placed i d here).outlet ∙ inner);
    going = λ long. absurd (cc);
    done = λ long. absurd (cc);
    broken = λ long. absurd (cc);
    gone = λ either i d within. (given_up i d (omega arith)).gone;
    fallen = λ is i d within. (given_up i d (omega arith)).short;
    owed = λ other i d within. (taking other i d within).goes_on;
  }

  -- the flow goes on
  pub are_going : (nodes : List (Node P K)) → AreSettled nodes → AreSound nodes → AreTaking nodes → NodesAre false None nodes
  are_going nodes settled sound taking = record {
    settled = settled;
    going = λ long none. sound;
    done = λ long is. absurd (cc);
    broken = λ long outcome is. absurd (cc);
    gone = λ either. elim either [ inl wrong ↦ absurd (cc) | inr wrong ↦ absurd (cc) ];
    fallen = λ wrong. absurd (cc);
    owed = λ other i d within. (taking i d within).goes_on;
  }

  -- it came to its whole end
  pub are_done : (nodes : List (Node P K)) → AreSettled nodes → AreDone nodes → NodesAre false (Some outcomes.Whole) nodes
  are_done nodes settled done = record {
    settled = settled;
    going = λ long wrong. absurd (cc);
    done = λ long is. done;
    broken = λ long outcome is other. absurd (other (cc));
    gone = λ either i d within. (done i d within).ended;
    fallen = λ wrong. absurd (cc);
    owed = λ other. absurd (other refl);
  }

  -- it had come to its end for want of memory before
  pub are_over : (ended : Option Outcome) (nodes : List (Node P K)) → NodesAre true None nodes → NodesAre true ended nodes
  are_over ended nodes are = record {
    settled = are.settled;
    going = λ long. absurd (cc);
    done = λ long. absurd (cc);
    broken = λ long. absurd (cc);
    gone = λ either. are.gone (inl refl);
    fallen = are.fallen;
    owed = λ other. are.owed (λ is. absurd (cc));
  }

  -- a block was taken
  pub are_where : (short : Bool) (nodes : List (Node P K)) → NodesAre short None nodes → NodesAre short (ended_where short) nodes
  are_where true nodes are = are_over _ nodes are
  are_where false nodes are = are

  -- the flow was broken off
  pub are_broken : (olds news : List (Node P K)) (short : Bool) (outcome : Outcome) → length news ≡ length olds → AreAsPlaced olds news
      → AllAt (λ node. is_pipe node.part ≡ false) news → AreSame (λ node. node.out) olds news → AreSame (λ node. node.short) olds news
      → AreSame (λ node. is_whole node.part) olds news → outcome ≢ outcomes.Whole → NodesAre short None olds → NodesAre short (Some outcome) news
  are_broken olds news short outcome same placed ended out shorts whole other are = record {
    settled = λ i d within inner.
        let here : i < length olds = omega arith in
        ap (λ o. o.packets) (out i d here) ∙ are.settled i d here (sym (placed i d here).outlet ∙ inner);
    going = λ long wrong. absurd (cc);
    done = λ long is. absurd (other (cc));
    broken = λ long o is differs i d within.
        let here : i < length olds = omega arith in
        record {
          long = shorts i d here ∙ (are.going long refl i d here).long;
          part = whole i d here ∙ are.owed (λ wrong. absurd (cc)) i d here;
        };
    gone = λ either. ended;
    fallen = λ is i d within. let here : i < length olds = omega arith in shorts i d here ∙ are.fallen is i d here;
    owed = λ differs i d within. let here : i < length olds = omega arith in whole i d here ∙ are.owed (λ wrong. absurd (cc)) i d here;
  }

-- a list of the size of a vector that was written back to it
pub as_written : {X : Type 0} (size : ℕ) (written rest : List X) → size ≡ length written → take size (written ++ rest) ≡ written
as_written size written rest is = take-append-le size written rest (omega arith) ∙ take_all size written (omega arith)

module _ {P K : Type 0} (plain : P → PlainPacket) (state : K → SinkState) where
  -- one flow and then another
  pub tree_on : (a b c : Tree P K) (one two : Flow) → TreeTook plain state a b one → TreeTook plain state b c two → TreeTook plain state a c (one ++ two)
  tree_on a b c one two first second = record {
    nodes = record {
      stand = stand_on plain state a.nodes.items b.nodes.items c.nodes.items one two first.nodes.count first.nodes.placed first.nodes.stand second.nodes.stand;
      placed = pairs_on IsAsPlaced IsAsPlaced IsAsPlaced a.nodes.items b.nodes.items c.nodes.items first.nodes.count placed_on first.nodes.placed second.nodes.placed;
      count = second.nodes.count ∙ first.nodes.count;
    };
    order = second.order ∙ first.order;
    stays = λ is. second.stays (first.stays is);
  }

  pub tree_swept : (a b : Tree P K) (more : Flow) → TreeTook plain state a b more → IsSwept a.order.items a.nodes.items → IsSwept b.order.items b.nodes.items
  tree_swept a b more took swept =
      rw took.order (swept_on a.order.items a.nodes.items b.nodes.items took.nodes.count took.nodes.placed swept)

  pub tree_stands : (a b : Tree P K) (more : Flow) → TreeTook plain state a b more → StandForSome plain state a.nodes.items → StandForSome plain state b.nodes.items
  tree_stands a b more took stand = let went = took.nodes.stand stand.0 stand.1 in (_, went.stand)

  -- a tree that went on and whose flow goes on
  pub still_going : {F : Type 0} (fits : P → F → Type 0) (family middle : F) (a b : Tree P K) (more : Flow) → middle ≡ family
      → IsGoing plain state fits family a → WentOn plain state fits family a b more None → IsGoing plain state fits middle b
  still_going fits family middle a b more same going went = record {
    some = rw went.took.order going.some;
    swept = tree_swept a b more went.took going.swept;
    is = went.is;
    stand = tree_stands a b more went.took going.stand;
    fitting = rw same went.fitting;
  }
