-- The nodes of a strand that are swept in their order.
use Rattle.std.proofs.Common.{◌≡◌, ◌≢◌, ℕ, ◌+◌, ◌<◌, ◌≤◌, List, [], ◌++◌, length, set, get_or, Bool, true, false, Option, Some, None, refl, sym, ap, ◌∙◌, subst, append-nil, arith, inl, inr}
use Rattle.std.proofs.lemmas.Bool.{cases_lt}
use Rattle.std.proofs.lemmas.Bool.Decides.{eqb_tells}
use Rattle.std.proofs.lemmas.List.{get_or-set_same, get_or-set_other, get_or_default, length-set}
use Rattle.up_model.specs.Packet.{Flow}
use Rattle.up_model.specs.declared.plain_packet.PlainPacket.{PlainPacket}
use Rattle.up_outside.specs.States.{SinkState}
use Rattle.up_strand.proofs.Gives.{placed_itself}
use Rattle.up_strand.proofs.Lists.{pairs_set}
use Rattle.up_strand.proofs.Passing.{untaken, with_flow, with_flow-same, with_flow-other, takers_same}
use Rattle.up_strand.specs.Gifts.{AreReady}
use Rattle.up_strand.specs.Nodes.{IsTaking, IsSound, IsAsPlaced, NodeStands, Took, takes_from}
use Rattle.up_strand.specs.Stand.{StandWith, Passes, AreAsPlaced, AreTaking, AreSound, IsSettled, IsSettledAt}
use Rattle.up_strand.specs.Tree.{IsTree, IsSwept}
use Rattle.up_strand.specs.declared.node.Node.{Node}

-- it takes from itself, if from anybody
takes_its_input : (input : Option ℕ) → ((place : ℕ) → takes_from input place ≡ true → ⊥) → input ≡ None
takes_its_input None never = refl
takes_its_input (Some k) never = elim (eqb_tells k k) [ inl same ↦ absurd (never k same.0) | inr other ↦ absurd (other.1 refl) ]

module _ {P K : Type 0} where
  -- the nodes are still a tree
  pub tree_on : (rank : ℕ → ℕ) (olds news : List (Node P K)) → length news ≡ length olds → AreAsPlaced olds news → IsTree rank olds → IsTree rank news
  tree_on rank olds news same placed tree = record {
    inputs = λ i d place within takes.
        let before = tree.inputs i d place (omega arith) (rw (← (placed i d (omega arith)).input) takes) in
        (omega (arith, before.0), before.1);
    takers = λ place d within.
        let inside : place < length olds = omega arith in
        rw (placed place d inside).takers (takers_same place olds news _ same placed (tree.takers place d inside));
  }

  pub swept_on : (order : List ℕ) (olds news : List (Node P K)) → length news ≡ length olds → AreAsPlaced olds news → IsSwept order olds → IsSwept order news
  swept_on order olds news same placed swept = record {
    rank = swept.rank;
    tree = tree_on swept.rank olds news same placed swept.tree;
    sweeps = rw same swept.sweeps;
    head = λ i d within none. swept.head i d (omega arith) (sym (placed i d (omega arith)).input ∙ none);
  }

  -- the nodes that take from a place can be given packets where all can
  pub all_ready : (place : ℕ) (nodes : List (Node P K)) → AreTaking nodes → AreReady place nodes
  all_ready place nodes taking i d within takes = taking i d within

  -- the first node of the order takes from none
  pub head_untaken : (order : List ℕ) (nodes : List (Node P K)) (e : ℕ) (d : Node P K) → 0 < length order → IsSwept order nodes
      → (place : ℕ) → takes_from (get_or nodes (get_or order 0 e) d).input place ≡ false
  head_untaken order nodes e d some swept place =
      let first : get_or order 0 e < length nodes = swept.sweeps.within 0 e some in
      untaken (takes_from (get_or nodes (get_or order 0 e) d).input place) (λ takes.
      let less = swept.tree.inputs (get_or order 0 e) d place first takes in
      let at = swept.sweeps.all place less.0 in
      let upto : swept.rank (get_or order 0 e) ≤ swept.rank place =
      subst (λ (n : ℕ). swept.rank (get_or order 0 e) ≤ swept.rank n) (at.2 e) (swept.sweeps.rising 0 at.0 e (omega arith) at.1) in
      absurd (let behind = less.1 in omega arith))

  -- a node that was swept doesn't take from the one that is swept now
  pub swept_untaken : (order : List ℕ) (nodes : List (Node P K)) → IsSwept order nodes → (k l e : ℕ) (d : Node P K) → k ≤ l → l < length order
      → takes_from (get_or nodes (get_or order k e) d).input (get_or order l e) ≡ false
  swept_untaken order nodes swept k l e d before within =
      untaken (takes_from (get_or nodes (get_or order k e) d).input (get_or order l e)) (λ takes.
      let less = (swept.tree.inputs (get_or order k e) d (get_or order l e) (swept.sweeps.within k e (omega arith)) takes).1 in
      let upto = swept.sweeps.rising k l e before within in
      absurd (omega arith))

module _ {P K : Type 0} (plain : P → PlainPacket) (state : K → SinkState) (place : ℕ) (olds news : List (Node P K)) (same : length news ≡ length olds) where
  -- all can still be given packets
  pub taking_passed : (well : Bool) → Passes plain state well place olds news → AreTaking olds → AreTaking news
  taking_passed well passed taking i d within =
      let inside : i < length olds = omega arith in
      elim (eqb_tells i place) [
        | inl is ↦
            let before : IsTaking (get_or olds place d) = subst (λ (n : ℕ). IsTaking (get_or olds n d)) is.1 (taking i d inside) in
            let here : IsTaking (get_or news place d) = rw (passed.here d) (record { goes_on = before.goes_on; gone = before.gone }) in
            subst (λ (n : ℕ). IsTaking (get_or news n d)) (sym is.1) here
        | inr other ↦ (passed.others i d inside other.1).taking (taking i d inside)
      ]

  -- all go on where all went well
  pub sound_passed : Passes plain state true place olds news → AreSound olds → AreSound news
  sound_passed passed sound i d within =
      let inside : i < length olds = omega arith in
      elim (eqb_tells i place) [
        | inl is ↦
            let before : IsSound (get_or olds place d) = subst (λ (n : ℕ). IsSound (get_or olds n d)) is.1 (sound i d inside) in
            let here : IsSound (get_or news place d) = rw (passed.here d) (record { long = before.long; going = before.going }) in
            subst (λ (n : ℕ). IsSound (get_or news n d)) (sym is.1) here
        | inr other ↦ (passed.others i d inside other.1).sound refl (sound i d inside)
      ]

  -- nothing waits at the nodes that were swept, nor at the one that is swept now
  pub settled_passed : (order : List ℕ) (k e0 : ℕ) → IsSwept order olds → k < length order → get_or order k e0 ≡ place
      → ((i : ℕ) (d : Node P K) → i < length olds → i ≢ place → takes_from (get_or olds i d).input place ≡ false → get_or news i d ≡ get_or olds i d)
      → ((l : ℕ) (d : Node P K) (e : ℕ) → l < k → IsSettled (get_or olds (get_or order l e) d)) → IsSettledAt place news
      → (l : ℕ) (d : Node P K) (e : ℕ) → l < k + 1 → IsSettled (get_or news (get_or order l e) d)
  settled_passed order k e0 swept within at still before here l d e below =
      let i = get_or order l e in
      let now : (m : ℕ) → get_or order k m ≡ place = λ m. get_or_default order k m e0 within ∙ at in
      elim (cases_lt l k) [
        | inl earlier ↦ elim (eqb_tells i place) [
          | inl is ↦ subst (λ (n : ℕ). IsSettled (get_or news n d)) (sym is.1) (here d)
          | inr other ↦
              let inside : i < length olds = swept.sweeps.within l e (omega arith) in
              let none : takes_from (get_or olds i d).input place ≡ false =
              subst (λ (n : ℕ). takes_from (get_or olds i d).input n ≡ false) (now e) (swept_untaken order olds swept l k e d (omega arith) within) in
              rw (still i d inside other.1 none) (before l d e earlier)
        ]
        | inr later ↦
            let is : i ≡ place = ap (λ m. get_or order m e) (let same_k : l ≡ k = omega arith in same_k) ∙ now e in
            subst (λ (n : ℕ). IsSettled (get_or news n d)) (sym is) (here d)
      ]

module _ {P K : Type 0} (plain : P → PlainPacket) (state : K → SinkState) (nodes : List (Node P K)) (place : ℕ) (e y : Node P K)
    (within : place < length nodes) (placed : IsAsPlaced (get_or nodes place e) y) where
  pub placed_set : AreAsPlaced nodes (set nodes place y)
  placed_set = pairs_set IsAsPlaced nodes place y e within placed_itself placed

  -- the nodes stand as before when one takes a step in which it takes nothing
  pub stand_stepped : Took plain state (get_or nodes place e) y [] → StandWith plain state nodes (set nodes place y) []
  stand_stepped took past stood = record {
    fed = past.fed;
    gone = past.gone;
    stand = record {
      node = λ i d inside.
          let inner : i < length nodes = omega (arith, length-set {A = Node P K}) in
          let Stands : ℕ → Node P K → Type 0 = λ n node. NodeStands plain state (past.seats n) node (past.fed n) (past.gone n) in
          elim (eqb_tells i place) [
            | inl is ↦
                let now = took (past.seats place) (past.fed place) (past.gone place) (stood.node place e within) in
                let here : Stands place y =
                subst (λ (f : Flow). NodeStands plain state (past.seats place) y f (past.gone place)) (append-nil (past.fed place)) now in
                let there : Stands place (get_or (set nodes place y) place d) = subst (Stands place) (sym (get_or-set_same nodes place y d within)) here in
                subst (λ (n : ℕ). Stands n (get_or (set nodes place y) n d)) (sym is.1) there
            | inr other ↦ subst (Stands i) (sym (get_or-set_other nodes place i y d other.1)) (stood.node i d inner)
          ];
      edge = λ i d k inside takes.
          let inner : i < length nodes = omega (arith, length-set {A = Node P K}) in
          stood.edge i d k inner (rw (← (placed_set i d inner).input) takes);
    };
    head = λ i d inside none. sym (append-nil (past.fed i));
    outlet = λ i d inside is. refl;
  }

  -- the head takes more
  pub stand_head : (more : Flow) → Took plain state (get_or nodes place e) y more
      → ((k : ℕ) → takes_from (get_or nodes place e).input k ≡ false)
      → ((i : ℕ) (d : Node P K) → i < length nodes → (get_or nodes i d).input ≡ None → i ≡ place)
      → StandWith plain state nodes (set nodes place y) more
  stand_head more took free one past stood =
      let fed : ℕ → Flow = with_flow past.fed place (past.fed place ++ more) in
      let head : fed place ≡ past.fed place ++ more = with_flow-same past.fed place (past.fed place ++ more) in
      let other : (i : ℕ) → i ≢ place → fed i ≡ past.fed i = with_flow-other past.fed place (past.fed place ++ more) in
      record {
        fed = fed;
        gone = past.gone;
        stand = record {
          node = λ i d inside.
              let inner : i < length nodes = omega (arith, length-set {A = Node P K}) in
              let Stands : ℕ → Node P K → Type 0 = λ n node. NodeStands plain state (past.seats n) node (fed n) (past.gone n) in
              elim (eqb_tells i place) [
                | inl is ↦
                    let now = took (past.seats place) (past.fed place) (past.gone place) (stood.node place e within) in
                    let here : Stands place y = subst (λ (f : Flow). NodeStands plain state (past.seats place) y f (past.gone place)) (sym head) now in
                    let there : Stands place (get_or (set nodes place y) place d) = subst (Stands place) (sym (get_or-set_same nodes place y d within)) here in
                    subst (λ (n : ℕ). Stands n (get_or (set nodes place y) n d)) (sym is.1) there
                | inr differs ↦
                    let same : NodeStands plain state (past.seats i) (get_or nodes i d) (fed i) (past.gone i) =
                    subst (λ (f : Flow). NodeStands plain state (past.seats i) (get_or nodes i d) f (past.gone i)) (sym (other i differs.1)) (stood.node i d inner) in
                    subst (Stands i) (sym (get_or-set_other nodes place i y d differs.1)) same
              ];
          edge = λ i d k inside takes.
              let inner : i < length nodes = omega (arith, length-set {A = Node P K}) in
              let before : takes_from (get_or nodes i d).input k ≡ true = rw (← (placed_set i d inner).input) takes in
              elim (eqb_tells i place) [
                | inl is ↦ absurd (let wrong : true ≡ false =
                    sym before ∙ ap (λ n. takes_from (get_or nodes n d).input k) is.1 ∙ ap (λ (n : Node P K). takes_from n.input k) (get_or_default nodes place d e within) ∙ free k in cc)
                | inr differs ↦ other i differs.1 ∙ stood.edge i d k inner before
              ];
        };
        head = λ i d inside none.
            let is : i ≡ place = one i d inside none in
            subst (λ (n : ℕ). fed n ≡ past.fed n ++ more) (sym is) head;
        outlet = λ i d inside is. refl;
      }
