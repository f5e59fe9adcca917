-- A node that gives on what waits there, a packet at a time.
use Rattle.std.proofs.Common.{◌≡◌, ◌≢◌, ℕ, ◌<◌, List, [], ◌∷◌, ◌++◌, length, set, get_or, map, All, Bool, true, false, Option, Some, None, refl, sym, ap, ◌∙◌, subst, append-nil, append_assoc, arith, slice_get, inl, inr, if◌then◌else◌}
use Rattle.std.specs.Prelude.{IfSome}
use Rattle.std.proofs.Math.Dec.{eqb}
use Rattle.std.proofs.lemmas.Bool.Decides.{eqb_tells}
use Rattle.std.proofs.lemmas.List.{get_or-set_same, get_or-set_other, get_or_default, length-set, set-get_or}
use Rattle.std.proofs.lemmas.List.Elements.{All-nil, All-cons, All-head, All-tail}
use Rattle.std.proofs.lemmas.Option.{slice_get-get_or}
use Rattle.up_model.proofs.LegalFlows.{so_far_keeps, wholly_keeps}
use Rattle.up_model.specs.Kinds.{IsWithinBounds}
use Rattle.up_model.specs.Packet.{Flow, IsLegal}
use Rattle.up_model.specs.declared.kind.Kind.{Kind}
use Rattle.up_model.specs.declared.kind.Kind.TheVariants as kinds
use Rattle.up_model.specs.Tallies.{IsAtMost, stopped}
use Rattle.up_model.specs.declared.plain_packet.PlainPacket.{PlainPacket}
use Rattle.up_model.specs.declared.tally.Tally.{Tally}
use Rattle.up_outside.specs.States.{SinkState}
use Rattle.up_shape.specs.Outgoing.{Outgoing}
use Rattle.up_strand.proofs.Gives.{share_none, share_all, placed_itself, placed_on}
use Rattle.up_strand.specs.Gifts.{Given, Gave, AreReady, share}
use Rattle.up_strand.specs.Nodes.{IsAsPlaced, NodeStands, Seat, node_work, is_outlet, is_whole, takes_from}
use Rattle.up_strand.specs.Stand.{Past, Stand, StandWith, Passes, AreAsPlaced}
use Rattle.up_strand.specs.Tree.{AreTakers, HasTree}
use Rattle.up_strand.specs.Waiting.{waiting_at}
use Rattle.up_strand.specs.declared.node.Node.{Node}
use Rattle.up_strand.specs.declared.node.Takers.{Takers}

-- what a node can't take it doesn't
pub untaken : (takes : Bool) → (takes ≡ true → ⊥) → takes ≡ false
untaken true never = absurd (never refl)
untaken false never = refl

-- a node doesn't take what it puts out
pub never_itself : {P K : Type 0} (nodes : List (Node P K)) (place : ℕ) (d : Node P K) → place < length nodes → HasTree nodes
    → takes_from (get_or nodes place d).input place ≡ false
never_itself nodes place d within tree =
    untaken (takes_from (get_or nodes place d).input place) (λ takes. let less = (tree.1.inputs place d place within takes).1 in absurd (omega arith))

-- the flow at one place is another
pub with_flow : (ℕ → Flow) → ℕ → Flow → ℕ → Flow
with_flow flows place flow i = if eqb i place then flow else flows i

pub with_flow-same : (flows : ℕ → Flow) (place : ℕ) (flow : Flow) → with_flow flows place flow place ≡ flow
unfolding with_flow
with_flow-same flows place flow =
    elim (eqb_tells place place) [
      | inl same ↦ rw same.0 refl
      | inr other ↦ absurd (other.1 refl)
    ]

pub with_flow-other : (flows : ℕ → Flow) (place : ℕ) (flow : Flow) (i : ℕ) → i ≢ place → with_flow flows place flow i ≡ flows i
unfolding with_flow
with_flow-other flows place flow i differs =
    elim (eqb_tells i place) [
      | inl same ↦ absurd (differs same.1)
      | inr other ↦ rw other.0 refl
    ]

-- a node takes from one place alone
takes_one : (input : Option ℕ) (k place : ℕ) → takes_from input k ≡ true → k ≢ place → takes_from input place ≡ false
takes_one None k place takes differs = refl
takes_one (Some j) k place takes differs =
    elim (eqb_tells j k) [
      | inl here ↦ elim (eqb_tells j place) [
        | inl same ↦ absurd (differs (sym here.1 ∙ same.1))
        | inr other ↦ other.0
      ]
      | inr not ↦ absurd (let wrong : true ≡ false = sym takes ∙ not.0 in cc)
    ]

-- what a node at a place of the list takes of a flow
abbrev share_at : {P K : Type 0} → ℕ → Flow → Option (Node P K) → Flow
share_at place flow None = []
share_at place flow (Some node) = share node.input place flow

-- what holds of all items holds of those before and those behind
all_before : {X : Type 0} (Q : X → Type 0) (xs ys : List X) → All Q (xs ++ ys) → All Q xs
all_before Q [] ys all = All-nil Q
all_before Q (x ∷ xs) ys all = All-cons Q x xs (All-head Q x (xs ++ ys) all) (all_before Q xs ys (All-tail Q x (xs ++ ys) all))

all_behind : {X : Type 0} (Q : X → Type 0) (xs ys : List X) → All Q (xs ++ ys) → All Q ys
all_behind Q [] ys all = all
all_behind Q (x ∷ xs) ys all = all_behind Q xs ys (All-tail Q x (xs ++ ys) all)

-- packets that stand for legal ones
all_of_map : {P : Type 0} (plain : P → PlainPacket) (ps : List P) → All IsLegal (map plain ps) → All (λ p. IsLegal (plain p)) ps
all_of_map plain [] all = All-nil _
all_of_map plain (p ∷ ps) all =
    All-cons (λ q. IsLegal (plain q)) p ps (All-head IsLegal (plain p) (map plain ps) all) (all_of_map plain ps (All-tail IsLegal (plain p) (map plain ps) all))

-- what a node puts out for a legal flow is legal
work_is_legal : (whole : Bool) (kind : Option Kind) (fed : Flow) → IfSome kind IsWithinBounds → All IsLegal fed → All IsLegal (node_work whole kind fed).flow
work_is_legal whole None fed within legal = legal
work_is_legal false (Some (kinds.Source path form limit)) fed within legal = legal
work_is_legal true (Some (kinds.Source path form limit)) fed within legal = legal
work_is_legal false (Some kind) fed within legal = so_far_keeps 0 kind fed within legal
work_is_legal true (Some kind) fed within legal = wholly_keeps 0 kind fed within legal

module _ {P K : Type 0} (plain : P → PlainPacket) (state : K → SinkState) where
  -- what waits at a node that stands is legal
  pub wait_legal : (nodes : List (Node P K)) (past : Past) (place : ℕ) (d : Node P K) → place < length nodes
      → Stand plain state nodes past → All (λ p. IsLegal (plain p)) (get_or nodes place d).out.packets
  wait_legal nodes past place d within stand =
      let stood = stand.node place d within in
      let node = get_or nodes place d in
      let waits = map plain node.out.packets in
      all_of_map plain node.out.packets
      (all_behind IsLegal (past.gone place) waits
      (all_before IsLegal (past.gone place ++ waits) stood.holds.lacking
      (subst (All IsLegal) stood.holds.flow (work_is_legal _ _ _ stood.within stood.legal))))

  -- the first packet left a node
  node_left : (seat : Seat) (old : Node P K) (fed gone : Flow) (p : P) (out : Outgoing P)
      → old.out.packets ≡ p ∷ out.packets → out.tally ≡ old.out.tally
      → NodeStands plain state seat old fed gone → NodeStands plain state seat (record old { out = out }) fed (gone ++ plain p ∷ [])
  node_left seat old fed gone p out popped tally stood = record {
    legal = stood.legal;
    within = stood.within;
    part = stood.part;
    holds = record {
      lacking = stood.holds.lacking;
      flow =
          stood.holds.flow ∙ ap (λ ps. gone ++ map plain ps ++ stood.holds.lacking) popped
          ∙ ap (λ f. f ++ stood.holds.lacking) (sym (append_assoc gone (plain p ∷ []) (map plain out.packets)));
      all = stood.holds.all;
      tally = λ long. tally ∙ stood.holds.tally long;
      most = subst (λ (t : Tally). IsAtMost t (stopped (node_work (is_whole old.part) seat.kind fed).tally)) (sym tally) stood.holds.most;
    };
  }

  -- nodes that stand as they stood
  pub stand_still : (nodes : List (Node P K)) → StandWith plain state nodes nodes []
  stand_still nodes past stood = record {
    fed = past.fed;
    gone = past.gone;
    stand = stood;
    head = λ i d within none. sym (append-nil (past.fed i));
    outlet = λ i d within is. refl;
  }

  -- one step and then another
  pub stand_on : (a b c : List (Node P K)) (one two : Flow) → length b ≡ length a → AreAsPlaced a b
      → StandWith plain state a b one → StandWith plain state b c two → StandWith plain state a c (one ++ two)
  stand_on a b c one two same placed first second past stood =
      let mid = first past stood in
      let end = second _ mid.stand in
      record {
        fed = end.fed;
        gone = end.gone;
        stand = end.stand;
        head = λ i d within none.
            end.head i d (omega arith) ((placed i d within).input ∙ none) ∙ ap (λ f. f ++ two) (mid.head i d within none) ∙ append_assoc (past.fed i) one two;
        outlet = λ i d within is.
            end.outlet i d (omega arith) ((placed i d within).outlet ∙ is) ∙ mid.outlet i d within is;
      }

  module _ (place : ℕ) (well : Bool) (olds after : List (Node P K)) (e : Node P K) (p : P) (out : Outgoing P)
      (within : place < length olds) (same : length after ≡ length olds)
      (untaken : takes_from (get_or olds place e).input place ≡ false)
      (popped : (get_or olds place e).out.packets ≡ p ∷ out.packets) (tally : out.tally ≡ (get_or olds place e).out.tally)
      (gave : Gave plain state well place (plain p ∷ []) (set olds place (record (get_or olds place e) { out = out })) after) where
    -- the node isn't given what it puts out
    pub node_here : (d : Node P K) → get_or after place d ≡ record (get_or olds place e) { out = out }
    node_here d =
        let node : Node P K = record (get_or olds place e) { out = out } in
        let there : get_or (set olds place node) place d ≡ node = get_or-set_same olds place node d within in
        (gave place d (omega (arith, length-set {A = Node P K}))).still (rw (there, untaken) refl) ∙ there

    -- each other node takes its share
    pub node_beside : (i : ℕ) (d : Node P K) → i < length olds → i ≢ place
        → Given plain state well (get_or olds i d) (get_or after i d) (share (get_or olds i d).input place (plain p ∷ []))
    node_beside i d inside differs =
        let node : Node P K = record (get_or olds place e) { out = out } in
        let there : get_or (set olds place node) i d ≡ get_or olds i d = get_or-set_other olds place i node d differs in
        subst (λ (n : Node P K). Given plain state well n (get_or after i d) (share n.input place (plain p ∷ []))) there
        (gave i d (omega (arith, length-set {A = Node P K})))

    pub placed_gave : AreAsPlaced olds after
    placed_gave i d inside =
        elim (eqb_tells i place) [
          | inl is ↦
              let here : IsAsPlaced (get_or olds place d) (get_or after place d) =
              rw (node_here d, get_or_default olds place d e within) (record { input = refl; takers = refl; outlet = refl; stopped = λ failed. refl; fallen = λ short. short; still = λ short sink. refl }) in
              subst (λ (n : ℕ). IsAsPlaced (get_or olds n d) (get_or after n d)) (sym is.1) here
          | inr other ↦ (node_beside i d inside other.1).placed
        ]

    pub stand_gave : is_outlet (get_or olds place e).part ≡ false → StandWith plain state olds after []
    stand_gave inner past stood =
        let flow = plain p ∷ [] in
        let fed : ℕ → Flow = λ i. past.fed i ++ share_at place flow (slice_get olds i) in
        let gone : ℕ → Flow = with_flow past.gone place (past.gone place ++ flow) in
        let fed_at : (i : ℕ) (d : Node P K) → i < length olds → fed i ≡ past.fed i ++ share (get_or olds i d).input place flow =
        λ i d inside. ap (λ o. past.fed i ++ share_at place flow o) (slice_get-get_or olds i d inside) in
        let none_at : (i : ℕ) (d : Node P K) → i < length olds → takes_from (get_or olds i d).input place ≡ false → fed i ≡ past.fed i ++ [] =
        λ i d inside none. fed_at i d inside ∙ ap (λ f. past.fed i ++ f) (share_none (get_or olds i d).input place flow none) in
        record {
          fed = fed;
          gone = gone;
          stand = record {
            node = λ i d inside.
                let inner_i : i < length olds = omega arith in
                let Stands : ℕ → Node P K → Flow → Flow → Type 0 = λ n node f g. NodeStands plain state (past.seats n) node f g in
                elim (eqb_tells i place) [
                  | inl is ↦
                      let left = node_left (past.seats place) (get_or olds place e) (past.fed place) (past.gone place) p out popped tally (stood.node place e within) in
                      let fed_here : past.fed place ≡ fed place = sym (none_at place e within untaken ∙ append-nil (past.fed place)) in
                      let gone_here : past.gone place ++ flow ≡ gone place = sym (with_flow-same past.gone place (past.gone place ++ flow)) in
                      let with_fed : Stands place (record (get_or olds place e) { out = out }) (fed place) (past.gone place ++ flow) =
                      subst (λ (f : Flow). Stands place (record (get_or olds place e) { out = out }) f (past.gone place ++ flow)) fed_here left in
                      let with_gone : Stands place (record (get_or olds place e) { out = out }) (fed place) (gone place) =
                      subst (λ (f : Flow). Stands place (record (get_or olds place e) { out = out }) (fed place) f) gone_here with_fed in
                      let here : Stands place (get_or after place d) (fed place) (gone place) =
                      subst (λ (n : Node P K). Stands place n (fed place) (gone place)) (sym (node_here d)) with_gone in
                      subst (λ (n : ℕ). Stands n (get_or after n d) (fed n) (gone n)) (sym is.1) here
                  | inr other ↦
                      let took = (node_beside i d inner_i other.1).took (past.seats i) (past.fed i) (past.gone i) (stood.node i d inner_i) in
                      let with_fed : Stands i (get_or after i d) (fed i) (past.gone i) =
                      subst (λ (f : Flow). Stands i (get_or after i d) f (past.gone i)) (sym (fed_at i d inner_i)) took in
                      subst (λ (f : Flow). Stands i (get_or after i d) (fed i) f) (sym (with_flow-other past.gone place (past.gone place ++ flow) i other.1)) with_fed
                ];
            edge = λ i d k inside takes.
                let inner_i : i < length olds = omega arith in
                let takes_old : takes_from (get_or olds i d).input k ≡ true = rw (← (placed_gave i d inner_i).input) takes in
                elim (eqb_tells k place) [
                  | inl is ↦
                      let takes_here : takes_from (get_or olds i d).input place ≡ true = subst (λ (n : ℕ). takes_from (get_or olds i d).input n ≡ true) is.1 takes_old in
                      fed_at i d inner_i ∙ ap (λ f. past.fed i ++ f) (share_all (get_or olds i d).input place flow takes_here)
                      ∙ ap (λ f. f ++ flow) (stood.edge i d place inner_i takes_here)
                      ∙ sym (with_flow-same past.gone place (past.gone place ++ flow))
                      ∙ ap gone (sym is.1)
                  | inr other ↦
                      none_at i d inner_i (takes_one (get_or olds i d).input k place takes_old other.1) ∙ append-nil (past.fed i)
                      ∙ stood.edge i d k inner_i takes_old ∙ sym (with_flow-other past.gone place (past.gone place ++ flow) k other.1)
                ];
          };
          head = λ i d inside none. none_at i d inside (rw none refl);
          outlet = λ i d inside is.
              with_flow-other past.gone place (past.gone place ++ flow) i
              (λ here. absurd (let wrong : true ≡ false =
              sym is ∙ ap (λ n. is_outlet (get_or olds n d).part) here ∙ ap (λ n. is_outlet n.part) (get_or_default olds place d e within) ∙ inner in cc));
        }

  module _ (place : ℕ) where
    -- at the start nothing was given on
    pub passes_nothing : (well : Bool) (nodes : List (Node P K)) → Passes plain state well place nodes nodes
    passes_nothing well nodes = record {
      stand = stand_still nodes;
      here = λ d. refl;
      others = λ i d within other.
          record { still = λ none. refl; placed = placed_itself (get_or nodes i d); taking = λ taking. taking; sound = λ is sound. sound };
    }

    -- the nodes are placed as they were
    pub placed_passed : (well : Bool) (olds news : List (Node P K)) → Passes plain state well place olds news → AreAsPlaced olds news
    placed_passed well olds news passed i d within =
        elim (eqb_tells i place) [
          | inl is ↦
              let here : IsAsPlaced (get_or olds place d) (get_or news place d) = rw (passed.here d) (record { input = refl; takers = refl; outlet = refl; stopped = λ failed. refl; fallen = λ short. short; still = λ short sink. refl }) in
              subst (λ (n : ℕ). IsAsPlaced (get_or olds n d) (get_or news n d)) (sym is.1) here
          | inr other ↦ (passed.others i d within other.1).placed
        ]

    -- the node at the place is an outlet, or not, as it was
    pub inner_passed : (well : Bool) (olds news : List (Node P K)) (d e : Node P K) → place < length olds → Passes plain state well place olds news
        → is_outlet (get_or olds place d).part ≡ false → is_outlet (get_or news place e).part ≡ false
    inner_passed well olds news d e within passed inner =
        ap (λ (n : Node P K). is_outlet n.part) (passed.here e ∙ ap (λ (n : Node P K). record n { out = (get_or news place e).out }) (get_or_default olds place e d within)) ∙ inner

    -- and doesn't take what it puts out
    pub untaken_passed : (well : Bool) (olds news : List (Node P K)) (e : Node P K) → place < length olds → HasTree olds → Passes plain state well place olds news
        → takes_from (get_or news place e).input place ≡ false
    untaken_passed well olds news e within tree passed =
        ap (λ (n : Node P K). takes_from n.input place) (passed.here e) ∙ never_itself olds place e within tree

    -- the nodes that take from the place can still be given packets
    pub ready_passed : (well : Bool) (olds news : List (Node P K)) → length news ≡ length olds → ((d : Node P K) → takes_from (get_or olds place d).input place ≡ false)
        → Passes plain state well place olds news → AreReady place olds → AreReady place news
    ready_passed well olds news same untaken passed ready i d within takes =
        let inside : i < length olds = omega arith in
        let before : takes_from (get_or olds i d).input place ≡ true = rw (← (placed_passed well olds news passed i d inside).input) takes in
        elim (eqb_tells i place) [
          | inl is ↦ absurd (let wrong : true ≡ false = sym before ∙ ap (λ n. takes_from (get_or olds n d).input place) is.1 ∙ untaken d in cc)
          | inr other ↦ (passed.others i d inside other.1).taking (ready i d inside before)
        ]

    -- one packet more was given
    pub passes_next : (well : Bool) (init now after : List (Node P K)) (e : Node P K) (p : P) (out : Outgoing P)
        → (within : place < length now) → length now ≡ length init → (same : length after ≡ length now)
        → (untaken : takes_from (get_or now place e).input place ≡ false)
        → is_outlet (get_or now place e).part ≡ false
        → (popped : (get_or now place e).out.packets ≡ p ∷ out.packets) → (tally : out.tally ≡ (get_or now place e).out.tally)
        → Gave plain state well place (plain p ∷ []) (set now place (record (get_or now place e) { out = out })) after
        → Passes plain state true place init now → Passes plain state well place init after
    passes_next well init now after e p out within same_now same untaken inner popped tally gave passed = record {
      stand = stand_on init now after [] [] same_now (placed_passed true init now passed) passed.stand
          (stand_gave place well now after e p out within same untaken popped tally gave inner);
      here = λ d.
          let now_is : get_or after place d ≡ record (get_or init place d) { out = out } =
          node_here place well now after e p out within same untaken popped tally gave d
          ∙ ap (λ (n : Node P K). record n { out = out }) (passed.here e)
          ∙ ap (λ (n : Node P K). record n { out = out }) (get_or_default init place e d (omega arith)) in
          now_is ∙ ap (λ (o : Outgoing P). record (get_or init place d) { out = o }) (sym (ap (λ (n : Node P K). n.out) now_is));
      others = λ i d inside other.
          let before = passed.others i d inside other in
          let next = node_beside place well now after e p out within same untaken popped tally gave i d (omega arith) other in
          record {
            still = λ none. next.still (share_none _ place _ (rw before.placed.input none)) ∙ before.still none;
            placed = placed_on _ _ _ before.placed next.placed;
            taking = λ taking. next.taking (before.taking taking);
            sound = λ is sound. next.sound is (before.sound refl sound);
          };
    }

    -- an outbox that was found empty is the same
    pub same_outbox : (now : List (Node P K)) (e : Node P K) (out : Outgoing P) → (get_or now place e).out.packets ≡ [] → out.packets ≡ []
        → out.tally ≡ (get_or now place e).out.tally → set now place (record (get_or now place e) { out = out }) ≡ now
    same_outbox now e out none_before none tally =
        let same : out ≡ (get_or now place e).out = λ i. record { packets = (none ∙ sym none_before) i; tally = tally i } in
        ap (λ (o : Outgoing P). set now place (record (get_or now place e) { out = o })) same ∙ set-get_or now place e

    -- fewer wait after one was taken out and given
    pub waits_less : (now after : List (Node P K)) (e : Node P K) (p : P) (out : Outgoing P) → place < length now → length after ≡ length now
        → (get_or now place e).out.packets ≡ p ∷ out.packets → ((d : Node P K) → (get_or after place d).out.packets ≡ out.packets)
        → waiting_at place after < waiting_at place now
    waits_less now after e p out within same popped left =
        rw (slice_get-get_or now place e within, slice_get-get_or after place e (omega arith), popped, left e) (omega arith)

-- the takers of a node are those that they were
pub takers_same : {P K : Type 0} (place : ℕ) (olds news : List (Node P K)) (takers : Option Takers) → length news ≡ length olds → AreAsPlaced olds news
    → AreTakers place olds takers → AreTakers place news takers
takers_same place olds news None same placed none =
    λ i d within. rw (placed i d (omega arith)).input (none i d (omega arith))
takers_same place olds news (Some takers) same placed between =
    let inside : takers.last < length olds = between.within in
    record {
      rising = between.rising;
      within = omega (arith, inside);
      first = λ d. rw (placed takers.first d (omega (arith, inside, between.rising))).input (between.first d);
      last = λ d. rw (placed takers.last d inside).input (between.last d);
      all = λ i d within takes. between.all i d (omega arith) (rw (← (placed i d (omega arith)).input) takes);
    }
