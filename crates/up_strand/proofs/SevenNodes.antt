-- A tree of seven nodes, which don't stand in the order of their depth: a head, a `dup`, two sinks, a `skip` before a third, and an
-- outlet.
use Rattle.std.proofs.Common.{◌≡◌, ℕ, zero, suc, ◌+◌, ◌<◌, ◌≤◌, List, [], ◌∷◌, get_or, true, false, Option, Some, None, refl, sym, ap, ◌∙◌, subst, arith, inl, inr}
use Rattle.std.specs.Prelude.{IfSome}
use Rattle.std.specs.Str.{is_utf8, chars}
use Rattle.std.proofs.lemmas.Bool.Decides.{eqb_tells}
use Rattle.up_model.specs.Kinds.{IsWithinBounds}
use Rattle.up_model.specs.declared.form.SinkForm.TheVariants as sink_forms
use Rattle.up_model.specs.declared.form.SourceForm.TheVariants as source_forms
use Rattle.up_model.specs.declared.kind.Kind.TheVariants as kinds
use Rattle.up_model.specs.declared.plain_packet.PlainPacket.{PlainPacket}
use Rattle.up_outside.specs.States.{SinkState}
use Rattle.up_strand.proofs.Writes.{receives_nothing}
use Rattle.up_strand.specs.Nodes.{NodeStands, PartStands, Seat, takes_from}
use Rattle.up_strand.specs.Stand.{StandForSome}
use Rattle.up_strand.specs.Tree.{AreTakers, IsTree, IsOrder, IsSwept}
use Rattle.up_strand.specs.declared.node.Node.{Node}
use Rattle.up_strand.specs.declared.node.Part.TheVariants.{Head, Sink}
use Rattle.up_strand.specs.declared.spelling.Spelling.TheVariants.{Raw}

-- a node takes from its input alone
taken : (input : Option ℕ) (k : ℕ) (R : ℕ → Type 0) → input ≡ Some k → R k → (place : ℕ) → takes_from input place ≡ true → R place
taken input k R is here place takes =
    elim (eqb_tells k place) [
      | inl same ↦ subst R same.1 here
      | inr other ↦ absurd (let wrong : true ≡ false = sym takes ∙ ap (λ o. takes_from o place) is ∙ other.0 in cc)
    ]

-- numbers that don't fall from each to the next don't fall
rises : (r : ℕ → ℕ) (n : ℕ) → ((k : ℕ) → k + 1 < n → r k ≤ r (k + 1)) → (k l : ℕ) → k ≤ l → l < n → r k ≤ r l
rises r n next k zero upto within = let same : k ≡ 0 = omega arith in rw same (omega arith)
rises r n next k (suc l) upto within =
    elim (eqb_tells k (suc l)) [
      | inl same ↦ rw same.1 (omega arith)
      | inr other ↦
          let below : k ≤ l = omega (arith, other.1) in
          let before : r k ≤ r l = rises r n next k l below (omega arith) in
          let one : r l ≤ r (l + 1) = next l (omega arith) in
          let is : l + 1 ≡ suc l = omega arith in
          let after : r l ≤ r (suc l) = subst (λ (m : ℕ). r l ≤ r m) is one in
          omega arith
    ]

abbrev pub ranks : List ℕ
ranks = 3 ∷ 0 ∷ 2 ∷ 1 ∷ 2 ∷ 2 ∷ 2 ∷ []

abbrev pub order : List ℕ
order = 1 ∷ 3 ∷ 2 ∷ 4 ∷ 5 ∷ 6 ∷ 0 ∷ []

abbrev rank : ℕ → ℕ
rank place = get_or ranks place 0

order_within : (k d : ℕ) → k < 7 → get_or order k d < 7
order_within zero d within = omega arith
order_within (suc zero) d within = omega arith
order_within (suc (suc zero)) d within = omega arith
order_within (suc (suc (suc zero))) d within = omega arith
order_within (suc (suc (suc (suc zero)))) d within = omega arith
order_within (suc (suc (suc (suc (suc zero))))) d within = omega arith
order_within (suc (suc (suc (suc (suc (suc zero)))))) d within = omega arith
order_within (suc (suc (suc (suc (suc (suc (suc k))))))) d within = absurd (omega arith)

order_all : (place : ℕ) → place < 7 → (k : ℕ) × (k < 7) × ((d : ℕ) → get_or order k d ≡ place)
order_all zero within = (6, omega arith, λ d. refl)
order_all (suc zero) within = (0, omega arith, λ d. refl)
order_all (suc (suc zero)) within = (2, omega arith, λ d. refl)
order_all (suc (suc (suc zero))) within = (1, omega arith, λ d. refl)
order_all (suc (suc (suc (suc zero)))) within = (3, omega arith, λ d. refl)
order_all (suc (suc (suc (suc (suc zero))))) within = (4, omega arith, λ d. refl)
order_all (suc (suc (suc (suc (suc (suc zero)))))) within = (5, omega arith, λ d. refl)
order_all (suc (suc (suc (suc (suc (suc (suc k))))))) within = absurd (omega arith)

order_next : (d k : ℕ) → k + 1 < 7 → rank (get_or order k d) ≤ rank (get_or order (k + 1) d)
order_next d zero within = omega arith
order_next d (suc zero) within = omega arith
order_next d (suc (suc zero)) within = omega arith
order_next d (suc (suc (suc zero))) within = omega arith
order_next d (suc (suc (suc (suc zero)))) within = omega arith
order_next d (suc (suc (suc (suc (suc zero))))) within = omega arith
order_next d (suc (suc (suc (suc (suc (suc zero)))))) within = absurd (omega arith)
order_next d (suc (suc (suc (suc (suc (suc (suc k))))))) within = absurd (omega arith)

pub is_order : IsOrder rank 7 order
is_order = record { once = refl; within = order_within; all = order_all; rising = λ k l d upto within. rises (λ m. rank (get_or order m d)) 7 (order_next d) k l upto within }

path_is_utf8 : is_utf8 (111 ∷ []) ≡ true
unfolding chars is_utf8 lib.Utf8.encode
path_is_utf8 = refl

-- the seats of nodes that are new
pub sink_seat : SinkState → Seat
sink_seat start = record { kind = Some (kinds.Sink (111 ∷ []) sink_forms.Raw); start = start }

pub head_seat : SinkState → Seat
head_seat start = record { kind = Some (kinds.Source (111 ∷ []) (source_forms.Raw 1) 0); start = start }

module _ {P K : Type 0} (plain : P → PlainPacket) (state : K → SinkState) where
  pub new_sink : (node : Node P K) (sink : K)
      → ((seat : Seat) → IfSome seat.kind IsWithinBounds → PartStands plain state seat false (Sink sink Raw false) [] → NodeStands plain state seat node [] [])
      → NodeStands plain state (sink_seat (state sink)) node [] []
  unfolding sink_seat
  new_sink node sink stands = stands (sink_seat (state sink)) ((path_is_utf8, refl), tt)
      (refl, receives_nothing (state sink) true, record { counts = record { later = omega arith; rose = λ wrong. absurd (cc); stays = λ is. refl }; once = omega arith })

  pub new_head : (start : SinkState) (node : Node P K)
      → ((seat : Seat) → IfSome seat.kind IsWithinBounds → PartStands plain state seat false Head [] → NodeStands plain state seat node [] [])
      → NodeStands plain state (head_seat start) node [] []
  unfolding head_seat
  new_head start node stands = stands (head_seat start) ((path_is_utf8, refl), (omega arith, omega arith), omega arith) refl

module _ {P K : Type 0} (a b c d e f g : Node P K)
    (a-in : a.input ≡ Some 4) (b-in : b.input ≡ None) (c-in : c.input ≡ Some 3) (d-in : d.input ≡ Some 1) (e-in : e.input ≡ Some 3) (f-in : f.input ≡ Some 3) (g-in : g.input ≡ Some 3)
    (a-to : a.takers ≡ None) (b-to : b.takers ≡ Some (record { first = 3; last = 3 })) (c-to : c.takers ≡ None) (d-to : d.takers ≡ Some (record { first = 2; last = 6 })) (e-to : e.takers ≡ Some (record { first = 0; last = 0 })) (f-to : f.takers ≡ None) (g-to : g.takers ≡ None) where
  abbrev pub nodes : List (Node P K)
  nodes = a ∷ b ∷ c ∷ d ∷ e ∷ f ∷ g ∷ []

  each : (Q : ℕ → Node P K → Type 0) → Q 0 a → Q 1 b → Q 2 c → Q 3 d → Q 4 e → Q 5 f → Q 6 g → (i : ℕ) (x : Node P K) → i < 7 → Q i (get_or nodes i x)
  each Q qa qb qc qd qe qf qg zero x within = qa
  each Q qa qb qc qd qe qf qg (suc zero) x within = qb
  each Q qa qb qc qd qe qf qg (suc (suc zero)) x within = qc
  each Q qa qb qc qd qe qf qg (suc (suc (suc zero))) x within = qd
  each Q qa qb qc qd qe qf qg (suc (suc (suc (suc zero)))) x within = qe
  each Q qa qb qc qd qe qf qg (suc (suc (suc (suc (suc zero))))) x within = qf
  each Q qa qb qc qd qe qf qg (suc (suc (suc (suc (suc (suc zero)))))) x within = qg
  each Q qa qb qc qd qe qf qg (suc (suc (suc (suc (suc (suc (suc k))))))) x within = absurd (omega arith)

  pub is_tree : IsTree rank nodes
  is_tree = record {
    inputs = λ i x place within. each (λ i n. (place : ℕ) → takes_from n.input place ≡ true → (place < 7) × (rank place < rank i))
        (taken a.input 4 (λ p. (p < 7) × (rank p < 3)) a-in (omega arith, omega arith))
        (λ place takes. absurd (let wrong : true ≡ false = sym takes ∙ ap (λ o. takes_from o place) b-in in cc))
        (taken c.input 3 (λ p. (p < 7) × (rank p < 2)) c-in (omega arith, omega arith))
        (taken d.input 1 (λ p. (p < 7) × (rank p < 1)) d-in (omega arith, omega arith))
        (taken e.input 3 (λ p. (p < 7) × (rank p < 2)) e-in (omega arith, omega arith))
        (taken f.input 3 (λ p. (p < 7) × (rank p < 2)) f-in (omega arith, omega arith))
        (taken g.input 3 (λ p. (p < 7) × (rank p < 2)) g-in (omega arith, omega arith)) i x within place;
    takers = λ place x within. each (λ place n. AreTakers place nodes n.takers)
        (subst (AreTakers 0 nodes) (sym a-to) (each (λ i n. takes_from n.input 0 ≡ false) (rw a-in refl) (rw b-in refl) (rw c-in refl) (rw d-in refl) (rw e-in refl) (rw f-in refl) (rw g-in refl)))
        (subst (AreTakers 1 nodes) (sym b-to) (record {
          rising = omega arith;
          within = omega arith;
          first = λ x. rw d-in refl;
          last = λ x. rw d-in refl;
          all = each (λ i n. takes_from n.input 1 ≡ true → (3 ≤ i) × (i ≤ 3))
              (λ takes. absurd (let wrong : true ≡ false = sym takes ∙ (rw a-in refl) in cc))
              (λ takes. absurd (let wrong : true ≡ false = sym takes ∙ (rw b-in refl) in cc))
              (λ takes. absurd (let wrong : true ≡ false = sym takes ∙ (rw c-in refl) in cc))
              (λ takes. (omega arith, omega arith))
              (λ takes. absurd (let wrong : true ≡ false = sym takes ∙ (rw e-in refl) in cc))
              (λ takes. absurd (let wrong : true ≡ false = sym takes ∙ (rw f-in refl) in cc))
              (λ takes. absurd (let wrong : true ≡ false = sym takes ∙ (rw g-in refl) in cc));
        }))
        (subst (AreTakers 2 nodes) (sym c-to) (each (λ i n. takes_from n.input 2 ≡ false) (rw a-in refl) (rw b-in refl) (rw c-in refl) (rw d-in refl) (rw e-in refl) (rw f-in refl) (rw g-in refl)))
        (subst (AreTakers 3 nodes) (sym d-to) (record {
          rising = omega arith;
          within = omega arith;
          first = λ x. rw c-in refl;
          last = λ x. rw g-in refl;
          all = each (λ i n. takes_from n.input 3 ≡ true → (2 ≤ i) × (i ≤ 6))
              (λ takes. absurd (let wrong : true ≡ false = sym takes ∙ (rw a-in refl) in cc))
              (λ takes. absurd (let wrong : true ≡ false = sym takes ∙ (rw b-in refl) in cc))
              (λ takes. (omega arith, omega arith))
              (λ takes. absurd (let wrong : true ≡ false = sym takes ∙ (rw d-in refl) in cc))
              (λ takes. (omega arith, omega arith))
              (λ takes. (omega arith, omega arith))
              (λ takes. (omega arith, omega arith));
        }))
        (subst (AreTakers 4 nodes) (sym e-to) (record {
          rising = omega arith;
          within = omega arith;
          first = λ x. rw a-in refl;
          last = λ x. rw a-in refl;
          all = each (λ i n. takes_from n.input 4 ≡ true → (0 ≤ i) × (i ≤ 0))
              (λ takes. (omega arith, omega arith))
              (λ takes. absurd (let wrong : true ≡ false = sym takes ∙ (rw b-in refl) in cc))
              (λ takes. absurd (let wrong : true ≡ false = sym takes ∙ (rw c-in refl) in cc))
              (λ takes. absurd (let wrong : true ≡ false = sym takes ∙ (rw d-in refl) in cc))
              (λ takes. absurd (let wrong : true ≡ false = sym takes ∙ (rw e-in refl) in cc))
              (λ takes. absurd (let wrong : true ≡ false = sym takes ∙ (rw f-in refl) in cc))
              (λ takes. absurd (let wrong : true ≡ false = sym takes ∙ (rw g-in refl) in cc));
        }))
        (subst (AreTakers 5 nodes) (sym f-to) (each (λ i n. takes_from n.input 5 ≡ false) (rw a-in refl) (rw b-in refl) (rw c-in refl) (rw d-in refl) (rw e-in refl) (rw f-in refl) (rw g-in refl)))
        (subst (AreTakers 6 nodes) (sym g-to) (each (λ i n. takes_from n.input 6 ≡ false) (rw a-in refl) (rw b-in refl) (rw c-in refl) (rw d-in refl) (rw e-in refl) (rw f-in refl) (rw g-in refl)))
        place x within;
  }

  pub is_swept : IsSwept order nodes
  is_swept = record {
    rank = rank;
    tree = is_tree;
    sweeps = is_order;
    head = λ i x within none. each (λ i n. n.input ≡ None → (x : ℕ) → get_or order 0 x ≡ i) (λ none x. absurd (let wrong : Some 4 ≡ None = sym a-in ∙ none in cc)) (λ none x. refl) (λ none x. absurd (let wrong : Some 3 ≡ None = sym c-in ∙ none in cc)) (λ none x. absurd (let wrong : Some 1 ≡ None = sym d-in ∙ none in cc)) (λ none x. absurd (let wrong : Some 3 ≡ None = sym e-in ∙ none in cc)) (λ none x. absurd (let wrong : Some 3 ≡ None = sym f-in ∙ none in cc)) (λ none x. absurd (let wrong : Some 3 ≡ None = sym g-in ∙ none in cc)) i x within none;
  }

  pub stands_for_nothing : (plain : P → PlainPacket) (state : K → SinkState) (sa sb sc sd se sf sg : Seat)
      → NodeStands plain state sa a [] [] → NodeStands plain state sb b [] [] → NodeStands plain state sc c [] [] → NodeStands plain state sd d [] []
      → NodeStands plain state se e [] [] → NodeStands plain state sf f [] [] → NodeStands plain state sg g [] [] → StandForSome plain state nodes
  stands_for_nothing plain state sa sb sc sd se sf sg qa qb qc qd qe qf qg = (
    record { seats = λ i. get_or (sa ∷ sb ∷ sc ∷ sd ∷ se ∷ sf ∷ sg ∷ []) i sa; fed = λ i. []; gone = λ i. [] },
    record {
      node = each (λ i n. NodeStands plain state (get_or (sa ∷ sb ∷ sc ∷ sd ∷ se ∷ sf ∷ sg ∷ []) i sa) n [] []) qa qb qc qd qe qf qg;
      edge = λ i x k within takes. refl;
    },
  )
