-- Nodes that are given a packet one after another.
use Rattle.std.proofs.Common.{◌≡◌, ℕ, ◌+◌, ◌<◌, ◌≤◌, List, [], ◌∷◌, ◌++◌, length, set, get_or, Bool, true, false, Option, refl, sym, ap, ◌∙◌, subst, append-nil, arith, inl, inr}
use Rattle.std.specs.Prelude.{Result, Ok, Err, is_ok}
use Rattle.std.specs.Result.{result_and}
use Rattle.std.proofs.lemmas.List.{get_or_default}
use Rattle.std.proofs.lemmas.Bool.{cases_lt}
use Rattle.up_model.specs.Packet.{Flow}
use Rattle.up_model.specs.declared.plain_packet.PlainPacket.{PlainPacket}
use Rattle.up_outside.specs.States.{SinkState}
use Rattle.up_strand.proofs.Lists.{done_next, left_next}
use Rattle.up_strand.specs.Gifts.{Given, Gave, share}
use Rattle.up_strand.specs.Nodes.{IsTaking, IsSound, IsAsPlaced, NodeStands, Took, has_failed, holds_sink, takes_from}
use Rattle.up_strand.specs.Tree.{AreBetween}
use Rattle.up_strand.specs.declared.node.Node.{Node}
use Rattle.up_strand.specs.declared.node.Takers.{Takers}

-- a packet isn't nothing
one_is_some : {X Y : Type 0} (x : X) → x ∷ [] ≡ [] → Y
one_is_some x none = absurd (cc)

-- of two results the later is well where both are
pub and_ok : {T E : Type 0} (a b : Result T E) → is_ok (result_and a b) ≡ true → (is_ok a ≡ true) × (is_ok b ≡ true)
and_ok (Ok x) (Ok y) is = (refl, refl)
and_ok (Ok x) (Err e) is = absurd (cc)
and_ok (Err e) b is = absurd (cc)

pub share_none : (input : Option ℕ) (place : ℕ) (flow : Flow) → takes_from input place ≡ false → share input place flow ≡ []
share_none input place flow none = rw none refl

pub share_all : (input : Option ℕ) (place : ℕ) (flow : Flow) → takes_from input place ≡ true → share input place flow ≡ flow
share_all input place flow takes = rw takes refl

pub placed_itself : {P K : Type 0} (node : Node P K) → IsAsPlaced node node
placed_itself node = record { input = refl; takers = refl; outlet = refl; stopped = λ failed. refl; fallen = λ short. short; still = λ short sink. refl }

pub placed_on : {P K : Type 0} (a b c : Node P K) → IsAsPlaced a b → IsAsPlaced b c → IsAsPlaced a c
placed_on a b c one two = record {
  input = two.input ∙ one.input;
  takers = two.takers ∙ one.takers;
  outlet = two.outlet ∙ one.outlet;
  stopped = λ failed. two.stopped (ap has_failed (one.stopped failed) ∙ failed) ∙ one.stopped failed;
  fallen = λ short. two.fallen (one.fallen short);
  still = λ short sink. let later = two.still (one.fallen short) sink in later ∙ one.still short (ap holds_sink (sym later) ∙ sink);
}

module _ {P K : Type 0} (plain : P → PlainPacket) (state : K → SinkState) where
  -- a node that is given nothing
  pub given_nothing : (well : Bool) (node : Node P K) → Given plain state well node node []
  given_nothing well node = record {
    took = λ seat fed gone stood. subst (λ (f : Flow). NodeStands plain state seat node f gone) (sym (append-nil fed)) stood;
    still = λ none. refl;
    placed = placed_itself node;
    taking = λ taking. taking;
    sound = λ is sound. sound;
  }

  -- a node that took the packet
  pub given_one : (well : Bool) (old new : Node P K) (place : ℕ) (packet : PlainPacket) → takes_from old.input place ≡ true
      → Took plain state old new (packet ∷ []) → IsAsPlaced old new → (IsTaking old → IsTaking new) → (well ≡ true → IsSound old → IsSound new)
      → Given plain state well old new (share old.input place (packet ∷ []))
  given_one well old new place packet takes took placed taking sound =
      rw (share_all old.input place (packet ∷ []) takes)
      (record { took = took; still = one_is_some packet; placed = placed; taking = taking; sound = sound })

  -- what goes well in more goes well
  pub given_weaker : (a b : Bool) (old new : Node P K) (more : Flow) → (b ≡ true → a ≡ true) → Given plain state a old new more → Given plain state b old new more
  given_weaker a b old new more then given =
      record { took = given.took; still = given.still; placed = given.placed; taking = given.taking; sound = λ is. given.sound (then is) }

  -- a node that takes nothing in one step and packets in the next
  pub Took-after : (a b c : Node P K) (more : Flow) → Took plain state a b [] → Took plain state b c more → Took plain state a c more
  Took-after a b c more one two seat fed gone stood =
      subst (λ (f : Flow). NodeStands plain state seat c (f ++ more) gone) (append-nil fed) (two seat _ gone (one seat fed gone stood))

  module _ (place : ℕ) (flow : Flow) (init now : List (Node P K)) (i : ℕ) (y : Node P K) where
    -- a node takes its share
    abbrev Shares : Bool → Node P K → Node P K → Type 0
    Shares well old new = Given plain state well old new (share old.input place flow)

    -- the node at the place, as it was given its share
    pub shares_at : (well : Bool) (e : Node P K) → i < length now
        → ((k : ℕ) (d : Node P K) → i ≤ k → get_or now k d ≡ get_or init k d) → Shares well (get_or now i e) y → (d : Node P K) → Shares well (get_or init i d) y
    shares_at well e within left given d =
        let there : get_or now i e ≡ get_or init i d = get_or_default now i e d within ∙ left i d (omega arith) in
        subst (λ (n : Node P K). Shares well n y) there given

    -- one more was given its share, which went well or not
    pub gave_next : (a b c : Bool) (e : Node P K) → i < length now → (c ≡ true → a ≡ true) → (c ≡ true → b ≡ true)
        → ((k : ℕ) (d : Node P K) → k < i → Shares a (get_or init k d) (get_or now k d))
        → ((k : ℕ) (d : Node P K) → i ≤ k → get_or now k d ≡ get_or init k d)
        → Shares b (get_or now i e) y
        → (k : ℕ) (d : Node P K) → k < i + 1 → Shares c (get_or init k d) (get_or (set now i y) k d)
    gave_next a b c e within to_a to_b done left given =
        done_next (Shares c) init now i y within (λ k d below. given_weaker a c _ _ _ to_a (done k d below))
        (λ d. given_weaker b c _ _ _ to_b (shares_at b e within left given d))

    -- the last node that takes a share was given it
    pub gave_last : (a b c : Bool) (e : Node P K) (takers : Takers) → takers.last ≡ i → length now ≡ length init → AreBetween place init takers
        → (c ≡ true → a ≡ true) → (c ≡ true → b ≡ true)
        → ((k : ℕ) (d : Node P K) → k < i → Shares a (get_or init k d) (get_or now k d))
        → ((k : ℕ) (d : Node P K) → i ≤ k → get_or now k d ≡ get_or init k d)
        → Shares b (get_or now i e) y → Gave plain state c place flow init (set now i y)
    gave_last a b c e takers is same between to_a to_b done left given k d within =
        let inside : i < length now = let inner = between.within in omega (arith, is) in
        elim (cases_lt k (i + 1)) [
          | inl before ↦ gave_next a b c e inside to_a to_b done left given k d before
          | inr behind ↦
              let none : takes_from (get_or init k d).input place ≡ false =
              not_taken (takes_from (get_or init k d).input place) (λ takes. let upto = (between.all k d within takes).1 in absurd (omega (arith, is))) in
              rw (left_next (Shares c) init now i y left k d behind, share_none (get_or init k d).input place flow none) (given_nothing c (get_or init k d))
        ]
      where
        not_taken : (takes : Bool) → (takes ≡ true → ⊥) → takes ≡ false
        not_taken true never = absurd (never refl)
        not_taken false never = refl

    -- before the first taker nobody takes
    pub gave_none : (c : Bool) (takers : Takers) → AreBetween place init takers
        → (k : ℕ) (d : Node P K) → k < takers.first → Shares c (get_or init k d) (get_or init k d)
    gave_none c takers between k d before =
        let inside : k < length init = let within = between.within in let rising = between.rising in omega arith in
        let none : takes_from (get_or init k d).input place ≡ false =
        not_taken (takes_from (get_or init k d).input place) (λ takes. let first = (between.all k d inside takes).0 in absurd (omega arith)) in
        rw (share_none (get_or init k d).input place flow none) (given_nothing c (get_or init k d))
      where
        not_taken : (takes : Bool) → (takes ≡ true → ⊥) → takes ≡ false
        not_taken true never = absurd (never refl)
        not_taken false never = refl
