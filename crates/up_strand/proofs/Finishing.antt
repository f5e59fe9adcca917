-- Nodes whose flows come to their whole end one after another.
use Rattle.std.proofs.Common.{◌≡◌, ◌≢◌, ℕ, ◌+◌, ◌<◌, List, [], length, set, get_or, Bool, true, false, refl, sym, ap, ◌∙◌, subst, arith, inl, inr, ◌⊎◌}
use Rattle.std.proofs.lemmas.Bool.{cases_lt}
use Rattle.std.proofs.lemmas.Bool.Decides.{eqb_tells}
use Rattle.std.proofs.lemmas.List.{get_or-set_same, get_or-set_other, get_or_default, length-set}
use Rattle.up_model.specs.declared.plain_packet.PlainPacket.{PlainPacket}
use Rattle.up_outside.specs.States.{SinkState}
use Rattle.up_strand.proofs.Gives.{placed_itself, placed_on}
use Rattle.up_strand.proofs.Lists.{all_set, pairs_on}
use Rattle.up_strand.proofs.Passing.{stand_on, placed_passed, never_itself}
use Rattle.up_strand.proofs.Sweeping.{placed_set, stand_stepped, swept_untaken}
use Rattle.up_strand.specs.Gifts.{AreReady}
use Rattle.up_strand.specs.Nodes.{IsTaking, IsSound, IsDone, IsAsPlaced, Took, takes_from}
use Rattle.up_strand.specs.Stand.{Passes, Ends, IsBeside}
use Rattle.up_strand.specs.Tree.{IsSwept, HasTree}
use Rattle.up_strand.specs.declared.node.Node.{Node}

-- a node whose flow has ended, and that can be given packets, is no pipe
pub done_goes_on : {P K : Type 0} (node : Node P K) → IsDone node → IsTaking node → IsSound node
done_goes_on node done taking = record { long = done.long; going = done.whole ∙ taking.goes_on }

module _ {P K : Type 0} (plain : P → PlainPacket) (state : K → SinkState) (nodes : List (Node P K)) (place : ℕ) (e y : Node P K)
    (within : place < length nodes) (placed : IsAsPlaced (get_or nodes place e) y) (took : Took plain state (get_or nodes place e) y []) where
  beside_set : (well : Bool) (i : ℕ) (d : Node P K) → i ≢ place → IsBeside well place (get_or nodes i d) (get_or (set nodes place y) i d)
  beside_set well i d other =
      rw (get_or-set_other nodes place i y d other)
      (record { still = λ none. refl; placed = placed_itself (get_or nodes i d); taking = λ taking. taking; sound = λ is sound. sound })

  -- memory ran out as the flow of one ended
  pub ends_short : Ends plain state false place nodes (set nodes place y)
  ends_short = record {
    stand = stand_stepped plain state nodes place e y within placed took;
    placed = placed_set plain state nodes place e y within placed;
    done = λ wrong. absurd (cc);
    others = λ i d inside other. beside_set false i d other;
  }

  -- what takes from it can still be given packets
  pub ready_set : HasTree nodes → AreReady place nodes → AreReady place (set nodes place y)
  ready_set tree ready =
      all_set (λ n. takes_from n.input place ≡ true → IsTaking n) nodes place y ready
      (λ takes. absurd (let wrong : true ≡ false = sym takes ∙ ap (λ o. takes_from o place) placed.input ∙ never_itself nodes place e within tree in cc))

  -- it ended, and gave on what came
  pub ends_passed : (well : Bool) (news : List (Node P K)) → length news ≡ length (set nodes place y) → Passes plain state well place (set nodes place y) news
      → (IsSound (get_or nodes place e) → IsDone y) → (IsDone (get_or nodes place e) → IsDone y)
      → Ends plain state well place nodes news
  ends_passed well news same passed done still =
      let mid = set nodes place y in
      let first = placed_set plain state nodes place e y within placed in
      record {
        stand = stand_on plain state nodes mid news [] [] (length-set nodes place y) first (stand_stepped plain state nodes place e y within placed took) passed.stand;
        placed = pairs_on IsAsPlaced IsAsPlaced IsAsPlaced nodes mid news (length-set nodes place y) placed_on first (placed_passed plain state place well mid news passed);
        done = λ is d either.
            let there : get_or nodes place d ≡ get_or nodes place e = get_or_default nodes place d e within in
            let now : IsDone y = elim either [
              | inl sound ↦ done (subst IsSound there sound)
              | inr before ↦ still (subst IsDone there before)
            ] in
            let mid_done : IsDone (get_or mid place d) = subst IsDone (sym (get_or-set_same nodes place y d within)) now in
            rw (passed.here d) (record { long = mid_done.long; ended = mid_done.ended; whole = mid_done.whole });
        others = λ i d inside other.
            let after = passed.others i d (omega (arith, length-set {A = Node P K})) other in
            subst (λ (n : Node P K). IsBeside well place n (get_or news i d)) (get_or-set_other nodes place i y d other) after;
      }

module _ {P K : Type 0} (plain : P → PlainPacket) (state : K → SinkState) (order : List ℕ) (olds news : List (Node P K)) (swept : IsSwept order olds)
    (k : ℕ) (within : k < length order) (place : ℕ) (at : get_or order k 0 ≡ place) (same : length news ≡ length olds) where
  -- none of the first nodes of the order
  abbrev IsLater : ℕ → ℕ → Type 0
  IsLater upto i = (l e : ℕ) → l < upto → get_or order l e ≢ i

  now_at : (e : ℕ) → get_or order k e ≡ place
  now_at e = get_or_default order k e 0 within ∙ at

  -- what takes from the place wasn't swept yet
  pub taker_is_later : (i : ℕ) (d : Node P K) → takes_from (get_or olds i d).input place ≡ true → IsLater k i
  taker_is_later i d takes l e before is =
      let none : takes_from (get_or olds (get_or order l e) d).input place ≡ false =
      subst (λ (n : ℕ). takes_from (get_or olds (get_or order l e) d).input n ≡ false) (now_at e) (swept_untaken order olds swept l k e d (omega arith) within) in
      let wrong : true ≡ false = sym takes ∙ ap (λ n. takes_from (get_or olds n d).input place) (sym is) ∙ none in
      absurd (cc)

  pub ready_later : ((i : ℕ) (d : Node P K) → i < length olds → IsLater k i → IsTaking (get_or olds i d)) → AreReady place olds
  ready_later taking i d inside takes = taking i d inside (taker_is_later i d takes)

  -- those that weren't swept yet can still be given packets
  pub taking_ended : (well : Bool) → Ends plain state well place olds news
      → ((i : ℕ) (d : Node P K) → i < length olds → IsLater k i → IsTaking (get_or olds i d))
      → (i : ℕ) (d : Node P K) → i < length news → IsLater (k + 1) i → IsTaking (get_or news i d)
  taking_ended well ends taking i d inside later =
      (ends.others i d (omega arith) (λ is. later k 0 (omega arith) (at ∙ sym is))).taking (taking i d (omega arith) (λ l e before. later l e (omega arith)))

  -- those that were swept have ended, and so has the one that is swept now
  pub done_next : Ends plain state true place olds news
      → ((i : ℕ) (d : Node P K) → i < length olds → IsSound (get_or olds i d) ⊎ IsDone (get_or olds i d))
      → ((l : ℕ) (d : Node P K) (e : ℕ) → l < k → IsDone (get_or olds (get_or order l e) d))
      → (l : ℕ) (d : Node P K) (e : ℕ) → l < k + 1 → IsDone (get_or news (get_or order l e) d)
  done_next ends either before l d e below =
      let i = get_or order l e in
      let here : IsDone (get_or news place d) = ends.done refl d (either place d (subst (λ (n : ℕ). n < length olds) at (swept.sweeps.within k 0 within))) in
      elim (cases_lt l k) [
        | inl earlier ↦ elim (eqb_tells i place) [
          | inl is ↦ subst (λ (n : ℕ). IsDone (get_or news n d)) (sym is.1) here
          | inr other ↦
              let inside : i < length olds = swept.sweeps.within l e (omega arith) in
              let none : takes_from (get_or olds i d).input place ≡ false =
              subst (λ (n : ℕ). takes_from (get_or olds i d).input n ≡ false) (now_at e) (swept_untaken order olds swept l k e d (omega arith) within) in
              rw ((ends.others i d inside other.1).still none) (before l d e earlier)
        ]
        | inr later ↦
            let is : i ≡ place = ap (λ m. get_or order m e) (let same_k : l ≡ k = omega arith in same_k) ∙ now_at e in
            subst (λ (n : ℕ). IsDone (get_or news n d)) (sym is) here
      ]

  -- all go on or have ended
  pub either_next : Ends plain state true place olds news
      → ((i : ℕ) (d : Node P K) → i < length olds → IsLater k i → IsTaking (get_or olds i d))
      → ((i : ℕ) (d : Node P K) → i < length olds → IsSound (get_or olds i d) ⊎ IsDone (get_or olds i d))
      → (i : ℕ) (d : Node P K) → i < length news → IsSound (get_or news i d) ⊎ IsDone (get_or news i d)
  either_next ends taking either i d inside =
      let inner : i < length olds = omega arith in
      elim (eqb_tells i place) [
        | inl is ↦
            let here : IsDone (get_or news place d) = ends.done refl d (subst (λ (n : ℕ). IsSound (get_or olds n d) ⊎ IsDone (get_or olds n d)) is.1 (either i d inner)) in
            inr (subst (λ (n : ℕ). IsDone (get_or news n d)) (sym is.1) here)
        | inr other ↦ beside (takes_from (get_or olds i d).input place) refl (ends.others i d inner other.1) (either i d inner)
      ]
    where
      beside : (takes : Bool) → takes_from (get_or olds i d).input place ≡ takes → IsBeside true place (get_or olds i d) (get_or news i d)
          → IsSound (get_or olds i d) ⊎ IsDone (get_or olds i d) → IsSound (get_or news i d) ⊎ IsDone (get_or news i d)
      beside false none next before = rw (next.still none) before
      beside true takes next (inl sound) = inl (next.sound refl sound)
      beside true takes next (inr done) =
          inl (next.sound refl (done_goes_on (get_or olds i d) done (taking i d (omega arith) (taker_is_later i d takes))))
