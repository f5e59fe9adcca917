-- A net in which nothing went through a lane, but a strand rests or is held back from now on.
use Rattle.std.proofs.Common.{◌≡◌, ◌≢◌, ℕ, ◌<◌, ◌≤◌, List, length, get_or, set, map, All, Option, None, Bool, true, false, sym, ap, ◌∙◌, subst, arith, inl, inr}
use Rattle.std.proofs.lemmas.Bool.Decides.{eqb_tells}
use Rattle.up_engine.proofs.Potentials.{turned_by_rest}
use Rattle.up_engine.proofs.Pumping.{IsDue, blocked_less, pump_other, pump_same, pumped_on, rests_less}
use Rattle.up_engine.proofs.Standing.{IsSameButAt, same_shape}
use Rattle.up_engine.specs.Joins.{IsJoined, plain_item}
use Rattle.up_engine.specs.Nets.{ArePumped, IsAtRest, IsFull, IsHeldBack, NetStands, Turned, head_at, items_at, pumps_left}
use Rattle.up_engine.specs.declared.net.Net.{Net}
use Rattle.up_engine.specs.declared.net.Turn.TheVariants as turns
use Rattle.up_model.specs.Plans.{heads}
use Rattle.up_model.specs.declared.pipe.Pipe.{Pipe}
use Rattle.up_model.specs.declared.plain_packet.PlainPacket.{PlainPacket}
use Rattle.up_outside.specs.States.{SourceState, SinkState}
use Rattle.up_pump.specs.Pumps.{Pumps, blockers_at, pump_at, with_blockers, with_readiness}
use Rattle.up_pump.specs.declared.pump.Pump.{Pump}
use Rattle.up_queue.specs.Lane.{Lane}
use Rattle.up_shape.specs.Stores.{StoreState}
use Rattle.up_strand.specs.History.{History}
use Rattle.up_strand.specs.StrandCalls.{IsLegalItem}
use Rattle.up_strand.specs.Strands.{StandsFor}
use Rattle.up_strand.specs.declared.strand.Strand.{Strand}

pub not_both : (b : Bool) → b ≡ true → b ≡ false → ⊥
not_both b is fails = absurd (let no : true ≡ false = sym is ∙ fails in cc)

module _ {P S K : Type 0} (plain : P → PlainPacket) (reads : S → SourceState) (writes : K → SinkState) (pipes : List Pipe) (past : ℕ → History)
    (net : Net P S K) (stands : NetStands plain reads writes net pipes past) (new : Net P S K) (i : ℕ) (within : i < length (heads pipes))
    (same : IsSameButAt net new i) (lanes : new.lanes.items ≡ net.lanes.items) (due : IsDue net.pumps i)
    (here : (d : Strand P S K) → StandsFor plain reads writes (get_or new.strands.items i d) (past (head_at pipes i))) where
  still : ArePumped new pipes → NetStands plain reads writes new pipes past
  still pumped = record {
    shape = same_shape net new pipes i same stands.shape;
    strands = λ k d inside. elim (eqb_tells k i) [
      | inl at ↦ subst (λ (n : ℕ). StandsFor plain reads writes (get_or new.strands.items n d) (past (head_at pipes n))) (sym at.1) (here d)
      | inr other ↦ subst (λ (s : Strand P S K). StandsFor plain reads writes s (past (head_at pipes k))) (sym (same.strands k d other.1)) (stands.strands k d inside)
    ];
    graphs = stands.graphs;
    places = stands.places;
    joined = λ k filler inside filled.
        subst (λ (ls : List (Option (Lane P))). IsJoined (past filler) (past (head_at pipes k)) (head_at pipes k) (map (plain_item plain) (items_at ls k))) (sym lanes)
        (stands.joined k filler inside filled);
    legal = λ k. subst (λ (ls : List (Option (Lane P))). All (IsLegalItem plain) (items_at ls k)) (sym lanes) (stands.legal k);
    pumped = pumped;
  }

  same_items : (k : ℕ) → items_at new.lanes.items k ≡ items_at net.lanes.items k
  same_items k = ap (λ (ls : List (Option (Lane P))). items_at ls k) lanes

  same_full : (n : ℕ) → IsFull (get_or net.lanes.items n None) → IsFull (get_or new.lanes.items n None)
  same_full n full = subst (λ (ls : List (Option (Lane P))). IsFull (get_or ls n None)) (sym lanes) full

  module _ (pump : Pump) (loop_is : new.pumps ≡ record net.pumps { pumps = set net.pumps.pumps i pump }) where
    pump_here : pump_at new.pumps i ≡ pump
    pump_here = ap (λ (loop : Pumps). pump_at loop i) loop_is ∙ pump_same net.pumps i pump due.within

    pump_there : (k : ℕ) → k ≢ i → pump_at new.pumps k ≡ pump_at net.pumps k
    pump_there k other = ap (λ (loop : Pumps). pump_at loop k) loop_is ∙ pump_other net.pumps i pump k other

    no_more_blockers : (k : ℕ) → k ≢ i → blockers_at new.pumps k ≤ blockers_at net.pumps k
    no_more_blockers k other = let there = ap (λ (p : Pump). p.blockers) (pump_there k other) in omega (arith, there)

    pumped_there : ((d : Strand P S K) → (pump_at new.pumps i).ready ≡ false → IsAtRest new pipes i (get_or new.strands.items i d))
        → ((d : Strand P S K) → blockers_at new.pumps i ≢ 0 → IsHeldBack new pipes (get_or new.strands.items i d))
        → blockers_at new.pumps i ≤ 1 → ArePumped new pipes
    pumped_there rests held few =
        pumped_on net new pipes i same stands.pumped rests (λ k other rests. (sym (ap (λ (p : Pump). p.ready) (pump_there k other)) ∙ rests, same_items k))
        held no_more_blockers (λ k d lane other inside held waits full. same_full (get_or net.numbers.items lane 0) full) few

  -- a strand that has nothing to do rests
  pub rested : {F : Type 0} (old after : StoreState F) → new.pumps ≡ with_readiness net.pumps i false → ((d : Strand P S K) → IsAtRest new pipes i (get_or new.strands.items i d))
      → old.drawn ≤ after.drawn → Turned plain reads writes pipes past net new old after turns.Moved
  rested old after loop_is at_rest drawn =
      let pump : Pump = record (pump_at net.pumps i) { ready = false } in
      let blockers : blockers_at new.pumps i ≡ 0 = ap (λ (p : Pump). p.blockers) (pump_here pump loop_is) ∙ due.free in
      let less = rests_less pipes past net.pumps i due in
      turned_by_rest plain reads writes pipes past net stands new i within (past (head_at pipes i)) old after
      (still (pumped_there pump loop_is (λ d rests. at_rest d) (λ d held. absurd (held blockers)) (omega (arith, blockers)))) drawn
      (subst (λ (loop : Pumps). pumps_left pipes past loop < pumps_left pipes past net.pumps) (sym loop_is) less)

  -- a strand whose item has no room is held back
  pub held_back : {F : Type 0} (old after : StoreState F) → new.pumps ≡ with_blockers net.pumps i 1 → ((d : Strand P S K) → IsHeldBack new pipes (get_or new.strands.items i d))
      → old.drawn ≤ after.drawn → Turned plain reads writes pipes past net new old after turns.Moved
  held_back old after loop_is held drawn =
      let pump : Pump = record (pump_at net.pumps i) { blockers = 1 } in
      let blockers : blockers_at new.pumps i ≡ 1 = ap (λ (p : Pump). p.blockers) (pump_here pump loop_is) in
      let ready : (pump_at new.pumps i).ready ≡ true = ap (λ (p : Pump). p.ready) (pump_here pump loop_is) ∙ due.ready in
      let less = blocked_less pipes past net.pumps i due in
      turned_by_rest plain reads writes pipes past net stands new i within (past (head_at pipes i)) old after
      (still (pumped_there pump loop_is (λ d rests. absurd (not_both (pump_at new.pumps i).ready ready rests)) (λ d some. held d) (omega (arith, blockers)))) drawn
      (subst (λ (loop : Pumps). pumps_left pipes past loop < pumps_left pipes past net.pumps) (sym loop_is) less)
