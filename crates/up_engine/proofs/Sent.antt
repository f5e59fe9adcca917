-- A net of which a strand gave an item out for a lane.
use Rattle.std.proofs.Common.{◌≡◌, ◌≢◌, ℕ, ◌+◌, ◌<◌, List, [], ◌∷◌, ◌++◌, length, get_or, set, map, All, Option, None, Some, is_some, true, false, refl, sym, ap, ◌∙◌, subst, append-nil, arith, inl, inr}
use Rattle.std.specs.List.{Contains}
use Rattle.std.proofs.lemmas.Bool.Decides.{eqb_tells}
use Rattle.std.proofs.lemmas.List.{get_or-set_same, length-set, map-append}
use Rattle.std.proofs.lemmas.Option.{same_Some}
use Rattle.up_engine.proofs.Asking.{waits_for}
use Rattle.up_engine.proofs.Fillers.{head_within, lane_is_fed, lane_is_head, outlet_is_filled, outlet_is_lane}
use Rattle.up_engine.proofs.Fitting.{fits_on, more_are}
use Rattle.up_engine.proofs.Items.{IsSameButSent, at_each, gave_here, gave_other, gave_same}
use Rattle.up_engine.proofs.Potentials.{GaveNoMore, KeepsSources, fewer_turns, turned_by_move}
use Rattle.up_engine.proofs.Pumping.{IsDue, pump_count, pump_other, pump_same, pumped_on}
use Rattle.up_engine.proofs.Standing.{IsSameButAt, LaneStep, apart, now, now_here, number_is, same_but_lanes, same_but_pumps, same_but_strand, same_itself, stands_now, waiting}
use Rattle.up_engine.proofs.Still.{held_back, not_both}
use Rattle.up_engine.specs.Joins.{PlainItem, filler_of, items_come, items_sent, plain_item}
use Rattle.up_engine.specs.Moves.{OtherLanesStay}
use Rattle.up_engine.specs.Nets.{ArePumped, GoesOn, IsFull, NetFits, NetStands, Turned, head_at, items_at}
use Rattle.up_engine.specs.declared.net.Net.{Net}
use Rattle.up_engine.specs.declared.net.Turn.TheVariants as turns
use Rattle.up_model.specs.Inputs.{passes_at}
use Rattle.up_model.specs.Plans.{heads, is_fed, lanes, outlets_of}
use Rattle.up_model.specs.declared.pipe.Pipe.{Pipe}
use Rattle.up_model.specs.declared.plain_packet.PlainPacket.{PlainPacket}
use Rattle.up_outside.specs.States.{SourceState, SinkState}
use Rattle.up_pump.specs.Pumps.{Pumps, blockers_at, pump_at, with_blockers, with_readiness}
use Rattle.up_pump.specs.declared.pump.Pump.{Pump}
use Rattle.up_queue.specs.Lane.{Lane}
use Rattle.up_queue.specs.declared.item.Item.{Item}
use Rattle.up_shape.specs.Stores.{StoreState}
use Rattle.up_strand.specs.History.{History}
use Rattle.up_strand.specs.StrandCalls.{IsLegalItem, ItemFits, WentOut, gave_out}
use Rattle.up_strand.specs.Strands.{IsEndOfLane, StandsFor, StrandFits, want_of}
use Rattle.up_strand.specs.declared.strand.Strand.{Strand}
use Rattle.up_strand.specs.declared.want.Want.TheVariants as wants

one_more : (item : PlainItem) → 0 < length {A = PlainItem} [] + length (item ∷ [])
one_more item = omega arith

module _ {P S K : Type 0} (plain : P → PlainPacket) (reads : S → SourceState) (writes : K → SinkState) (pipes : List Pipe) (past : ℕ → History)
    (net : Net P S K) (stands : NetStands plain reads writes net pipes past) (i : ℕ) (within : i < length (heads pipes)) (lane : ℕ) (d : Strand P S K)
    (asks : want_of (get_or net.strands.items i d) ≡ wants.Output lane) where
  abbrev before : History
  before = past (head_at pipes i)

  -- the strand that takes from the lane
  abbrev pub to : ℕ
  to = get_or net.numbers.items lane 0

  outlet : Contains (outlets_of pipes (head_at pipes i)) lane
  outlet = (waits_for plain reads writes (get_or net.strands.items i d) before (stands.strands i d within) pipes (head_at pipes i) lane (stands.graphs i within) (stands.places i within) asks).0

  pub not_over : before.closed lane ≡ false
  not_over = (waits_for plain reads writes (get_or net.strands.items i d) before (stands.strands i d within) pipes (head_at pipes i) lane (stands.graphs i within) (stands.places i within) asks).1

  is_lane : Contains (lanes pipes) lane
  is_lane = outlet_is_lane pipes (head_at pipes i) lane outlet

  filled : filler_of pipes lane ≡ Some (head_at pipes i)
  filled = outlet_is_filled pipes (head_at pipes i) lane outlet

  pub has_number : lane < length net.numbers.items
  has_number =
      let inside = head_within pipes lane (lane_is_head pipes lane is_lane) in
      let count = stands.shape.number_count in
      omega (arith, inside, count)

  to_within : to < length (heads pipes)
  to_within =
      let number = number_is plain reads writes pipes past net stands lane (lane_is_head pipes lane is_lane) in
      let is = number.3 in
      let inside = number.1 in
      omega (arith, is, inside)

  to_is : head_at pipes to ≡ lane
  to_is =
      let number = number_is plain reads writes pipes past net stands lane (lane_is_head pipes lane is_lane) in
      ap (head_at pipes) number.3 ∙ number.2

  pub lane_within : to < length net.lanes.items
  lane_within = let count = stands.shape.lane_count in let inside = to_within in omega (arith, count, inside)

  pub lane_there : is_some (get_or net.lanes.items to None) ≡ true
  lane_there = stands.shape.lanes to to_within ∙ ap (passes_at is_fed pipes) to_is ∙ lane_is_fed pipes lane is_lane

  module _ (new : Net P S K) (item : Item P) (strand : Strand P S K) (gave : WentOut plain reads writes strand before lane item)
      (same : IsSameButAt net new i) (here : (d : Strand P S K) → get_or new.strands.items i d ≡ strand)
      (others : (k : ℕ) → k ≢ to → get_or new.lanes.items k None ≡ get_or net.lanes.items k None)
      (added : items_at new.lanes.items to ≡ items_at net.lanes.items to ++ item ∷ []) where
    abbrev pub done : History
    done = gave_out plain before lane item

    abbrev later : ℕ → History
    later = now plain reads writes pipes past net stands new i within done

    abbrev Step : ℕ → ℕ → Type 0
    Step k filler = LaneStep plain reads writes pipes past net stands new i within done k filler

    same_done : IsSameButSent before done
    same_done = gave_same plain before lane item

    same_come : (place : ℕ) → items_come (later place) ≡ items_come (past place)
    same_come place = at_each (head_at pipes i) done past (λ (p : ℕ) (g : History). items_come g ≡ items_come (past p)) same_done.come place (λ other. refl)

    same_end : (place : ℕ) → IsEndOfLane (past place).ended → IsEndOfLane (later place).ended
    same_end place ends =
        at_each (head_at pipes i) done past (λ (p : ℕ) (g : History). IsEndOfLane (past p).ended → IsEndOfLane g.ended)
        (λ ends. subst IsEndOfLane (sym same_done.ended) ends) place (λ other ends. ends) ends

    -- the lane of this head was sent the item
    sent_here : items_sent (later (head_at pipes i)) lane ≡ items_sent before lane ++ plain_item plain item ∷ []
    sent_here =
        ap (λ (g : History). items_sent g lane) (now_here plain reads writes pipes past net stands new i within done)
        ∙ gave_here plain before lane item gave.not_over gave.kind

    sent_there : (filler : ℕ) → filler_of pipes (head_at pipes to) ≡ Some filler
        → items_sent (later filler) (head_at pipes to) ≡ items_sent (past filler) (head_at pipes to) ++ plain_item plain item ∷ []
    sent_there filler fills =
        let is : head_at pipes i ≡ filler = same_Some (head_at pipes i) filler (sym filled ∙ ap (filler_of pipes) (sym to_is) ∙ fills) in
        subst (λ (f : ℕ). items_sent (later f) (head_at pipes to) ≡ items_sent (past f) (head_at pipes to) ++ plain_item plain item ∷ []) is
        (subst (λ (place : ℕ). items_sent (later (head_at pipes i)) place ≡ items_sent before place ++ plain_item plain item ∷ []) (sym to_is) sent_here)

    -- and no other lane anything
    sent_elsewhere : (filler other : ℕ) → other ≢ lane → items_sent (later filler) other ≡ items_sent (past filler) other
    sent_elsewhere filler other differs =
        at_each (head_at pipes i) done past (λ (p : ℕ) (g : History). items_sent g other ≡ items_sent (past p) other)
        (gave_other plain before lane item other differs) filler (λ elsewhere. refl)

    abbrev here_step : (filler : ℕ) → filler_of pipes (head_at pipes to) ≡ Some filler → Step to filler
    here_step filler fills = record {
      came = [];
      more = plain_item plain item ∷ [];
      come = same_come (head_at pipes to) ∙ sym (append-nil (items_come (past (head_at pipes to))));
      sent = sent_there filler fills;
      waits = ap (λ (items : List (Item P)). map (plain_item plain) items) added ∙ map-append (plain_item plain) (items_at net.lanes.items to) (item ∷ []);
      ends = same_end (head_at pipes to) (stands.joined to filler to_within fills).ends;
    }

    steps : (k filler : ℕ) → k < length (heads pipes) → filler_of pipes (head_at pipes k) ≡ Some filler → Step k filler
    steps k filler inside fills = elim (eqb_tells k to) [
      | inl at ↦ subst (λ (n : ℕ). Step n filler) (sym at.1) (here_step filler (ap (λ (n : ℕ). filler_of pipes (head_at pipes n)) (sym at.1) ∙ fills))
      | inr other ↦ record {
        came = [];
        more = [];
        come = same_come (head_at pipes k) ∙ sym (append-nil (items_come (past (head_at pipes k))));
        sent = sent_elsewhere filler (head_at pipes k) (λ is. other.1 (apart plain reads writes pipes past net stands k to inside to_within (is ∙ sym to_is)))
            ∙ sym (append-nil (items_sent (past filler) (head_at pipes k)));
        waits = ap (λ (l : Option (Lane P)). map (plain_item plain) (items_at (l ∷ []) 0)) (others k other.1)
            ∙ sym (append-nil (waiting plain reads writes pipes past net k));
        ends = same_end (head_at pipes k) (stands.joined k filler inside fills).ends;
      }
    ]

    keeps : KeepsSources pipes past later
    keeps place source =
        at_each (head_at pipes i) done past (λ (p : ℕ) (g : History). GaveNoMore (past p) g)
        (record { flow = same_done.flow; read = same_done.read; fed = same_done.fed; ended = same_done.ended })
        place (λ other. record { flow = refl; read = refl; fed = refl; ended = refl })

    on : (head : ℕ) → GoesOn (past head) (later head)
    on head = at_each (head_at pipes i) done past (λ (p : ℕ) (g : History). GoesOn (past p) g) (record { source = same_done.source; sinks = same_done.sinks }) head
        (λ other. record { source = refl; sinks = refl })

    module _ (due : IsDue net.pumps i) (room : IsFull (get_or net.lanes.items to None) → ⊥) (loop_is : new.pumps ≡ with_readiness net.pumps to true) where
      abbrev pump : Pump
      pump = record (pump_at net.pumps to) { ready = true }

      at_to : pump_at new.pumps to ≡ pump
      at_to =
          let inside = to_within in
          let count = stands.shape.pumps in
          ap (λ (loop : Pumps). pump_at loop to) loop_is ∙ pump_same net.pumps to pump (omega (arith, inside, count))

      at_others : (k : ℕ) → k ≢ to → pump_at new.pumps k ≡ pump_at net.pumps k
      at_others k other = ap (λ (loop : Pumps). pump_at loop k) loop_is ∙ pump_other net.pumps to pump k other

      same_blockers : (k : ℕ) → blockers_at new.pumps k ≡ blockers_at net.pumps k
      same_blockers k = elim (eqb_tells k to) [
        | inl at ↦ subst (λ (n : ℕ). blockers_at new.pumps n ≡ blockers_at net.pumps n) (sym at.1) (ap (λ (p : Pump). p.blockers) at_to)
        | inr other ↦ ap (λ (p : Pump). p.blockers) (at_others k other.1)
      ]

      ready_still : (k : ℕ) → (pump_at net.pumps k).ready ≡ true → (pump_at new.pumps k).ready ≡ true
      ready_still k ready = elim (eqb_tells k to) [
        | inl at ↦ ap (λ (n : ℕ). (pump_at new.pumps n).ready) at.1 ∙ ap (λ (p : Pump). p.ready) at_to
        | inr other ↦ ap (λ (p : Pump). p.ready) (at_others k other.1) ∙ ready
      ]

      rested_there : (k : ℕ) → (pump_at new.pumps k).ready ≡ false
          → ((pump_at net.pumps k).ready ≡ false) × (items_at new.lanes.items k ≡ items_at net.lanes.items k)
      rested_there k rests = elim (eqb_tells k to) [
        | inl at ↦ absurd (not_both (pump_at new.pumps k).ready (ap (λ (n : ℕ). (pump_at new.pumps n).ready) at.1 ∙ ap (λ (p : Pump). p.ready) at_to) rests)
        | inr other ↦ (sym (ap (λ (p : Pump). p.ready) (at_others k other.1)) ∙ rests, ap (λ (l : Option (Lane P)). items_at (l ∷ []) 0) (others k other.1))
      ]

      still_full : (n : ℕ) → IsFull (get_or net.lanes.items n None) → IsFull (get_or new.lanes.items n None)
      still_full n full = elim (eqb_tells n to) [
        | inl at ↦ absurd (room (subst (λ (m : ℕ). IsFull (get_or net.lanes.items m None)) at.1 full))
        | inr other ↦ subst IsFull (sym (others n other.1)) full
      ]

      still_pumped : ArePumped new pipes
      still_pumped =
          let free = same_blockers i ∙ due.free in
          pumped_on net new pipes i same stands.pumped
          (λ d rests. absurd (not_both (pump_at new.pumps i).ready (ready_still i due.ready) rests))
          (λ k other rests. rested_there k rests)
          (λ d held. absurd (held free))
          (λ k other. let blockers = same_blockers k in omega (arith, blockers))
          (λ k d lane other inside held waits full. still_full (get_or net.numbers.items lane 0) full)
          (omega (arith, free))

      sent : IsLegalItem plain item → NetStands plain reads writes new pipes later
      sent legal =
          stands_now plain reads writes pipes past net stands new i within done same
          (λ d. subst (λ (s : Strand P S K). StandsFor plain reads writes s done) (sym (here d)) gave.stands)
          same_done.pipes same_done.head steps
          (more_are (IsLegalItem plain) net.lanes.items new.lanes.items to item others stands.legal added legal) still_pumped

      turned_by_sending : {F : Type 0} (store : StoreState F) → IsLegalItem plain item → Turned plain reads writes pipes past net new store store turns.Moved
      turned_by_sending store legal =
          let fills : filler_of pipes (head_at pipes to) ≡ Some (head_at pipes i) = ap (filler_of pipes) to_is ∙ filled in
          turned_by_move plain reads writes pipes past net stands new i within done keeps store store (sent legal) on (omega arith)
          (fewer_turns plain reads writes pipes past net stands new i within done keeps (sent legal) steps to (head_at pipes i) to_within fills
          (here_step (head_at pipes i) fills) (one_more (plain_item plain item)))

  -- the strand gave the item out, and then it was put into the lane of this number, or into none
  module _ (mid put : Net P S K) (strand : Strand P S K) (item : Item P) (at : ℕ) (is : at ≡ to)
      (strands_are : mid ≡ record net { strands = mid.strands }) (out : mid.strands.items ≡ set net.strands.items i strand)
      (lanes_are : put ≡ record mid { lanes = put.lanes }) (others : OtherLanesStay mid.lanes.items put.lanes.items at) where
    same_mid : IsSameButAt net mid i
    same_mid = same_but_strand net net mid i (same_itself net i) strand strands_are out

    lanes_mid : mid.lanes.items ≡ net.lanes.items
    lanes_mid = ap (λ (n : Net P S K). n.lanes.items) strands_are

    same_put : IsSameButAt net put i
    same_put = same_but_lanes net mid put i same_mid lanes_are at (ap (λ (ls : List (Option (Lane P))). is_some (get_or ls at None)) lanes_mid ∙ ap (λ (n : ℕ). is_some (get_or net.lanes.items n None)) is ∙ lane_there) others

    pub pumps_put : put.pumps ≡ net.pumps
    pumps_put = ap (λ (n : Net P S K). n.pumps) lanes_are ∙ ap (λ (n : Net P S K). n.pumps) strands_are

    strands_put : put.strands.items ≡ set net.strands.items i strand
    strands_put = ap (λ (n : Net P S K). n.strands.items) lanes_are ∙ out

    inside : i < length net.strands.items
    inside = let count = stands.shape.strands in omega (arith, count, within)

    pub strand_put : (e : Strand P S K) → get_or put.strands.items i e ≡ strand
    strand_put e = ap (λ (ss : List (Strand P S K)). get_or ss i e) strands_put ∙ get_or-set_same net.strands.items i strand e inside

    -- there was room
    module _ (new : Net P S K) (new_is : new ≡ record put { pumps = new.pumps }) (ready : new.pumps ≡ with_readiness put.pumps at true)
        (added : items_at put.lanes.items at ≡ items_at mid.lanes.items at ++ item ∷ []) where
      same_new : IsSameButAt net new i
      same_new = same_but_pumps net put new i same_put new_is
          (ap (λ (loop : Pumps). length loop.pumps) ready ∙ pump_count put.pumps at (record (pump_at put.pumps at) { ready = true }))

      lanes_new : new.lanes.items ≡ put.lanes.items
      lanes_new = ap (λ (n : Net P S K). n.lanes.items) new_is

      here_new : (e : Strand P S K) → get_or new.strands.items i e ≡ strand
      here_new e = ap (λ (n : Net P S K). get_or n.strands.items i e) new_is ∙ strand_put e

      others_new : (k : ℕ) → k ≢ to → get_or new.lanes.items k None ≡ get_or net.lanes.items k None
      others_new k other =
          ap (λ (ls : List (Option (Lane P))). get_or ls k None) lanes_new ∙ others.others k (λ same. other (same ∙ is))
          ∙ ap (λ (ls : List (Option (Lane P))). get_or ls k None) lanes_mid

      added_new : items_at new.lanes.items to ≡ items_at net.lanes.items to ++ item ∷ []
      added_new =
          subst (λ (n : ℕ). items_at new.lanes.items n ≡ items_at net.lanes.items n ++ item ∷ []) is
          (ap (λ (ls : List (Option (Lane P))). items_at ls at) lanes_new ∙ added ∙ ap (λ (ls : List (Option (Lane P))). items_at ls at ++ item ∷ []) lanes_mid)

      pub sent_turned : {F : Type 0} (store : StoreState F) → WentOut plain reads writes strand before lane item → IsDue net.pumps i → IsLegalItem plain item
          → (IsFull (get_or mid.lanes.items at None) → ⊥) → Turned plain reads writes pipes past net new store store turns.Moved
      sent_turned store gave due legal room =
          turned_by_sending new item strand gave same_new here_new others_new added_new due
          (λ full. room (subst (λ (ls : List (Option (Lane P))). IsFull (get_or ls at None)) (sym lanes_mid)
          (subst (λ (n : ℕ). IsFull (get_or net.lanes.items n None)) (sym is) full)))
          (ready ∙ ap (λ (loop : Pumps). with_readiness loop at true) pumps_put ∙ ap (λ (n : ℕ). with_readiness net.pumps n true) is)
          store legal

      pub sent_fits : {F : Type 0} (fits : P → F → Type 0) (family : F) → NetFits net fits family → StrandFits strand fits family → ItemFits fits family item
          → NetFits new fits family
      sent_fits fits family fit good item_good =
          fits_on fits family net new i same_new fit (λ e. subst (λ (s : Strand P S K). StrandFits s fits family) (sym (here_new e)) good)
          (more_are (ItemFits fits family) net.lanes.items new.lanes.items to item others_new fit.lanes added_new item_good)

    -- there was none, and the strand took it back
    module _ (kept new : Net P S K) (back : Strand P S K) (unchanged : put.lanes.items ≡ mid.lanes.items)
        (back_is : kept ≡ record put { strands = kept.strands }) (took : kept.strands.items ≡ set put.strands.items i back)
        (new_is : new ≡ record kept { pumps = with_blockers kept.pumps i 1 }) where
      same_kept : IsSameButAt net kept i
      same_kept = same_but_strand net put kept i same_put back back_is took

      pumps_kept : kept.pumps ≡ net.pumps
      pumps_kept = ap (λ (n : Net P S K). n.pumps) back_is ∙ pumps_put

      pumps_back : new.pumps ≡ with_blockers kept.pumps i 1
      pumps_back = ap (λ (n : Net P S K). n.pumps) new_is

      same_back : IsSameButAt net new i
      same_back = same_but_pumps net kept new i same_kept (new_is ∙ ap (λ (loop : Pumps). record kept { pumps = loop }) (sym pumps_back))
          (ap (λ (loop : Pumps). length loop.pumps) pumps_back ∙ pump_count kept.pumps i (record (pump_at kept.pumps i) { blockers = 1 }))

      lanes_back : new.lanes.items ≡ net.lanes.items
      lanes_back = ap (λ (n : Net P S K). n.lanes.items) new_is ∙ ap (λ (n : Net P S K). n.lanes.items) back_is ∙ unchanged ∙ lanes_mid

      here_back : (e : Strand P S K) → get_or new.strands.items i e ≡ back
      here_back e =
          let count = ap length strands_put ∙ length-set net.strands.items i strand in
          let there = inside in
          ap (λ (n : Net P S K). get_or n.strands.items i e) new_is ∙ ap (λ (ss : List (Strand P S K)). get_or ss i e) took
          ∙ get_or-set_same put.strands.items i back e (omega (arith, count, there))

      pub held_turned : {F : Type 0} (store : StoreState F) → StandsFor plain reads writes back before → want_of back ≡ wants.Output lane → IsDue net.pumps i
          → IsFull (get_or mid.lanes.items at None) → Turned plain reads writes pipes past net new store store turns.Moved
      held_turned store stood waits due full =
          let full_to : IsFull (get_or net.lanes.items to None) =
          subst (λ (n : ℕ). IsFull (get_or net.lanes.items n None)) is (subst (λ (ls : List (Option (Lane P))). IsFull (get_or ls at None)) lanes_mid full) in
          held_back plain reads writes pipes past net stands new i within same_back lanes_back due
          (λ e. subst (λ (s : Strand P S K). StandsFor plain reads writes s before) (sym (here_back e)) stood)
          store store (pumps_back ∙ ap (λ (loop : Pumps). with_blockers loop i 1) pumps_kept)
          (λ e. record {
            lane = lane;
            wants = ap (λ (s : Strand P S K). want_of s) (here_back e) ∙ waits;
            full = subst (λ (ls : List (Option (Lane P))). IsFull (get_or ls (get_or new.numbers.items lane 0) None)) (sym lanes_back)
                (subst (λ (numbers : List ℕ). IsFull (get_or net.lanes.items (get_or numbers lane 0) None)) (sym same_back.numbers) full_to);
          })
          (omega arith)

      pub held_fits : {F : Type 0} (fits : P → F → Type 0) (family : F) → NetFits net fits family → StrandFits back fits family → NetFits new fits family
      held_fits fits family fit good =
          fits_on fits family net new i same_back fit (λ e. subst (λ (s : Strand P S K). StrandFits s fits family) (sym (here_back e)) good)
          (λ k. subst (λ (ls : List (Option (Lane P))). All (ItemFits fits family) (items_at ls k)) (sym lanes_back) (fit.lanes k))
