-- A net of which a strand took the next item of its lane.
use Rattle.std.proofs.Common.{◌≡◌, ◌≢◌, ℕ, ◌+◌, ◌-◌, ◌<◌, ◌≤◌, List, [], ◌∷◌, ◌++◌, length, get_or, set, map, All, Option, None, Some, is_some, Bool, true, false, refl, sym, ap, ◌∙◌, subst, append-nil, arith, inl, inr}
use Rattle.std.proofs.lemmas.Bool.Decides.{eqb_tells}
use Rattle.std.proofs.lemmas.List.{get_or-set_same, length-set}
use Rattle.up_engine.proofs.Asking.{asks_for_input, waits_for}
use Rattle.up_engine.proofs.Fillers.{fed_is_lane, head_there, lane_is_filled, lane_is_head, outlet_is_filled, outlet_is_lane, source_is_unfed}
use Rattle.up_engine.proofs.Fitting.{fits_on, rest_are}
use Rattle.up_engine.proofs.GoneOn.{gone_on, same_sent, still_step, went}
use Rattle.up_engine.proofs.Items.{at_each, come_more, come_of, end_of_lane}
use Rattle.up_engine.proofs.Potentials.{GaveNoMore, KeepsSources, fewer_turns, turned_by_move}
use Rattle.up_engine.proofs.Pumping.{IsDue, pumped_on}
use Rattle.up_engine.proofs.Standing.{IsSameButAt, LaneStep, filler_is, filler_number, now, now_here, number_is, same_but_lanes, same_but_pumps, same_but_strand, same_itself, stands_now, stands_there, strand_of_it, waiting}
use Rattle.up_engine.proofs.Still.{rested}
use Rattle.up_engine.specs.Joins.{PlainItem, filler_of, items_come, items_sent, plain_item}
use Rattle.up_engine.specs.Moves.{IsFreed, OtherLanesStay}
use Rattle.up_engine.specs.Nets.{ArePumped, IsFull, NetFits, NetStands, Turned, head_at, items_at}
use Rattle.up_engine.specs.declared.net.Net.{Net}
use Rattle.up_engine.specs.declared.net.Turn.TheVariants as turns
use Rattle.up_model.specs.Inputs.{ends_at_source, passes_at}
use Rattle.up_model.specs.Plans.{heads, is_fed}
use Rattle.up_model.specs.declared.outcome.Outcome.{Outcome}
use Rattle.up_model.specs.declared.pipe.Pipe.{Pipe}
use Rattle.up_model.specs.declared.plain_packet.PlainPacket.{PlainPacket}
use Rattle.up_outside.specs.States.{SourceState, SinkState}
use Rattle.up_pump.specs.Pumps.{Pumps, blockers_at, pump_at, with_readiness}
use Rattle.up_queue.specs.Lane.{Lane}
use Rattle.up_queue.specs.declared.item.Item.{Item}
use Rattle.up_shape.specs.Stores.{StoreState}
use Rattle.up_strand.specs.History.{History}
use Rattle.up_strand.specs.StrandCalls.{IsLegalItem, ItemFits, SteppedItem, packets_in}
use Rattle.up_strand.specs.Strands.{IsEndOfLane, StandsFor, StandsForSome, StrandFits, want_of}
use Rattle.up_strand.specs.declared.strand.Strand.{Strand}
use Rattle.up_strand.specs.declared.want.Want.TheVariants as wants

true_false : (fed : Bool) → fed ≡ true → fed ≡ false → ⊥
true_false fed is none = absurd (let no : true ≡ false = sym is ∙ none in cc)

one_came : (item : PlainItem) → 0 < length (item ∷ []) + length {A = PlainItem} []
one_came item = omega arith

module _ {P S K : Type 0} (plain : P → PlainPacket) (reads : S → SourceState) (writes : K → SinkState) (pipes : List Pipe) (past : ℕ → History)
    (net : Net P S K) (stands : NetStands plain reads writes net pipes past) (i : ℕ) (within : i < length (heads pipes)) (d : Strand P S K)
    (asks : want_of (get_or net.strands.items i d) ≡ wants.Input) where
  abbrev before : History
  before = past (head_at pipes i)

  pub going : before.ended ≡ None
  going = (asks_for_input plain reads writes (get_or net.strands.items i d) before (stands.strands i d within) asks).0

  pub fed_here : passes_at is_fed pipes (head_at pipes i) ≡ true
  fed_here =
      let fed = (asks_for_input plain reads writes (get_or net.strands.items i d) before (stands.strands i d within) asks).1 in
      ap (λ (ps : List Pipe). passes_at is_fed ps (head_at pipes i)) (sym (stands.graphs i within)) ∙ ap (λ (n : ℕ). passes_at is_fed before.pipes n) (sym (stands.places i within)) ∙ fed

  pub lane_there : is_some (get_or net.lanes.items i None) ≡ true
  lane_there = stands.shape.lanes i within ∙ fed_here

  pub filled_here : (filler : ℕ) × (filler_of pipes (head_at pipes i) ≡ Some filler)
  filled_here = lane_is_filled pipes stands.shape.well (head_at pipes i) (fed_is_lane pipes (head_at pipes i) (head_there pipes i within) fed_here)

  pub filler_there : get_or net.fillers.items i 0 < length (heads pipes)
  filler_there = (filler_number plain reads writes pipes past net stands i filled_here.0 within filled_here.1).0

  module _ (new : Net P S K) (item : Item P) (strand : Strand P S K) (stepped : SteppedItem plain reads writes strand before item)
      (same : IsSameButAt net new i) (here : (d : Strand P S K) → get_or new.strands.items i d ≡ strand)
      (others : (k : ℕ) → k ≢ i → get_or new.lanes.items k None ≡ get_or net.lanes.items k None)
      (first : items_at net.lanes.items i ≡ item ∷ items_at new.lanes.items i) where
    abbrev pub done : History
    done = went plain reads writes pipes past net stands new i within strand (packets_in plain item) stepped.step going d

    abbrev later : ℕ → History
    later = now plain reads writes pipes past net stands new i within done

    abbrev Step : ℕ → ℕ → Type 0
    Step k filler = LaneStep plain reads writes pipes past net stands new i within done k filler

    came_here : items_come done ≡ items_come before ++ plain_item plain item ∷ []
    came_here =
        ap (λ (e : Option Outcome). come_of (before.came ++ packets_in plain item) e) stepped.ended ∙ come_more plain before.came item
        ∙ ap (λ (e : Option Outcome). come_of before.came e ++ plain_item plain item ∷ []) (sym going)

    abbrev here_step : (filler : ℕ) → filler_of pipes (head_at pipes i) ≡ Some filler → Step i filler
    here_step filler filled =
        let is = now_here plain reads writes pipes past net stands new i within done in
        record {
          came = plain_item plain item ∷ [];
          more = [];
          come = ap items_come is ∙ came_here;
          sent = same_sent plain reads writes pipes past net stands new i within strand (packets_in plain item) stepped.step going d (head_at pipes i) filler (head_there pipes i within) filled
              ∙ sym (append-nil (items_sent (past filler) (head_at pipes i)));
          waits = ap (λ (items : List (Item P)). map (plain_item plain) items) (sym first) ∙ sym (append-nil (waiting plain reads writes pipes past net i));
          ends = subst (λ (g : History). IsEndOfLane g.ended) (sym is) (subst IsEndOfLane (sym stepped.ended) (end_of_lane plain item));
        }

    pub steps : (k filler : ℕ) → k < length (heads pipes) → filler_of pipes (head_at pipes k) ≡ Some filler → Step k filler
    steps k filler inside filled = elim (eqb_tells k i) [
      | inl at ↦ subst (λ (n : ℕ). Step n filler) (sym at.1) (here_step filler (ap (λ (n : ℕ). filler_of pipes (head_at pipes n)) (sym at.1) ∙ filled))
      | inr other ↦
          still_step plain reads writes pipes past net stands new i within strand (packets_in plain item) stepped.step going d k filler inside other.1 filled
          (ap (λ (lane : Option (Lane P)). items_at (lane ∷ []) 0) (others k other.1))
    ]

    keeps : KeepsSources pipes past later
    keeps place source =
        at_each (head_at pipes i) done past (λ (p : ℕ) (g : History). passes_at ends_at_source pipes p ≡ true → GaveNoMore (past p) g)
        (λ is. absurd (true_false (passes_at is_fed pipes (head_at pipes i)) fed_here (source_is_unfed pipes (head_at pipes i) is)))
        place (λ other is. record { flow = refl; read = refl; fed = refl; ended = refl }) source

    still_legal : (k : ℕ) → All (IsLegalItem plain) (items_at new.lanes.items k)
    still_legal = rest_are (IsLegalItem plain) net.lanes.items new.lanes.items i item others stands.legal first

    module _ (due : IsDue net.pumps i)
        (ready : (k : ℕ) → (pump_at new.pumps k).ready ≡ (pump_at net.pumps k).ready)
        (fewer : (k : ℕ) → blockers_at new.pumps k ≤ blockers_at net.pumps k)
        (freed : (d : Strand P S K) → get_or net.fillers.items i 0 ≢ i
        → want_of (get_or net.strands.items (get_or net.fillers.items i 0) d) ≡ wants.Output (head_at pipes i)
        → blockers_at new.pumps (get_or net.fillers.items i 0) ≤ blockers_at net.pumps (get_or net.fillers.items i 0) - 1) where
      -- no other strand that is held back still waits for this lane
      not_for_it : (k lane : ℕ) (d : Strand P S K) → k ≢ i → k < length (heads pipes) → blockers_at new.pumps k ≢ 0
          → want_of (get_or net.strands.items k d) ≡ wants.Output lane → lane ≡ head_at pipes i → filler_of pipes lane ≡ Some (head_at pipes k) → ⊥
      not_for_it k lane d other inside held waits at filled =
          let is : get_or net.fillers.items i 0 ≡ k = filler_is plain reads writes pipes past net stands i k within inside (ap (filler_of pipes) (sym at) ∙ filled) in
          let wanted : want_of (get_or net.strands.items (get_or net.fillers.items i 0) d) ≡ wants.Output (head_at pipes i) =
          ap (λ (n : ℕ). want_of (get_or net.strands.items n d)) is ∙ waits ∙ ap wants.Output at in
          let less : blockers_at new.pumps k ≤ blockers_at net.pumps k - 1 =
          subst (λ (n : ℕ). blockers_at new.pumps n ≤ blockers_at net.pumps n - 1) is (freed d (λ same. other (sym is ∙ same)) wanted) in
          let few = stands.pumped.few k inside in
          held (omega (arith, less, few))

      still_full : (k : ℕ) (d : Strand P S K) (lane : ℕ) → k ≢ i → k < length (heads pipes) → blockers_at new.pumps k ≢ 0
          → want_of (get_or net.strands.items k d) ≡ wants.Output lane
          → IsFull (get_or net.lanes.items (get_or net.numbers.items lane 0) None) → IsFull (get_or new.lanes.items (get_or net.numbers.items lane 0) None)
      still_full k d lane other inside held waits full =
          let outlet = (waits_for plain reads writes (get_or net.strands.items k d) (past (head_at pipes k)) (stands.strands k d inside) pipes (head_at pipes k) lane
          (stands.graphs k inside) (stands.places k inside) waits).0 in
          let number = number_is plain reads writes pipes past net stands lane (lane_is_head pipes lane (outlet_is_lane pipes (head_at pipes k) lane outlet)) in
          elim (eqb_tells number.0 i) [
            | inl at ↦ absurd (not_for_it k lane d other inside held waits (sym number.2 ∙ ap (head_at pipes) at.1) (outlet_is_filled pipes (head_at pipes k) lane outlet))
            | inr differs ↦ subst IsFull (sym (others (get_or net.numbers.items lane 0) (λ same. differs.1 (sym number.3 ∙ same)))) full
          ]

      still_pumped : ArePumped new pipes
      still_pumped =
          let few = fewer i in
          let free = due.free in
          pumped_on net new pipes i same stands.pumped
          (λ d rests. absurd (true_false (pump_at net.pumps i).ready due.ready (sym (ready i) ∙ rests)))
          (λ k other rests. (sym (ready k) ∙ rests, ap (λ (lane : Option (Lane P)). items_at (lane ∷ []) 0) (others k other)))
          (λ d held. absurd (held (omega (arith, few, free))))
          (λ k other. fewer k)
          still_full
          (omega (arith, few, free))

      received : NetStands plain reads writes new pipes later
      received =
          stands_now plain reads writes pipes past net stands new i within done same
          (λ d. subst (λ (s : Strand P S K). StandsFor plain reads writes s done) (sym (here d)) stepped.step.stands)
          refl refl steps still_legal still_pumped

      pub turned_by_item : {F : Type 0} (old after : StoreState F) → old.drawn ≤ after.drawn → Turned plain reads writes pipes past net new old after turns.Moved
      turned_by_item old after drawn =
          let filler = filled_here in
          turned_by_move plain reads writes pipes past net stands new i within done keeps old after received
          (gone_on plain reads writes pipes past net stands new i within strand (packets_in plain item) stepped.step going d) drawn
          (fewer_turns plain reads writes pipes past net stands new i within done keeps received steps i filler.0 within filler.1 (here_step filler.0 filler.1) (one_came (plain_item plain item)))

  -- the lane of the head was taken from, and then the strand took the item
  module _ (took mid : Net P S K) (item : Item P) (strand : Strand P S K)
      (lanes_are : took ≡ record net { lanes = took.lanes }) (others : OtherLanesStay net.lanes.items took.lanes.items i)
      (first : items_at net.lanes.items i ≡ item ∷ items_at took.lanes.items i)
      (strands_are : mid ≡ record took { strands = mid.strands }) (put : mid.strands.items ≡ set took.strands.items i strand) where
    same_took : IsSameButAt net took i
    same_took = same_but_lanes net net took i (same_itself net i) lanes_are i lane_there others

    same_mid : IsSameButAt net mid i
    same_mid = same_but_strand net took mid i same_took strand strands_are put

    lanes_mid : mid.lanes.items ≡ took.lanes.items
    lanes_mid = ap (λ (n : Net P S K). n.lanes.items) strands_are

    pumps_mid : mid.pumps ≡ net.pumps
    pumps_mid = ap (λ (n : Net P S K). n.pumps) strands_are ∙ ap (λ (n : Net P S K). n.pumps) lanes_are

    strand_here : (d : Strand P S K) → get_or mid.strands.items i d ≡ strand
    strand_here d =
        let count = ap (λ (n : Net P S K). length n.strands.items) lanes_are in
        let all = stands.shape.strands in
        ap (λ (strands : List (Strand P S K)). get_or strands i d) put ∙ get_or-set_same took.strands.items i strand d (omega (arith, count, all, within))

    pub stands_here : (old : Strand P S K) → old ≡ get_or took.strands.items i old → StandsFor plain reads writes old before
    stands_here old is = stands_there plain reads writes pipes past net stands i within old (strand_of_it net took i old lanes_are is)

    -- the strand that fills the lane stands for something, and has a pump
    pub filler_stands : SteppedItem plain reads writes strand before item → (d : Strand P S K) → StandsForSome plain reads writes (get_or mid.strands.items (get_or mid.fillers.items i 0) d)
    filler_stands stepped d =
        let f = get_or net.fillers.items i 0 in
        let is : get_or mid.fillers.items i 0 ≡ f = ap (λ (fillers : List ℕ). get_or fillers i 0) same_mid.fillers in
        let some : StandsForSome plain reads writes (get_or mid.strands.items f d) = elim (eqb_tells f i) [
          | inl at ↦ subst (λ (n : ℕ). StandsForSome plain reads writes (get_or mid.strands.items n d)) (sym at.1)
              (subst (StandsForSome plain reads writes) (sym (strand_here d)) (_, stepped.step.stands))
          | inr other ↦ subst (StandsForSome plain reads writes) (sym (same_mid.strands f d other.1)) (past (head_at pipes f), stands.strands f d filler_there)
        ] in
        subst (λ (n : ℕ). StandsForSome plain reads writes (get_or mid.strands.items n d)) (sym is) some

    pub filler_within : (get_or mid.fillers.items i 0 < length mid.strands.items) × (get_or mid.fillers.items i 0 < length mid.pumps.pumps)
    filler_within =
        let is : get_or mid.fillers.items i 0 ≡ get_or net.fillers.items i 0 = ap (λ (fillers : List ℕ). get_or fillers i 0) same_mid.fillers in
        let there = filler_there in
        let strands = same_mid.strand_count in
        let all = stands.shape.strands in
        let pumps = same_mid.pumps in
        let loop = stands.shape.pumps in
        (omega (arith, is, there, strands, all), omega (arith, is, there, pumps, loop))

    module _ (new : Net P S K) (new_is : new ≡ record mid { pumps = new.pumps }) (freed : IsFreed mid i new.pumps) where
      same_new : IsSameButAt net new i
      same_new = same_but_pumps net mid new i same_mid new_is freed.count

      lanes_new : new.lanes.items ≡ took.lanes.items
      lanes_new = ap (λ (n : Net P S K). n.lanes.items) new_is ∙ lanes_mid

      here_new : (d : Strand P S K) → get_or new.strands.items i d ≡ strand
      here_new d = ap (λ (n : Net P S K). get_or n.strands.items i d) new_is ∙ strand_here d

      others_new : (k : ℕ) → k ≢ i → get_or new.lanes.items k None ≡ get_or net.lanes.items k None
      others_new k other = ap (λ (lanes : List (Option (Lane P))). get_or lanes k None) lanes_new ∙ others.others k other

      first_new : items_at net.lanes.items i ≡ item ∷ items_at new.lanes.items i
      first_new = first ∙ ap (λ (lanes : List (Option (Lane P))). item ∷ items_at lanes i) (sym lanes_new)

      freed_new : (d : Strand P S K) → get_or net.fillers.items i 0 ≢ i
          → want_of (get_or net.strands.items (get_or net.fillers.items i 0) d) ≡ wants.Output (head_at pipes i)
          → blockers_at new.pumps (get_or net.fillers.items i 0) ≤ blockers_at net.pumps (get_or net.fillers.items i 0) - 1
      freed_new d other waits =
          let f = get_or net.fillers.items i 0 in
          let is : get_or mid.fillers.items i 0 ≡ f = ap (λ (fillers : List ℕ). get_or fillers i 0) same_mid.fillers in
          let head : get_or mid.heads.items i 0 ≡ head_at pipes i = ap (λ (heads : List ℕ). get_or heads i 0) (same_mid.head_places ∙ stands.shape.head_places) in
          let wanted : want_of (get_or mid.strands.items (get_or mid.fillers.items i 0) d) ≡ wants.Output (get_or mid.heads.items i 0) =
          ap (λ (n : ℕ). want_of (get_or mid.strands.items n d)) is ∙ ap (λ (s : Strand P S K). want_of s) (same_mid.strands f d other) ∙ waits ∙ ap wants.Output (sym head) in
          subst (λ (loop : Pumps). blockers_at new.pumps f ≤ blockers_at loop f - 1) pumps_mid
          (subst (λ (n : ℕ). blockers_at new.pumps n ≤ blockers_at mid.pumps n - 1) is (freed.freed d wanted))

      pub received_turned : {F : Type 0} (old after : StoreState F) → SteppedItem plain reads writes strand before item → IsDue net.pumps i → old.drawn ≤ after.drawn
          → Turned plain reads writes pipes past net new old after turns.Moved
      received_turned old after stepped due drawn =
          turned_by_item new item strand stepped same_new here_new others_new first_new due
          (λ k. freed.ready k ∙ ap (λ (loop : Pumps). (pump_at loop k).ready) pumps_mid)
          (λ k. subst (λ (loop : Pumps). blockers_at new.pumps k ≤ blockers_at loop k) pumps_mid (freed.fewer k))
          freed_new old after drawn

      pub received_fits : {F : Type 0} (fits : P → F → Type 0) (family : F) → NetFits net fits family → StrandFits strand fits family → NetFits new fits family
      received_fits fits family fit good =
          fits_on fits family net new i same_new fit (λ d. subst (λ (s : Strand P S K). StrandFits s fits family) (sym (here_new d)) good)
          (rest_are (ItemFits fits family) net.lanes.items new.lanes.items i item others_new fit.lanes first_new)

  -- its lane was empty, and it rests from now on
  module _ (took new : Net P S K) (lanes_are : took ≡ record net { lanes = took.lanes }) (others : OtherLanesStay net.lanes.items took.lanes.items i)
      (unchanged : took.lanes.items ≡ net.lanes.items) (new_is : new ≡ record took { pumps = new.pumps }) (rests : new.pumps ≡ with_readiness took.pumps i false) where
    same_empty : IsSameButAt net new i
    same_empty =
        same_but_pumps net took new i (same_but_lanes net net took i (same_itself net i) lanes_are i lane_there others) new_is
        (ap (λ (loop : Pumps). length loop.pumps) rests ∙ length-set took.pumps.pumps i (record (pump_at took.pumps i) { ready = false }))

    same_strands : new.strands.items ≡ net.strands.items
    same_strands = ap (λ (n : Net P S K). n.strands.items) new_is ∙ ap (λ (n : Net P S K). n.strands.items) lanes_are

    same_lanes : new.lanes.items ≡ net.lanes.items
    same_lanes = ap (λ (n : Net P S K). n.lanes.items) new_is ∙ unchanged

    pub waits_turned : {F : Type 0} (old after : StoreState F) → IsDue net.pumps i → ((e : Strand P S K) → want_of (get_or net.strands.items i e) ≡ wants.Input)
        → items_at took.lanes.items i ≡ [] → old.drawn ≤ after.drawn → Turned plain reads writes pipes past net new old after turns.Moved
    waits_turned old after due waits none drawn =
        rested plain reads writes pipes past net stands new i within same_empty same_lanes due
        (λ e. subst (λ (ss : List (Strand P S K)). StandsFor plain reads writes (get_or ss i e) before) (sym same_strands) (stands.strands i e within))
        old after (rests ∙ ap (λ (n : Net P S K). with_readiness n.pumps i false) lanes_are)
        (λ e. inr (
          ap (λ (ss : List (Strand P S K)). want_of (get_or ss i e)) same_strands ∙ waits e,
          ap (λ (n : Net P S K). items_at n.lanes.items i) new_is ∙ none,
        ))
        drawn

    pub waits_fits : {F : Type 0} (fits : P → F → Type 0) (family : F) → NetFits net fits family → NetFits new fits family
    waits_fits fits family fit =
        fits_on fits family net new i same_empty fit
        (λ e. subst (λ (ss : List (Strand P S K)). StrandFits (get_or ss i e) fits family) (sym same_strands) (fit.strands i e (let count = stands.shape.strands in omega (arith, count, within))))
        (λ k. subst (λ (ls : List (Option (Lane P))). All (ItemFits fits family) (items_at ls k)) (sym same_lanes) (fit.lanes k))
