-- A net after a step of one of its strands.
use Rattle.std.proofs.Common.{◌≡◌, ◌≢◌, ℕ, ◌<◌, List, ◌++◌, length, get_or, set, map, true, All, Option, None, Some, is_some, slice_get, refl, sym, ap, ◌∙◌, subst, append_assoc, inl, inr}
use Rattle.std.specs.List.{Contains}
use Rattle.std.proofs.lemmas.Bool.Decides.{eqb_tells}
use Rattle.std.proofs.lemmas.List.{get_or-set_other, length-set}
use Rattle.std.proofs.lemmas.Option.{get_or_from_slice_get, slice_get_within}
use Rattle.up_engine.proofs.Fillers.{head_number}
use Rattle.up_engine.proofs.Items.{at_here, at_other, at_place}
use Rattle.up_engine.specs.Joins.{PlainItem, filler_of, items_come, items_sent, plain_item}
use Rattle.up_engine.specs.Moves.{HasSameRoom, OtherLanesStay}
use Rattle.up_engine.specs.Nets.{ArePumped, IsNetOf, NetStands, head_at, items_at}
use Rattle.up_engine.specs.declared.net.Net.{Net}
use Rattle.up_model.specs.Plans.{heads}
use Rattle.up_model.specs.declared.pipe.Pipe.{Pipe}
use Rattle.up_model.specs.declared.plain_packet.PlainPacket.{PlainPacket}
use Rattle.up_outside.specs.States.{SourceState, SinkState}
use Rattle.up_queue.specs.Lane.{Lane}
use Rattle.up_strand.specs.History.{History}
use Rattle.up_strand.specs.StrandCalls.{IsLegalItem}
use Rattle.up_strand.specs.Strands.{IsEndOfLane, StandsFor}
use Rattle.up_strand.specs.declared.strand.Strand.{Strand}

-- the strands but one are as they were, and so is what no step changes
pub record IsSameButAt {P S K : Type 0} (net new : Net P S K) (i : ℕ) : Type 0 where
  pub head_places : new.heads.items ≡ net.heads.items
  pub fillers : new.fillers.items ≡ net.fillers.items
  pub numbers : new.numbers.items ≡ net.numbers.items
  pub strand_count : length new.strands.items ≡ length net.strands.items
  pub strands : (k : ℕ) (d : Strand P S K) → k ≢ i → get_or new.strands.items k d ≡ get_or net.strands.items k d
  pub lane_count : length new.lanes.items ≡ length net.lanes.items
  pub lanes : (k : ℕ) → is_some (get_or new.lanes.items k None) ≡ is_some (get_or net.lanes.items k None)
  pub room : (k : ℕ) → HasSameRoom (get_or net.lanes.items k None) (get_or new.lanes.items k None)
  pub pumps : length new.pumps.pumps ≡ length net.pumps.pumps

pub same_shape : {P S K : Type 0} (net new : Net P S K) (pipes : List Pipe) (i : ℕ) → IsSameButAt net new i → IsNetOf net pipes → IsNetOf new pipes
same_shape net new pipes i same shape = record {
  well = shape.well;
  head_places = same.head_places ∙ shape.head_places;
  strands = same.strand_count ∙ shape.strands;
  lane_count = same.lane_count ∙ shape.lane_count;
  lanes = λ k within. same.lanes k ∙ shape.lanes k within;
  room = λ k lane is.
      let before = same.room k lane is in
      before.2 ∙ shape.room k before.0 before.1;
  filler_count = ap length same.fillers ∙ shape.filler_count;
  fillers = λ k filler within filled. ap (λ fillers. slice_get (heads pipes) (get_or fillers k 0)) same.fillers ∙ shape.fillers k filler within filled;
  number_count = ap length same.numbers ∙ shape.number_count;
  numbers = λ k within. ap (λ numbers. get_or numbers (head_at pipes k) 0) same.numbers ∙ shape.numbers k within;
  pumps = same.pumps ∙ shape.pumps;
}

same_room_on : {P : Type 0} (old mid new : Option (Lane P)) → HasSameRoom old mid → HasSameRoom mid new → HasSameRoom old new
same_room_on old mid new first second lane is =
    let between = second lane is in
    let before = first between.0 between.1 in
    (before.0, before.1, between.2 ∙ before.2)

module _ {P S K : Type 0} (net mid new : Net P S K) (i : ℕ) (same : IsSameButAt net mid i) where
  -- the lanes changed, but are all there still
  pub same_but_lanes : new ≡ record mid { lanes = new.lanes } → (k : ℕ) → is_some (get_or mid.lanes.items k None) ≡ true
      → OtherLanesStay mid.lanes.items new.lanes.items k → IsSameButAt net new i
  same_but_lanes is k there others = record {
    head_places = ap (λ (n : Net P S K). n.heads.items) is ∙ same.head_places;
    fillers = ap (λ (n : Net P S K). n.fillers.items) is ∙ same.fillers;
    numbers = ap (λ (n : Net P S K). n.numbers.items) is ∙ same.numbers;
    strand_count = ap (λ (n : Net P S K). length n.strands.items) is ∙ same.strand_count;
    strands = λ j d other. ap (λ (n : Net P S K). get_or n.strands.items j d) is ∙ same.strands j d other;
    lane_count = others.count ∙ same.lane_count;
    lanes = λ j. elim (eqb_tells j k) [
      | inl at ↦ ap (λ (n : ℕ). is_some (get_or new.lanes.items n None)) at.1 ∙ others.there ∙ sym there ∙ ap (λ (n : ℕ). is_some (get_or mid.lanes.items n None)) (sym at.1) ∙ same.lanes j
      | inr other ↦ ap is_some (others.others j other.1) ∙ same.lanes j
    ];
    room = λ j. elim (eqb_tells j k) [
      | inl at ↦ subst (λ (n : ℕ). HasSameRoom (get_or net.lanes.items n None) (get_or new.lanes.items n None)) (sym at.1)
          (same_room_on (get_or net.lanes.items k None) (get_or mid.lanes.items k None) (get_or new.lanes.items k None) (same.room k) others.room)
      | inr other ↦ subst (HasSameRoom (get_or net.lanes.items j None)) (sym (others.others j other.1)) (same.room j)
    ];
    pumps = ap (λ (n : Net P S K). length n.pumps.pumps) is ∙ same.pumps;
  }

  -- the one strand changed
  pub same_but_strand : (strand : Strand P S K) → new ≡ record mid { strands = new.strands } → new.strands.items ≡ set mid.strands.items i strand → IsSameButAt net new i
  same_but_strand strand is put = record {
    head_places = ap (λ (n : Net P S K). n.heads.items) is ∙ same.head_places;
    fillers = ap (λ (n : Net P S K). n.fillers.items) is ∙ same.fillers;
    numbers = ap (λ (n : Net P S K). n.numbers.items) is ∙ same.numbers;
    strand_count = ap length put ∙ length-set mid.strands.items i strand ∙ same.strand_count;
    strands = λ j d other. ap (λ (strands : List (Strand P S K)). get_or strands j d) put ∙ get_or-set_other mid.strands.items i j strand d other ∙ same.strands j d other;
    lane_count = ap (λ (n : Net P S K). length n.lanes.items) is ∙ same.lane_count;
    lanes = λ j. ap (λ (n : Net P S K). is_some (get_or n.lanes.items j None)) is ∙ same.lanes j;
    room = λ j. subst (HasSameRoom (get_or net.lanes.items j None)) (ap (λ (n : Net P S K). get_or n.lanes.items j None) (sym is)) (same.room j);
    pumps = ap (λ (n : Net P S K). length n.pumps.pumps) is ∙ same.pumps;
  }

  -- the pumps changed
  pub same_but_pumps : new ≡ record mid { pumps = new.pumps } → length new.pumps.pumps ≡ length mid.pumps.pumps → IsSameButAt net new i
  same_but_pumps is count = record {
    head_places = ap (λ (n : Net P S K). n.heads.items) is ∙ same.head_places;
    fillers = ap (λ (n : Net P S K). n.fillers.items) is ∙ same.fillers;
    numbers = ap (λ (n : Net P S K). n.numbers.items) is ∙ same.numbers;
    strand_count = ap (λ (n : Net P S K). length n.strands.items) is ∙ same.strand_count;
    strands = λ j d other. ap (λ (n : Net P S K). get_or n.strands.items j d) is ∙ same.strands j d other;
    lane_count = ap (λ (n : Net P S K). length n.lanes.items) is ∙ same.lane_count;
    lanes = λ j. ap (λ (n : Net P S K). is_some (get_or n.lanes.items j None)) is ∙ same.lanes j;
    room = λ j. subst (HasSameRoom (get_or net.lanes.items j None)) (ap (λ (n : Net P S K). get_or n.lanes.items j None) (sym is)) (same.room j);
    pumps = count ∙ same.pumps;
  }

-- a strand of a net whose lanes changed is one of the net that it was
pub strand_of_it : {P S K : Type 0} (net took : Net P S K) (i : ℕ) (strand : Strand P S K) → took ≡ record net { lanes = took.lanes }
    → strand ≡ get_or took.strands.items i strand → strand ≡ get_or net.strands.items i strand
strand_of_it {P} {S} {K} net took i strand lanes_are is = is ∙ ap (λ (n : Net P S K). get_or n.strands.items i strand) lanes_are

pub same_itself : {P S K : Type 0} (net : Net P S K) (i : ℕ) → IsSameButAt net net i
same_itself net i = record {
  head_places = refl;
  fillers = refl;
  numbers = refl;
  strand_count = refl;
  strands = λ k d other. refl;
  lane_count = refl;
  lanes = λ k. refl;
  room = λ k lane is. (lane, is, refl);
  pumps = refl;
}

-- what came, with what waits, is what was sent: so it still is where one more was taken, and more was sent
joined_on : (come later came waiting rest sent all more : List PlainItem) → come ++ waiting ≡ sent → later ≡ come ++ came → all ≡ sent ++ more
    → came ++ rest ≡ waiting ++ more → later ++ rest ≡ all
joined_on come later came waiting rest sent all more joined taken given same =
    ap (λ (items : List PlainItem). items ++ rest) taken ∙ append_assoc come came rest ∙ ap (λ (items : List PlainItem). come ++ items) same
    ∙ sym (append_assoc come waiting more) ∙ ap (λ (items : List PlainItem). items ++ more) joined ∙ sym given

module _ {P S K : Type 0} (plain : P → PlainPacket) (reads : S → SourceState) (writes : K → SinkState) (pipes : List Pipe) (past : ℕ → History) where
  abbrev pub waiting : Net P S K → ℕ → List PlainItem
  waiting net k = map (plain_item plain) (items_at net.lanes.items k)

  module _ (net : Net P S K) (stands : NetStands plain reads writes net pipes past) where
    -- heads are apart, and each has its number
    pub apart : (k j : ℕ) → k < length (heads pipes) → j < length (heads pipes) → head_at pipes k ≡ head_at pipes j → k ≡ j
    apart k j inside within same =
        sym (stands.shape.numbers k inside) ∙ ap (λ (place : ℕ). get_or net.numbers.items place 0) same ∙ stands.shape.numbers j within

    pub number_is : (place : ℕ) → Contains (heads pipes) place → (k : ℕ) × (k < length (heads pipes)) × (head_at pipes k ≡ place) × (get_or net.numbers.items place 0 ≡ k)
    number_is place there =
        let number = head_number pipes place there in
        (number.0, number.1, number.2, ap (λ (p : ℕ). get_or net.numbers.items p 0) (sym number.2) ∙ stands.shape.numbers number.0 number.1)

    -- what is read of the list of strands stands for what it did
    pub stands_there : (i : ℕ) → i < length (heads pipes) → (strand : Strand P S K) → strand ≡ get_or net.strands.items i strand
        → StandsFor plain reads writes strand (past (head_at pipes i))
    stands_there i within strand is = subst (λ (s : Strand P S K). StandsFor plain reads writes s (past (head_at pipes i))) (sym is) (stands.strands i strand within)

    -- the strand that fills a lane, by its number
    pub filler_number : (k filler : ℕ) → k < length (heads pipes) → filler_of pipes (head_at pipes k) ≡ Some filler
        → (get_or net.fillers.items k 0 < length (heads pipes)) × (head_at pipes (get_or net.fillers.items k 0) ≡ filler)
    filler_number k filler inside filled =
        let there = stands.shape.fillers k filler inside filled in
        (slice_get_within (heads pipes) (get_or net.fillers.items k 0) filler there, get_or_from_slice_get (heads pipes) (get_or net.fillers.items k 0) filler 0 there)

    pub filler_is : (k j : ℕ) → k < length (heads pipes) → j < length (heads pipes) → filler_of pipes (head_at pipes k) ≡ Some (head_at pipes j)
        → get_or net.fillers.items k 0 ≡ j
    filler_is k j inside within filled =
        let number = filler_number k (head_at pipes j) inside filled in
        apart (get_or net.fillers.items k 0) j number.0 within number.1

    module _ (new : Net P S K) (i : ℕ) (within : i < length (heads pipes)) (h : History) where
      abbrev pub now : ℕ → History
      now = at_place (head_at pipes i) h past

      pub now_here : now (head_at pipes i) ≡ h
      now_here = at_here (head_at pipes i) h past

      pub now_other : (k : ℕ) → k < length (heads pipes) → k ≢ i → now (head_at pipes k) ≡ past (head_at pipes k)
      now_other k inside other = at_other (head_at pipes i) h past (head_at pipes k) (λ same. other (apart k i inside within same))

      -- what went through a lane in the step
      pub record LaneStep (k filler : ℕ) : Type 0 where
        pub came : List PlainItem
        pub more : List PlainItem
        pub come : items_come (now (head_at pipes k)) ≡ items_come (past (head_at pipes k)) ++ came
        pub sent : items_sent (now filler) (head_at pipes k) ≡ items_sent (past filler) (head_at pipes k) ++ more
        pub waits : came ++ waiting new k ≡ waiting net k ++ more
        pub ends : IsEndOfLane (now (head_at pipes k)).ended

      pub stands_now : IsSameButAt net new i → ((d : Strand P S K) → StandsFor plain reads writes (get_or new.strands.items i d) h)
          → h.pipes ≡ (past (head_at pipes i)).pipes → h.head ≡ (past (head_at pipes i)).head
          → ((k filler : ℕ) → k < length (heads pipes) → filler_of pipes (head_at pipes k) ≡ Some filler → LaneStep k filler)
          → ((k : ℕ) → All (IsLegalItem plain) (items_at new.lanes.items k)) → ArePumped new pipes → NetStands plain reads writes new pipes now
      stands_now same here graph place steps legal pumped = record {
        shape = same_shape net new pipes i same stands.shape;
        strands = λ k d inside. elim (eqb_tells k i) [
          | inl is ↦ subst (λ (n : ℕ). StandsFor plain reads writes (get_or new.strands.items n d) (now (head_at pipes n))) (sym is.1)
              (subst (StandsFor plain reads writes (get_or new.strands.items i d)) (sym now_here) (here d))
          | inr other ↦
              let stood : StandsFor plain reads writes (get_or new.strands.items k d) (past (head_at pipes k)) =
              subst (λ (s : Strand P S K). StandsFor plain reads writes s (past (head_at pipes k))) (sym (same.strands k d other.1)) (stands.strands k d inside) in
              subst (StandsFor plain reads writes (get_or new.strands.items k d)) (sym (now_other k inside other.1)) stood
        ];
        graphs = λ k inside. elim (eqb_tells k i) [
          | inl is ↦ subst (λ (n : ℕ). (now (head_at pipes n)).pipes ≡ pipes) (sym is.1) (ap (λ (g : History). g.pipes) now_here ∙ graph ∙ stands.graphs i within)
          | inr other ↦ ap (λ (g : History). g.pipes) (now_other k inside other.1) ∙ stands.graphs k inside
        ];
        places = λ k inside. elim (eqb_tells k i) [
          | inl is ↦ subst (λ (n : ℕ). (now (head_at pipes n)).head ≡ head_at pipes n) (sym is.1) (ap (λ (g : History). g.head) now_here ∙ place ∙ stands.places i within)
          | inr other ↦ ap (λ (g : History). g.head) (now_other k inside other.1) ∙ stands.places k inside
        ];
        joined = λ k filler inside filled.
            let step = steps k filler inside filled in
            record {
              all = joined_on (items_come (past (head_at pipes k))) (items_come (now (head_at pipes k))) step.came (waiting net k) (waiting new k)
                  (items_sent (past filler) (head_at pipes k)) (items_sent (now filler) (head_at pipes k)) step.more
                  (stands.joined k filler inside filled).all step.come step.sent step.waits;
              ends = step.ends;
            };
        legal = legal;
        pumped = pumped;
      }
