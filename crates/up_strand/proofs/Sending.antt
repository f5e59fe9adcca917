-- An item that goes out of a strand.
use Rattle.std.proofs.Common.{◌≡◌, ◌≢◌, ℕ, suc, ◌<◌, ◌≤◌, ◌==◌, List, [], ◌∷◌, ◌++◌, length, map, get_or, All, Bool, true, false, not, ◌&&◌, ◌||◌, Option, Some, None, slice_get, refl, sym, ap, ◌∙◌, subst, append-nil, append_assoc, length-append, arith, inl, inr, if◌then◌else◌}
use Rattle.std.specs.Prelude.{nat_le, nat_lt}
use Rattle.std.specs.Option.{is_some, option_map_or, option_to_list}
use Rattle.std.proofs.lemmas.Bool.Decides.{eqb_tells}
use Rattle.std.proofs.lemmas.List.{get_or-set_same, get_or-set_other, length-set}
use Rattle.std.proofs.lemmas.Option.{same_Some, slice_get-get_or, slice_get_cases}
use Rattle.std.proofs.Math.Seq.{get_or-append_seam}
use Rattle.up_model.specs.Packet.{Flow, IsLegal}
use Rattle.up_model.specs.Plans.{strand_of}
use Rattle.up_model.specs.Tallies.{IsAtMost, stopped}
use Rattle.up_model.specs.declared.plain_packet.PlainPacket.{PlainPacket}
use Rattle.up_model.specs.declared.tally.Tally.{Tally}
use Rattle.up_outside.specs.States.{SourceState, SinkState}
use Rattle.up_queue.specs.declared.end_kind.EndKind.{EndKind}
use Rattle.up_queue.specs.declared.item.Item.{Item}
use Rattle.up_queue.specs.declared.item.Item.TheVariants.{Packet, End}
use Rattle.up_strand.proofs.Found.{at_first, before_first, first_of, nothing_kept}
use Rattle.up_strand.proofs.Moving.{AreSameButOut, moved, moved_stands, taken_so}
use Rattle.up_strand.proofs.NodeSteps.{outlet_work}
use Rattle.up_strand.proofs.Passing.{with_flow, with_flow-same, with_flow-other}
use Rattle.up_strand.proofs.Returning.{alike_itself, has_same, if_here, if_other, true_false, waits_with}
use Rattle.up_strand.specs.History.{History, end_by}
use Rattle.up_strand.specs.Gifts.{NodesFit}
use Rattle.up_strand.specs.Nodes.{NodeFits, NodeStands, PartStands, Seat, is_outlet, is_whole, node_work, takes_from}
use Rattle.up_strand.specs.Stand.{Stand}
use Rattle.up_strand.specs.StrandCalls.{IsLegalItem, ItemFits, WentOut, gave_out}
use Rattle.up_strand.specs.Strands.{IsSent, StandsFor, StrandFits, has_item, kept_at, place_of}
use Rattle.up_strand.specs.TakenOut.{HasLeft, TookEnd, TookFirst, TookKept, TookOut}
use Rattle.up_strand.specs.declared.node.Node.{Node}
use Rattle.up_strand.specs.declared.node.Part.{Part}
use Rattle.up_strand.specs.declared.node.Part.TheVariants.{Head, Pipe as PipePart, Sink, Outlet, Ended}
use Rattle.up_strand.specs.declared.strand.Strand.{Strand}

some_item : {X : Type 0} (items : List X) (i : ℕ) → i < length items → X
some_item items i within = elim (slice_get_cases items i).1 [ inl there ↦ there.0 | inr past ↦ absurd (let behind = past.0 in omega (arith, behind, within)) ]

both_left : (a b : Bool) → (a && b) ≡ true → a ≡ true
both_left true b is = refl
both_left false b is = is

both_right : (a b : Bool) → (a && b) ≡ true → b ≡ true
both_right true b is = is
both_right false b is = absurd (cc)

not_true : (b : Bool) → (b ≡ true → ⊥) → b ≡ false
not_true true never = absurd (never refl)
not_true false never = refl

is_open : (b : Bool) → not b ≡ true → b ≡ false
is_open true is = sym is
is_open false is = refl

-- an item in the midst of those of which all are so
all_mid : {X : Type 0} (Q : X → Type 0) (items xs : List X) (y : X) (ys : List X) → All Q items → items ≡ xs ++ y ∷ ys → Q y
all_mid {X} Q items xs y ys all is =
    let within : length xs < length (xs ++ y ∷ ys) = omega (arith, length-append xs (y ∷ ys)) in
    subst Q (get_or-append_seam xs y ys y) ((subst (λ (l : List X). All Q l) is all) (length xs) y within)

all_behind : {X : Type 0} (Q : X → Type 0) (x : X) (xs : List X) → All Q (x ∷ xs) → All Q xs
all_behind Q x xs all k d within = all (suc k) d (omega arith)

module _ {P K : Type 0} (plain : P → PlainPacket) (state : K → SinkState) where
  -- a packet has left a node
  node_left : (seat : Seat) (old new : Node P K) (packet : P) (fed gone : Flow) → HasLeft packet old new → NodeStands plain state seat old fed gone
      → NodeStands plain state seat new fed (gone ++ plain packet ∷ [])
  node_left seat old new packet fed gone left stood =
      subst (λ (n : Node P K). NodeStands plain state seat n fed (gone ++ plain packet ∷ [])) (sym left.same)
      (record {
        legal = stood.legal;
        within = stood.within;
        part = stood.part;
        holds = record {
          lacking = stood.holds.lacking;
          flow = stood.holds.flow ∙ ap (λ (ps : List P). gone ++ map plain ps ++ stood.holds.lacking) left.first
              ∙ ap (λ (f : Flow). f ++ stood.holds.lacking) (sym (append_assoc gone (plain packet ∷ []) (map plain new.out.packets)));
          all = stood.holds.all;
          tally = λ long. left.tally ∙ stood.holds.tally long;
          most = subst (λ (t : Tally). IsAtMost t (stopped (node_work (is_whole old.part) seat.kind fed).tally)) (sym left.tally) stood.holds.most;
        };
      })

  outlet_kind : (seat : Seat) (short : Bool) (part : Part K) (fed : Flow) → is_outlet part ≡ true → PartStands plain state seat short part fed → seat.kind ≡ None
  outlet_kind seat short Head fed outlet stood = absurd (cc)
  outlet_kind seat short (PipePart m) fed outlet stood = absurd (cc)
  outlet_kind seat short (Sink sink spelling failed) fed outlet stood = absurd (cc)
  outlet_kind seat short Outlet fed outlet stood = stood
  outlet_kind seat short (Ended whole) fed outlet stood = absurd (cc)

  -- what an outlet took is what has left it, what waits there and what is lacking
  outlet_fed : (seat : Seat) (node : Node P K) (fed gone : Flow) → is_outlet node.part ≡ true → (stood : NodeStands plain state seat node fed gone)
      → fed ≡ gone ++ map plain node.out.packets ++ stood.holds.lacking
  outlet_fed seat node fed gone outlet stood =
      ap (λ w. w.flow) (sym (outlet_work (is_whole node.part) seat.kind fed (outlet_kind seat node.short node.part fed outlet stood.part))) ∙ stood.holds.flow

module _ {P S K : Type 0} (plain : P → PlainPacket) (reads : S → SourceState) (writes : K → SinkState) (old : Strand P S K) (h : History)
    (stands : StandsFor plain reads writes old h) (inside : old.ready < length old.tree.nodes.items) where
  abbrev place : ℕ
  place = old.ready

  abbrev olds : List (Node P K)
  olds = old.tree.nodes.items

  abbrev lane : ℕ
  lane = place_of old old.ready

  waits : (d : Node P K) → waits_with (kept_at old place) old.ended (get_or old.closed.items place false) (get_or olds place d) ≡ true
  waits d =
      let is = stands.sent.ready in
      ap (λ (n : Option (Node P K)). option_map_or (waits_with (kept_at old place) old.ended (get_or old.closed.items place false)) n false) (sym (slice_get-get_or olds place d inside))
      ∙ ap (has_item old) is ∙ at_first (has_item old) (length olds) (omega (arith, is, inside))

  outlet_here : (d : Node P K) → is_outlet (get_or olds place d).part ≡ true
  outlet_here d = both_left _ _ (waits d)

  abbrev some_one : Node P K
  some_one = some_item olds place inside

  -- where the end was taken out nothing waits
  pub not_over : h.closed lane ≡ false
  not_over = not_true (h.closed lane) (λ shut.
      let d = some_one in
      let over = stands.sent.over place d inside (outlet_here d) shut in
      let closed = stands.sent.closed place d inside (outlet_here d) ∙ shut in
      absurd (true_false _ (waits d) (rw (over.1, closed) (never (is_outlet (get_or olds place d).part) (is_some old.ended)))))
    where
      never : (a b : Bool) → (a && (false || (b && false))) ≡ false
      never true true = refl
      never true false = refl
      never false b = refl

  -- where no packet waits, the end does
  over_here : old.kept ≡ None → ((d : Node P K) → (get_or olds place d).out.packets ≡ []) → is_some old.ended ≡ true
  over_here none empty =
      let d = some_one in
      let rest : (nat_lt 0 (length (kept_at old place ++ (get_or olds place d).out.packets)) || (is_some old.ended && not (get_or old.closed.items place false))) ≡ true =
      both_right (is_outlet (get_or olds place d).part) _ (waits d) in
      both_left (is_some old.ended) (not (get_or old.closed.items place false)) (rw (nothing_kept old place none, empty d) at rest)

  module _ (given : Strand P S K) (alike : AreSameButOut olds given.tree.nodes.items) (closings : length given.closed.items ≡ length old.closed.items)
      (none : given.kept ≡ None) (last : given.last ≡ Some place) (ready : given.ready ≡ first_of (has_item (moved old given)) (length given.tree.nodes.items)) (behind : place ≤ given.ready)
      (others : (i : ℕ) (d : Node P K) → i ≢ place → get_or given.tree.nodes.items i d ≡ get_or olds i d)
      (gone sent : ℕ → Flow) (closed : ℕ → Bool)
      (gone_else : (i : ℕ) → i ≢ place → gone i ≡ stands.past.gone i) (gone_here : gone place ≡ sent lane)
      (sent_else : (other : ℕ) → other ≢ lane → sent other ≡ h.sent other)
      (closed_else : (other : ℕ) → other ≢ lane → closed other ≡ h.closed other)
      (items_else : (i : ℕ) → i ≢ place → get_or given.closed.items i false ≡ get_or old.closed.items i false)
      (items_here : get_or given.closed.items place false ≡ closed lane)
      (over_after : closed lane ≡ true → (is_some h.ended ≡ true) × ((d : Node P K) → (get_or given.tree.nodes.items place d).out.packets ≡ [])) where
    elsewhere : (i : ℕ) → i < length olds → i ≢ place → place_of old i ≢ lane
    elsewhere i within other is =
        let count = stands.built.count in
        other (stands.built.apart i place (omega (arith, within, count)) (omega (arith, inside, count)) is)

    within_old : (i : ℕ) → i < length given.tree.nodes.items → i < length olds
    within_old i within = let count = alike.count in omega (arith, within, count)

    outlet_old : (i : ℕ) (d : Node P K) → is_outlet (get_or given.tree.nodes.items i d).part ≡ true → is_outlet (get_or olds i d).part ≡ true
    outlet_old i d outlet = ap (λ (n : Node P K). is_outlet n.part) (sym (alike.same i d)) ∙ outlet

    kept_none : (i : ℕ) → kept_at (moved old given) i ≡ []
    kept_none i = nothing_kept (moved old given) i none

    pub sent_out : IsSent (moved old given) plain (taken_so h sent closed) (record { seats = stands.past.seats; fed = stands.past.fed; gone = gone })
    sent_out = record {
      sent = λ i d within outlet. elim (eqb_tells i place) [
        | inl same ↦
            ap gone same.1 ∙ gone_here ∙ ap (λ (n : ℕ). sent (place_of old n)) (sym same.1) ∙ sym (append-nil _)
            ∙ ap (λ (k : List P). sent (place_of old i) ++ map plain k) (sym (kept_none i))
        | inr other ↦
            gone_else i other.1 ∙ stands.sent.sent i d (within_old i within) (outlet_old i d outlet)
            ∙ ap (λ (k : List P). h.sent (place_of old i) ++ map plain k) (if_other i place (option_to_list old.kept) [] other.1 ∙ sym (kept_none i))
            ∙ ap (λ (f : Flow). f ++ map plain (kept_at (moved old given) i)) (sym (sent_else (place_of old i) (elsewhere i (within_old i within) other.1)))
      ];
      closed = λ i d within outlet. elim (eqb_tells i place) [
        | inl same ↦ ap (λ (n : ℕ). get_or given.closed.items n false) same.1 ∙ items_here ∙ ap (λ (n : ℕ). closed (place_of old n)) (sym same.1)
        | inr other ↦
            items_else i other.1 ∙ stands.sent.closed i d (within_old i within) (outlet_old i d outlet)
            ∙ sym (closed_else (place_of old i) (elsewhere i (within_old i within) other.1))
      ];
      over = λ i d within outlet shut. elim (eqb_tells i place) [
        | inl same ↦
            let over = over_after (ap (λ (n : ℕ). closed (place_of old n)) (sym same.1) ∙ shut) in (
              over.0,
              ap (λ (k : List P). k ++ (get_or given.tree.nodes.items i d).out.packets) (kept_none i)
                  ∙ ap (λ (n : ℕ). (get_or given.tree.nodes.items n d).out.packets) same.1 ∙ over.1 d,
            )
        | inr other ↦
            let over = stands.sent.over i d (within_old i within) (outlet_old i d outlet) (sym (closed_else (place_of old i) (elsewhere i (within_old i within) other.1)) ∙ shut) in (
              over.0,
              ap (λ (k : List P). k ++ (get_or given.tree.nodes.items i d).out.packets) (kept_none i ∙ sym (if_other i place (option_to_list old.kept) [] other.1))
                  ∙ ap (λ (n : Node P K). kept_at old i ++ n.out.packets) (others i d other.1) ∙ over.1,
            )
      ];
      ready = ready;
      kept = λ some. absurd (true_false (is_some given.kept) some (ap is_some none));
      last = λ other is.
          let same : place ≡ other = same_Some place other (sym last ∙ is) in
          let count = alike.count in (
            omega (arith, same, behind),
            omega (arith, same, inside, count),
            subst (λ (n : ℕ). nat_le (length (strand_of h.pipes h.head)) n ≡ true) same (sym (stands.built.outlets place some_one inside) ∙ outlet_here some_one),
          );
    }

  -- what was sent for the lane and has left its node, but for the packet that came back
  gone_so : stands.past.gone place ≡ h.sent lane ++ map plain (option_to_list old.kept)
  gone_so = stands.sent.sent place some_one inside (outlet_here some_one) ∙ ap (λ (k : List P). h.sent lane ++ map plain k) (if_here place place (option_to_list old.kept) [] refl)

  closed_so : get_or old.closed.items place false ≡ h.closed lane
  closed_so = stands.sent.closed place some_one inside (outlet_here some_one)

  module _ (mid : Strand P S K) (r : ℕ) (behind : place ≤ r) where
    -- the strand as it is once it was looked what waits
    abbrev pub out_of : Strand P S K → Strand P S K
    out_of s = record s { last = Some place; ready = r }

    abbrev pub IsFirst : Strand P S K → Type 0
    IsFirst s = r ≡ first_of (has_item s) (length s.tree.nodes.items)

    abbrev sent_with : P → ℕ → Flow
    sent_with p other = if other == lane then h.sent other ++ plain p ∷ [] else h.sent other

    kept_out : (p : P) → TookKept place old mid p → IsFirst (out_of mid) → StandsFor plain reads writes (out_of mid) (gave_out plain h lane (Packet p))
    kept_out p took first =
        let now : Strand P S K = record old { kept = None; last = Some place; ready = r } in
        let is : out_of mid ≡ now = ap out_of took.same in
        subst (λ (s : Strand P S K). StandsFor plain reads writes s (gave_out plain h lane (Packet p))) (sym is)
        (moved_stands plain reads writes old now h stands (alike_itself olds) refl stands.past.gone (sent_with p) h.closed stands.stand
        (sent_out now (alike_itself olds) refl refl refl (subst IsFirst is first) behind (λ i d other. refl) stands.past.gone (sent_with p) h.closed
        (λ i other. refl)
        (gone_so ∙ ap (λ (k : Option P). h.sent lane ++ map plain (option_to_list k)) took.kept ∙ sym (if_here lane lane (h.sent lane ++ plain p ∷ []) (h.sent lane) refl))
        (λ other differs. if_other other lane (h.sent other ++ plain p ∷ []) (h.sent other) differs) (λ other differs. refl) (λ i other. refl) closed_so
        (λ shut. absurd (true_false (h.closed lane) shut not_over))))

    first_alike : (p : P) → TookFirst place old mid p → AreSameButOut olds mid.tree.nodes.items
    first_alike p took = record {
      count = took.count;
      same = λ i d. elim (eqb_tells i place) [
        | inl same ↦
            subst (λ (n : ℕ). get_or mid.tree.nodes.items n d ≡ record (get_or olds n d) { out = (get_or mid.tree.nodes.items n d).out }) (sym same.1) (took.here d).same
        | inr other ↦
            let still = took.others i d other.1 in
            still ∙ ap (λ (n : Node P K). record (get_or olds i d) { out = n.out }) (sym still)
      ];
      inner = λ i d inner. elim (eqb_tells i place) [
        | inl same ↦ absurd (true_false (is_outlet (get_or olds i d).part) (ap (λ (n : ℕ). is_outlet (get_or olds n d).part) same.1 ∙ outlet_here d) inner)
        | inr other ↦ took.others i d other.1
      ];
    }

    gone_with : P → ℕ → Flow
    gone_with p = with_flow stands.past.gone place (stands.past.gone place ++ plain p ∷ [])

    first_stand : (p : P) → TookFirst place old mid p
        → Stand plain writes mid.tree.nodes.items (record { seats = stands.past.seats; fed = stands.past.fed; gone = with_flow stands.past.gone place (stands.past.gone place ++ plain p ∷ []) })
    first_stand p took =
        let alike = first_alike p took in
        let all = stands.past.gone place ++ plain p ∷ [] in
        let count = took.count in
        record {
          node = λ i d within. elim (eqb_tells i place) [
            | inl same ↦
                let left = node_left plain writes (stands.past.seats place) (get_or olds place d) (get_or mid.tree.nodes.items place d) p (stands.past.fed place) (stands.past.gone place) (took.here d)
                (stands.stand.node place d inside) in
                subst (λ (n : ℕ). NodeStands plain writes (stands.past.seats n) (get_or mid.tree.nodes.items n d) (stands.past.fed n) (with_flow stands.past.gone place all n)) (sym same.1)
                (subst (λ (f : Flow). NodeStands plain writes (stands.past.seats place) (get_or mid.tree.nodes.items place d) (stands.past.fed place) f) (sym (with_flow-same stands.past.gone place all)) left)
            | inr other ↦
                subst (λ (f : Flow). NodeStands plain writes (stands.past.seats i) (get_or mid.tree.nodes.items i d) (stands.past.fed i) f) (sym (with_flow-other stands.past.gone place all i other.1))
                (subst (λ (n : Node P K). NodeStands plain writes (stands.past.seats i) n (stands.past.fed i) (stands.past.gone i)) (sym (took.others i d other.1))
                (stands.stand.node i d (omega (arith, within, count))))
          ];
          edge = λ i d k within takes.
              let takes_old : takes_from (get_or olds i d).input k ≡ true = ap (λ (n : Node P K). takes_from n.input k) (sym (alike.same i d)) ∙ takes in
              let inside_old : i < length olds = omega (arith, within, count) in
              let inner = stands.built.are.inner i k d inside_old takes_old in
              let differs : k ≢ place = λ same. true_false (is_outlet (get_or olds k d).part) (ap (λ (n : ℕ). is_outlet (get_or olds n d).part) same ∙ outlet_here d) inner in
              stands.stand.edge i d k inside_old takes_old ∙ sym (with_flow-other stands.past.gone place all k differs);
        }

    first_out : (p : P) → TookFirst place old mid p → IsFirst (out_of mid) → StandsFor plain reads writes (out_of mid) (gave_out plain h lane (Packet p))
    first_out p took first =
        let now : Strand P S K = record old { tree = record old.tree { nodes = mid.tree.nodes }; last = Some place; ready = r } in
        let is : out_of mid ≡ now = ap out_of took.same in
        let gone = with_flow stands.past.gone place (stands.past.gone place ++ plain p ∷ []) in
        let alike = first_alike p took in
        subst (λ (s : Strand P S K). StandsFor plain reads writes s (gave_out plain h lane (Packet p))) (sym is)
        (moved_stands plain reads writes old now h stands alike refl gone (sent_with p) h.closed (first_stand p took)
        (sent_out now alike refl took.none refl (subst IsFirst is first) behind took.others gone (sent_with p) h.closed
        (λ i other. with_flow-other stands.past.gone place (stands.past.gone place ++ plain p ∷ []) i other)
        (with_flow-same stands.past.gone place (stands.past.gone place ++ plain p ∷ [])
        ∙ ap (λ (f : Flow). f ++ plain p ∷ []) (gone_so ∙ ap (λ (k : Option P). h.sent lane ++ map plain (option_to_list k)) took.none ∙ append-nil (h.sent lane))
        ∙ sym (if_here lane lane (h.sent lane ++ plain p ∷ []) (h.sent lane) refl))
        (λ other differs. if_other other lane (h.sent other ++ plain p ∷ []) (h.sent other) differs) (λ other differs. refl) (λ i other. refl) closed_so
        (λ shut. absurd (true_false (h.closed lane) shut not_over))))

    end_out : (kind : EndKind) → TookEnd place old mid kind → IsFirst (out_of mid) → StandsFor plain reads writes (out_of mid) (gave_out plain h lane (End kind))
    end_out kind took first =
        let now : Strand P S K = record old { tree = record old.tree { nodes = mid.tree.nodes }; closed = mid.closed; last = Some place; ready = r } in
        let is : out_of mid ≡ now = ap out_of took.same in
        let closed : ℕ → Bool = λ other. if other == lane then true else h.closed other in
        let alike : AreSameButOut olds mid.tree.nodes.items = subst (λ (ns : List (Node P K)). AreSameButOut olds ns) (sym took.nodes) (alike_itself olds) in
        let closings = ap length took.closed ∙ length-set old.closed.items place true in
        let count = stands.built.count in
        let many = stands.built.closings in
        let shut_there : get_or mid.closed.items place false ≡ true =
        ap (λ (items : List Bool). get_or items place false) took.closed ∙ get_or-set_same old.closed.items place true false (omega (arith, inside, count, many)) in
        subst (λ (s : Strand P S K). StandsFor plain reads writes s (gave_out plain h lane (End kind))) (sym is)
        (moved_stands plain reads writes old now h stands alike closings stands.past.gone h.sent closed
        (subst (λ (ns : List (Node P K)). Stand plain writes ns stands.past) (sym took.nodes) stands.stand)
        (sent_out now alike closings took.none refl (subst IsFirst is first) behind (λ i d other. ap (λ (ns : List (Node P K)). get_or ns i d) took.nodes) stands.past.gone h.sent closed
        (λ i other. refl)
        (gone_so ∙ ap (λ (k : Option P). h.sent lane ++ map plain (option_to_list k)) took.none ∙ append-nil (h.sent lane))
        (λ other differs. refl) (λ other differs. if_other other lane true (h.closed other) differs)
        (λ i other. ap (λ (items : List Bool). get_or items i false) took.closed ∙ get_or-set_other old.closed.items place i true false other)
        (shut_there ∙ sym (if_here lane lane true (h.closed lane) refl))
        (λ shut. (ap is_some (sym stands.ended.ended) ∙ over_here took.none took.empty, λ d. ap (λ (ns : List (Node P K)). (get_or ns place d).out.packets) took.nodes ∙ took.empty d))))

    pub went_out : (item : Item P) → TookOut place old mid item → IsFirst (out_of mid) → WentOut plain reads writes (out_of mid) h lane item
    went_out (Packet p) (inl took) first = record { stands = kept_out p took first; not_over = not_over; kind = tt }
    went_out (Packet p) (inr took) first = record { stands = first_out p took first; not_over = not_over; kind = tt }
    went_out (End kind) took first = record {
      stands = end_out kind took first;
      not_over = not_over;
      kind = took.kind_is ∙ ap (λ (b : Bool). end_by b old.ended) stands.ended.short ∙ ap (end_by h.short) stands.ended.ended;
    }

  module _ (mid : Strand P S K) where
    pub mid_kept : (item : Item P) → TookOut place old mid item → mid.kept ≡ None
    mid_kept (Packet p) (inl took) = ap (λ (s : Strand P S K). s.kept) took.same
    mid_kept (Packet p) (inr took) = ap (λ (s : Strand P S K). s.kept) took.same ∙ took.none
    mid_kept (End kind) took = ap (λ (s : Strand P S K). s.kept) took.same ∙ took.none

    pub mid_many : (item : Item P) → TookOut place old mid item → length mid.tree.nodes.items ≡ length olds
    mid_many (Packet p) (inl took) = ap (λ (s : Strand P S K). length s.tree.nodes.items) took.same
    mid_many (Packet p) (inr took) = took.count
    mid_many (End kind) took = ap length took.nodes

    pub mid_places : (item : Item P) → TookOut place old mid item → place_of mid place ≡ lane
    mid_places (Packet p) (inl took) = ap (λ (s : Strand P S K). place_of s place) took.same
    mid_places (Packet p) (inr took) = ap (λ (s : Strand P S K). place_of s place) took.same
    mid_places (End kind) took = ap (λ (s : Strand P S K). place_of s place) took.same

    -- before the place still nothing waits
    pub before_out : (item : Item P) → TookOut place old mid item → (i : ℕ) → i < place → has_item mid i ≡ false
    before_out item took i below = by_item item took
      where
        was : has_item old i ≡ false
        was = let is = stands.sent.ready in before_first (has_item old) (length olds) i (omega (arith, is, below))

        differs : i ≢ place
        differs same = absurd (omega (arith, below, same))

        by_item : (item : Item P) → TookOut place old mid item → has_item mid i ≡ false
        by_item (Packet p) (inl took) =
            let now : Strand P S K = record old { kept = None } in
            ap (λ (s : Strand P S K). has_item s i) took.same
            ∙ has_same now old i (nothing_kept now i refl ∙ sym (if_other i place (option_to_list old.kept) [] differs)) refl refl refl ∙ was
        by_item (Packet p) (inr took) =
            let now : Strand P S K = record old { tree = record old.tree { nodes = mid.tree.nodes } } in
            let d = some_one in
            let count = took.count in
            ap (λ (s : Strand P S K). has_item s i) took.same
            ∙ has_same now old i refl refl refl (slice_get-get_or mid.tree.nodes.items i d (omega (arith, below, inside, count)) ∙ ap Some (took.others i d differs)
            ∙ sym (slice_get-get_or olds i d (omega (arith, below, inside)))) ∙ was
        by_item (End kind) took =
            let now : Strand P S K = record old { tree = record old.tree { nodes = mid.tree.nodes }; closed = mid.closed } in
            ap (λ (s : Strand P S K). has_item s i) took.same
            ∙ has_same now old i refl refl (ap (λ (items : List Bool). get_or items i false) took.closed ∙ get_or-set_other old.closed.items place i true false differs)
            (ap (λ (ns : List (Node P K)). slice_get ns i) took.nodes) ∙ was

    pub legal_out : (item : Item P) → TookOut place old mid item → IsLegalItem plain item
    legal_out (Packet p) (inl took) =
        let d = some_one in
        let node = stands.stand.node place d inside in
        let rest = map plain (get_or olds place d).out.packets in
        all_mid IsLegal (stands.past.fed place) (h.sent lane) (plain p) (rest ++ node.holds.lacking) node.legal
        (outlet_fed plain writes (stands.past.seats place) (get_or olds place d) (stands.past.fed place) (stands.past.gone place) (outlet_here d) node
        ∙ ap (λ (f : Flow). f ++ rest ++ node.holds.lacking) (gone_so ∙ ap (λ (k : Option P). h.sent lane ++ map plain (option_to_list k)) took.kept)
        ∙ append_assoc (h.sent lane ++ plain p ∷ []) rest node.holds.lacking ∙ append_assoc (h.sent lane) (plain p ∷ []) (rest ++ node.holds.lacking))
    legal_out (Packet p) (inr took) =
        let d = some_one in
        let node = stands.stand.node place d inside in
        let rest = map plain (get_or mid.tree.nodes.items place d).out.packets in
        all_mid IsLegal (stands.past.fed place) (stands.past.gone place) (plain p) (rest ++ node.holds.lacking) node.legal
        (outlet_fed plain writes (stands.past.seats place) (get_or olds place d) (stands.past.fed place) (stands.past.gone place) (outlet_here d) node
        ∙ ap (λ (ps : List P). stands.past.gone place ++ map plain ps ++ node.holds.lacking) (took.here d).first
        ∙ append_assoc (stands.past.gone place) (plain p ∷ rest) node.holds.lacking)
    legal_out (End kind) took = tt

    pub fits_out : {F : Type 0} (fits : P → F → Type 0) (family : F) (r : ℕ) (item : Item P) → TookOut place old mid item → StrandFits old fits family
        → StrandFits (record mid { last = Some place; ready = r }) fits family × ItemFits fits family item
    fits_out fits family r (Packet p) (inl took) fit = (
      subst (λ (s : Strand P S K). StrandFits (record s { last = Some place; ready = r }) fits family) (sym took.same) (record { nodes = fit.nodes; kept = tt }),
      rw took.kept at fit.kept,
    )
    fits_out fits family r (Packet p) (inr took) fit =
        let d = some_one in
        let all : (e : Node P K) → All (λ (q : P). fits q family) (p ∷ (get_or mid.tree.nodes.items place e).out.packets) =
        λ e. subst (λ (ps : List P). All (λ (q : P). fits q family) ps) (took.here e).first (fit.nodes place e inside) in
        let count = took.count in
        let nodes : NodesFit fits family mid.tree.nodes.items =
        λ i e within. elim (eqb_tells i place) [
          | inl same ↦ subst (λ (n : ℕ). NodeFits fits (get_or mid.tree.nodes.items n e) family) (sym same.1) (all_behind (λ (q : P). fits q family) p _ (all e))
          | inr other ↦ subst (λ (n : Node P K). NodeFits fits n family) (sym (took.others i e other.1)) (fit.nodes i e (omega (arith, within, count)))
        ] in (
          subst (λ (s : Strand P S K). StrandFits (record s { last = Some place; ready = r }) fits family) (sym took.same) (record { nodes = nodes; kept = fit.kept }),
          all d 0 p (omega arith),
        )
    fits_out fits family r (End kind) took fit = (
      subst (λ (s : Strand P S K). StrandFits s fits family) (sym (ap (λ (s : Strand P S K). record s { last = Some place; ready = r }) took.same))
          (record { nodes = subst (λ (ns : List (Node P K)). NodesFit fits family ns) (sym took.nodes) fit.nodes; kept = fit.kept }),
      tt,
    )
