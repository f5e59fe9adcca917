-- An item that comes back to the strand that gave it out.
use Rattle.std.proofs.Common.{◌≡◌, ◌≢◌, ℕ, ◌<◌, ◌≤◌, ◌==◌, List, [], ◌∷◌, ◌++◌, length, map, set, get_or, Bool, true, false, not, ◌&&◌, ◌||◌, Option, Some, None, slice_get, refl, sym, ap, ◌∙◌, subst, append-nil, arith, inl, inr, if◌then◌else◌}
use Rattle.std.specs.Prelude.{◌⊎◌, nat_le, nat_lt, option_map}
use Rattle.std.specs.Option.{is_some, option_map_or}
use Rattle.std.proofs.lemmas.Bool.{lt-ltb}
use Rattle.std.proofs.lemmas.Bool.Decides.{eqb_tells}
use Rattle.std.proofs.lemmas.List.{get_or-set_same, get_or-set_other, length-set}
use Rattle.std.proofs.lemmas.Option.{same_Some, slice_get-get_or, slice_get_cases}
use Rattle.up_model.specs.Plans.{strand_of}
use Rattle.up_model.specs.declared.outcome.Outcome.{Outcome}
use Rattle.up_model.specs.declared.plain_packet.PlainPacket.{PlainPacket}
use Rattle.up_outside.specs.States.{SourceState, SinkState}
use Rattle.up_queue.specs.declared.end_kind.EndKind.{EndKind}
use Rattle.up_queue.specs.declared.item.Item.{Item}
use Rattle.up_queue.specs.declared.item.Item.TheVariants.{Packet, End}
use Rattle.up_strand.proofs.Found.{before_first, first_found, nothing_kept, want_there}
use Rattle.up_strand.proofs.Moving.{AreSameButOut, moved_stands}
use Rattle.up_strand.specs.History.{History}
use Rattle.up_strand.specs.Nodes.{is_outlet}
use Rattle.up_strand.specs.StrandCalls.{ItemFits, gave_out, lane_given}
use Rattle.up_strand.specs.Strands.{IsSent, StandsFor, StrandFits, has_item, kept_at, place_of, want_of}
use Rattle.up_strand.specs.TakenOut.{PutBack}
use Rattle.up_strand.specs.declared.node.Node.{Node}
use Rattle.up_strand.specs.declared.strand.Strand.{Strand}
use Rattle.up_strand.specs.declared.want.Want.TheVariants.{Output}

pub if_here : {X : Type 0} (m n : ℕ) (a b : X) → m ≡ n → (if m == n then a else b) ≡ a
if_here m n a b is = elim (eqb_tells m n) [ inl same ↦ rw same.0 refl | inr other ↦ absurd (other.1 is) ]

pub if_other : {X : Type 0} (m n : ℕ) (a b : X) → m ≢ n → (if m == n then a else b) ≡ b
if_other m n a b isnt = elim (eqb_tells m n) [ inl same ↦ absurd (isnt same.1) | inr other ↦ rw other.0 refl ]

pub some_node : (a b : ℕ) → Some a ≡ Some b → a ≡ b
some_node a b same = cc

pub true_false : (b : Bool) → b ≡ true → b ≡ false → ⊥
true_false b one other = cc

pub alike_itself : {P K : Type 0} (nodes : List (Node P K)) → AreSameButOut nodes nodes
alike_itself nodes = record { count = refl; same = λ i d. refl; inner = λ i d inner. refl }

module _ {P K : Type 0} where
  -- what waits at a node with these packets kept for it
  abbrev pub waits_with : List P → Option Outcome → Bool → Node P K → Bool
  waits_with kept ended closed node = is_outlet node.part && (nat_lt 0 (length (kept ++ node.out.packets)) || (is_some ended && not closed))

  pub packet_waits : (p : P) (ended : Option Outcome) (closed : Bool) (node : Node P K) → is_outlet node.part ≡ true → waits_with (p ∷ []) ended closed node ≡ true
  packet_waits p ended closed node outlet = rw (outlet, lt-ltb 0 (length (p ∷ node.out.packets)) (omega arith)) refl

  pub end_waits : (kept : List P) (ended : Option Outcome) (closed : Bool) (node : Node P K) → is_outlet node.part ≡ true → is_some ended ≡ true → closed ≡ false
      → waits_with kept ended closed node ≡ true
  end_waits kept ended closed node outlet over ajar = rw (outlet, over, ajar) (either (nat_lt 0 (length (kept ++ node.out.packets))))
    where
      either : (b : Bool) → (b || true) ≡ true
      either true = refl
      either false = refl

module _ {P S K : Type 0} where
  pub has_same : (a b : Strand P S K) (i : ℕ) → kept_at a i ≡ kept_at b i → a.ended ≡ b.ended → get_or a.closed.items i false ≡ get_or b.closed.items i false
      → slice_get a.tree.nodes.items i ≡ slice_get b.tree.nodes.items i → has_item a i ≡ has_item b i
  has_same a b i kept ended closed node =
      ap (λ (k : List P). option_map_or (waits_with k a.ended (get_or a.closed.items i false)) (slice_get a.tree.nodes.items i) false) kept
      ∙ ap (λ (e : Option Outcome). option_map_or (waits_with (kept_at b i) e (get_or a.closed.items i false)) (slice_get a.tree.nodes.items i) false) ended
      ∙ ap (λ (c : Bool). option_map_or (waits_with (kept_at b i) b.ended c) (slice_get a.tree.nodes.items i) false) closed
      ∙ ap (λ (n : Option (Node P K)). option_map_or (waits_with (kept_at b i) b.ended (get_or b.closed.items i false)) n false) node

  -- an item waits at a node where it does whichever the node is
  pub has_there : (a : Strand P S K) (i : ℕ) → i < length a.tree.nodes.items
      → ((d : Node P K) → waits_with (kept_at a i) a.ended (get_or a.closed.items i false) (get_or a.tree.nodes.items i d) ≡ true) → has_item a i ≡ true
  has_there a i within waits = by_place (slice_get_cases a.tree.nodes.items i).1
    where
      by_place : ((x : Node P K) × (i < length a.tree.nodes.items) × (slice_get a.tree.nodes.items i ≡ Some x) × (get_or a.tree.nodes.items i x ≡ x)) ⊎ ((length a.tree.nodes.items ≤ i) × (slice_get a.tree.nodes.items i ≡ None))
          → has_item a i ≡ true
      by_place (inl there) =
          ap (λ (n : Option (Node P K)). option_map_or (waits_with (kept_at a i) a.ended (get_or a.closed.items i false)) n false) (slice_get-get_or a.tree.nodes.items i there.0 within) ∙ waits there.0
      by_place (inr past) = absurd (let behind = past.0 in omega (arith, behind, within))

  module _ (plain : P → PlainPacket) (reads : S → SourceState) (writes : K → SinkState) (old : Strand P S K) (h : History) (lane place : ℕ)
      (given : lane_given old ≡ Some lane) (last : old.last ≡ Some place) (ajar : h.closed lane ≡ false) where
    abbrev nodes : List (Node P K)
    nodes = old.tree.nodes.items

    lane_is : place_of old place ≡ lane
    lane_is = same_Some (place_of old place) lane (ap (λ (l : Option ℕ). option_map (place_of old) l) (sym last) ∙ given)

    module _ (item : Item P) (stands : StandsFor plain reads writes old (gave_out plain h lane item)) where
      can : (place ≤ old.ready) × (place < length nodes) × (nat_le (length (strand_of (gave_out plain h lane item).pipes (gave_out plain h lane item).head)) place ≡ true)
      can = stands.sent.last place last

      outlet_there : (d : Node P K) → is_outlet (get_or nodes place d).part ≡ true
      outlet_there d = stands.built.outlets place d can.1 ∙ can.2

      pub none_kept : old.kept ≡ None
      none_kept = by_kept old.kept refl
        where
          by_kept : (kept : Option P) → old.kept ≡ kept → kept ≡ None
          by_kept None is = refl
          by_kept (Some p) is = absurd (let none = (stands.sent.kept (ap is_some is)).0 in none_some (sym none ∙ last))
            where
              none_some : None ≡ Some place → ⊥
              none_some same = cc

      elsewhere : (i : ℕ) → i < length nodes → i ≢ place → place_of old i ≢ lane
      elsewhere i within other is =
          let count = stands.built.count in
          let inside = can.1 in
          other (stands.built.apart i place (omega (arith, within, count)) (omega (arith, inside, count)) (is ∙ sym lane_is))

      pub inside_closed : place < length old.closed.items
      inside_closed =
          let count = stands.built.count in
          let closings = stands.built.closings in
          let inside = can.1 in
          omega (arith, inside, count, closings)

      before_it : (k : ℕ) → k < place → has_item old k ≡ false
      before_it k below =
          let upto = can.0 in
          let ready = stands.sent.ready in
          before_first (has_item old) (length nodes) k (omega (arith, below, upto, ready))

    module _ (p : P) (stands : StandsFor plain reads writes old (gave_out plain h lane (Packet p))) where
      abbrev with_packet : Strand P S K
      with_packet = record old { kept = Some p; last = None; ready = place }

      was : (i : ℕ) (d : Node P K) → i < length nodes → is_outlet (get_or nodes i d).part ≡ true
          → stands.past.gone i ≡ (if place_of old i == lane then h.sent (place_of old i) ++ plain p ∷ [] else h.sent (place_of old i))
      was i d within outlet =
          stands.sent.sent i d within outlet
          ∙ ap (λ (k : List P). (if place_of old i == lane then h.sent (place_of old i) ++ plain p ∷ [] else h.sent (place_of old i)) ++ map plain k)
          (nothing_kept old i (none_kept (Packet p) stands)) ∙ append-nil _

      sent_back : IsSent with_packet plain h stands.past
      sent_back = record {
        sent = λ i d within outlet. elim (eqb_tells i place) [
          | inl same ↦
              was i d within outlet ∙ if_here (place_of old i) lane _ _ (ap (place_of old) same.1 ∙ lane_is)
              ∙ ap (λ (k : List P). h.sent (place_of old i) ++ map plain k) (sym (if_here i place (p ∷ []) [] same.1))
          | inr other ↦
              was i d within outlet ∙ if_other (place_of old i) lane _ _ (elsewhere (Packet p) stands i within other.1) ∙ sym (append-nil _)
              ∙ ap (λ (k : List P). h.sent (place_of old i) ++ map plain k) (sym (if_other i place (p ∷ []) [] other.1))
        ];
        closed = stands.sent.closed;
        over = λ i d within outlet shut. elim (eqb_tells i place) [
          | inl same ↦ absurd (true_false (h.closed (place_of old i)) shut (ap (λ (n : ℕ). h.closed (place_of old n)) same.1 ∙ ap h.closed lane_is ∙ ajar))
          | inr other ↦
              let over = stands.sent.over i d within outlet shut in
              (over.0, ap (λ (k : List P). k ++ (get_or nodes i d).out.packets) (if_other i place (p ∷ []) [] other.1 ∙ sym (nothing_kept old i (none_kept (Packet p) stands))) ∙ over.1)
        ];
        ready = sym (first_found (has_item with_packet) (length nodes) place (let inside = (can (Packet p) stands).1 in omega (arith, inside))
            (λ k below. has_same with_packet old k (if_other k place (p ∷ []) [] (λ same. absurd (omega (arith, below, same))) ∙ sym (nothing_kept old k (none_kept (Packet p) stands))) refl refl refl
            ∙ before_it (Packet p) stands k below)
            (λ inside. has_there with_packet place inside
            (λ d. ap (λ (k : List P). waits_with k old.ended (get_or old.closed.items place false) (get_or nodes place d)) (if_here place place (p ∷ []) [] refl)
            ∙ packet_waits p old.ended (get_or old.closed.items place false) (get_or nodes place d) (outlet_there (Packet p) stands d))));
        kept = λ some. (refl, (can (Packet p) stands).1, (can (Packet p) stands).2);
        last = λ other is. absurd (cc);
      }

      pub packet_back : StandsFor plain reads writes with_packet h
      packet_back = moved_stands plain reads writes old with_packet (gave_out plain h lane (Packet p)) stands (alike_itself nodes) refl stands.past.gone h.sent h.closed stands.stand sent_back

    module _ (kind : EndKind) (stands : StandsFor plain reads writes old (gave_out plain h lane (End kind))) (mid : Strand P S K)
        (reopened : mid.closed.items ≡ set old.closed.items place false) where
      abbrev without_end : Strand P S K
      without_end = record old { closed = mid.closed; last = None; ready = place }

      over_here : is_some h.ended ≡ true
      over_here = by_node (slice_get_cases nodes place).1
        where
          by_node : ((x : Node P K) × (place < length nodes) × (slice_get nodes place ≡ Some x) × (get_or nodes place x ≡ x)) ⊎ ((length nodes ≤ place) × (slice_get nodes place ≡ None))
              → is_some h.ended ≡ true
          by_node (inl there) =
              (stands.sent.over place there.0 (can (End kind) stands).1 (outlet_there (End kind) stands there.0) (if_here (place_of old place) lane true (h.closed (place_of old place)) lane_is)).0
          by_node (inr past) = absurd (let behind = past.0 in let inside = (can (End kind) stands).1 in omega (arith, behind, inside))

      open_there : get_or mid.closed.items place false ≡ false
      open_there = ap (λ (items : List Bool). get_or items place false) reopened ∙ get_or-set_same old.closed.items place false false (inside_closed (End kind) stands)

      open_else : (i : ℕ) → i ≢ place → get_or mid.closed.items i false ≡ get_or old.closed.items i false
      open_else i other = ap (λ (items : List Bool). get_or items i false) reopened ∙ get_or-set_other old.closed.items place i false false other

      -- nothing is kept, here or there
      same_kept : (i : ℕ) → kept_at without_end i ≡ kept_at old i
      same_kept i = nothing_kept without_end i (none_kept (End kind) stands) ∙ sym (nothing_kept old i (none_kept (End kind) stands))

      end_sent_back : IsSent without_end plain h stands.past
      end_sent_back = record {
        sent = λ i d within outlet. stands.sent.sent i d within outlet ∙ ap (λ (k : List P). h.sent (place_of old i) ++ map plain k) (sym (same_kept i));
        closed = λ i d within outlet. elim (eqb_tells i place) [
          | inl same ↦ ap (λ (n : ℕ). get_or mid.closed.items n false) same.1 ∙ open_there ∙ sym ajar ∙ ap h.closed (sym lane_is) ∙ ap (λ (n : ℕ). h.closed (place_of old n)) (sym same.1)
          | inr other ↦ open_else i other.1 ∙ stands.sent.closed i d within outlet ∙ if_other (place_of old i) lane true (h.closed (place_of old i)) (elsewhere (End kind) stands i within other.1)
        ];
        over = λ i d within outlet shut. elim (eqb_tells i place) [
          | inl same ↦ absurd (true_false (h.closed (place_of old i)) shut (ap (λ (n : ℕ). h.closed (place_of old n)) same.1 ∙ ap h.closed lane_is ∙ ajar))
          | inr other ↦
              let over = stands.sent.over i d within outlet (if_other (place_of old i) lane true (h.closed (place_of old i)) (elsewhere (End kind) stands i within other.1) ∙ shut) in
              (over.0, ap (λ (k : List P). k ++ (get_or nodes i d).out.packets) (same_kept i) ∙ over.1)
        ];
        ready = sym (first_found (has_item without_end) (length nodes) place (let inside = (can (End kind) stands).1 in omega (arith, inside))
            (λ k below. has_same without_end old k (same_kept k) refl (open_else k (λ same. absurd (omega (arith, below, same)))) refl ∙ before_it (End kind) stands k below)
            (λ inside. has_there without_end place inside
            (λ d. end_waits (kept_at without_end place) old.ended (get_or mid.closed.items place false) (get_or nodes place d) (outlet_there (End kind) stands d)
            (ap is_some stands.ended.ended ∙ over_here) open_there)));
        kept = λ some. absurd (true_false (is_some old.kept) some (ap is_some (none_kept (End kind) stands)));
        last = λ other is. absurd (cc);
      }

      pub end_back : StandsFor plain reads writes without_end h
      end_back = moved_stands plain reads writes old without_end (gave_out plain h lane (End kind)) stands (alike_itself nodes)
          (ap length reopened ∙ length-set old.closed.items place false) stands.past.gone h.sent h.closed stands.stand end_sent_back

    pub came_back : (mid : Strand P S K) (item : Item P) → StandsFor plain reads writes old (gave_out plain h lane item) → PutBack place old mid item
        → StandsFor plain reads writes (record mid { last = None; ready = place }) h
    came_back mid (Packet p) stands put = subst (λ (s : Strand P S K). StandsFor plain reads writes (record s { last = None; ready = place }) h) (sym put) (packet_back p stands)
    came_back mid (End kind) stands put =
        subst (λ (s : Strand P S K). StandsFor plain reads writes s h) (sym (ap (λ (s : Strand P S K). record s { last = None; ready = place }) put.1)) (end_back kind stands mid put.0)

    same_nodes : (mid : Strand P S K) (item : Item P) → PutBack place old mid item
        → (length mid.tree.nodes.items ≡ length nodes) × (place_of mid place ≡ place_of old place)
    same_nodes mid (Packet p) put = (ap (λ (s : Strand P S K). length s.tree.nodes.items) put, ap (λ (s : Strand P S K). place_of s place) put)
    same_nodes mid (End kind) put = (ap (λ (s : Strand P S K). length s.tree.nodes.items) put.1, ap (λ (s : Strand P S K). place_of s place) put.1)

    -- it waits for its lane again
    pub waits_again : (mid : Strand P S K) (item : Item P) → StandsFor plain reads writes old (gave_out plain h lane item) → PutBack place old mid item
        → want_of (record mid { last = None; ready = place }) ≡ Output lane
    waits_again mid item stands put =
        let inside = (can item stands).1 in
        let same = same_nodes mid item put in
        let count = same.0 in
        want_there (record mid { last = None; ready = place }) (came_back mid item stands put).sent.ready (omega (arith, inside, count))
        ∙ ap Output (same.1 ∙ lane_is)

  pub fits_back : {F : Type 0} (fits : P → F → Type 0) (family : F) (old mid : Strand P S K) (place : ℕ) (item : Item P) → PutBack place old mid item
      → StrandFits old fits family → ItemFits fits family item → StrandFits (record mid { last = None; ready = place }) fits family
  fits_back fits family old mid place (Packet p) put fit own =
      subst (λ (s : Strand P S K). StrandFits (record s { last = None; ready = place }) fits family) (sym put) (record { nodes = fit.nodes; kept = own })
  fits_back fits family old mid place (End kind) put fit own =
      subst (λ (s : Strand P S K). StrandFits s fits family) (sym (ap (λ (s : Strand P S K). record s { last = None; ready = place }) put.1)) (record { nodes = fit.nodes; kept = fit.kept })
