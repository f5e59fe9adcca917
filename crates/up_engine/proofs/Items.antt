-- What was sent into lanes and what came through them, once one strand went on.
use Rattle.std.proofs.Common.{◌≡◌, ◌≢◌, ℕ, ◌==◌, ◌++◌, List, [], ◌∷◌, map, Bool, true, false, Option, None, refl, sym, ap, ◌∙◌, subst, append-nil, if◌then◌else◌, inl, inr}
use Rattle.std.proofs.lemmas.Bool.Decides.{eqb_tells}
use Rattle.std.proofs.lemmas.List.{map-append}
use Rattle.up_engine.specs.Joins.{PlainItem, end_come, items_come, items_sent, plain_item}
use Rattle.up_model.specs.Packet.{Flow}
use Rattle.up_model.specs.declared.outcome.Outcome.{Outcome}
use Rattle.up_model.specs.declared.plain_packet.PlainPacket.{PlainPacket}
use Rattle.up_queue.specs.declared.end_kind.EndKind.{EndKind}
use Rattle.up_queue.specs.declared.end_kind.EndKind.TheVariants as ends
use Rattle.up_queue.specs.declared.item.Item.{Item}
use Rattle.up_queue.specs.declared.item.Item.TheVariants.{Packet, End}
use Rattle.up_strand.proofs.Returning.{if_here, if_other}
use Rattle.up_strand.specs.History.{History, end_by, head_flow}
use Rattle.up_strand.specs.StrandCalls.{IsEndOf, end_in, gave_out, packets_in}
use Rattle.up_strand.specs.Strands.{IsEndOfLane}

-- what the strands did, of which the one whose head stands at a place did this
abbrev pub at_place : ℕ → History → (ℕ → History) → ℕ → History
at_place place h past other = if other == place then h else past other

module _ (place : ℕ) (h : History) (past : ℕ → History) where
  pub at_here : at_place place h past place ≡ h
  at_here = if_here place place h (past place) refl

  pub at_other : (other : ℕ) → other ≢ place → at_place place h past other ≡ past other
  at_other other differs = if_other other place h (past other) differs

  -- what is so of the one, and was so of each other, is so of all
  pub at_each : (Q : ℕ → History → Type 0) → Q place h → (other : ℕ) → (other ≢ place → Q other (past other)) → Q other (at_place place h past other)
  at_each Q here other elsewhere = elim (eqb_tells other place) [
    | inl same ↦ subst (λ (n : ℕ). Q n (at_place place h past n)) (sym same.1) (subst (Q place) (sym at_here) here)
    | inr differs ↦ subst (Q other) (sym (at_other other differs.1)) (elsewhere differs.1)
  ]

-- what came, and what was sent, by the parts of a history that tell it
abbrev pub come_of : Flow → Option Outcome → List PlainItem
come_of came ended = map Packet came ++ end_come ended

abbrev pub sent_of : Flow → Bool → EndKind → List PlainItem
sent_of sent closed kind = map Packet sent ++ (if closed then End kind ∷ [] else [])

-- no end was sent, whatever it would be
pub sent_open : (sent : Flow) (closed : Bool) (kind other : EndKind) → closed ≡ false → sent_of sent closed kind ≡ sent_of sent closed other
sent_open sent closed kind other ajar = rw ajar refl

module _ {P : Type 0} (plain : P → PlainPacket) where
  with_nothing : (flow : Flow) (item : PlainItem) → map Packet flow ++ item ∷ [] ≡ (map Packet flow ++ []) ++ item ∷ []
  with_nothing flow item = ap (λ (items : List PlainItem). items ++ item ∷ []) (sym (append-nil (map Packet flow)))

  pub come_more : (came : Flow) (item : Item P) → come_of (came ++ packets_in plain item) (end_in item) ≡ come_of came None ++ plain_item plain item ∷ []
  come_more came (Packet p) = append-nil _ ∙ map-append Packet came (plain p ∷ []) ∙ with_nothing came (Packet (plain p))
  come_more came (End ends.Whole) = ap (λ (flow : Flow). map Packet flow ++ End ends.Whole ∷ []) (append-nil came) ∙ with_nothing came (End ends.Whole)
  come_more came (End ends.Broken) = ap (λ (flow : Flow). map Packet flow ++ End ends.Broken ∷ []) (append-nil came) ∙ with_nothing came (End ends.Broken)

  -- the flow of a lane ends as its items say
  pub end_of_lane : (item : Item P) → IsEndOfLane (end_in item)
  end_of_lane (Packet p) = tt
  end_of_lane (End ends.Whole) = tt
  end_of_lane (End ends.Broken) = tt

  packet_more : (sent : Flow) (p : PlainPacket) (closed : Bool) (kind : EndKind) → closed ≡ false
      → sent_of (sent ++ p ∷ []) closed kind ≡ sent_of sent closed kind ++ Packet p ∷ []
  packet_more sent p closed kind ajar = rw ajar (append-nil _ ∙ map-append Packet sent (p ∷ []) ∙ with_nothing sent (Packet p))

  end_more : (sent : Flow) (closed : Bool) (kind other : EndKind) → closed ≡ false → other ≡ kind
      → sent_of sent true kind ≡ sent_of sent closed kind ++ End other ∷ []
  end_more sent closed kind other ajar same = rw (ajar, same) (with_nothing sent (End kind))

  module _ (h : History) (lane : ℕ) where
    pub gave_here : (item : Item P) → h.closed lane ≡ false → IsEndOf (end_by h.short h.ended) item
        → items_sent (gave_out plain h lane item) lane ≡ items_sent h lane ++ plain_item plain item ∷ []
    gave_here (Packet p) ajar kind =
        ap (λ (flow : Flow). sent_of flow (h.closed lane) (end_by h.short h.ended)) (if_here lane lane (h.sent lane ++ plain p ∷ []) (h.sent lane) refl)
        ∙ packet_more (h.sent lane) (plain p) (h.closed lane) (end_by h.short h.ended) ajar
    gave_here (End other) ajar kind =
        ap (λ (closed : Bool). sent_of (h.sent lane) closed (end_by h.short h.ended)) (if_here lane lane true (h.closed lane) refl)
        ∙ end_more (h.sent lane) (h.closed lane) (end_by h.short h.ended) other ajar kind

    pub gave_other : (item : Item P) (other : ℕ) → other ≢ lane → items_sent (gave_out plain h lane item) other ≡ items_sent h other
    gave_other (Packet p) other differs =
        ap (λ (flow : Flow). sent_of flow (h.closed other) (end_by h.short h.ended)) (if_other other lane (h.sent other ++ plain p ∷ []) (h.sent other) differs)
    gave_other (End kind) other differs =
        ap (λ (closed : Bool). sent_of (h.sent other) closed (end_by h.short h.ended)) (if_other other lane true (h.closed other) differs)

-- nothing changed but what was taken out for lanes
pub record IsSameButSent (before after : History) : Type 0 where
  pub pipes : after.pipes ≡ before.pipes
  pub head : after.head ≡ before.head
  pub source : after.source ≡ before.source
  pub sinks : after.sinks ≡ before.sinks
  pub read : after.read ≡ before.read
  pub fed : after.fed ≡ before.fed
  pub ended : after.ended ≡ before.ended
  pub come : items_come after ≡ items_come before
  pub flow : head_flow after ≡ head_flow before

pub gave_same : {P : Type 0} (plain : P → PlainPacket) (h : History) (lane : ℕ) (item : Item P) → IsSameButSent h (gave_out plain h lane item)
gave_same plain h lane (Packet p) = record { pipes = refl; head = refl; source = refl; sinks = refl; read = refl; fed = refl; ended = refl; come = refl; flow = refl }
gave_same plain h lane (End kind) = record { pipes = refl; head = refl; source = refl; sinks = refl; read = refl; fed = refl; ended = refl; come = refl; flow = refl }
