-- What came through a lane, of what was sent into it.
use Rattle.std.proofs.Common.{◌≡◌, ℕ, ◌++◌, List, [], ◌∷◌, map, Bool, true, false, Option, Some, None, refl, sym, ap, ◌∙◌, append_assoc, if◌then◌else◌}
use Rattle.up_base.specs.Lists.{IsPrefix}
use Rattle.up_engine.specs.Joins.{IsJoined, PlainItem, end_come}
use Rattle.up_model.specs.Packet.{Flow}
use Rattle.up_model.specs.declared.outcome.Outcome.{Outcome}
use Rattle.up_model.specs.declared.outcome.Outcome.TheVariants as outcomes
use Rattle.up_queue.specs.declared.end_kind.EndKind.{EndKind}
use Rattle.up_queue.specs.declared.end_kind.EndKind.TheVariants as ends
use Rattle.up_queue.specs.declared.item.Item.TheVariants.{Packet, End}
use Rattle.up_strand.specs.History.{History, end_by}

-- what follows the packets that were sent
abbrev pub closing : Bool → EndKind → List PlainItem
closing closed kind = if closed then End kind ∷ [] else []

-- the packets that came are the first of those that were sent
packets_first : (came sent : Flow) (rest : List PlainItem) (closed : Bool) (kind : EndKind)
    → map Packet came ++ rest ≡ map Packet sent ++ closing closed kind → IsPrefix came sent
packets_first [] sent rest closed kind all = (sent, refl)
packets_first (p ∷ came) [] rest true kind all = absurd (cc)
packets_first (p ∷ came) [] rest false kind all = absurd (cc)
packets_first (p ∷ came) (q ∷ sent) rest closed kind all =
    let first : p ≡ q = cc in
    let later : map Packet came ++ rest ≡ map Packet sent ++ closing closed kind = cc in
    let more = packets_first came sent rest closed kind later in
    (more.0, rw first (ap (λ flow. q ∷ flow) more.1))

-- where an end came, all packets and the end had been sent
record IsAll (came sent : Flow) (closed : Bool) (kind other : EndKind) : Type 0 where
  pub packets : came ≡ sent
  pub over : closed ≡ true
  pub end : other ≡ kind

all_before_end : (came sent : Flow) (rest : List PlainItem) (closed : Bool) (kind other : EndKind)
    → map Packet came ++ (End kind ∷ rest) ≡ map Packet sent ++ closing closed other → IsAll came sent closed kind other
all_before_end [] [] rest true kind other all = record { packets = refl; over = refl; end = cc }
all_before_end [] [] rest false kind other all = absurd (cc)
all_before_end [] (q ∷ sent) rest closed kind other all = absurd (cc)
all_before_end (p ∷ came) [] rest true kind other all = absurd (cc)
all_before_end (p ∷ came) [] rest false kind other all = absurd (cc)
all_before_end (p ∷ came) (q ∷ sent) rest closed kind other all =
    let first : p ≡ q = cc in
    let later : map Packet came ++ (End kind ∷ rest) ≡ map Packet sent ++ closing closed other = cc in
    let more = all_before_end came sent rest closed kind other later in
    record { packets = rw first (ap (λ flow. q ∷ flow) more.packets); over = more.over; end = more.end }

-- a whole end is passed on alone where memory didn't run out and the flow of the head came to its whole end
whole_end : (short : Bool) (ended : Option Outcome) → end_by short ended ≡ ends.Whole → (short ≡ false) × (ended ≡ Some outcomes.Whole)
whole_end true ended is = absurd (cc)
whole_end false None is = absurd (cc)
whole_end false (Some outcomes.Whole) is = (refl, refl)
whole_end false (Some outcomes.ReadFault) is = absurd (cc)
whole_end false (Some outcomes.WriteFault) is = absurd (cc)
whole_end false (Some (outcomes.BadFrame offset)) is = absurd (cc)
whole_end false (Some (outcomes.TooLong limit)) is = absurd (cc)
whole_end false (Some outcomes.Broken) is = absurd (cc)
whole_end false (Some outcomes.NoMemory) is = absurd (cc)

module _ (filler head : History) (lane : ℕ) (waiting : List PlainItem) (joined : IsJoined filler head lane waiting) where
  pub after_packets : map Packet head.came ++ (end_come head.ended ++ waiting) ≡ map Packet (filler.sent lane) ++ closing (filler.closed lane) (end_by filler.short filler.ended)
  after_packets = sym (append_assoc (map Packet head.came) (end_come head.ended) waiting) ∙ joined.all

  pub came_first : IsPrefix head.came (filler.sent lane)
  came_first = packets_first head.came (filler.sent lane) _ (filler.closed lane) _ after_packets

  -- the end of a lane came, and all that was sent before it
  pub record CameAll (kind : EndKind) : Type 0 where
    pub packets : head.came ≡ filler.sent lane
    pub closed : filler.closed lane ≡ true
    pub end : end_by filler.short filler.ended ≡ kind

  pub came_all : (kind : EndKind) → end_come head.ended ≡ End kind ∷ [] → CameAll kind
  came_all kind ended =
      let all = all_before_end head.came (filler.sent lane) waiting (filler.closed lane) kind (end_by filler.short filler.ended)
      (sym (ap (λ end. map Packet head.came ++ (end ++ waiting)) ended) ∙ after_packets) in
      record { packets = all.packets; closed = all.over; end = all.end }

  -- where the flow came to its whole end, so did that of the strand that fills the lane
  pub record CameWhole : Type 0 where
    pub packets : head.came ≡ filler.sent lane
    pub closed : filler.closed lane ≡ true
    pub long : filler.short ≡ false
    pub whole : filler.ended ≡ Some outcomes.Whole

  pub came_whole : head.ended ≡ Some outcomes.Whole → CameWhole
  came_whole ended =
      let all = came_all ends.Whole (ap end_come ended) in
      let end = whole_end filler.short filler.ended all.end in
      record { packets = all.packets; closed = all.closed; long = end.0; whole = end.1 }
