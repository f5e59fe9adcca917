-- Strands joined by lanes: what was taken out of one strand for a lane, and what came through it at
-- the head of another. Nothing here says on how many threads they run.
use Rattle.std.specs.Prelude.{◌≡◌, ℕ, ◌++◌, List, [], ◌∷◌, map, Option, Some, None, option_and_then, false, if◌then◌else◌}
use Rattle.up_model.specs.Inputs.{input_at}
use Rattle.up_model.specs.Plans.{head_of}
use Rattle.up_model.specs.declared.outcome.Outcome.{Outcome}
use Rattle.up_model.specs.declared.pipe.Pipe.{Pipe}
use Rattle.up_model.specs.declared.plain_packet.PlainPacket.{PlainPacket}
use Rattle.up_queue.specs.declared.item.Item.{Item}
use Rattle.up_queue.specs.declared.item.Item.TheVariants.{Packet, End}
use Rattle.up_strand.specs.History.{History, end_by}
use Rattle.up_strand.specs.Strands.{IsEndOfLane}

-- an item as contracts see it
abbrev pub PlainItem : Type 0
PlainItem = Item PlainPacket

abbrev pub plain_item : {P : Type 0} → (P → PlainPacket) → Item P → PlainItem
plain_item plain (Packet p) = Packet (plain p)
plain_item plain (End kind) = End kind

-- what was taken out of a strand for a lane, in order: packets, and then the end
abbrev pub items_sent : History → ℕ → List PlainItem
items_sent h lane =
    map Packet (h.sent lane) ++ (if h.closed lane then End (end_by h.short h.ended) ∷ [] else [])

-- the end that came through the lane of a head whose flow ended so
abbrev pub end_come : Option Outcome → List PlainItem
end_come None = []
end_come (Some outcome) = End (end_by false (Some outcome)) ∷ []

-- what came through the lane of a head, in order
abbrev pub items_come : History → List PlainItem
items_come h = map Packet h.came ++ end_come h.ended

-- what came and what waits is what was sent
pub record IsJoined (filler head : History) (lane : ℕ) (waiting : List PlainItem) : Type 0 where
  pub all : items_come head ++ waiting ≡ items_sent filler lane
  pub ends : IsEndOfLane head.ended

-- the head of the strand that fills the lane of a head
abbrev pub filler_of : List Pipe → ℕ → Option ℕ
filler_of pipes lane = option_and_then (head_of pipes) (input_at pipes lane)
