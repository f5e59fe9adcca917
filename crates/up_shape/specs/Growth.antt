-- What a module puts into an outbox, tied to the work that it does on its flow.
use Rattle.std.specs.Prelude.{◌≡◌, List, ◌++◌, map, All}
use Rattle.up_model.specs.Packet.{Flow}
use Rattle.up_model.specs.Tallies.{IsAtMost, plus, added}
use Rattle.up_model.specs.Work.{Work}
use Rattle.up_model.specs.declared.plain_packet.PlainPacket.{PlainPacket}
use Rattle.up_model.specs.declared.tally.Tally.{Tally}
use Rattle.up_shape.specs.Outgoing.{Outgoing}

-- the outbox grew by what the work grew by, in packets and in sums
pub record Grew {P : Type 0} (plain : P → PlainPacket) (old new : Outgoing P)
    (before after : Work) : Type 0 where
  pub given : List P
  pub growth : Tally
  pub packets : new.packets ≡ old.packets ++ given
  pub tally : new.tally ≡ added old.tally growth
  pub flow : after.flow ≡ before.flow ++ map plain given
  pub sums : after.tally ≡ plus before.tally growth

-- the outbox grew by the first packets of those by which the work would have grown, and by no more in each sum
pub record GrewInPart {P : Type 0} (plain : P → PlainPacket) (old new : Outgoing P)
    (before after : Work) : Type 0 where
  pub given : List P
  pub lacking : Flow
  pub growth : Tally
  pub packets : new.packets ≡ old.packets ++ given
  pub tally : new.tally ≡ added old.tally growth
  pub flow : after.flow ≡ before.flow ++ map plain given ++ lacking
  pub sums : IsAtMost (plus before.tally growth) after.tally

-- a module and these packets are of the family
abbrev pub AreOf : {P F : Type 0} → (P → F → Type 0) → (F → Type 0) → List P → F → Type 0
AreOf fits agrees packets family = agrees family × All (λ packet. fits packet family) packets
