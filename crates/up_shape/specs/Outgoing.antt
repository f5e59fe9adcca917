-- What an outbox holds.
use Rattle.std.specs.Prelude.{List}
use Rattle.up_model.specs.declared.tally.Tally.{Tally}

-- the packets that were put out, the first first, and what was counted
pub record Outgoing (P : Type 0) : Type 0 where
  pub packets : List P
  pub tally : Tally
