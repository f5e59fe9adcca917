-- What one room is filled with, and what a line's sink keeps.
use Rattle.std.specs.Prelude.{◌≡◌, ℕ, ◌+◌, List, take, Bool, true, false}
use Rattle.std.specs.Io.KnownBytes.{Consumes, IsAtEnd}
use Rattle.up_outside.specs.Counts.{CountsWhere}
use Rattle.up_outside.specs.States.{SourceState, SinkState}
use Rattle.up_outside.specs.Told.{Then}
use Rattle.upipe_run.specs.declared.fill.Filled.{Filled}
use Rattle.upipe_run.specs.declared.fill.Stop.{Stop}
use Rattle.upipe_run.specs.declared.fill.Stop.TheVariants as stops

-- so many bytes were read, and the entry is the same
pub record Moved (old new : SourceState) (bytes : List ℕ) (count : ℕ) : Type 0 where
  pub bytes_of : Consumes old.left new.left bytes
  pub sum : Then (λ before after. after ≡ before + count) old.moved new.moved
  pub place : new.place ≡ old.place

-- it stopped at a fault
abbrev pub is_fault : Stop → Bool
is_fault stops.Full = false
is_fault stops.End = false
is_fault stops.Fault = true

-- the front of the room was filled
pub record Fills (old new : SourceState) (room : List ℕ) (filled : Filled) : Type 0 where
  pub moved : Moved old new (take filled.count room) filled.count
  pub end : filled.stop ≡ stops.End → IsAtEnd new.left
  pub faults : CountsWhere (is_fault filled.stop) old.faults new.faults

-- the sink's entry is the same, and what it took is told or not as it was
pub record IsSameSink (old new : SinkState) : Type 0 where
  pub place : new.place ≡ old.place
  pub sum : Then (λ before after. Unit {0}) old.moved new.moved
