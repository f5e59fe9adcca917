-- What a read of a source and a write of a sink change.
use Rattle.std.specs.Prelude.{◌≡◌, ℕ, ◌+◌, ◌≤◌, List, Result, Ok, Err, is_err}
use Rattle.std.specs.Io.KnownBytes.{ReadConsumes, WriteAppends}
use Rattle.up_base.specs.declared.refusal.Failed.{Failed}
use Rattle.up_base.specs.declared.refusal.Refusal.{Refusal}
use Rattle.up_outside.specs.Counts.{CountsWhere, is_failed}
use Rattle.up_outside.specs.States.{SourceState, SinkState}
use Rattle.up_outside.specs.Told.{Then}

-- how many bytes a call moved: the number that it gave, and 0 for one that was refused
abbrev pub count_of : {E : Type 0} → Result ℕ E → ℕ
count_of (Ok n) = n
count_of (Err e) = 0

-- the bytes were read and counted, or the read failed and is counted once; its entry is the same
pub record Reads (old new : SourceState) (room : List ℕ) (result : Result ℕ Failed) : Type 0 where
  pub bytes : ReadConsumes old.left new.left result room
  pub sum : Then (λ before after. after ≡ before + count_of result) old.moved new.moved
  pub place : new.place ≡ old.place
  pub faults : CountsWhere (is_err result) old.faults new.faults
  pub once : new.faults ≤ old.faults + 1

-- the bytes were written and counted, or the write failed and is counted once; its entry is the
-- same
pub record Writes (old new : SinkState) (piece : List ℕ) (result : Result ℕ Refusal) : Type 0 where
  pub bytes : WriteAppends old.written new.written result piece
  pub sum : Then (λ before after. after ≡ before + count_of result) old.moved new.moved
  pub place : new.place ≡ old.place
  pub faults : CountsWhere (is_failed result) old.faults new.faults
  pub once : new.faults ≤ old.faults + 1
