-- What a call of a depot changes of what it tells.
use Rattle.std.specs.Prelude.{◌≡◌, ℕ, List, [], ◌++◌, length, Bool, ◌&&◌, Option, Some, IfSome, Result}
use Rattle.up_base.specs.declared.refusal.Refusal.{Refusal}
use Rattle.up_outside.specs.Asked.{opened, is_of_source, is_of_sink, Ending, Closes}
use Rattle.up_outside.specs.Counts.{CountsWhere, is_failed}
use Rattle.up_outside.specs.Held.{Opens}
use Rattle.up_outside.specs.States.{DepotState, SourceState, SinkState}
use Rattle.up_outside.specs.Told.{Then}
use Rattle.up_outside.specs.declared.asked.Entry.{Entry}
use Rattle.up_outside.specs.declared.asked.Side.{Side}

module _ (old new : DepotState) where
  -- the count of the side rose where something failed, and else both are as before
  pub record CountsFaults (side : Side) (failed : Bool) : Type 0 where
    pub sources : CountsWhere (is_of_source side && failed) old.source_faults new.source_faults
    pub sinks : CountsWhere (is_of_sink side && failed) old.sink_faults new.sink_faults

  -- an open: its entry was added, and its fault counted
  pub record AsksFor {T : Type 0} (side : Side) (path : List ℕ)
      (result : Result T Refusal) : Type 0 where
    pub entries : Then (λ before after. after ≡ before ++ opened result path side)
        old.asked new.asked
    pub counts : CountsFaults side (is_failed result)

  -- a close: its entry says what was moved and whether something failed, which is counted
  pub record IsClosed (side : Side) (end : Ending) : Type 0 where
    pub entries : Then (Closes end) old.asked new.asked
    pub counts : CountsFaults side end.failed

-- the opened object has its entry at the end, and has moved nothing yet
pub record IsNext (asked : List Entry) (place moved : Option ℕ) : Type 0 where
  pub at_end : place ≡ Some (length asked)
  pub nothing_yet : moved ≡ Some 0

-- a source of the bytes at the path
pub record IsSourceOf (depot : DepotState) (path : List ℕ) (source : SourceState) : Type 0 where
  pub fresh : source.faults ≡ 0
  pub bytes : IfSome depot.held (λ held. Opens held path source.left)
  pub next : IfSome depot.asked (λ asked. IsNext asked source.place source.moved)

-- a sink to which nothing was written
pub record IsEmptySink (depot : DepotState) (sink : SinkState) : Type 0 where
  pub fresh : sink.faults ≡ 0
  pub empty : IfSome depot.held (λ held. sink.written ≡ Some [])
  pub next : IfSome depot.asked (λ asked. IsNext asked sink.place sink.moved)
