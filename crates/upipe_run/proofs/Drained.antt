-- What a line's sink was given, and the status of a fault that is told.
use Rattle.std.proofs.Common.{◌≡◌, ◌⊎◌, ℕ, List, true, false, Ok, Err, refl, inl, inr}
use Rattle.std.specs.Prelude.{Result, OnOk, OnErr}
use Rattle.std.specs.Io.KnownBytes.{Appends}
use Rattle.up_base.specs.declared.refusal.Refusal.{Refusal}
use Rattle.up_base.specs.declared.refusal.Refusal.TheVariants.{Failed, NoMemory}
use Rattle.up_outside.specs.Counts.{CountsWhere, is_failed}
use Rattle.up_outside.specs.States.{SinkState}
use Rattle.up_report.specs.Faults.{status_of}
use Rattle.up_report.specs.declared.fault.Fault.{Fault}
use Rattle.upipe_run.specs.Tells.{AppendsPart, CutsLine, TellsLine, TellsNoMemory, TellsPart, WritesLine}

module _ (old new : SinkState) (line : List ℕ) where
  -- the whole line was written
  pub whole_line : Appends old.written new.written line → CountsWhere false old.faults new.faults → WritesLine old new line
  whole_line wrote counts = inl (wrote, counts.stays refl)

  -- the sink failed before its end
  pub failed_line : AppendsPart old new line → CountsWhere true old.faults new.faults → WritesLine old new line
  failed_line part counts = inr (part, counts.rose refl)

  -- memory ran out before its end
  pub cut_line : AppendsPart old new line → CountsWhere false old.faults new.faults → CutsLine old new line
  cut_line part counts = (part, counts.stays refl)

  -- whatever the sink answered, it was written as far as the sink took it
  pub drained : {T : Type 0} (result : Result T Refusal) → OnOk result (Appends old.written new.written line) → OnErr result (AppendsPart old new line)
      → CountsWhere (is_failed result) old.faults new.faults → WritesLine old new line ⊎ CutsLine old new line
  drained (Ok value) whole part counts = inl (whole_line whole counts)
  drained (Err Failed) whole part counts = inl (failed_line part counts)
  drained (Err NoMemory) whole part counts = inr (cut_line part counts)

-- the status is the fault's, or that of want of memory
pub told_status : {old new : SinkState} {fault : Fault} {status : ℕ} → TellsLine old new fault status ⊎ (TellsPart old new fault status ⊎ TellsNoMemory old new status)
    → (status ≡ status_of fault) ⊎ (status ≡ 7)
told_status (inl told) = inl told.status_is
told_status (inr (inl part)) = inr part.status_is
told_status (inr (inr none)) = inr none.status_is
