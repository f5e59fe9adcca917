-- What is printed of an ending.
use Rattle.std.specs.Prelude.{◌≡◌, ◌⊎◌, ℕ, ◌<◌, List, length, take}
use Rattle.std.specs.Io.KnownBytes.{Appends}
use Rattle.up_outside.specs.Counts.{Rose}
use Rattle.up_outside.specs.States.{SinkState}
use Rattle.up_report.specs.Faults.{status_of}
use Rattle.up_report.specs.Lines.{fault_bytes, no_memory_bytes}
use Rattle.up_report.specs.declared.fault.Fault.{Fault}
use Rattle.upipe_run.specs.declared.ending.Ending.{Ending}
use Rattle.upipe_run.specs.declared.ending.Ending.TheVariants.{Whole, Faulty, NoMemory}

module _ (old new : SinkState) where
  -- what was written grew by the line, and no write failed
  abbrev pub AppendsLine : List ℕ → Type 0
  AppendsLine line = Appends old.written new.written line × (new.faults ≡ old.faults)

  -- what was written grew by the first bytes of the line, but not by all of it
  abbrev pub AppendsPart : List ℕ → Type 0
  AppendsPart line =
      (n : ℕ) × (n < length line) × Appends old.written new.written (take n line)

  -- the line was written, or a part of it before the sink failed
  abbrev pub WritesLine : List ℕ → Type 0
  WritesLine line = AppendsLine line ⊎ (AppendsPart line × Rose old.faults new.faults)

  -- memory ran out before the end of the line: a part of it was written, and no write failed
  abbrev pub CutsLine : List ℕ → Type 0
  CutsLine line = AppendsPart line × (new.faults ≡ old.faults)

  -- the status and the line are the fault's
  pub record TellsLine (fault : Fault) (status : ℕ) : Type 0 where
    pub status_is : status ≡ status_of fault
    pub line : WritesLine (fault_bytes fault)

  -- memory ran out before the end of the fault's line: the status is 7
  pub record TellsPart (fault : Fault) (status : ℕ) : Type 0 where
    pub status_is : status ≡ 7
    pub line : CutsLine (fault_bytes fault)

  -- the status is 7, and the line is that of want of memory, as far as the sink took it
  pub record TellsNoMemory (status : ℕ) : Type 0 where
    pub status_is : status ≡ 7
    pub line : WritesLine no_memory_bytes ⊎ CutsLine no_memory_bytes

  -- a fault is told by its status and its line; where memory runs out for that, a part of its line was written or want of memory is told
  abbrev pub TellsFault : Fault → ℕ → Type 0
  TellsFault fault status =
      TellsLine fault status ⊎ (TellsPart fault status ⊎ TellsNoMemory status)

  -- nothing is printed of a whole run
  abbrev pub TellsEnding : Ending → ℕ → Type 0
  TellsEnding Whole status = (status ≡ 0) × (new ≡ old)
  TellsEnding (Faulty fault) status = TellsFault fault status
  TellsEnding NoMemory status = TellsNoMemory status
