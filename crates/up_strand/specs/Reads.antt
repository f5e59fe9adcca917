-- What is read of a source, how a source of either form ends by that, and which packets a raw one gives.
use Rattle.std.specs.Prelude.{◌≡◌, ◌⊎◌, ℕ, ◌+◌, ◌<◌, ◌≤◌, Bool, true, false, List, [], length, take, Option, Some, None}
use Rattle.std.specs.Io.KnownBytes.{Consumes, IsAtEnd}
use Rattle.up_model.specs.Outcomes.{shown_by, source_outcome}
use Rattle.up_model.specs.Packet.{plain as bare}
use Rattle.up_model.specs.declared.form.SourceForm.{SourceForm}
use Rattle.up_model.specs.declared.outcome.Outcome.{Outcome}
use Rattle.up_model.specs.declared.outcome.Outcome.TheVariants as outcomes
use Rattle.up_model.specs.declared.plain_packet.PlainPacket.{PlainPacket}
use Rattle.up_outside.specs.Counts.{CountsOnce}
use Rattle.up_outside.specs.States.{SourceState}
use Rattle.up_outside.specs.Told.{Then}
use Rattle.up_strand.specs.declared.fill.Filled.{Filled}
use Rattle.up_strand.specs.declared.fill.Stop.{Stop}
use Rattle.up_strand.specs.declared.fill.Stop.TheVariants as stops
use Rattle.up_strand.specs.declared.source_packet.Next.{Next}
use Rattle.up_strand.specs.declared.source_packet.Next.TheVariants.{Packet, Last, End, Fault, TooLong, NoRoom, NoMemory}

-- these bytes were read, so many, and the entry is the same
pub record WereRead (old new : SourceState) (bytes : List ℕ) (count : ℕ) : Type 0 where
  pub bytes_of : Consumes old.left new.left bytes
  pub sum : Then (λ before after. after ≡ before + count) old.moved new.moved
  pub place : new.place ≡ old.place

-- it stopped at a fault
abbrev pub is_fault : Stop → Bool
is_fault stops.Full = false
is_fault stops.End = false
is_fault stops.Fault = true

-- the outcome is that of bytes of the form: they show it whatever comes behind them, or nothing does
pub record IsTold (form : SourceForm) (limit : ℕ) (rest : Option (List ℕ)) (read : List ℕ)
    (outcome : Outcome) : Type 0 where
  pub is : source_outcome form limit read ≡ outcome
  pub settled : (shown_by form limit read ≡ Some outcome) ⊎ IsAtEnd rest

-- how a source of the form ends that gave these bytes: as they tell, or at a failed read where they show no cause
abbrev pub EndsBy : SourceForm → ℕ → Option (List ℕ) → List ℕ → Outcome → Type 0
EndsBy form limit rest read outcomes.Whole =
    (source_outcome form limit read ≡ outcomes.Whole) × IsAtEnd rest
EndsBy form limit rest read outcomes.ReadFault = shown_by form limit read ≡ None
EndsBy form limit rest read outcomes.WriteFault = ⊥
EndsBy form limit rest read (outcomes.BadFrame offset) =
    IsTold form limit rest read (outcomes.BadFrame offset)
EndsBy form limit rest read (outcomes.TooLong most) =
    shown_by form limit read ≡ Some (outcomes.TooLong most)
EndsBy form limit rest read outcomes.Broken = ⊥
EndsBy form limit rest read outcomes.NoMemory = ⊥

-- the front of the room was filled
pub record Fills (old new : SourceState) (room : List ℕ) (filled : Filled) : Type 0 where
  pub took : WereRead old new (take filled.count room) filled.count
  pub end : filled.stop ≡ stops.End → IsAtEnd new.left
  pub faults : CountsOnce (is_fault filled.stop) old.faults new.faults

-- a read of the source failed
abbrev pub block_read_failed : {P : Type 0} → Next P → Bool
block_read_failed (Packet p) = false
block_read_failed (Last p) = false
block_read_failed End = false
block_read_failed Fault = true
block_read_failed TooLong = false
block_read_failed NoRoom = false
block_read_failed NoMemory = false

module _ {P : Type 0} (plain : P → PlainPacket) (block left : ℕ) where
  -- what the bytes that were taken are, by the answer: a block, or fewer at the end; what doesn't
  -- become a packet is given up
  abbrev pub AreReadAs : Option (List ℕ) → List ℕ → Next P → Type 0
  AreReadAs rest taken (Packet p) = (plain p ≡ bare taken) × (length taken ≡ block) × (block ≤ left)
  AreReadAs rest taken (Last p) =
      (plain p ≡ bare taken) × (0 < length taken) × (length taken < block)
      × (length taken ≤ left) × IsAtEnd rest
  AreReadAs rest taken End = (taken ≡ []) × IsAtEnd rest
  AreReadAs rest taken Fault = (length taken < block) × (length taken ≤ left)
  AreReadAs rest taken TooLong = length taken ≡ left + 1
  AreReadAs rest taken NoRoom = taken ≡ []
  AreReadAs rest taken NoMemory = Unit {0}

  -- a source that may give so many bytes more gave at most a block, and at most one byte more than
  -- that
  pub record ReadsPacket (old new : SourceState) (next : Next P) : Type 0 where
    pub taken : List ℕ
    pub took : WereRead old new taken (length taken)
    pub in_block : length taken ≤ block
    pub in_limit : length taken ≤ left + 1
    pub are : AreReadAs new.left taken next
    pub faults : CountsOnce (block_read_failed next) old.faults new.faults

-- the packet is of the family
abbrev pub NextFits : {P F : Type 0} → (P → F → Type 0) → F → Next P → Type 0
NextFits fits family (Packet p) = fits p family
NextFits fits family (Last p) = fits p family
NextFits fits family End = Unit {0}
NextFits fits family Fault = Unit {0}
NextFits fits family TooLong = Unit {0}
NextFits fits family NoRoom = Unit {0}
NextFits fits family NoMemory = Unit {0}

-- more was drawn of the store wherever there was room to read into
abbrev pub DrewFor : {P : Type 0} → ℕ → ℕ → Next P → Type 0
DrewFor before now (Packet p) = before < now
DrewFor before now (Last p) = before < now
DrewFor before now End = before < now
DrewFor before now Fault = before < now
DrewFor before now TooLong = before < now
DrewFor before now NoRoom = Unit {0}
DrewFor before now NoMemory = before < now
