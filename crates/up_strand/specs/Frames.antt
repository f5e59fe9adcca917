-- What is read of a source of frames, and which packets are put out of it.
use Rattle.std.specs.Prelude.{◌≡◌, ℕ, ◌+◌, ◌<◌, ◌≤◌, Bool, true, false, List, [], ◌∷◌, ◌++◌, length, take, Option, Some, None, option_map, Result, Ok, is_err, if◌then◌else◌}
use Rattle.std.specs.Io.KnownBytes.{IsAtEnd}
use Rattle.std.specs.Option.{option_or}
use Rattle.up_base.specs.declared.refusal.Failed.{Failed}
use Rattle.up_frame.specs.Readers.{StandsFor as IsReaderOf}
use Rattle.up_model.specs.FrameStreams.{broken_at, whole_frames}
use Rattle.up_model.specs.Outcomes.{carried_as, shown_by}
use Rattle.up_model.specs.Packet.{Flow}
use Rattle.up_model.specs.declared.form.SourceForm.TheVariants.{Framed}
use Rattle.up_model.specs.declared.kind.Kind.{Kind}
use Rattle.up_model.specs.declared.kind.Kind.TheVariants as kinds
use Rattle.up_model.specs.declared.limits.TheConstants.{MAX_LIMIT}
use Rattle.up_model.specs.declared.outcome.Outcome.{Outcome}
use Rattle.up_model.specs.declared.outcome.Outcome.TheVariants as outcomes
use Rattle.up_model.specs.declared.plain_packet.PlainPacket.{PlainPacket}
use Rattle.up_outside.specs.Counts.{CountsOnce}
use Rattle.up_outside.specs.Moves.{count_of}
use Rattle.up_outside.specs.States.{SourceState}
use Rattle.up_strand.specs.Reads.{EndsBy, WereRead}
use Rattle.up_strand.specs.declared.frame_source.FrameSource.{FrameSource}
use Rattle.up_strand.specs.declared.frame_source.NextFrame.{NextFrame}
use Rattle.up_strand.specs.declared.frame_source.NextFrame.TheVariants.{Packet, Piece, Ended, NoMemory}
use Rattle.up_strand.specs.declared.frame_source.TheConstants.{MAX_PIECE}

-- one read gave the front of the room, or failed
pub record ReadsOnce (old new : SourceState) (room : List ℕ) (result : Result ℕ Failed) : Type 0 where
  pub took : WereRead old new (take (count_of result) room) (count_of result)
  pub end : result ≡ Ok 0 → IsAtEnd new.left
  pub faults : CountsOnce (is_err result) old.faults new.faults

-- its bytes were read and these packets put out: its reader was fed the bytes within the limit and gave the packets, and what the
-- bytes show whatever comes behind them is known
pub record FramesStand {S : Type 0} (frames : FrameSource S) (read : List ℕ) (put : Flow) : Type 0 where
  pub reader : IsReaderOf frames.reader (take frames.limit read) put
  pub known : frames.shown ≡ shown_by Framed frames.limit read
  pub rest : frames.shown ≡ None → length read + frames.left ≡ frames.limit
  pub few : length read ≤ frames.limit + 1
  pub in_limit : frames.limit ≤ MAX_LIMIT

abbrev pub FramesStandForSome : {S : Type 0} → FrameSource S → Type 0
FramesStandForSome frames = (read : List ℕ) × ((put : Flow) × FramesStand frames read put)

-- a source of frames with this limit; its path plays no part in what it carries
abbrev pub framed_source : ℕ → Kind
framed_source limit = kinds.Source [] Framed limit

-- a read of the source failed
abbrev pub frame_read_failed : {P : Type 0} → NextFrame P → Bool
frame_read_failed (Packet p) = false
frame_read_failed Piece = false
frame_read_failed (Ended outcomes.Whole) = false
frame_read_failed (Ended outcomes.ReadFault) = true
frame_read_failed (Ended outcomes.WriteFault) = false
frame_read_failed (Ended (outcomes.BadFrame offset)) = false
frame_read_failed (Ended (outcomes.TooLong limit)) = false
frame_read_failed (Ended outcomes.Broken) = false
frame_read_failed (Ended outcomes.NoMemory) = false
frame_read_failed NoMemory = false

-- all packets were put out that the bytes hold within the limit
abbrev pub PutAll : ℕ → List ℕ → Flow → Type 0
PutAll limit read put = put ≡ whole_frames (take limit read)

module _ {P S : Type 0} (plain : P → PlainPacket) (new : FrameSource S) (rest : Option (List ℕ))
    (read : List ℕ) (put : Flow) where
  -- by the answer: the next packet; or a piece of bytes, once all packets of those before were put out; at the end
  -- all were that the bytes hold
  abbrev pub AreFramesAs : List ℕ → NextFrame P → Type 0
  AreFramesAs taken (Packet p) = (taken ≡ []) × FramesStand new read (put ++ plain p ∷ [])
  AreFramesAs taken Piece = (0 < length taken) × FramesStand new (read ++ taken) put × PutAll new.limit read put
  AreFramesAs taken (Ended outcome) = (taken ≡ []) × EndsBy Framed new.limit rest read outcome
      × (put ≡ carried_as outcome (framed_source new.limit) read)
  AreFramesAs taken NoMemory =
      (length (read ++ taken) ≤ new.limit + 1) × (0 < length taken → PutAll new.limit read put)

-- the source gave a piece at most, for all bytes and packets for which this holds
pub record GaveFrameWhere {P S : Type 0} (Stood : List ℕ → Flow → Type 0) (plain : P → PlainPacket)
    (state : S → SourceState) (old new : FrameSource S) (next : NextFrame P) : Type 0 where
  pub taken : List ℕ
  pub took : WereRead (state old.source) (state new.source) taken (length taken)
  pub piece : length taken ≤ MAX_PIECE
  pub faults : CountsOnce (frame_read_failed next) (state old.source).faults (state new.source).faults
  pub limit : new.limit ≡ old.limit
  pub are : (read : List ℕ) (put : Flow) → Stood read put
      → AreFramesAs plain new (state new.source).left read put taken next

-- the same of all for which it stood
abbrev pub GaveFrame : {P S : Type 0} → (P → PlainPacket) → (S → SourceState)
    → FrameSource S → FrameSource S → NextFrame P → Type 0
GaveFrame plain state old new next = GaveFrameWhere (FramesStand old) plain state old new next

-- it stood for these, and all packets that the bytes hold within the limit were put out
abbrev pub GaveAll : {S : Type 0} → FrameSource S → List ℕ → Flow → Type 0
GaveAll frames read put =
    FramesStand frames read put × PutAll frames.limit read put

-- what bytes within a limit show, by whether more were read past it
abbrev pub shows_where : Bool → ℕ → List ℕ → Option Outcome
shows_where past limit bytes = option_or (option_map outcomes.BadFrame (broken_at bytes))
    (if past then Some (outcomes.TooLong limit) else None)

-- the packet of an answer
abbrev pub packet_in : {P : Type 0} → NextFrame P → Option P
packet_in (Packet p) = Some p
packet_in Piece = None
packet_in (Ended outcome) = None
packet_in NoMemory = None
