-- What a reader of frames that come in pieces was fed, and which packets it gave.
use Rattle.std.specs.Prelude.{◌≡◌, ℕ, ◌+◌, ◌-◌, ◌≤◌, List, [], ◌∷◌, ◌++◌, length, drop, slice_range, All, Option, Some, None, Result, Ok, Err}
use Rattle.up_base.specs.Lists.{IsPrefix}
use Rattle.up_base.specs.declared.refusal.NoMemory.{NoMemory}
use Rattle.up_frame.specs.Judging.{IsJudged, IsAllJudged}
use Rattle.up_frame.specs.declared.frame_reader.FrameReader.{FrameReader}
use Rattle.up_frame.specs.declared.judged.Judged.{Judged}
use Rattle.up_frame.specs.declared.refusals.BadFrame.{BadFrame}
use Rattle.up_frame.specs.declared.refusals.FeedRefused.{FeedRefused}
use Rattle.up_frame.specs.declared.refusals.FeedRefused.TheVariants as refusals
use Rattle.up_model.specs.FrameFronts.{packet_at}
use Rattle.up_model.specs.FrameSpelling.{frames_of}
use Rattle.up_model.specs.FrameStreams.{whole_frames, rest_of_frames, broken_at}
use Rattle.up_model.specs.Packet.{Flow, IsLegal}
use Rattle.up_model.specs.declared.frame_layout.NotWhole.TheVariants.{Unfinished}
use Rattle.up_model.specs.declared.plain_packet.PlainPacket.{PlainPacket}

-- the rest is held, which is unfinished, and it was judged as far as its bytes are there
pub record HoldsRest (judged : Option Judged) (held bytes : List ℕ) : Type 0 where
  pub rest : rest_of_frames bytes ≡ held
  pub front : packet_at held ≡ Err Unfinished
  pub on : IsJudged judged held
  pub all : IsAllJudged judged held

-- nothing is broken, and the rest is held; or a frame is broken at the place, and nothing of it is held
abbrev pub Keeps : Option ℕ → Option Judged → List ℕ → List ℕ → Type 0
Keeps None judged held bytes = HoldsRest judged held bytes
Keeps (Some place) judged held bytes = (broken_at bytes ≡ Some place) × (held ≡ [])

-- the whole frames that are held and weren't given, and what stands behind them
abbrev pub frames_held : FrameReader → List ℕ
frames_held reader = slice_range reader.held.items reader.given reader.start

abbrev pub behind_frames : FrameReader → List ℕ
behind_frames reader = drop reader.start reader.held.items

-- the packets whose frames wait
pub record Waits (reader : FrameReader) (waiting : Flow) : Type 0 where
  pub legal : All IsLegal waiting
  pub frames : frames_held reader ≡ frames_of waiting

-- the reader was fed the bytes and gave these packets
pub record StandsFor (reader : FrameReader) (bytes : List ℕ) (given : Flow) : Type 0 where
  pub count : reader.fed ≡ length bytes
  pub waiting : Flow
  pub waits : Waits reader waiting
  pub whole : whole_frames bytes ≡ given ++ waiting
  pub keeps : Keeps reader.broken reader.judged (behind_frames reader) bytes

-- the same, where what stands behind the frames that wait isn't judged yet
pub record Awaits (reader : FrameReader) (bytes : List ℕ) (given : Flow) : Type 0 where
  pub count : reader.fed ≡ length bytes
  pub waiting : Flow
  pub waits : Waits reader waiting
  pub whole : whole_frames bytes ≡ given ++ waiting ++ whole_frames (behind_frames reader)
  pub rest : rest_of_frames bytes ≡ rest_of_frames (behind_frames reader)
  pub on : IsJudged reader.judged (behind_frames reader)

-- the place of the broken frame that an answer tells
abbrev pub told : Result (Unit {0}) FeedRefused → Option ℕ
told (Err (refusals.BadFrame offset)) = Some offset
told (Err refusals.NoMemory) = None
told (Ok done) = None

-- all that is held was judged, and a broken frame is told by its place
abbrev pub Judges : FrameReader → FrameReader → Option ℕ → Type 0
Judges old new broken = (bytes : List ℕ) (given : Flow) → Awaits old bytes given
    → StandsFor new bytes given × (broken_at bytes ≡ broken)

-- the bytes with the piece, where there was room for it
abbrev pub fed_with : List ℕ → List ℕ → Result (Unit {0}) FeedRefused → List ℕ
fed_with bytes piece (Ok done) = bytes ++ piece
fed_with bytes piece (Err (refusals.BadFrame offset)) = bytes ++ piece
fed_with bytes piece (Err refusals.NoMemory) = bytes

-- the piece was added, unless there was no room and nothing is broken; a broken frame is told by its
-- place
abbrev pub Feeds : FrameReader → FrameReader → List ℕ → Result (Unit {0}) FeedRefused → Type 0
Feeds old new piece result = (bytes : List ℕ) (given : Flow) → StandsFor old bytes given
    → StandsFor new (fed_with bytes piece result) given
    × (broken_at (fed_with bytes piece result) ≡ told result)

-- the packet that an answer gives, as a plain one
abbrev pub plain_answer : {P : Type 0} → (P → PlainPacket) → Result (Option P) NoMemory
    → Result (Option PlainPacket) NoMemory
plain_answer plain (Ok (Some packet)) = Ok (Some (plain packet))
plain_answer plain (Ok None) = Ok None
plain_answer plain (Err refused) = Err refused

-- the packets with the one that an answer gives
abbrev pub given_with : Flow → Result (Option PlainPacket) NoMemory → Flow
given_with given (Ok (Some packet)) = given ++ packet ∷ []
given_with given (Ok None) = given
given_with given (Err refused) = given

-- of all packets these were given, and then comes this one
abbrev pub IsNext : Flow → Flow → PlainPacket → Type 0
IsNext all given packet = IsPrefix (given ++ packet ∷ []) all

-- the packet is the next one, all were given before, or one waits for which there is no memory
abbrev pub TellsNext : Flow → Flow → Result (Option PlainPacket) NoMemory → Type 0
TellsNext all given (Ok (Some packet)) = IsNext all given packet
TellsNext all given (Ok None) = given ≡ all
TellsNext all given (Err refused) = (packet : PlainPacket) × IsNext all given packet

-- the next packet of the whole frames is given, where there is one
abbrev pub Gives : FrameReader → FrameReader → Result (Option PlainPacket) NoMemory → Type 0
Gives old new result = (bytes : List ℕ) (given : Flow) → StandsFor old bytes given
    → StandsFor new bytes (given_with given result)
    × TellsNext (whole_frames bytes) given result

-- how many bytes were fed
abbrev pub bytes_fed : FrameReader → ℕ
bytes_fed reader = reader.fed

-- of frames that were given no more bytes are held than of all others
abbrev pub IsSparing : FrameReader → Type 0
IsSparing reader = reader.given ≤ length reader.held.items - reader.given

-- how many bytes are held
abbrev pub bytes_held : FrameReader → ℕ
bytes_held reader = length reader.held.items

-- where all whole frames had been given, no more bytes are held than the rest behind them and the piece have
abbrev pub HoldsAtMostRest : FrameReader → FrameReader → List ℕ → Type 0
HoldsAtMostRest old new piece = (bytes : List ℕ) → StandsFor old bytes (whole_frames bytes)
    → bytes_held new ≤ length (rest_of_frames bytes) + length piece

-- the place where the bytes are cut, where they are
abbrev pub TellsCut : Option ℕ → Result (Unit {0}) BadFrame → Type 0
TellsCut cut (Ok done) = cut ≡ None
TellsCut cut (Err refused) = cut ≡ Some refused.offset
