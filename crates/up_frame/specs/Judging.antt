-- How far a frame was judged that isn't whole yet, and how it goes on from there.
use Rattle.std.specs.Prelude.{◌≡◌, ℕ, ◌<◌, List, [], ◌++◌, length, take, drop, All, Option, Some, None, Result, Ok, Err}
use Rattle.std.specs.FinMap.{from_sorted}
use Rattle.up_frame.specs.declared.judged.Judged.{Judged}
use Rattle.up_frame.specs.declared.judged.TheConstants.{HEAD_SIZE}
use Rattle.up_model.specs.FrameFronts.{Front, ◌>>=◌, field, is_any, attribute_at, attributes_at, packet_at}
use Rattle.up_model.specs.FrameSpelling.{frames_of}
use Rattle.up_model.specs.FrameStreams.{whole_frames, rest_of_frames}
use Rattle.up_model.specs.Packet.{IsLegal}
use Rattle.up_model.specs.declared.frame_layout.NotWhole.{NotWhole}
use Rattle.up_model.specs.declared.frame_layout.NotWhole.TheVariants.{Unfinished}
use Rattle.up_model.specs.declared.plain_packet.PlainPacket.{PlainPacket}
use Rattle.up_model.specs.declared.value.Value.{Value}

-- the name, where there is one
abbrev pub name_or_none : Option (List ℕ) → List ℕ
name_or_none None = []
name_or_none (Some name) = name

-- behind these attributes, so many others after a name, and so many bytes
unfoldable pub goes_on : List (List ℕ × Value) → ℕ → ℕ → List ℕ → List ℕ → Front PlainPacket
goes_on front left size before bytes = do
  attrs ← attributes_at left before bytes
  content ← field size is_any attrs.1
  Ok (record { attrs = from_sorted (front ++ attrs.0); bytes = content.0 }, content.1)

-- the frame at the front of the bytes, whatever follows them, goes on behind what was judged
pub record GoesOn (judged : Judged) (bytes : List ℕ) : Type 0 where
  pub front : List (List ℕ × Value)
  pub passed : List ℕ
  pub behind : List ℕ
  pub parts : bytes ≡ passed ++ behind
  pub place : length passed ≡ judged.at
  pub on : (more : List ℕ) → packet_at (bytes ++ more)
      ≡ goes_on front judged.left judged.size (name_or_none judged.before) (behind ++ more)

-- how many bytes were judged
abbrev pub judged_place : Option Judged → ℕ
judged_place None = 0
judged_place (Some judged) = judged.at

-- where something was judged, the frame goes on behind it
abbrev pub IsJudged : Option Judged → List ℕ → Type 0
IsJudged None bytes = Unit {0}
IsJudged (Some judged) bytes = GoesOn judged bytes

-- the next attribute behind what was judged
abbrev pub next_at : Judged → List ℕ → Front (List ℕ × Value)
next_at judged bytes = attribute_at (name_or_none judged.before) (drop judged.at bytes)

-- no more can be judged: the head isn't whole, the next attribute isn't, or there is none
abbrev pub IsAllJudged : Option Judged → List ℕ → Type 0
IsAllJudged None bytes = length bytes < HEAD_SIZE
IsAllJudged (Some judged) bytes = 0 < judged.left → next_at judged bytes ≡ Err Unfinished

-- the frame goes on behind what is judged now, or the refusal is that of the bytes
abbrev pub Leads : Result Judged NotWhole → List ℕ → Type 0
Leads (Ok judged) bytes = GoesOn judged bytes
Leads (Err refused) bytes = packet_at bytes ≡ Err refused

-- the frame ends at the place, or the refusal is that of the bytes
abbrev pub EndsAt : Result ℕ NotWhole → List ℕ → Type 0
EndsAt (Ok place) bytes = (packet : PlainPacket) × (packet_at bytes ≡ Ok (packet, drop place bytes))
EndsAt (Err refused) bytes = packet_at bytes ≡ Err refused

-- the bytes before the place are the frames of the legal packets that are whole
abbrev pub AreFramesBefore : ℕ → List ℕ → Type 0
AreFramesBefore place bytes =
    All IsLegal (whole_frames bytes) × (take place bytes ≡ frames_of (whole_frames bytes))

-- the rest of the bytes begins at the place, why it is no whole frame, and how far it was judged
pub record IsRest (bytes : List ℕ) (place : ℕ) (refused : NotWhole) (judged : Option Judged) : Type 0 where
  pub rest : rest_of_frames bytes ≡ drop place bytes
  pub front : packet_at (drop place bytes) ≡ Err refused
  pub on : IsJudged judged (drop place bytes)
  pub all : refused ≡ Unfinished → IsAllJudged judged (drop place bytes)
