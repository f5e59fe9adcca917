-- Bytes as frames: the whole ones at the front, where the rest begins, and what is wrong with it.
use Rattle.std.specs.Prelude.{◌≡◌, ℕ, zero, suc, ◌-◌, List, [], ◌∷◌, ◌++◌, length, Option, Some, None, Ok, Err}
use Rattle.up_base.specs.Lists.{IsPrefix}
use Rattle.up_model.specs.FrameFronts.{Front, packet_at}
use Rattle.up_model.specs.FrameSpelling.{frame_of}
use Rattle.up_model.specs.Packet.{Flow, IsLegal}
use Rattle.up_model.specs.declared.frame_layout.NotWhole.TheVariants.{Broken, Unfinished}
use Rattle.up_model.specs.declared.plain_packet.PlainPacket.{PlainPacket}

-- the bytes are the frames of legal packets, and the rest
abbrev pub IsFramed : List ℕ → Flow → List ℕ → Type 0
IsFramed bytes [] rest = bytes ≡ rest
IsFramed bytes (packet ∷ flow) rest =
    IsLegal packet
    × ((behind : List ℕ) × (bytes ≡ frame_of packet ++ behind) × IsFramed behind flow rest)

-- no frame stands at the front
abbrev pub HasNoFrame : List ℕ → Type 0
HasNoFrame bytes = (packet : PlainPacket) → IsLegal packet → IsPrefix (frame_of packet) bytes → ⊥

-- packets, and the bytes behind their frames
pub record Stream : Type 0 where
  pub flow : Flow
  pub rest : List ℕ

-- the stream with one more packet before all others
abbrev pub behind : PlainPacket → Stream → Stream
behind packet stream = record { flow = packet ∷ stream.flow; rest = stream.rest }

-- what the front gives, and how what is behind it goes on
abbrev pub stream_by : (List ℕ → Stream) → List ℕ → Front PlainPacket → Stream
stream_by next bytes (Ok found) = behind found.0 (next found.1)
stream_by next bytes (Err refused) = record { flow = []; rest = bytes }

-- at most so many frames, and the rest
abbrev pub stream_within : ℕ → List ℕ → Stream
stream_within zero bytes = record { flow = []; rest = bytes }
stream_within (suc most) bytes = stream_by (stream_within most) bytes (packet_at bytes)

-- the whole frames: no bytes hold more frames than bytes
abbrev pub stream_of : List ℕ → Stream
stream_of bytes = stream_within (length bytes) bytes

-- the packets of the whole frames at the front
abbrev pub whole_frames : List ℕ → Flow
whole_frames bytes = (stream_of bytes).flow

-- the bytes behind them, and the place where these begin
abbrev pub rest_of_frames : List ℕ → List ℕ
rest_of_frames bytes = (stream_of bytes).rest

abbrev pub rest_place : List ℕ → ℕ
rest_place bytes = length bytes - length (rest_of_frames bytes)

-- the place, where a field in the rest is broken
abbrev pub broken_where : ℕ → Front PlainPacket → Option ℕ
broken_where place (Ok found) = None
broken_where place (Err Broken) = Some place
broken_where place (Err Unfinished) = None

-- where the rest begins, where it holds a broken field
abbrev pub broken_at : List ℕ → Option ℕ
broken_at bytes = broken_where (rest_place bytes) (packet_at (rest_of_frames bytes))

-- the place, where there are bytes
abbrev pub place_of_some : ℕ → List ℕ → Option ℕ
place_of_some place [] = None
place_of_some place (byte ∷ bytes) = Some place

-- where the rest begins, where there is one: it is broken or unfinished
abbrev pub cut_at : List ℕ → Option ℕ
cut_at bytes = place_of_some (rest_place bytes) (rest_of_frames bytes)
