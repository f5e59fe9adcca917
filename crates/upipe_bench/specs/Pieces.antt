-- What a reading of frames in pieces was fed and gave.
use Rattle.std.specs.Prelude.{◌≡◌, ℕ, List, length}
use Rattle.upipe_bench.specs.declared.pieces.Reading.{Reading}
use Rattle.up_frame.specs.Readers.{StandsFor}
use Rattle.up_model.specs.FrameStreams.{whole_frames}
use Rattle.up_model.specs.Packet.{Flow}

-- the reader was fed the bytes and gave these packets, which are counted
abbrev pub Counts : Reading → List ℕ → Flow → Type 0
Counts reading bytes given =
    StandsFor reading.reader bytes given × (reading.packets ≡ length given)

-- the same of the packets of all whole frames
abbrev pub HasRead : Reading → List ℕ → Type 0
HasRead reading bytes = Counts reading bytes (whole_frames bytes)
