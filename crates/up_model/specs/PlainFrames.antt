-- What the functions of the plain program of frames answer, and those of a reader, by the same word.
use Rattle.std.specs.Prelude.{◌≡◌, ℕ, List, Result, Ok, Err}
use Rattle.std.specs.Borrow.{Bor}
use Rattle.up_model.specs.FrameFronts.{content_at, packet_at}
use Rattle.up_model.specs.declared.frame_layout.NotWhole.{NotWhole}

-- the answer, seen by view, is what the front is
abbrev pub Finds : {X Y : Type 0} → (X → Y) → Result X NotWhole → Result Y NotWhole → Type 0
Finds view (Ok x) front = front ≡ Ok (view x)
Finds view (Err refused) front = front ≡ Err refused

-- behind the head so many attributes and bytes are what makes the frame, or the refusal is that of the frame
abbrev pub FindsHead : List ℕ → Result (ℕ × ℕ × Bor (List ℕ)) NotWhole → Type 0
FindsHead bytes (Ok head) = packet_at bytes ≡ content_at head.0 head.1 head.2.now
FindsHead bytes (Err refused) = packet_at bytes ≡ Err refused
