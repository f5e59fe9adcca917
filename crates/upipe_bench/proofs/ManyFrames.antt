-- Frames of one packet, as often as is wanted.
use Rattle.std.proofs.Common.{◌≡◌, ℕ, zero, suc, ◌+◌, ◌-◌, ◌*◌, ◌≤◌, List, [], ◌∷◌, ◌++◌, length, take, slice_range, replicate, sym, ap, ◌∙◌, append-nil, arith}
use Rattle.std.specs.List.{concat}
use Rattle.std.proofs.Math.Seq.{take-add}
use Rattle.std.proofs.lemmas.List.{length-replicate, replicate-append-replicate}
use Rattle.std.proofs.lemmas.List.Folds.{concat-append}
use Rattle.std.proofs.lemmas.List.Elements.{All-replicate}
use Rattle.up_model.proofs.FrameStreams.{all_back}
use Rattle.up_model.proofs.Joined.{frames_of-append}
use Rattle.up_model.specs.FrameSpelling.{frame_of, frames_of}
use Rattle.up_model.specs.FrameStreams.{Stream, whole_frames}
use Rattle.up_model.specs.Packet.{IsLegal}
use Rattle.up_model.specs.declared.plain_packet.PlainPacket.{PlainPacket}

-- one more behind the others
pub frame_more : (packet : PlainPacket) (count : ℕ) → frames_of (replicate count packet) ++ frame_of packet ≡ frames_of (replicate (count + 1) packet)
frame_more packet count =
    ap (λ (b : List ℕ). frames_of (replicate count packet) ++ b) (sym (append-nil (frame_of packet)))
    ∙ sym (frames_of-append (replicate count packet) (packet ∷ []))
    ∙ ap frames_of (replicate-append-replicate count 1 packet)

pub bytes_more : (bytes : List ℕ) (count : ℕ) → concat (replicate count bytes) ++ bytes ≡ concat (replicate (count + 1) bytes)
bytes_more bytes count =
    ap (λ (b : List ℕ). concat (replicate count bytes) ++ b) (sym (append-nil bytes))
    ∙ sym (concat-append (replicate count bytes) (bytes ∷ []))
    ∙ ap concat (replicate-append-replicate count 1 bytes)

-- a slice behind the first bytes
pub slice_more : (bytes : List ℕ) (start end : ℕ) → start ≤ end → take start bytes ++ slice_range bytes start end ≡ take end bytes
slice_more bytes start end ordered =
    let place : start + (end - start) ≡ end = omega arith in
    sym (take-add start (end - start) bytes) ∙ ap (λ (n : ℕ). take n bytes) place

-- the frames so often are those of so many packets
rounds_of : (packet : PlainPacket) (count rounds : ℕ) → concat (replicate rounds (frames_of (replicate count packet))) ≡ frames_of (replicate (rounds * count) packet)
rounds_of packet count zero =
    let none : 0 ≡ 0 * count = omega arith in
    ap (λ (n : ℕ). frames_of (replicate n packet)) none
rounds_of packet count (suc rounds) =
    let sum : count + rounds * count ≡ suc rounds * count = omega arith in
    ap (λ (b : List ℕ). frames_of (replicate count packet) ++ b) (rounds_of packet count rounds)
    ∙ sym (frames_of-append (replicate count packet) (replicate (rounds * count) packet))
    ∙ ap frames_of (replicate-append-replicate count (rounds * count) packet)
    ∙ ap (λ (n : ℕ). frames_of (replicate n packet)) sum

-- as many packets are read of them
pub count_back : (packet : PlainPacket) (count rounds : ℕ) → IsLegal packet
    → length (whole_frames (concat (replicate rounds (frames_of (replicate count packet))))) ≡ rounds * count
count_back packet count rounds legal =
    ap (λ (b : List ℕ). length (whole_frames b)) (rounds_of packet count rounds)
    ∙ ap (λ (s : Stream). length s.flow) (all_back (replicate (rounds * count) packet) (All-replicate IsLegal (rounds * count) packet legal))
    ∙ length-replicate (rounds * count) packet
