-- Bytes as frames: the whole ones come one by one, and no others do.
use Rattle.std.proofs.Common.{◌≡◌, ℕ, zero, suc, ◌+◌, ◌<◌, ◌≤◌, List, [], ◌∷◌, ◌++◌, length, take, drop, All, Ok, Err, refl, sym, ap, ◌∙◌, append_assoc, arith, ◌-◌, None}
use Rattle.std.proofs.lemmas.List.{length-append, length-drop, take_at}
use Rattle.std.proofs.lemmas.List.Elements.{All-nil, All-cons, All-head, All-tail}
use Rattle.up_base.specs.Number.{AreBytes}
use Rattle.up_model.proofs.FrameFields.{found, found_is}
use Rattle.up_model.proofs.FramePackets.{packet_takes, packet_again}
use Rattle.up_model.proofs.FrameShorter.{packet_shrinks}
use Rattle.up_model.specs.FrameFronts.{Front, packet_at}
use Rattle.up_model.specs.FrameSpelling.{frame_of, frames_of}
use Rattle.up_model.specs.FrameStreams.{IsFramed, HasNoFrame, Stream, behind, stream_by, stream_within, stream_of, whole_frames, rest_of_frames, broken_where, broken_at, place_of_some, cut_at}
use Rattle.up_model.specs.Packet.{Flow, IsLegal}
use Rattle.up_model.specs.declared.frame_layout.NotWhole.{NotWhole}
use Rattle.up_model.specs.declared.frame_layout.NotWhole.TheVariants.{Unfinished}
use Rattle.up_model.specs.declared.plain_packet.PlainPacket.{PlainPacket}

-- no packet is found at the front of no bytes
pub nothing_at_end : packet_at [] ≡ Err Unfinished
unfolding packet_at
nothing_at_end = refl

-- in enough steps all frames are found
pub steps_enough : (m n : ℕ) (bytes : List ℕ) → length bytes ≤ m → length bytes ≤ n → stream_within m bytes ≡ stream_within n bytes
steps_enough zero zero bytes first second = refl
steps_enough zero (suc n) [] first second = ap (stream_by (stream_within n) []) (sym nothing_at_end)
steps_enough zero (suc n) (byte ∷ bytes) first second = absurd (omega arith)
steps_enough (suc m) zero [] first second = ap (stream_by (stream_within m) []) nothing_at_end
steps_enough (suc m) zero (byte ∷ bytes) first second = absurd (omega arith)
steps_enough (suc m) (suc n) bytes first second =
    next (λ rest fewer. steps_enough m n rest (omega arith) (omega arith)) (packet_at bytes) refl
  where
    next : ((rest : List ℕ) → length rest < length bytes → stream_within m rest ≡ stream_within n rest)
        → (front : Front PlainPacket) → packet_at bytes ≡ front → stream_by (stream_within m) bytes front ≡ stream_by (stream_within n) bytes front
    next others (Ok x) e = ap (behind x.0) (others x.1 (packet_shrinks bytes x e))
    next others (Err refused) e = refl

-- what stands at the front is the first packet of the stream
pub first_is : (bytes : List ℕ) (x : PlainPacket × List ℕ) → packet_at bytes ≡ Ok x → stream_of bytes ≡ behind x.0 (stream_of x.1)
first_is [] x e = let not : Err Unfinished ≡ Ok x = sym nothing_at_end ∙ e in absurd cc
first_is (byte ∷ bytes) x e =
    let fewer = packet_shrinks (byte ∷ bytes) x e in
    ap (stream_by (stream_within (length bytes)) (byte ∷ bytes)) e
    ∙ ap (behind x.0) (steps_enough (length bytes) (length x.1) x.1 (omega (arith, fewer)) (omega arith))

-- where none does, the stream is its rest
pub none_is : (bytes : List ℕ) (refused : NotWhole) → packet_at bytes ≡ Err refused → stream_of bytes ≡ record { flow = []; rest = bytes }
none_is [] refused e = refl
none_is (byte ∷ bytes) refused e = ap (stream_by (stream_within (length bytes)) (byte ∷ bytes)) e

-- a frame before other bytes is the first
pub one_by_one : (packet : PlainPacket) (bytes : List ℕ) → IsLegal packet → stream_of (frame_of packet ++ bytes) ≡ behind packet (stream_of bytes)
one_by_one packet bytes legal = first_is (frame_of packet ++ bytes) (packet, bytes) (packet_again packet bytes legal)

-- frames one after the other are these packets, and nothing is left
pub all_back : (flow : Flow) → All IsLegal flow → stream_of (frames_of flow) ≡ record { flow = flow; rest = [] }
all_back [] legal = refl
all_back (packet ∷ flow) legal =
    one_by_one packet (frames_of flow) (All-head IsLegal packet flow legal)
    ∙ ap (behind packet) (all_back flow (All-tail IsLegal packet flow legal))

-- two frames at one place are one
pub no_other : (a b : PlainPacket) (x y : List ℕ) → IsLegal a → IsLegal b → frame_of a ++ x ≡ frame_of b ++ y → (a ≡ b) × (x ≡ y)
no_other a b x y first second same =
    let read : found (a, x) ≡ found (b, y) = sym (packet_again a x first) ∙ ap packet_at same ∙ packet_again b y second in
    let pair = found_is (a, x) (b, y) read in
    (ap (λ (p : PlainPacket × List ℕ). p.0) pair, ap (λ (p : PlainPacket × List ℕ). p.1) pair)

not_both : {A : Type 0} (x : A) (refused : NotWhole) → found x ≡ Err refused → ⊥
not_both x refused e = absurd cc

-- where nothing is read, no frame stands
none_here : (bytes : List ℕ) (refused : NotWhole) → packet_at bytes ≡ Err refused → HasNoFrame bytes
none_here bytes refused e packet legal prefix =
    not_both (packet, prefix.0) refused (sym (packet_again packet prefix.0 legal) ∙ ap packet_at (sym prefix.1) ∙ e)

-- the stream is the bytes, and no frame is left
pub record IsStream (bytes : List ℕ) (stream : Stream) : Type 0 where
  pub framed : IsFramed bytes stream.flow stream.rest
  pub none : HasNoFrame stream.rest

pub all_within : (n : ℕ) (bytes : List ℕ) → length bytes ≤ n → AreBytes bytes → IsStream bytes (stream_within n bytes)
all_within zero [] enough below = record { framed = refl; none = none_here [] Unfinished nothing_at_end }
all_within zero (byte ∷ bytes) enough below = absurd (omega arith)
all_within (suc n) bytes enough below =
    next (λ rest fewer right. all_within n rest (omega arith) right) (packet_at bytes) refl
  where
    next : ((rest : List ℕ) → length rest < length bytes → AreBytes rest → IsStream rest (stream_within n rest))
        → (front : Front PlainPacket) → packet_at bytes ≡ front → IsStream bytes (stream_by (stream_within n) bytes front)
    next others (Ok x) e =
        let frame = packet_takes bytes x below e in
        let rest = others x.1 (packet_shrinks bytes x e) frame.takes.below in
        record { framed = (frame.legal, (x.1, frame.takes.parts, rest.framed)); none = rest.none }
    next others (Err refused) e = record { framed = refl; none = none_here bytes refused e }

-- and it is the only one
pub only_one : (flow : Flow) (bytes rest : List ℕ) → AreBytes bytes → IsFramed bytes flow rest → HasNoFrame rest
    → stream_of bytes ≡ record { flow = flow; rest = rest }
only_one [] bytes rest below framed none =
    ended (packet_at bytes) refl ∙ ap (λ (r : List ℕ). record { flow = []; rest = r }) framed
  where
    ended : (front : Front PlainPacket) → packet_at bytes ≡ front → stream_of bytes ≡ record { flow = []; rest = bytes }
    ended (Ok x) e =
        let frame = packet_takes bytes x below e in
        absurd (none x.0 frame.legal (x.1, sym framed ∙ frame.takes.parts))
    ended (Err refused) e = none_is bytes refused e
only_one (packet ∷ flow) bytes rest below framed none =
    let after = framed.1.0 in
    let read = ap packet_at framed.1.1 ∙ packet_again packet after framed.0 in
    let frame = packet_takes bytes (packet, after) below read in
    ap stream_of framed.1.1 ∙ one_by_one packet after framed.0
    ∙ ap (behind packet) (only_one flow after rest frame.takes.below framed.1.2 none)

-- where nothing is left, nothing is broken or unfinished
pub neither : (bytes : List ℕ) → rest_of_frames bytes ≡ [] → (broken_at bytes ≡ None) × (cut_at bytes ≡ None)
neither bytes nothing = (
  ap (λ (r : List ℕ). broken_where (length bytes - length r) (packet_at r)) nothing ∙ ap (broken_where (length bytes - 0)) nothing_at_end,
  ap (λ (r : List ℕ). place_of_some (length bytes - length r) r) nothing,
)

-- bytes that are framed are the frames of legal packets, and the rest
framed_parts : (flow : Flow) (bytes rest : List ℕ) → IsFramed bytes flow rest → All IsLegal flow × (bytes ≡ frames_of flow ++ rest)
framed_parts [] bytes rest framed = (All-nil IsLegal, framed)
framed_parts (packet ∷ flow) bytes rest framed =
    let others = framed_parts flow framed.1.0 rest framed.1.2 in (
      All-cons IsLegal packet flow framed.0 others.0,
      framed.1.1 ∙ ap (λ (b : List ℕ). frame_of packet ++ b) others.1 ∙ sym (append_assoc (frame_of packet) (frames_of flow) rest),
    )

-- the packets of the whole frames are legal
pub frames_are_legal : (bytes : List ℕ) → AreBytes bytes → All IsLegal (whole_frames bytes)
frames_are_legal bytes below =
    (framed_parts (whole_frames bytes) bytes (rest_of_frames bytes) (all_within (length bytes) bytes (omega arith) below).framed).0

-- each of them has a byte at least, and the rest has others
parts_within : (n : ℕ) (bytes : List ℕ) → length (stream_within n bytes).flow + length (stream_within n bytes).rest ≤ length bytes
parts_within zero bytes = omega arith
parts_within (suc n) bytes = next (λ rest. parts_within n rest) (packet_at bytes) refl
  where
    next : ((rest : List ℕ) → length (stream_within n rest).flow + length (stream_within n rest).rest ≤ length rest)
        → (front : Front PlainPacket) → packet_at bytes ≡ front
        → length (stream_by (stream_within n) bytes front).flow + length (stream_by (stream_within n) bytes front).rest ≤ length bytes
    next others (Ok x) e =
        let fewer = packet_shrinks bytes x e in
        let rest = others x.1 in
        omega (arith, fewer, rest)
    next others (Err refused) e = omega arith

pub few_frames : (bytes : List ℕ) → length (whole_frames bytes) ≤ length bytes
few_frames bytes = omega (arith, parts_within (length bytes) bytes)

pub rest_within : (bytes : List ℕ) → length (rest_of_frames bytes) ≤ length bytes
rest_within bytes = omega (arith, parts_within (length bytes) bytes)

-- the bytes before the rest are the whole frames
pub whole_front : (bytes : List ℕ) (place : ℕ) → AreBytes bytes → place ≤ length bytes → rest_of_frames bytes ≡ drop place bytes
    → All IsLegal (whole_frames bytes) × (take place bytes ≡ frames_of (whole_frames bytes))
whole_front bytes place below within rest =
    let frames = frames_of (whole_frames bytes) in
    let parts = framed_parts (whole_frames bytes) bytes (rest_of_frames bytes) (all_within (length bytes) bytes (omega arith) below).framed in
    let joined : bytes ≡ frames ++ drop place bytes = parts.1 ∙ ap (λ (r : List ℕ). frames ++ r) rest in
    let counted : length bytes ≡ length frames + length (drop place bytes) = ap length joined ∙ length-append frames (drop place bytes) in
    let size : length frames ≡ place = omega (arith, counted, length-drop place bytes, within) in
    (parts.0, ap (take place) joined ∙ take_at frames (drop place bytes) place size)
