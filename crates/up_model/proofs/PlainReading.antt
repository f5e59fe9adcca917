-- Attributes and packets that are read one by one.
use Rattle.std.proofs.Common.{◌≡◌, ℕ, suc, ◌+◌, ◌-◌, ◌^◌, ◌<◌, ◌≤◌, List, [], ◌∷◌, ◌++◌, length, take, get_or, All, Ok, Err, refl, sym, ap, ◌∙◌, append_assoc, append-nil, arith}
use Rattle.std.proofs.Math.Nat.{pow-le-pow_right}
use Rattle.std.proofs.lemmas.List.{length-take}
use Rattle.std.proofs.lemmas.List.Elements.{All-nil, All-cons, All-take, All-from_get_or}
use Rattle.up_base.specs.Number.{AreBytes, big_endian}
use Rattle.up_model.proofs.AttrLists.{Attr}
use Rattle.up_model.proofs.FrameFields.{found, number_below}
use Rattle.up_model.proofs.FrameStreams.{first_is, none_is, all_within}
use Rattle.up_model.specs.FrameFronts.{Front, ◌>>=◌, attribute_at, attributes_at, packet_at}
use Rattle.up_model.specs.FrameStreams.{IsFramed, Stream, whole_frames, rest_of_frames}
use Rattle.up_model.specs.Packet.{Flow, IsLegal}
use Rattle.up_model.specs.declared.frame_layout.NotWhole.{NotWhole}
use Rattle.up_model.specs.declared.plain_packet.PlainPacket.{PlainPacket}

-- each is a byte
pub are_bytes : (bytes : List ℕ) → ((i : ℕ) → get_or bytes i 0 < 256) → AreBytes bytes
are_bytes bytes below = All-from_get_or (λ byte. byte < 256) bytes 0 (λ i within. below i)

-- less than eight of them are a number of less than eight bytes
pub digits_small : (digits : List ℕ) (place : ℕ) → AreBytes digits → place < 8 → big_endian (take place digits) < 256 ^ 7
digits_small digits place below few =
    let number = number_below (take place digits) (All-take (λ byte. byte < 256) place digits below) in
    let count : length (take place digits) ≤ 7 = omega (arith, length-take place digits) in
    let worth : 256 ^ length (take place digits) ≤ 256 ^ 7 = pow-le-pow_right (omega arith) count in
    omega (arith, number, worth)

-- what is read, behind attributes that were read before
pub with_front : List Attr → Front (List Attr) → Front (List Attr)
with_front front read = read >>= λ x. found (front ++ x.0, x.1)

-- so many of the attributes are these, and the others begin here
abbrev pub AreRead : ℕ → ℕ → List ℕ → List Attr → List ℕ → List ℕ → Type 0
AreRead count passed bytes front before rest =
    with_front front (attributes_at (count - passed) before rest) ≡ attributes_at count [] bytes

nothing_before : (read : Front (List Attr)) → with_front [] read ≡ read
unfolding with_front
nothing_before (Ok x) = refl
nothing_before (Err refused) = refl

pub none_read : (count : ℕ) (bytes : List ℕ) → AreRead count 0 bytes [] [] bytes
none_read count bytes =
    let all : count - 0 ≡ count = omega arith in
    ap (λ (n : ℕ). with_front [] (attributes_at n [] bytes)) all ∙ nothing_before (attributes_at count [] bytes)

one_over : (front : List Attr) (attr : Attr) (read : Front (List Attr))
    → with_front front (read >>= λ others. found (attr ∷ others.0, others.1)) ≡ with_front (front ++ attr ∷ []) read
unfolding with_front
one_over front attr (Ok x) = ap (λ (list : List Attr). found (list, x.1)) (sym (append_assoc front (attr ∷ []) x.0))
one_over front attr (Err refused) = refl

pub one_read : (count passed : ℕ) (bytes : List ℕ) (front : List Attr) (before rest : List ℕ) (attr : Attr) (behind : List ℕ) → passed < count
    → attribute_at before rest ≡ Ok (attr, behind) → AreRead count passed bytes front before rest
    → AreRead count (passed + 1) bytes (front ++ attr ∷ []) attr.0 behind
unfolding attributes_at with_front
one_read count passed bytes front before rest attr behind more is so_far =
    let left : count - passed ≡ suc (count - (passed + 1)) = omega arith in
    let next : with_front front (attributes_at (count - passed) before rest) ≡ with_front (front ++ attr ∷ []) (attributes_at (count - (passed + 1)) attr.0 behind) =
    ap (λ (n : ℕ). with_front front (attributes_at n before rest)) left
    ∙ ap (λ (r : Front Attr). with_front front (r >>= λ first. attributes_at (count - (passed + 1)) first.0.0 first.1 >>= λ others. found (first.0 ∷ others.0, others.1))) is
    ∙ one_over front attr (attributes_at (count - (passed + 1)) attr.0 behind) in
    sym next ∙ so_far

-- one that isn't whole ends them all
pub one_refused : (count passed : ℕ) (bytes : List ℕ) (front : List Attr) (before rest : List ℕ) (refused : NotWhole) → passed < count
    → attribute_at before rest ≡ Err refused → AreRead count passed bytes front before rest → attributes_at count [] bytes ≡ Err refused
unfolding attributes_at with_front
one_refused count passed bytes front before rest refused more is so_far =
    let left : count - passed ≡ suc (count - (passed + 1)) = omega arith in
    sym so_far
    ∙ ap (λ (n : ℕ). with_front front (attributes_at n before rest)) left
    ∙ ap (λ (r : Front Attr). with_front front (r >>= λ first. attributes_at (count - (passed + 1)) first.0.0 first.1 >>= λ others. found (first.0 ∷ others.0, others.1))) is

pub all_read : (count passed : ℕ) (bytes : List ℕ) (front : List Attr) (before rest : List ℕ) → count ≤ passed
    → AreRead count passed bytes front before rest → attributes_at count [] bytes ≡ Ok (front, rest)
unfolding attributes_at with_front
all_read count passed bytes front before rest none so_far =
    let left : count - passed ≡ 0 = omega arith in
    sym so_far
    ∙ ap (λ (n : ℕ). with_front front (attributes_at n before rest)) left
    ∙ ap (λ (list : List Attr). found (list, rest)) (append-nil front)

-- one packet more of the stream
pub one_packet : (bytes rest : List ℕ) (flow : Flow) (packet : PlainPacket) (behind : List ℕ) → packet_at rest ≡ Ok (packet, behind)
    → flow ++ whole_frames rest ≡ whole_frames bytes → (flow ++ packet ∷ []) ++ whole_frames behind ≡ whole_frames bytes
one_packet bytes rest flow packet behind is so_far =
    append_assoc flow (packet ∷ []) (whole_frames behind)
    ∙ ap (λ others. flow ++ others) (sym (ap (λ (s : Stream). s.flow) (first_is rest (packet, behind) is)))
    ∙ so_far

-- no more of it
pub no_packet : (bytes rest : List ℕ) (flow : Flow) (refused : NotWhole) → packet_at rest ≡ Err refused
    → flow ++ whole_frames rest ≡ whole_frames bytes → flow ≡ whole_frames bytes
no_packet bytes rest flow refused is so_far =
    sym (append-nil flow)
    ∙ ap (λ others. flow ++ others) (sym (ap (λ (s : Stream). s.flow) (none_is rest refused is)))
    ∙ so_far

framed_are_legal : (flow : Flow) (bytes rest : List ℕ) → IsFramed bytes flow rest → All IsLegal flow
framed_are_legal [] bytes rest framed = All-nil IsLegal
framed_are_legal (packet ∷ flow) bytes rest framed = All-cons IsLegal packet flow framed.0 (framed_are_legal flow framed.1.0 rest framed.1.2)

-- whole frames are legal packets
pub whole_frames_are_legal : (bytes : List ℕ) → AreBytes bytes → All IsLegal (whole_frames bytes)
whole_frames_are_legal bytes below =
    framed_are_legal (whole_frames bytes) bytes (rest_of_frames bytes) (all_within (length bytes) bytes (omega arith) below).framed
