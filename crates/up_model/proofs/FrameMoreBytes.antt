-- The whole frames of bytes that grow, and where they are broken.
use Rattle.std.proofs.Common.{◌≡◌, ℕ, zero, suc, ◌-◌, ◌<◌, ◌≤◌, List, ◌++◌, length, Some, Ok, Err, refl, ap, subst, ◌∙◌, append-nil, arith}
use Rattle.std.proofs.lemmas.List.{length-append}
use Rattle.up_base.specs.Lists.{IsPrefix}
use Rattle.up_model.proofs.FrameShorter.{packet_shrinks}
use Rattle.up_model.proofs.FrameSteady.{Stays, packet_steady}
use Rattle.up_model.proofs.FrameStreams.{first_is, none_is, rest_within}
use Rattle.up_model.specs.FrameFronts.{Front, packet_at}
use Rattle.up_model.specs.FrameStreams.{Stream, behind, stream_by, stream_within, stream_of, whole_frames, rest_of_frames, rest_place, broken_where, broken_at}
use Rattle.up_model.specs.Packet.{Flow}
use Rattle.up_model.specs.declared.frame_layout.NotWhole.TheVariants.{Broken, Unfinished}
use Rattle.up_model.specs.declared.plain_packet.PlainPacket.{PlainPacket}

-- the packets before those of a stream
abbrev pub all_behind : Flow → Stream → Stream
all_behind flow stream = record { flow = flow ++ stream.flow; rest = stream.rest }

pub grown : (n : ℕ) (bytes more : List ℕ) → length bytes ≤ n
    → stream_of (bytes ++ more) ≡ all_behind (stream_within n bytes).flow (stream_of ((stream_within n bytes).rest ++ more))
grown zero bytes more enough = refl
grown (suc n) bytes more enough =
    next (λ rest fewer. grown n rest more (omega arith)) (packet_at bytes) refl
  where
    next : ((rest : List ℕ) → length rest < length bytes
        → stream_of (rest ++ more) ≡ all_behind (stream_within n rest).flow (stream_of ((stream_within n rest).rest ++ more)))
        → (front : Front PlainPacket) → packet_at bytes ≡ front
        → stream_of (bytes ++ more)
        ≡ all_behind (stream_by (stream_within n) bytes front).flow (stream_of ((stream_by (stream_within n) bytes front).rest ++ more))
    next others (Ok x) e =
        let later : packet_at (bytes ++ more) ≡ Ok (x.0, x.1 ++ more) = subst (λ front. Stays more front (packet_at (bytes ++ more))) e (packet_steady bytes more) in
        first_is (bytes ++ more) (x.0, x.1 ++ more) later ∙ ap (behind x.0) (others x.1 (packet_shrinks bytes x e))
    next others (Err refused) e = refl

-- the whole frames stay the first
pub frames_first : (bytes more : List ℕ) → IsPrefix (whole_frames bytes) (whole_frames (bytes ++ more))
frames_first bytes more = (whole_frames (rest_of_frames bytes ++ more), ap (λ (s : Stream). s.flow) (grown (length bytes) bytes more (omega arith)))

pub is_broken : (place at : ℕ) (front : Front PlainPacket) → broken_where place front ≡ Some at → (front ≡ Err Broken) × (place ≡ at)
is_broken place at (Ok x) e = absurd cc
is_broken place at (Err Broken) e = (refl, cc)
is_broken place at (Err Unfinished) e = absurd cc

same_place : (bytes rest more : List ℕ) → length rest ≤ length bytes → length (bytes ++ more) - length (rest ++ more) ≡ length bytes - length rest
same_place bytes rest more within = omega (arith, length-append bytes more, length-append rest more)

-- bytes that are broken stay so at the same place
pub stays_broken : (bytes more : List ℕ) (place : ℕ) → broken_at bytes ≡ Some place → broken_at (bytes ++ more) ≡ Some place
stays_broken bytes more place e =
    let rest = rest_of_frames bytes in
    let broken = is_broken (rest_place bytes) place (packet_at rest) e in
    let later : packet_at (rest ++ more) ≡ Err Broken = subst (λ front. Stays more front (packet_at (rest ++ more))) broken.0 (packet_steady rest more) in
    let ends : rest_of_frames (bytes ++ more) ≡ rest ++ more =
    ap (λ (s : Stream). s.rest) (grown (length bytes) bytes more (omega arith)) ∙ ap (λ (s : Stream). s.rest) (none_is (rest ++ more) Broken later) in
    let where_ : length (bytes ++ more) - length (rest ++ more) ≡ place = same_place bytes rest more (rest_within bytes) ∙ broken.1 in
    ap (λ (r : List ℕ). broken_where (length (bytes ++ more) - length r) (packet_at r)) ends
    ∙ ap (λ (front : Front PlainPacket). broken_where (length (bytes ++ more) - length (rest ++ more)) front) later
    ∙ ap Some where_

-- and no frame comes behind one that is broken
pub frames_past_broken : (bytes more : List ℕ) (place : ℕ) → broken_at bytes ≡ Some place → whole_frames (bytes ++ more) ≡ whole_frames bytes
frames_past_broken bytes more place e =
    let rest = rest_of_frames bytes in
    let broken = is_broken (rest_place bytes) place (packet_at rest) e in
    let later : packet_at (rest ++ more) ≡ Err Broken = subst (λ front. Stays more front (packet_at (rest ++ more))) broken.0 (packet_steady rest more) in
    ap (λ (s : Stream). s.flow) (grown (length bytes) bytes more (omega arith))
    ∙ ap (λ (s : Stream). whole_frames bytes ++ s.flow) (none_is (rest ++ more) Broken later) ∙ append-nil (whole_frames bytes)
