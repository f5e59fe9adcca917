-- The rest of bytes: where it is broken, where the bytes are cut, and what more bytes leave.
use Rattle.std.proofs.Common.{◌≡◌, ℕ, ◌-◌, ◌<◌, List, [], ◌∷◌, ◌++◌, length, append-nil, Some, None, Err, refl, sym, ap, subst, ◌∙◌, arith}
use Rattle.up_model.proofs.FrameMoreBytes.{grown, is_broken}
use Rattle.up_model.proofs.FrameSteady.{Stays, packet_steady}
use Rattle.up_model.proofs.FrameStreams.{nothing_at_end, none_is}
use Rattle.up_model.specs.FrameFronts.{Front, packet_at}
use Rattle.up_model.specs.FrameStreams.{Stream, whole_frames, rest_of_frames, rest_place, broken_where, broken_at, place_of_some, cut_at}
use Rattle.up_model.specs.Packet.{Flow}
use Rattle.up_model.specs.declared.frame_layout.NotWhole.{NotWhole}
use Rattle.up_model.specs.declared.frame_layout.NotWhole.TheVariants.{Broken, Unfinished}
use Rattle.up_model.specs.declared.plain_packet.PlainPacket.{PlainPacket}

-- the whole frames and the rest, with more bytes
pub whole_of_more : (bytes more : List ℕ) → whole_frames (bytes ++ more) ≡ whole_frames bytes ++ whole_frames (rest_of_frames bytes ++ more)
whole_of_more bytes more = ap (λ (s : Stream). s.flow) (grown (length bytes) bytes more (omega arith))

pub rest_of_more : (bytes more : List ℕ) → rest_of_frames (bytes ++ more) ≡ rest_of_frames (rest_of_frames bytes ++ more)
rest_of_more bytes more = ap (λ (s : Stream). s.rest) (grown (length bytes) bytes more (omega arith))

-- where the rest is broken
pub broken_rest : (bytes rest : List ℕ) (refused : NotWhole) → rest_of_frames bytes ≡ rest → packet_at rest ≡ Err refused
    → broken_at bytes ≡ broken_where (length bytes - length rest) (Err refused)
broken_rest bytes rest refused is e =
    ap (λ (r : List ℕ). broken_where (length bytes - length r) (packet_at r)) is
    ∙ ap (λ (front : Front PlainPacket). broken_where (length bytes - length rest) front) e

-- where the bytes are cut
pub cut_held : (bytes held : List ℕ) → rest_of_frames bytes ≡ held → cut_at bytes ≡ place_of_some (length bytes - length held) held
cut_held bytes held is = ap (λ (r : List ℕ). place_of_some (length bytes - length r) r) is

some_there : (place : ℕ) (bytes : List ℕ) → 0 < length bytes → place_of_some place bytes ≡ Some place
some_there place [] some = absurd (omega (arith, some))
some_there place (byte ∷ bytes) some = refl

pub cut_some : (bytes held : List ℕ) → rest_of_frames bytes ≡ held → 0 < length held → cut_at bytes ≡ Some (length bytes - length held)
cut_some bytes held is some = cut_held bytes held is ∙ some_there (length bytes - length held) held some

none_there : (place : ℕ) (bytes : List ℕ) → length bytes ≡ 0 → place_of_some place bytes ≡ None
none_there place [] none = refl
none_there place (byte ∷ bytes) none = absurd (omega (arith, none))

pub cut_none : (bytes held : List ℕ) → rest_of_frames bytes ≡ held → length held ≡ 0 → cut_at bytes ≡ None
cut_none bytes held is none = cut_held bytes held is ∙ none_there (length bytes - length held) held none

-- a broken frame has bytes
some_broken : (place : ℕ) (bytes : List ℕ) → packet_at bytes ≡ Err Broken → place_of_some place bytes ≡ Some place
some_broken place [] e = different (sym nothing_at_end ∙ e)
  where
    different : ◌≡◌ {A = Front PlainPacket} (Err Unfinished) (Err Broken) → place_of_some place [] ≡ Some place
    different e = absurd cc
some_broken place (byte ∷ bytes) e = refl

pub cut_broken : (bytes : List ℕ) (place : ℕ) → broken_at bytes ≡ Some place → cut_at bytes ≡ Some place
cut_broken bytes place e =
    let broken = is_broken (rest_place bytes) place (packet_at (rest_of_frames bytes)) e in
    some_broken (rest_place bytes) (rest_of_frames bytes) broken.0 ∙ ap Some broken.1

-- behind a broken frame no more frames are whole
pub broken_whole : (bytes more : List ℕ) (place : ℕ) → broken_at bytes ≡ Some place → whole_frames (bytes ++ more) ≡ whole_frames bytes
broken_whole bytes more place e =
    let rest = rest_of_frames bytes in
    let broken = is_broken (rest_place bytes) place (packet_at rest) e in
    let later : packet_at (rest ++ more) ≡ Err Broken = subst (λ front. Stays more front (packet_at (rest ++ more))) broken.0 (packet_steady rest more) in
    whole_of_more bytes more
    ∙ ap (λ (f : Flow). whole_frames bytes ++ f) (ap (λ (s : Stream). s.flow) (none_is (rest ++ more) Broken later))
    ∙ append-nil (whole_frames bytes)
