-- The kind `swap16` keeps the laws, and what its definition says byte by byte.
use Rattle.std.proofs.Common.{◌≡◌, ℕ, zero, suc, ◌+◌, ◌*◌, ◌<◌, List, [], ◌∷◌, length, slice_get, refl, ap, arith}
use Rattle.up_model.proofs.Lawful.{KeepsFlows, by_packets}
use Rattle.up_model.proofs.Legality.{with_bytes}
use Rattle.up_model.proofs.Packetwise.{KeepsLegal, IsCutOf}
use Rattle.up_model.specs.KindMeaning.{no_options}
use Rattle.up_model.specs.Packet.{PlainPacket}
use Rattle.up_model.specs.Swap16.{swapped, swap16_step, swap16_meaning}
use Rattle.up_model.specs.declared.fan_out.FanOut.TheVariants as fans

-- no byte is taken away, and none put in
pub length-swapped : (bytes : List ℕ) → length (swapped bytes) ≡ length bytes
length-swapped [] = refl
length-swapped (byte ∷ []) = refl
length-swapped (first ∷ second ∷ bytes) = ap (λ count. suc (suc count)) (length-swapped bytes)

-- a second time gives the bytes back
pub swapped-swapped : (bytes : List ℕ) → swapped (swapped bytes) ≡ bytes
swapped-swapped [] = refl
swapped-swapped (byte ∷ []) = refl
swapped-swapped (first ∷ second ∷ bytes) = ap (λ rest. first ∷ second ∷ rest) (swapped-swapped bytes)

-- bytes 2k and 2k + 1 change places
pub pair_is_swapped : (bytes : List ℕ) (pair : ℕ) → pair * 2 + 1 < length bytes
    → (slice_get (swapped bytes) (pair * 2) ≡ slice_get bytes (pair * 2 + 1))
    × (slice_get (swapped bytes) (pair * 2 + 1) ≡ slice_get bytes (pair * 2))
pair_is_swapped [] pair within = absurd (omega arith)
pair_is_swapped (byte ∷ []) pair within = absurd (omega arith)
pair_is_swapped (first ∷ second ∷ bytes) zero within = (refl, refl)
pair_is_swapped (first ∷ second ∷ bytes) (suc pair) within =
    let even : suc pair * 2 ≡ suc (suc (pair * 2)) = omega arith in
    let odd : suc pair * 2 + 1 ≡ suc (suc (pair * 2 + 1)) = omega arith in
    rw (odd, even) (pair_is_swapped bytes pair (omega arith))

-- the last of an odd count stays
pub odd_last_stays : (bytes : List ℕ) (pairs : ℕ) → length bytes ≡ pairs * 2 + 1
    → slice_get (swapped bytes) (pairs * 2) ≡ slice_get bytes (pairs * 2)
odd_last_stays [] pairs odd = absurd (omega arith)
odd_last_stays (byte ∷ []) pairs odd =
    let none : pairs * 2 ≡ 0 = omega arith in
    rw none refl
odd_last_stays (first ∷ second ∷ bytes) zero odd = absurd (omega arith)
odd_last_stays (first ∷ second ∷ bytes) (suc pairs) odd =
    let even : suc pairs * 2 ≡ suc (suc (pairs * 2)) = omega arith in
    rw even (odd_last_stays bytes pairs (omega arith))

swap16_is_legal : KeepsLegal swap16_step
swap16_is_legal packet legal =
    with_bytes packet legal (swapped packet.bytes) (omega (arith, legal.size, length-swapped packet.bytes))

-- what goes on are as many bytes as came
pub swap16_cuts : (packet : PlainPacket) → IsCutOf packet (swap16_step packet)
swap16_cuts packet = omega (arith, length-swapped packet.bytes)

pub swap16_keeps_flows : KeepsFlows swap16_meaning
swap16_keeps_flows = by_packets (Unit {0}) swap16_step no_options fans.One swap16_is_legal
