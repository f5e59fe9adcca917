-- Worked examples of numbers as bytes, computed.
use Rattle.std.proofs.Common.{◌≡◌, ◌-◌, ◌^◌, [], ◌∷◌, refl}
use Rattle.std.specs.Prelude.{replicate}
use Rattle.up_base.specs.Number.{big_endian, big_endian_bytes}

-- the first byte has the higher worth
pub two_bytes : big_endian (1 ∷ 2 ∷ []) ≡ 258
two_bytes = refl

pub four_bytes : big_endian (0x12 ∷ 0x34 ∷ 0x56 ∷ 0x78 ∷ []) ≡ 0x12345678
four_bytes = refl

-- zeros in front add nothing
pub zeros_in_front : big_endian (0 ∷ 0 ∷ 0 ∷ 7 ∷ []) ≡ 7
zeros_in_front = refl

pub greatest_of_two_bytes : big_endian (replicate 2 255) ≡ 2 ^ 16 - 1
greatest_of_two_bytes = refl

pub greatest_of_eight_bytes : big_endian (replicate 8 255) ≡ 2 ^ 64 - 1
greatest_of_eight_bytes = refl

pub no_bytes : big_endian [] ≡ 0
no_bytes = refl

-- a number in two bytes, and in more bytes than it needs
pub bytes_of_numbers :
    (big_endian_bytes 2 258 ≡ 1 ∷ 2 ∷ []) × (big_endian_bytes 4 258 ≡ 0 ∷ 0 ∷ 1 ∷ 2 ∷ [])
bytes_of_numbers = (refl, refl)
