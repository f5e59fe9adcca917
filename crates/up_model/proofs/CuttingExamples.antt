-- Worked examples of bytes that are cut into packets, computed.
use Rattle.std.proofs.Common.{◌≡◌, [], ◌∷◌, map, refl}
use Rattle.std.specs.Prelude.{codes}
use Rattle.up_model.specs.Cutting.{blocks, full_blocks}
use Rattle.up_model.specs.Packet.{plain}

-- the last block is shorter
pub last_is_shorter : blocks 3 (codes "abcdefg") ≡ map plain (codes "abc" ∷ codes "def" ∷ codes "g" ∷ [])
last_is_shorter = refl

-- the shorter block at the end is left out
pub full_ones : full_blocks 3 (codes "abcdefg") ≡ map plain (codes "abc" ∷ codes "def" ∷ [])
full_ones = refl

-- no bytes give no block
pub none : blocks 3 [] ≡ []
none = refl

-- a block that is filled to its end is followed by none
pub one : blocks 4 (codes "abcd") ≡ plain (codes "abcd") ∷ []
one = refl

-- fewer bytes than a block has
pub short : (blocks 4 (codes "a") ≡ plain (codes "a") ∷ []) × (full_blocks 4 (codes "a") ≡ [])
short = (refl, refl)
