-- Worked examples of the bytes of packets, computed.
use Rattle.std.proofs.Common.{◌≡◌, [], ◌∷◌, map, refl}
use Rattle.std.specs.Prelude.{codes}
use Rattle.up_model.specs.Packet.{joined, plain}

-- an empty packet adds no byte
pub three_packets : joined (map plain (codes "ab" ∷ [] ∷ codes "c" ∷ [])) ≡ codes "abc"
three_packets = refl

pub no_packets : joined [] ≡ []
no_packets = refl
