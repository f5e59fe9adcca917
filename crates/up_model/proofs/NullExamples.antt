-- Worked examples of `null`, computed.
use Rattle.std.proofs.Common.{◌≡◌, [], ◌∷◌, map, refl}
use Rattle.std.specs.Prelude.{codes}
use Rattle.up_model.specs.Kinds.{work_of}
use Rattle.up_model.specs.Packet.{plain}
use Rattle.up_model.specs.declared.kind.Kind.TheVariants.{Idem, Null, Dup}

-- three packets are dropped, the empty one too, and all 5 bytes are cut
pub three_packets : work_of Null (map plain (codes "ab" ∷ [] ∷ codes "cde" ∷ []))
    ≡ record { flow = []; tally = record { taken = 3; put = 0; dropped = 3; cut = 5; gained = 0; lost = 0 } }
three_packets = refl

pub no_packets : work_of Null [] ≡ record { flow = []; tally = record { taken = 0; put = 0; dropped = 0; cut = 0; gained = 0; lost = 0 } }
no_packets = refl

-- `idem` and `dup` put the same packets out, and count no cut
pub passed_on :
    (work_of Idem (map plain (codes "ab" ∷ [] ∷ []))
    ≡ record { flow = map plain (codes "ab" ∷ [] ∷ []); tally = record { taken = 2; put = 2; dropped = 0; cut = 0; gained = 0; lost = 0 } })
    × (work_of Dup (map plain (codes "ab" ∷ [] ∷ [])) ≡ work_of Idem (map plain (codes "ab" ∷ [] ∷ [])))
passed_on = (refl, refl)
