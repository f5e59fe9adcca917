-- Worked examples of `skip`, computed.
use Rattle.std.proofs.Common.{◌≡◌, [], ◌∷◌, length, map, refl}
use Rattle.std.specs.Prelude.{codes}
use Rattle.up_model.specs.Attrs.{Attrs}
use Rattle.up_model.specs.Kinds.{settled_work, work_of}
use Rattle.up_model.specs.Packet.{Flow, plain}
use Rattle.up_model.specs.Packetwise.{passed}
use Rattle.up_model.specs.Skip.{skip_step}
use Rattle.up_model.specs.declared.verdict.Verdict.TheVariants.{Passes}
use Rattle.up_model.specs.declared.kind.Kind.TheVariants.{Skip}

-- packets of 2, 3 and 4 bytes
abbrev taken : Flow
taken = map plain (codes "ab" ∷ codes "cde" ∷ codes "fghi" ∷ [])

-- the first has fewer than 3 and is dropped, the second becomes empty and stays
pub two_of_three : passed (skip_step 3) taken ≡ map plain ([] ∷ codes "i" ∷ [])
two_of_three = refl

pub sizes : map (λ packet. length packet.bytes) (passed (skip_step 3) taken) ≡ 0 ∷ 1 ∷ []
sizes = refl

-- 2, 3 and 3 of the 9 bytes aren't put out
pub tally : (work_of (Skip 3) taken).tally ≡ record { taken = 3; put = 2; dropped = 1; cut = 8; gained = 0; lost = 0 }
tally = refl

-- the sums before the end are the same: nothing is held back
pub settled : settled_work (Skip 3) taken ≡ work_of (Skip 3) taken
settled = refl

-- no byte is taken off where the count is 0, and an empty packet stays
pub count_of_none : passed (skip_step 0) (map plain (codes "a" ∷ [] ∷ [])) ≡ map plain (codes "a" ∷ [] ∷ [])
count_of_none = refl

-- the attributes stay
pub attrs_stay : (attrs : Attrs)
    → skip_step 2 (record { attrs = attrs; bytes = codes "abc" }) ≡ Passes (record { attrs = attrs; bytes = codes "c" }) 2
attrs_stay attrs = refl
