-- Worked examples of a list that begins with another, and of numbers within bounds.
use Rattle.std.proofs.Common.{◌≡◌, ℕ, [], ◌∷◌, true, false, refl}
use Rattle.up_base.specs.Bounds.{is_within}
use Rattle.up_base.specs.Lists.{IsPrefix}

pub begins : IsPrefix {T = ℕ} (1 ∷ 2 ∷ []) (1 ∷ 2 ∷ 3 ∷ [])
begins = (3 ∷ [], refl)

-- with itself, too
pub begins_with_itself : IsPrefix (true ∷ []) (true ∷ [])
begins_with_itself = ([], refl)

-- both bounds are within
pub bounds :
    (is_within 1 64 0 ≡ false) × (is_within 1 64 1 ≡ true)
    × (is_within 1 64 64 ≡ true) × (is_within 1 64 65 ≡ false)
bounds = (refl, refl, refl, refl)
