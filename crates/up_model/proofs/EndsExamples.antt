-- Worked examples of the bounds of sources, sinks, packets and values, computed.
use Rattle.std.proofs.Common.{◌≡◌, ℕ, ◌^◌, [], ◌∷◌, true, false, refl, arith, replicate}
use Rattle.std.proofs.lemmas.List.{length-replicate}
use Rattle.std.specs.Prelude.{codes}
use Rattle.up_model.specs.Ends.{is_path, IsSourceForm}
use Rattle.up_model.specs.Value.{IsLegalValue}
use Rattle.up_model.specs.declared.form.SourceForm.TheVariants.{Raw}
use Rattle.up_model.specs.declared.limits.TheConstants.{MAX_BLOCK, MAX_LIMIT, MAX_PACKET, MAX_PATH, MAX_VALUE, MAX_ATTRS}
use Rattle.up_model.specs.declared.value.Value.TheVariants.{Opaque}

-- a path has a byte, and no zero
pub paths : (is_path [] ≡ false) × (is_path (codes "a") ≡ true) × (is_path (97 ∷ 0 ∷ []) ≡ false)
paths = (refl, refl, refl)

-- blocks from 1 to 1,048,576 bytes
pub blocks : (IsSourceForm (Raw 0) → ⊥) × IsSourceForm (Raw 1) × IsSourceForm (Raw 1048576) × (IsSourceForm (Raw 1048577) → ⊥)
blocks = (λ form. omega (arith, form.0), (omega arith, omega arith), (omega arith, omega arith), λ form. omega (arith, form.1))

-- the bounds by their names
pub bounds : (MAX_PACKET ≡ 1048576) × (MAX_BLOCK ≡ 1048576) × (MAX_VALUE ≡ 4096) × (MAX_ATTRS ≡ 64) × (MAX_PATH ≡ 4096) × (MAX_LIMIT ≡ 2 ^ 40)
bounds = (refl, refl, refl, refl, refl, refl)

-- an opaque value of 4,096 bytes is legal, one of 4,097 isn't
pub greatest_value : IsLegalValue (Opaque (replicate 4096 0)) × (IsLegalValue (Opaque (replicate 4097 0)) → ⊥)
greatest_value = (omega (arith, length-replicate {A = ℕ} 4096 0), λ legal. omega (arith, legal, length-replicate {A = ℕ} 4097 0))
