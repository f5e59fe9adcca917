-- Worked examples of options, computed.
use Rattle.std.proofs.Common.{◌≡◌, pos, Some, None, refl, arith}
use Rattle.std.specs.Int.RustNames.{unsigned_abs}
use Rattle.up_model.specs.Kinds.{IsWithinBounds, setting_of, with_option}
use Rattle.up_model.specs.declared.kind.Kind.TheVariants.{Idem, Null, Dup, Skip}
use Rattle.up_model.specs.declared.opt.Opt.{Opt}
use Rattle.up_model.specs.declared.opt.Opt.TheVariants.{Mtu, Align, Offset, Low, High, By, Sync}

-- `skip` has an offset, from 0 to the bytes of the greatest packet
pub offset_of_skip : setting_of (Skip 188) Offset ≡ Some (record { value = pos 188; low = pos 0; high = pos 1048576; set = λ value. Skip (unsigned_abs value) })
offset_of_skip = refl

-- and no other option
pub others_of_skip : (setting_of (Skip 188) Mtu ≡ None) × (setting_of (Skip 188) Align ≡ None) × (setting_of (Skip 188) Low ≡ None)
    × (setting_of (Skip 188) High ≡ None) × (setting_of (Skip 188) By ≡ None) × (setting_of (Skip 188) Sync ≡ None)
others_of_skip = (refl, refl, refl, refl, refl, refl)

-- `idem`, `null` and `dup` have none
pub none_of_idem : (option : Opt) → (setting_of Idem option ≡ None) × (setting_of Null option ≡ None) × (setting_of Dup option ≡ None)
none_of_idem option = (refl, refl, refl)

-- an option that is set
pub set_offset : with_option (Skip 188) Offset (pos 4) ≡ Skip 4
set_offset = refl

-- one that the kind hasn't changes nothing
pub set_other : (with_option (Skip 188) Mtu (pos 4) ≡ Skip 188) × (with_option Idem Offset (pos 4) ≡ Idem)
set_other = (refl, refl)

-- the greatest offset is within the bounds, the next is not
pub greatest_offset : IsWithinBounds (Skip 1048576) × (IsWithinBounds (Skip 1048577) → ⊥)
greatest_offset = (omega arith, λ within. omega (arith, within))
