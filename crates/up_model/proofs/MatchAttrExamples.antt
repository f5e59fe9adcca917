-- Worked examples of `match_attr`, computed.
use Rattle.std.proofs.Common.{◌≡◌, ◌∷◌, [], List, ℕ, ◌-◌, ◌^◌, pos, Some, None, true, refl, ap, ap₂, if◌then◌else◌, arith}
use Rattle.std.specs.Prelude.{codes, option_and_then}
use Rattle.std.specs.FinMap.{get-from_sorted}
use Rattle.std.specs.FinMap.Entries.{find}
use Rattle.std.specs.Int.RustNames.{unsigned_abs}
use Rattle.up_model.proofs.AttrLists.{Attr, HasOrder, by_name, attrs_of}
use Rattle.up_model.specs.Kinds.{IsWithinBounds, setting_of, with_option, settled_work, work_of}
use Rattle.up_model.specs.MatchAttr.{is_matched, match_attr_step}
use Rattle.up_model.specs.Packet.{Flow, PlainPacket}
use Rattle.up_model.specs.Packetwise.{sums_of}
use Rattle.up_model.specs.Tallies.{nothing, plus}
use Rattle.up_model.specs.Value.{unsigned_of}
use Rattle.up_model.specs.declared.kind.Kind.TheVariants.{MatchAttr}
use Rattle.up_model.specs.declared.opt.Opt.TheVariants.{Mtu, Align, Offset, Low, High, By, Sync}
use Rattle.up_model.specs.declared.value.Value.TheVariants.{Void, Flag, Unsigned, Words, Opaque}
use Rattle.up_model.specs.declared.verdict.Verdict.TheVariants.{Passes, Drops}

-- the packet `ab` with these attributes
abbrev with : List Attr → PlainPacket
with list = record { attrs = attrs_of list; bytes = codes "ab" }

-- a map is read by its laws: what stands under a name of a list in order is computed
looked_up : (list : List Attr) (name : List ℕ) (low high : ℕ) → HasOrder list
    → match_attr_step name low high (with list) ≡ (if is_matched low high (option_and_then unsigned_of (find by_name name list)) then Passes (with list) 0 else Drops)
looked_up list name low high order =
    ap (λ found. if is_matched low high (option_and_then unsigned_of found) then Passes (with list) 0 else Drops) (get-from_sorted by_name list name order)

abbrev rate : ℕ → List Attr
rate number = (codes "rate", Unsigned number) ∷ []

-- both bounds are included, and a number between them
pub at_least : match_attr_step (codes "rate") 3 9 (with (rate 3)) ≡ Passes (with (rate 3)) 0
at_least = looked_up _ _ _ _ tt

pub at_greatest : match_attr_step (codes "rate") 3 9 (with (rate 9)) ≡ Passes (with (rate 9)) 0
at_greatest = looked_up _ _ _ _ tt

pub between : match_attr_step (codes "rate") 3 9 (with (rate 7)) ≡ Passes (with (rate 7)) 0
between = looked_up _ _ _ _ tt

-- one off either side is dropped
pub below : match_attr_step (codes "rate") 3 9 (with (rate 2)) ≡ Drops
below = looked_up _ _ _ _ tt

pub above : match_attr_step (codes "rate") 3 9 (with (rate 10)) ≡ Drops
above = looked_up _ _ _ _ tt

-- bounds that are one number match it alone
pub one_number : (match_attr_step (codes "rate") 7 7 (with (rate 7)) ≡ Passes (with (rate 7)) 0) × (match_attr_step (codes "rate") 7 7 (with (rate 8)) ≡ Drops)
one_number = (looked_up _ _ _ _ tt, looked_up _ _ _ _ tt)

-- the widest bounds match the least and the greatest number
pub widest : (match_attr_step (codes "rate") 0 (2 ^ 64 - 1) (with (rate 0)) ≡ Passes (with (rate 0)) 0)
    × (match_attr_step (codes "rate") 0 (2 ^ 64 - 1) (with (rate (2 ^ 64 - 1))) ≡ Passes (with (rate (2 ^ 64 - 1))) 0)
widest = (looked_up _ _ _ _ tt, looked_up _ _ _ _ tt)

-- what is no number is dropped even then
pub text : match_attr_step (codes "rate") 0 (2 ^ 64 - 1) (with ((codes "rate", Words (codes "7")) ∷ [])) ≡ Drops
text = looked_up _ _ _ _ tt

pub void : match_attr_step (codes "rate") 0 (2 ^ 64 - 1) (with ((codes "rate", Void) ∷ [])) ≡ Drops
void = looked_up _ _ _ _ tt

pub flag : match_attr_step (codes "rate") 0 (2 ^ 64 - 1) (with ((codes "rate", Flag true) ∷ [])) ≡ Drops
flag = looked_up _ _ _ _ tt

pub opaque_bytes : match_attr_step (codes "rate") 0 (2 ^ 64 - 1) (with ((codes "rate", Opaque (7 ∷ [])) ∷ [])) ≡ Drops
opaque_bytes = looked_up _ _ _ _ tt

-- so is a packet without the attribute: `Rate` is another name
pub missing : (match_attr_step (codes "Rate") 0 (2 ^ 64 - 1) (with (rate 7)) ≡ Drops) × (match_attr_step (codes "rate") 0 (2 ^ 64 - 1) (with []) ≡ Drops)
missing = (looked_up _ _ _ _ tt, looked_up _ _ _ _ tt)

-- the two bytes of the packet that is dropped are cut
pub tally : (work_of (MatchAttr (codes "rate") 3 9) (with (rate 9) ∷ with (rate 10) ∷ [])).tally
    ≡ record { taken = 2; put = 1; dropped = 1; cut = 2; gained = 0; lost = 0 }
tally =
    ap₂ (λ one other. plus (sums_of (with (rate 9)) one) (plus (sums_of (with (rate 10)) other) nothing))
    (looked_up (rate 9) (codes "rate") 3 9 tt) (looked_up (rate 10) (codes "rate") 3 9 tt)

-- the work before the end is the same: nothing is held back
pub settled : (taken : Flow) → settled_work (MatchAttr (codes "rate") 3 9) taken ≡ work_of (MatchAttr (codes "rate") 3 9) taken
settled taken = refl

module _ (attr : List ℕ) where
  -- the least number goes from 0 up to the greatest, and the greatest from the least up to 2^64 - 1
  pub bounds :
      (setting_of (MatchAttr attr 3 9) Low ≡ Some (record { value = pos 3; low = pos 0; high = pos 9; set = λ value. MatchAttr attr (unsigned_abs value) 9 }))
      × (setting_of (MatchAttr attr 3 9) High ≡ Some (record { value = pos 9; low = pos 3; high = pos 18446744073709551615; set = λ value. MatchAttr attr 3 (unsigned_abs value) }))
  bounds = (refl, refl)

  -- it has no other option
  pub no_other : (setting_of (MatchAttr attr 3 9) Mtu ≡ None) × (setting_of (MatchAttr attr 3 9) Align ≡ None) × (setting_of (MatchAttr attr 3 9) Offset ≡ None)
      × (setting_of (MatchAttr attr 3 9) By ≡ None) × (setting_of (MatchAttr attr 3 9) Sync ≡ None)
  no_other = (refl, refl, refl, refl, refl)

  -- the greatest is set before the least
  pub set_both : with_option (with_option (MatchAttr attr 0 (2 ^ 64 - 1)) High (pos 9)) Low (pos 3) ≡ MatchAttr attr 3 9
  set_both = refl

-- bounds that are one number are within the bounds of the kind, crossed ones are not, and a greatest of 2^64 is not
pub edges : ((attr : List ℕ) → IsWithinBounds (MatchAttr attr 7 7)) × ((attr : List ℕ) → IsWithinBounds (MatchAttr attr 8 7) → ⊥)
    × ((attr : List ℕ) → IsWithinBounds (MatchAttr attr 0 (2 ^ 64 - 1))) × ((attr : List ℕ) → IsWithinBounds (MatchAttr attr 0 (2 ^ 64)) → ⊥)
edges =
    (λ attr. (omega arith, omega arith), λ attr within. omega (arith, within.0), λ attr. (omega arith, omega arith), λ attr within. omega (arith, within.1))
