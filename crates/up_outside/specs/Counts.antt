-- Counts of faults.
use Rattle.std.specs.Prelude.{◌≡◌, ℕ, ◌+◌, ◌-◌, ◌^◌, ◌≤◌, min, Bool, true, false, Result, Ok, Err}
use Rattle.up_base.specs.declared.refusal.Refusal.{Refusal}
use Rattle.up_base.specs.declared.refusal.Refusal.TheVariants as refusals

-- the count after one more, if there is one; it stands still at its last value
abbrev pub raised : Bool → ℕ → ℕ
raised true count = min (count + 1) (2 ^ 64 - 1)
raised false count = count

-- the count is larger than before, or stands at its last value
abbrev pub Rose : ℕ → ℕ → Type 0
Rose before now = min (before + 1) (2 ^ 64 - 1) ≤ now

-- the count rose where something failed, and else it is as before
pub record CountsWhere (failed : Bool) (before now : ℕ) : Type 0 where
  pub later : before ≤ now
  pub rose : failed ≡ true → Rose before now
  pub stays : failed ≡ false → now ≡ before

-- the same, and the count rose by one at most
pub record CountsOnce (failed : Bool) (before now : ℕ) : Type 0 where
  pub counts : CountsWhere failed before now
  pub once : now ≤ before + 1

-- whether the call failed, which want of memory isn't
abbrev pub is_failed : {T : Type 0} → Result T Refusal → Bool
is_failed (Ok x) = false
is_failed (Err refusals.Failed) = true
is_failed (Err refusals.NoMemory) = false
