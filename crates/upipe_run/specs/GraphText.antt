-- The text of a graph file, as far as it is read.
use Rattle.std.specs.Prelude.{◌≡◌, ◌⊎◌, ℕ, ◌≤◌, List, [], ◌∷◌, ◌++◌, take, true, false, Some, Result, Ok, Err}
use Rattle.std.specs.FinMap.{get}
use Rattle.up_base.specs.declared.refusal.Refusal.{Refusal}
use Rattle.up_base.specs.declared.refusal.Refusal.TheVariants as refusals
use Rattle.up_outside.specs.Asked.{entry}
use Rattle.up_outside.specs.Held.{Held}
use Rattle.up_outside.specs.declared.asked.Entry.{Entry}
use Rattle.up_outside.specs.declared.asked.Side.TheVariants.{Source}
use Rattle.up_outside.specs.declared.asked.Mark.TheVariants.{Refused, Closed}

-- the text is the first bytes at the path, at most so many
pub record IsStartAt (path : List ℕ) (most : ℕ) (text : List ℕ) (before : Held) : Type 0 where
  pub bytes : List ℕ
  pub at_path : get before path ≡ Some bytes
  pub start : text ≡ take most bytes

-- the file was closed, of which at most so many bytes were read: without a fault where it was read, else with one, or
-- its open was refused; for want of memory it wasn't opened
abbrev pub AsksText : {A : Type 0} → List ℕ → ℕ → Result A Refusal
    → List Entry → List Entry → Type 0
AsksText path most (Ok text) before after =
    (n : ℕ) × (n ≤ most) × (after ≡ before ++ entry path Source (Closed n false true) ∷ [])
AsksText path most (Err refusals.Failed) before after =
    (after ≡ before ++ entry path Source Refused ∷ [])
    ⊎ ((n : ℕ) × (n ≤ most) × (after ≡ before ++ entry path Source (Closed n true true) ∷ []))
AsksText path most (Err refusals.NoMemory) before after = after ≡ before
