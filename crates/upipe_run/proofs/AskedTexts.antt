-- The entry of a file that was opened, read and closed.
use Rattle.std.proofs.Common.{◌≡◌, ℕ, ◌≤◌, List, [], ◌∷◌, ◌++◌, Bool, true, false, Option, Ok, Err, inr}
use Rattle.up_base.specs.declared.refusal.Refusal.TheVariants.{Failed}
use Rattle.up_outside.specs.Asked.{entry}
use Rattle.up_outside.specs.Told.{Then}
use Rattle.up_outside.specs.declared.asked.Entry.{Entry}
use Rattle.up_outside.specs.declared.asked.Side.TheVariants.{Source}
use Rattle.up_outside.specs.declared.asked.Mark.TheVariants.{Closed}
use Rattle.up_outside.proofs.Told.{Then-map, always}
use Rattle.upipe_run.specs.GraphText.{AsksText}

module _ (path : List ℕ) (most n : ℕ) (failed : Bool) (a0 a2 : Option (List Entry)) (fits : n ≤ most)
    (added : Then (λ before after. after ≡ before ++ entry path Source (Closed n failed true) ∷ []) a0 a2) where
  pub as_read : (count : ℕ) → failed ≡ false → Then (AsksText path most (Ok count)) a0 a2
  as_read count is = Then-map (λ _. Unit {0}) _ _ a0 a2 (λ x z u grown. (n, fits, rw is at grown)) (always a0) added

  pub as_failed : failed ≡ true → Then (AsksText {A = ℕ} path most (Err Failed)) a0 a2
  as_failed is = Then-map (λ _. Unit {0}) _ _ a0 a2 (λ x z u grown. inr (n, fits, rw is at grown)) (always a0) added
