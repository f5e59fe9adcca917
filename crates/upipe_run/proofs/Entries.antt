-- The entries of opens and their closes, one after the other at the end of what was asked.
use Rattle.std.proofs.Common.{◌≡◌, ℕ, ◌+◌, List, [], ◌∷◌, ◌++◌, length, Option, Some, IfSome, slice_get, slice_set, refl, ap, ◌∙◌, append_assoc}
use Rattle.up_outside.specs.Asked.{entry, with_mark, Ending, IsOpenAt, Closes}
use Rattle.up_outside.specs.DepotCalls.{IsNext}
use Rattle.up_outside.specs.Told.{Then}
use Rattle.up_outside.specs.declared.asked.Entry.{Entry}
use Rattle.up_outside.specs.declared.asked.Side.{Side}
use Rattle.up_outside.specs.declared.asked.Side.TheVariants.{Source}
use Rattle.up_outside.specs.declared.asked.Mark.TheVariants.{Open, Closed}
use Rattle.up_outside.proofs.Told.{Then-trans, Then-map, Then-after, counted_from}

slice_get-length : (xs ys : List Entry) (e : Entry) → slice_get (xs ++ e ∷ ys) (length xs) ≡ Some e
slice_get-length [] ys e = refl
slice_get-length (x ∷ xs) ys e = slice_get-length xs ys e

slice_set-length : (xs ys : List Entry) (e new : Entry) → slice_set (xs ++ e ∷ ys) (length xs) new ≡ xs ++ new ∷ ys
slice_set-length [] ys e new = refl
slice_set-length (x ∷ xs) ys e new = ap (λ l. x ∷ l) (slice_set-length xs ys e new)

-- an object that has moved so many bytes since it was opened
pub record IsOf (opened_place opened_moved : Option ℕ) (end : Ending) (n : ℕ) : Type 0 where
  pub place : end.place ≡ opened_place
  pub sum : Then (λ before after. after ≡ before + n) opened_moved end.moved

-- it closes the entry that comes after these
pub closes_after : (xs ys zs : List Entry) (e : Entry) (place moved : Option ℕ) (end : Ending) (n : ℕ)
    → IsNext xs place moved → IsOf place moved end n → Closes end (xs ++ e ∷ ys) zs → zs ≡ xs ++ with_mark e (Closed n end.failed end.shut) ∷ ys
closes_after xs ys zs e place moved end n next of closes =
    closes (length xs) n e (of.place ∙ next.at_end) (counted_from moved end.moved n next.nothing_yet of.sum) (slice_get-length xs ys e) ∙ slice_set-length xs ys e _

-- an object that was just opened stands open
pub stands_open : (side : Side) (path : List ℕ) (xs : List Entry) (place moved now : Option ℕ) → IsNext xs place moved → now ≡ place
    → IsOpenAt (xs ++ entry path side Open ∷ []) now side path
stands_open side path xs place moved now next same = record { at = length xs; told = same ∙ next.at_end; open_entry = slice_get-length xs [] (entry path side Open) }

-- also where another was asked for since
pub stands_before : (side : Side) (path : List ℕ) (xs ys : List Entry) (place moved now : Option ℕ) → IsNext xs place moved → now ≡ place
    → IsOpenAt ((xs ++ entry path side Open ∷ []) ++ ys) now side path
stands_before side path xs ys place moved now next same = record {
  at = length xs;
  told = same ∙ next.at_end;
  open_entry = ap (λ l. slice_get l (length xs)) (append_assoc xs (entry path side Open ∷ []) ys) ∙ slice_get-length xs ys (entry path side Open);
}

-- a file was opened and closed
pub text_closed : (path : List ℕ) (a0 a1 a2 : Option (List Entry)) (place moved : Option ℕ) (end : Ending) (n : ℕ) → IfSome a0 (λ xs. IsNext xs place moved)
    → IsOf place moved end n → Then (λ before after. after ≡ before ++ entry path Source Open ∷ []) a0 a1 → Then (Closes end) a1 a2
    → Then (λ before after. after ≡ before ++ entry path Source (Closed n end.failed end.shut) ∷ []) a0 a2
text_closed path a0 a1 a2 place moved end n next of opens closes =
    Then-map (λ xs. IsNext xs place moved) (λ xs zs. Closes end (xs ++ entry path Source Open ∷ []) zs) _ a0 a2
    (λ xs zs is closed. closes_after xs [] zs _ place moved end n is of closed) next
    (Then-trans (λ before after. after ≡ before ++ entry path Source Open ∷ []) (Closes end) (λ xs zs. Closes end (xs ++ entry path Source Open ∷ []) zs) a0 a1 a2
    (λ xs ys zs grown closed. rw grown at closed) opens closes)

pub text_open : (path : List ℕ) (a0 a1 : Option (List Entry)) (place moved now : Option ℕ) → IfSome a0 (λ xs. IsNext xs place moved) → now ≡ place
    → Then (λ before after. after ≡ before ++ entry path Source Open ∷ []) a0 a1 → IfSome a1 (λ xs. (p : List ℕ) × IsOpenAt xs now Source p)
text_open path a0 a1 place moved now next same opens =
    Then-after (λ xs. IsNext xs place moved) (λ ys. (p : List ℕ) × IsOpenAt ys now Source p) (λ before after. after ≡ before ++ entry path Source Open ∷ []) a0 a1
    (λ xs ys is grown. (path, rw grown (stands_open Source path xs place moved now is same))) next opens
