-- First parts of bytes that are added in pieces.
use Rattle.std.proofs.Common.{◌≡◌, ℕ, ◌+◌, List, [], ◌++◌, length, take, drop, append_assoc, append-nil, Result, Ok, Err, refl, sym, ap, ◌∙◌}
use Rattle.std.specs.Prelude.{OnErr}
use Rattle.std.proofs.Math.Seq.{take-add, take-append_seam}
use Rattle.up_base.specs.Lists.{IsPrefix}
use Rattle.up_frame.specs.Writing.{AddsPart}

-- what holds anyway holds where a call was refused
pub refused : {A E P : Type 0} (result : Result A E) → P → OnErr result P
refused (Ok x) holds = tt
refused (Err e) holds = holds

-- where nothing was added, no part was
pub none_added : (old new bytes : List ℕ) → new ≡ old → AddsPart old new bytes
none_added old new bytes same = record {
  part = [];
  first = (bytes, refl);
  added = same ∙ sym (append-nil old);
}

-- a part of the first piece
pub of_first : (old new first second : List ℕ) → AddsPart old new first → AddsPart old new (first ++ second)
of_first old new first second p = record {
  part = p.part;
  first = (p.first.0 ++ second, ap (λ all. all ++ second) p.first.1 ∙ append_assoc p.part p.first.0 second);
  added = p.added;
}

-- the first piece, and a part of the second
pub of_second : (old between new first second : List ℕ) → between ≡ old ++ first → AddsPart between new second
    → AddsPart old new (first ++ second)
of_second old between new first second is p = record {
  part = first ++ p.part;
  first = (p.first.0, ap (λ rest. first ++ rest) p.first.1 ∙ sym (append_assoc first p.part p.first.0));
  added = p.added ∙ ap (λ front. front ++ p.part) is ∙ append_assoc old first p.part;
}

-- the first piece, and nothing of a second that was refused
pub second_refused : {A E : Type 0} (result : Result A E) (old between new first second : List ℕ) → between ≡ old ++ first
    → OnErr result (new ≡ between) → OnErr result (AddsPart old new (first ++ second))
second_refused (Ok x) old between new first second is left = tt
second_refused (Err e) old between new first second is left =
    of_second old between new first second is (none_added between new second left)

-- the first piece alone
pub up_to : (old new first rest bytes : List ℕ) → first ++ rest ≡ bytes → new ≡ old ++ first → AddsPart old new bytes
up_to old new first rest bytes whole added = record { part = first; first = (rest, sym whole); added = added }

-- the bytes up to the end of a run that follows the first ones
pub run_more : (at : ℕ) (run bytes : List ℕ) → IsPrefix run (drop at bytes) → take (at + length run) bytes ≡ take at bytes ++ run
run_more at run bytes prefix =
    take-add at (length run) bytes ∙ ap (λ l. take at bytes ++ take (length run) l) prefix.1 ∙ ap (λ l. take at bytes ++ l) (take-append_seam run prefix.0)
