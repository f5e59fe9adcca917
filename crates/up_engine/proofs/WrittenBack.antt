-- Lists that were written through a slice of them.
use Rattle.std.proofs.Common.{◌≡◌, ℕ, List, ◌++◌, length, take, drop, sym, ap, ◌∙◌}
use Rattle.std.proofs.Math.Seq.{take-append_seam}

-- what was written to all of a list is the list
pub written_back : {X : Type 0} (size : ℕ) (old seen new : List X) → length seen ≡ size → length new ≡ length seen
    → take size (new ++ drop (length new) old) ≡ new
written_back size old seen new long same =
    ap (λ (n : ℕ). take n (new ++ drop (length new) old)) (sym (same ∙ long)) ∙ take-append_seam new (drop (length new) old)
