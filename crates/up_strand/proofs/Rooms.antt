-- A room that is filled from its front on.
use Rattle.std.proofs.Common.{◌≡◌, ℕ, ◌+◌, ◌≤◌, List, ◌++◌, length, take, sym, ap, ◌∙◌}
use Rattle.std.proofs.lemmas.List.{length-take-le, take-append-le}
use Rattle.std.proofs.Math.Seq.{take-append-add}
use borrow.Rule.Slice.PartMut.{put_mid, post_of}

-- more bytes stand behind those that the room had
pub filled_more : (had more end : ℕ) (room part : List ℕ) → had ≤ length room → more ≤ length part
    → take (had + more) (put_mid had end room part) ≡ take had room ++ take more part
filled_more had more end room part within fits =
    let behind = part ++ post_of had end room in
    ap (λ n. take (n + more) (take had room ++ behind)) (sym (length-take-le had room within))
    ∙ take-append-add (take had room) behind more
    ∙ ap (λ l. take had room ++ l) (take-append-le more part (post_of had end room) fits)
