-- The pieces of some bytes, joined again.
use Rattle.std.proofs.Common.{◌≡◌, ℕ, zero, suc, ◌+◌, ◌-◌, ◌*◌, ◌/◌, ◌<◌, ◌≤◌, List, length, take, drop, map, refl, sym, ap, ◌∙◌, arith}
use Rattle.std.specs.List.{range_with_len}
use Rattle.std.proofs.Math.Nat.{zero-mul}
use Rattle.std.proofs.Math.Seq.{take-add}
use Rattle.std.proofs.lemmas.List.{drop-drop, take_all}
use Rattle.up_model.specs.Cutting.{piece, pieces, blocks}
use Rattle.up_model.specs.Packet.{joined, plain}

-- pieces from this place on are the bytes from there on, up to as many
joined-pieces_from : (size : ℕ) (bytes : List ℕ) (place count : ℕ)
    → joined (map (λ p. plain (piece size bytes p)) (range_with_len place count)) ≡ take (count * size) (drop (place * size) bytes)
joined-pieces_from size bytes place zero = rw (zero-mul size) refl
joined-pieces_from size bytes place (suc count) =
    let size_more : suc count * size ≡ size + count * size = omega arith in
    let place_more : (place + 1) * size ≡ place * size + size = omega arith in
    rw (joined-pieces_from size bytes (place + 1) count, size_more, place_more, ← drop-drop size (place * size) bytes)
    (sym (take-add size (count * size) (drop (place * size) bytes)))

pub joined-pieces : (size : ℕ) (bytes : List ℕ) (count : ℕ) → joined (pieces size bytes count) ≡ take (count * size) bytes
joined-pieces size bytes count = joined-pieces_from size bytes 0 count ∙ ap (λ start. take (count * size) (drop start bytes)) (zero-mul size)

enough : (size n : ℕ) → 0 < size → n ≤ (n + size - 1) / size * size
enough size n some_size = omega arith

pub joined-blocks : (size : ℕ) (bytes : List ℕ) → 0 < size → joined (blocks size bytes) ≡ bytes
joined-blocks size bytes some_size =
    joined-pieces size bytes ((length bytes + size - 1) / size) ∙ take_all _ bytes (enough size (length bytes) some_size)
