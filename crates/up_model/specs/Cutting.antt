-- Bytes that are cut into packets at every multiple of a size.
use Rattle.std.specs.Prelude.{ℕ, ◌+◌, ◌-◌, ◌*◌, ◌/◌, List, length, take, drop, map}
use Rattle.std.specs.List.{range_with_len}
use Rattle.up_model.specs.Packet.{Flow, plain}

-- the bytes from this multiple of the size up to the next, or to the end
abbrev pub piece : ℕ → List ℕ → ℕ → List ℕ
piece size bytes place = take size (drop (place * size) bytes)

-- the first pieces, as many as `count`
abbrev pub pieces : ℕ → List ℕ → ℕ → Flow
pieces size bytes count = map (λ place. plain (piece size bytes place)) (range_with_len 0 count)

-- all pieces; the last may be shorter, and no bytes give none
abbrev pub blocks : ℕ → List ℕ → Flow
blocks size bytes = pieces size bytes ((length bytes + size - 1) / size)

-- the pieces that have the whole size
abbrev pub full_blocks : ℕ → List ℕ → Flow
full_blocks size bytes = pieces size bytes (length bytes / size)
