-- Edits of a run of bytes.
use Rattle.std.specs.Prelude.{ℕ, ◌+◌, List, ◌++◌, take, drop}

-- the run with these bytes in the place of so many from a byte on
abbrev pub replaced : List ℕ → ℕ → ℕ → List ℕ → List ℕ
replaced run byte count bytes = (take byte run ++ bytes) ++ drop (byte + count) run

-- the run with so many bytes from a byte on put behind those that follow them
abbrev pub turned : List ℕ → ℕ → ℕ → List ℕ
turned run byte count = take byte run ++ (drop count (drop byte run) ++ take count (drop byte run))
