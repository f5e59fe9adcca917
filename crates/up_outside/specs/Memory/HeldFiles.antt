-- The files of a depot in memory, as they are kept.
use Rattle.std.specs.Prelude.{ℕ, List}

-- a path and its bytes
abbrev pub File : Type 0
File = List ℕ × List ℕ
