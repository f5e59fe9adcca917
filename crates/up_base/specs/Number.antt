-- Numbers as bytes, the byte of the highest worth first.
use Rattle.std.specs.Prelude.{ℕ, zero, suc, ◌+◌, ◌*◌, ◌/◌, ◌%◌, ◌<◌, List, [], ◌∷◌, ◌++◌, fold}
use Rattle.std.specs.List.{All}

-- each of them is a byte
abbrev pub AreBytes : List ℕ → Type 0
AreBytes bytes = All (λ byte. byte < 256) bytes

-- the number whose digits to the base 256 are these bytes
abbrev pub big_endian : List ℕ → ℕ
big_endian bytes = fold (λ number byte. number * 256 + byte) 0 bytes

-- the number's last so many digits to the base 256
abbrev pub big_endian_bytes : ℕ → ℕ → List ℕ
big_endian_bytes zero number = []
big_endian_bytes (suc count) number = big_endian_bytes count (number / 256) ++ number % 256 ∷ []
