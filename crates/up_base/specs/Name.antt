-- Names: 1 to 64 bytes, each a letter or digit of ASCII or one of `.`, `_` and `-`.
use Rattle.std.specs.Prelude.{ℕ, Bool, ◌&&◌, ◌||◌, not, List, length, take, ◌==◌, position, unwrap_or}
use Rattle.std.specs.List.{list_all}
pub use Rattle.up_base.specs.Bounds.{is_within}
use Rattle.up_base.specs.declared.name_text.TheConstants.{NAME_SIZE}

-- the byte is one of `A-Z a-z 0-9 . _ -`
abbrev pub is_name_byte : ℕ → Bool
is_name_byte byte =
    is_within 65 90 byte || (is_within 97 122 byte || (is_within 48 57 byte
    || (byte == 46 || (byte == 95 || byte == 45))))

-- the text has 1 to 64 bytes, all of them name bytes
abbrev pub is_name : List ℕ → Bool
is_name text = is_within 1 NAME_SIZE (length text) && list_all is_name_byte text

-- the least place below 64 of a byte that is no name byte, else the length
abbrev pub bad_place : List ℕ → ℕ
bad_place text =
    unwrap_or (position (λ byte. not (is_name_byte byte)) (take NAME_SIZE text)) (length text)
