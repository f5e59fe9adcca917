-- A name as it is kept: its bytes, and then zeros up to 64.
use Rattle.std.specs.Prelude.{◌≡◌, ℕ, ◌-◌, true, List, ◌++◌, length, take, replicate}
use Rattle.up_base.specs.Name.{is_name}
use Rattle.up_base.specs.declared.name_text.NameText.TheInside.{Inside}
use Rattle.up_base.specs.declared.name_text.TheConstants.{NAME_SIZE}

-- the bytes of the name
abbrev pub spelled : Inside → List ℕ
spelled kept = take kept.len kept.bytes

-- as many bytes as it says are a name, and the others are zero
pub record IsPadded (kept : Inside) : Type 0 where
  pub name : is_name (spelled kept) ≡ true
  pub count : length (spelled kept) ≡ kept.len
  pub zeros : spelled kept ++ replicate (NAME_SIZE - kept.len) 0 ≡ kept.bytes

-- how a name is kept
abbrev pub padded : List ℕ → Inside
padded text = record { bytes = text ++ replicate (NAME_SIZE - length text) 0; len = length text }

-- what is kept is told by the name alone
pub padded-spelled : (kept : Inside) → IsPadded kept → padded (spelled kept) ≡ kept
padded-spelled kept is = simp (is.count, is.zeros)
