-- The name that a text is.
use Rattle.std.specs.Prelude.{ℕ, List, Result, Ok, Err, if◌then◌else◌}
use Rattle.up_base.specs.Name.{is_name, bad_place}
use Rattle.up_base.specs.declared.name_text.BadName.{BadName}

-- the name, or the place where the text is none
unfoldable pub name_of : List ℕ → Result (List ℕ) BadName
name_of text = if is_name text then Ok text else Err (record { at = bad_place text })
