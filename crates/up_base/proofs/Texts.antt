-- The bytes of a text.
use Rattle.std.proofs.Common.{◌≡◌, true}
use Rattle.std.specs.Prelude.{String, string_bytes}
use Rattle.std.specs.Str.{is_utf8}
use Rattle.std.proofs.lemmas.Str.{is_utf8-from_IsUtf8, IsUtf8-string_bytes}

pub text_is_utf8 : {Z : Type 0} (text : String Z) → is_utf8 (string_bytes text) ≡ true
text_is_utf8 text = is_utf8-from_IsUtf8 _ (IsUtf8-string_bytes text)
