use Rattle.std.proofs.Common.{arith}
use Rattle.std.proofs.lemmas.Str.{is_utf8-from_IsUtf8}
use Rattle.up_shape.proofs.vec_attrs_tests.set_words.Goals as goal

pub set_attr-requires : goal.set_attr-requires
set_attr-requires g c = (is_utf8-from_IsUtf8 _ c.utf8.text, omega arith)
