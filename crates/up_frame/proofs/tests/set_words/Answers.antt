use Rattle.std.proofs.Common.{rules}
use Rattle.std.proofs.lemmas.Str.{is_utf8-from_IsUtf8}
use Rattle.up_frame.proofs.tests.set_words.Goals as goal

pub set_attr-requires-clause-value : goal.set_attr-requires-clause-value
set_attr-requires-clause-value g c = (is_utf8-from_IsUtf8 c.args.text.now c.utf8.text, search rules)
