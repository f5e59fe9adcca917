use Rattle.std.proofs.Common.{rules}
use Rattle.std.specs.Prelude.{codes}
use Rattle.up_outside.proofs.memory.tests.a_close_marks_the_entry_with_what_was_moved.Goals as goal

pub close_source-requires : goal.close_source-requires
close_source-requires g c = (codes "q", search rules)
