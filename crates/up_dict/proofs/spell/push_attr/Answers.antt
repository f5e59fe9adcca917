use Rattle.std.proofs.lemmas.Grind.{common_steps}
use Rattle.std.proofs.Common.{arith}
use Rattle.up_dict.specs.Spelling.{attr_bytes}
use Rattle.up_dict.proofs.spell.push_attr.Goals as goal

pub returns-clause-added : goal.returns-clause-added
unfolding attr_bytes
returns-clause-added c = grind (arith, common_steps)
