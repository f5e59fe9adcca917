use Rattle.std.proofs.Common.{length}
use Rattle.up_base.proofs.list_tests.spend.Given as goal

-- each turn takes out one token
abbrev pub decreases-loop-number : goal.decreases-loop-number
decreases-loop-number g l = length l.list
