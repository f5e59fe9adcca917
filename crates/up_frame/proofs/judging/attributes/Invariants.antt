use Rattle.std.proofs.Common.{◌≤◌, length}
use Rattle.up_frame.specs.Judging.{GoesOn}
use Rattle.up_frame.proofs.judging.attributes.Given as goal

abbrev pub invariant-loop-judged : goal.invariant-loop-judged
invariant-loop-judged l =
    record {
      within : l.judged.at ≤ length l.bytes;
      judged : GoesOn l.initial.judged l.bytes → GoesOn l.judged l.bytes;
    }

abbrev pub decreases-loop-judged : goal.decreases-loop-judged
decreases-loop-judged l = l.judged.left
