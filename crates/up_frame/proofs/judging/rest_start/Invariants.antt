use Rattle.std.proofs.Common.{◌+◌, ◌-◌, ◌≤◌, length}
use Rattle.up_frame.proofs.FedBytes.{IsPassed}
use Rattle.up_frame.specs.Judging.{IsJudged, judged_place}
use Rattle.up_frame.proofs.judging.rest_start.Given as goal

abbrev pub invariant-frames : goal.invariant-frames
invariant-frames l =
    record {
      within : l.start + judged_place l.judged ≤ length l.bytes;
      passed : IsJudged l.initial.judged l.bytes → IsPassed l.bytes l.start l.judged;
    }

abbrev pub decreases-frames : goal.decreases-frames
decreases-frames l = length l.bytes - l.start
