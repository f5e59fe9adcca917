use Rattle.std.proofs.Common.{◌≡◌, ◌≤◌, ◌-◌, length, take}
use Rattle.upipe_run.specs.Filling.{Moved}
use Rattle.upipe_run.proofs.fill.fill.Given as goal

abbrev pub invariant-loop-count : goal.invariant-loop-count
invariant-loop-count g l =
    let state = g.S.Source.state in
    record {
      within : l.count ≤ length l.room;
      moved : Moved (state l.initial.source) (state l.source) (take l.count l.room) l.count;
      faults : (state l.source).faults ≡ (state l.initial.source).faults;
    }

abbrev pub decreases-loop-count : goal.decreases-loop-count
decreases-loop-count g l = length l.initial.room - l.count
