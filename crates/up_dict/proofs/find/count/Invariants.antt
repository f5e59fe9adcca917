use Rattle.std.proofs.Common.{length, ◌-◌}
use Rattle.up_dict.specs.Places.{StandBefore}
use Rattle.up_dict.specs.Reading.{attrs_in}
use Rattle.up_dict.proofs.find.count.Given as goal

abbrev pub invariant-loop-byte : goal.invariant-loop-byte
invariant-loop-byte l = StandBefore (attrs_in l.run) l.count l.byte

abbrev pub decreases-loop-byte : goal.decreases-loop-byte
decreases-loop-byte l = length l.run - l.byte
