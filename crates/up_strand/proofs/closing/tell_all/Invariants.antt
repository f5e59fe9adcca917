use Rattle.std.proofs.Common.{◌≤◌, length}
use Rattle.up_strand.specs.Closing.{AreToldFirst, AreWithoutSinks, HasSameRooms}
use Rattle.up_strand.proofs.closing.tell_all.Given as goal

abbrev pub invariant-loop-i : goal.invariant-loop-i
invariant-loop-i g l =
    record {
      upto : l.i ≤ length l.caught;
      rooms : HasSameRooms l.initial.told l.told;
      told : AreToldFirst l.i l.ending l.caught l.initial.nodes l.told;
      left : AreWithoutSinks l.i l.initial.nodes l.nodes;
    }
