use Rattle.std.proofs.Common.{refl}
use Rattle.up_strand.proofs.strand.Strand.end_tree.Goals as goal

pub returns-in_default : goal.returns-in_default
returns-in_default g c = record {
  went = c.break_off.ensures.went c.args.outcome c.in_default.not-Whole;
  short = λ other. c.break_off.ensures.short;
  same = refl;
  store = c.break_off.ensures.store;
}
