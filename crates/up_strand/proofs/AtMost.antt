-- Sums that are at most others.
use Rattle.std.proofs.Common.{◌≡◌, ℕ, ◌≤◌, Bool, true, false, subst, arith}
use Rattle.up_model.specs.Tallies.{IsAtMost, stopped, uncaught, unless_caught}
use Rattle.up_model.specs.declared.catch_set.CatchSet.{CatchSet}
use Rattle.up_model.specs.declared.tally.Tally.{Tally}

pub at_most_itself : (a : Tally) → IsAtMost a a
at_most_itself a = record {
  taken = omega arith;
  put = omega arith;
  dropped = omega arith;
  cut = omega arith;
  gained = omega arith;
  lost = omega arith;
}

pub at_most_same : (a b : Tally) → a ≡ b → IsAtMost a b
at_most_same a b is = subst (IsAtMost a) is (at_most_itself a)

pub at_most_on : (a b c : Tally) → IsAtMost a b → IsAtMost b c → IsAtMost a c
at_most_on a b c one two = record {
  taken = omega (arith, one.taken, two.taken);
  put = omega (arith, one.put, two.put);
  dropped = omega (arith, one.dropped, two.dropped);
  cut = omega (arith, one.cut, two.cut);
  gained = omega (arith, one.gained, two.gained);
  lost = omega (arith, one.lost, two.lost);
}

-- sums that are kept stop, and are at most those that are
pub stopped_grows : (a b : Tally) → IsAtMost a b → IsAtMost (stopped a) (stopped b)
stopped_grows a b less = record {
  taken = omega (arith, less.taken);
  put = omega (arith, less.put);
  dropped = omega (arith, less.dropped);
  cut = omega (arith, less.cut);
  gained = omega (arith, less.gained);
  lost = omega (arith, less.lost);
}

unless_grows : (caught : Bool) (a b : ℕ) → a ≤ b → unless_caught caught a ≤ unless_caught caught b
unless_grows true a b less = omega arith
unless_grows false a b less = less

-- and past a probe
pub uncaught_grows : (caught : CatchSet) (a b : Tally) → IsAtMost a b → IsAtMost (uncaught caught a) (uncaught caught b)
uncaught_grows caught a b less = record {
  taken = less.taken;
  put = less.put;
  dropped = unless_grows caught.drop a.dropped b.dropped less.dropped;
  cut = unless_grows caught.cut a.cut b.cut less.cut;
  gained = unless_grows caught.sync a.gained b.gained less.gained;
  lost = unless_grows caught.lost a.lost b.lost less.lost;
}
