-- Sums of what a pipe did. Here they have no bound; where they are kept, each stops at 2^64 - 1.
use Rattle.std.specs.Prelude.{ℕ, ◌+◌, ◌-◌, ◌^◌, ◌≤◌, Bool, min, max, length, Option, Some, None, if◌then◌else◌}
use Rattle.up_model.specs.Packet.{Flow}
use Rattle.up_model.specs.declared.catch_set.CatchSet.{CatchSet}
use Rattle.up_model.specs.declared.pipe.Pipe.{Pipe}
use Rattle.up_model.specs.declared.tally.Tally.{Tally}

-- nothing was done
abbrev pub nothing : Tally
nothing = record { taken = 0; put = 0; dropped = 0; cut = 0; gained = 0; lost = 0 }

-- the one and then the other
abbrev pub plus : Tally → Tally → Tally
plus a b = record {
  taken = a.taken + b.taken;
  put = a.put + b.put;
  dropped = a.dropped + b.dropped;
  cut = a.cut + b.cut;
  gained = a.gained + b.gained;
  lost = a.lost + b.lost;
}

-- each sum of the one is at most that of the other
pub record IsAtMost (a b : Tally) : Type 0 where
  pub taken : a.taken ≤ b.taken
  pub put : a.put ≤ b.put
  pub dropped : a.dropped ≤ b.dropped
  pub cut : a.cut ≤ b.cut
  pub gained : a.gained ≤ b.gained
  pub lost : a.lost ≤ b.lost

-- where a sum that is kept stops
abbrev pub greatest_sum : ℕ
greatest_sum = 2 ^ 64 - 1

-- a sum that is kept, and more; it stops
abbrev pub more : ℕ → ℕ → ℕ
more sum count = max sum (min (sum + count) greatest_sum)

-- six sums that are kept, and more
abbrev pub added : Tally → Tally → Tally
added a b = record {
  taken = more a.taken b.taken;
  put = more a.put b.put;
  dropped = more a.dropped b.dropped;
  cut = more a.cut b.cut;
  gained = more a.gained b.gained;
  lost = more a.lost b.lost;
}

-- six sums, kept since the start
abbrev pub stopped : Tally → Tally
stopped sums = record {
  taken = min sums.taken greatest_sum;
  put = min sums.put greatest_sum;
  dropped = min sums.dropped greatest_sum;
  cut = min sums.cut greatest_sum;
  gained = min sums.gained greatest_sum;
  lost = min sums.lost greatest_sum;
}

-- a sum whose kind of event is caught is 0
abbrev pub unless_caught : Bool → ℕ → ℕ
unless_caught caught sum = if caught then 0 else sum

-- the sums past a probe that catches these kinds of event; packets taken and put are no events
abbrev pub uncaught : CatchSet → Tally → Tally
uncaught caught sums = record sums {
  dropped = unless_caught caught.drop sums.dropped;
  cut = unless_caught caught.cut sums.cut;
  gained = unless_caught caught.sync sums.gained;
  lost = unless_caught caught.lost sums.lost;
}

-- past the pipe's own probe
abbrev pub past_own_probe : Option Pipe → Tally → Tally
past_own_probe None sums = sums
past_own_probe (Some pipe) sums = uncaught pipe.caught sums

-- one packet was taken and put out, less so many bytes
abbrev pub of_passed : ℕ → Tally
of_passed bytes = record { taken = 1; put = 1; dropped = 0; cut = bytes; gained = 0; lost = 0 }

-- one packet of so many bytes was taken and dropped
abbrev pub of_dropped : ℕ → Tally
of_dropped bytes = record { taken = 1; put = 0; dropped = 1; cut = bytes; gained = 0; lost = 0 }

-- these packets were taken, and put out with all of their bytes
abbrev pub of_kept : Flow → Tally
of_kept taken =
    record { taken = length taken; put = length taken; dropped = 0; cut = 0; gained = 0; lost = 0 }

-- a source put these packets out
abbrev pub of_source : Flow → Tally
of_source put = record { taken = 0; put = length put; dropped = 0; cut = 0; gained = 0; lost = 0 }

-- these packets were taken, as a sink takes them
abbrev pub of_taken : Flow → Tally
of_taken taken =
    record { taken = length taken; put = 0; dropped = 0; cut = 0; gained = 0; lost = 0 }
