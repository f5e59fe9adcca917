use Rattle.std.proofs.Common.{◌≡◌, ℕ, ◌<◌, ◌≤◌, length, true}
use Rattle.up_pump.specs.Pump.{idle}
use Rattle.up_pump.specs.Pumps.{pump_at}
use Rattle.up_engine.proofs.tables.ready_pumps.Given as goal

abbrev pub invariant-loop-i : goal.invariant-loop-i
invariant-loop-i l =
    record {
      count : length l.pumps.pumps ≡ l.count;
      ready : (k : ℕ) → k < l.i → pump_at l.pumps k ≡ record { ready = true; blockers = 0 };
      idle : (k : ℕ) → l.i ≤ k → pump_at l.pumps k ≡ idle;
    }
