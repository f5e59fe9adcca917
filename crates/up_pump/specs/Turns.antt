-- Successive calls of `next`. Between them pumps may become ready, rest, be blocked and unblocked.
use Rattle.std.specs.Prelude.{◌≡◌, ℕ, ◌+◌, ◌<◌, true, length, Some}
use Rattle.std.specs.Option.{option_or}
use Rattle.up_pump.specs.Circle.{is_due_at, next_pump}
use Rattle.up_pump.specs.Pumps.{Pumps}

-- the loop before each call: no pump comes or goes, and the next call knows what the call gave
pub record AreCalls (count : ℕ) (loops : ℕ → Pumps) : Type 0 where
  pub same_count : (call : ℕ) → length (loops call).pumps ≡ count
  pub remembered : (call : ℕ)
      → (loops (call + 1)).last ≡ option_or (next_pump (loops call)) (loops call).last

-- one of the first `count` calls gives the pump
abbrev pub IsGiven : ℕ → (ℕ → Pumps) → ℕ → Type 0
IsGiven count loops number = (call : ℕ) × (call < count) × (next_pump (loops call) ≡ Some number)

-- the pump is ready and has no blockers before each call
abbrev pub StaysDue : (ℕ → Pumps) → ℕ → Type 0
StaysDue loops number = (call : ℕ) → is_due_at (loops call).pumps number ≡ true
