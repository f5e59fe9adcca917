-- How far a count of faults rose over several of them.
use Rattle.std.specs.Prelude.{◌≡◌, ℕ, ◌+◌, ◌-◌, ◌^◌, ◌≤◌, min}

-- the count rose by so many at least, or stands at its last value; and it stays where there is none
pub record RoseBy (faults before now : ℕ) : Type 0 where
  pub later : before ≤ now
  pub rose : min (before + faults) (2 ^ 64 - 1) ≤ now
  pub stays : faults ≡ 0 → now ≡ before
