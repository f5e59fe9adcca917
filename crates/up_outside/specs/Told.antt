-- What a value may tell of itself: what is told stays told, and what isn't doesn't begin to be.
use Rattle.std.specs.Prelude.{Option, Some, None}

-- neither is told, or both are, and the one stands so to the other
abbrev pub Then : {X : Type 0} → (X → X → Type 0) → Option X → Option X → Type 0
Then R None None = Unit {0}
Then R None (Some new) = ⊥
Then R (Some old) None = ⊥
Then R (Some old) (Some new) = R old new
