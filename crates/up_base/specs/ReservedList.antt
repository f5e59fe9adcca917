-- What contracts see of a list that is built in room taken beforehand.
use Rattle.std.specs.Prelude.{ℕ, List}

-- how many items there is room for, and those that it has
pub record Reserved (T : Type 0) : Type 0 where
  pub room : ℕ
  pub items : List T
