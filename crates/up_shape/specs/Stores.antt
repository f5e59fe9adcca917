-- What contracts see of a store, and what it keeps over a call.
use Rattle.std.specs.Prelude.{◌≡◌, ℕ, ◌≤◌, max}

-- its family, how many carriers it keeps, and at least how many rooms, and packets of a byte or more, were made with it
pub record StoreState (F : Type 0) : Type 0 where
  pub family : F
  pub kept : ℕ
  pub drawn : ℕ

-- the family is the same, at most the greater of two and what was kept is kept, and no less was drawn
pub record Stays {F : Type 0} (old new : StoreState F) : Type 0 where
  pub same : new.family ≡ old.family
  pub few : new.kept ≤ max 2 old.kept
  pub more : old.drawn ≤ new.drawn
