-- What contracts see of a lane whose two ends are used on one thread.
use Rattle.std.specs.Prelude.{ℕ, ◌<◌, ◌≤◌, List, length}
use Rattle.up_queue.specs.declared.item.Item.{Item}

-- how many items it has room for, and those that wait, the first first
pub record Lane (P : Type 0) : Type 0 where
  pub cap : ℕ
  pub items : List (Item P)

-- no more items wait than there is room for, which is room for one at least
pub record HasRoomFor {P : Type 0} (cap : ℕ) (items : List (Item P)) : Type 0 where
  pub least : 0 < cap
  pub within : length items ≤ cap
