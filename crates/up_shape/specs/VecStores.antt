-- What was drawn from a store of plain packets.
use Rattle.std.specs.Prelude.{ℕ}
use Rattle.up_shape.specs.declared.vec_store.VecStore.{VecStore}

-- how many rooms and packets were made with it
abbrev pub drawn_from : VecStore → ℕ
drawn_from store = store.drawn.count
