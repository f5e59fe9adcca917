-- The attributes of a packet: a finite map from names to values.
use Rattle.std.specs.Prelude.{ℕ, List, Option, option_and_then}
use Rattle.std.specs.Ordering.{nat_cmp}
use Rattle.std.specs.Cmp.Lexicographic.{slice_cmp}
use Rattle.std.specs.FinMap.{FinMap, get}
use Rattle.up_model.specs.Value.{unsigned_of}
use Rattle.up_model.specs.declared.value.Value.{Value}

-- by their names, in byte order
abbrev pub Attrs : Type 0
Attrs = FinMap (slice_cmp nat_cmp) Value

-- the number that stands under the name, where one does
abbrev pub unsigned_at : List ℕ → Attrs → Option ℕ
unsigned_at name attrs = option_and_then unsigned_of (get attrs name)
