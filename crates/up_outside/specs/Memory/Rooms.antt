-- The room that the close of a sink needs, which a depot in memory takes at the open.
use Rattle.std.specs.Prelude.{◌≡◌, true, List, All, is_some}
use Rattle.std.specs.FinMap.{get}
use Rattle.up_outside.specs.Held.{Held}
use Rattle.up_outside.specs.declared.asked.Entry.{Entry}
use Rattle.up_outside.specs.declared.asked.Side.TheVariants as sides
use Rattle.up_outside.specs.declared.asked.Mark.TheVariants as marks

-- if the entry is of a sink that is open, its path is held
abbrev pub HasRoom : Held → Entry → Type 0
HasRoom held e = e.side ≡ sides.Sink → e.mark ≡ marks.Open → is_some (get held e.path) ≡ true

-- the path of every sink that is open is held
abbrev pub HasRooms : Held → List Entry → Type 0
HasRooms held asked = All (HasRoom held) asked
