-- The room of a plain packet, and what it is after it was lent.
use Rattle.std.specs.Prelude.{◌≡◌, ℕ, List, length}
use Rattle.std.specs.Borrow.{Lends, MutBor, Fml, Array, u8}
use Rattle.std.specs.Vec.{with_items}
use Rattle.std.proofs.Common.{◌∙◌, sym}
use Rattle.std.proofs.lemmas.List.{with_items_is}
use Rattle.up_shape.specs.declared.vec_room.VecRoom.{VecRoom}
use Rattle.up_shape.specs.contracts.vec_room.VecRoom.{the_row}

-- the bytes of the room
abbrev pub content_of : VecRoom → List ℕ
content_of room = room.bytes.items

-- the room with as many other bytes
abbrev pub refilled_with : VecRoom → List ℕ → VecRoom
refilled_with room bytes = record { bytes = with_items room.bytes bytes }

-- the room ends with what is written behind the loan
abbrev pub LendsRoom : MutBor VecRoom → MutBor (List ℕ) → Fml
LendsRoom room loan = Lends the_row (Array u8 0) room loan (refilled_with room.now)

-- what is written to a room is then its content
pub content_of-refilled_with : (room : VecRoom) (bytes : List ℕ)
    → length bytes ≡ length (content_of room)
    → content_of (refilled_with room bytes) ≡ bytes
content_of-refilled_with room bytes same =
    with_items_is room.bytes bytes (same ∙ sym room.bytes.ok.0)
