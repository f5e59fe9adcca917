-- What is held and what is asked change, and every open sink keeps its room.
use Rattle.std.proofs.Common.{◌≡◌, ℕ, List, [], ◌∷◌, ◌++◌, Bool, true, false, cond, Option, Some, Result, Ok, Err, OnOk, OnErr, get_or, refl, subst}
use Rattle.std.specs.Prelude.{is_some}
use Rattle.std.specs.FinMap.{get, insert, get-insert}
use Rattle.std.specs.Cmp.Lexicographic.{nat_list_cmp_total}
use Rattle.std.proofs.lemmas.List.Elements.{All-push, All-set}
use Rattle.std.proofs.lemmas.Option.{slice_get_within, get_or_from_slice_get}
use Rattle.up_base.specs.declared.refusal.NoMemory.{NoMemory}
use Rattle.up_outside.specs.Asked.{entry, with_mark, IsOpenAt, Ending, Closes}
use Rattle.up_outside.specs.Held.{Held, KeepsOthers}
use Rattle.up_outside.specs.Memory.Rooms.{HasRoom, HasRooms}
use Rattle.up_outside.specs.declared.asked.Entry.{Entry}
use Rattle.up_outside.specs.declared.asked.Side.{Side}
use Rattle.up_outside.specs.declared.asked.Side.TheVariants as sides
use Rattle.up_outside.specs.declared.asked.Mark.TheVariants as marks
use Rattle.up_outside.proofs.HeldFiles.{same, same-refl, same-false}

get-inserted : (held : Held) (path bytes q : List ℕ) → get (insert held path bytes) q ≡ cond (same q path) (Some bytes) (get held q)
get-inserted held path bytes q = get-insert nat_list_cmp_total held path bytes q

-- what is set is held
pub is_held : (held : Held) (path bytes : List ℕ) → is_some (get (insert held path bytes) path) ≡ true
is_held held path bytes = rw (get-inserted held path bytes path, same-refl path) refl

-- no other path changes where one is set
pub keeps_others : (held : Held) (path bytes : List ℕ) → KeepsOthers path held (insert held path bytes)
keeps_others held path bytes = λ q differs. rw (get-inserted held path bytes q, same-false q path differs) refl

-- what is held stays held where a path is set
still_held : (held : Held) (path bytes q : List ℕ) → is_some (get held q) ≡ true → is_some (get (insert held path bytes) q) ≡ true
still_held held path bytes q is = rw (get-inserted held path bytes q) (by_test (same q path))
  where
    by_test : (b : Bool) → is_some (cond b (Some bytes) (get held q)) ≡ true
    by_test true = refl
    by_test false = is

-- a path that is set takes no room away
pub rooms-insert : (held : Held) (asked : List Entry) (path bytes : List ℕ) → HasRooms held asked → HasRooms (insert held path bytes) asked
rooms-insert held asked path bytes rooms k d within of_sink is_open = still_held held path bytes (get_or asked k d).path (rooms k d within of_sink is_open)

-- the same of a call that may set it
pub rooms-set : (held new : Held) (asked : List Entry) (path bytes : List ℕ) (result : Result (Unit {0}) NoMemory)
    → OnOk result (new ≡ insert held path bytes) → OnErr result (new ≡ held) → HasRooms held asked → HasRooms new asked
rooms-set held new asked path bytes (Ok u) set unchanged rooms = rw set (rooms-insert held asked path bytes rooms)
rooms-set held new asked path bytes (Err e) set unchanged rooms = rw unchanged rooms

-- an entry may be added, if it has room
pub rooms-ask : (held : Held) (asked after : List Entry) (e : Entry) (result : Result (Unit {0}) NoMemory)
    → OnOk result (after ≡ asked ++ e ∷ []) → OnErr result (after ≡ asked) → HasRooms held asked → HasRoom held e → HasRooms held after
rooms-ask held asked after e (Ok u) added unchanged rooms room = rw added (All-push (HasRoom held) asked e rooms room)
rooms-ask held asked after e (Err n) added unchanged rooms room = rw unchanged rooms

-- the room of a sink that is open
pub room_of_open : (held : Held) (asked : List Entry) (place : Option ℕ) (path : List ℕ)
    → HasRooms held asked → IsOpenAt asked place sides.Sink path → is_some (get held path) ≡ true
room_of_open held asked place path rooms is =
    let there : get_or asked is.at _ ≡ entry path sides.Sink marks.Open = get_or_from_slice_get asked is.at _ (entry path sides.Sink marks.Open) is.open_entry in
    subst (HasRoom held) there (rooms is.at _ (slice_get_within asked is.at _ is.open_entry)) refl refl

-- an entry that is closed needs no room
pub rooms-close : (held : Held) (asked after : List Entry) (end : Ending) (n : ℕ) (side : Side) (path : List ℕ)
    → HasRooms held asked → IsOpenAt asked end.place side path → end.moved ≡ Some n → Closes end asked after → HasRooms held after
rooms-close held asked after end n side path rooms is moved closes =
    let closed : HasRoom held (with_mark (entry path side marks.Open) (marks.Closed n end.failed end.shut)) = λ of_sink is_open. absurd (not_open is_open) in
    rw (closes is.at n _ is.told moved is.open_entry) (All-set (HasRoom held) asked is.at _ closed rooms)
  where
    not_open : marks.Closed n end.failed end.shut ≡ marks.Open → ⊥
    not_open is = cc
