-- What was asked of a depot: one entry for each open, in order.
use Rattle.std.specs.Prelude.{◌≡◌, ℕ, List, [], ◌∷◌, Bool, true, false, nat_lt, is_ok, not, ◌||◌, Option, Some, Result, Ok, Err, slice_get, slice_set}
use Rattle.up_base.specs.declared.refusal.Failed.{Failed}
use Rattle.up_base.specs.declared.refusal.Refusal.{Refusal}
use Rattle.up_base.specs.declared.refusal.Refusal.TheVariants as refusals
use Rattle.up_outside.specs.States.{SourceState, SinkState}
use Rattle.up_outside.specs.declared.asked.Entry.{Entry}
use Rattle.up_outside.specs.declared.asked.Side.{Side}
use Rattle.up_outside.specs.declared.asked.Side.TheVariants as sides
use Rattle.up_outside.specs.declared.asked.Mark.{Mark}
use Rattle.up_outside.specs.declared.asked.Mark.TheVariants as marks

abbrev pub is_of_source : Side → Bool
is_of_source sides.Source = true
is_of_source sides.Sink = false

abbrev pub is_of_sink : Side → Bool
is_of_sink sides.Source = false
is_of_sink sides.Sink = true

-- an open of this path and side, and what became of it
abbrev pub entry : List ℕ → Side → Mark → Entry
entry path side mark = record { path = path; side = side; mark = mark }

-- what was asked for: a path, and which way its bytes go
abbrev pub Ask : Type 0
Ask = List ℕ × Side

abbrev pub ask_of : Entry → Ask
ask_of e = (e.path, e.side)

-- what an open adds: an entry that stands open, one that was refused, and none for want of memory
abbrev pub opened : {T : Type 0} → Result T Refusal → List ℕ → Side → List Entry
opened (Ok x) path side = entry path side marks.Open ∷ []
opened (Err refusals.Failed) path side = entry path side marks.Refused ∷ []
opened (Err refusals.NoMemory) path side = []

-- the entry at the told place has this path and side, and is open
pub record IsOpenAt (asked : List Entry) (place : Option ℕ) (side : Side)
    (path : List ℕ) : Type 0 where
  pub at : ℕ
  pub told : place ≡ Some at
  pub open_entry : slice_get asked at ≡ Some (entry path side marks.Open)

-- the end of an object: where its entry stands, what it moved, whether one of its calls or the close failed, and
-- whether the close didn't
pub record Ending : Type 0 where
  pub place : Option ℕ
  pub moved : Option ℕ
  pub failed : Bool
  pub shut : Bool

abbrev pub source_ending : SourceState → Ending
source_ending source = record {
  place = source.place;
  moved = source.moved;
  failed = nat_lt 0 source.faults;
  shut = true;
}

abbrev pub sink_ending : SinkState → Result (Unit {0}) Failed → Ending
sink_ending sink result = record {
  place = sink.place;
  moved = sink.moved;
  failed = nat_lt 0 sink.faults || not (is_ok result);
  shut = is_ok result;
}

-- the entry, marked anew
abbrev pub with_mark : Entry → Mark → Entry
with_mark e mark = record e { mark = mark }

-- the entry at the told place is closed with what was moved, and all others stay
abbrev pub Closes : Ending → List Entry → List Entry → Type 0
Closes end before after =
    (at n : ℕ) (e : Entry) → end.place ≡ Some at → end.moved ≡ Some n → slice_get before at ≡ Some e
    → after ≡ slice_set before at (with_mark e (marks.Closed n end.failed end.shut))
