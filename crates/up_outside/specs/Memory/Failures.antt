-- The table of the calls that fail in a depot in memory. A call is named by its path and its number, counted from 1.
use Rattle.std.specs.Prelude.{ℕ, List, Bool, true, false, ◌&&◌, ◌==◌, count_by, filter, map}
use Rattle.std.specs.List.{list_any}
use Rattle.std.specs.Str.{bytes_eq}
use Rattle.up_outside.specs.Asked.{is_of_source, is_of_sink}
use Rattle.up_outside.specs.declared.asked.Entry.{Entry}
use Rattle.up_outside.specs.declared.asked.Mark.{Mark}
use Rattle.up_outside.specs.declared.asked.Mark.TheVariants as marks
use Rattle.up_outside.specs.declared.memory.depot_call.DepotCall.{DepotCall}
use Rattle.up_outside.specs.declared.memory.depot_call.DepotCall.TheVariants as calls
use Rattle.up_outside.specs.declared.memory.failures.Failure.{Failure}

-- the call with this number among such calls on the path
abbrev pub failure : DepotCall → List ℕ → ℕ → Failure
failure call path number = record { call = call; path = path; number = number }

-- the number of a call's kind
abbrev pub place_of : DepotCall → ℕ
place_of calls.OpenSource = 0
place_of calls.Read = 1
place_of calls.OpenSink = 2
place_of calls.Write = 3
place_of calls.CloseSink = 4

abbrev pub same_call : DepotCall → DepotCall → Bool
same_call one other = place_of one == place_of other

-- whether the row is of such a call on the path
abbrev pub is_such : DepotCall → List ℕ → Failure → Bool
is_such call path row = same_call row.call call && bytes_eq row.path path

abbrev pub is_closed : Mark → Bool
is_closed marks.Refused = false
is_closed marks.Open = false
is_closed (marks.Closed moved failed shut) = true

-- whether an entry of this side and mark shows such a call; reads and writes are counted by each object
abbrev pub is_shown : DepotCall → Entry → Bool
is_shown calls.OpenSource e = is_of_source e.side
is_shown calls.Read e = false
is_shown calls.OpenSink e = is_of_sink e.side
is_shown calls.Write e = false
is_shown calls.CloseSink e = is_of_sink e.side && is_closed e.mark

-- whether the entry shows such a call on the path
abbrev pub shows : DepotCall → List ℕ → Entry → Bool
shows call path e = is_shown call e && bytes_eq e.path path

-- how many such calls on the path the entries show
abbrev pub calls_made : DepotCall → List ℕ → List Entry → ℕ
calls_made call path asked = count_by (shows call path) asked

-- whether the table has such a call on the path with this number
abbrev pub is_due : DepotCall → List ℕ → ℕ → List Failure → Bool
is_due call path number rows =
    list_any (λ row. is_such call path row && (row.number == number)) rows

-- the numbers of such calls on the path that the table has
abbrev pub numbers_of : DepotCall → List ℕ → List Failure → List ℕ
numbers_of call path rows = map (λ row. row.number) (filter (is_such call path) rows)
