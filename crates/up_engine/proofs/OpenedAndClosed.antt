-- Paths that were opened and then closed, whatever their objects did in between.
use Rattle.std.proofs.Common.{◌≡◌, ℕ, ◌+◌, ◌++◌, List, [], take, cond, Option, Some, None, IfSome, refl, ◌∙◌, arith}
use Rattle.up_engine.proofs.FaultCounts.{rose_more, rose_none, rose_on}
use Rattle.up_engine.specs.Counting.{RoseBy}
use Rattle.up_engine.specs.Entries.{entries_at, path_places}
use Rattle.up_engine.specs.Objects.{AreOpen, Closes, Opens, closed_mark, entries_refused, failures, is_refused_as, object_at, place_told}
use Rattle.up_engine.specs.declared.object.Object.{Object}
use Rattle.up_engine.specs.declared.opening.Opening.{Opening}
use Rattle.up_model.specs.Ends.{is_sink, is_source}
use Rattle.up_model.specs.declared.outcome.Outcome.{Outcome}
use Rattle.up_model.specs.declared.pipe.Pipe.{Pipe}
use Rattle.up_outside.specs.States.{DepotState, SourceState, SinkState}
use Rattle.up_outside.specs.Told.{Then}
use Rattle.up_outside.specs.declared.asked.Entry.{Entry}
use Rattle.up_outside.specs.declared.asked.Mark.TheVariants as marks

module _ {S K : Type 0} (reads : S → SourceState) (writes : K → SinkState) (pipes : List Pipe) (old mid : DepotState) (table used : List (Object S K)) (opening : Opening)
    (opens : Opens reads writes pipes old mid table opening)
    (same_places : (place : ℕ) → place_told reads writes (object_at used place) ≡ place_told reads writes (object_at table place)) where
  still_open : (first asked : List Entry) → AreOpen reads writes pipes opens.count table first asked → AreOpen reads writes pipes opens.count used first asked
  still_open first asked are = record { rest = are.rest; told = are.told; places = λ place i found. same_places place ∙ are.places place i found }

  open_told : (a b : Option (List Entry)) → Then (λ before now.
      (now ≡ before ++ (entries_at pipes (λ place. marks.Open) (take opens.count (path_places pipes)) ++ entries_refused reads writes pipes opening))
      × AreOpen reads writes pipes opens.count table before now) a b
      → IfSome b (λ asked. (first : List Entry) × AreOpen reads writes pipes opens.count used first asked)
  open_told a None both = tt
  open_told None (Some y) both = absurd both
  open_told (Some x) (Some y) both = (x, still_open x y both.1)

  -- what was opened can be closed
  pub can_close : IfSome mid.asked (λ asked. (first : List Entry) × AreOpen reads writes pipes opens.count used first asked)
  can_close = open_told old.asked mid.asked opens.entries

  module _ (new : DepotState) (after : List (Object S K)) (before now : List Outcome) (closes : Closes reads writes pipes opens.count mid new used after before now) where
    closed_told : (a b c : Option (List Entry)) → Then (λ before now.
        (now ≡ before ++ (entries_at pipes (λ place. marks.Open) (take opens.count (path_places pipes)) ++ entries_refused reads writes pipes opening))
        × AreOpen reads writes pipes opens.count table before now) a b
        → ((first : List Entry) → IfSome b (AreOpen reads writes pipes opens.count used first) → Then (λ held closed. (rest : List Entry)
        → held ≡ first ++ (entries_at pipes (λ place. marks.Open) (take opens.count (path_places pipes)) ++ rest)
        → closed ≡ first ++ (entries_at pipes (closed_mark reads writes pipes closes.refused used) (take opens.count (path_places pipes)) ++ rest)) b c)
        → Then (λ before now. now ≡ before ++ (entries_at pipes (closed_mark reads writes pipes closes.refused used) (take opens.count (path_places pipes))
        ++ entries_refused reads writes pipes opening)) a c
    closed_told None None None both told = tt
    closed_told None None (Some z) both told = absurd (told [] tt)
    closed_told None (Some y) c both told = absurd both
    closed_told (Some x) None c both told = absurd both
    closed_told (Some x) (Some y) None both told = absurd (told x (still_open x y both.1))
    closed_told (Some x) (Some y) (Some z) both told = told x (still_open x y both.1) (entries_refused reads writes pipes opening) both.0

    -- an entry for each path, in order: those that were opened are closed, and then comes the one that was refused
    pub all_entries : Then (λ before now. now ≡ before ++ (entries_at pipes (closed_mark reads writes pipes closes.refused used) (take opens.count (path_places pipes))
        ++ entries_refused reads writes pipes opening)) old.asked new.asked
    all_entries = closed_told old.asked mid.asked new.asked opens.entries closes.entries

    -- the counts of faults rose by the open that was refused, and by what failed since
    pub source_faults : RoseBy (cond (is_refused_as reads writes pipes is_source opening) 1 0 + failures reads writes pipes is_source closes.refused used)
        old.source_faults new.source_faults
    source_faults =
        rose_on _ _ old.source_faults mid.source_faults new.source_faults
        (rose_more 0 _ (is_refused_as reads writes pipes is_source opening) _ _ _ (omega arith) (rose_none 0 old.source_faults refl) opens.sources) closes.sources

    pub sink_faults : RoseBy (cond (is_refused_as reads writes pipes is_sink opening) 1 0 + failures reads writes pipes is_sink closes.refused used)
        old.sink_faults new.sink_faults
    sink_faults =
        rose_on _ _ old.sink_faults mid.sink_faults new.sink_faults
        (rose_more 0 _ (is_refused_as reads writes pipes is_sink opening) _ _ _ (omega arith) (rose_none 0 old.sink_faults refl) opens.sinks) closes.sinks
