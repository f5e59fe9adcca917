-- The next of the paths of a graph is closed.
use Rattle.std.proofs.Common.{◌≡◌, ◌⊎◌, ℕ, ◌+◌, ◌<◌, ◌==◌, List, [], ◌++◌, length, take, get_or, set, cond, count_by, nat_lt, Bool, true, false, ◌&&◌, ◌||◌, not, if◌then◌else◌, Option, Some, None, IfSome, slice_get, refl, sym, ap, ◌∙◌, subst, arith, inl, inr}
use Rattle.std.proofs.lemmas.Bool.{cases_Bool, cases_eq, cases_lt, eq-eqb, ne_eqb, true≢false}
use Rattle.std.proofs.lemmas.List.{get_or-map, get_or-set_same, get_or-set_other, get_or-take, get_or_default, length-map, length-set, length-take, set-get_or}
use Rattle.std.proofs.lemmas.Option.{same_Some, slice_get_within}
use Rattle.std.specs.FinMap.{get}
use Rattle.std.specs.Option.{is_some, option_map_or}
use Rattle.up_engine.proofs.ClosedSoFar.{Closing, KeepsUnopened, closing_past, failed_now, gone_is_none, is_gone, mark_now, of_kind_left}
use Rattle.up_engine.proofs.FaultCounts.{rose_more}
use Rattle.up_engine.proofs.OneChange.{count_one, get_inside, map_one, set_inside}
use Rattle.up_engine.proofs.Opened.{put_elsewhere, put_here}
use Rattle.up_engine.proofs.OtherPaths.{sink_no_source, sink_passes}
use Rattle.up_engine.proofs.PathPlaces.{index_at, index_not_yet, path_places_apart}
use Rattle.up_engine.specs.Counting.{RoseBy}
use Rattle.up_engine.specs.Entries.{entries_at, entry_at, entry_of, path_places}
use Rattle.up_engine.specs.Objects.{AreOpen, AreThere, ClosesOne, IsOfKind, IsStored, KeepsButSink, StandsAt, StandsOpen, closed_mark, ending_of, faults_of, has_failed, index_of, moved_told, object_at, outcome_closed, place_told}
use Rattle.up_engine.specs.declared.object.Object.{Object}
use Rattle.up_engine.specs.declared.object.Object.TheVariants as objects
use Rattle.up_model.proofs.WellFormed.{paths_differ}
use Rattle.up_model.specs.Ends.{is_sink, is_source, path_of}
use Rattle.up_model.specs.Inputs.{places}
use Rattle.up_model.specs.WellFormed.{IsWellFormed}
use Rattle.up_model.specs.declared.kind.Kind.{Kind}
use Rattle.up_model.specs.declared.kind.Kind.TheVariants.{Source, Sink}
use Rattle.up_model.specs.declared.outcome.Outcome.{Outcome}
use Rattle.up_model.specs.declared.pipe.Pipe.{Pipe}
use Rattle.up_outside.proofs.Told.{Then-trans}
use Rattle.up_outside.specs.Asked as asked
use Rattle.up_outside.specs.Asked.{with_mark}
use Rattle.up_outside.specs.Counts.{CountsWhere}
use Rattle.up_outside.specs.Held.{Held}
use Rattle.up_outside.specs.States.{DepotState, SourceState, SinkState}
use Rattle.up_outside.specs.Told.{Then}
use Rattle.up_outside.specs.declared.asked.Entry.{Entry}
use Rattle.up_outside.specs.declared.asked.Mark.{Mark}
use Rattle.up_outside.specs.declared.asked.Mark.TheVariants as marks

-- an entry with another mark
marked_anew : (kind : Kind) (mark other : Mark) → with_mark (entry_of kind mark) other ≡ entry_of kind other
marked_anew (Source path form limit) mark other = refl
marked_anew (Sink path form) mark other = refl
marked_anew kind mark other = refl

some_of : (o : Option ℕ) → is_some o ≡ true → (n : ℕ) × (o ≡ Some n)
some_of None some = absurd (cc)
some_of (Some n) some = (n, refl)

-- both, where the one comes with a reason
then_both : {X : Type 0} (P : Type 0) (R T : X → X → Type 0) (a b : Option X) → Then R a b → (P → Then T a b) → Then (λ x y. R x y × (P → T x y)) a b
then_both P R T None None one two = tt
then_both P R T None (Some y) one two = one
then_both P R T (Some x) None one two = one
then_both P R T (Some x) (Some y) one two = (one, two)

-- a change of what was told, of which this was so
then_given : {X : Type 0} (P : X → Type 0) (R S U : X → X → Type 0) (a b c : Option X) → ((x y z : X) → P x → R x y → S y z → U x z)
    → IfSome a P → Then R a b → Then S b c → Then U a c
then_given P R S U None None None all is one two = tt
then_given P R S U None None (Some z) all is one two = two
then_given P R S U None (Some y) c all is one two = absurd one
then_given P R S U (Some x) None c all is one two = absurd one
then_given P R S U (Some x) (Some y) None all is one two = absurd two
then_given P R S U (Some x) (Some y) (Some z) all is one two = all x y z is one two

module _ {S K : Type 0} (reads : S → SourceState) (writes : K → SinkState) where
  closed_as : (one object : Object S K) (refused was_refused : Bool) (n : ℕ) → one ≡ object → refused ≡ was_refused → moved_told reads writes object ≡ Some n
      → marks.Closed (option_map_or (λ n. n) (moved_told reads writes one) 0) (nat_lt 0 (faults_of reads writes one) || refused) (not refused)
      ≡ marks.Closed n (ending_of reads writes object was_refused).failed (ending_of reads writes object was_refused).shut
  closed_as one object refused was_refused n same flag moved = rw (same, flag, moved) refl

  stored_on : (before after : Held) (kind : Kind) (object : Object S K) → ((path : List ℕ) → path_of kind ≡ Some path → get after path ≡ get before path)
      → IsStored reads writes before kind object → IsStored reads writes after kind object
  stored_on before after kind objects.None kept stored = tt
  stored_on before after kind (objects.Source s) kept stored = tt
  stored_on before after kind (objects.Sink k) kept stored = by_written (writes k).written stored
    where
      by_written : (written : Option (List ℕ)) → IfSome written (λ bytes. (path : List ℕ) → path_of kind ≡ Some path → get before path ≡ Some bytes)
          → IfSome written (λ bytes. (path : List ℕ) → path_of kind ≡ Some path → get after path ≡ Some bytes)
      by_written None stored = tt
      by_written (Some bytes) stored = λ path of. kept path of ∙ stored path of

  module _ (pipes : List Pipe) (well : IsWellFormed pipes) (i place : ℕ) (pipe : Pipe) (within : i < length (path_places pipes))
      (next : get_or (path_places pipes) i 0 ≡ place) (stands : slice_get pipes place ≡ Some pipe)
      (old mid new : DepotState) (table left : List (Object S K)) (before now : List Outcome) (so_far : Closing reads writes pipes i old mid table left before now) where
    pub has_place : place < length left
    has_place = let short = slice_get_within pipes place pipe stands in omega (arith, short, so_far.size)

    -- what stands at the next place is what stood there before
    pub untouched : object_at left place ≡ object_at table place
    untouched = subst (λ (p : ℕ). object_at left p ≡ object_at table p) next (so_far.to_do i (omega arith) within)

    -- something stands there
    module _ (object : Object S K) (is : object ≡ object_at left place) (present : is_gone object ≡ false) where
      was_there : object_at table place ≡ object
      was_there = sym (is ∙ untouched)

      -- it is one of those that were opened
      found : (count : ℕ) → AreThere reads writes pipes count table → (i < count) × (index_of pipes count place ≡ Some i)
      found count there = elim (cases_lt i count) [
        | inl opened ↦ (opened, subst (λ (p : ℕ). index_of pipes count p ≡ Some i) next (index_at pipes count i within opened))
        | inr later ↦
            let none : index_of pipes count place ≡ None = subst (λ (p : ℕ). index_of pipes count p ≡ None) next (index_not_yet pipes count i within later) in
            let gone : object_at table place ≡ objects.None =
            subst (λ (index : Option ℕ). StandsAt index pipe.kind (object_at table place)) none (there.kinds place pipe stands) in
            absurd (true≢false (sym (ap is_gone (sym was_there ∙ gone)) ∙ present))
      ]

      not_refused_yet : so_far.refused place ≡ false
      not_refused_yet = elim (cases_Bool (so_far.refused place)) [
        | inl refused ↦ absurd (true≢false (sym (ap is_gone (is ∙ so_far.refused_gone place refused)) ∙ present))
        | inr not_yet ↦ not_yet
      ]

      -- its entry is open
      entry_here : (count : ℕ) (first rest y : List Entry) → i < count
          → y ≡ first ++ (entries_at pipes (mark_now reads writes pipes table left so_far.refused) (take count (path_places pipes)) ++ rest)
          → slice_get y (length first + i) ≡ Some (entry_of pipe.kind marks.Open)
      entry_here count first rest y opened told =
          let mark = mark_now reads writes pipes table left so_far.refused in
          let places_opened = take count (path_places pipes) in
          let long : i < length places_opened = omega (arith, opened, within, length-take count (path_places pipes)) in
          let entries = entries_at pipes mark places_opened in
          let some_entry = entry_at pipes place marks.Open in
          let here : get_or places_opened i 0 ≡ place = get_or-take count (path_places pipes) i 0 opened ∙ next in
          let left_open : mark place ≡ marks.Open =
          ap (λ (gone : Bool). if gone then closed_mark reads writes pipes so_far.refused table place else marks.Open) (ap is_gone (sym is) ∙ present) in
          ap (λ (l : List Entry). slice_get l (length first + i)) told
          ∙ get_inside first entries rest i (omega (arith, long, length-map places_opened (λ p. entry_at pipes p (mark p)))) some_entry
          ∙ ap Some (get_or-map (λ p. entry_at pipes p (mark p)) places_opened i 0 some_entry long
          ∙ ap (λ (p : ℕ). entry_at pipes p (mark p)) here
          ∙ ap (entry_at pipes place) left_open
          ∙ ap (λ (there : Option Pipe). option_map_or (λ (p : Pipe). entry_of p.kind marks.Open) there (entry_at [] place marks.Open)) stands)

      stands_open_in : (count : ℕ) (first rest y : List Entry) → i < count → IsOfKind pipe.kind object
          → place_told reads writes object ≡ Some (length first + i)
          → y ≡ first ++ (entries_at pipes (mark_now reads writes pipes table left so_far.refused) (take count (path_places pipes)) ++ rest)
          → StandsOpen reads writes pipe.kind object y
      stands_open_in count first rest y opened of at told = by_object pipe.kind object of at (entry_here count first rest y opened told)
        where
          by_object : (kind : Kind) (o : Object S K) → IsOfKind kind o → place_told reads writes o ≡ Some (length first + i)
              → slice_get y (length first + i) ≡ Some (entry_of kind marks.Open) → StandsOpen reads writes kind o y
          by_object kind objects.None of at entry = absurd of
          by_object (Source path form limit) (objects.Source s) of at entry = (path, record { at = length first + i; told = at; open_entry = entry })
          by_object kind (objects.Source s) of at entry = absurd (cc)
          by_object (Sink path form) (objects.Sink k) of at entry = (path, refl, record { at = length first + i; told = at; open_entry = entry })
          by_object kind (objects.Sink k) of at entry = absurd (cc)

      -- it was closed, or its close was refused
      module _ (together : is_some (moved_told reads writes object) ≡ is_some (place_told reads writes object))
          (was_refused : Bool) (closes : ClosesOne reads writes pipe.kind object mid new was_refused) where
        abbrev refused_next : ℕ → Bool
        refused_next other = if other == place then was_refused else so_far.refused other

        abbrev left_next : List (Object S K)
        left_next = set left place objects.None

        refused_here : (other : ℕ) → other ≡ place → refused_next other ≡ was_refused
        refused_here other same = ap (λ (b : Bool). if b then was_refused else so_far.refused other) (eq-eqb other place same)

        refused_elsewhere : (other : ℕ) → (other ≡ place → ⊥) → refused_next other ≡ so_far.refused other
        refused_elsewhere other apart = ap (λ (b : Bool). if b then was_refused else so_far.refused other) (ne_eqb other place apart)

        gone_here : (other : ℕ) → other ≡ place → object_at left_next other ≡ objects.None
        gone_here other same = put_here left place other objects.None has_place same

        left_elsewhere : (other : ℕ) → (other ≡ place → ⊥) → object_at left_next other ≡ object_at left other
        left_elsewhere other apart = put_elsewhere left place other objects.None apart

        -- every other pipe's mark and failure are as they were
        mark_same : (other : ℕ) → (other ≡ place → ⊥) → mark_now reads writes pipes table left_next refused_next other ≡ mark_now reads writes pipes table left so_far.refused other
        mark_same other apart = rw (left_elsewhere other apart, refused_elsewhere other apart) refl

        failed_same : (is_such : Kind → Bool) (other : ℕ) → (other ≡ place → ⊥)
            → failed_now reads writes pipes table left_next refused_next is_such other ≡ failed_now reads writes pipes table left so_far.refused is_such other
        failed_same is_such other apart = rw (left_elsewhere other apart, refused_elsewhere other apart) refl

        mark_here : (n : ℕ) → moved_told reads writes object ≡ Some n
            → mark_now reads writes pipes table left_next refused_next place
            ≡ marks.Closed n (ending_of reads writes object was_refused).failed (ending_of reads writes object was_refused).shut
        mark_here n moved =
            ap (λ (gone : Bool). if gone then closed_mark reads writes pipes refused_next table place else marks.Open) (ap is_gone (gone_here place refl))
            ∙ closed_as (object_at table place) object (refused_next place) was_refused n was_there (refused_here place refl) moved

        failed_here : (is_such : Kind → Bool)
            → failed_now reads writes pipes table left_next refused_next is_such place ≡ (is_such pipe.kind && (ending_of reads writes object was_refused).failed)
        failed_here is_such =
            ap (λ (gone : Bool). gone && (option_map_or (λ (p : Pipe). is_such p.kind) (slice_get pipes place) false && has_failed reads writes pipes refused_next table place))
            (ap is_gone (gone_here place refl))
            ∙ ap (λ (there : Option Pipe). option_map_or (λ (p : Pipe). is_such p.kind) there false && has_failed reads writes pipes refused_next table place) stands
            ∙ ap (λ (o : Object S K). is_such pipe.kind && (nat_lt 0 (faults_of reads writes o) || refused_next place)) was_there
            ∙ ap (λ (b : Bool). is_such pipe.kind && (nat_lt 0 (faults_of reads writes object) || b)) (refused_here place refl)

        -- the entries of those that were opened, with one more closed
        entries_next : (count n : ℕ) → i < count → moved_told reads writes object ≡ Some n
            → entries_at pipes (mark_now reads writes pipes table left_next refused_next) (take count (path_places pipes))
            ≡ set (entries_at pipes (mark_now reads writes pipes table left so_far.refused) (take count (path_places pipes))) i
            (entry_of pipe.kind (marks.Closed n (ending_of reads writes object was_refused).failed (ending_of reads writes object was_refused).shut))
        entries_next count n opened moved =
            let mark = mark_now reads writes pipes table left so_far.refused in
            let mark' = mark_now reads writes pipes table left_next refused_next in
            let places_opened = take count (path_places pipes) in
            let size = length-take count (path_places pipes) in
            let here : get_or places_opened i 0 ≡ place = get_or-take count (path_places pipes) i 0 opened ∙ next in
            map_one (λ p. entry_at pipes p (mark p)) (λ p. entry_at pipes p (mark' p)) places_opened i (omega (arith, opened, within, size))
            (λ k inside other.
            let below : k < count = omega (arith, inside, size) in
            let apart : get_or places_opened k 0 ≡ place → ⊥ = λ same.
            other (path_places_apart pipes k i (omega (arith, inside, size)) within (sym (get_or-take count (path_places pipes) k 0 below) ∙ same ∙ sym next)) in
            ap (entry_at pipes (get_or places_opened k 0)) (mark_same (get_or places_opened k 0) apart))
            ∙ ap (set (entries_at pipes mark places_opened) i)
            (ap (λ (p : ℕ). entry_at pipes p (mark' p)) here
            ∙ ap (λ (there : Option Pipe). option_map_or (λ (p : Pipe). entry_of p.kind (mark' place)) there (entry_at [] place (mark' place))) stands
            ∙ ap (entry_of pipe.kind) (mark_here n moved))

        closed_behind : (count : ℕ) (first x y z : List Entry) → AreThere reads writes pipes count table → AreOpen reads writes pipes count table first x
            → ((rest : List Entry) → x ≡ first ++ (entries_at pipes (λ place. marks.Open) (take count (path_places pipes)) ++ rest)
            → y ≡ first ++ (entries_at pipes (mark_now reads writes pipes table left so_far.refused) (take count (path_places pipes)) ++ rest))
            → asked.Closes (ending_of reads writes object was_refused) y z
            → (rest : List Entry) → x ≡ first ++ (entries_at pipes (λ place. marks.Open) (take count (path_places pipes)) ++ rest)
            → z ≡ first ++ (entries_at pipes (mark_now reads writes pipes table left_next refused_next) (take count (path_places pipes)) ++ rest)
        closed_behind count first x y z there all_open so_far_told closed rest told =
            let index = found count there in
            let at : place_told reads writes object ≡ Some (length first + i) =
            ap (place_told reads writes) (sym was_there) ∙ all_open.places place i index.1 in
            let moved = some_of (moved_told reads writes object) (together ∙ ap is_some at) in
            let places_opened = take count (path_places pipes) in
            let entries = entries_at pipes (mark_now reads writes pipes table left so_far.refused) places_opened in
            let end = ending_of reads writes object was_refused in
            let mark = marks.Closed moved.0 end.failed end.shut in
            let within_entries : i < length entries =
            omega (arith, index.0, within, length-take count (path_places pipes), length-map places_opened (λ p. entry_at pipes p (mark_now reads writes pipes table left so_far.refused p))) in
            closed (length first + i) moved.0 (entry_of pipe.kind marks.Open) at moved.1 (entry_here count first rest y index.0 (so_far_told rest told))
            ∙ ap (set y (length first + i)) (marked_anew pipe.kind marks.Open mark)
            ∙ ap (λ (l : List Entry). set l (length first + i) (entry_of pipe.kind mark)) (so_far_told rest told)
            ∙ set_inside first entries rest i within_entries (entry_of pipe.kind mark)
            ∙ ap (λ (l : List Entry). first ++ (l ++ rest)) (sym (entries_next count moved.0 index.0 moved.1))

        -- what was stored stays, and what this sink was given is stored
        stored_next : (x y z : Held) → ((other : ℕ) (pipe' : Pipe) → slice_get pipes other ≡ Some pipe' → so_far.refused other ≡ false
            → object_at left other ≡ objects.None → IsStored reads writes y pipe'.kind (object_at table other))
            → KeepsButSink pipe.kind y z × (was_refused ≡ false → IsStored reads writes z pipe.kind object)
            → (other : ℕ) (pipe' : Pipe) → slice_get pipes other ≡ Some pipe' → refused_next other ≡ false
            → object_at left_next other ≡ objects.None → IsStored reads writes z pipe'.kind (object_at table other)
        stored_next x y z stored step other pipe' there unrefused gone = elim (cases_eq other place) [
          | inl same ↦
              let one : pipe' ≡ pipe = same_Some pipe' pipe (sym there ∙ ap (slice_get pipes) same ∙ stands) in
              let here : object_at table other ≡ object = ap (object_at table) same ∙ was_there in
              let now_stored = step.1 (sym (refused_here other same) ∙ unrefused) in
              stored_as pipe.kind pipe'.kind object (object_at table other) (ap (λ (p : Pipe). p.kind) one) here now_stored
          | inr apart ↦
              stored_on y z pipe'.kind (object_at table other)
              (λ path of. step.0 path (λ sink of_sink.
              apart (sym (paths_differ pipes well place other pipe pipe' path stands there of_sink of (sink_no_source pipe.kind sink)))))
              (stored other pipe' there (sym (refused_elsewhere other apart) ∙ unrefused) (sym (left_elsewhere other apart) ∙ gone))
        ]
          where
            stored_as : (kind kind' : Kind) (o o' : Object S K) → kind' ≡ kind → o' ≡ o → IsStored reads writes z kind o → IsStored reads writes z kind' o'
            stored_as kind kind' o o' of same stored = rw (of, same) stored

        outcomes_next : (y x : Outcome) → y ≡ get_or now place y → x ≡ outcome_closed was_refused y → place < length before
            → (other : ℕ) (d : Outcome) → other < length before → get_or (set now place x) other d ≡ outcome_closed (refused_next other) (get_or before other d)
        outcomes_next y x read is_closed inside other d inside_other = elim (cases_eq other place) [
          | inl same ↦
              let was : y ≡ get_or before place d =
              read ∙ get_or_default now place y d (omega (arith, inside, so_far.sizes)) ∙ so_far.outcomes place d inside
              ∙ ap (λ (b : Bool). outcome_closed b (get_or before place d)) not_refused_yet in
              ap (λ (p : ℕ). get_or (set now place x) p d) same ∙ get_or-set_same now place x d (omega (arith, inside, so_far.sizes))
              ∙ is_closed ∙ ap (outcome_closed was_refused) was
              ∙ ap (λ (b : Bool). outcome_closed b (get_or before place d)) (sym (refused_here place refl))
              ∙ ap (λ (p : ℕ). outcome_closed (refused_next p) (get_or before p d)) (sym same)
          | inr apart ↦
              get_or-set_other now place other x d apart ∙ so_far.outcomes other d inside_other
              ∙ ap (λ (b : Bool). outcome_closed b (get_or before other d)) (sym (refused_elsewhere other apart))
        ]

        faults_next : (is_such : Kind → Bool) (a b c : ℕ) → RoseBy (count_by (failed_now reads writes pipes table left so_far.refused is_such) (places pipes)) a b
            → CountsWhere (is_such pipe.kind && (ending_of reads writes object was_refused).failed) b c
            → RoseBy (count_by (failed_now reads writes pipes table left_next refused_next is_such) (places pipes)) a c
        faults_next is_such a b c one two =
            let yet : failed_now reads writes pipes table left so_far.refused is_such place ≡ false =
            ap (λ (gone : Bool). gone && (option_map_or (λ (p : Pipe). is_such p.kind) (slice_get pipes place) false && has_failed reads writes pipes so_far.refused table place))
            (ap is_gone (sym is) ∙ present) in
            rose_more _ _ (is_such pipe.kind && (ending_of reads writes object was_refused).failed) a b c
            (count_one (failed_now reads writes pipes table left so_far.refused is_such) (failed_now reads writes pipes table left_next refused_next is_such) place
            (failed_same is_such) (length pipes) (slice_get_within pipes place pipe stands) yet
            ∙ ap (λ (b : Bool). count_by (failed_now reads writes pipes table left so_far.refused is_such) (places pipes) + cond b 1 0) (failed_here is_such))
            one two

        closing_one : (y x : Outcome) → y ≡ get_or now place y → x ≡ outcome_closed was_refused y → place < length before
            → Closing reads writes pipes (i + 1) old new table left_next before (set now place x)
        closing_one y x read is_closed inside = record {
          refused = refused_next;
          refused_sinks = λ other refused. elim (cases_eq other place) [
            | inl same ↦
                let sink = closes.refused_sink (sym (refused_here other same) ∙ refused) in
                (sink.0, ap (object_at table) same ∙ was_there ∙ sink.1)
            | inr apart ↦ so_far.refused_sinks other (sym (refused_elsewhere other apart) ∙ refused)
          ];
          refused_gone = λ other refused. elim (cases_eq other place) [
            | inl same ↦ gone_here other same
            | inr apart ↦ left_elsewhere other apart ∙ so_far.refused_gone other (sym (refused_elsewhere other apart) ∙ refused)
          ];
          sizes = length-set now place x ∙ so_far.sizes;
          outcomes = outcomes_next y x read is_closed inside;
          entries = λ count first there all_open.
              then_given (AreOpen reads writes pipes count table first) _ (asked.Closes (ending_of reads writes object was_refused)) _ old.asked mid.asked new.asked
              (λ x y z opened so_far_told closed. closed_behind count first x y z there opened so_far_told closed)
              all_open (so_far.entries count first there all_open) closes.entries;
          stored = Then-trans _ (λ y z. KeepsButSink pipe.kind y z × (was_refused ≡ false → IsStored reads writes z pipe.kind object)) _ old.held mid.held new.held
              stored_next so_far.stored
              (then_both (was_refused ≡ false) (KeepsButSink pipe.kind) (λ y z. IsStored reads writes z pipe.kind object) mid.held new.held closes.others closes.stored);
          others = Then-trans (KeepsUnopened pipes table) (KeepsButSink pipe.kind) (KeepsUnopened pipes table) old.held mid.held new.held
              (λ x y z kept keeps path free.
              keeps path (λ sink. free place pipe stands (sink_passes pipes place pipe stands sink) (ap is_gone was_there ∙ present)) ∙ kept path free)
              so_far.others closes.others;
          sources = faults_next is_source _ _ _ so_far.sources closes.sources;
          sinks = faults_next is_sink _ _ _ so_far.sinks closes.sinks;
          size = length-set left place objects.None ∙ so_far.size;
          shrinks = λ other. elim (cases_eq other place) [
            | inl same ↦ inl (gone_here other same)
            | inr apart ↦ elim (so_far.shrinks other) [
              | inl gone ↦ inl (left_elsewhere other apart ∙ gone)
              | inr kept ↦ inr (left_elsewhere other apart ∙ kept)
            ]
          ];
          to_do = λ k behind inside_k.
              left_elsewhere (get_or (path_places pipes) k 0) (λ same.
              let last = path_places_apart pipes k i inside_k within (same ∙ sym next) in omega (arith, last, behind))
              ∙ so_far.to_do k (omega (arith, behind)) inside_k;
          gone = λ k below inside_k. elim (cases_eq (get_or (path_places pipes) k 0) place) [
            | inl same ↦ gone_here (get_or (path_places pipes) k 0) same
            | inr apart ↦
                left_elsewhere (get_or (path_places pipes) k 0) apart
                ∙ so_far.gone k (elim (cases_eq k i) [
                  | inl last ↦ absurd (apart (ap (λ (n : ℕ). get_or (path_places pipes) n 0) last ∙ next))
                  | inr other ↦ omega (arith, below, other)
                ]) inside_k
          ];
        }

    -- what stands there is of the pipe's side
    pub side_here : (count : ℕ) → AreThere reads writes pipes count table → (object : Object S K) → object ≡ object_at left place
        → (object ≡ objects.None) ⊎ IsOfKind pipe.kind object
    side_here count there object is =
        let stood = there.kinds place pipe stands in
        let stands_as : (index : Option ℕ) → index_of pipes count place ≡ index → StandsAt index pipe.kind object =
        λ index at. subst (StandsAt index pipe.kind) (sym (is ∙ untouched)) (subst (λ (n : Option ℕ). StandsAt n pipe.kind (object_at table place)) at stood) in
        elim (cases_lt i count) [
          | inl opened ↦ inr (stands_as (Some i) (subst (λ (p : ℕ). index_of pipes count p ≡ Some i) next (index_at pipes count i within opened)))
          | inr later ↦ inl (stands_as None (subst (λ (p : ℕ). index_of pipes count p ≡ None) next (index_not_yet pipes count i within later)))
        ]

    -- its entry is open
    pub open_here : (count : ℕ) → AreThere reads writes pipes count table
        → IfSome old.asked (λ asked. (first : List Entry) × AreOpen reads writes pipes count table first asked)
        → (object : Object S K) → object ≡ object_at left place → IfSome mid.asked (StandsOpen reads writes pipe.kind object)
    open_here count there all_open object is = by_told old.asked mid.asked (λ first opened. so_far.entries count first there opened) all_open
      where
        nothing_open : (o : Object S K) (y : List Entry) → o ≡ objects.None → StandsOpen reads writes pipe.kind o y
        nothing_open o y none = rw none tt

        by_told : (a b : Option (List Entry))
            → ((first : List Entry) → IfSome a (AreOpen reads writes pipes count table first)
            → Then (λ held closed. (rest : List Entry)
            → held ≡ first ++ (entries_at pipes (λ place. marks.Open) (take count (path_places pipes)) ++ rest)
            → closed ≡ first ++ (entries_at pipes (mark_now reads writes pipes table left so_far.refused) (take count (path_places pipes)) ++ rest)) a b)
            → IfSome a (λ asked. (first : List Entry) × AreOpen reads writes pipes count table first asked)
            → IfSome b (StandsOpen reads writes pipe.kind object)
        by_told a None told opened = tt
        by_told None (Some y) told opened = absurd (told [] tt)
        by_told (Some x) (Some y) told opened = elim (side_here count there object is) [
          | inl none ↦ nothing_open object y none
          | inr side ↦
              let present = of_kind_left pipe.kind object side in
              let index = found object is present count there in
              stands_open_in object is present count opened.0 opened.1.rest y index.0 side
              (ap (place_told reads writes) (is ∙ untouched) ∙ opened.1.places place i index.1)
              (told opened.0 opened.1 opened.1.rest opened.1.told)
        ]

    pub closing_more : is_some (moved_told reads writes (object_at left place)) ≡ is_some (place_told reads writes (object_at left place))
        → (was_refused : Bool) → ClosesOne reads writes pipe.kind (object_at left place) mid new was_refused
        → (y x : Outcome) → y ≡ get_or now place y → x ≡ outcome_closed was_refused y → place < length before
        → Closing reads writes pipes (i + 1) old new table (set left place objects.None) before (set now place x)
    closing_more together was_refused closes y x read is_closed inside = elim (cases_Bool (is_gone (object_at left place))) [
      | inl gone ↦
          let none = gone_is_none (object_at left place) gone in
          let unrefused : was_refused ≡ false = elim (cases_Bool was_refused) [
            | inl refused ↦ let sink = closes.refused_sink refused in absurd (true≢false (sym gone ∙ ap is_gone sink.1))
            | inr not_refused ↦ not_refused
          ] in
          let same_table : left ≡ set left place objects.None = sym (ap (set left place) (sym none) ∙ set-get_or left place objects.None) in
          let same_outcomes : now ≡ set now place x =
          sym (ap (set now place) (is_closed ∙ ap (λ (b : Bool). outcome_closed b y) unrefused ∙ read) ∙ set-get_or now place y) in
          subst (λ (s : DepotState). Closing reads writes pipes (i + 1) old s table (set left place objects.None) before (set now place x)) (sym (closes.none none))
          (subst (λ (t : List (Object S K)). Closing reads writes pipes (i + 1) old mid table t before (set now place x)) same_table
          (subst (λ (o : List Outcome). Closing reads writes pipes (i + 1) old mid table left before o) same_outcomes
          (closing_past reads writes pipes i old mid table left before now so_far (ap (object_at left) next ∙ none))))
      | inr present ↦ closing_one (object_at left place) refl present together was_refused closes y x read is_closed inside
    ]
