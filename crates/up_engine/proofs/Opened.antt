-- The paths of a graph while they are opened, one after the other.
use Rattle.std.proofs.Common.{◌≡◌, ℕ, ◌+◌, ◌<◌, List, [], ◌∷◌, ◌++◌, length, take, get_or, set, Bool, true, false, ◌&&◌, Option, Some, None, IfSome, Result, Ok, Err, slice_get, refl, sym, ap, ◌∙◌, subst, arith, inl, inr}
use Rattle.std.proofs.lemmas.Bool.{and_right}
use Rattle.std.proofs.lemmas.Bool.Decides.{eqb_tells}
use Rattle.std.proofs.lemmas.List.{append_assoc, append-nil, get_or-set_same, get_or-set_other, length-append, length-map, length-set, length-take-le, map_more, get_or_past}
use Rattle.std.proofs.lemmas.Option.{same_Some, slice_get-get_or, slice_get_cases, slice_get_within}
use Rattle.std.specs.Option.{option_map_or}
use Rattle.up_base.specs.declared.refusal.Refusal.{Refusal}
use Rattle.up_base.specs.declared.refusal.Refusal.TheVariants as refusals
use Rattle.up_engine.proofs.OtherPaths.{fresh_before, keeps_but_more, keeps_next, keeps_others, told_back}
use Rattle.up_engine.proofs.PathPlaces.{index_at, index_not_yet, index_same}
use Rattle.up_engine.specs.Entries.{KeepsPathsBut, entries_at, entry_at, entry_of, path_places}
use Rattle.up_engine.specs.Objects.{AreFresh, AreOpen, AreThere, IsFresh, KeepsButSink, Opens, OpensOne, StandsAt, StopsAt, entries_refused, faults_of, index_of, is_refused_as, moved_told, object_at, place_told}
use Rattle.up_engine.specs.declared.object.Object.{Object}
use Rattle.up_engine.specs.declared.object.Object.TheVariants as objects
use Rattle.up_engine.specs.declared.opening.Opening.{Opening}
use Rattle.up_engine.specs.declared.opening.Opening.TheVariants.{All, Refused, NoMemory}
use Rattle.up_model.specs.Ends.{is_sink, is_source}
use Rattle.up_model.specs.WellFormed.{IsWellFormed}
use Rattle.up_model.specs.declared.kind.Kind.{Kind}
use Rattle.up_model.specs.declared.pipe.Pipe.{Pipe}
use Rattle.up_outside.proofs.Told.{Then-map, Then-trans, always}
use Rattle.up_outside.specs.Counts.{CountsWhere}
use Rattle.up_outside.specs.DepotCalls.{IsNext}
use Rattle.up_outside.specs.Held.{Held}
use Rattle.up_outside.specs.States.{DepotState, SourceState, SinkState}
use Rattle.up_outside.specs.Told.{Then}
use Rattle.up_outside.specs.declared.asked.Entry.{Entry}
use Rattle.up_outside.specs.declared.asked.Mark.{Mark}
use Rattle.up_outside.specs.declared.asked.Mark.TheVariants as marks

-- no fault was counted
uncounted : (failed : Bool) (before now : ℕ) → failed ≡ false → CountsWhere failed before now → now ≡ before
uncounted failed before now none counts = counts.stays none

same_flag : (a b : Bool) (before now : ℕ) → a ≡ b → CountsWhere a before now → CountsWhere b before now
same_flag a b before now same counts = subst (λ (flag : Bool). CountsWhere flag before now) same counts

and_true : (a : Bool) → (a && true) ≡ a
and_true true = refl
and_true false = refl

-- nothing changed where nothing had to
pub still : {X : Type 0} (R : X → X → Type 0) → ((x : X) → R x x) → (a : Option X) → Then R a a
still R itself None = tt
still R itself (Some x) = itself x

all_told : {X : Type 0} (P : X → Type 0) → ((x : X) → P x) → (a : Option X) → IfSome a P
all_told P all None = tt
all_told P all (Some x) = all x

told_both : {X : Type 0} (P Q R : X → Type 0) (a : Option X) → ((x : X) → P x → Q x → R x) → IfSome a P → IfSome a Q → IfSome a R
told_both P Q R None both one two = tt
told_both P Q R (Some x) both one two = both x one two

module _ {S K : Type 0} where
  -- where one object was put into its place
  pub put_here : (table : List (Object S K)) (place other : ℕ) (object : Object S K) → place < length table → other ≡ place
      → object_at (set table place object) other ≡ object
  put_here table place other object within same =
      ap (object_at (set table place object)) same ∙ get_or-set_same table place object objects.None within

  pub put_elsewhere : (table : List (Object S K)) (place other : ℕ) (object : Object S K) → (other ≡ place → ⊥)
      → object_at (set table place object) other ≡ object_at table other
  put_elsewhere table place other object apart = get_or-set_other table place other object objects.None apart

  stands_as : (kind kind' : Kind) (index index' : Option ℕ) (object object' : Object S K) → kind' ≡ kind → index' ≡ index → object' ≡ object
      → StandsAt index kind object → StandsAt index' kind' object'
  stands_as kind kind' index index' object object' of at is stands = rw (of, at, is) stands

module _ {S K : Type 0} (reads : S → SourceState) (writes : K → SinkState) (pipes : List Pipe) where
  -- the first so many entries are open, behind those that were there before
  pub record AreOpenBehind (count : ℕ) (table : List (Object S K)) (before now : List Entry) : Type 0 where
    pub told : now ≡ before ++ entries_at pipes (λ place. marks.Open) (take count (path_places pipes))
    pub places : (place i : ℕ) → index_of pipes count place ≡ Some i → place_told reads writes (object_at table place) ≡ Some (length before + i)

  -- the first so many paths were opened, and none refused
  pub record Opened (count : ℕ) (old new : DepotState) (table : List (Object S K)) : Type 0 where
    pub there : AreThere reads writes pipes count table
    pub fresh : AreFresh reads writes pipes count table old
    pub entries : Then (AreOpenBehind count table) old.asked new.asked
    pub others : Then (KeepsPathsBut pipes (take count (path_places pipes))) old.held new.held
    pub sources : new.source_faults ≡ old.source_faults
    pub sinks : new.sink_faults ≡ old.sink_faults

  -- before the first nothing stands anywhere
  pub none_there : (table : List (Object S K)) → AreThere reads writes pipes 0 table → (place : ℕ) → object_at table place ≡ objects.None
  none_there table there place =
      let size = there.size in
      elim (slice_get_cases pipes place).1 [
        | inl stands ↦ there.kinds place stands.0 stands.2
        | inr past ↦ get_or_past table place objects.None (omega (arith, size, past.0))
      ]

  pub opened_none : (depot : DepotState) (table : List (Object S K)) → AreThere reads writes pipes 0 table → Opened 0 depot depot table
  opened_none depot table there =
      let none = none_there table there in
      record {
        there = there;
        fresh = record {
          faults = λ place. rw (none place) refl;
          bytes = all_told _ (λ held place pipe stands. rw (none place) tt) depot.held;
          moved = all_told _ (λ asked place i found. absurd (cc)) depot.asked;
        };
        entries = still (AreOpenBehind 0 table) (λ before. record { told = sym (append-nil before); places = λ place i found. absurd (cc) }) depot.asked;
        others = still (KeepsPathsBut pipes (take 0 (path_places pipes))) (λ held path free. refl) depot.held;
        sources = refl;
        sinks = refl;
      }

  module _ (well : IsWellFormed pipes) (count : ℕ) (place : ℕ) (pipe : Pipe) (within : count < length (path_places pipes))
      (next : get_or (path_places pipes) count 0 ≡ place) (stands : slice_get pipes place ≡ Some pipe) where
    -- its path is opened next
    here_next : index_of pipes (count + 1) place ≡ Some count
    here_next = subst (λ (p : ℕ). index_of pipes (count + 1) p ≡ Some count) next (index_at pipes (count + 1) count within (omega arith))

    elsewhere_same : (other : ℕ) → (other ≡ place → ⊥) → index_of pipes (count + 1) other ≡ index_of pipes count other
    elsewhere_same other apart = index_same pipes count other within (λ is. apart (sym is ∙ next))

    next_entries : (mark : ℕ → Mark) → entries_at pipes mark (take (count + 1) (path_places pipes))
        ≡ entries_at pipes mark (take count (path_places pipes)) ++ entry_of pipe.kind (mark place) ∷ []
    next_entries mark =
        map_more (λ place. entry_at pipes place (mark place)) (path_places pipes) count 0 within
        ∙ ap (λ (p : ℕ). entries_at pipes mark (take count (path_places pipes)) ++ entry_at pipes p (mark p) ∷ []) next
        ∙ ap (λ (there : Option Pipe). entries_at pipes mark (take count (path_places pipes))
        ++ option_map_or (λ (p : Pipe). entry_of p.kind (mark place)) there (entry_at [] place (mark place)) ∷ []) stands

    module _ (old mid new : DepotState) (table : List (Object S K)) (opened : Opened count old mid table) where
      pub has_place : place < length table
      has_place = let short = slice_get_within pipes place pipe stands in omega (arith, short, opened.there.size)

      pub is_empty : object_at table place ≡ objects.None
      is_empty =
          let index : index_of pipes count place ≡ None = subst (λ (p : ℕ). index_of pipes count p ≡ None) next (index_not_yet pipes count count within (omega arith)) in
          subst (λ (i : Option ℕ). StandsAt i pipe.kind (object_at table place)) index (opened.there.kinds place pipe stands)

      -- it was opened
      module _ (object : Object S K) (opens : OpensOne reads writes pipe.kind mid new (Ok object)) where
        abbrev after : List (Object S K)
        after = set table place object

        here : (other : ℕ) → other ≡ place → object_at after other ≡ object
        here other same = put_here table place other object has_place same

        elsewhere : (other : ℕ) → (other ≡ place → ⊥) → object_at after other ≡ object_at table other
        elsewhere other apart = put_elsewhere table place other object apart

        index_here : (other : ℕ) → other ≡ place → index_of pipes (count + 1) other ≡ Some count
        index_here other same = ap (index_of pipes (count + 1)) same ∙ here_next

        pipe_here : (other : ℕ) (pipe' : Pipe) → slice_get pipes other ≡ Some pipe' → other ≡ place → pipe'.kind ≡ pipe.kind
        pipe_here other pipe' there same =
            ap (λ (p : Pipe). p.kind) (same_Some pipe' pipe (sym there ∙ ap (slice_get pipes) same ∙ stands))

        there_next : AreThere reads writes pipes (count + 1) after
        there_next = record {
          size = length-set table place object ∙ opened.there.size;
          kinds = λ other pipe' there. elim (eqb_tells other place) [
            | inl same ↦
                stands_as pipe.kind pipe'.kind (Some count) _ object _ (pipe_here other pipe' there same.1) (index_here other same.1) (here other same.1) opens.object.side
            | inr apart ↦
                stands_as pipe'.kind pipe'.kind _ _ _ _ refl (elsewhere_same other apart.1) (elsewhere other apart.1) (opened.there.kinds other pipe' there)
          ];
        }

        fresh_as : (held : Held) (kind kind' : Kind) (one other : Object S K) → kind' ≡ kind → other ≡ one
            → IsFresh reads writes held kind one → IsFresh reads writes held kind' other
        fresh_as held kind kind' one other of is fresh = rw (of, is) fresh

        fresh_next : AreFresh reads writes pipes (count + 1) after old
        fresh_next = record {
          faults = λ other. elim (eqb_tells other place) [
            | inl same ↦ ap (faults_of reads writes) (here other same.1) ∙ opens.object.fresh
            | inr apart ↦ ap (faults_of reads writes) (elsewhere other apart.1) ∙ opened.fresh.faults other
          ];
          bytes = told_both _ (λ held. IsFresh reads writes held pipe.kind object) _ old.held
              (λ held all one other pipe' there. elim (eqb_tells other place) [
                | inl same ↦ fresh_as held pipe.kind pipe'.kind object _ (pipe_here other pipe' there same.1) (here other same.1) one
                | inr apart ↦ fresh_as held pipe'.kind pipe'.kind _ _ refl (elsewhere other apart.1) (all other pipe' there)
              ])
              opened.fresh.bytes
              (told_back (λ held. IsFresh reads writes held pipe.kind object) _ (KeepsPathsBut pipes (take count (path_places pipes))) old.held mid.held
              (λ x y kept fresh. fresh_before pipes place pipe stands well reads writes x y object opens.object.side
              (keeps_others pipes (take count (path_places pipes)) x y kept) fresh)
              opened.others opens.object.bytes);
          moved = told_both _ (λ asked. moved_told reads writes object ≡ Some 0) _ old.asked
              (λ asked all one other i found. elim (eqb_tells other place) [
                | inl same ↦ ap (moved_told reads writes) (here other same.1) ∙ one
                | inr apart ↦ ap (moved_told reads writes) (elsewhere other apart.1) ∙ all other i (sym (elsewhere_same other apart.1) ∙ found)
              ])
              opened.fresh.moved
              (told_back (λ asked. IsNext asked (place_told reads writes object) (moved_told reads writes object)) _ (AreOpenBehind count table) old.asked mid.asked
              (λ x y so_far next. next.nothing_yet)
              opened.entries opens.object.next);
        }

        behind_next : (x y z : List Entry) → AreOpenBehind count table x y
            → (z ≡ y ++ entry_of pipe.kind marks.Open ∷ []) × IsNext y (place_told reads writes object) (moved_told reads writes object)
            → AreOpenBehind (count + 1) after x z
        behind_next x y z so_far next = record {
          told = next.0 ∙ ap (λ l. l ++ entry_of pipe.kind marks.Open ∷ []) so_far.told
              ∙ append_assoc x (entries_at pipes (λ place. marks.Open) (take count (path_places pipes))) (entry_of pipe.kind marks.Open ∷ [])
              ∙ ap (λ l. x ++ l) (sym (next_entries (λ place. marks.Open)));
          places = λ other i found. elim (eqb_tells other place) [
            | inl same ↦
                let last : i ≡ count = same_Some i count (sym found ∙ index_here other same.1) in
                let long : length y ≡ length x + i =
                omega (
                  arith,
                  ap length so_far.told,
                  length-append x (entries_at pipes (λ place. marks.Open) (take count (path_places pipes))),
                  length-map (take count (path_places pipes)) (λ place. entry_at pipes place marks.Open),
                  length-take-le count (path_places pipes) (omega (arith, within)),
                  last,
                ) in
                ap (place_told reads writes) (here other same.1) ∙ next.1.at_end ∙ ap Some long
            | inr apart ↦ ap (place_told reads writes) (elsewhere other apart.1) ∙ so_far.places other i (sym (elsewhere_same other apart.1) ∙ found)
          ];
        }

        pub opened_more : Opened (count + 1) old new after
        opened_more = record {
          there = there_next;
          fresh = fresh_next;
          entries = Then-trans (AreOpenBehind count table) _ (AreOpenBehind (count + 1) after) old.asked mid.asked new.asked behind_next opened.entries
              (Then-map (λ y. IsNext y (place_told reads writes object) (moved_told reads writes object)) (λ y z. z ≡ y ++ entry_of pipe.kind marks.Open ∷ []) _
              mid.asked new.asked (λ y z next grown. (grown, next)) opens.object.next opens.entries);
          others = Then-trans (KeepsPathsBut pipes (take count (path_places pipes))) (KeepsButSink pipe.kind)
              (KeepsPathsBut pipes (take (count + 1) (path_places pipes))) old.held mid.held new.held
              (keeps_next pipes place pipe stands count within next) opened.others opens.others;
          sources = uncounted _ _ _ (and_right (is_source pipe.kind) false refl) opens.sources ∙ opened.sources;
          sinks = uncounted _ _ _ (and_right (is_sink pipe.kind) false refl) opens.sinks ∙ opened.sinks;
        }

  -- the opening stopped behind the first so many
  module _ (count : ℕ) (old mid new : DepotState) (table : List (Object S K)) (opened : Opened count old mid table) where
    open_then : (opening : Opening) (x y z : List Entry) → AreOpenBehind count table x y → z ≡ y ++ entries_refused reads writes pipes opening
        → (z ≡ x ++ (entries_at pipes (λ place. marks.Open) (take count (path_places pipes)) ++ entries_refused reads writes pipes opening))
        × AreOpen reads writes pipes count table x z
    open_then opening x y z so_far grown =
        let told = grown ∙ ap (λ l. l ++ entries_refused reads writes pipes opening) so_far.told
        ∙ append_assoc x (entries_at pipes (λ place. marks.Open) (take count (path_places pipes))) (entries_refused reads writes pipes opening) in
        (told, record { rest = entries_refused reads writes pipes opening; told = told; places = so_far.places })

    opens_upto : (opening : Opening) → StopsAt reads writes pipes count opening
        → Then (λ y z. z ≡ y ++ entries_refused reads writes pipes opening) mid.asked new.asked
        → Then (KeepsPathsBut pipes (take (count + 1) (path_places pipes))) old.held new.held
        → CountsWhere (is_refused_as reads writes pipes is_source opening) mid.source_faults new.source_faults
        → CountsWhere (is_refused_as reads writes pipes is_sink opening) mid.sink_faults new.sink_faults
        → Opens reads writes pipes old new table opening
    opens_upto opening stops grown others sources sinks = record {
      count = count;
      stops = stops;
      there = opened.there;
      fresh = opened.fresh;
      entries = Then-trans (AreOpenBehind count table) _ _ old.asked mid.asked new.asked (open_then opening) opened.entries grown;
      others = others;
      sources = subst (λ (n : ℕ). CountsWhere (is_refused_as reads writes pipes is_source opening) n new.source_faults) opened.sources sources;
      sinks = subst (λ (n : ℕ). CountsWhere (is_refused_as reads writes pipes is_sink opening) n new.sink_faults) opened.sinks sinks;
    }

    module _ (place : ℕ) (pipe : Pipe) (within : count < length (path_places pipes)) (next : get_or (path_places pipes) count 0 ≡ place)
        (stands : slice_get pipes place ≡ Some pipe) where
      all_others : Then (KeepsButSink pipe.kind) mid.held new.held → Then (KeepsPathsBut pipes (take (count + 1) (path_places pipes))) old.held new.held
      all_others others = Then-trans (KeepsPathsBut pipes (take count (path_places pipes))) (KeepsButSink pipe.kind)
          (KeepsPathsBut pipes (take (count + 1) (path_places pipes))) old.held mid.held new.held
          (keeps_next pipes place pipe stands count within next) opened.others others

      refused_here : (is_such : Kind → Bool) → (is_such pipe.kind && true) ≡ is_refused_as reads writes pipes is_such (Refused place)
      refused_here is_such = and_true (is_such pipe.kind) ∙ sym (ap (λ (there : Option Pipe). option_map_or (λ (p : Pipe). is_such p.kind) there false) stands)

      pub opens_refused : (result : Result (Object S K) Refusal) → result ≡ Err refusals.Failed → OpensOne reads writes pipe.kind mid new result
          → Opens reads writes pipes old new table (Refused place)
      opens_refused result is opens =
          let one : OpensOne reads writes pipe.kind mid new (Err refusals.Failed) = subst (OpensOne reads writes pipe.kind mid new) is opens in
          opens_upto (Refused place) (slice_get-get_or (path_places pipes) count 0 within ∙ ap Some next)
          (Then-map (λ _. Unit {0}) _ _ mid.asked new.asked
          (λ y z _ grown. grown ∙ ap (λ (there : Option Pipe). y ++ option_map_or (λ (p : Pipe). entry_of p.kind marks.Refused) there (entry_at [] place marks.Refused) ∷ []) (sym stands))
          (always mid.asked) one.entries)
          (all_others one.others)
          (same_flag _ _ _ _ (refused_here is_source) one.sources)
          (same_flag _ _ _ _ (refused_here is_sink) one.sinks)

      pub opens_no_memory : (result : Result (Object S K) Refusal) → result ≡ Err refusals.NoMemory → OpensOne reads writes pipe.kind mid new result
          → Opens reads writes pipes old new table NoMemory
      opens_no_memory result is opens =
          let one : OpensOne reads writes pipe.kind mid new (Err refusals.NoMemory) = subst (OpensOne reads writes pipe.kind mid new) is opens in
          opens_upto NoMemory (omega (arith, within)) one.entries (all_others one.others)
          (same_flag _ _ _ _ (and_right (is_source pipe.kind) false refl) one.sources)
          (same_flag _ _ _ _ (and_right (is_sink pipe.kind) false refl) one.sinks)

  pub opens_all : (count : ℕ) (old new : DepotState) (table : List (Object S K)) → Opened count old new table → count ≡ length (path_places pipes)
      → Opens reads writes pipes old new table All
  opens_all count old new table opened all =
      opens_upto count old new new table opened All all
      (still _ (λ x. sym (append-nil x)) new.asked)
      (Then-map (λ _. Unit {0}) (KeepsPathsBut pipes (take count (path_places pipes))) (KeepsPathsBut pipes (take (count + 1) (path_places pipes)))
      old.held new.held (λ x y _ kept. keeps_but_more pipes count (count + 1) (omega arith) x y kept) (always old.held) opened.others)
      (record { later = omega arith; rose = λ did. absurd (cc); stays = λ not. refl })
      (record { later = omega arith; rose = λ did. absurd (cc); stays = λ not. refl })
