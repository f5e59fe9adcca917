-- A run that stopped where an open was refused.
use Rattle.std.proofs.Common.{◌≡◌, ◌≢◌, ℕ, suc, ◌+◌, ◌<◌, ◌||◌, ◌&&◌, ◌==◌, List, [], ◌∷◌, ◌++◌, length, map, take, get_or, set, replicate, count_by, nat_lt, Bool, true, false, cond, not, Option, Some, None, slice_get, refl, sym, ap, ◌∙◌, subst, arith, inl, inr, ◌⊎◌}
use Rattle.std.proofs.KnownBytes.{Appends-nil}
use Rattle.std.proofs.lemmas.Bool.{eq-eqb, eqb-true, ne_eqb, true≢false}
use Rattle.std.proofs.lemmas.Bool.Decides.{eqb_tells}
use Rattle.std.proofs.lemmas.List.{get_or-replicate, get_or-set_other, get_or-set_same, get_or_default, length-replicate, length-set, same_lists}
use Rattle.std.proofs.lemmas.List.FromFn.{get_or-map-range_with_len, length-map-range_with_len, length-range_with_len}
use Rattle.std.proofs.lemmas.List.Sums.{length-filter}
use Rattle.std.proofs.lemmas.Option.{same_Some, slice_get-get_or, slice_get_within}
use Rattle.std.proofs.lemmas.Simd.{splat_is_map}
use Rattle.std.specs.List.{Contains, filter}
use Rattle.std.specs.Option.{is_some, option_map_or}
use Rattle.up_engine.proofs.HeldAfter.{AllFresh, AllStored, given_lies, refused_passes, refused_sink, stored_closed, untouched_closed}
use Rattle.up_engine.proofs.ClosedWays.{not_so, true_or_false}
use Rattle.up_engine.proofs.LeftOpen.{LeftOpen, left_alone}
use Rattle.up_engine.proofs.OneChange.{count_one, map_agree}
use Rattle.up_engine.proofs.OpenedAndClosed.{all_entries, sink_faults, source_faults}
use Rattle.up_engine.proofs.PathObjects.{index_among, sink_stands}
use Rattle.up_engine.proofs.PathPlaces.{index_not_yet, path_place_stands}
use Rattle.up_engine.specs.Counting.{RoseBy}
use Rattle.up_engine.specs.Entries.{entry_at, path_places}
use Rattle.up_engine.specs.Objects.{Closes, Opens, closed_mark, has_failed, index_of, is_refused_as, moved_told, object_at, outcome_closed}
use Rattle.up_engine.specs.Runs.{StoppedThere, ending_refused, fault_of, is_read_fault, is_write_fault}
use Rattle.up_engine.specs.declared.object.Object.{Object}
use Rattle.up_engine.specs.declared.opening.Opening.TheVariants.{Refused}
use Rattle.up_model.specs.Ends.{is_sink, is_source, path_of}
use Rattle.up_model.specs.Inputs.{places}
use Rattle.up_model.specs.Tallies.{nothing}
use Rattle.up_model.specs.WellFormed.{IsWellFormed}
use Rattle.up_model.specs.declared.kind.Kind.{Kind}
use Rattle.up_model.specs.declared.kind.Kind.TheVariants.{Source, Sink}
use Rattle.up_model.specs.declared.outcome.Outcome.{Outcome}
use Rattle.up_model.specs.declared.outcome.Outcome.TheVariants as outcomes
use Rattle.up_model.specs.declared.pipe.Pipe.{Pipe}
use Rattle.up_model.specs.declared.tally.Tally.{Tally}
use Rattle.up_outside.proofs.Told.{Then-map, always}
use Rattle.up_outside.specs.States.{DepotState, SourceState, SinkState}
use Rattle.up_outside.specs.declared.asked.Entry.{Entry}
use Rattle.up_outside.specs.declared.asked.Mark.TheVariants as marks

pub not_not : (b : Bool) → not (not b) ≡ b
not_not true = refl
not_not false = refl

mapped_kept : {X : Type 0} (test : X → Bool) (f : ℕ → X) (xs : List ℕ) → length (filter test (map f xs)) ≡ length (filter (λ x. test (f x)) xs)
mapped_kept test f [] = refl
mapped_kept test f (x ∷ xs) = as_kept (test (f x)) (mapped_kept test f xs)
  where
    as_kept : (kept : Bool) → length (filter test (map f xs)) ≡ length (filter (λ x. test (f x)) xs)
        → length (cond kept (f x ∷ filter test (map f xs)) (filter test (map f xs)))
        ≡ length (cond kept (x ∷ filter (λ x. test (f x)) xs) (filter (λ x. test (f x)) xs))
    as_kept true same = ap suc same
    as_kept false same = same

mapped_count : {X : Type 0} (test : X → Bool) (f : ℕ → X) (xs : List ℕ) → count_by test (map f xs) ≡ count_by (λ x. test (f x)) xs
mapped_count test f xs = sym (length-filter test (map f xs)) ∙ mapped_kept test f xs ∙ length-filter (λ x. test (f x)) xs

-- the outcome of a pipe, by whether its open and its close were refused
ending_as : (here refused : Bool) (kind : Kind) → (here ≡ true → refused ≡ false) → (refused ≡ true → is_sink kind ≡ true)
    → outcome_closed refused (cond here (fault_of kind) outcomes.Broken) ≡ cond (here || not (not refused)) (fault_of kind) outcomes.Broken
ending_as true true kind opened sink = absurd (true≢false (opened refl))
ending_as true false kind opened sink = refl
ending_as false true (Sink path form) opened sink = refl
ending_as false true kind opened sink = absurd (let is = sink refl in cc)
ending_as false false kind opened sink = refl

-- a fault of this kind is that of a pipe of such an end
record Tells (is_fault : Outcome → Bool) (is_such : Kind → Bool) : Type 0 where
  pub broken : is_fault outcomes.Broken ≡ false
  pub source : (kind : Kind) → is_source kind ≡ true → is_fault (fault_of kind) ≡ is_such kind
  pub sink : (kind : Kind) → is_sink kind ≡ true → is_fault (fault_of kind) ≡ is_such kind

read_faults : Tells is_read_fault is_source
read_faults = record { broken = refl; source = of_source; sink = of_sink }
  where
    of_source : (kind : Kind) → is_source kind ≡ true → is_read_fault (fault_of kind) ≡ is_source kind
    of_source (Source path form limit) is = refl
    of_source kind is = absurd (cc)

    of_sink : (kind : Kind) → is_sink kind ≡ true → is_read_fault (fault_of kind) ≡ is_source kind
    of_sink (Sink path form) is = refl
    of_sink kind is = absurd (cc)

write_faults : Tells is_write_fault is_sink
write_faults = record { broken = refl; source = of_source; sink = of_sink }
  where
    of_source : (kind : Kind) → is_source kind ≡ true → is_write_fault (fault_of kind) ≡ is_sink kind
    of_source (Source path form limit) is = refl
    of_source kind is = absurd (cc)

    of_sink : (kind : Kind) → is_sink kind ≡ true → is_write_fault (fault_of kind) ≡ is_sink kind
    of_sink (Sink path form) is = refl
    of_sink kind is = absurd (cc)

and_false : (a b : Bool) → b ≡ false → (a && b) ≡ false
and_false true b none = none
and_false false b none = refl

and_true : (a b : Bool) → b ≡ true → (a && b) ≡ a
and_true true b one = one
and_true false b one = refl

has_side : (kind : Kind) → is_some (path_of kind) ≡ true → (is_source kind ≡ true) ⊎ (is_sink kind ≡ true)
has_side (Source path form limit) is = inl refl
has_side (Sink path form) is = inr refl
has_side kind is = absurd (cc)

-- at a place where nothing was opened, and at any other
module _ (is_fault : Outcome → Bool) (is_such : Kind → Bool) (tells : Tells is_fault is_such) (here refused failed : Bool) (same : failed ≡ refused) where
  other_tells : (pipe : Option Pipe) → here ≡ false → ((own : Pipe) → pipe ≡ Some own → refused ≡ true → is_sink own.kind ≡ true)
      → is_fault (option_map_or (λ (own : Pipe). cond (here || not (not refused)) (fault_of own.kind) outcomes.Broken) pipe outcomes.Broken)
      ≡ (option_map_or (λ (own : Pipe). is_such own.kind) pipe false && failed)
  other_tells None apart sink = tells.broken
  other_tells (Some own) apart sink = elim (true_or_false refused) [
    | inl is ↦ rw (apart, is) (tells.sink own.kind (sink own refl is) ∙ sym (and_true (is_such own.kind) failed (same ∙ is)))
    | inr is ↦ rw (apart, is) (tells.broken ∙ sym (and_false (is_such own.kind) failed (same ∙ is)))
  ]

module _ {S K : Type 0} (reads : S → SourceState) (writes : K → SinkState) (pipes : List Pipe) (old mid new : DepotState)
    (place : ℕ) (pipe : Pipe) (is : slice_get pipes place ≡ Some pipe) (opened closed : List (Object S K)) (ends ends_closed : List Outcome)
    (opens : Opens reads writes pipes old mid opened (Refused place))
    (closes : Closes reads writes pipes opens.count mid new opened closed ends ends_closed)
    (are : ends ≡ set (replicate (length pipes) outcomes.Broken) place (fault_of pipe.kind)) where
  abbrev pub shut : ℕ → Bool
  shut other = not (closes.refused other)

  abbrev stands : LeftOpen reads writes pipes opens.count opened opened
  stands = left_alone reads writes pipes opens.count opened opens.there

  count_within : opens.count < length (path_places pipes)
  count_within = slice_get_within (path_places pipes) opens.count place opens.stops

  is_next : get_or (path_places pipes) opens.count 0 ≡ place
  is_next = same_Some _ place (sym (slice_get-get_or (path_places pipes) opens.count 0 count_within) ∙ opens.stops)

  -- nothing was opened at the place
  not_opened : closes.refused place ≡ false
  not_opened = elim (true_or_false (closes.refused place)) [
    | inl refused ↦
        let has = refused_sink reads writes pipes old mid new (Refused place) opened opened closed ends ends_closed opens stands closes place refused in
        let index = index_among pipes opens.count place has.0.among in
        let none : index_of pipes opens.count place ≡ None =
        subst (λ (p : ℕ). index_of pipes opens.count p ≡ None) is_next (index_not_yet pipes opens.count opens.count count_within (omega arith)) in
        absurd (let no : None ≡ Some index.0 = sym none ∙ index.1 in cc)
    | inr fine ↦ fine
  ]

  refused_is_sink : (other : ℕ) (own : Pipe) → slice_get pipes other ≡ Some own → closes.refused other ≡ true → is_sink own.kind ≡ true
  refused_is_sink other own there refused =
      let has = refused_sink reads writes pipes old mid new (Refused place) opened opened closed ends ends_closed opens stands closes other refused in
      subst (λ (p : Pipe). is_sink p.kind ≡ true) (same_Some has.0.pipe own (sym has.0.there ∙ there)) has.1

  failed_if_refused : (other : ℕ) → has_failed reads writes pipes closes.refused opened other ≡ closes.refused other
  failed_if_refused other = ap (λ (faults : ℕ). nat_lt 0 faults || closes.refused other) (opens.fresh.faults other)

  began_as : (k : ℕ) (d : Outcome) (own : Pipe) → k < length pipes → slice_get pipes k ≡ Some own
      → get_or ends k d ≡ cond (k == place) (fault_of own.kind) outcomes.Broken
  began_as k d own within there =
      let broken = replicate (length pipes) outcomes.Broken in
      ap (λ (l : List Outcome). get_or l k d) are
      ∙ elim (eqb_tells k place) [
        | inl here ↦
            let one : own ≡ pipe = same_Some own pipe (sym there ∙ ap (slice_get pipes) here.1 ∙ is) in
            rw (eq-eqb k place here.1, here.1, one)
            (get_or-set_same broken place (fault_of pipe.kind) d (omega (arith, within, here.1, length-replicate (length pipes) outcomes.Broken)))
        | inr apart ↦
            rw (ne_eqb k place apart.1)
            (get_or-set_other broken place k (fault_of pipe.kind) d apart.1 ∙ get_or-replicate (length pipes) k outcomes.Broken d within)
      ]

  endings_as : ends_closed ≡ map (ending_refused pipes place shut) (places pipes)
  endings_as =
      let size = closes.size in
      let first_long : length ends ≡ length pipes =
      ap length are ∙ length-set (replicate (length pipes) outcomes.Broken) place (fault_of pipe.kind) ∙ length-replicate (length pipes) outcomes.Broken in
      let long = length-map-range_with_len (ending_refused pipes place shut) 0 (length pipes) in
      same_lists ends_closed (map (ending_refused pipes place shut) (places pipes)) (omega (arith, size, first_long, long)) (λ k d inside.
      let within : k < length pipes = omega (arith, size, inside, first_long) in
      let own = get_or pipes k pipe in
      let there : slice_get pipes k ≡ Some own = slice_get-get_or pipes k pipe within in
      closes.outcomes k d (omega (arith, size, inside))
      ∙ ap (outcome_closed (closes.refused k)) (began_as k d own within there)
      ∙ ending_as (k == place) (closes.refused k) own.kind (λ here. ap closes.refused (eqb-true k place here) ∙ not_opened) (refused_is_sink k own there)
      ∙ ap (λ (p : Option Pipe). option_map_or (λ (own : Pipe). cond ((k == place) || not (shut k)) (fault_of own.kind) outcomes.Broken) p outcomes.Broken) (sym there)
      ∙ sym (get_or-map-range_with_len (ending_refused pipes place shut) 0 (length pipes) k k d within (omega arith)))

  module _ (is_fault : Outcome → Bool) (is_such : Kind → Bool) (tells : Tells is_fault is_such) where
    abbrev fault_at : ℕ → Bool
    fault_at k = is_fault (ending_refused pipes place shut k)

    abbrev failed_at : ℕ → Bool
    failed_at k = option_map_or (λ (own : Pipe). is_such own.kind) (slice_get pipes k) false && has_failed reads writes pipes closes.refused opened k

    elsewhere_same : (k : ℕ) → k ≢ place → fault_at k ≡ failed_at k
    elsewhere_same k apart =
        other_tells is_fault is_such tells (k == place) (closes.refused k) (has_failed reads writes pipes closes.refused opened k) (failed_if_refused k)
        (slice_get pipes k) (ne_eqb k place apart) (refused_is_sink k)

    not_failed_here : failed_at place ≡ false
    not_failed_here = and_false (option_map_or (λ (own : Pipe). is_such own.kind) (slice_get pipes place) false) _ (failed_if_refused place ∙ not_opened)

    fault_here : fault_at place ≡ is_such pipe.kind
    fault_here =
        let path = path_place_stands pipes opens.count count_within in
        let has : is_some (path_of pipe.kind) ≡ true =
        subst (λ (p : Pipe). is_some (path_of p.kind) ≡ true) (same_Some path.pipe pipe (sym path.there ∙ ap (slice_get pipes) is_next ∙ is)) path.has_path in
        let ends_so : ending_refused pipes place shut place ≡ fault_of pipe.kind = rw (is, eq-eqb place place refl) refl in
        ap is_fault ends_so ∙ elim (has_side pipe.kind has) [
          | inl source ↦ tells.source pipe.kind source
          | inr sink ↦ tells.sink pipe.kind sink
        ]

    counted_as : count_by is_fault ends_closed ≡ count_by fault_at (places pipes)
    counted_as = ap (count_by is_fault) endings_as ∙ mapped_count is_fault (ending_refused pipes place shut) (places pipes)

    counted_so : ◌≡◌ {A = ℕ} (cond (is_refused_as reads writes pipes is_such (Refused place)) 1 0 + count_by failed_at (places pipes)) (count_by is_fault ends_closed)
    counted_so =
        let more = count_one failed_at fault_at place elsewhere_same (length pipes) (slice_get_within pipes place pipe is) not_failed_here in
        let here : is_refused_as reads writes pipes is_such (Refused place) ≡ is_such pipe.kind = rw is refl in
        let refused_so : ◌≡◌ {A = ℕ} (cond (is_refused_as reads writes pipes is_such (Refused place)) 1 0) (cond (fault_at place) 1 0) =
        ap (λ (b : Bool). cond b 1 0) (here ∙ sym fault_here) in
        omega (arith, more, refused_so, counted_as)

  -- each entry of an opened path is closed, with nothing moved
  marked_as : ((other i : ℕ) → index_of pipes opens.count other ≡ Some i → moved_told reads writes (object_at opened other) ≡ Some 0)
      → (other : ℕ) → Contains (take opens.count (path_places pipes)) other
      → closed_mark reads writes pipes closes.refused opened other ≡ marks.Closed 0 (not (shut other)) (shut other)
  marked_as fresh other among =
      let index = index_among pipes opens.count other among in
      ap (λ (n : Option ℕ). marks.Closed (option_map_or (λ n. n) n 0) (has_failed reads writes pipes closes.refused opened other) (shut other))
      (fresh other index.0 index.1)
      ∙ ap (λ (failed : Bool). marks.Closed 0 failed (shut other)) (failed_if_refused other ∙ sym (not_not (closes.refused other)))

  pub stopped_there : IsWellFormed pipes → (tallies : List Tally) → tallies ≡ replicate (length pipes) nothing
      → StoppedThere pipes old new ends_closed tallies
  stopped_there well tallies none = record {
    place = place;
    count = opens.count;
    shut = shut;
    at = opens.stops;
    endings = endings_as;
    shut_else = λ other refused.
        let was : closes.refused other ≡ true = sym (not_not (closes.refused other)) ∙ ap not refused in
        let has = refused_sink reads writes pipes old mid new (Refused place) opened opened closed ends ends_closed opens stands closes other was in (
          has.0.among,
          refused_passes reads writes pipes old mid new (Refused place) opened opened closed ends ends_closed opens stands closes other was,
        );
    entries = Then-map _ _ _ old.asked new.asked (λ x z fresh change.
        change ∙ ap (λ (l : List Entry). x ++ (l ++ entry_at pipes place marks.Refused ∷ []))
        (map_agree (λ other. entry_at pipes other (marks.Closed 0 (not (shut other)) (shut other)))
        (λ other. entry_at pipes other (closed_mark reads writes pipes closes.refused opened other)) (take opens.count (path_places pipes))
        (λ k inside. let other = get_or (take opens.count (path_places pipes)) k 0 in
        ap (entry_at pipes other) (marked_as fresh other (k, inside, get_or_default (take opens.count (path_places pipes)) k other 0 inside)))))
        opens.fresh.moved
        (all_entries reads writes pipes old mid opened opened (Refused place) opens (λ other. refl) new closed ends ends_closed closes);
    empty = Then-map (λ held. Unit {0})
        (λ before after. AllFresh reads writes pipes old mid new (Refused place) opened opened closed ends ends_closed opens stands closes before
        × AllStored reads writes pipes old mid new (Refused place) opened opened closed ends ends_closed opens stands closes after) _
        old.held new.held
        (λ x z any both other own path among there sink fine of.
        let was = sink_stands reads writes pipes opens.count opened opens.there other own there among sink in
        given_lies reads writes x z own.kind (object_at opened other) (object_at opened other) was.0 was.0 [] path was.1 was.1
        (both.0 other own there) (both.1 other own there (not_so (closes.refused other) fine)) (Appends-nil (writes was.0).written) of)
        (always old.held)
        (stored_closed reads writes pipes old mid new (Refused place) opened opened closed ends ends_closed opens stands closes);
    untouched = untouched_closed reads writes pipes old mid new (Refused place) opened opened closed ends ends_closed opens stands closes well;
    sources = subst (λ (n : ℕ). RoseBy n old.source_faults new.source_faults) (counted_so is_read_fault is_source read_faults)
        (source_faults reads writes pipes old mid opened opened (Refused place) opens (λ other. refl) new closed ends ends_closed closes);
    sinks = subst (λ (n : ℕ). RoseBy n old.sink_faults new.sink_faults) (counted_so is_write_fault is_sink write_faults)
        (sink_faults reads writes pipes old mid opened opened (Refused place) opens (λ other. refl) new closed ends ends_closed closes);
    sums = none ∙ splat_is_map (places pipes) (length pipes) nothing (length-range_with_len 0 (length pipes));
  }
