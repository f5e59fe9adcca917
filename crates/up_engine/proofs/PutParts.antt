-- The sinks of a strand, taken out of the table and put back one after the other.
use Rattle.std.proofs.Common.{◌≡◌, ℕ, suc, ◌+◌, ◌<◌, ◌≤◌, List, [], ◌∷◌, ◌++◌, length, take, get_or, set, Bool, true, false, Option, Some, slice_get, refl, sym, ap, ◌∙◌, subst, arith, inl, inr}
use Rattle.std.specs.List.{Contains, filter}
use Rattle.std.specs.Option.{option_map_or}
use Rattle.std.proofs.lemmas.Bool.{cases_Bool, cases_lt}
use Rattle.std.proofs.lemmas.List.{append-nil, append_assoc, get_or-take, get_or_default, get_or_append_left, get_or_push, length-append, length-set, length-take, length_push, nil_from_length, set-set, take_all, take_more}
use Rattle.std.proofs.lemmas.List.Concat.{flat_map-append}
use Rattle.std.proofs.lemmas.List.Elements.{Contains-append_left, Contains-push}
use Rattle.std.proofs.lemmas.Option.{get_or_from_slice_get, slice_get_within}
use Rattle.up_engine.proofs.Opened.{put_elsewhere, put_here}
use Rattle.up_engine.specs.Objects.{object_at}
use Rattle.up_engine.specs.Parts.{AreApart, HasSinkWhere, PutsNext, SinksPut, SinksTaken, sinks_at, sinks_in, without_sink}
use Rattle.up_engine.specs.declared.object.Object.{Object}
use Rattle.up_engine.specs.declared.object.Object.TheVariants as objects
use Rattle.up_model.specs.Ends.{is_sink}
use Rattle.up_model.specs.Inputs.{passes_at}
use Rattle.up_model.specs.Plans.{ends_at_sink}
use Rattle.up_model.specs.declared.pipe.Pipe.{Pipe}
use Rattle.up_strand.proofs.Begun.{fewer_before}

-- the place of a number in a list, behind those before it
pub record IsNext (places : List ℕ) (i place : ℕ) : Type 0 where
  pub within : i < length places
  pub here : get_or places i 0 ≡ place
  pub more : take (i + 1) places ≡ take i places ++ place ∷ []
  pub fresh : Contains (take i places) place → ⊥

not_before : (places : List ℕ) (i place : ℕ) → AreApart places → i < length places → get_or places i 0 ≡ place → Contains (take i places) place → ⊥
not_before places i place apart within here there =
    let long = length-take i places in
    let below = there.1 in
    let less : there.0 < i = omega (arith, below, long) in
    let early : there.0 < length places = omega (arith, below, long) in
    let same = apart there.0 i early within
    (get_or_default places there.0 0 place early ∙ sym (get_or-take i places there.0 place less) ∙ there.2 ∙ sym here) in
    omega (arith, same, less)

pub next_place : (places : List ℕ) (i x place : ℕ) → AreApart places → slice_get places i ≡ Some x → place ≡ x → IsNext places i place
next_place places i x place apart there is =
    let within = slice_get_within places i x there in
    let here : get_or places i 0 ≡ place = get_or_from_slice_get places i x 0 there ∙ sym is in
    record {
      within = within;
      here = here;
      more = take_more places i 0 within ∙ ap (λ p. take i places ++ p ∷ []) here;
      fresh = not_before places i place apart within here;
    }

-- what is so of each place, and of one more
pub all_next : (R : ℕ → Type 0) (places : List ℕ) (place : ℕ) → ((k : ℕ) → k < length places → R (get_or places k 0)) → R place
    → (k : ℕ) → k < length (places ++ place ∷ []) → R (get_or (places ++ place ∷ []) k 0)
all_next R places place each one k below =
    let long = length_push places place in
    elim (cases_lt k (length places)) [
      | inl before ↦ subst R (sym (get_or_append_left places (place ∷ []) 0 k before)) (each k before)
      | inr after ↦ subst R (sym (get_or_push places place 0 k (omega (arith, after, below, long)))) one
    ]

pub none_of_both : (places : List ℕ) (place other : ℕ) → (Contains (places ++ place ∷ []) other → ⊥) → (Contains places other → ⊥) × (other ≡ place → ⊥)
none_of_both places place other not = (
  λ there. not (Contains-append_left places (place ∷ []) other there),
  λ same. not (subst (Contains (places ++ place ∷ [])) (sym same) (Contains-push places place)),
)

pub differs : (olds : List ℕ) (place : ℕ) → (Contains olds place → ⊥) → (k : ℕ) → k < length olds → get_or olds k 0 ≡ place → ⊥
differs olds place fresh k below same = fresh (k, below, get_or_default olds k place 0 below ∙ same)

pub is_sink_there : (pipes : List Pipe) (place : ℕ) (pipe : Pipe) → slice_get pipes place ≡ Some pipe → passes_at ends_at_sink pipes place ≡ is_sink pipe.kind
is_sink_there pipes place pipe there = ap (λ (p : Option Pipe). option_map_or (λ (pipe : Pipe). is_sink pipe.kind) p false) there

module _ {S K : Type 0} where
  -- an object that was taken out and put back, but for what was kept of it
  pub put_again : (table new : List (Object S K)) (place : ℕ) (x e was object : Object S K) (left : Object S K → Object S K) → place < length table
      → new ≡ set (set table place x) place object → was ≡ get_or table place e → was ≡ object → left object ≡ object → new ≡ set table place (left (object_at table place))
  put_again table new place x e was object left within is at same keeps =
      let there : object_at table place ≡ object = get_or_default table place objects.None e within ∙ sym at ∙ same in
      is ∙ set-set table place x object ∙ ap (set table place) (sym keeps ∙ ap left (sym there))

  one_at_most : (object : Object S K) → length (sinks_in object) ≤ 1
  one_at_most objects.None = omega arith
  one_at_most (objects.Source s) = omega arith
  one_at_most (objects.Sink k) = omega arith

  pub few_sinks : (table : List (Object S K)) (places : List ℕ) → length (sinks_at table places) ≤ length places
  few_sinks table [] = omega arith
  few_sinks table (place ∷ places) =
      omega (arith, few_sinks table places, one_at_most (object_at table place), length-append (sinks_in (object_at table place)) (sinks_at table places))

  -- the sinks at places of two tables, where at each place the same stands
  pub same_sinks : (a b : List (Object S K)) (places : List ℕ)
      → ((k : ℕ) → k < length places → sinks_in (object_at a (get_or places k 0)) ≡ sinks_in (object_at b (get_or places k 0)))
      → sinks_at a places ≡ sinks_at b places
  same_sinks a b [] same = refl
  same_sinks a b (place ∷ places) same =
      ap (λ l. l ++ sinks_at a places) (same 0 (omega arith))
      ∙ ap (λ l. sinks_in (object_at b place) ++ l) (same_sinks a b places (λ k below. same (suc k) (omega (arith, below))))

  sinks_push : (table : List (Object S K)) (places : List ℕ) (place : ℕ) → sinks_at table (places ++ place ∷ []) ≡ sinks_at table places ++ sinks_in (object_at table place)
  sinks_push table places place = flat_map-append (λ place. sinks_in (object_at table place)) places (place ∷ [])
      ∙ ap (λ l. sinks_at table places ++ l) (append-nil (sinks_in (object_at table place)))

  -- so many of the places have their sinks, and these are left
  pub record SinksUpto (pipes : List Pipe) (places : List ℕ) (before now : List (Object S K)) (sinks rest : List K) : Type 0 where
    pub given : sinks ≡ sinks_at now places ++ rest
    pub size : length now ≡ length before
    pub here : (k : ℕ) → k < length places
        → HasSinkWhere (passes_at ends_at_sink pipes (get_or places k 0)) (object_at before (get_or places k 0)) (object_at now (get_or places k 0))
    pub others : (place : ℕ) → (Contains places place → ⊥) → object_at now place ≡ object_at before place

  pub none_taken : (table : List (Object S K)) → SinksTaken [] table table
  none_taken table = record { size = refl; here = λ k below. absurd (omega (arith, below)); others = λ place not. refl }

  module _ (olds : List ℕ) (place : ℕ) (fresh : Contains olds place → ⊥) where
    -- one more sink was taken out
    pub taken_next : (before now : List (Object S K)) → SinksTaken olds before now → place < length before
        → SinksTaken (olds ++ place ∷ []) before (set now place (without_sink (object_at now place)))
    taken_next before now taken room =
        let new = set now place (without_sink (object_at now place)) in
        let size = taken.size in
        record {
          size = length-set now place (without_sink (object_at now place)) ∙ size;
          here = all_next (λ p. object_at new p ≡ without_sink (object_at before p)) olds place
              (λ k below. put_elsewhere now place (get_or olds k 0) _ (differs olds place fresh k below) ∙ taken.here k below)
              (put_here now place place _ (omega (arith, room, size)) refl ∙ ap without_sink (taken.others place fresh));
          others = λ other not.
              let apart_from = none_of_both olds place other not in
              put_elsewhere now place other _ apart_from.1 ∙ taken.others other apart_from.0;
        }

    pub given_next : (before now : List (Object S K)) (items : List K) → SinksTaken olds before now → items ≡ sinks_at before olds
        → items ++ sinks_in (object_at now place) ≡ sinks_at before (olds ++ place ∷ [])
    given_next before now items taken given =
        ap (λ l. l ++ sinks_in (object_at now place)) given
        ∙ ap (λ (o : Object S K). sinks_at before olds ++ sinks_in o) (taken.others place fresh)
        ∙ sym (sinks_push before olds place)

    -- one more sink was put in, where one is to stand there
    module _ (pipes : List Pipe) (before now new : List (Object S K)) (sinks rest left : List K)
        (so_far : SinksUpto pipes olds before now sinks rest) (next : PutsNext (passes_at ends_at_sink pipes place) place now new rest left) where
      old_same : (k : ℕ) → k < length olds → object_at new (get_or olds k 0) ≡ object_at now (get_or olds k 0)
      old_same k below = next.others (get_or olds k 0) (differs olds place fresh k below)

      still : object_at now place ≡ object_at before place
      still = so_far.others place fresh

      sinks_next : (is : Bool) → passes_at ends_at_sink pipes place ≡ is → sinks_in (object_at before place) ≡ [] → rest ≡ sinks_in (object_at new place) ++ left
      sinks_next true is none = let one = next.sink is in one.2 ∙ ap (λ (o : Object S K). sinks_in o ++ left) (sym one.1)
      sinks_next false is none = let same = next.none is in sym same.1 ∙ ap (λ l. l ++ left) (sym (ap sinks_in (same.0 ∙ still) ∙ none))

      here_next : (is : Bool) → passes_at ends_at_sink pipes place ≡ is → HasSinkWhere is (object_at before place) (object_at new place)
      here_next true is = let one = next.sink is in (one.0, one.1)
      here_next false is = (next.none is).0 ∙ still

      pub put_next : sinks_in (object_at before place) ≡ [] → SinksUpto pipes (olds ++ place ∷ []) before new sinks left
      put_next none = record {
        given = so_far.given ∙ ap (λ l. sinks_at now olds ++ l) (sinks_next (passes_at ends_at_sink pipes place) refl none)
            ∙ ap (λ l. l ++ (sinks_in (object_at new place) ++ left)) (sym (same_sinks new now olds (λ k below. ap sinks_in (old_same k below))))
            ∙ sym (append_assoc (sinks_at new olds) (sinks_in (object_at new place)) left)
            ∙ ap (λ l. l ++ left) (sym (sinks_push new olds place));
        size = next.size ∙ so_far.size;
        here = all_next (λ p. HasSinkWhere (passes_at ends_at_sink pipes p) (object_at before p) (object_at new p)) olds place
            (λ k below. subst (HasSinkWhere (passes_at ends_at_sink pipes (get_or olds k 0)) (object_at before (get_or olds k 0))) (sym (old_same k below)) (so_far.here k below))
            (here_next (passes_at ends_at_sink pipes place) refl);
        others = λ other not.
            let apart_from = none_of_both olds place other not in
            next.others other apart_from.1 ∙ so_far.others other apart_from.0;
      }

  -- as many sinks stand there as are to
  pub sink_count : (pipes : List Pipe) (places : List ℕ) (before now : List (Object S K))
      → ((k : ℕ) → k < length places → HasSinkWhere (passes_at ends_at_sink pipes (get_or places k 0)) (object_at before (get_or places k 0)) (object_at now (get_or places k 0)))
      → ((k : ℕ) → k < length places → sinks_in (object_at before (get_or places k 0)) ≡ [])
      → length (sinks_at now places) ≡ length (filter (passes_at ends_at_sink pipes) places)
  sink_count pipes [] before now here none = refl
  sink_count pipes (place ∷ places) before now here none =
      let rest = sink_count pipes places before now (λ k below. here (suc k) (omega (arith, below))) (λ k below. none (suc k) (omega (arith, below))) in
      let first = here 0 (omega arith) in
      elim (cases_Bool (passes_at ends_at_sink pipes place)) [
        | inl is ↦
            let one = subst (λ (b : Bool). HasSinkWhere b (object_at before place) (object_at now place)) is first in
            rw (is, one.1) (ap suc rest)
        | inr not ↦
            let same = subst (λ (b : Bool). HasSinkWhere b (object_at before place) (object_at now place)) not first in
            rw (not, same, none 0 (omega arith)) rest
      ]

  module _ (pipes : List Pipe) (places : List ℕ) (before now : List (Object S K)) (sinks rest : List K)
      (none : (k : ℕ) → k < length places → sinks_in (object_at before (get_or places k 0)) ≡ [])
      (count : length sinks ≡ length (filter (passes_at ends_at_sink pipes) places)) where
    first_none : (i : ℕ) → (k : ℕ) → k < length (take i places) → sinks_in (object_at before (get_or (take i places) k 0)) ≡ []
    first_none i k below =
        let long = length-take i places in
        subst (λ (p : ℕ). sinks_in (object_at before p) ≡ []) (sym (get_or-take i places k 0 (omega (arith, below, long)))) (none k (omega (arith, below, long)))

    -- a sink is left for the next place that is to have one
    pub sink_waits : (i place : ℕ) → IsNext places i place → SinksUpto pipes (take i places) before now sinks rest → passes_at ends_at_sink pipes place ≡ true
        → 0 < length rest
    sink_waits i place next so_far is =
        let fewer = fewer_before (passes_at ends_at_sink pipes) places i next.within (ap (passes_at ends_at_sink pipes) next.here ∙ is) in
        let given = ap length so_far.given in
        omega (arith, fewer, given, count, length-append (sinks_at now (take i places)) rest, sink_count pipes (take i places) before now so_far.here (first_none i))

    -- none is left at the end
    pub sinks_end : (i : ℕ) → length places ≤ i → SinksUpto pipes (take i places) before now sinks rest → (rest ≡ []) × SinksPut pipes places before now sinks
    sinks_end i all so_far =
        let whole = subst (λ (ps : List ℕ). SinksUpto pipes ps before now sinks rest) (take_all i places all) so_far in
        let given = ap length whole.given in
        let nothing : rest ≡ [] = nil_from_length rest (omega (arith, given, count, length-append (sinks_at now places) rest, sink_count pipes places before now whole.here none)) in (
          nothing,
          record {
            are = whole.given ∙ ap (λ l. sinks_at now places ++ l) nothing ∙ append-nil (sinks_at now places);
            size = whole.size;
            here = whole.here;
            others = whole.others;
          },
        )
