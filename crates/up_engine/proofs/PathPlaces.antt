-- The places of the pipes that have a path: each stands once, and its index is found.
use Rattle.std.proofs.Common.{◌≡◌, ℕ, ◌+◌, ◌-◌, ◌<◌, ◌≤◌, ◌==◌, List, [], ◌∷◌, ◌++◌, length, take, get_or, Bool, true, false, Some, None, slice_get, refl, sym, ap, ◌∙◌, subst, arith, inl, inr}
use Rattle.std.proofs.lemmas.Bool.{cases_lt, cases_order, lt-ltb, le-ltb, ne_eqb, eq-eqb, eqb-true}
use Rattle.std.proofs.lemmas.List.{get_or-take, get_or_append_left, get_or-append_right, length-append, length-take, length_push, take_more}
use Rattle.std.proofs.lemmas.List.Elements.{filter_passes}
use Rattle.std.proofs.lemmas.List.Folds.{position_or_len_push}
use Rattle.std.proofs.lemmas.List.FromFn.{get_or-range_with_len, length-range_with_len}
use Rattle.std.proofs.lemmas.List.Kept.{AllPairs-from_increasing, IsStrictlyIncreasing-filter}
use Rattle.std.proofs.lemmas.List.Quantifiers.{position-Some}
use Rattle.std.proofs.lemmas.List.Sums.{position_or_len_is, prefix_len-le-length}
use Rattle.std.specs.List.{filter, position, position_or_len, range_with_len}
use Rattle.std.specs.List.Sorted.{IsStrictlyIncreasing}
use Rattle.std.specs.Option.{is_some}
use Rattle.up_engine.specs.Entries.{path_places}
use Rattle.up_engine.specs.Objects.{index_of}
use Rattle.up_engine.specs.Parts.{AreApart}
use Rattle.up_model.proofs.Members.{passing_pipe}
use Rattle.up_model.specs.Ends.{is_sink, is_source, path_of}
use Rattle.up_model.specs.Inputs.{PipeTest, ends_at_source, passes_at, places}
use Rattle.up_model.specs.Plans.{ends_at_sink}
use Rattle.up_model.specs.declared.kind.Kind.{Kind}
use Rattle.up_model.specs.declared.kind.Kind.TheVariants.{Source, Sink}
use Rattle.up_model.specs.declared.pipe.Pipe.{Pipe}
use Rattle.up_strand.proofs.Told.{place_found}

row_increases : (n : ℕ) → IsStrictlyIncreasing (range_with_len 0 n)
row_increases n k within =
    let long = length-range_with_len 0 n in
    omega (arith, get_or-range_with_len 0 n k 0 (omega (arith, within, long)), get_or-range_with_len 0 n (k + 1) 0 (omega (arith, within, long)))

pub rising_apart : (xs : List ℕ) → IsStrictlyIncreasing xs → AreApart xs
rising_apart xs rising a b a_within b_within same =
    let rises = AllPairs-from_increasing xs rising in
    elim (cases_order a b) [
      | inl is ↦ is
      | inr (inl below) ↦ absurd (let less = rises a b 0 below b_within in omega (arith, less, same))
      | inr (inr above) ↦ absurd (let less = rises b a 0 above a_within in omega (arith, less, same))
    ]

pub kept_rises : (test : ℕ → Bool) (n : ℕ) → IsStrictlyIncreasing (filter test (range_with_len 0 n))
kept_rises test n = IsStrictlyIncreasing-filter test (range_with_len 0 n) (row_increases n)

pub kept_apart : (test : ℕ → Bool) (n : ℕ) → AreApart (filter test (range_with_len 0 n))
kept_apart test n = rising_apart (filter test (range_with_len 0 n)) (kept_rises test n)

-- so of two lists that have no place in common
both_apart : (xs ys : List ℕ) → AreApart xs → AreApart ys
    → ((a b : ℕ) → a < length xs → b < length ys → get_or xs a 0 ≡ get_or ys b 0 → ⊥) → AreApart (xs ++ ys)
both_apart xs ys xs_apart ys_apart none a b a_within b_within same =
    let long = length-append xs ys in
    let front : (k : ℕ) → k < length xs → get_or (xs ++ ys) k 0 ≡ get_or xs k 0 = λ k within. get_or_append_left xs ys 0 k within in
    let back : (k : ℕ) → length xs ≤ k → get_or (xs ++ ys) k 0 ≡ get_or ys (k - length xs) 0 = λ k behind. get_or-append_right xs ys (length xs) k 0 refl behind in
    elim (cases_lt a (length xs)) [
      | inl a_front ↦ elim (cases_lt b (length xs)) [
        | inl b_front ↦ xs_apart a b a_front b_front (sym (front a a_front) ∙ same ∙ front b b_front)
        | inr b_back ↦ absurd (none a (b - length xs) a_front (omega (arith, b_within, b_back, long)) (sym (front a a_front) ∙ same ∙ back b b_back))
      ]
      | inr a_back ↦ elim (cases_lt b (length xs)) [
        | inl b_front ↦ absurd (none b (a - length xs) b_front (omega (arith, a_within, a_back, long)) (sym (front b b_front) ∙ sym same ∙ back a a_back))
        | inr b_back ↦
            let at = ys_apart (a - length xs) (b - length xs) (omega (arith, a_within, a_back, long)) (omega (arith, b_within, b_back, long))
            (sym (back a a_back) ∙ same ∙ back b b_back) in
            omega (arith, at, a_back, b_back)
      ]
    ]

kept_passes_at : (test : PipeTest) (pipes : List Pipe) (a : ℕ) → a < length (filter (passes_at test pipes) (places pipes))
    → passes_at test pipes (get_or (filter (passes_at test pipes) (places pipes)) a 0) ≡ true
kept_passes_at test pipes a within = filter_passes (passes_at test pipes) (places pipes) a 0 within

not_both : (kind : Kind) → is_source kind ≡ true → is_sink kind ≡ true → ⊥
not_both (Source path form limit) source sink = cc
not_both kind source sink = cc

no_common_place : (pipes : List Pipe) (place : ℕ) → passes_at ends_at_source pipes place ≡ true → passes_at ends_at_sink pipes place ≡ true → ⊥
no_common_place pipes place source sink =
    let one = passing_pipe ends_at_source pipes place source in
    not_both one.0.kind one.2 (rw one.1 at sink)

pub path_places_apart : (pipes : List Pipe) → AreApart (path_places pipes)
path_places_apart pipes =
    both_apart (filter (passes_at ends_at_source pipes) (places pipes)) (filter (passes_at ends_at_sink pipes) (places pipes))
    (kept_apart (passes_at ends_at_source pipes) (length pipes)) (kept_apart (passes_at ends_at_sink pipes) (length pipes))
    (λ a b a_within b_within same.
    no_common_place pipes _ (kept_passes_at ends_at_source pipes a a_within)
    (subst (λ (place : ℕ). passes_at ends_at_sink pipes place ≡ true) (sym same) (kept_passes_at ends_at_sink pipes b b_within)))

source_has_path : (kind : Kind) → is_source kind ≡ true → is_some (path_of kind) ≡ true
source_has_path (Source path form limit) is = refl
source_has_path kind is = absurd (cc)

sink_has_path : (kind : Kind) → is_sink kind ≡ true → is_some (path_of kind) ≡ true
sink_has_path (Sink path form) is = refl
sink_has_path kind is = absurd (cc)

-- a pipe with a path stands at such a place
pub record HasPathAt (pipes : List Pipe) (place : ℕ) : Type 0 where
  pub pipe : Pipe
  pub there : slice_get pipes place ≡ Some pipe
  pub has_path : is_some (path_of pipe.kind) ≡ true

pub path_place_stands : (pipes : List Pipe) (i : ℕ) → i < length (path_places pipes) → HasPathAt pipes (get_or (path_places pipes) i 0)
path_place_stands pipes i within =
    let sources = filter (passes_at ends_at_source pipes) (places pipes) in
    let sinks = filter (passes_at ends_at_sink pipes) (places pipes) in
    let long = length-append sources sinks in
    elim (cases_lt i (length sources)) [
      | inl front ↦
          let is = passing_pipe ends_at_source pipes _ (kept_passes_at ends_at_source pipes i front) in
          rw (get_or_append_left sources sinks 0 i front) (record { pipe = is.0; there = is.1; has_path = source_has_path is.0.kind is.2 })
      | inr back ↦
          let is = passing_pipe ends_at_sink pipes _ (kept_passes_at ends_at_sink pipes (i - length sources) (omega (arith, within, back, long))) in
          rw (get_or-append_right sources sinks (length sources) i 0 refl back) (record { pipe = is.0; there = is.1; has_path = sink_has_path is.0.kind is.2 })
    ]

-- where none passes, none is the first
none_passes : (test : ℕ → Bool) (xs : List ℕ) → ((k : ℕ) → k < length xs → test (get_or xs k 0) ≡ false) → position test xs ≡ None
none_passes test xs fails =
    rw (position_or_len_is test xs (length xs) 0 (omega arith) fails (λ inside. absurd (omega (arith, inside))), le-ltb (length xs) (length xs) (omega arith)) refl

-- one that fails, behind them, changes nothing
position_push : (test : ℕ → Bool) (xs : List ℕ) (x : ℕ) → test x ≡ false → position test (xs ++ x ∷ []) ≡ position test xs
position_push test xs x fails =
    let long = length_push xs x in
    let upto : position_or_len test xs ≤ length xs = prefix_len-le-length _ xs in
    let more = position_or_len_push test xs x in
    elim (cases_lt (position_or_len test xs) (length xs)) [
      | inl found ↦
          let same : position_or_len test (xs ++ x ∷ []) ≡ position_or_len test xs = more ∙ rw (ne_eqb (position_or_len test xs) (length xs) (λ is. omega (arith, is, found))) refl in
          rw (same, lt-ltb (position_or_len test xs) (length (xs ++ x ∷ [])) (omega (arith, found, long)), lt-ltb (position_or_len test xs) (length xs) found) refl
      | inr none ↦
          let all : position_or_len test xs ≡ length xs = omega (arith, upto, none) in
          let past : position_or_len test (xs ++ x ∷ []) ≡ length xs + 1 = more ∙ rw (eq-eqb (position_or_len test xs) (length xs) all, fails) refl in
          rw (past, all, le-ltb (length xs + 1) (length (xs ++ x ∷ [])) (omega (arith, long)), le-ltb (length xs) (length xs) (omega arith)) refl
    ]

module _ (xs : List ℕ) (apart : AreApart xs) (count : ℕ) where
  -- each of the first so many is found where it is
  found_at : (i : ℕ) → i < length xs → i < count → position (λ other. other == get_or xs i 0) (take count xs) ≡ Some i
  found_at i within before =
      let long = length-take count xs in
      let here : (k : ℕ) → k < count → get_or (take count xs) k 0 ≡ get_or xs k 0 = λ k less. get_or-take count xs k 0 less in
      subst (λ (place : ℕ). position (λ other. other == place) (take count xs) ≡ Some i) (here i before)
      (place_found (take count xs) i
      (λ a b a_within b_within same.
      let a_less : a < count = omega (arith, a_within, long) in
      let b_less : b < count = omega (arith, b_within, long) in
      apart a b (omega (arith, a_within, long)) (omega (arith, b_within, long)) (sym (here a a_less) ∙ same ∙ here b b_less))
      (omega (arith, within, before, long)))

  -- and none behind them
  not_yet : (i : ℕ) → i < length xs → count ≤ i → position (λ other. other == get_or xs i 0) (take count xs) ≡ None
  not_yet i within behind =
      none_passes (λ other. other == get_or xs i 0) (take count xs) (λ k inside.
      let long = length-take count xs in
      let less : k < count = omega (arith, inside, long) in
      let here = get_or-take count xs k 0 less in
      ne_eqb (get_or (take count xs) k 0) (get_or xs i 0) (λ same.
      let is = apart k i (omega (arith, inside, long)) within (sym here ∙ same) in omega (arith, is, less, behind)))

  found_is : (place i : ℕ) → position (λ other. other == place) (take count xs) ≡ Some i → (i < count) × (i < length xs) × (get_or xs i 0 ≡ place)
  found_is place i found =
      let long = length-take count xs in
      let is = position-Some (λ other. other == place) (take count xs) i 0 found in
      let less : i < count = omega (arith, is.0, long) in
      (less, omega (arith, is.0, long), sym (get_or-take count xs i 0 less) ∙ eqb-true _ _ is.1)

  -- the index of every other is the same with one more
  same_index : (place : ℕ) → count < length xs → (get_or xs count 0 ≡ place → ⊥)
      → position (λ other. other == place) (take (count + 1) xs) ≡ position (λ other. other == place) (take count xs)
  same_index place within other =
      ap (position (λ other. other == place)) (take_more xs count 0 within)
      ∙ position_push (λ other. other == place) (take count xs) (get_or xs count 0) (ne_eqb (get_or xs count 0) place other)

module _ (pipes : List Pipe) (count : ℕ) where
  pub index_at : (i : ℕ) → i < length (path_places pipes) → i < count → index_of pipes count (get_or (path_places pipes) i 0) ≡ Some i
  index_at = found_at (path_places pipes) (path_places_apart pipes) count

  pub index_not_yet : (i : ℕ) → i < length (path_places pipes) → count ≤ i → index_of pipes count (get_or (path_places pipes) i 0) ≡ None
  index_not_yet = not_yet (path_places pipes) (path_places_apart pipes) count

  pub index_is : (place i : ℕ) → index_of pipes count place ≡ Some i
      → (i < count) × (i < length (path_places pipes)) × (get_or (path_places pipes) i 0 ≡ place)
  index_is = found_is (path_places pipes) (path_places_apart pipes) count

  pub index_same : (place : ℕ) → count < length (path_places pipes) → (get_or (path_places pipes) count 0 ≡ place → ⊥)
      → index_of pipes (count + 1) place ≡ index_of pipes count place
  index_same = same_index (path_places pipes) (path_places_apart pipes) count

-- the next of these places, where they are a list of their own
module _ (pipes : List Pipe) (order : List ℕ) (i place : ℕ) (is : order ≡ path_places pipes) (at : place ≡ get_or order i 0) where
  pub next_place : get_or (path_places pipes) i 0 ≡ place
  next_place = ap (λ (l : List ℕ). get_or l i 0) (sym is) ∙ sym at

  pub next_has_path : i < length order → HasPathAt pipes place
  next_has_path within = subst (HasPathAt pipes) next_place (path_place_stands pipes i (omega (arith, within, ap length is)))
