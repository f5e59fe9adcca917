-- Places of attributes in a run, and the bytes at which they begin.
use Rattle.std.proofs.Common.{◌≡◌, ℕ, suc, ◌+◌, ◌<◌, ◌≤◌, List, [], ◌∷◌, ◌++◌, length, take, drop, get_or, inl, inr, refl, sym, ap, ◌∙◌, subst, arith, length-append, length-drop}
use Rattle.std.proofs.lemmas.Bool.{cases_lt}
use Rattle.std.proofs.lemmas.Grind.{flat_map-append}
use Rattle.std.proofs.lemmas.List.{take_at, drop_at, take-append-drop, take_more, drop_all, append-nil, get_or_default}
use Rattle.std.proofs.lemmas.List.Elements.{AllWithin-none, AllWithin-more}
use Rattle.std.proofs.Math.Seq.{drop-cons}
use Rattle.std.specs.Ordering.{nat_cmp, ordering_index}
use Rattle.std.specs.Cmp.Lexicographic.{slice_cmp, nat_list_cmp_total}
use Rattle.std.specs.List.{AllWithin, HoldsAt}
use Rattle.std.specs.List.Sorted.{IsNonDecreasingBy, IsPartitionPoint}
use Rattle.std.specs.declared.cmp.Ordering.{Ordering}
use Rattle.std.specs.declared.cmp.Ordering.TheVariants.{Less, Equal, Greater}
use Rattle.up_model.proofs.SortedEntries.{searchable}
use Rattle.up_model.specs.declared.value.Value.TheVariants.{Void}
use Rattle.up_dict.proofs.ReadBack.{first_reads, first_size_reads, first_value_reads, first_within}
use Rattle.up_dict.specs.Held.{Spells}
use Rattle.up_dict.specs.Places.{HasFirst, StandBefore}
use Rattle.up_dict.specs.Reading.{first_name, first_size, first_value}
use Rattle.up_dict.specs.Spelling.{Attr, attr_bytes, spelled}

-- what a read past the end gives
abbrev pub no_attr : Attr
no_attr = ([], Void)

abbrev pub by_name : List ℕ → List ℕ → Ordering
by_name = slice_cmp nat_cmp

pub none_before : (attrs : List Attr) → StandBefore attrs 0 0
none_before attrs = record { within = omega arith; bytes = refl }

module _ (attrs : List Attr) (run : List ℕ) (spells : Spells attrs run) (place byte : ℕ) (before : StandBefore attrs place byte) where
  in_two : spelled (take place attrs) ++ spelled (drop place attrs) ≡ run
  in_two =
      sym (flat_map-append attr_bytes (take place attrs) (drop place attrs))
      ∙ ap spelled (take-append-drop place attrs) ∙ spells.bytes

  pub front_is : take byte run ≡ spelled (take place attrs)
  front_is = ap (take byte) (sym in_two) ∙ take_at (spelled (take place attrs)) (spelled (drop place attrs)) byte before.bytes

  pub back_is : drop byte run ≡ spelled (drop place attrs)
  back_is = ap (drop byte) (sym in_two) ∙ drop_at (spelled (take place attrs)) (spelled (drop place attrs)) byte before.bytes

  pub byte_within : byte ≤ length run
  byte_within =
      omega (arith, before.bytes, ap length in_two, length-append (spelled (take place attrs)) (spelled (drop place attrs)))

  pub first_here : place < length attrs → HasFirst (drop byte run)
  first_here within = record {
    attr = get_or attrs place no_attr;
    rest = spelled (drop (suc place) attrs);
    legal = spells.legal place no_attr within;
    bytes = ap spelled (sym (drop-cons attrs place no_attr within)) ∙ sym back_is;
  }

  pub name_here : (within : place < length attrs) → first_name (drop byte run) ≡ (get_or attrs place no_attr).0
  unfolding first_here
  name_here within = (first_reads (drop byte run) (first_here within)).name

  pub value_here : (within : place < length attrs) → first_value (drop byte run) ≡ (get_or attrs place no_attr).1
  unfolding first_here
  value_here within =
      let attr = get_or attrs place no_attr in
      first_value_reads (drop byte run) attr (spells.legal place no_attr within) (first_reads (drop byte run) (first_here within))

  pub size_here : (within : place < length attrs) → first_size (drop byte run) ≡ length (attr_bytes (get_or attrs place no_attr))
  unfolding first_here
  size_here within = first_size_reads (drop byte run) (get_or attrs place no_attr) (first_reads (drop byte run) (first_here within))

  -- before the end of the bytes stands an attribute
  pub inside : byte < length run → place < length attrs
  inside short =
      elim (cases_lt place (length attrs)) [
        | inl within ↦ within
        | inr past ↦
            let none : drop byte run ≡ [] = back_is ∙ ap spelled (drop_all place attrs past) in
            absurd (omega (arith, ap length none, length-drop byte run))
      ]

  -- at the end of the bytes stands none
  pub all_before : length run ≤ byte → place ≡ length attrs
  all_before past =
      elim (cases_lt place (length attrs)) [
        | inl within ↦ absurd (omega (arith, first_within (drop byte run) (first_here within), length-drop byte run))
        | inr at_end ↦ omega (arith, before.within)
      ]

  -- behind the attribute one more stands before
  pub one_further : place < length attrs → StandBefore attrs (place + 1) (byte + first_size (drop byte run))
  one_further within =
      let attr = get_or attrs place no_attr in
      let more : spelled (take (place + 1) attrs) ≡ spelled (take place attrs) ++ spelled (attr ∷ []) =
      ap spelled (take_more attrs place no_attr within) ∙ flat_map-append attr_bytes (take place attrs) (attr ∷ []) in
      let last : spelled (attr ∷ []) ≡ attr_bytes attr = append-nil (attr_bytes attr) in
      record {
        within = omega arith;
        bytes = rw (more, last) (omega (arith, length-append (spelled (take place attrs)) (attr_bytes attr), before.bytes, size_here within));
      }

-- the names before the place are less
pub record Passed (attrs : List Attr) (name : List ℕ) (byte : ℕ) : Type 0 where
  pub place : ℕ
  pub before : StandBefore attrs place byte
  pub less : AllWithin (λ attr. by_name attr.0 name ≡ Less) attrs 0 place

pub none_passed : (attrs : List Attr) (name : List ℕ) → Passed attrs name 0
none_passed attrs name = record { place = 0; before = none_before attrs; less = AllWithin-none (λ attr. by_name attr.0 name ≡ Less) attrs 0 }

last : (order : Ordering) → ordering_index Greater ≤ ordering_index order → order ≡ Greater
last Less high = absurd (omega arith)
last Equal high = absurd (omega arith)
last Greater high = refl

module _ (attrs : List Attr) (run name : List ℕ) (spells : Spells attrs run) (byte : ℕ) (passed : Passed attrs name byte) (short : byte < length run) where
  within : passed.place < length attrs
  within = inside attrs run spells passed.place byte passed.before short

  -- how the name at the place compares, whatever a read past the end gives
  compares_here : (order : Ordering) → by_name (first_name (drop byte run)) name ≡ order → HoldsAt (λ attr. by_name attr.0 name ≡ order) attrs passed.place
  compares_here order is d =
      let here = name_here attrs run spells passed.place byte passed.before within in
      ap (λ (attr : Attr). by_name attr.0 name) (get_or_default attrs passed.place d no_attr within)
      ∙ ap (λ first. by_name first name) (sym here) ∙ is

  pub first_there : HasFirst (drop byte run)
  first_there = first_here attrs run spells passed.place byte passed.before within

  pub passed_more : by_name (first_name (drop byte run)) name ≡ Less → Passed attrs name (byte + first_size (drop byte run))
  passed_more is = record {
    place = passed.place + 1;
    before = one_further attrs run spells passed.place byte passed.before within;
    less = AllWithin-more (λ attr. by_name attr.0 name ≡ Less) attrs 0 passed.place passed.less (compares_here Less is);
  }

  pub found_here : by_name (first_name (drop byte run)) name ≡ Equal → HoldsAt (λ attr. by_name attr.0 name ≡ Equal) attrs passed.place
  found_here is = compares_here Equal is

  pub gap_here : by_name (first_name (drop byte run)) name ≡ Greater
      → IsPartitionPoint (λ attr. by_name attr.0 name ≡ Less) (λ attr. by_name attr.0 name ≡ Greater) attrs passed.place
  gap_here is =
      let rises : IsNonDecreasingBy (λ attr. ordering_index (by_name attr.0 name)) attrs = searchable nat_list_cmp_total attrs name spells.order in (
        passed.less,
        λ k d from below.
            last _ (subst (λ order. ordering_index order ≤ ordering_index (by_name (get_or attrs k d).0 name)) (compares_here Greater is d) (rises passed.place k d from below)),
      )

-- where all are passed the name is missing
pub gap_at_end : (attrs : List Attr) (run name : List ℕ) (spells : Spells attrs run) (byte : ℕ) (passed : Passed attrs name byte) → length run ≤ byte
    → IsPartitionPoint (λ attr. by_name attr.0 name ≡ Less) (λ attr. by_name attr.0 name ≡ Greater) attrs passed.place
gap_at_end attrs run name spells byte passed past =
    let all = all_before attrs run spells passed.place byte passed.before past in
    (passed.less, λ k d from below. absurd (omega arith))
