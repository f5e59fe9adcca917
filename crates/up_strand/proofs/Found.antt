-- The first place that passes a test.
use Rattle.std.proofs.Common.{◌≡◌, ℕ, suc, ◌<◌, ◌≤◌, ◌==◌, [], length, get_or, Bool, true, false, not, Option, Some, None, slice_get, refl, sym, ap, ◌∙◌, arith, inl, inr, if◌then◌else◌}
use mathlib.Core.Path.{fun_ext}
use Rattle.std.specs.List.{position, position_or_len, range_with_len}
use Rattle.std.specs.Option.{is_some, option_map_or, option_to_list}
use Rattle.std.proofs.lemmas.Bool.{cases_lt, lt-ltb, le-ltb}
use Rattle.std.proofs.lemmas.Bool.Decides.{leb_tells}
use Rattle.std.proofs.lemmas.List.FromFn.{length-range_with_len, get_or-range_with_len}
use Rattle.std.proofs.lemmas.Option.{get_or_from_slice_get, slice_get_within}
use Rattle.std.proofs.lemmas.List.Sums.{fails_before_first, passes_at_first, position_or_len_is, prefix_len-le-length}
use Rattle.up_strand.specs.Nodes.{is_outlet}
use Rattle.up_strand.specs.Strands.{first_ready, has_item, item_waits, kept_at, place_of, want_of, wants_in}
use Rattle.up_strand.specs.declared.intake.Intake.{Intake}
use Rattle.up_strand.specs.declared.intake.Intake.TheVariants.{FromSource, FromFrames, FromLane}
use Rattle.up_strand.specs.declared.node.Node.{Node}
use Rattle.up_strand.specs.declared.strand.Strand.{Strand}
use Rattle.up_strand.specs.declared.tree.Tree.{Tree}
use Rattle.up_strand.specs.declared.want.Want.TheVariants.{Output, Done}

-- the first number that passes, or how many there are
abbrev pub first_of : (ℕ → Bool) → ℕ → ℕ
first_of test count = option_map_or (λ i. i) (position test (range_with_len 0 count)) count

first_is : (test : ℕ → Bool) (count : ℕ) → first_of test count ≡ position_or_len test (range_with_len 0 count)
first_is test count =
    let first = position_or_len test (range_with_len 0 count) in
    let within : first ≤ length (range_with_len 0 count) = prefix_len-le-length (λ x. not (test x)) (range_with_len 0 count) in
    let long = length-range_with_len 0 count in
    elim (leb_tells (suc first) (length (range_with_len 0 count))) [
      | inl less ↦ rw less.0 refl
      | inr more ↦ rw more.0 (let behind = more.1 in omega (arith, long, within, behind))
    ]

numbered : (test : ℕ → Bool) (count k : ℕ) → k < count → test (get_or (range_with_len 0 count) k 0) ≡ test k
numbered test count k inside = ap test (get_or-range_with_len 0 count k 0 inside ∙ omega arith)

pub first_found : (test : ℕ → Bool) (count i : ℕ) → i ≤ count → ((k : ℕ) → k < i → test k ≡ false) → (i < count → test i ≡ true) → first_of test count ≡ i
first_found test count i within before here =
    let long = length-range_with_len 0 count in
    first_is test count ∙ position_or_len_is test (range_with_len 0 count) i 0 (omega (arith, long, within))
    (λ k below. numbered test count k (omega (arith, within, below)) ∙ before k below)
    (λ inside. let less : i < count = omega (arith, long, inside) in numbered test count i less ∙ here less)

pub first_within : (test : ℕ → Bool) (count : ℕ) → first_of test count ≤ count
first_within test count =
    let is = first_is test count in
    let within = prefix_len-le-length (λ x. not (test x)) (range_with_len 0 count) in
    let long = length-range_with_len 0 count in
    omega (arith, is, within, long)

-- before it none passes
pub before_first : (test : ℕ → Bool) (count k : ℕ) → k < first_of test count → test k ≡ false
before_first test count k below =
    let is = first_is test count in
    let upto = first_within test count in
    sym (numbered test count k (omega (arith, below, upto))) ∙ fails_before_first test (range_with_len 0 count) k 0 (omega (arith, is, below))

-- and it passes itself
pub at_first : (test : ℕ → Bool) (count : ℕ) → first_of test count < count → test (first_of test count) ≡ true
at_first test count inside =
    let is = first_is test count in
    let long = length-range_with_len 0 count in
    sym (numbered test count (first_of test count) inside) ∙ ap (λ (n : ℕ). test (get_or (range_with_len 0 count) n 0)) is
    ∙ passes_at_first test (range_with_len 0 count) 0 (omega (arith, is, long, inside))

-- what is found is the first, or there is none
pub found_is : (test : ℕ → Bool) (count : ℕ) → first_of test count < count → position test (range_with_len 0 count) ≡ Some (first_of test count)
found_is test count inside =
    let is = first_is test count in
    let long = length-range_with_len 0 count in
    rw (is, lt-ltb (position_or_len test (range_with_len 0 count)) (length (range_with_len 0 count)) (omega (arith, is, long, inside))) refl

pub none_is : (test : ℕ → Bool) (count : ℕ) → count ≤ first_of test count → position test (range_with_len 0 count) ≡ None
none_is test count past =
    let is = first_is test count in
    let long = length-range_with_len 0 count in
    rw (le-ltb (position_or_len test (range_with_len 0 count)) (length (range_with_len 0 count)) (omega (arith, is, long, past))) refl

same_either : {X : Type 0} (here : Bool) (kept : Option X) → kept ≡ None → (if here then option_to_list kept else []) ≡ []
same_either true kept none = rw none refl
same_either false kept none = refl

module _ {P S K : Type 0} where
  -- of a strand whose packet that came back is none
  pub nothing_kept : (strand : Strand P S K) (i : ℕ) → strand.kept ≡ None → kept_at strand i ≡ []
  nothing_kept strand i none = same_either (i == strand.ready) strand.kept none

  -- where nothing is kept, what is ready doesn't matter
  wait_same : (a b : Strand P S K) → a.kept ≡ None → b.kept ≡ None → b.ended ≡ a.ended → b.closed ≡ a.closed
      → (i : ℕ) (node : Node P K) → item_waits a i node ≡ item_waits b i node
  wait_same a b none_a none_b ended closed i node = rw (nothing_kept a i none_a, nothing_kept b i none_b, ended, closed) refl

  pub items_wait_same : (a b : Strand P S K) → a.kept ≡ None → b.kept ≡ None → b.tree ≡ a.tree → b.ended ≡ a.ended → b.closed ≡ a.closed
      → (i : ℕ) → has_item a i ≡ has_item b i
  items_wait_same a b none_a none_b tree ended closed i =
      ap (λ (wait : Node P K → Bool). option_map_or wait (slice_get a.tree.nodes.items i) false)
      (fun_ext {f = item_waits a i} {g = item_waits b i} (wait_same a b none_a none_b ended closed i))
      ∙ ap (λ (t : Tree P K). option_map_or (item_waits b i) (slice_get t.nodes.items i) false) (sym tree)

  pub ready_same : (a b : Strand P S K) → a.kept ≡ None → b.kept ≡ None → b.tree ≡ a.tree → b.ended ≡ a.ended → b.closed ≡ a.closed
      → first_ready a ≡ first_ready b
  ready_same a b none_a none_b tree ended closed =
      ap (λ (test : ℕ → Bool). position test (range_with_len 0 (length a.tree.nodes.items)))
      (fun_ext {f = has_item a} {g = has_item b} (items_wait_same a b none_a none_b tree ended closed))
      ∙ ap (λ (t : Tree P K). position (has_item b) (range_with_len 0 (length t.nodes.items))) (sym tree)

  -- nothing waits for a lane at a node that is the end of none
  pub none_inside : (strand : Strand P S K) (i : ℕ)
      → ((d : Node P K) → i < length strand.tree.nodes.items → is_outlet (get_or strand.tree.nodes.items i d).part ≡ false) → has_item strand i ≡ false
  none_inside strand i inner = by_item (slice_get strand.tree.nodes.items i) refl
    where
      by_item : (item : Option (Node P K)) → slice_get strand.tree.nodes.items i ≡ item → option_map_or (item_waits strand i) item false ≡ false
      by_item None there = refl
      by_item (Some node) there =
          let part : is_outlet node.part ≡ false =
          ap (λ (n : Node P K). is_outlet n.part) (sym (get_or_from_slice_get strand.tree.nodes.items i node node there))
          ∙ inner node (slice_get_within strand.tree.nodes.items i node there) in
          rw part refl

  -- what is wanted where an item waits, and where none does
  pub want_there : (strand : Strand P S K) → strand.ready ≡ first_of (has_item strand) (length strand.tree.nodes.items) → strand.ready < length strand.tree.nodes.items
      → want_of strand ≡ Output (place_of strand strand.ready)
  want_there strand is inside =
      ap (λ (found : Option ℕ). option_map_or (λ i. Output (place_of strand i)) found (if is_some strand.ended then Done else wants_in strand strand.intake))
      (found_is (has_item strand) (length strand.tree.nodes.items) (omega (arith, is, inside)))
      ∙ ap (λ (i : ℕ). Output (place_of strand i)) (sym is)

  pub want_none : (strand : Strand P S K) → strand.ready ≡ first_of (has_item strand) (length strand.tree.nodes.items) → length strand.tree.nodes.items ≤ strand.ready
      → want_of strand ≡ (if is_some strand.ended then Done else wants_in strand strand.intake)
  want_none strand is past =
      ap (λ (found : Option ℕ). option_map_or (λ i. Output (place_of strand i)) found (if is_some strand.ended then Done else wants_in strand strand.intake))
      (none_is (has_item strand) (length strand.tree.nodes.items) (omega (arith, is, past)))

  -- where an output is wanted, an item waits at a node
  pub wanted_inside : (strand : Strand P S K) (lane : ℕ) → strand.ready ≡ first_of (has_item strand) (length strand.tree.nodes.items)
      → want_of strand ≡ Output lane → strand.ready < length strand.tree.nodes.items
  wanted_inside strand lane is wants =
      elim (cases_lt strand.ready (length strand.tree.nodes.items)) [
        | inl inside ↦ inside
        | inr past ↦ absurd (nothing_out (is_some strand.ended) strand.intake (sym (want_none strand is past) ∙ wants))
      ]
    where
      nothing_out : (ended : Bool) (intake : Intake S) → (if ended then Done else wants_in strand intake) ≡ Output lane → ⊥
      nothing_out true intake same = cc
      nothing_out false (FromSource source block limit left) same = cc
      nothing_out false (FromFrames frames) same = cc
      nothing_out false FromLane same = cc
