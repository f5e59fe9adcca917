-- The lanes that a strand fills: the head's own isn't among them, and those of its pipes aren't either.
use Rattle.std.proofs.Common.{◌≡◌, ◌≢◌, ℕ, zero, suc, ◌+◌, ◌-◌, ◌<◌, ◌≤◌, ◌==◌, cond, ltb, List, ◌++◌, length, get_or, Option, Some, None, slice_get, Bool, true, false, ◌||◌, ◌&&◌, not, refl, ap, sym, ◌∙◌, subst, arith, inl, inr, eq-eqb}
use Rattle.std.specs.List.{AllPairs, Contains, filter, position, position_or_len}
use Rattle.std.specs.Option.{is_some, option_map_or}
use Rattle.std.specs.Prelude.{option_and_then}
use Rattle.std.proofs.lemmas.Bool.{cases_Bool, cases_lt, lt-ltb}
use Rattle.std.proofs.lemmas.Bool.Decides.{Decides-eqb}
use Rattle.std.proofs.lemmas.List.Elements.{Contains-get_or}
use Rattle.std.proofs.lemmas.List.FromFn.{length-range_with_len, get_or-range_with_len}
use Rattle.std.proofs.lemmas.List.Kept.{AllPairs-filter}
use Rattle.std.proofs.lemmas.List.Quantifiers.{position-Some}
use Rattle.std.proofs.lemmas.List.Sums.{fails_before_first}
use Rattle.std.proofs.lemmas.List.{get_or_append_left, get_or-append_right, length-append}
use Rattle.std.proofs.lemmas.Option.{same_Some, slice_get_cases, slice_get_within}
use Rattle.up_model.proofs.Members.{kept_passes, kept_was_there, passing_pipe}
use Rattle.up_model.proofs.Steps.{step_of, step_more}
use Rattle.up_model.proofs.WellFormed.{comes_to_source, is_pipe}
use Rattle.up_model.specs.Ends.{is_source}
use Rattle.up_model.specs.Inputs.{ends_at_source, input_at, passes_at, places, reached_within}
use Rattle.up_model.specs.Plans.{changes_worker, head_of, heads, is_fed, is_head, is_in_strand, lanes, outlets_of, strand_of, takes_of}
use Rattle.up_model.specs.WellFormed.{IsWellFormed}
use Rattle.up_model.specs.declared.pipe.Pipe.{Pipe}
use Rattle.up_plan.proofs.Lanes.{filter_twice}
use Rattle.up_plan.proofs.OneStrand.{in_strand, own_head, same_head, strand_has}
use Rattle.up_strand.specs.Shapes.{input_among}

not_true : (a b : Bool) → (a || b) ≡ false → a ≡ false
not_true true b is = absurd (cc)
not_true false b is = refl

none_before : (n len : ℕ) → cond (ltb n len) (Some n) None ≡ None → len ≤ n
none_before n len none = elim (cases_lt n len) [
  | inl within ↦ absurd (let some : Some n ≡ None = rw (lt-ltb n len within) at none in cc)
  | inr beyond ↦ beyond
]

module _ (own : List ℕ) (place : ℕ) where
  abbrev is_it : ℕ → Bool
  is_it other = other == place

  number_of : (found : Option ℕ) → position is_it own ≡ found → Contains own place → (k : ℕ) × (position is_it own ≡ Some k)
  number_of (Some k) some there = (k, some)
  number_of None none there =
      let far : length own ≤ position_or_len is_it own = none_before _ _ none in
      let fails : is_it (get_or own there.0 place) ≡ false = fails_before_first is_it own there.0 place (omega (arith, far, there.1)) in
      let passes : is_it (get_or own there.0 place) ≡ true = eq-eqb _ _ there.2 in
      absurd (let wrong : true ≡ false = sym passes ∙ fails in cc)

  -- a place in a list has its number there
  pub place_found : Contains own place → (k : ℕ) × (position (λ other. other == place) own ≡ Some k)
  place_found there = number_of (position is_it own) refl there

-- it stands at its number
pub found_place : (own : List ℕ) (place k d : ℕ) → position (λ other. other == place) own ≡ Some k → (k < length own) × (get_or own k d ≡ place)
found_place own place k d found =
    let at = position-Some (λ other. other == place) own k d found in (at.0, (Decides-eqb (get_or own k d) place).0 at.1)

module _ (pipes : List Pipe) where
  -- places in file order
  rising_places : AllPairs (λ x y. x < y) (places pipes)
  rising_places i j d before within =
      let count = length-range_with_len 0 (length pipes) in
      omega (arith, before, get_or-range_with_len 0 (length pipes) i d (omega (arith, before, within, count)), get_or-range_with_len 0 (length pipes) j d (omega (arith, within, count)))

  pub rising_outlets : (head : ℕ) → AllPairs (λ x y. x < y) (outlets_of pipes head)
  rising_outlets head =
      AllPairs-filter (λ x y. x < y) (passes_at (takes_of head) pipes) (lanes pipes)
      (AllPairs-filter (λ x y. x < y) (passes_at is_fed pipes) (heads pipes)
      (AllPairs-filter (λ x y. x < y) (passes_at is_head pipes) (places pipes) rising_places))

  module _ (well : IsWellFormed pipes) where
    -- a source takes from none
    source_takes_none : (place input : ℕ) (pipe : Pipe) → slice_get pipes place ≡ Some pipe → is_source pipe.kind ≡ true → pipe.input ≡ Some input → ⊥
    source_takes_none place input pipe there is takes =
        let none : is_some pipe.input ≡ not (is_source pipe.kind) = (is_pipe pipes well place pipe there).input in
        let wrong : true ≡ false = rw (takes, is) at none in
        cc

    -- the way from a place to a source leads through its head
    pub through_head : (steps more place head source : ℕ) → reached_within steps is_head pipes place ≡ Some head
        → reached_within more ends_at_source pipes place ≡ Some source → reached_within more ends_at_source pipes head ≡ Some source
    through_head zero more place head source is comes = absurd (cc)
    through_head (suc steps) zero place head source is comes = absurd (cc)
    through_head (suc steps) (suc more) place head source is comes =
        let step = step_of is_head pipes steps place head is in
        elim step.way [
          | inl here ↦ subst (λ (p : ℕ). reached_within (suc more) ends_at_source pipes p ≡ Some source) here.1 comes
          | inr further ↦
              let on = step_of ends_at_source pipes more place source comes in
              let same : step.pipe ≡ on.pipe = same_Some step.pipe on.pipe (sym step.at ∙ on.at) in
              elim on.way [
                | inl source_here ↦
                    let fails : is_source step.pipe.kind ≡ false = not_true (is_source step.pipe.kind) (changes_worker pipes step.pipe) further.0 in
                    let passes : is_source step.pipe.kind ≡ true = ap (λ (p : Pipe). is_source p.kind) same ∙ source_here.0 in
                    absurd (let wrong : true ≡ false = sym passes ∙ fails in cc)
                | inr beyond ↦
                    let input : further.1 ≡ beyond.1 = same_Some further.1 beyond.1 (sym further.2 ∙ ap (λ (p : Pipe). p.input) same ∙ beyond.2) in
                    let rest : reached_within more ends_at_source pipes further.1 ≡ Some source =
                    subst (λ (p : ℕ). reached_within more ends_at_source pipes p ≡ Some source) (sym input) beyond.3 in
                    step_more ends_at_source pipes more head source (through_head steps more further.1 head source further.3 rest)
              ]
        ]

    -- a head that took from its own strand would come to no source
    no_circle : (steps head input source : ℕ) → input_at pipes head ≡ Some input → head_of pipes input ≡ Some head
        → reached_within steps ends_at_source pipes head ≡ Some source → ⊥
    no_circle zero head input source takes own comes = cc
    no_circle (suc steps) head input source takes own comes =
        let step = step_of ends_at_source pipes steps head source comes in
        let of : step.pipe.input ≡ Some input = rw step.at at takes in
        elim step.way [
          | inl here ↦ source_takes_none head input step.pipe step.at here.0 of
          | inr further ↦
              let same : further.1 ≡ input = same_Some further.1 input (sym further.2 ∙ of) in
              let rest : reached_within steps ends_at_source pipes input ≡ Some source =
              subst (λ (p : ℕ). reached_within steps ends_at_source pipes p ≡ Some source) same further.3 in
              no_circle steps head input source takes own (through_head (length pipes) steps input head source own rest)
        ]

    pub takes_of_another : (head input : ℕ) → input_at pipes head ≡ Some input → head_of pipes input ≡ Some head → ⊥
    takes_of_another head input takes own =
        let within : head < length pipes = elim (slice_get_cases pipes head).1 [
          | inl there ↦ slice_get_within pipes head there.0 there.2
          | inr past ↦ absurd (let none : None ≡ Some input = rw past.1 at takes in cc)
        ] in
        let source = comes_to_source pipes well head within in
        no_circle (length pipes) head input source.source takes own source.reached

    has_input : (head place : ℕ) (input : Option ℕ) → option_map_or (is_in_strand pipes head) input false ≡ true
        → (at : ℕ) × (input ≡ Some at) × (head_of pipes at ≡ Some head)
    has_input head place None is = absurd (cc)
    has_input head place (Some at) is = (at, refl, same_head (head_of pipes at) head is)

    -- whether a lane is filled by a pipe of a strand, by the places of its pipes
    filled_by : (head : ℕ) (input : Option ℕ) (source : Bool) → (source ≡ true → (at : ℕ) → input ≡ Some at → ⊥)
        → is_some (option_and_then (λ at. position (λ other. other == at) (strand_of pipes head)) input)
        ≡ (not source && option_map_or (is_in_strand pipes head) input false)
    filled_by head None true none = refl
    filled_by head None false none = refl
    filled_by head (Some at) true none = absurd (none refl at refl)
    filled_by head (Some at) false none = elim (cases_Bool (is_in_strand pipes head at)) [
      | inl within ↦
          let there = strand_has pipes head at (same_head (head_of pipes at) head within) in
          let found = place_found (strand_of pipes head) at there in
          rw (found.1, within) refl
      | inr without ↦ by_answer (position (λ other. other == at) (strand_of pipes head)) refl without
    ]
      where
        by_answer : (found : Option ℕ) → position (λ other. other == at) (strand_of pipes head) ≡ found → is_in_strand pipes head at ≡ false
            → is_some (position (λ other. other == at) (strand_of pipes head)) ≡ is_in_strand pipes head at
        by_answer None found without = rw (found, without) refl
        by_answer (Some k) found without =
            let is = found_place (strand_of pipes head) at k at found in
            let within : is_in_strand pipes head at ≡ true = kept_passes (is_in_strand pipes head) (places pipes) at (k, is.0, is.1) in
            absurd (let wrong : true ≡ false = sym within ∙ without in cc)

    filled_is : (head place : ℕ) → is_some (input_among pipes (strand_of pipes head) place)
        ≡ (passes_at is_fed pipes place && passes_at (takes_of head) pipes place)
    filled_is head place = elim (slice_get_cases pipes place).1 [
      | inl there ↦
          rw there.2 (filled_by head there.0.input (is_source there.0.kind) (λ is at takes. source_takes_none place at there.0 there.2 is takes))
      | inr past ↦ rw past.1 refl
    ]

    -- the lanes that a strand fills are those of the heads that take from its pipes
    pub outlets_are : (head : ℕ) → filter (λ place. is_some (input_among pipes (strand_of pipes head) place)) (heads pipes) ≡ outlets_of pipes head
    outlets_are head =
        sym (filter_twice (passes_at is_fed pipes) (passes_at (takes_of head) pipes) (λ place. is_some (input_among pipes (strand_of pipes head) place)) (filled_is head) (heads pipes))

    -- it takes from a pipe of the strand, and its own head is itself
    pub record IsOutlet (head place : ℕ) : Type 0 where
      pub own : head_of pipes place ≡ Some place
      pub input : ℕ
      pub takes : input_at pipes place ≡ Some input
      pub within : head_of pipes input ≡ Some head

    pub is_outlet : (head place : ℕ) → Contains (outlets_of pipes head) place → IsOutlet head place
    is_outlet head place there =
        let at = passing_pipe (takes_of head) pipes place (kept_passes (passes_at (takes_of head) pipes) (lanes pipes) place there) in
        let from = has_input head place at.0.input at.2 in
        let is_lane = kept_was_there (passes_at (takes_of head) pipes) (lanes pipes) place there in
        record {
          own = own_head pipes place (kept_was_there (passes_at is_fed pipes) (heads pipes) place is_lane);
          input = from.0;
          takes = rw at.1 from.1;
          within = from.2;
        }

    pub outlet_is_other : (head place : ℕ) → Contains (outlets_of pipes head) place → place ≢ head
    outlet_is_other head place there same =
        let outlet = is_outlet head place there in
        takes_of_another head outlet.input (subst (λ (p : ℕ). input_at pipes p ≡ Some outlet.input) same outlet.takes) outlet.within

    outlet_is_outside : (head place : ℕ) → Contains (outlets_of pipes head) place → Contains (strand_of pipes head) place → ⊥
    outlet_is_outside head place there within =
        outlet_is_other head place there (same_Some place head (sym (is_outlet head place there).own ∙ in_strand pipes head place within))

    -- no two nodes have one place
    not_twice : (head i j : ℕ) → i < j → j < length (strand_of pipes head ++ outlets_of pipes head)
        → get_or (strand_of pipes head ++ outlets_of pipes head) i 0 ≡ get_or (strand_of pipes head ++ outlets_of pipes head) j 0 → ⊥
    not_twice head i j before within same =
        let own = strand_of pipes head in
        let ends = outlets_of pipes head in
        let count : length (own ++ ends) ≡ length own + length ends = length-append own ends in
        let rising_own : AllPairs (λ x y. x < y) own = AllPairs-filter (λ x y. x < y) (is_in_strand pipes head) (places pipes) rising_places in
        let rising_ends = rising_outlets head in
        elim (cases_lt j (length own)) [
          | inl inner ↦
              let one : get_or (own ++ ends) i 0 ≡ get_or own i 0 = get_or_append_left own ends 0 i (omega (arith, before, inner)) in
              let other : get_or (own ++ ends) j 0 ≡ get_or own j 0 = get_or_append_left own ends 0 j inner in
              omega (arith, one, other, same, rising_own i j 0 before inner)
          | inr beyond ↦
              let other : get_or (own ++ ends) j 0 ≡ get_or ends (j - length own) 0 = get_or-append_right own ends (length own) j 0 refl beyond in
              let end : j - length own < length ends = omega (arith, within, count, beyond) in
              elim (cases_lt i (length own)) [
                | inl inner ↦
                    let one : get_or (own ++ ends) i 0 ≡ get_or own i 0 = get_or_append_left own ends 0 i inner in
                    let place = get_or own i 0 in
                    let equal : get_or ends (j - length own) 0 ≡ place = sym other ∙ sym same ∙ one in
                    outlet_is_outside head place (subst (Contains ends) equal (Contains-get_or ends (j - length own) 0 end)) (Contains-get_or own i 0 inner)
                | inr far ↦
                    let one : get_or (own ++ ends) i 0 ≡ get_or ends (i - length own) 0 = get_or-append_right own ends (length own) i 0 refl far in
                    omega (arith, one, other, same, rising_ends (i - length own) (j - length own) 0 (omega (arith, before, far, beyond)) end)
              ]
        ]

    pub apart : (head i j : ℕ) → i < length (strand_of pipes head ++ outlets_of pipes head) → j < length (strand_of pipes head ++ outlets_of pipes head)
        → get_or (strand_of pipes head ++ outlets_of pipes head) i 0 ≡ get_or (strand_of pipes head ++ outlets_of pipes head) j 0 → i ≡ j
    apart head i j within inside same = elim (cases_lt i j) [
      | inl before ↦ absurd (not_twice head i j before inside same)
      | inr after ↦ elim (cases_lt j i) [
        | inl before ↦ absurd (not_twice head j i before within (sym same))
        | inr equal ↦ omega (arith, after, equal)
      ]
    ]
