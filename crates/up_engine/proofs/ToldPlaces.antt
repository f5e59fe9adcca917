-- What is told of the pipes at some places, one place after the other, and of the strands of a graph, one after the other.
use Rattle.std.proofs.Common.{◌≡◌, ℕ, ◌+◌, ◌<◌, List, [], ◌∷◌, ◌++◌, length, map, get_or, set, Bool, true, false, sym, ap, ◌∙◌, subst, arith, inl, inr}
use Rattle.std.specs.List.{Contains}
use Rattle.std.proofs.lemmas.Bool.{cases_lt}
use Rattle.std.proofs.lemmas.List.{get_or-map, get_or_default, get_or_append_left, get_or_push, get_or-set_other, get_or-set_same, length-map, length-set, length_push}
use Rattle.up_engine.proofs.Fillers.{head_number}
use Rattle.up_engine.proofs.GivenBack.{elsewhere}
use Rattle.up_engine.proofs.PutParts.{differs, none_of_both}
use Rattle.up_engine.specs.Begun.{AreToldFrom, IsToldOf, places_at}
use Rattle.up_engine.specs.Making.{AreTold}
use Rattle.up_engine.specs.Nets.{head_at}
use Rattle.up_engine.specs.Parts.{TellsOf}
use Rattle.up_engine.specs.declared.finishing.Told.{Told}
use Rattle.up_engine.specs.declared.results.Results.{Results}
use Rattle.up_model.specs.Plans.{heads, strand_of}
use Rattle.up_model.specs.declared.outcome.Outcome.{Outcome}
use Rattle.up_model.specs.declared.pipe.Pipe.{Pipe}
use Rattle.up_model.specs.declared.tally.Tally.{Tally}
use Rattle.up_strand.specs.History.{History, sums_at, told_at, told_at_last}

module _ (olds : List ℕ) (place : ℕ) (fresh : Contains olds place → ⊥) where
  here_next : {X : Type 0} (values now : List X) (x : X) → place < length now → ((d : X) → get_or values (length olds) d ≡ x)
      → ((k : ℕ) (d : X) → k < length olds → get_or now (get_or olds k 0) d ≡ get_or values k d)
      → (k : ℕ) (d : X) → k < length (olds ++ place ∷ []) → get_or (set now place x) (get_or (olds ++ place ∷ []) k 0) d ≡ get_or values k d
  here_next values now x room at each k d below =
      let long = length_push olds place in
      elim (cases_lt k (length olds)) [
        | inl before ↦
            ap (λ p. get_or (set now place x) p d) (get_or_append_left olds (place ∷ []) 0 k before)
            ∙ get_or-set_other now place (get_or olds k 0) x d (differs olds place fresh k before) ∙ each k d before
        | inr after ↦
            let last : k ≡ length olds = omega (arith, after, below, long) in
            ap (λ p. get_or (set now place x) p d) (get_or_push olds place 0 k (sym last))
            ∙ get_or-set_same now place x d room ∙ sym (at d) ∙ ap (λ n. get_or values n d) (sym last)
      ]

  others_next : {X : Type 0} (before now : List X) (x : X) → ((p : ℕ) (d : X) → (Contains olds p → ⊥) → get_or now p d ≡ get_or before p d)
      → (p : ℕ) (d : X) → (Contains (olds ++ place ∷ []) p → ⊥) → get_or (set now place x) p d ≡ get_or before p d
  others_next before now x same p d not =
      let apart = none_of_both olds place p not in
      get_or-set_other now place p x d apart.1 ∙ same p d apart.0

  -- it is told of one place more
  pub tells_next : (outcomes : List Outcome) (tallies : List Tally) (before now new : Results) (x : Outcome) (y : Tally) → TellsOf olds outcomes tallies before now
      → place < length now.outcomes.items → place < length now.tallies.items
      → ((d : Outcome) → get_or outcomes (length olds) d ≡ x) → ((d : Tally) → get_or tallies (length olds) d ≡ y)
      → new.outcomes.items ≡ set now.outcomes.items place x → new.tallies.items ≡ set now.tallies.items place y
      → TellsOf (olds ++ place ∷ []) outcomes tallies before new
  tells_next outcomes tallies before now new x y so_far outcome_room tally_room outcome tally outcomes_now tallies_now = record {
    outcome_count = ap length outcomes_now ∙ length-set now.outcomes.items place x ∙ so_far.outcome_count;
    tally_count = ap length tallies_now ∙ length-set now.tallies.items place y ∙ so_far.tally_count;
    outcomes_here = λ k d below. ap (λ l. get_or l (get_or (olds ++ place ∷ []) k 0) d) outcomes_now
        ∙ here_next outcomes now.outcomes.items x outcome_room outcome so_far.outcomes_here k d below;
    tallies_here = λ k d below. ap (λ l. get_or l (get_or (olds ++ place ∷ []) k 0) d) tallies_now
        ∙ here_next tallies now.tallies.items y tally_room tally so_far.tallies_here k d below;
    outcome_others = λ p d not. ap (λ l. get_or l p d) outcomes_now ∙ others_next before.outcomes.items now.outcomes.items x so_far.outcome_others p d not;
    tally_others = λ p d not. ap (λ l. get_or l p d) tallies_now ∙ others_next before.tallies.items now.tallies.items y so_far.tally_others p d not;
  }

module _ (pipes : List Pipe) (past : ℕ → History) where
  -- nothing is told while all strands are there
  pub none_told : (count : ℕ) (results : Results) → count ≡ length (heads pipes) → length results.outcomes.items ≡ length pipes → length results.tallies.items ≡ length pipes
      → AreToldFrom pipes count past results
  none_told count results all outcomes tallies = record {
    outcome_count = outcomes;
    tally_count = tallies;
    outcomes = λ i place d from below has. absurd (omega (arith, from, below, all));
    tallies = λ i place d from below has long. absurd (omega (arith, from, below, all));
  }

  pub told_at_end : {X : Type 0} (strands : List X) (results : Results) → strands ≡ [] → AreToldFrom pipes (length strands) past results → AreToldFrom pipes 0 past results
  told_at_end strands results none told = subst (λ (n : ℕ). AreToldFrom pipes n past results) (ap length none) told

  -- it is told of as many pipes as the strand has
  pub told_count : (count : ℕ) (done : Bool) (told : Told) → (past (head_at pipes count)).pipes ≡ pipes → (past (head_at pipes count)).head ≡ head_at pipes count
      → IsToldOf done (past (head_at pipes count)) told
      → (length told.outcomes ≡ length (places_at pipes count)) × (length told.tallies ≡ length (places_at pipes count))
  told_count count done told graph place is =
      let h = past (head_at pipes count) in
      let places_are : strand_of h.pipes h.head ≡ places_at pipes count = ap (λ ps. strand_of ps h.head) graph ∙ ap (strand_of pipes) place in
      (ap length is.outcomes ∙ length-map (strand_of h.pipes h.head) (λ at. told_at_last done (told_at h at)) ∙ ap length places_are, is.count ∙ ap length places_are)

  -- it is told of one strand more, which was done
  pub strand_told : (count : ℕ) (told : Told) (before after : Results) → count < length (heads pipes)
      → (past (head_at pipes count)).pipes ≡ pipes → (past (head_at pipes count)).head ≡ head_at pipes count
      → IsToldOf true (past (head_at pipes count)) told → TellsOf (places_at pipes count) told.outcomes told.tallies before after
      → AreToldFrom pipes (count + 1) past before → AreToldFrom pipes count past after
  strand_told count told before after within graph place is tells so_far =
      let h = past (head_at pipes count) in
      let own = places_at pipes count in
      let places_are : strand_of h.pipes h.head ≡ own = ap (λ ps. strand_of ps h.head) graph ∙ ap (strand_of pipes) place in
      let outcome_here : (p : ℕ) (d : Outcome) → Contains own p → get_or after.outcomes.items p d ≡ told_at h p =
      λ p d has.
      ap (λ q. get_or after.outcomes.items q d) (sym (get_or_default own has.0 0 p has.1 ∙ has.2))
      ∙ tells.outcomes_here has.0 d has.1
      ∙ ap (λ l. get_or l has.0 d) (is.outcomes ∙ ap (map (λ at. told_at_last true (told_at h at))) places_are)
      ∙ get_or-map (λ at. told_at_last true (told_at h at)) own has.0 p d has.1 ∙ ap (told_at h) has.2 in
      let tally_here : (p : ℕ) (d : Tally) → Contains own p → h.short ≡ false → get_or after.tallies.items p d ≡ sums_at h p =
      λ p d has long.
      ap (λ q. get_or after.tallies.items q d) (sym (get_or_default own has.0 0 p has.1 ∙ has.2))
      ∙ tells.tallies_here has.0 d has.1
      ∙ ap (λ l. get_or l has.0 d) (is.tallies long ∙ ap (map (sums_at h)) places_are)
      ∙ get_or-map (sums_at h) own has.0 p d has.1 ∙ ap (sums_at h) has.2 in
      record {
        outcome_count = tells.outcome_count ∙ so_far.outcome_count;
        tally_count = tells.tally_count ∙ so_far.tally_count;
        outcomes = λ i p d from below has. elim (cases_lt count i) [
          | inl later ↦
              tells.outcome_others p d (elsewhere pipes i count p below within (λ same. omega (arith, same, later)) has)
              ∙ so_far.outcomes i p d (omega (arith, later)) below has
          | inr not ↦
              let here : i ≡ count = omega (arith, not, from) in
              outcome_here p d (subst (λ (n : ℕ). Contains (places_at pipes n) p) here has) ∙ ap (λ n. told_at (past (head_at pipes n)) p) (sym here)
        ];
        tallies = λ i p d from below has long. elim (cases_lt count i) [
          | inl later ↦
              tells.tally_others p d (elsewhere pipes i count p below within (λ same. omega (arith, same, later)) has)
              ∙ so_far.tallies i p d (omega (arith, later)) below has long
          | inr not ↦
              let here : i ≡ count = omega (arith, not, from) in
              tally_here p d (subst (λ (n : ℕ). Contains (places_at pipes n) p) here has) (ap (λ n. (past (head_at pipes n)).short) (sym here) ∙ long)
              ∙ ap (λ n. sums_at (past (head_at pipes n)) p) (sym here)
        ];
      }

  pub all_told : (results : Results) → AreToldFrom pipes 0 past results → AreTold pipes past results
  all_told results told = record {
    outcome_count = told.outcome_count;
    tally_count = told.tally_count;
    outcomes = λ head place d is has.
        let number = head_number pipes head is in
        told.outcomes number.0 place d (omega arith) number.1 (subst (λ (at : ℕ). Contains (strand_of pipes at) place) (sym number.2) has)
        ∙ ap (λ at. told_at (past at) place) number.2;
    tallies = λ head place d is has long.
        let number = head_number pipes head is in
        told.tallies number.0 place d (omega arith) number.1 (subst (λ (at : ℕ). Contains (strand_of pipes at) place) (sym number.2) has)
        (ap (λ at. (past at).short) number.2 ∙ long)
        ∙ ap (λ at. sums_at (past at) place) number.2;
  }
