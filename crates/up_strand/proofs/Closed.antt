-- What is told of the nodes of a strand that is given up, one after the other.
use Rattle.std.proofs.Common.{◌≡◌, ℕ, ◌+◌, ◌<◌, ◌≤◌, ◌++◌, List, [], ◌∷◌, length, map, take, set, get_or, false, refl, sym, ap, ◌∙◌, subst, arith, inl, inr, add-one, append-nil, append_assoc, length-append}
use Rattle.std.proofs.lemmas.Bool.{cases_lt}
use Rattle.std.proofs.lemmas.Bool.Decides.{eqb_tells}
use Rattle.std.proofs.Math.Seq.{take-suc}
use Rattle.std.proofs.lemmas.List.{get_or-set_same, get_or-set_other, get_or-take, length-take-le, map-append, take-take}
use Rattle.std.proofs.lemmas.List.Folds.{length-flat_map-take}
use Rattle.up_model.specs.Tallies.{uncaught}
use Rattle.up_model.specs.declared.catch_set.CatchSet.{CatchSet}
use Rattle.up_model.specs.declared.tally.Tally.{Tally}
use Rattle.up_strand.proofs.Begun.{more_at}
use Rattle.up_strand.proofs.Lists.{left_next}
use Rattle.up_strand.specs.Closing.{AreToldFirst, AreWithoutSinks, outcome_at, sinks_in, sinks_of_nodes}
use Rattle.up_strand.specs.Nodes.{holds_sink}
use Rattle.up_strand.specs.declared.closing.Ending.{Ending}
use Rattle.up_strand.specs.declared.closing.Told.{Told}
use Rattle.up_strand.specs.declared.node.Node.{Node}

sinks_one : {P K : Type 0} (nodes : List (Node P K)) (node : Node P K) → sinks_of_nodes (nodes ++ node ∷ []) ≡ sinks_of_nodes nodes ++ sinks_in node.part
sinks_one [] node = append-nil (sinks_in node.part)
sinks_one (one ∷ nodes) node =
    ap (λ l. sinks_in one.part ++ l) (sinks_one nodes node) ∙ sym (append_assoc (sinks_in one.part) (sinks_of_nodes nodes) (sinks_in node.part))

module _ {P K : Type 0} (ending : Ending) (caught : List CatchSet) (olds nodes : List (Node P K)) (old new : Told K) (i : ℕ) (node y : Node P K) (c : CatchSet)
    (within : i < length nodes) (same : length nodes ≡ length olds) (left : AreWithoutSinks i olds nodes) (here : (d : Node P K) → get_or nodes i d ≡ node) where
  item : (d : Node P K) → get_or olds i d ≡ node
  item d = sym (left.rest i d (omega arith)) ∙ here d

  grown : take (i + 1) olds ≡ take i olds ++ node ∷ []
  grown = ap (λ n. take n olds) (add-one i) ∙ take-suc olds i node (omega (arith, same, within)) ∙ ap (λ (x : Node P K). take i olds ++ x ∷ []) (item node)

  pub told_next : AreToldFirst i ending caught olds old → ((d : CatchSet) → get_or caught i d ≡ c)
      → new.outcomes.items ≡ old.outcomes.items ++ outcome_at ending node ∷ []
      → new.tallies.items ≡ old.tallies.items ++ uncaught c node.out.tally ∷ []
      → new.sinks.items ≡ old.sinks.items ++ sinks_in node.part
      → AreToldFirst (i + 1) ending caught olds new
  told_next told here_caught outcome tally sink =
      let Q : ℕ → Tally → Type 0 = λ k t. (d : Node P K) (e : CatchSet) → t ≡ uncaught (get_or caught k e) (get_or olds k d).out.tally in
      let last : Q i (uncaught c node.out.tally) = λ d e. rw (here_caught e, item d) refl in
      let all = more_at Q old.tallies.items (uncaught c node.out.tally) i told.count_of (λ k t before d e. told.tallies k d e t before) last in
      record {
        outcomes = outcome ∙ ap (λ l. l ++ outcome_at ending node ∷ []) told.outcomes
            ∙ sym (ap (map (outcome_at ending)) grown ∙ map-append (outcome_at ending) (take i olds) (node ∷ []));
        tallies = λ k d e t below. rw tally (all k t below d e);
        count_of = ap length tally ∙ length-append old.tallies.items (uncaught c node.out.tally ∷ []) ∙ ap (λ n. n + 1) told.count_of;
        sinks = sink ∙ ap (λ l. l ++ sinks_in node.part) told.sinks ∙ sym (ap sinks_of_nodes grown ∙ sinks_one (take i olds) node);
      }

  pub without_next : holds_sink y.part ≡ false → y.out ≡ node.out → AreWithoutSinks (i + 1) olds (set nodes i y)
  without_next none out = record {
    none = λ k d below.
        elim (cases_lt k i) [
          | inl before ↦ rw (get_or-set_other nodes i k y d (λ is. absurd (omega arith))) (left.none k d before)
          | inr behind ↦
              let here_too : i ≡ k = omega arith in
              subst (λ (n : ℕ). holds_sink (get_or (set nodes i y) n d).part ≡ false) here_too (rw (get_or-set_same nodes i y d within) none)
        ];
    rest = left_next (λ a b. a ≡ b) olds nodes i y left.rest;
    out = λ k d.
        elim (eqb_tells k i) [
          | inl is ↦ subst (λ (n : ℕ). (get_or (set nodes i y) n d).out ≡ (get_or olds n d).out) (sym is.1)
              (rw (get_or-set_same nodes i y d within) (out ∙ ap (λ (n : Node P K). n.out) (sym (item d))))
          | inr other ↦ rw (get_or-set_other nodes i k y d other.1) (left.out k d)
        ];
  }

  -- its sink has room too
  pub sink_has_room : (count : ℕ) → i < count → count ≤ length olds
      → length (sinks_of_nodes (take i olds)) + length (sinks_in node.part) ≤ length (sinks_of_nodes (take count olds))
  sink_has_room count below upto =
      let least = length-flat_map-take (λ (node : Node P K). sinks_in node.part) (take count olds) i node (omega (arith, length-take-le count olds upto, below)) in
      rw (take-take i count olds (omega arith), get_or-take count olds i node below, item node) at least
