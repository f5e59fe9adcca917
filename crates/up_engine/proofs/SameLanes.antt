-- A lane that is as it was, put back in its place.
use Rattle.std.proofs.Common.{◌≡◌, ℕ, ◌<◌, List, length, get_or, set, Option, Some, None, is_some, sym, ap, ◌∙◌}
use Rattle.std.proofs.lemmas.List.{get_or_default, get_or-set_other, get_or-set_same, length-set, set-get_or}
use Rattle.std.specs.Prelude.{Err, Ok, OnErr, Result}
use Rattle.up_base.specs.ItemList.{TakesFirst}
use Rattle.up_engine.specs.Moves.{OtherLanesStay}
use Rattle.up_queue.specs.Lane.{Lane}
use Rattle.up_queue.specs.declared.item.Item.{Item}

module _ {P : Type 0} where
  lane_same : (old new : Lane P) → new.cap ≡ old.cap → new.items ≡ old.items → new ≡ old
  lane_same old new cap items =
      ap (λ (c : ℕ). record { cap = c; items = new.items }) cap ∙ ap (λ (i : List (Item P)). record { cap = old.cap; items = i }) items

  pub put_back : (lanes : List (Option (Lane P))) (i : ℕ) (there : Option (Lane P)) (old new : Lane P) → there ≡ get_or lanes i there → there ≡ Some old
      → new.cap ≡ old.cap → new.items ≡ old.items → set lanes i (Some new) ≡ lanes
  put_back lanes i there old new at is cap items =
      ap (λ (l : Lane P). set lanes i (Some l)) (lane_same old new cap items) ∙ ap (set lanes i) (sym is ∙ at) ∙ set-get_or lanes i there

  none_taken : (old new : List (Item P)) (taken : Option (Item P)) → TakesFirst old new taken → taken ≡ None → new ≡ old
  none_taken old new None takes none = takes.1 ∙ sym takes.0
  none_taken old new (Some item) takes none = absurd (cc)

  pub nothing_taken : (lanes : List (Option (Lane P))) (i : ℕ) (there : Option (Lane P)) (old new : Lane P) (taken : Option (Item P)) → there ≡ get_or lanes i there
      → there ≡ Some old → new.cap ≡ old.cap → TakesFirst old.items new.items taken → taken ≡ None → set lanes i (Some new) ≡ lanes
  nothing_taken lanes i there old new taken at is cap takes none = put_back lanes i there old new at is cap (none_taken old.items new.items taken takes none)

  pub nothing_put : {T E : Type 0} (lanes : List (Option (Lane P))) (i : ℕ) (there : Option (Lane P)) (old new : Lane P) (result : Result T E) → there ≡ get_or lanes i there
      → there ≡ Some old → new.cap ≡ old.cap → OnErr result (new.items ≡ old.items) → OnErr result (set lanes i (Some new) ≡ lanes)
  nothing_put lanes i there old new (Ok x) at is cap same = tt
  nothing_put lanes i there old new (Err e) at is cap same = put_back lanes i there old new at is cap same

  same_lane : (a b : Lane P) → Some a ≡ Some b → a ≡ b
  same_lane a b same = cc

  -- a lane that has as much room as it had, put back in its place
  pub others_stay : (lanes : List (Option (Lane P))) (i : ℕ) (there : Option (Lane P)) (old new : Lane P) → i < length lanes → there ≡ get_or lanes i there
      → there ≡ Some old → new.cap ≡ old.cap → OtherLanesStay lanes (set lanes i (Some new)) i
  others_stay lanes i there old new within at is cap =
      let here : get_or (set lanes i (Some new)) i None ≡ Some new = get_or-set_same lanes i (Some new) None within in
      record {
        count = length-set lanes i (Some new);
        others = λ k other. get_or-set_other lanes i k (Some new) None other;
        there = ap is_some here;
        room = λ lane now.
            let same : lane ≡ new = same_lane lane new (sym now ∙ here) in
            (old, get_or_default lanes i None there within ∙ sym at ∙ is, ap (λ (l : Lane P). l.cap) same ∙ cap);
      }
