use Rattle.std.proofs.Common.{◌≡◌, ℕ, List, [], ap, ◌∙◌, replicate, length}
use Rattle.up_base.specs.declared.reserved_list.ReservedList.{ReservedList}
use Rattle.up_engine.specs.declared.object.Object.TheVariants as objects
use Rattle.up_engine.proofs.rooms.Rooms.of.Goals as goal
use Rattle.up_model.specs.Tallies.{nothing}
use Rattle.up_model.specs.declared.outcome.Outcome.TheVariants as outcomes
use Rattle.up_model.specs.declared.tally.Tally.{Tally}

-- sums that are all 0
is_nothing : (taken put dropped cut gained lost : ℕ)
    → (taken ≡ 0) × ((put ≡ 0) × ((dropped ≡ 0) × ((cut ≡ 0) × ((gained ≡ 0) × (lost ≡ 0)))))
    → ◌≡◌ {A = Tally} (record { taken = taken; put = put; dropped = dropped; cut = cut; gained = gained; lost = lost }) nothing
is_nothing taken put dropped cut gained lost none = cc

-- an empty list with so much room
is_empty_room : {T : Type 0} (room long : ℕ) (items : List T) → room ≡ long → items ≡ []
    → ◌≡◌ {A = ReservedList T} (record { room = room; items = items }) (record { room = long; items = [] })
is_empty_room room long items is empty = cc

pub returns : goal.returns
returns g c =
    let count : c.len-count.result ≡ length c.args.graph.now.pipes = c.len-count.ensures in
    let sums = c.default.result in
    record {
      plan = c.in_ok-plan.ensures;
      order = c.in_ok-order.ensures;
      table = c.in_ok-table.ensures ∙ ap (λ n. replicate n objects.None) count;
      endings = c.in_ok-vec.ensures.items_if_clones_equal (λ y is. is) ∙ ap (λ n. replicate n outcomes.Broken) count;
      sums = c.in_ok-vec-2.ensures.items_if_clones_equal (λ y is. is)
          ∙ ap (replicate c.len-count.result) (is_nothing sums.taken sums.put sums.dropped sums.cut sums.gained sums.lost c.default.ensures)
          ∙ ap (λ n. replicate n nothing) count;
      outcomes = is_empty_room _ _ _ (c.in_ok-outcomes.ensures.room ∙ count) c.in_ok-outcomes.ensures.empty;
      tallies = is_empty_room _ _ _ (c.in_ok-tallies.ensures.room ∙ count) c.in_ok-tallies.ensures.empty;
    }
