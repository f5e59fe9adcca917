use Rattle.std.proofs.Common.{◌≡◌, length, rules}
use Rattle.std.specs.List.{range_with_len}
use Rattle.std.proofs.lemmas.List.Sorted.{IsNonDecreasingBy-from_sort_by_key}
use Rattle.up_strand.proofs.ShapeLists.{sorted_order}
use Rattle.up_strand.specs.Shapes.{node_depth}
use Rattle.up_strand.proofs.shape.order_of.Goals as goal

pub returns : goal.returns
returns c =
    let rank = node_depth c.args.pipes.now c.args.head c.args.places.now in
    let numbers : c.in_ok-order.order.items ≡ range_with_len 0 (length c.args.places.now) = search rules in
    sorted_order rank (length c.args.places.now) c.sort_by_key.new.self.items (rw numbers at c.sort_by_key.ensures.permutation)
    (IsNonDecreasingBy-from_sort_by_key rank _ c.in_ok-sort_by_key.ensures.sorted (λ a r q k. search rules))
