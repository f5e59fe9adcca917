use Rattle.std.proofs.Common.{◌≡◌, ◌++◌}
use Rattle.std.specs.List.Sorted.{IsStrictlySortedBy}
use Rattle.std.specs.Map.{keys_of}
use Rattle.std.specs.String.{string_cmp}
use Rattle.up_graph.proofs.Keys.{left_known}
use Rattle.up_graph.proofs.field.known_alone.Given as goal

abbrev pub invariant-loop-key : goal.invariant-loop-key
invariant-loop-key l =
    (left_known (l.common ++ l.own) l.key-iterator ≡ left_known (l.common ++ l.own) (keys_of l.table.entries))
    × IsStrictlySortedBy string_cmp l.key-iterator
