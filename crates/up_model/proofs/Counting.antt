-- How many of some packets have bytes.
use Rattle.std.proofs.Common.{◌≡◌, ◌+◌, ◌≤◌, suc, Bool, true, false, cond, [], ◌∷◌, ◌++◌, arith, length, ap, ◌∙◌, length-append}
use Rattle.std.specs.List.{filter}
use Rattle.std.specs.Prelude.{nat_lt}
use Rattle.std.proofs.lemmas.List.Elements.{filter-append}
use Rattle.up_model.specs.Packet.{Flow, count_with_bytes}

pub count_with_bytes-append : (a b : Flow) → count_with_bytes (a ++ b) ≡ count_with_bytes a + count_with_bytes b
count_with_bytes-append a b =
    ap length (filter-append (λ packet. nat_lt 0 (length packet.bytes)) a b)
    ∙ length-append (filter (λ packet. nat_lt 0 (length packet.bytes)) a) (filter (λ packet. nat_lt 0 (length packet.bytes)) b)

-- no more than all of them
pub count_with_bytes-few : (a : Flow) → count_with_bytes a ≤ length a
count_with_bytes-few [] = omega arith
count_with_bytes-few (packet ∷ a) = by_test (nat_lt 0 (length packet.bytes)) (count_with_bytes-few a)
  where
    by_test : (some : Bool) → count_with_bytes a ≤ length a
        → length (cond some (packet ∷ filter (λ packet. nat_lt 0 (length packet.bytes)) a) (filter (λ packet. nat_lt 0 (length packet.bytes)) a)) ≤ suc (length a)
    by_test true few = omega (arith, few)
    by_test false few = omega (arith, few)
