-- Worked examples of sums, computed.
use Rattle.std.proofs.Common.{true, false, ◌≡◌, ◌-◌, ◌^◌, [], ◌∷◌, map, refl}
use Rattle.std.specs.Prelude.{codes}
use Rattle.up_model.specs.Packet.{plain}
use Rattle.up_model.specs.Tallies.{plus, added, more, stopped, uncaught, nothing, of_passed, of_dropped, of_source, of_taken}

-- one packet less 3 bytes, and one of 2 bytes that was dropped
pub one_of_each : plus (of_passed 3) (of_dropped 2) ≡ record { taken = 2; put = 1; dropped = 1; cut = 5; gained = 0; lost = 0 }
one_of_each = refl

-- a sum that is kept stops at 2^64 - 1
pub greatest : (more (2 ^ 64 - 2) 1 ≡ 2 ^ 64 - 1) × (more (2 ^ 64 - 2) 2 ≡ 2 ^ 64 - 1) × (more 0 (2 ^ 65) ≡ 2 ^ 64 - 1)
greatest = (refl, refl, refl)

-- the one sum that is full stops, and the others go on
pub full_sum : added (of_passed (2 ^ 64 - 1)) (of_dropped 2) ≡ record { taken = 2; put = 1; dropped = 1; cut = 2 ^ 64 - 1; gained = 0; lost = 0 }
full_sum = refl

-- nothing more leaves all as it is
pub no_more : added (of_passed 3) nothing ≡ of_passed 3
no_more = refl

-- sums that are kept since the start are the sums, but for one that passes 2^64 - 1
pub since_the_start : stopped (of_passed (2 ^ 64)) ≡ of_passed (2 ^ 64 - 1)
since_the_start = refl

-- what a probe catches doesn't come to the root, but for packets taken and put
pub caught_ones :
    (uncaught (record { drop = true; cut = false; sync = false; lost = false }) (of_dropped 5) ≡ record { taken = 1; put = 0; dropped = 0; cut = 5; gained = 0; lost = 0 })
    × (uncaught (record { drop = false; cut = true; sync = true; lost = true }) (record { taken = 1; put = 2; dropped = 3; cut = 4; gained = 5; lost = 6 })
    ≡ record { taken = 1; put = 2; dropped = 3; cut = 0; gained = 0; lost = 0 })
caught_ones = (refl, refl)

-- a source puts out what it took of nobody, and a sink puts nothing out
pub ends : (of_source (map plain (codes "ab" ∷ [] ∷ [])) ≡ record { taken = 0; put = 2; dropped = 0; cut = 0; gained = 0; lost = 0 })
    × (of_taken (map plain (codes "ab" ∷ [] ∷ [])) ≡ record { taken = 2; put = 0; dropped = 0; cut = 0; gained = 0; lost = 0 })
ends = (refl, refl)
