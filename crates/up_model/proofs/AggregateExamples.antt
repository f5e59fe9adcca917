-- Worked examples of `aggregate`, computed.
use Rattle.std.proofs.Common.{◌≡◌, ℕ, pos, [], ◌∷◌, map, Some, None, refl}
use Rattle.std.specs.Prelude.{codes}
use Rattle.std.specs.Int.RustNames.{unsigned_abs}
use Rattle.up_model.specs.Aggregate.{aggregated, aggregated_so_far, aggregate_meaning, aggregate_setting}
use Rattle.up_model.specs.Attrs.{Attrs}
use Rattle.up_model.specs.Packet.{Flow, plain}
use Rattle.up_model.specs.declared.kind.Kind.{Kind}
use Rattle.up_model.specs.declared.opt.Opt.TheVariants.{Mtu, Align, Offset, Low, High, By, Sync}

-- packets of 2, 1, 2, 5 and 1 bytes
abbrev taken : Flow
taken = map plain (codes "ab" ∷ codes "c" ∷ codes "de" ∷ codes "fghij" ∷ codes "k" ∷ [])

-- the third doesn't fit with the first two, the fourth alone is larger than 4
pub five_packets : aggregated 4 taken ≡ map plain (codes "abc" ∷ codes "de" ∷ codes "fghij" ∷ codes "k" ∷ [])
five_packets = refl

-- before the end, all but the last
pub so_far : aggregated_so_far 4 taken ≡ map plain (codes "abc" ∷ codes "de" ∷ codes "fghij" ∷ [])
so_far = refl

-- a sum of exactly 4 is one group
pub exactly_mtu : aggregated 4 (map plain (codes "abc" ∷ codes "d" ∷ codes "e" ∷ []))
    ≡ map plain (codes "abcd" ∷ codes "e" ∷ [])
exactly_mtu = refl

-- a group that is full, or alone larger, is out when the next begins, not before
pub held_until_next :
    (aggregated_so_far 4 (plain (codes "abcd") ∷ []) ≡ [])
    × (aggregated_so_far 4 (plain (codes "abcde") ∷ []) ≡ [])
    × (aggregated_so_far 4 (plain (codes "abcd") ∷ plain (codes "e") ∷ []) ≡ plain (codes "abcd") ∷ [])
held_until_next = (refl, refl, refl)

-- empty packets join a group that is full; behind a packet that is larger they begin one
pub empty_packets :
    (aggregated 4 (map plain (codes "abcd" ∷ [] ∷ [] ∷ codes "e" ∷ [])) ≡ map plain (codes "abcd" ∷ codes "e" ∷ []))
    × (aggregated 4 (map plain (codes "abcde" ∷ [] ∷ codes "f" ∷ [])) ≡ map plain (codes "abcde" ∷ codes "f" ∷ []))
    × (aggregated 4 (map plain ([] ∷ [] ∷ codes "abcde" ∷ [])) ≡ map plain ([] ∷ codes "abcde" ∷ []))
empty_packets = (refl, refl, refl)

pub no_packets : aggregated 4 [] ≡ []
no_packets = refl

-- an mtu of 1
pub mtu_of_one : aggregated 1 (map plain (codes "a" ∷ codes "b" ∷ [] ∷ codes "cd" ∷ []))
    ≡ map plain (codes "a" ∷ codes "b" ∷ codes "cd" ∷ [])
mtu_of_one = refl

-- a group has the attributes of its first packet, also where that is empty
pub attrs_of_first : (first second : Attrs)
    → aggregated 4 (record { attrs = first; bytes = [] } ∷ record { attrs = second; bytes = codes "ab" }
    ∷ record { attrs = second; bytes = codes "cde" } ∷ [])
    ≡ record { attrs = first; bytes = codes "ab" } ∷ record { attrs = second; bytes = codes "cde" } ∷ []
attrs_of_first first second = refl

module _ (aggregate : ℕ → Kind) where
  -- no packet is dropped and no byte is cut
  pub tally : (aggregate_meaning aggregate 4).tally taken
      ≡ record { taken = 5; put = 4; dropped = 0; cut = 0; gained = 0; lost = 0 }
  tally = refl

  pub settled_tally : (aggregate_meaning aggregate 4).settled_tally taken
      ≡ record { taken = 5; put = 3; dropped = 0; cut = 0; gained = 0; lost = 0 }
  settled_tally = refl

  pub mtu : aggregate_setting aggregate 4 Mtu
      ≡ Some (record { value = pos 4; low = pos 1; high = pos 1048576; set = λ value. aggregate (unsigned_abs value) })
  mtu = refl

  pub no_other : (aggregate_setting aggregate 4 Align ≡ None) × (aggregate_setting aggregate 4 Offset ≡ None)
      × (aggregate_setting aggregate 4 Low ≡ None)
      × (aggregate_setting aggregate 4 High ≡ None) × (aggregate_setting aggregate 4 By ≡ None)
      × (aggregate_setting aggregate 4 Sync ≡ None)
  no_other = (refl, refl, refl, refl, refl, refl)
