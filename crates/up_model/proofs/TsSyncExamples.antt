-- Worked examples of `ts_sync`, computed.
use Rattle.std.proofs.Common.{◌≡◌, ℕ, pos, List, [], ◌∷◌, ◌++◌, Some, None, refl}
use Rattle.std.specs.Prelude.{replicate}
use Rattle.std.specs.Int.RustNames.{unsigned_abs}
use Rattle.up_model.specs.Attrs.{Attrs}
use Rattle.up_model.specs.Packet.{Flow, plain}
use Rattle.up_model.specs.Tallies.{nothing}
use Rattle.up_model.specs.TsSync.{ts_synced, ts_sync_meaning, ts_sync_setting, walk_of}
use Rattle.up_model.specs.declared.kind.Kind.{Kind}
use Rattle.up_model.specs.declared.opt.Opt.TheVariants.{Mtu, Align, Offset, Low, High, By, Sync}

-- sync_byte and so many bytes
abbrev beginning : ℕ → List ℕ
beginning count = 0x47 ∷ replicate count 0

abbrev packet : List ℕ
packet = beginning 187

-- sync_byte alone, and then three packets: at place 0 there is no evidence
pub behind_a_byte : walk_of 2 (0x47 ∷ packet ++ packet ++ packet)
    ≡ record { starts = 1 ∷ 189 ∷ 377 ∷ []; gained = 1; lost = 0 }
behind_a_byte = refl

-- one packet is no evidence of two, and is evidence of one
pub one_packet :
    (walk_of 2 packet ≡ record { starts = []; gained = 0; lost = 0 })
    × (walk_of 1 packet ≡ record { starts = 0 ∷ []; gained = 1; lost = 0 })
one_packet = (refl, refl)

-- the second sync_byte is evidence as soon as it is there
pub as_soon_as_there :
    (walk_of 2 (packet ++ 0x47 ∷ []) ≡ record { starts = 0 ∷ []; gained = 1; lost = 0 })
    × (walk_of 2 (packet ++ 0 ∷ []) ≡ record { starts = []; gained = 0; lost = 0 })
as_soon_as_there = (refl, refl)

-- a stream that ends inside a packet; with evidence of one it is synchronised where it stops
pub inside_a_packet :
    (walk_of 1 (packet ++ beginning 186) ≡ record { starts = 0 ∷ []; gained = 1; lost = 0 })
    × (walk_of 1 (beginning 186) ≡ record { starts = []; gained = 1; lost = 0 })
    × (walk_of 1 (0x47 ∷ 0x47 ∷ []) ≡ record { starts = []; gained = 1; lost = 0 })
inside_a_packet = (refl, refl, refl)

-- another byte where a packet should begin: it is lost, and found again
pub found_again : walk_of 1 (packet ++ 0 ∷ packet) ≡ record { starts = 0 ∷ 189 ∷ []; gained = 2; lost = 1 }
found_again = refl

-- once synchronised, a packet needs no evidence of its own: the last one is put out
pub lost_at_the_end : walk_of 2 (packet ++ packet ++ 0 ∷ []) ≡ record { starts = 0 ∷ 188 ∷ []; gained = 1; lost = 1 }
lost_at_the_end = refl

pub no_bytes : walk_of 2 [] ≡ record { starts = []; gained = 0; lost = 0 }
no_bytes = refl

-- the packets have the attributes of their first bytes; empty packets have none
pub attrs_of_first_byte : (first empty_one second : Attrs)
    → ts_synced 1 (record { attrs = first; bytes = beginning 100 } ∷ record { attrs = empty_one; bytes = [] }
    ∷ record { attrs = second; bytes = replicate 87 0 ++ packet } ∷ [])
    ≡ record { attrs = first; bytes = packet } ∷ record { attrs = second; bytes = packet } ∷ []
attrs_of_first_byte first empty_one second = refl

module _ (ts_sync : ℕ → Kind) where
  -- the byte in front is cut, at the end
  abbrev taken : Flow
  taken = plain (0x47 ∷ packet) ∷ plain packet ∷ plain packet ∷ []

  pub three_packets : (ts_sync_meaning ts_sync 2).output taken ≡ plain packet ∷ plain packet ∷ plain packet ∷ []
  three_packets = refl

  pub tally : (ts_sync_meaning ts_sync 2).tally taken
      ≡ record { taken = 3; put = 3; dropped = 0; cut = 1; gained = 1; lost = 0 }
  tally = refl

  pub settled_tally : (ts_sync_meaning ts_sync 2).settled_tally taken
      ≡ record { taken = 3; put = 3; dropped = 0; cut = 0; gained = 1; lost = 0 }
  settled_tally = refl

  -- what was never evidence is cut
  pub all_cut : (ts_sync_meaning ts_sync 2).tally (plain packet ∷ [])
      ≡ record { taken = 1; put = 0; dropped = 0; cut = 188; gained = 0; lost = 0 }
  all_cut = refl

  pub one_lost : (ts_sync_meaning ts_sync 1).tally (plain (packet ++ 0 ∷ packet) ∷ [])
      ≡ record { taken = 1; put = 2; dropped = 0; cut = 1; gained = 2; lost = 1 }
  one_lost = refl

  pub no_packets : (ts_sync_meaning ts_sync 2).tally [] ≡ nothing
  no_packets = refl

  pub evidence : ts_sync_setting ts_sync 2 Sync
      ≡ Some (record { value = pos 2; low = pos 1; high = pos 16; set = λ value. ts_sync (unsigned_abs value) })
  evidence = refl

  pub no_other : (ts_sync_setting ts_sync 2 Mtu ≡ None) × (ts_sync_setting ts_sync 2 Align ≡ None)
      × (ts_sync_setting ts_sync 2 Offset ≡ None)
      × (ts_sync_setting ts_sync 2 Low ≡ None) × (ts_sync_setting ts_sync 2 High ≡ None)
      × (ts_sync_setting ts_sync 2 By ≡ None)
  no_other = (refl, refl, refl, refl, refl, refl)
