-- Worked examples of `chunk`, computed.
use Rattle.std.proofs.Common.{◌≡◌, ℕ, pos, [], ◌∷◌, map, Some, None, refl}
use Rattle.std.specs.Prelude.{codes}
use Rattle.std.specs.Int.RustNames.{unsigned_abs}
use Rattle.up_model.specs.Attrs.{Attrs}
use Rattle.up_model.specs.Chunk.{chunked, chunked_so_far, chunk_meaning, chunk_setting}
use Rattle.up_model.specs.Packet.{Flow, plain}
use Rattle.up_model.specs.Tallies.{nothing}
use Rattle.up_model.specs.declared.kind.Kind.{Kind}
use Rattle.up_model.specs.declared.opt.Opt.TheVariants.{Mtu, Align, Offset, Low, High, By, Sync}

-- packets of 3, 0, 5 and 3 bytes
abbrev taken : Flow
taken = map plain (codes "abc" ∷ [] ∷ codes "defgh" ∷ codes "ijk" ∷ [])

-- an mtu of 5 is cut down to 4, and the last byte fills no multiple of 2
pub eleven_bytes : chunked 5 2 taken ≡ map plain (codes "abcd" ∷ codes "efgh" ∷ codes "ij" ∷ [])
eleven_bytes = refl

-- before the end, the pieces of 4 alone
pub so_far : chunked_so_far 5 2 taken ≡ map plain (codes "abcd" ∷ codes "efgh" ∷ [])
so_far = refl

-- a rest that fills the multiple is put out at the end alone, and whole
pub seven_bytes :
    (chunked 4 1 (map plain (codes "abc" ∷ codes "def" ∷ codes "g" ∷ [])) ≡ map plain (codes "abcd" ∷ codes "efg" ∷ []))
    × (chunked_so_far 4 1 (map plain (codes "abc" ∷ codes "def" ∷ codes "g" ∷ [])) ≡ map plain (codes "abcd" ∷ []))
seven_bytes = (refl, refl)

-- one byte short of a piece, and one more
pub around_a_piece :
    (chunked_so_far 4 1 (map plain (codes "abc" ∷ [])) ≡ [])
    × (chunked_so_far 4 1 (map plain (codes "abc" ∷ codes "d" ∷ [])) ≡ plain (codes "abcd") ∷ [])
    × (chunked 4 1 (map plain (codes "abcd" ∷ [])) ≡ plain (codes "abcd") ∷ [])
around_a_piece = (refl, refl, refl)

-- an mtu of 1 gives each byte by itself
pub mtu_of_one : chunked 1 1 (plain (codes "abc") ∷ []) ≡ map plain (codes "a" ∷ codes "b" ∷ codes "c" ∷ [])
mtu_of_one = refl

-- `align` is at most `mtu`: where they are one, there is no rest; so it is where `mtu` is less than twice as much
pub one_multiple :
    (chunked 3 3 (plain (codes "abcdefgh") ∷ []) ≡ map plain (codes "abc" ∷ codes "def" ∷ []))
    × (chunked 5 3 (plain (codes "abcdefgh") ∷ []) ≡ map plain (codes "abc" ∷ codes "def" ∷ []))
one_multiple = (refl, refl)

-- fewer bytes than `align` give nothing, and so do empty packets
pub nothing_whole : (chunked 8 4 (plain (codes "abc") ∷ []) ≡ []) × (chunked 8 4 (plain [] ∷ plain [] ∷ []) ≡ [])
nothing_whole = (refl, refl)

-- each piece has the attributes of its first byte: an empty packet before it, or the packet of its second byte, don't count
pub attrs_of_first_byte : (first empty_one second : Attrs)
    → chunked 3 1 (record { attrs = first; bytes = codes "abcd" } ∷ record { attrs = empty_one; bytes = [] }
    ∷ record { attrs = second; bytes = codes "efg" } ∷ [])
    ≡ record { attrs = first; bytes = codes "abc" } ∷ record { attrs = first; bytes = codes "def" }
    ∷ record { attrs = second; bytes = codes "g" } ∷ []
attrs_of_first_byte first empty_one second = refl

module _ (chunk : ℕ → ℕ → Kind) where
  -- one byte of the eleven is cut, at the end
  pub tally : (chunk_meaning chunk 5 2).tally taken
      ≡ record { taken = 4; put = 3; dropped = 0; cut = 1; gained = 0; lost = 0 }
  tally = refl

  pub settled_tally : (chunk_meaning chunk 5 2).settled_tally taken
      ≡ record { taken = 4; put = 2; dropped = 0; cut = 0; gained = 0; lost = 0 }
  settled_tally = refl

  pub no_packets : (chunk_meaning chunk 5 2).tally [] ≡ nothing
  no_packets = refl

  -- its size goes down to its alignment, which goes up to it
  pub mtu : chunk_setting chunk 5 2 Mtu
      ≡ Some (record { value = pos 5; low = pos 2; high = pos 1048576; set = λ value. chunk (unsigned_abs value) 2 })
  mtu = refl

  pub align : chunk_setting chunk 5 2 Align
      ≡ Some (record { value = pos 2; low = pos 1; high = pos 5; set = λ value. chunk 5 (unsigned_abs value) })
  align = refl

  pub no_other : (chunk_setting chunk 5 2 Offset ≡ None) × (chunk_setting chunk 5 2 Low ≡ None)
      × (chunk_setting chunk 5 2 High ≡ None)
      × (chunk_setting chunk 5 2 By ≡ None) × (chunk_setting chunk 5 2 Sync ≡ None)
  no_other = (refl, refl, refl, refl, refl)
