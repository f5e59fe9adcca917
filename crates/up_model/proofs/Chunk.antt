-- The kind `chunk` keeps the laws.
use Rattle.std.proofs.Common.{◌≡◌, ℕ, ◌+◌, ◌-◌, ◌*◌, ◌/◌, ◌%◌, ◌<◌, ◌≤◌, ◌==◌, [], ◌∷◌, ◌++◌, All, length, Bool, true, false, if◌then◌else◌, refl, ap, ◌∙◌, arith, length-append}
use Rattle.std.specs.List.{range_with_len}
use Rattle.std.proofs.Math.Nat.{div-mul-le_self, zero-div, zero-mod}
use Rattle.std.proofs.lemmas.Nat.{le-div, mod_below}
use Rattle.std.proofs.lemmas.List.Elements.{All-nil, All-cons, All-append, All-map}
use Rattle.up_base.specs.Lists.{IsPrefix}
use Rattle.up_model.proofs.Joined.{joined-append}
use Rattle.up_model.proofs.Lawful.{KeepsFlows}
use Rattle.up_model.proofs.Parts.{begins_longer, held_grows, held_cut, part_of_front, part_is_legal, made_longer, of_each}
use Rattle.up_model.specs.Chunk.{AreSizes, down_to_multiple, full_parts, rest_part, chunked, chunked_so_far, chunk_meaning}
use Rattle.up_model.specs.Packet.{PlainPacket, Flow, IsLegal, joined}
use Rattle.up_model.specs.Parts.{part_of, of_cut, of_held}
use Rattle.up_model.specs.declared.kind.Kind.{Kind}

-- a piece has at least one byte, and at most `mtu`
pub piece_has_bytes : (mtu align : ℕ) → AreSizes mtu align → 0 < down_to_multiple align mtu
piece_has_bytes mtu align sizes = omega (arith, mod_below mtu align (omega (arith, sizes.some)), sizes.fits)

pub piece_fits : (mtu align : ℕ) → down_to_multiple align mtu ≤ mtu
piece_fits mtu align = omega arith

-- full pieces stay, whatever comes behind them
pub full_parts_stay : (size : ℕ) (taken more : Flow) → 0 < size
    → IsPrefix (full_parts size taken) (full_parts size (taken ++ more))
full_parts_stay size taken more some =
    let within : length (joined taken) / size * size ≤ length (joined taken) = div-mul-le_self (length (joined taken)) size in
    let all : length (joined taken) ≤ length (joined (taken ++ more)) =
    rw (joined-append taken more) (omega (arith, length-append (joined taken) (joined more))) in
    made_longer _ _ 0 (length (joined taken) / size) (length (joined (taken ++ more)) / size)
    (le-div (length (joined taken) / size) (length (joined (taken ++ more))) size some (omega (arith, within, all)))
    (λ place from below. part_of_front taken more (place * size) size some (in_front place below within))
  where
    in_front : (place : ℕ) → place < 0 + length (joined taken) / size
        → length (joined taken) / size * size ≤ length (joined taken)
        → place * size + size ≤ length (joined taken)
    in_front place below within =
        let others : length (joined taken) / size ≡ place + 1 + (length (joined taken) / size - (place + 1)) =
        omega (arith, below) in
        let apart : (place + 1 + (length (joined taken) / size - (place + 1))) * size
        ≡ place * size + size + (length (joined taken) / size - (place + 1)) * size = omega arith in
        let all : length (joined taken) / size * size
        ≡ place * size + size + (length (joined taken) / size - (place + 1)) * size =
        ap (λ count. count * size) others ∙ apart in
        omega (arith, all, within)

if_any_is_legal : (none : Bool) (packet : PlainPacket) → IsLegal packet → All IsLegal (if none then [] else packet ∷ [])
if_any_is_legal true packet legal = All-nil IsLegal
if_any_is_legal false packet legal = All-cons IsLegal packet [] legal (All-nil IsLegal)

module _ (mtu align : ℕ) (sizes : AreSizes mtu align) where
  abbrev size : ℕ
  size = down_to_multiple align mtu

  -- no bytes give no piece
  full_of_none : full_parts size [] ≡ []
  full_of_none = rw (zero-div size) refl

  chunked_of_none : chunked mtu align [] ≡ []
  chunked_of_none = rw (zero-div size, zero-mod size, zero-mod align) refl

  pub full_are_legal : (taken : Flow) → All IsLegal taken → All IsLegal (full_parts size taken)
  full_are_legal taken legal =
      All-map IsLegal (λ place. part_of taken (place * size) size) (range_with_len 0 (length (joined taken) / size))
      (of_each IsLegal (λ place. part_of taken (place * size) size)
      (λ place. part_is_legal taken (place * size) size (omega (arith, sizes.small, piece_fits mtu align)) legal)
      (range_with_len 0 (length (joined taken) / size)))

  pub chunked_is_legal : (taken : Flow) → All IsLegal taken → All IsLegal (chunked mtu align taken)
  chunked_is_legal taken legal =
      let left = length (joined taken) % size in
      All-append IsLegal (full_parts size taken) (rest_part size align taken) (full_are_legal taken legal)
      (if_any_is_legal (down_to_multiple align left == 0)
      (part_of taken (length (joined taken) / size * size) (down_to_multiple align left))
      (part_is_legal taken (length (joined taken) / size * size) (down_to_multiple align left)
      (omega (
        arith,
        sizes.small,
        piece_fits mtu align,
        mod_below (length (joined taken)) size (piece_has_bytes mtu align sizes),
      )) legal))

  so_far_longer : (taken more : Flow) → IsPrefix (chunked_so_far mtu align taken) (chunked_so_far mtu align (taken ++ more))
  so_far_longer taken more = full_parts_stay size taken more (piece_has_bytes mtu align sizes)

  so_far_whole : (taken more : Flow) → IsPrefix (chunked_so_far mtu align taken) (chunked mtu align (taken ++ more))
  so_far_whole taken more = begins_longer _ _ (rest_part size align (taken ++ more)) (so_far_longer taken more)

  pub chunk_keeps_flows : (chunk : ℕ → ℕ → Kind) → KeepsFlows (chunk_meaning chunk mtu align)
  chunk_keeps_flows chunk = record {
    settles_nothing = full_of_none;
    settles_no_sums = ap (of_held []) full_of_none;
    owes_nothing = chunked_of_none;
    owes_no_sums = ap (of_cut []) chunked_of_none;
    longer = so_far_longer;
    whole = so_far_whole;
    sums_longer = λ taken more. held_grows taken more _ _ (so_far_longer taken more);
    sums_whole = λ taken more. held_cut taken more _ _ (so_far_whole taken more);
    counts_settled = λ taken. record { packets_taken = refl; packets_put = refl };
    counts_whole = λ taken. record { packets_taken = refl; packets_put = refl };
    legal = chunked_is_legal;
    writes_on = λ taken more. ([], refl);
  }
