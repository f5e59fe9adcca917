-- The bytes that `chunk` puts out: all that came, but the last that fill no multiple of `align`.
use Rattle.std.proofs.Common.{◌≡◌, ℕ, ◌+◌, ◌*◌, ◌/◌, ◌%◌, ◌==◌, List, [], ◌∷◌, ◌++◌, length, take, drop, map, Bool, true, false, if◌then◌else◌, refl, sym, ap, ◌∙◌, arith}
use Rattle.std.specs.List.{range_with_len}
use Rattle.std.proofs.Math.Nat.{dvd-mul_left, mod-mod_of_dvd, mod-le}
use Rattle.std.proofs.Math.Seq.{take-add}
use Rattle.std.proofs.lemmas.Bool.{eqb-true}
use Rattle.std.proofs.lemmas.List.{append-nil, length-take}
use Rattle.std.proofs.lemmas.Nat.{div-add-mod'}
use Rattle.up_model.proofs.Cuts.{joined-pieces}
use Rattle.up_model.proofs.Joined.{joined-append}
use Rattle.up_model.specs.Chunk.{down_to_multiple, full_parts, rest_part, chunked}
use Rattle.up_model.specs.Cutting.{piece}
use Rattle.up_model.specs.Packet.{Flow, joined, plain}
use Rattle.up_model.specs.Parts.{part_of, of_cut}
use Rattle.up_model.specs.Work.{CutsTheRest}

-- the attributes change no byte: full pieces have the bytes of as many pieces without
full_are_pieces : (size : ℕ) (flow : Flow) (places : List ℕ)
    → joined (map (λ place. part_of flow (place * size) size) places)
    ≡ joined (map (λ place. plain (piece size (joined flow) place)) places)
full_are_pieces size flow [] = refl
full_are_pieces size flow (place ∷ places) =
    ap (λ bytes. piece size (joined flow) place ++ bytes) (full_are_pieces size flow places)

pub joined-full_parts : (size : ℕ) (flow : Flow)
    → joined (full_parts size flow) ≡ take (length (joined flow) / size * size) (joined flow)
joined-full_parts size flow =
    full_are_pieces size flow (range_with_len 0 (length (joined flow) / size))
    ∙ joined-pieces size (joined flow) (length (joined flow) / size)

if_any : (none : Bool) (flow : Flow) (place size : ℕ) → (size == 0) ≡ none
    → joined (if none then [] else part_of flow place size ∷ []) ≡ take size (drop place (joined flow))
if_any true flow place size is =
    let no_size : size ≡ 0 = eqb-true size 0 is in
    rw no_size refl
if_any false flow place size is = append-nil (take size (drop place (joined flow)))

-- the pieces and the rest, one after the other
joined-by_parts : (size align : ℕ) (flow : Flow)
    → joined (full_parts size flow ++ rest_part size align flow)
    ≡ take (length (joined flow) / size * size + down_to_multiple align (length (joined flow) % size)) (joined flow)
joined-by_parts size align flow =
    let full = length (joined flow) / size * size in
    let rest = down_to_multiple align (length (joined flow) % size) in
    joined-append (full_parts size flow) (rest_part size align flow)
    ∙ ap (λ bytes. bytes ++ joined (rest_part size align flow)) (joined-full_parts size flow)
    ∙ ap (λ bytes. take full (joined flow) ++ bytes) (if_any (rest == 0) flow full rest refl)
    ∙ sym (take-add full rest (joined flow))

-- a piece is a multiple, so the rest is cut by as much as all bytes are
whole_multiple : (mtu align count : ℕ)
    → count / down_to_multiple align mtu * down_to_multiple align mtu + down_to_multiple align
    (count % down_to_multiple align mtu)
    ≡ down_to_multiple align count
whole_multiple mtu align count =
    let multiple : down_to_multiple align mtu ≡ mtu / align * align = omega (arith, div-add-mod' mtu align) in
    let same : count % down_to_multiple align mtu % align ≡ count % align =
    ap (λ s. count % s % align) multiple
    ∙ mod-mod_of_dvd align {b = mtu / align * align} count (dvd-mul_left align (mtu / align)) in
    omega (arith, div-add-mod' count (down_to_multiple align mtu), same, mod-le (count % down_to_multiple align mtu) align)

pub joined-chunked : (mtu align : ℕ) (flow : Flow)
    → joined (chunked mtu align flow) ≡ take (down_to_multiple align (length (joined flow))) (joined flow)
joined-chunked mtu align flow =
    joined-by_parts (down_to_multiple align mtu) align flow
    ∙ ap (λ count. take count (joined flow)) (whole_multiple mtu align (length (joined flow)))

-- what is cut and what goes on are the bytes
pub chunk_cuts : (mtu align : ℕ) (taken : Flow)
    → CutsTheRest (record { flow = chunked mtu align taken; tally = of_cut taken (chunked mtu align taken) }) taken
chunk_cuts mtu align taken =
    omega (
      arith,
      ap length (joined-chunked mtu align taken),
      length-take (down_to_multiple align (length (joined taken))) (joined taken),
    )
