-- Parts of the joined bytes of a flow, where more packets come behind it.
use Rattle.std.proofs.Common.{◌≡◌, ℕ, zero, suc, ◌+◌, ◌-◌, ◌<◌, ◌≤◌, List, [], ◌∷◌, ◌++◌, All, length, take, drop, map, Bool, true, false, if◌then◌else◌, refl, ap, ◌∙◌, arith, length-append, length-drop}
use Rattle.std.specs.Prelude.{nat_lt}
use Rattle.std.specs.List.{range_with_len}
use Rattle.std.proofs.lemmas.Bool.{ltb-false}
use Rattle.std.proofs.lemmas.List.{append_assoc, take-append-le, drop-append-le, length-take}
use Rattle.std.proofs.lemmas.List.Elements.{All-head, All-tail}
use Rattle.up_base.specs.Lists.{IsPrefix}
use Rattle.up_model.proofs.Joined.{joined-append}
use Rattle.up_model.proofs.Legality.{with_bytes}
use Rattle.up_model.proofs.Packets.{plain_is_legal}
use Rattle.up_model.specs.Packet.{Flow, Attrs, IsLegal, joined}
use Rattle.up_model.specs.Parts.{attrs_at, part_of, of_held, of_cut}
use Rattle.up_model.specs.Tallies.{IsAtMost}
use Rattle.up_model.specs.declared.limits.TheConstants.{MAX_PACKET}

-- what begins a list begins it with more behind it
pub begins_longer : {T : Type 0} (front whole more : List T) → IsPrefix front whole → IsPrefix front (whole ++ more)
begins_longer front whole more begins =
    (begins.0 ++ more, ap (λ list. list ++ more) begins.1 ∙ append_assoc front begins.0 more)

-- and what begins that begins the list
pub begins_first : {T : Type 0} (front middle whole : List T) → IsPrefix front middle → IsPrefix middle whole
    → IsPrefix front whole
begins_first front middle whole begins goes =
    (begins.0 ++ goes.0, goes.1 ∙ ap (λ list. list ++ goes.0) begins.1 ∙ append_assoc front begins.0 goes.0)

pub length-prefix : {T : Type 0} (front whole : List T) → IsPrefix front whole → length front ≤ length whole
length-prefix front whole begins = rw begins.1 (omega (arith, length-append front begins.0))

-- the sums grow where more is put out
pub held_grows : (taken more put later : Flow) → IsPrefix put later
    → IsAtMost (of_held taken put) (of_held (taken ++ more) later)
held_grows taken more put later begins = record {
  taken = omega (arith, length-append taken more);
  put = length-prefix put later begins;
  dropped = omega arith;
  cut = omega arith;
  gained = omega arith;
  lost = omega arith;
}

pub held_cut : (taken more put later : Flow) → IsPrefix put later
    → IsAtMost (of_held taken put) (of_cut (taken ++ more) later)
held_cut taken more put later begins = record {
  taken = omega (arith, length-append taken more);
  put = length-prefix put later begins;
  dropped = omega arith;
  cut = omega arith;
  gained = omega arith;
  lost = omega arith;
}

attrs_behind : (lies : Bool) (attrs one other : Attrs) → (lies ≡ false → one ≡ other)
    → (if lies then attrs else one) ≡ (if lies then attrs else other)
attrs_behind true attrs one other same = refl
attrs_behind false attrs one other same = same refl

-- a byte of the front stands in the same packet
pub attrs_of_front : (front more : Flow) (place : ℕ) → place < length (joined front)
    → attrs_at (front ++ more) place ≡ attrs_at front place
attrs_of_front [] more place within = absurd (omega arith)
attrs_of_front (packet ∷ front) more place within =
    attrs_behind (nat_lt place (length packet.bytes)) packet.attrs _ _
    (λ behind. attrs_of_front front more (place - length packet.bytes)
    (omega (arith, ltb-false place (length packet.bytes) behind, length-append packet.bytes (joined front), within)))

-- so a part of the front is one of the whole
pub part_of_front : (front more : Flow) (place size : ℕ) → 0 < size → place + size ≤ length (joined front)
    → part_of (front ++ more) place size ≡ part_of front place size
part_of_front front more place size some within =
    let attrs = attrs_of_front front more place (omega (arith, some, within)) in
    let bytes : take size (drop place (joined (front ++ more))) ≡ take size (drop place (joined front)) =
    ap (λ all. take size (drop place all)) (joined-append front more)
    ∙ ap (take size) (drop-append-le place (joined front) (joined more) (omega (arith, within)))
    ∙ take-append-le size (drop place (joined front)) (joined more)
    (omega (arith, length-drop place (joined front), within)) in
    λ i. record { attrs = attrs i; bytes = bytes i }

legal_behind : (lies : Bool) (one other : Attrs) → IsLegal (record { attrs = one; bytes = [] })
    → IsLegal (record { attrs = other; bytes = [] })
    → IsLegal (record { attrs = if lies then one else other; bytes = [] })
legal_behind true one other is_one is_other = is_one
legal_behind false one other is_one is_other = is_other

attrs_are_legal : (flow : Flow) (place : ℕ) → All IsLegal flow → IsLegal (record { attrs = attrs_at flow place; bytes = [] })
attrs_are_legal [] place legal = plain_is_legal [] (omega arith)
attrs_are_legal (packet ∷ flow) place legal =
    legal_behind (nat_lt place (length packet.bytes)) packet.attrs _
    (with_bytes packet (All-head IsLegal packet flow legal) [] (omega arith))
    (attrs_are_legal flow (place - length packet.bytes) (All-tail IsLegal packet flow legal))

-- a part of legal packets within the size of a packet is one
pub part_is_legal : (flow : Flow) (place size : ℕ) → size ≤ MAX_PACKET → All IsLegal flow → IsLegal (part_of flow place size)
part_is_legal flow place size small legal =
    with_bytes _ (attrs_are_legal flow place legal) (take size (drop place (joined flow)))
    (omega (arith, small, length-take size (drop place (joined flow))))

-- what is made of a run of numbers begins what is made of a longer one, where both make the same of the first
pub made_longer : {X : Type 0} (f g : ℕ → X) (start count all : ℕ) → count ≤ all
    → ((n : ℕ) → start ≤ n → n < start + count → g n ≡ f n)
    → IsPrefix (map f (range_with_len start count)) (map g (range_with_len start all))
made_longer f g start zero all few same = (map g (range_with_len start all), refl)
made_longer f g start (suc count) zero few same = absurd (omega arith)
made_longer f g start (suc count) (suc all) few same =
    let first = same start (omega arith) (omega arith) in
    let others = made_longer f g (start + 1) count all (omega arith) (λ n from below. same n (omega arith) (omega arith)) in
    (others.0, λ i. first i ∷ others.1 i)

-- everything that is so of each number is so of each of a list
pub of_each : {X : Type 0} (IsSo : X → Type 0) (f : ℕ → X) → ((n : ℕ) → IsSo (f n)) → (numbers : List ℕ)
    → All (λ n. IsSo (f n)) numbers
of_each IsSo f is numbers = λ k d within. is _
