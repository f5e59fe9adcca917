-- Attributes that are passed over one by one.
use Rattle.std.proofs.Common.{◌≡◌, ℕ, suc, ◌+◌, ◌-◌, ◌<◌, ◌≤◌, List, [], ◌∷◌, ◌++◌, Ok, Err, refl, sym, ap, ◌∙◌, append_assoc, append-nil, arith}
use Rattle.up_model.proofs.AttrLists.{Attr, attrs_of}
use Rattle.up_model.proofs.FrameFields.{found}
use Rattle.up_model.specs.FrameFronts.{Front, ◌>>=◌, field, attribute_at, attributes_at, is_any, content_at}
use Rattle.up_model.specs.declared.frame_layout.NotWhole.{NotWhole}
use Rattle.up_model.specs.declared.plain_packet.PlainPacket.{PlainPacket}
use Rattle.up_model.specs.declared.value.Value.{Value}

-- what is read, behind attributes that were read before
with_front : List Attr → Front (List Attr) → Front (List Attr)
with_front front read = read >>= λ x. found (front ++ x.0, x.1)

-- so many of the attributes were passed, and the others begin here
pub record Passed (count passed : ℕ) (bytes before rest : List ℕ) : Type 0 where
  pub front : List Attr
  is : with_front front (attributes_at (count - passed) before rest) ≡ attributes_at count [] bytes

nothing_before : (read : Front (List Attr)) → with_front [] read ≡ read
unfolding with_front
nothing_before (Ok x) = refl
nothing_before (Err refused) = refl

pub none_passed : (count : ℕ) (bytes : List ℕ) → Passed count 0 bytes [] bytes
none_passed count bytes =
    let all : count - 0 ≡ count = omega arith in
    record { front = []; is = ap (λ (n : ℕ). with_front [] (attributes_at n [] bytes)) all ∙ nothing_before (attributes_at count [] bytes) }

one_over : (front : List Attr) (attr : Attr) (read : Front (List Attr))
    → with_front front (read >>= λ others. found (attr ∷ others.0, others.1)) ≡ with_front (front ++ attr ∷ []) read
unfolding with_front
one_over front attr (Ok x) = ap (λ (list : List Attr). found (list, x.1)) (sym (append_assoc front (attr ∷ []) x.0))
one_over front attr (Err refused) = refl

pub one_passed : (count passed : ℕ) (bytes before rest : List ℕ) (name : List ℕ) (value : Value) (after : List ℕ) → passed < count
    → attribute_at before rest ≡ Ok ((name, value), after) → Passed count passed bytes before rest → Passed count (passed + 1) bytes name after
unfolding attributes_at with_front
one_passed count passed bytes before rest name value after more is so_far =
    let attr : Attr = (name, value) in
    let left : count - passed ≡ suc (count - (passed + 1)) = omega arith in
    let next : with_front so_far.front (attributes_at (count - passed) before rest) ≡ with_front (so_far.front ++ attr ∷ []) (attributes_at (count - (passed + 1)) name after) =
    ap (λ (n : ℕ). with_front so_far.front (attributes_at n before rest)) left
    ∙ ap (λ (r : Front Attr). with_front so_far.front (r >>= λ first. attributes_at (count - (passed + 1)) first.0.0 first.1 >>= λ others. found (first.0 ∷ others.0, others.1))) is
    ∙ one_over so_far.front attr (attributes_at (count - (passed + 1)) name after) in
    record { front = so_far.front ++ attr ∷ []; is = sym next ∙ so_far.is }

-- one that isn't whole ends them all
pub one_refused : (count passed : ℕ) (bytes before rest : List ℕ) (refused : NotWhole) → passed < count
    → attribute_at before rest ≡ Err refused → Passed count passed bytes before rest → attributes_at count [] bytes ≡ Err refused
unfolding attributes_at with_front
one_refused count passed bytes before rest refused more is so_far =
    let left : count - passed ≡ suc (count - (passed + 1)) = omega arith in
    sym so_far.is
    ∙ ap (λ (n : ℕ). with_front so_far.front (attributes_at n before rest)) left
    ∙ ap (λ (r : Front Attr). with_front so_far.front (r >>= λ first. attributes_at (count - (passed + 1)) first.0.0 first.1 >>= λ others. found (first.0 ∷ others.0, others.1))) is

pub all_passed : (count passed : ℕ) (bytes before rest : List ℕ) → count ≤ passed → (p : Passed count passed bytes before rest)
    → attributes_at count [] bytes ≡ Ok (p.front, rest)
unfolding attributes_at with_front
all_passed count passed bytes before rest none p =
    let left : count - passed ≡ 0 = omega arith in
    sym p.is
    ∙ ap (λ (n : ℕ). with_front p.front (attributes_at n before rest)) left
    ∙ ap (λ (list : List Attr). found (list, rest)) (append-nil p.front)

abbrev packet_of : List Attr → List ℕ → PlainPacket
packet_of attrs bytes = record { attrs = attrs_of attrs; bytes = bytes }

-- a packet is what its attributes and its bytes are
pub content_is : (count size : ℕ) (bytes : List ℕ) (attrs : List Attr × List ℕ) (content : List ℕ × List ℕ)
    → attributes_at count [] bytes ≡ Ok attrs → field size is_any attrs.1 ≡ Ok content
    → content_at count size bytes ≡ Ok (packet_of attrs.0 content.0, content.1)
unfolding content_at
content_is count size bytes attrs content first second =
    ap (λ (r : Front (List Attr)). r >>= λ attrs. field size is_any attrs.1 >>= λ content. found (packet_of attrs.0 content.0, content.1)) first
    ∙ ap (λ (r : Front (List ℕ)). r >>= λ content. found (packet_of attrs.0 content.0, content.1)) second
