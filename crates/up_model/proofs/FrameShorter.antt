-- What stands behind a field or a frame is no longer than the bytes it stood in.
use Rattle.std.proofs.Common.{◌≡◌, ℕ, ◌+◌, ◌<◌, ◌≤◌, Bool, eqb, ltb, List, [], ◌∷◌, length, take, drop, Ok, ap, subst, arith}
use Rattle.std.proofs.lemmas.Bool.{ltb-false}
use Rattle.std.proofs.lemmas.List.{length-drop, length-take-le}
use Rattle.up_base.specs.Number.{big_endian}
use Rattle.up_model.proofs.FrameAllFields.{behind_mark, of_attribute, of_behind_mark}
use Rattle.up_model.proofs.FrameFields.{bind_ok, found, found_is, field_found}
use Rattle.up_model.proofs.FrameValues.{by_found}
use Rattle.up_model.specs.FrameFronts.{Front, ◌>>=◌, field, number_at, type_at, attribute_at, packet_at}
use Rattle.up_model.specs.ValueTypes.{type_with}
use Rattle.up_model.specs.declared.frame_layout.TheConstants.{MARK}
use Rattle.up_model.specs.declared.plain_packet.PlainPacket.{PlainPacket}

-- what is found leaves no more bytes than there were
abbrev pub Shrinks : {A : Type 0} → (List ℕ → Front A) → Type 0
Shrinks {A} front = (bytes : List ℕ) (x : A × List ℕ) → front bytes ≡ Ok x → length x.1 ≤ length bytes

found_shrinks : (A : Type 0) (x : A) → Shrinks (λ rest. found (x, rest))
found_shrinks A x bytes y e = subst (λ p. length p.1 ≤ length bytes) (found_is (x, bytes) y e) (omega arith)

bind_shrinks : (A B : Type 0) (front : List ℕ → Front A) (next : A → List ℕ → Front B) → Shrinks front
    → ((x : A) → Shrinks (next x)) → Shrinks (λ bytes. front bytes >>= λ x. next x.0 x.1)
bind_shrinks A B front next one others bytes y e =
    let a = bind_ok (front bytes) (λ x. next x.0 x.1) y e in
    let first = one bytes a.0 a.1 in
    let second = others a.0.0 a.0.1 y a.2 in
    omega (arith, first, second)

field_leaves : (size : ℕ) (rule : List ℕ → Bool) (bytes : List ℕ) (x : List ℕ × List ℕ) → field size rule bytes ≡ Ok x
    → length x.1 + size ≡ length bytes
field_leaves size rule bytes x e =
    let f = field_found (ltb (length bytes) size) (rule (take size bytes)) (take size bytes, drop size bytes) x e in
    let long : size ≤ length bytes = ltb-false _ _ f.0 in
    let left : length (drop size bytes) + size ≡ length bytes = omega (arith, length-drop size bytes) in
    subst (λ (p : List ℕ × List ℕ). length p.1 + size ≡ length bytes) f.2 left

-- a field has as many bytes as it should
pub field_size : (size : ℕ) (rule : List ℕ → Bool) (bytes : List ℕ) (x : List ℕ × List ℕ) → field size rule bytes ≡ Ok x → length x.0 ≡ size
field_size size rule bytes x e =
    let f = field_found (ltb (length bytes) size) (rule (take size bytes)) (take size bytes, drop size bytes) x e in
    subst (λ (p : List ℕ × List ℕ). length p.0 ≡ size) f.2 (length-take-le size bytes (ltb-false _ _ f.0))

field_shrinks : (size : ℕ) (rule : List ℕ → Bool) → Shrinks (field size rule)
field_shrinks size rule bytes x e = let left = field_leaves size rule bytes x e in omega (arith, left)

pub number_leaves : (size : ℕ) (rule : ℕ → Bool) (bytes : List ℕ) (x : ℕ × List ℕ) → number_at size rule bytes ≡ Ok x
    → length x.1 + size ≡ length bytes
number_leaves size rule bytes x e =
    let a = bind_ok (field size (λ digits. rule (big_endian digits)) bytes) (λ f. found (big_endian f.0, f.1)) x e in
    let left = field_leaves size (λ digits. rule (big_endian digits)) bytes a.0 a.1 in
    subst (λ (p : ℕ × List ℕ). length p.1 + size ≡ length bytes) (found_is (big_endian a.0.0, a.0.1) x a.2) left

type_shrinks : Shrinks type_at
type_shrinks [] x e = absurd cc
type_shrinks (number ∷ bytes) x e =
    let left : length bytes ≡ length x.1 = ap length (by_found (type_with number) bytes x e).1 in
    omega (arith, left)

pub attribute_shrinks : (before : List ℕ) → Shrinks (attribute_at before)
attribute_shrinks = of_attribute (λ A. Shrinks {A = A}) found_shrinks bind_shrinks field_shrinks type_shrinks

-- behind a frame there are fewer bytes than with it
pub packet_shrinks : (bytes : List ℕ) (x : PlainPacket × List ℕ) → packet_at bytes ≡ Ok x → length x.1 < length bytes
unfolding packet_at
packet_shrinks bytes x e =
    let a = bind_ok (number_at 1 (λ n. eqb n MARK) bytes) (λ mark. behind_mark mark.1) x e in
    let mark = number_leaves 1 (λ n. eqb n MARK) bytes a.0 a.1 in
    let others = of_behind_mark (λ A. Shrinks {A = A}) found_shrinks bind_shrinks field_shrinks type_shrinks a.0.1 x a.2 in
    omega (arith, mark, others)
