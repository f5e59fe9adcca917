-- Packets without attributes.
use Rattle.std.proofs.Common.{◌≡◌, ℕ, ◌≤◌, ◌*◌, All, List, drop, [], ◌∷◌, ◌∙◌, refl, length, sym, arith}
use Rattle.std.proofs.lemmas.List.{length-take}
use Rattle.std.proofs.lemmas.List.Elements.{All-nil, All-cons, All-map}
use Rattle.std.specs.List.{range_with_len}
use Rattle.std.specs.Cmp.Lexicographic.{slice_cmp}
use Rattle.std.specs.Ordering.{nat_cmp}
use Rattle.std.specs.FinMap.{empty, entries, len, len-empty, len-entries}
use Rattle.up_model.specs.Cutting.{piece, pieces}
use Rattle.up_model.specs.Packet.{IsLegal, plain}
use Rattle.up_model.specs.declared.limits.TheConstants.{MAX_PACKET}
use Rattle.up_model.specs.declared.value.Value.{Value}

no_entries : (es : List (List ℕ × Value)) → length es ≡ 0 → es ≡ []
no_entries [] none = refl
no_entries (e ∷ es) none = absurd (omega arith)

-- one within the size of a packet is legal
pub plain_is_legal : (bytes : List ℕ) → length bytes ≤ MAX_PACKET → IsLegal (plain bytes)
plain_is_legal bytes few =
    let none : len (empty {X = Value} {R = slice_cmp nat_cmp}) ≡ 0 = len-empty (slice_cmp nat_cmp) Value in
    let is_empty : entries (empty {X = Value} {R = slice_cmp nat_cmp}) ≡ [] = no_entries _ (sym (len-entries empty) ∙ none) in
    record {
      few = omega (arith, none);
      names = rw is_empty (All-nil _);
      values = rw is_empty (All-nil _);
      size = few;
    }

everywhere : (P : ℕ → Type 0) → ((n : ℕ) → P n) → (numbers : List ℕ) → All P numbers
everywhere P is [] = All-nil P
everywhere P is (n ∷ numbers) = All-cons P n numbers (is n) (everywhere P is numbers)

-- pieces within the size of a packet are legal packets
pub pieces_are_legal : (size : ℕ) (bytes : List ℕ) (count : ℕ) → size ≤ MAX_PACKET → All IsLegal (pieces size bytes count)
pieces_are_legal size bytes count small =
    let legal : (place : ℕ) → IsLegal (plain (piece size bytes place)) =
    λ place. plain_is_legal (piece size bytes place) (omega (arith, small, length-take size (drop (place * size) bytes))) in
    All-map IsLegal (λ place. plain (piece size bytes place)) (range_with_len 0 count)
    (everywhere (λ place. IsLegal (plain (piece size bytes place))) legal (range_with_len 0 count))
