-- The slow meaning's turns: one packet more of a flow.
use Rattle.std.proofs.Common.{◌≡◌, ℕ, suc, zero, ◌+◌, List, [], ◌∷◌, ◌++◌, take, Some, None, Option, slice_get, refl, sym, ap, ◌∙◌, add-one, append-nil, zero-add, map}
use Rattle.std.proofs.lemmas.List.{map-append}
use Rattle.std.proofs.lemmas.List.Folds.{concat-append}
use Rattle.std.proofs.lemmas.List.FromFn.{map-range_with_len_more}
use Rattle.std.specs.List.{concat, cons_option}
use Rattle.std.specs.Option.{option_to_list}
use Rattle.up_model.proofs.Packetwise.{passed-append}
use Rattle.up_model.specs.Cutting.{piece, pieces}
use Rattle.up_model.specs.Packet.{PlainPacket, Flow, plain, joined}
use Rattle.up_model.specs.Packetwise.{Step, put_of, passed}

-- the first items, and the one that stands after them
pub take_next : {X : Type 0} (items : List X) (place : ℕ) (item : X) → slice_get items place ≡ Some item
    → take (place + 1) items ≡ take place items ++ item ∷ []
take_next [] place item there = absurd (cc)
take_next (first ∷ items) zero item there =
    let same : first ≡ item = cc in
    ap (λ one. one ∷ []) same
take_next (first ∷ items) (suc place) item there = rw add-one (ap (λ rest. first ∷ rest) (rw add-one at (take_next items place item there)))

-- one packet more
pub passed_next : (step : Step) (flow put : Flow) (place : ℕ) (packet : PlainPacket) → slice_get flow place ≡ Some packet
    → put ≡ passed step (take place flow) → put ++ option_to_list (put_of (step packet)) ≡ passed step (take (place + 1) flow)
passed_next step flow put place packet there before =
    rw before
    (sym
    (ap (passed step) (take_next flow place packet there)
    ∙ passed-append step (take place flow) (packet ∷ [])
    ∙ ap (λ more. passed step (take place flow) ++ more) (one_packet (put_of (step packet)))))
  where
    one_packet : (packet : Option PlainPacket) → cons_option packet [] ≡ option_to_list packet
    one_packet None = refl
    one_packet (Some packet) = refl

-- one piece more
pub pieces_next : (size : ℕ) (bytes : List ℕ) (packets : Flow) (place : ℕ) → packets ≡ pieces size bytes place
    → packets ++ plain (piece size bytes place) ∷ [] ≡ pieces size bytes (place + 1)
pieces_next size bytes packets place before =
    rw before (sym (map-range_with_len_more (λ place. plain (piece size bytes place)) 0 place place (zero-add place)))

-- the bytes of one packet more
pub joined_next : (flow : Flow) (bytes : List ℕ) (place : ℕ) (packet : PlainPacket) → slice_get flow place ≡ Some packet
    → bytes ≡ joined (take place flow) → bytes ++ packet.bytes ≡ joined (take (place + 1) flow)
joined_next flow bytes place packet there before =
    let bytes_of = λ (packet : PlainPacket). packet.bytes in
    rw before
    (sym
    (ap joined (take_next flow place packet there)
    ∙ ap concat (map-append bytes_of (take place flow) (packet ∷ []))
    ∙ concat-append (map bytes_of (take place flow)) (packet.bytes ∷ [])
    ∙ ap (λ more. joined (take place flow) ++ more) (append-nil packet.bytes)))
