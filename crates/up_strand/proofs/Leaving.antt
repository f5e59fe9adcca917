-- What leaves a node.
use Rattle.std.proofs.Common.{◌≡◌, ℕ, ◌<◌, List, ◌∷◌, length, set, get_or, Option, refl, sym, ap, ◌∙◌}
use Rattle.std.proofs.lemmas.List.{get_or_default, get_or-set_same}
use Rattle.up_shape.specs.Outgoing.{Outgoing}
use Rattle.up_strand.specs.TakenOut.{HasLeft}
use Rattle.up_strand.specs.declared.node.Node.{Node}
use Rattle.up_strand.specs.declared.strand.Strand.{Strand}

pub outgoing_same : {P : Type 0} (a b : Outgoing P) → a.packets ≡ b.packets → a.tally ≡ b.tally → a ≡ b
outgoing_same a b packets tally = ap (λ p. record a { packets = p }) packets ∙ ap (λ t. record a { packets = b.packets; tally = t }) tally

-- a node from which the first packet was taken out stands in its place
pub left_there : {P K : Type 0} (items : List (Node P K)) (i : ℕ) (node d : Node P K) (packet : P) (out : Outgoing P) → i < length items
    → node ≡ get_or items i node → node.out.packets ≡ packet ∷ out.packets → out.tally ≡ node.out.tally
    → HasLeft packet (get_or items i d) (get_or (set items i (record node { out = out })) i d)
left_there items i node d packet out within is first tally =
    rw (get_or-set_same items i (record node { out = out }) d within, get_or_default items i d node within, sym is)
    (record { first = first; tally = tally; same = refl })

pub kept_same : {P S K : Type 0} (strand : Strand P S K) (kept : Option P) → strand.kept ≡ kept → strand ≡ record strand { kept = kept }
kept_same {P} strand kept is = ap (λ (k : Option P). record strand { kept = k }) is
