-- What comes of a module that is tried.
use Rattle.std.proofs.Common.{◌≡◌, ℕ, ◌≤◌, List, [], ◌∷◌, ◌++◌, length, map, Result, Ok, Err, refl, ap, sym, ◌∙◌, arith}
use Rattle.std.proofs.lemmas.List.Elements.{All-nil}
use Rattle.std.specs.FinMap.{entries, len, len-entries}
use Rattle.std.specs.Prelude.{IfOk}
use Rattle.up_model.specs.Kinds.{work_of}
use Rattle.up_model.specs.Packet.{IsLegal}
use Rattle.up_model.specs.Tallies.{nothing, plus, added, stopped}
use Rattle.up_model.specs.Work.{Work, no_work}
use Rattle.up_model.specs.declared.kind.Kind.{Kind}
use Rattle.up_model.specs.declared.limits.TheConstants.{MAX_PACKET}
use Rattle.up_model.specs.declared.plain_packet.PlainPacket.{PlainPacket}
use Rattle.up_model.specs.declared.tally.Tally.{Tally}
use Rattle.up_model.specs.declared.value.Value.{Value}
use Rattle.up_shape.specs.Growth.{Grew}
use Rattle.up_shape.specs.Outgoing.{Outgoing}
use Rattle.up_shape.specs.Trials.{IsWorkOf, copies, plain_flow}
use Rattle.up_shape.specs.VecPackets.{plain_of}
use Rattle.up_shape.specs.declared.trial.Came.{Came}
use Rattle.up_shape.specs.declared.vec_packet.VecPacket.{VecPacket}

-- two facts of what is Ok, together
pub of_both : {T E : Type 0} (P Q R : T → Type 0) (r : Result T E) → ((x : T) → P x → Q x → R x) → IfOk r P → IfOk r Q → IfOk r R
of_both P Q R (Ok x) both p q = both x p q
of_both P Q R (Err e) both p q = tt

bytes_of : (packets : List VecPacket) → map (λ p. (plain_of p).bytes) packets ≡ map (λ packet. packet.bytes) (map plain_of packets)
bytes_of [] = refl
bytes_of (p ∷ packets) = ap (λ rest. (plain_of p).bytes ∷ rest) (bytes_of packets)

kept_from_nothing : (sums : Tally) → added nothing sums ≡ stopped (plus nothing sums)
kept_from_nothing sums = grind arith

module _ (kind : Kind) (taken : List (List ℕ)) (old new : Outgoing VecPacket) (came : Came) where
  pub came_of_work : old.packets ≡ [] → old.tally ≡ nothing → Grew plain_of old new no_work (work_of kind (plain_flow taken))
      → copies came.put ≡ map (λ p. (plain_of p).bytes) new.packets → came.sums ≡ new.tally → IsWorkOf kind taken came
  came_of_work empty uncounted grew put sums = record {
    put =
        put ∙ ap (map (λ p. (plain_of p).bytes)) (grew.packets ∙ ap (λ front. front ++ grew.given) empty)
        ∙ bytes_of grew.given ∙ ap (map (λ packet. packet.bytes)) (sym grew.flow);
    sums =
        sums ∙ grew.tally ∙ ap (λ tally. added tally grew.growth) uncounted
        ∙ kept_from_nothing grew.growth ∙ ap stopped (sym grew.sums);
  }

no_entries : (es : List (List ℕ × Value)) → length es ≡ 0 → es ≡ []
no_entries [] none = refl
no_entries (e ∷ es) none = absurd (omega arith)

-- a packet without attributes, within the size of one, is legal
pub bare_is_legal : (packet : PlainPacket) → len packet.attrs ≡ 0 → length packet.bytes ≤ MAX_PACKET → IsLegal packet
bare_is_legal packet none few =
    let is_empty : entries packet.attrs ≡ [] = no_entries _ (sym (len-entries packet.attrs) ∙ none) in
    record {
      few = omega (arith, none);
      names = rw is_empty (All-nil _);
      values = rw is_empty (All-nil _);
      size = few;
    }
