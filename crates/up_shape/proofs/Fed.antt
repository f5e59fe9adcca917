-- A module that is being fed a flow, a packet at a time.
use Rattle.std.proofs.Common.{◌≡◌, List, [], ◌∷◌, ◌++◌, map, refl, sym, ap, ◌∙◌, subst, append-nil, append_assoc}
use Rattle.std.proofs.lemmas.List.{map-append}
use Rattle.up_model.proofs.EveryKind.{lawful}
use Rattle.up_model.specs.Kinds.{IsWithinBounds, settled_work}
use Rattle.up_model.specs.Packet.{Flow}
use Rattle.up_model.specs.declared.kind.Kind.{Kind}
use Rattle.up_model.specs.declared.plain_packet.PlainPacket.{PlainPacket}
use Rattle.up_shape.proofs.Growths.{owes_nothing, Grew-trans, GrewInPart-after, GrewInPart-longer}
use Rattle.up_shape.specs.Growth.{Grew, GrewInPart}
use Rattle.up_shape.specs.Outgoing.{Outgoing}

-- all of the whole flow but what is left was fed
pub record IsFed {M P : Type 0} (plain : P → PlainPacket) (kind : M → Kind)
    (stands : M → Flow → Type 0) (m now : M) (whole left : List P)
    (old new : Outgoing P) : Type 0 where
  pub packets : List P
  pub split : whole ≡ packets ++ left
  pub same : kind now ≡ kind m
  pub stood : (fed : Flow) → stands m fed → stands now (fed ++ map plain packets)
  pub grew : (fed : Flow) → stands m fed
      → Grew plain old new (settled_work (kind m) fed)
      (settled_work (kind m) (fed ++ map plain packets))

-- a flow and then one packet more
one_more : {P : Type 0} (plain : P → PlainPacket) (fed : Flow) (packets : List P) (packet : P)
    → (fed ++ map plain packets) ++ plain packet ∷ [] ≡ fed ++ map plain (packets ++ packet ∷ [])
one_more plain fed packets packet =
    append_assoc fed (map plain packets) (plain packet ∷ []) ∙ ap (λ more. fed ++ more) (sym (map-append plain packets (packet ∷ [])))

-- a flow, one packet more, and those that are left
all_of_it : {P : Type 0} (plain : P → PlainPacket) (fed : Flow) (whole packets left : List P) (packet : P) → whole ≡ packets ++ packet ∷ left
    → ((fed ++ map plain packets) ++ plain packet ∷ []) ++ map plain left ≡ fed ++ map plain whole
all_of_it plain fed whole packets left packet split =
    append_assoc (fed ++ map plain packets) (plain packet ∷ []) (map plain left)
    ∙ append_assoc fed (map plain packets) (plain packet ∷ map plain left)
    ∙ ap (λ more. fed ++ more) (sym (map-append plain packets (packet ∷ left)) ∙ ap (map plain) (sym split))

module _ {M P : Type 0} (plain : P → PlainPacket) (kind : M → Kind) (stands : M → Flow → Type 0) (m : M) (whole : List P) (old : Outgoing P) where
  -- at the start nothing was fed
  pub not_fed : IsFed plain kind stands m m whole whole old old
  not_fed = record {
    packets = [];
    split = refl;
    same = refl;
    stood = λ fed stood. subst (stands m) (sym (append-nil fed)) stood;
    grew = λ fed stood. rw (append-nil fed) (owes_nothing plain old (settled_work (kind m) fed));
  }

  -- the next packet was fed
  pub fed_next : (now next : M) (packet : P) (left : List P) (mid new : Outgoing P)
      → IsFed plain kind stands m now whole (packet ∷ left) old mid → kind next ≡ kind now
      → ((fed : Flow) → stands now fed → stands next (fed ++ plain packet ∷ []))
      → ((fed : Flow) → stands now fed → Grew plain mid new (settled_work (kind now) fed) (settled_work (kind now) (fed ++ plain packet ∷ [])))
      → IsFed plain kind stands m next whole left old new
  fed_next now next packet left mid new before same stood grew = record {
    packets = before.packets ++ packet ∷ [];
    split = before.split ∙ sym (append_assoc before.packets (packet ∷ []) left);
    same = same ∙ before.same;
    stood = λ fed h. subst (stands next) (one_more plain fed before.packets packet) (stood _ (before.stood fed h));
    grew = λ fed h.
        let of_kind : Kind → Type 0 = λ k. Grew plain mid new (settled_work k (fed ++ map plain before.packets)) (settled_work k ((fed ++ map plain before.packets) ++ plain packet ∷ [])) in
        let step = subst of_kind before.same (grew _ (before.stood fed h)) in
        let of_flow : Flow → Type 0 = λ flow. Grew plain mid new (settled_work (kind m) (fed ++ map plain before.packets)) (settled_work (kind m) flow) in
        Grew-trans plain old mid new _ _ _ (before.grew fed h) (subst of_flow (one_more plain fed before.packets packet) step);
  }

  -- the next packet was fed in part, and those that were left weren't
  pub fed_in_part : IsWithinBounds (kind m) → (now : M) (packet : P) (left : List P) (mid new : Outgoing P)
      → IsFed plain kind stands m now whole (packet ∷ left) old mid
      → ((fed : Flow) → stands now fed → GrewInPart plain mid new (settled_work (kind now) fed) (settled_work (kind now) (fed ++ plain packet ∷ [])))
      → (fed : Flow) → stands m fed → GrewInPart plain old new (settled_work (kind m) fed) (settled_work (kind m) (fed ++ map plain whole))
  fed_in_part within now packet left mid new before in_part fed h =
      let of_kind : Kind → Type 0 = λ k. GrewInPart plain mid new (settled_work k (fed ++ map plain before.packets)) (settled_work k ((fed ++ map plain before.packets) ++ plain packet ∷ [])) in
      let last = subst of_kind before.same (in_part _ (before.stood fed h)) in
      let part = GrewInPart-after plain old mid new _ _ _ (before.grew fed h) last in
      let flows = (lawful (kind m)).flows within in
      let reached = (fed ++ map plain before.packets) ++ plain packet ∷ [] in
      let of_flow : Flow → Type 0 = λ flow. GrewInPart plain old new (settled_work (kind m) fed) (settled_work (kind m) flow) in
      subst of_flow (all_of_it plain fed whole before.packets left packet before.split)
      (GrewInPart-longer plain old new _ _ _ part (flows.longer reached (map plain left)) (flows.sums_longer reached (map plain left)))
