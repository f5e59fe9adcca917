-- What a module puts into an outbox from nothing up to the end of a flow.
use Rattle.std.proofs.Common.{◌≡◌, [], subst, append-nil}
use Rattle.up_base.specs.Lists.{IsPrefix}
use Rattle.up_model.proofs.EveryKind.{lawful}
use Rattle.up_model.proofs.Lawful.{KeepsFlows}
use Rattle.up_model.specs.Kinds.{IsWithinBounds, meaning_of, output_of, settled_output, settled_work, work_of}
use Rattle.up_model.specs.Packet.{Flow}
use Rattle.up_model.specs.Tallies.{IsAtMost}
use Rattle.up_model.specs.Work.{Work, no_work}
use Rattle.up_model.specs.declared.kind.Kind.{Kind}
use Rattle.up_model.specs.declared.plain_packet.PlainPacket.{PlainPacket}
use Rattle.up_shape.proofs.Growths.{Grew-trans, GrewInPart-after, GrewInPart-longer}
use Rattle.up_shape.specs.Growth.{Grew, GrewInPart}
use Rattle.up_shape.specs.Outgoing.{Outgoing}

module _ {P : Type 0} (plain : P → PlainPacket) (kind : Kind) (within : IsWithinBounds kind) (flow : Flow) where
  flows : KeepsFlows (meaning_of kind)
  flows = (lawful kind).flows within

  nothing_yet : settled_work kind [] ≡ no_work
  nothing_yet = λ i. record { flow = flows.settles_nothing i; tally = flows.settles_no_sums i }

  settled_first : IsPrefix (settled_output kind flow) (output_of kind flow)
  settled_first = subst (λ taken. IsPrefix (settled_output kind flow) (output_of kind taken)) (append-nil flow) (flows.whole flow [])

  settled_at_most : IsAtMost (settled_work kind flow).tally (work_of kind flow).tally
  settled_at_most = subst (λ taken. IsAtMost (settled_work kind flow).tally (work_of kind taken).tally) (append-nil flow) (flows.sums_whole flow [])

  -- it was fed, and ended
  pub ended : (a b c : Outgoing P) → Grew plain a b (settled_work kind []) (settled_work kind flow)
      → Grew plain b c (settled_work kind flow) (work_of kind flow) → Grew plain a c no_work (work_of kind flow)
  ended a b c fed owed =
      subst (λ (work : Work). Grew plain a c work (work_of kind flow)) nothing_yet
      (Grew-trans plain a b c _ _ _ fed owed)

  -- it was fed, and ended in part
  pub ended_in_part : (a b c : Outgoing P) → Grew plain a b (settled_work kind []) (settled_work kind flow)
      → GrewInPart plain b c (settled_work kind flow) (work_of kind flow) → GrewInPart plain a c no_work (work_of kind flow)
  ended_in_part a b c fed owed =
      subst (λ (work : Work). GrewInPart plain a c work (work_of kind flow)) nothing_yet
      (GrewInPart-after plain a b c _ _ _ fed owed)

  -- it was fed in part
  pub begun : (a b : Outgoing P) → GrewInPart plain a b (settled_work kind []) (settled_work kind flow)
      → GrewInPart plain a b no_work (work_of kind flow)
  begun a b fed =
      subst (λ (work : Work). GrewInPart plain a b work (work_of kind flow)) nothing_yet
      (GrewInPart-longer plain a b _ _ _ fed settled_first settled_at_most)
