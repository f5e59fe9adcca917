-- What a module that looks at each packet by itself puts into an outbox.
use Rattle.std.proofs.Common.{◌≡◌, ℕ, [], ◌∷◌, ◌++◌, length, Result, Ok, Err, sym, ap, ◌∙◌}
use Rattle.std.specs.Prelude.{OnErr}
use Rattle.up_model.proofs.Packetwise.{with_packet, with_sums, work-passes, work-drops, passed-append, summed-grows}
use Rattle.up_model.specs.Packet.{Flow}
use Rattle.up_model.specs.Packetwise.{Step, passed, work_by}
use Rattle.up_model.specs.Tallies.{of_passed, of_dropped}
use Rattle.up_model.specs.Work.{Work}
use Rattle.up_model.specs.declared.verdict.Verdict.TheVariants.{Passes, Drops}
use Rattle.up_model.specs.declared.plain_packet.PlainPacket.{PlainPacket}
use Rattle.up_shape.proofs.Growths.{puts_nothing}
use Rattle.up_shape.specs.Growth.{GrewInPart}
use Rattle.up_shape.specs.Outgoing.{Outgoing}

module _ (step : Step) (work : Flow → Work) (settles : (taken : Flow) → work taken ≡ work_by step taken) (fed : Flow) (packet : PlainPacket) where
  pub one_passes : (put : PlainPacket) (cut : ℕ) → Passes put cut ≡ step packet → work (fed ++ packet ∷ []) ≡ with_packet (work fed) put (of_passed cut)
  one_passes put cut is = settles _ ∙ work-passes step fed packet put cut (sym is) ∙ ap (λ w. with_packet w put (of_passed cut)) (sym (settles fed))

  pub one_drops : Drops ≡ step packet → work (fed ++ packet ∷ []) ≡ with_sums (work fed) (of_dropped (length packet.bytes))
  one_drops is = settles _ ∙ work-drops step fed packet (sym is) ∙ ap (λ w. with_sums w (of_dropped (length packet.bytes))) (sym (settles fed))

  -- nothing was put out and nothing counted
  pub none_put : {P : Type 0} (plain : P → PlainPacket) (old new : Outgoing P) → new.packets ≡ old.packets → new.tally ≡ old.tally
      → GrewInPart plain old new (work fed) (work (fed ++ packet ∷ []))
  none_put plain old new packets tally =
      rw (settles fed, settles (fed ++ packet ∷ []))
      (puts_nothing plain old new (work_by step fed) (work_by step (fed ++ packet ∷ [])) packets tally
      (passed step (packet ∷ []), passed-append step fed (packet ∷ [])) (summed-grows step fed (packet ∷ [])))

-- what is so anyway is so of what is Err
pub if_refused : {T E : Type 0} (r : Result T E) (IsSo : Type 0) → IsSo → OnErr r IsSo
if_refused (Ok x) IsSo so = tt
if_refused (Err e) IsSo so = so
