use Rattle.up_model.proofs.PlainReading.{AreRead}
use Rattle.up_model.proofs.plain_frames.attributes_at.Given as goal

abbrev pub invariant-loop : goal.invariant-loop
invariant-loop l = AreRead l.count l.counter l.bytes l.attrs.items l.before l.rest
