-- A packet that passed, as the plain packet that it stands for.
use Rattle.up_model.specs.declared.verdict.Verdict.{Verdict}
use Rattle.up_model.specs.declared.verdict.Verdict.TheVariants.{Passes, Drops}
use Rattle.up_model.specs.declared.plain_packet.PlainPacket.{PlainPacket}

abbrev pub plain_verdict : {P : Type 0} → (P → PlainPacket) → Verdict P → Verdict PlainPacket
plain_verdict plain (Passes packet cut) = Passes (plain packet) cut
plain_verdict plain Drops = Drops
