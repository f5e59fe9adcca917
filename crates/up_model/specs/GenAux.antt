-- The kind `genaux`: puts a number that a packet has as an attribute in the place of its bytes.
use Rattle.std.specs.Prelude.{ℕ, List, Option, Some, None}
use Rattle.up_base.specs.Number.{big_endian_bytes}
use Rattle.up_model.specs.Attrs.{unsigned_at}
use Rattle.up_model.specs.KindMeaning.{KindMeaning, no_options}
use Rattle.up_model.specs.Packet.{PlainPacket}
use Rattle.up_model.specs.Packetwise.{Step, packetwise}
use Rattle.up_model.specs.declared.fan_out.FanOut.TheVariants as fans
use Rattle.up_model.specs.declared.verdict.Verdict.{Verdict}
use Rattle.up_model.specs.declared.verdict.Verdict.TheVariants.{Passes, Drops}

-- the packet with the number's 8 bytes, the highest first, in place of its own, or none.
-- Nothing is counted as cut: there may be more bytes than before
abbrev pub with_number : PlainPacket → Option ℕ → Verdict PlainPacket
with_number packet None = Drops
with_number packet (Some number) = Passes (record packet { bytes = big_endian_bytes 8 number }) 0

-- each packet whose attribute is a number, with all its attributes
abbrev pub genaux_step : List ℕ → Step
genaux_step attr packet = with_number packet (unsigned_at attr packet.attrs)

abbrev pub genaux_meaning : List ℕ → KindMeaning
genaux_meaning attr = packetwise (Unit {0}) (genaux_step attr) no_options fans.One
