-- The kind `genaux` keeps the laws.
use Rattle.std.proofs.Common.{ℕ, List, Option, Some, None, arith}
use Rattle.up_base.specs.Number.{big_endian_bytes}
use Rattle.up_model.proofs.Lawful.{KeepsFlows, by_packets}
use Rattle.up_model.proofs.Legality.{with_bytes}
use Rattle.up_model.proofs.Packetwise.{KeepsLegal}
use Rattle.up_model.specs.Attrs.{unsigned_at}
use Rattle.up_model.specs.GenAux.{with_number, genaux_step, genaux_meaning}
use Rattle.up_model.specs.KindMeaning.{no_options}
use Rattle.up_model.specs.Packetwise.{IfPasses}
use Rattle.up_model.specs.Packet.{IsLegal}
use Rattle.up_model.specs.declared.fan_out.FanOut.TheVariants as fans

genaux_is_legal : (attr : List ℕ) → KeepsLegal (genaux_step attr)
genaux_is_legal attr packet legal = by_number (unsigned_at attr packet.attrs)
  where
    by_number : (found : Option ℕ) → IfPasses (with_number packet found) IsLegal
    by_number None = tt
    by_number (Some number) = with_bytes packet legal (big_endian_bytes 8 number) (omega arith)

pub genaux_keeps_flows : (attr : List ℕ) → KeepsFlows (genaux_meaning attr)
genaux_keeps_flows attr = by_packets (Unit {0}) (genaux_step attr) no_options fans.One (genaux_is_legal attr)
