-- Kinds that look at each packet by itself, hold nothing back and remember nothing.
use Rattle.std.specs.Prelude.{[], ◌∷◌, length, Option, Some, None, filter_map}
use Rattle.up_model.specs.KindMeaning.{KindMeaning, Setting, no_stand_in, writes_nothing}
use Rattle.up_model.specs.Packet.{PlainPacket, Flow}
use Rattle.up_model.specs.Tallies.{nothing, plus, of_passed, of_dropped}
use Rattle.up_model.specs.Work.{Work}
use Rattle.up_model.specs.declared.fan_out.FanOut.{FanOut}
use Rattle.up_model.specs.declared.opt.Opt.{Opt}
use Rattle.up_model.specs.declared.verdict.Verdict.{Verdict}
use Rattle.up_model.specs.declared.verdict.Verdict.TheVariants.{Passes, Drops}
use Rattle.up_model.specs.declared.tally.Tally.{Tally}

-- what becomes of a packet
abbrev pub Step : Type 0
Step = PlainPacket → Verdict PlainPacket

abbrev pub put_of : {P : Type 0} → Verdict P → Option P
put_of (Passes packet cut) = Some packet
put_of Drops = None

-- the sums of one packet
abbrev pub sums_of : PlainPacket → Verdict PlainPacket → Tally
sums_of taken (Passes packet cut) = of_passed cut
sums_of taken Drops = of_dropped (length taken.bytes)

-- the packets that are put out
abbrev pub passed : Step → Flow → Flow
passed step taken = filter_map (λ packet. put_of (step packet)) taken

-- the sums of all packets
abbrev pub summed : Step → Flow → Tally
summed step [] = nothing
summed step (packet ∷ taken) = plus (sums_of packet (step packet)) (summed step taken)

abbrev pub work_by : Step → Flow → Work
work_by step taken = record { flow = passed step taken; tally = summed step taken }

-- such a kind, by what its fields have to keep, its step, its options, and whom it feeds
abbrev pub packetwise : Type 0 → Step → (Opt → Option Setting) → FanOut → KindMeaning
packetwise IsWithin step setting fan_out = record {
  IsWithin = IsWithin;
  output = passed step;
  settled = passed step;
  tally = summed step;
  settled_tally = summed step;
  setting = setting;
  fan_out = fan_out;
  stand_in = no_stand_in;
  written = writes_nothing;
}

-- every packet is put out as it is
abbrev pub passes_on : Step
passes_on packet = Passes packet 0

-- every packet is dropped
abbrev pub drops : Step
drops packet = Drops

-- it is so of the packet that is put out, if one is
abbrev pub IfPasses : {P : Type 0} → Verdict P → (P → Type 0) → Type 0
IfPasses (Passes packet cut) IsSo = IsSo packet
IfPasses Drops IsSo = Unit {0}
