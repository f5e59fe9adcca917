-- The kind `swap16`: changes the byte order of numbers of 16 bits.
use Rattle.std.specs.Prelude.{ℕ, List, [], ◌∷◌}
use Rattle.up_model.specs.KindMeaning.{KindMeaning, no_options}
use Rattle.up_model.specs.Packetwise.{Step, packetwise}
use Rattle.up_model.specs.declared.fan_out.FanOut.TheVariants as fans
use Rattle.up_model.specs.declared.verdict.Verdict.TheVariants.{Passes}

-- each two bytes change places, and an odd last byte stays
abbrev pub swapped : List ℕ → List ℕ
swapped [] = []
swapped (byte ∷ []) = byte ∷ []
swapped (first ∷ second ∷ bytes) = second ∷ first ∷ swapped bytes

-- each packet by itself, also an empty one: no pair reaches into the next packet
abbrev pub swap16_step : Step
swap16_step packet = Passes (record packet { bytes = swapped packet.bytes }) 0

abbrev pub swap16_meaning : KindMeaning
swap16_meaning = packetwise (Unit {0}) swap16_step no_options fans.One
