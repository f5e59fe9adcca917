-- The kind `delattr`: takes one attribute away.
use Rattle.std.specs.Prelude.{ℕ, List}
use Rattle.std.specs.FinMap.{remove}
use Rattle.up_model.specs.KindMeaning.{KindMeaning, no_options}
use Rattle.up_model.specs.Packetwise.{Step, packetwise}
use Rattle.up_model.specs.declared.fan_out.FanOut.TheVariants as fans
use Rattle.up_model.specs.declared.verdict.Verdict.TheVariants.{Passes}

-- each packet without this attribute
abbrev pub delattr_step : List ℕ → Step
delattr_step attr packet = Passes (record packet { attrs = remove packet.attrs attr }) 0

abbrev pub delattr_meaning : List ℕ → KindMeaning
delattr_meaning attr = packetwise (Unit {0}) (delattr_step attr) no_options fans.One
