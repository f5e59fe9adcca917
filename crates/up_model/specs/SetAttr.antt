-- The kind `setattr`: gives each packet an attribute, and drops a packet that would then have too many.
use Rattle.std.specs.Prelude.{◌≡◌, ℕ, true, nat_le, List, if◌then◌else◌}
use Rattle.std.specs.FinMap.{insert, len}
use Rattle.up_base.specs.Name.{is_name}
use Rattle.up_model.specs.KindMeaning.{KindMeaning, no_options}
use Rattle.up_model.specs.Packetwise.{Step, packetwise}
use Rattle.up_model.specs.Value.{IsLegalValue}
use Rattle.up_model.specs.declared.fan_out.FanOut.TheVariants as fans
use Rattle.up_model.specs.declared.limits.TheConstants.{MAX_ATTRS}
use Rattle.up_model.specs.declared.value.Value.{Value}
use Rattle.up_model.specs.declared.verdict.Verdict.TheVariants.{Passes, Drops}

-- a name, and a legal value
abbrev pub IsAttribute : List ℕ → Value → Type 0
IsAttribute attr value = (is_name attr ≡ true) × IsLegalValue value

-- each packet with the attribute, in place of one of its name
abbrev pub setattr_step : List ℕ → Value → Step
setattr_step attr value packet =
    let attrs = insert packet.attrs attr value in
    if nat_le (len attrs) MAX_ATTRS then Passes (record packet { attrs = attrs }) 0 else Drops

abbrev pub setattr_meaning : List ℕ → Value → KindMeaning
setattr_meaning attr value =
    packetwise (IsAttribute attr value) (setattr_step attr value) no_options fans.One
