-- The kind `match_attr`: passes the packets whose attribute is a number within bounds, and drops all others.
use Rattle.std.specs.Prelude.{ℕ, ◌-◌, ◌<◌, ◌≤◌, pos, Bool, false, List, Option, Some, None, if◌then◌else◌}
use Rattle.std.specs.Int.RustNames.{unsigned_abs}
use Rattle.up_base.specs.Name.{is_within}
use Rattle.up_model.specs.Attrs.{unsigned_at}
use Rattle.up_model.specs.KindMeaning.{KindMeaning, Setting}
use Rattle.up_model.specs.Packetwise.{Step, packetwise}
use Rattle.up_model.specs.Value.{number_bound}
use Rattle.up_model.specs.declared.fan_out.FanOut.TheVariants as fans
use Rattle.up_model.specs.declared.kind.Kind.TheVariants.{MatchAttr}
use Rattle.up_model.specs.declared.opt.Opt.{Opt}
use Rattle.up_model.specs.declared.opt.Opt.TheVariants.{Mtu, Align, Offset, Low, High, By, Sync}
use Rattle.up_model.specs.declared.verdict.Verdict.TheVariants.{Passes, Drops}

-- the least number that is matched, and the greatest, which has 64 bits
abbrev pub AreBounds : ℕ → ℕ → Type 0
AreBounds low high = (low ≤ high) × (high < number_bound)

-- the number is there, and is one of them
abbrev pub is_matched : ℕ → ℕ → Option ℕ → Bool
is_matched low high None = false
is_matched low high (Some number) = is_within low high number

-- each packet as it is, or none
abbrev pub match_attr_step : List ℕ → ℕ → ℕ → Step
match_attr_step attr low high packet =
    if is_matched low high (unsigned_at attr packet.attrs) then Passes packet 0 else Drops

abbrev pub match_attr_setting : List ℕ → ℕ → ℕ → Opt → Option Setting
match_attr_setting attr low high Low = Some (record {
  value = pos low;
  low = pos 0;
  high = pos high;
  set = λ value. MatchAttr attr (unsigned_abs value) high;
})
match_attr_setting attr low high High = Some (record {
  value = pos high;
  low = pos low;
  high = pos (number_bound - 1);
  set = λ value. MatchAttr attr low (unsigned_abs value);
})
match_attr_setting attr low high Mtu = None
match_attr_setting attr low high Align = None
match_attr_setting attr low high Offset = None
match_attr_setting attr low high By = None
match_attr_setting attr low high Sync = None

abbrev pub match_attr_meaning : List ℕ → ℕ → ℕ → KindMeaning
match_attr_meaning attr low high = packetwise (AreBounds low high)
    (match_attr_step attr low high) (match_attr_setting attr low high) fans.One
