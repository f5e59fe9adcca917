-- The kind `match_attr` keeps the laws.
use Rattle.std.proofs.Common.{◌≡◌, ◌≢◌, ℕ, ◌-◌, ◌^◌, ℤ, pos, negsuc, List, Bool, true, false, if◌then◌else◌, Some, refl, arith, ap, sym}
use Rattle.std.proofs.lemmas.Bool.{leb-true, le-leb, false≢true}
use Rattle.std.specs.Prelude.{unwrap_or}
use Rattle.std.specs.Cmp.Derive.{both_true}
use Rattle.std.specs.Int.RustNames.{unsigned_abs}
use Rattle.up_model.proofs.Lawful.{IsLawful, both_are, by_packets, not_some, of_some, stands_for_itself}
use Rattle.up_model.proofs.Packetwise.{KeepsLegal, IsCutOf}
use Rattle.up_model.specs.Attrs.{unsigned_at}
use Rattle.up_model.specs.KindMeaning.{Setting, admits}
use Rattle.up_model.specs.MatchAttr.{AreBounds, is_matched, match_attr_step, match_attr_setting}
use Rattle.up_model.specs.OptionValues.{IsSet, option_value}
use Rattle.up_model.specs.Packet.{PlainPacket, IsLegal}
use Rattle.up_model.specs.Packetwise.{IfPasses}
use Rattle.up_model.specs.declared.fan_out.FanOut.TheVariants as fans
use Rattle.up_model.specs.declared.kind.Kind.TheVariants.{MatchAttr}
use Rattle.up_model.specs.declared.opt.Opt.{Opt}
use Rattle.up_model.specs.declared.opt.Opt.TheVariants.{Mtu, Align, Offset, Low, High, By, Sync}
use Rattle.up_model.specs.declared.verdict.Verdict.TheVariants.{Passes, Drops}

match_attr_is_legal : (attr : List ℕ) (low high : ℕ) → KeepsLegal (match_attr_step attr low high)
match_attr_is_legal attr low high packet legal = by_test (is_matched low high (unsigned_at attr packet.attrs))
  where
    by_test : (lies : Bool) → IfPasses (if lies then Passes packet 0 else Drops) IsLegal
    by_test true = legal
    by_test false = tt

-- a packet that passes keeps its bytes
pub match_attr_cuts : (attr : List ℕ) (low high : ℕ) (packet : PlainPacket) → IsCutOf packet (match_attr_step attr low high packet)
match_attr_cuts attr low high packet = by_test (is_matched low high (unsigned_at attr packet.attrs))
  where
    by_test : (lies : Bool) → IsCutOf packet (if lies then Passes packet 0 else Drops)
    by_test true = omega arith
    by_test false = tt

module _ (attr : List ℕ) (low high : ℕ) where
  others_of_low : (value : ℕ) (other : Opt) → other ≢ Low → option_value (MatchAttr attr value high) other ≡ option_value (MatchAttr attr low high) other
  others_of_low value Low apart = absurd (apart refl)
  others_of_low value High apart = refl
  others_of_low value Mtu apart = refl
  others_of_low value Align apart = refl
  others_of_low value Offset apart = refl
  others_of_low value By apart = refl
  others_of_low value Sync apart = refl

  others_of_high : (value : ℕ) (other : Opt) → other ≢ High → option_value (MatchAttr attr low value) other ≡ option_value (MatchAttr attr low high) other
  others_of_high value High apart = absurd (apart refl)
  others_of_high value Low apart = refl
  others_of_high value Mtu apart = refl
  others_of_high value Align apart = refl
  others_of_high value Offset apart = refl
  others_of_high value By apart = refl
  others_of_high value Sync apart = refl

  abbrev low_setting : Setting
  low_setting = record { value = pos low; low = pos 0; high = pos high; set = λ value. MatchAttr attr (unsigned_abs value) high }

  abbrev high_setting : Setting
  high_setting = record { value = pos high; low = pos low; high = pos (2 ^ 64 - 1); set = λ value. MatchAttr attr low (unsigned_abs value) }

  low_is_set : (value : ℤ) → admits low_setting value ≡ true → IsSet Low value (MatchAttr attr low high) (low_setting.set value)
  low_is_set (pos value) bounds = record {
    has = refl;
    others = others_of_low value;
    back = λ was is. ap (λ there. MatchAttr attr (unsigned_abs (unwrap_or there (pos low))) high) (sym is);
    within = λ within. (leb-true value high (both_are _ _ bounds).1, within.1);
  }
  low_is_set (negsuc value) bounds = absurd (false≢true bounds)

  high_is_set : (value : ℤ) → admits high_setting value ≡ true → IsSet High value (MatchAttr attr low high) (high_setting.set value)
  high_is_set (pos value) bounds = record {
    has = refl;
    others = others_of_high value;
    back = λ was is. ap (λ there. MatchAttr attr low (unsigned_abs (unwrap_or there (pos high)))) (sym is);
    within = λ within. (leb-true low value (both_are _ _ bounds).0, omega (arith, leb-true value (2 ^ 64 - 1) (both_are _ _ bounds).1));
  }
  high_is_set (negsuc value) bounds = absurd (false≢true bounds)

  is_admitted : (option : Opt) (setting : Setting) → AreBounds low high → match_attr_setting attr low high option ≡ Some setting → admits setting setting.value ≡ true
  is_admitted Low setting within is = of_some (λ s. admits s s.value ≡ true) is (both_true (le-leb 0 low (omega arith)) (le-leb low high within.0))
  is_admitted High setting within is = of_some (λ s. admits s s.value ≡ true) is (both_true (le-leb low high within.0) (le-leb high (2 ^ 64 - 1) (omega (arith, within.1))))
  is_admitted Mtu setting within is = absurd (not_some setting is)
  is_admitted Align setting within is = absurd (not_some setting is)
  is_admitted Offset setting within is = absurd (not_some setting is)
  is_admitted By setting within is = absurd (not_some setting is)
  is_admitted Sync setting within is = absurd (not_some setting is)

  is_set : (option : Opt) (setting : Setting) (value : ℤ) → match_attr_setting attr low high option ≡ Some setting → admits setting value ≡ true
      → IsSet option value (MatchAttr attr low high) (setting.set value)
  is_set Low setting value is = of_some (λ s. admits s value ≡ true → IsSet Low value (MatchAttr attr low high) (s.set value)) is (low_is_set value)
  is_set High setting value is = of_some (λ s. admits s value ≡ true → IsSet High value (MatchAttr attr low high) (s.set value)) is (high_is_set value)
  is_set Mtu setting value is = absurd (not_some setting is)
  is_set Align setting value is = absurd (not_some setting is)
  is_set Offset setting value is = absurd (not_some setting is)
  is_set By setting value is = absurd (not_some setting is)
  is_set Sync setting value is = absurd (not_some setting is)

  pub match_attr_is_lawful : IsLawful (MatchAttr attr low high)
  match_attr_is_lawful = record {
    flows = λ within. by_packets _ (match_attr_step attr low high) (match_attr_setting attr low high) fans.One (match_attr_is_legal attr low high);
    options = record { admitted = is_admitted; set = is_set };
    stand_in = stands_for_itself (MatchAttr attr low high) (λ numbers. refl);
  }
