-- The kind `delay` keeps the laws.
use Rattle.std.proofs.Common.{◌≡◌, ◌≢◌, ℕ, ◌<◌, ◌^◌, ℤ, pos, negsuc, List, Bool, true, false, if◌then◌else◌, Option, Some, None, inl, is_some, w64, refl, arith, ap, sym}
use Rattle.std.proofs.lemmas.Bool.{ltb-true}
use Rattle.std.proofs.lemmas.Int.{ints}
use Rattle.std.specs.Prelude.{nat_lt, FitsSigned, ◌+ℤ◌, IfSome, T, option_and_then, unwrap_or}
use Rattle.std.specs.Cmp.Derive.{both_true}
use Rattle.std.specs.FinMap.{contains_key, get}
use Rattle.up_base.specs.Name.{is_name}
use Rattle.up_model.proofs.Lawful.{IsLawful, both_are, by_packets, not_some, of_some, stands_for_itself}
use Rattle.up_model.proofs.Legality.{with_attr, without_attr}
use Rattle.up_model.proofs.Packetwise.{KeepsLegal}
use Rattle.up_model.specs.Attrs.{unsigned_at}
use Rattle.up_model.specs.Dates.{date_name}
use Rattle.up_model.specs.Delay.{IsShift, least_shift, greatest_shift, dated, with_date, moved, moved_from, delay_step, delay_setting}
use Rattle.up_model.specs.KindMeaning.{Setting, admits}
use Rattle.up_model.specs.OptionValues.{IsSet, option_value}
use Rattle.up_model.specs.Packet.{PlainPacket, IsLegal}
use Rattle.up_model.specs.Value.{unsigned_of}
use Rattle.up_model.specs.declared.date_kind.DateKind.{DateKind}
use Rattle.up_model.specs.declared.date_kind.DateKind.TheVariants.{Sys, Prog, Orig}
use Rattle.up_model.specs.declared.fan_out.FanOut.TheVariants as fans
use Rattle.up_model.specs.declared.kind.Kind.TheVariants.{Delay}
use Rattle.up_model.specs.declared.opt.Opt.{Opt}
use Rattle.up_model.specs.declared.opt.Opt.TheVariants.{Mtu, Align, Offset, Low, High, By, Sync}
use Rattle.up_model.specs.declared.value.Value.{Value}
use Rattle.up_model.specs.declared.value.Value.TheVariants.{Unsigned}

-- a date is a number of 64 bits
dated_fits : (sum : ℤ) → IfSome (dated sum) (λ date. date < 2 ^ 64)
dated_fits (pos date) = by_test (nat_lt date (2 ^ 64)) refl
  where
    by_test : (fits : Bool) → nat_lt date (2 ^ 64) ≡ fits → IfSome (if fits then Some date else None) (λ date. date < 2 ^ 64)
    by_test true is = ltb-true date (2 ^ 64) is
    by_test false is = tt
dated_fits (negsuc below) = tt

-- where a number stands, the name is there
number_is_there : (found : Option Value) (number : ℕ) → option_and_then unsigned_of found ≡ Some number → is_some found ≡ true
number_is_there None number is = absurd (not_some number is)
number_is_there (Some value) number is = refl

module _ (name : List ℕ) (named : is_name name ≡ true) (packet : PlainPacket) (legal : IsLegal packet) where
  date_is_legal : (date : Option ℕ) → IfSome date (λ date. date < 2 ^ 64) → contains_key packet.attrs name ≡ true
      → IsLegal (record packet { attrs = with_date name packet.attrs date })
  date_is_legal None fits there = without_attr packet legal name
  date_is_legal (Some date) fits there = with_attr packet legal name (Unsigned date) named fits (inl there)

  moved_is_legal : (by : ℤ) → IsLegal (record packet { attrs = moved by name packet.attrs })
  moved_is_legal by = by_number (unsigned_at name packet.attrs) refl
    where
      by_number : (found : Option ℕ) → unsigned_at name packet.attrs ≡ found → IsLegal (record packet { attrs = moved_from by name packet.attrs found })
      by_number None is = record { few = legal.few; names = legal.names; values = legal.values; size = legal.size }
      by_number (Some date) is = date_is_legal (dated (pos date +ℤ by)) (dated_fits (pos date +ℤ by)) (number_is_there (get packet.attrs name) date is)

is_date_name : (which : DateKind) → is_name (date_name which) ≡ true
is_date_name Sys = refl
is_date_name Prog = refl
is_date_name Orig = refl

delay_is_legal : (by : ℤ) → KeepsLegal (delay_step by)
delay_is_legal by packet legal =
    moved_is_legal (date_name Orig) (is_date_name Orig) _
    (moved_is_legal (date_name Prog) (is_date_name Prog) _
    (moved_is_legal (date_name Sys) (is_date_name Sys) packet legal by) by) by

-- it is one of 64 bits with a sign
pub shift_fits : (by : ℤ) → IsShift by → FitsSigned w64 by
shift_fits (pos by) within = record { sfits = omega (arith, ints, within.1) }
shift_fits (negsuc by) within = record { sfits = omega (arith, ints, within.0) }

module _ (by : ℤ) where
  other_options : (value : ℤ) (other : Opt) → other ≢ By → option_value (Delay value) other ≡ option_value (Delay by) other
  other_options value By apart = absurd (apart refl)
  other_options value Mtu apart = refl
  other_options value Align apart = refl
  other_options value Offset apart = refl
  other_options value Low apart = refl
  other_options value High apart = refl
  other_options value Sync apart = refl

  abbrev by_setting : Setting
  by_setting = record { value = by; low = least_shift; high = greatest_shift; set = λ value. Delay value }

  by_is_set : (value : ℤ) → admits by_setting value ≡ true → IsSet By value (Delay by) (Delay value)
  by_is_set value bounds = record {
    has = refl;
    others = other_options value;
    back = λ was is. ap (λ there. Delay (unwrap_or there by)) (sym is);
    within = λ within. (record { le = is_so _ (both_are _ _ bounds).0 }, record { le = is_so _ (both_are _ _ bounds).1 });
  }
    where
      is_so : (test : Bool) → test ≡ true → T test
      is_so true is = tt
      is_so false is = absurd (cc)

  is_admitted : (option : Opt) (setting : Setting) → IsShift by → delay_setting by option ≡ Some setting → admits setting setting.value ≡ true
  is_admitted By setting within is = of_some (λ s. admits s s.value ≡ true) is (both_true (is_true _ within.0.le) (is_true _ within.1.le))
    where
      is_true : (test : Bool) → T test → test ≡ true
      is_true true holds = refl
      is_true false holds = absurd holds
  is_admitted Mtu setting within is = absurd (not_some setting is)
  is_admitted Align setting within is = absurd (not_some setting is)
  is_admitted Offset setting within is = absurd (not_some setting is)
  is_admitted Low setting within is = absurd (not_some setting is)
  is_admitted High setting within is = absurd (not_some setting is)
  is_admitted Sync setting within is = absurd (not_some setting is)

  is_set : (option : Opt) (setting : Setting) (value : ℤ) → delay_setting by option ≡ Some setting → admits setting value ≡ true
      → IsSet option value (Delay by) (setting.set value)
  is_set By setting value is = of_some (λ s. admits s value ≡ true → IsSet By value (Delay by) (s.set value)) is (by_is_set value)
  is_set Mtu setting value is = absurd (not_some setting is)
  is_set Align setting value is = absurd (not_some setting is)
  is_set Offset setting value is = absurd (not_some setting is)
  is_set Low setting value is = absurd (not_some setting is)
  is_set High setting value is = absurd (not_some setting is)
  is_set Sync setting value is = absurd (not_some setting is)

  pub delay_is_lawful : IsLawful (Delay by)
  delay_is_lawful = record {
    flows = λ within. by_packets _ (delay_step by) (delay_setting by) fans.One (delay_is_legal by);
    options = record { admitted = is_admitted; set = is_set };
    stand_in = stands_for_itself (Delay by) (λ numbers. refl);
  }
