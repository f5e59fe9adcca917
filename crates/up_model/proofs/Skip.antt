-- The kind `skip` keeps the laws.
use Rattle.std.proofs.Common.{◌≡◌, ◌≢◌, ℕ, ℤ, pos, negsuc, Bool, true, false, length, drop, if◌then◌else◌, Some, refl, arith, length-drop, ap, sym, subst}
use Rattle.std.proofs.lemmas.Bool.{leb-true, le-leb, false≢true}
use Rattle.std.specs.Prelude.{nat_le, int_le, ◌&&◌, unwrap_or}
use Rattle.std.specs.Cmp.Derive.{both_true}
use Rattle.std.specs.Int.RustNames.{unsigned_abs}
use Rattle.up_model.proofs.Lawful.{IsLawful, KeepsOptions, both_are, by_packets, not_some, stands_for_itself}
use Rattle.up_model.proofs.Packetwise.{KeepsLegal, IsCutOf}
use Rattle.up_model.specs.KindMeaning.{Setting, admits}
use Rattle.up_model.specs.Kinds.{setting_of}
use Rattle.up_model.specs.OptionValues.{IsSet, option_value}
use Rattle.up_model.specs.Packet.{PlainPacket, IsLegal}
use Rattle.up_model.specs.Packetwise.{IfPasses}
use Rattle.up_model.specs.Skip.{skip_step, skip_setting}
use Rattle.up_model.specs.declared.fan_out.FanOut.TheVariants as fans
use Rattle.up_model.specs.declared.kind.Kind.TheVariants.{Skip}
use Rattle.up_model.specs.declared.limits.TheConstants.{MAX_PACKET}
use Rattle.up_model.specs.declared.opt.Opt.{Opt}
use Rattle.up_model.specs.declared.opt.Opt.TheVariants.{Mtu, Align, Offset, Low, High, By, Sync}
use Rattle.up_model.specs.declared.verdict.Verdict.TheVariants.{Passes, Drops}

skip_step_is_legal : (count : ℕ) → KeepsLegal (skip_step count)
skip_step_is_legal count packet legal = by_test (nat_le count (length packet.bytes))
  where
    by_test : (enough : Bool) → IfPasses (if enough then Passes (record packet { bytes = drop count packet.bytes }) count else Drops) IsLegal
    by_test true = record { few = legal.few; names = legal.names; values = legal.values; size = omega (arith, legal.size, length-drop count packet.bytes) }
    by_test false = tt

other_options : (count value : ℕ) (other : Opt) → other ≢ Offset → option_value (Skip value) other ≡ option_value (Skip count) other
other_options count value Offset apart = absurd (apart refl)
other_options count value Mtu apart = refl
other_options count value Align apart = refl
other_options count value Low apart = refl
other_options count value High apart = refl
other_options count value By apart = refl
other_options count value Sync apart = refl

offset_is_set : (count : ℕ) (value : ℤ) → int_le (pos 0) value ≡ true → int_le value (pos MAX_PACKET) ≡ true
    → IsSet Offset value (Skip count) (Skip (unsigned_abs value))
offset_is_set count (pos value) low high = record {
  has = refl;
  others = other_options count value;
  back = λ was is. ap (λ there. Skip (unsigned_abs (unwrap_or there (pos count)))) (sym is);
  within = λ within. leb-true value MAX_PACKET high;
}
offset_is_set count (negsuc value) low high = absurd (false≢true low)

abbrev offset_of : ℕ → Setting
offset_of count = record { value = pos count; low = pos 0; high = pos MAX_PACKET; set = λ value. Skip (unsigned_abs value) }

-- the one setting that it has
only_offset : (count : ℕ) (option : Opt) (setting : Setting) → setting_of (Skip count) option ≡ Some setting → (option ≡ Offset) × (offset_of count ≡ setting)
only_offset count Offset setting is = (refl, ap (λ there. unwrap_or there setting) is)
only_offset count Mtu setting is = absurd (not_some setting is)
only_offset count Align setting is = absurd (not_some setting is)
only_offset count Low setting is = absurd (not_some setting is)
only_offset count High setting is = absurd (not_some setting is)
only_offset count By setting is = absurd (not_some setting is)
only_offset count Sync setting is = absurd (not_some setting is)

options_are_kept : (count : ℕ) → KeepsOptions (Skip count)
options_are_kept count = record {
  admitted = λ option setting within is.
      subst (λ (s : Setting). admits s s.value ≡ true) (only_offset count option setting is).1
      (both_true (le-leb 0 count (omega arith)) (le-leb count MAX_PACKET within));
  set = λ option setting value is admitted.
      let only = only_offset count option setting is in
      let bounds : int_le (pos 0) value && int_le value (pos MAX_PACKET) ≡ true = subst (λ (s : Setting). admits s value ≡ true) (sym only.1) admitted in
      let within = both_are (int_le (pos 0) value) (int_le value (pos MAX_PACKET)) bounds in
      rw only.0 (subst (λ (s : Setting). IsSet Offset value (Skip count) (s.set value)) only.1 (offset_is_set count value within.0 within.1));
}

-- what is cut and what goes on are the packet
pub skip_cuts : (count : ℕ) (packet : PlainPacket) → IsCutOf packet (skip_step count packet)
skip_cuts count packet = by_test (nat_le count (length packet.bytes)) refl
  where
    by_test : (enough : Bool) → nat_le count (length packet.bytes) ≡ enough
        → IsCutOf packet (if enough then Passes (record packet { bytes = drop count packet.bytes }) count else Drops)
    by_test true is = omega (arith, length-drop count packet.bytes, leb-true count (length packet.bytes) is)
    by_test false is = tt

pub skip_is_lawful : (count : ℕ) → IsLawful (Skip count)
skip_is_lawful count = record {
  flows = λ within. by_packets _ (skip_step count) (skip_setting count) fans.One (skip_step_is_legal count);
  options = options_are_kept count;
  stand_in = stands_for_itself (Skip count) (λ numbers. refl);
}
