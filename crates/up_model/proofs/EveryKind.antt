-- Every kind keeps the laws: one row a kind.
use Rattle.std.proofs.Common.{◌≡◌, true, refl}
use Rattle.up_model.proofs.DelAttr.{delattr_is_lawful}
use Rattle.up_model.proofs.Delay.{delay_is_lawful}
use Rattle.up_model.proofs.Ends.{source_is_lawful, sink_is_lawful}
use Rattle.up_model.proofs.Lawful.{IsLawful, by_packets, no_options_kept, stands_for_itself}
use Rattle.up_model.proofs.MatchAttr.{match_attr_is_lawful}
use Rattle.up_model.proofs.Packetwise.{work_puts_or_drops, work_puts_all}
use Rattle.up_model.proofs.SetAttr.{setattr_is_lawful}
use Rattle.up_model.proofs.Skip.{skip_is_lawful}
use Rattle.up_model.specs.DelAttr.{delattr_step}
use Rattle.up_model.specs.Delay.{delay_step}
use Rattle.up_model.specs.KindMeaning.{no_options}
use Rattle.up_model.specs.Kinds.{is_packetwise, keeps_bytes, work_of}
use Rattle.up_model.specs.MatchAttr.{match_attr_step}
use Rattle.up_model.specs.Packet.{Flow}
use Rattle.up_model.specs.Packetwise.{passes_on, drops}
use Rattle.up_model.specs.SetAttr.{setattr_step}
use Rattle.up_model.specs.Skip.{skip_step}
use Rattle.up_model.specs.Work.{PutsAll, PutsOrDrops}
use Rattle.up_model.specs.declared.fan_out.FanOut.TheVariants as fans
use Rattle.up_model.specs.declared.kind.Kind.{Kind}
use Rattle.up_model.specs.declared.kind.Kind.TheVariants.{Source, Sink, Idem, Null, Dup, Skip, SetAttr, DelAttr, MatchAttr, Delay}

idem_is_lawful : IsLawful Idem
idem_is_lawful = record {
  flows = λ within. by_packets (Unit {0}) passes_on no_options fans.One (λ packet legal. legal);
  options = no_options_kept Idem (λ option. refl);
  stand_in = stands_for_itself Idem (λ numbers. refl);
}

null_is_lawful : IsLawful Null
null_is_lawful = record {
  flows = λ within. by_packets (Unit {0}) drops no_options fans.None (λ packet legal. tt);
  options = no_options_kept Null (λ option. refl);
  stand_in = stands_for_itself Null (λ numbers. refl);
}

dup_is_lawful : IsLawful Dup
dup_is_lawful = record {
  flows = λ within. by_packets (Unit {0}) passes_on no_options fans.All (λ packet legal. legal);
  options = no_options_kept Dup (λ option. refl);
  stand_in = stands_for_itself Dup (λ numbers. refl);
}

pub lawful : (kind : Kind) → IsLawful kind
lawful (Source path form limit) = source_is_lawful path form limit
lawful (Sink path form) = sink_is_lawful path form
lawful Idem = idem_is_lawful
lawful Null = null_is_lawful
lawful Dup = dup_is_lawful
lawful (Skip bytes) = skip_is_lawful bytes
lawful (SetAttr attr value) = setattr_is_lawful attr value
lawful (DelAttr attr) = delattr_is_lawful attr
lawful (MatchAttr attr low high) = match_attr_is_lawful attr low high
lawful (Delay by) = delay_is_lawful by

-- a packetwise kind puts out or drops each packet that it takes
pub puts_or_drops : (kind : Kind) (taken : Flow) → is_packetwise kind ≡ true → PutsOrDrops (work_of kind taken)
puts_or_drops (Source path form limit) taken by_packet = absurd (cc)
puts_or_drops (Sink path form) taken by_packet = absurd (cc)
puts_or_drops Idem taken by_packet = work_puts_or_drops passes_on taken
puts_or_drops Null taken by_packet = work_puts_or_drops drops taken
puts_or_drops Dup taken by_packet = work_puts_or_drops passes_on taken
puts_or_drops (Skip bytes) taken by_packet = work_puts_or_drops (skip_step bytes) taken
puts_or_drops (SetAttr attr value) taken by_packet = work_puts_or_drops (setattr_step attr value) taken
puts_or_drops (DelAttr attr) taken by_packet = work_puts_or_drops (delattr_step attr) taken
puts_or_drops (MatchAttr attr low high) taken by_packet = work_puts_or_drops (match_attr_step attr low high) taken
puts_or_drops (Delay by) taken by_packet = work_puts_or_drops (delay_step by) taken

-- a kind that keeps bytes puts out all that it takes
pub puts_all : (kind : Kind) (taken : Flow) → keeps_bytes kind ≡ true → PutsAll (work_of kind taken) taken
puts_all (Source path form limit) taken keeps = absurd (cc)
puts_all (Sink path form) taken keeps = absurd (cc)
puts_all Idem taken keeps = work_puts_all passes_on (λ packet. (refl, refl)) taken
puts_all Null taken keeps = absurd (cc)
puts_all Dup taken keeps = work_puts_all passes_on (λ packet. (refl, refl)) taken
puts_all (Skip bytes) taken keeps = absurd (cc)
puts_all (SetAttr attr value) taken keeps = absurd (cc)
puts_all (DelAttr attr) taken keeps = work_puts_all (delattr_step attr) (λ packet. (refl, refl)) taken
puts_all (MatchAttr attr low high) taken keeps = absurd (cc)
puts_all (Delay by) taken keeps = work_puts_all (delay_step by) (λ packet. (refl, refl)) taken
