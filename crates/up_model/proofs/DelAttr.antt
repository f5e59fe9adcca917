-- The kind `delattr` keeps the laws.
use Rattle.std.proofs.Common.{ℕ, List, refl}
use Rattle.up_model.proofs.Lawful.{IsLawful, by_packets, no_options_kept, stands_for_itself}
use Rattle.up_model.proofs.Legality.{without_attr}
use Rattle.up_model.proofs.Packetwise.{KeepsLegal}
use Rattle.up_model.specs.DelAttr.{delattr_step}
use Rattle.up_model.specs.KindMeaning.{no_options}
use Rattle.up_model.specs.declared.fan_out.FanOut.TheVariants as fans
use Rattle.up_model.specs.declared.kind.Kind.TheVariants.{DelAttr}

delattr_is_legal : (attr : List ℕ) → KeepsLegal (delattr_step attr)
delattr_is_legal attr packet legal = without_attr packet legal attr

pub delattr_is_lawful : (attr : List ℕ) → IsLawful (DelAttr attr)
delattr_is_lawful attr = record {
  flows = λ within. by_packets (Unit {0}) (delattr_step attr) no_options fans.One (delattr_is_legal attr);
  options = no_options_kept (DelAttr attr) (λ option. refl);
  stand_in = stands_for_itself (DelAttr attr) (λ numbers. refl);
}
