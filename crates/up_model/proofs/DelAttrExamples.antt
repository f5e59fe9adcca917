-- Worked examples of `delattr`, computed.
use Rattle.std.proofs.Common.{◌≡◌, ◌∷◌, [], List, ℕ, None, not, true, refl, ap, sym}
use Rattle.std.specs.Prelude.{codes}
use Rattle.std.specs.Ordering.{eq_by_cmp}
use Rattle.std.specs.FinMap.Entries.{where_key}
use Rattle.up_model.proofs.AttrLists.{Attr, HasOrder, by_name, attrs_of, without}
use Rattle.up_model.specs.DelAttr.{delattr_step}
use Rattle.up_model.specs.Kinds.{setting_of, settled_work, work_of}
use Rattle.up_model.specs.Packet.{Flow, PlainPacket, plain}
use Rattle.up_model.specs.declared.verdict.Verdict.TheVariants.{Passes}
use Rattle.up_model.specs.declared.kind.Kind.TheVariants.{DelAttr}
use Rattle.up_model.specs.declared.opt.Opt.{Opt}
use Rattle.up_model.specs.declared.value.Value.TheVariants.{Flag, Unsigned}

-- the packet `ab` with these attributes
abbrev with : List Attr → PlainPacket
with list = record { attrs = attrs_of list; bytes = codes "ab" }

abbrev key : Attr
key = (codes "key", Flag true)

abbrev rate : Attr
rate = (codes "rate", Unsigned 7)

-- a map is changed by its laws: what is left of a list in order is computed
left : (list new : List Attr) (name : List ℕ) → HasOrder list → new ≡ where_key by_name (λ x. not (eq_by_cmp by_name name x)) list
    → delattr_step name (with list) ≡ Passes (with new) 0
left list new name order is = ap (λ attrs. Passes (record { attrs = attrs; bytes = codes "ab" }) 0) (sym (without list new name order is).is)

-- the attribute is taken away, and the others stay
pub one_of_two : delattr_step (codes "key") (with (key ∷ rate ∷ [])) ≡ Passes (with (rate ∷ [])) 0
one_of_two = left _ _ _ tt refl

-- a packet whose last one was taken away goes on
pub last_one : delattr_step (codes "key") (with (key ∷ [])) ≡ Passes (with []) 0
last_one = left _ _ _ tt refl

-- one without it stays as it is: `ke` and `Key` are other names
pub part_of_name : delattr_step (codes "ke") (with (key ∷ rate ∷ [])) ≡ Passes (with (key ∷ rate ∷ [])) 0
part_of_name = left _ _ _ tt refl

pub other_case : delattr_step (codes "Key") (with (key ∷ rate ∷ [])) ≡ Passes (with (key ∷ rate ∷ [])) 0
other_case = left _ _ _ tt refl

-- no packet is dropped and no byte is cut
pub tally : (work_of (DelAttr (codes "key")) (with (key ∷ []) ∷ with [] ∷ plain [] ∷ [])).tally
    ≡ record { taken = 3; put = 3; dropped = 0; cut = 0; gained = 0; lost = 0 }
tally = refl

-- the work before the end is the same: nothing is held back
pub settled : (taken : Flow) → settled_work (DelAttr (codes "key")) taken ≡ work_of (DelAttr (codes "key")) taken
settled taken = refl

-- it has no option
pub no_option : (attr : List ℕ) (option : Opt) → setting_of (DelAttr attr) option ≡ None
no_option attr option = refl
