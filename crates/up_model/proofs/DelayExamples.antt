-- Worked examples of `delay`, computed.
use Rattle.std.proofs.Common.{◌≡◌, ◌∷◌, [], List, ℕ, ℤ, ◌-◌, ◌^◌, pos, negsuc, Option, Some, None, not, true, refl, ap, sym}
use Rattle.std.specs.Prelude.{codes, option_and_then, ◌+ℤ◌}
use Rattle.std.specs.FinMap.{get-from_sorted}
use Rattle.std.specs.FinMap.Entries.{find, put, where_key}
use Rattle.std.specs.Ordering.{eq_by_cmp}
use Rattle.up_model.proofs.AttrLists.{Attr, HasOrder, StandsFor, by_name, attrs_of, is_put, without}
use Rattle.up_model.specs.Attrs.{Attrs}
use Rattle.up_model.specs.Dates.{date_name}
use Rattle.up_model.specs.Delay.{dated, with_date, moved, moved_from, delay_step}
use Rattle.up_model.specs.Kinds.{IsWithinBounds, setting_of, with_option, settled_work, work_of}
use Rattle.up_model.specs.Packet.{Flow, PlainPacket, plain}
use Rattle.up_model.specs.Value.{unsigned_of}
use Rattle.up_model.specs.declared.date_kind.DateKind.TheVariants.{Sys, Prog, Orig}
use Rattle.up_model.specs.declared.kind.Kind.TheVariants.{Delay}
use Rattle.up_model.specs.declared.opt.Opt.TheVariants.{Mtu, Align, Offset, Low, High, By, Sync}
use Rattle.up_model.specs.declared.value.Value.TheVariants.{Void, Flag, Unsigned, Words}
use Rattle.up_model.specs.declared.verdict.Verdict.TheVariants.{Passes}

-- the packet `ab` with these attributes
abbrev with : List Attr → PlainPacket
with list = record { attrs = attrs_of list; bytes = codes "ab" }

-- the list with this date under the name, or without the name
abbrev with_date_in : List ℕ → List Attr → Option ℕ → List Attr
with_date_in name list None = where_key by_name (λ x. not (eq_by_cmp by_name name x)) list
with_date_in name list (Some date) = put by_name name (Unsigned date) list

abbrev moved_from_in : ℤ → List ℕ → List Attr → Option ℕ → List Attr
moved_from_in by name list None = list
moved_from_in by name list (Some date) = with_date_in name list (dated (pos date +ℤ by))

-- the list with the number under the name moved
abbrev moved_in : ℤ → List ℕ → List Attr → List Attr
moved_in by name list = moved_from_in by name list (option_and_then unsigned_of (find by_name name list))

-- a map is changed by its laws: the list is computed
module _ (by : ℤ) (name : List ℕ) (list : List Attr) (order : HasOrder list) where
  date_stands : (date : Option ℕ) → StandsFor (with_date_in name list date) (with_date name (attrs_of list) date)
  date_stands None = without list _ name order refl
  date_stands (Some date) = is_put list _ name (Unsigned date) order refl

  number_stands : (number : Option ℕ) → StandsFor (moved_from_in by name list number) (moved_from by name (attrs_of list) number)
  number_stands None = record { order = order; is = refl }
  number_stands (Some date) = date_stands (dated (pos date +ℤ by))

  list_stands : StandsFor (moved_in by name list) (moved by name (attrs_of list))
  list_stands = rw (get-from_sorted by_name list name order) (number_stands (option_and_then unsigned_of (find by_name name list)))

then_stands : (by : ℤ) (name : List ℕ) (list : List Attr) (attrs : Attrs) → StandsFor list attrs → StandsFor (moved_in by name list) (moved by name attrs)
then_stands by name list attrs before = rw (← before.is) (list_stands by name list before.order)

moved_in_list : (by : ℤ) (list : List Attr) → HasOrder list
    → delay_step by (with list) ≡ Passes (with (moved_in by (date_name Orig) (moved_in by (date_name Prog) (moved_in by (date_name Sys) list)))) 0
moved_in_list by list order =
    let all = then_stands by (date_name Orig) _ _ (then_stands by (date_name Prog) _ _ (list_stands by (date_name Sys) list order)) in
    ap (λ (attrs : Attrs). Passes (record { attrs = attrs; bytes = codes "ab" }) 0) (sym all.is)

abbrev sys : ℕ → Attr
sys date = (codes "date.sys", Unsigned date)

abbrev prog : ℕ → Attr
prog date = (codes "date.prog", Unsigned date)

abbrev orig : ℕ → Attr
orig date = (codes "date.orig", Unsigned date)

-- each of the three is moved, and a number of another name stays
pub all_three : delay_step (pos 100) (with (orig 5 ∷ prog 6 ∷ sys 7 ∷ (codes "rate", Unsigned 8) ∷ []))
    ≡ Passes (with (orig 105 ∷ prog 106 ∷ sys 107 ∷ (codes "rate", Unsigned 8) ∷ [])) 0
all_three = moved_in_list (pos 100) (orig 5 ∷ prog 6 ∷ sys 7 ∷ (codes "rate", Unsigned 8) ∷ []) tt

-- a date of 0 that is moved down by 1 is taken away
pub below_zero : delay_step (negsuc 0) (with (sys 0 ∷ [])) ≡ Passes (with []) 0
below_zero = moved_in_list (negsuc 0) (sys 0 ∷ []) tt

-- one of 1 becomes 0
pub down_to_zero : delay_step (negsuc 0) (with (sys 1 ∷ [])) ≡ Passes (with (sys 0 ∷ [])) 0
down_to_zero = moved_in_list (negsuc 0) (sys 1 ∷ []) tt

-- the greatest date that is moved up by 1 is taken away, and the others go on
pub above_greatest : delay_step (pos 1) (with (orig (2 ^ 64 - 1) ∷ sys (2 ^ 64 - 2) ∷ [])) ≡ Passes (with (sys (2 ^ 64 - 1) ∷ [])) 0
above_greatest = moved_in_list (pos 1) (orig (2 ^ 64 - 1) ∷ sys (2 ^ 64 - 2) ∷ []) tt

-- the least and the greatest shift
pub least_and_greatest :
    (delay_step (negsuc 9223372036854775807) (with (sys 9223372036854775808 ∷ [])) ≡ Passes (with (sys 0 ∷ [])) 0)
    × (delay_step (pos 9223372036854775807) (with (sys 9223372036854775808 ∷ [])) ≡ Passes (with (sys (2 ^ 64 - 1) ∷ [])) 0)
least_and_greatest = (moved_in_list (negsuc 9223372036854775807) (sys 9223372036854775808 ∷ []) tt, moved_in_list (pos 9223372036854775807) (sys 9223372036854775808 ∷ []) tt)

-- a shift of 0 changes nothing
pub by_zero : delay_step (pos 0) (with (prog 0 ∷ sys (2 ^ 64 - 1) ∷ [])) ≡ Passes (with (prog 0 ∷ sys (2 ^ 64 - 1) ∷ [])) 0
by_zero = moved_in_list (pos 0) (prog 0 ∷ sys (2 ^ 64 - 1) ∷ []) tt

-- what is no number stays
abbrev no_numbers : List Attr
no_numbers = (codes "date.orig", Words (codes "7")) ∷ (codes "date.prog", Void) ∷ (codes "date.sys", Flag true) ∷ []

pub other_types : delay_step (negsuc 0) (with no_numbers) ≡ Passes (with no_numbers) 0
other_types = moved_in_list (negsuc 0) no_numbers tt

-- so does `date.Sys`, which is another name
pub other_name : delay_step (negsuc 0) (with ((codes "date.Sys", Unsigned 0) ∷ [])) ≡ Passes (with ((codes "date.Sys", Unsigned 0) ∷ [])) 0
other_name = moved_in_list (negsuc 0) ((codes "date.Sys", Unsigned 0) ∷ []) tt

-- the name of a date, byte by byte
pub name_of_a_date : date_name Sys ≡ 100 ∷ 97 ∷ 116 ∷ 101 ∷ 46 ∷ 115 ∷ 121 ∷ 115 ∷ []
name_of_a_date = refl

-- no packet is dropped and no byte is cut
pub tally : (work_of (Delay (negsuc 0)) (with (sys 0 ∷ []) ∷ with [] ∷ plain [] ∷ [])).tally
    ≡ record { taken = 3; put = 3; dropped = 0; cut = 0; gained = 0; lost = 0 }
tally = refl

-- the work before the end is the same: nothing is held back
pub settled : (taken : Flow) → settled_work (Delay (negsuc 0)) taken ≡ work_of (Delay (negsuc 0)) taken
settled taken = refl

-- its shift goes from -2^63 to 2^63 - 1
pub shift : setting_of (Delay (pos 4)) By
    ≡ Some (record { value = pos 4; low = negsuc 9223372036854775807; high = pos 9223372036854775807; set = λ value. Delay value })
shift = refl

-- and it has no other option
pub no_other : (setting_of (Delay (pos 4)) Mtu ≡ None) × (setting_of (Delay (pos 4)) Align ≡ None) × (setting_of (Delay (pos 4)) Offset ≡ None)
    × (setting_of (Delay (pos 4)) Low ≡ None) × (setting_of (Delay (pos 4)) High ≡ None) × (setting_of (Delay (pos 4)) Sync ≡ None)
no_other = (refl, refl, refl, refl, refl, refl)

pub set_shift : with_option (Delay (pos 4)) By (negsuc 4) ≡ Delay (negsuc 4)
set_shift = refl

-- the least and the greatest shift are within the bounds, those beyond are not
pub edges :
    IsWithinBounds (Delay (negsuc 9223372036854775807)) × (IsWithinBounds (Delay (negsuc 9223372036854775808)) → ⊥)
    × IsWithinBounds (Delay (pos 9223372036854775807)) × (IsWithinBounds (Delay (pos 9223372036854775808)) → ⊥)
edges = ((record { le = tt }, record { le = tt }), λ within. absurd within.0.le, (record { le = tt }, record { le = tt }), λ within. absurd within.1.le)
