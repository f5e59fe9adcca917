-- What `delay` makes of the dates of a packet.
use Rattle.std.proofs.Common.{◌≡◌, ◌≢◌, ℕ, ℤ, pos, List, [], ◌∷◌, map, false, cond, Option, Some, None, option_map, Ordering, Less, Equal, Greater, refl, ap, ◌∙◌}
use Rattle.std.specs.Prelude.{◌+ℤ◌, option_and_then}
use Rattle.std.specs.Cmp.{eq_by_cmp_equiv}
use Rattle.std.specs.Cmp.Lexicographic.{nat_list_cmp_total}
use Rattle.std.specs.FinMap.{get, get-insert, get-remove, slice_cmp-IsAntisymmetric, nat_cmp-IsAntisymmetric}
use Rattle.std.specs.Ordering.{eq_by_cmp, is_eq}
use Rattle.up_model.proofs.AttrLists.{by_name}
use Rattle.up_model.specs.Attrs.{Attrs, unsigned_at}
use Rattle.up_model.specs.Dates.{date_name}
use Rattle.up_model.specs.Delay.{dated, with_date, moved, moved_from, moved_value, delayed, delayed_packet, delay_step}
use Rattle.up_model.specs.Packet.{Flow}
use Rattle.up_model.specs.Packetwise.{passed}
use Rattle.up_model.specs.Value.{unsigned_of}
use Rattle.up_model.specs.declared.date_kind.DateKind.{DateKind}
use Rattle.up_model.specs.declared.date_kind.DateKind.TheVariants.{Sys, Prog, Orig}
use Rattle.up_model.specs.declared.value.Value.{Value}
use Rattle.up_model.specs.declared.value.Value.TheVariants.{Void, Flag, Unsigned, Words, Opaque}

module _ (name : List ℕ) (attrs : Attrs) where
  -- under the name
  date-here : (date : Option ℕ) → get (with_date name attrs date) name ≡ option_map Unsigned date
  date-here None = get-remove nat_list_cmp_total attrs name name ∙ ap (λ same. cond same None (get attrs name)) ((eq_by_cmp_equiv nat_list_cmp_total).refl name)
  date-here (Some date) =
      get-insert nat_list_cmp_total attrs name (Unsigned date) name
      ∙ ap (λ same. cond same (Some (Unsigned date)) (get attrs name)) ((eq_by_cmp_equiv nat_list_cmp_total).refl name)

  moved-here : (by : ℤ) → get (moved by name attrs) name ≡ moved_value by (get attrs name)
  moved-here by = by_value (get attrs name) refl
    where
      by_value : (found : Option Value) → get attrs name ≡ found → get (moved_from by name attrs (option_and_then unsigned_of found)) name ≡ moved_value by found
      by_value None is = is
      by_value (Some Void) is = is
      by_value (Some (Flag flag)) is = is
      by_value (Some (Unsigned date)) is = date-here (dated (pos date +ℤ by))
      by_value (Some (Words text)) is = is
      by_value (Some (Opaque bytes)) is = is

  -- under another name
  module _ (other : List ℕ) (apart : eq_by_cmp by_name other name ≡ false) where
    date-elsewhere : (date : Option ℕ) → get (with_date name attrs date) other ≡ get attrs other
    date-elsewhere None = get-remove nat_list_cmp_total attrs name other ∙ ap (λ same. cond same None (get attrs other)) apart
    date-elsewhere (Some date) =
        get-insert nat_list_cmp_total attrs name (Unsigned date) other
        ∙ ap (λ same. cond same (Some (Unsigned date)) (get attrs other)) apart

    moved-elsewhere : (by : ℤ) → get (moved by name attrs) other ≡ get attrs other
    moved-elsewhere by = by_number (unsigned_at name attrs)
      where
        by_number : (found : Option ℕ) → get (moved_from by name attrs found) other ≡ get attrs other
        by_number None = refl
        by_number (Some date) = date-elsewhere (dated (pos date +ℤ by))

differ : (a b : List ℕ) → a ≢ b → eq_by_cmp by_name a b ≡ false
differ a b apart = by_order (by_name a b) refl
  where
    by_order : (order : Ordering) → by_name a b ≡ order → is_eq order ≡ false
    by_order Less is = refl
    by_order Equal is = absurd (apart (slice_cmp-IsAntisymmetric nat_cmp-IsAntisymmetric a b is))
    by_order Greater is = refl

-- no packet is dropped
pub all_pass : (by : ℤ) (taken : Flow) → passed (delay_step by) taken ≡ map (delayed_packet by) taken
all_pass by [] = refl
all_pass by (packet ∷ taken) = ap (λ rest. delayed_packet by packet ∷ rest) (all_pass by taken)

module _ (by : ℤ) (attrs : Attrs) where
  pub date_is_moved : (which : DateKind) → get (delayed by attrs) (date_name which) ≡ moved_value by (get attrs (date_name which))
  date_is_moved Sys =
      moved-elsewhere (date_name Orig) _ (date_name Sys) refl by
      ∙ moved-elsewhere (date_name Prog) _ (date_name Sys) refl by
      ∙ moved-here (date_name Sys) attrs by
  date_is_moved Prog =
      moved-elsewhere (date_name Orig) _ (date_name Prog) refl by
      ∙ moved-here (date_name Prog) _ by
      ∙ ap (moved_value by) (moved-elsewhere (date_name Sys) attrs (date_name Prog) refl by)
  date_is_moved Orig =
      moved-here (date_name Orig) _ by
      ∙ ap (moved_value by)
      (moved-elsewhere (date_name Prog) _ (date_name Orig) refl by
      ∙ moved-elsewhere (date_name Sys) attrs (date_name Orig) refl by)

  pub other_stays : (name : List ℕ) → ((which : DateKind) → name ≢ date_name which) → get (delayed by attrs) name ≡ get attrs name
  other_stays name apart =
      moved-elsewhere (date_name Orig) _ name (differ _ _ (apart Orig)) by
      ∙ moved-elsewhere (date_name Prog) _ name (differ _ _ (apart Prog)) by
      ∙ moved-elsewhere (date_name Sys) attrs name (differ _ _ (apart Sys)) by
