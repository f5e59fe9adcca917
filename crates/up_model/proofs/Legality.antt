-- Legal packets stay legal.
use Rattle.std.proofs.Common.{◌≡◌, ℕ, ◌+◌, ◌-◌, ◌<◌, ◌≤◌, ◌⊎◌, inl, inr, List, [], ◌∷◌, length, map, All, Bool, true, false, not, cond, Ordering, Less, Equal, Greater, refl, sym, ap, ◌∙◌, arith}
use Rattle.std.specs.Prelude.{filter}
use Rattle.std.specs.Ordering.{eq_by_cmp}
use Rattle.std.specs.Cmp.Lexicographic.{nat_list_cmp_total}
use Rattle.std.specs.FinMap.{insert, remove, len, entries, contains_key, len-insert, len-remove, entries-insert, entries_sorted, entries-from_sorted, same_entries_map}
use Rattle.std.specs.FinMap.Entries.{put, where_key, by_order}
use Rattle.std.proofs.lemmas.List.Elements.{All-cons, All-head, All-tail}
use Rattle.up_base.specs.Name.{is_name}
use Rattle.up_model.proofs.AttrLists.{by_name, attrs_of, without}
use Rattle.up_model.specs.Attrs.{Attrs}
use Rattle.up_model.specs.Packet.{PlainPacket, IsLegal}
use Rattle.up_model.specs.Value.{IsLegalValue}
use Rattle.up_model.specs.declared.limits.TheConstants.{MAX_ATTRS, MAX_PACKET}
use Rattle.up_model.specs.declared.value.Value.{Value}

-- what holds of each item's part holds of those that are kept
All-kept : {X Y : Type 0} (part : X → Y) (test : X → Bool) (P : Y → Type 0) (xs : List X) → All P (map part xs) → All P (map part (filter test xs))
All-kept part test P [] all = all
All-kept part test P (x ∷ xs) all =
    let head = All-head P (part x) (map part xs) all in
    let rest = All-kept part test P xs (All-tail P (part x) (map part xs) all) in
    elim (test x) as (λ b. All P (map part (cond b (x ∷ filter test xs) (filter test xs)))) [ true ↦ All-cons P (part x) _ head rest | false ↦ rest ]

-- what holds of each key, or of each value, and of that of an entry holds of all after the entry is put
module _ {K X Y : Type 0} (R : K → K → Ordering) (key : K) (value : X) (part : K × X → Y) (P : Y → Type 0) (first : P (part (key, value))) where
  All-put : ((e : K × X) → P (part e) → P (part (e.0, value))) → (es : List (K × X)) → All P (map part es) → All P (map part (put R key value es))
  All-put tied [] all = All-cons P (part (key, value)) [] first all
  All-put tied (e ∷ es) all =
      let head = All-head P (part e) (map part es) all in
      let rest = All-tail P (part e) (map part es) all in
      elim (R key e.0) as (λ r. All P (map part (by_order r ((key, value) ∷ e ∷ es) ((e.0, value) ∷ es) (e ∷ put R key value es)))) [
        | Less ↦ All-cons P (part (key, value)) (map part (e ∷ es)) first all
        | Equal ↦ All-cons P (part (e.0, value)) (map part es) (tied e head) rest
        | Greater ↦ All-cons P (part e) (map part (put R key value es)) head (All-put tied es rest)
      ]

entries-remove : (attrs : Attrs) (name : List ℕ) → entries (remove attrs name) ≡ where_key by_name (λ x. not (eq_by_cmp by_name name x)) (entries attrs)
entries-remove attrs name =
    let order = entries_sorted attrs in
    let same : attrs_of (entries attrs) ≡ attrs = same_entries_map _ _ (entries-from_sorted by_name (entries attrs) order) in
    let rest = without (entries attrs) (where_key by_name (λ x. not (eq_by_cmp by_name name x)) (entries attrs)) name order refl in
    ap (λ (m : Attrs). entries (remove m name)) (sym same) ∙ ap entries (sym rest.is) ∙ entries-from_sorted by_name _ rest.order

one_less : (there : Bool) (n m : ℕ) → m ≡ cond there (n - 1) n → n ≤ MAX_ATTRS → m ≤ MAX_ATTRS
one_less true n m is few = omega arith
one_less false n m is few = omega arith

one_more : (there : Bool) (n m : ℕ) → m ≡ cond there n (n + 1) → n ≤ MAX_ATTRS → (there ≡ true) ⊎ (n < MAX_ATTRS) → m ≤ MAX_ATTRS
one_more true n m is few room = omega arith
one_more false n m is few (inl there) = absurd (cc)
one_more false n m is few (inr room) = omega arith

module _ (packet : PlainPacket) (legal : IsLegal packet) where
  pub with_bytes : (bytes : List ℕ) → length bytes ≤ MAX_PACKET → IsLegal (record packet { bytes = bytes })
  with_bytes bytes size = record { few = legal.few; names = legal.names; values = legal.values; size = size }

  pub with_attr : (name : List ℕ) (value : Value) → is_name name ≡ true → IsLegalValue value
      → (contains_key packet.attrs name ≡ true) ⊎ (len packet.attrs < MAX_ATTRS) → IsLegal (record packet { attrs = insert packet.attrs name value })
  with_attr name value named right room = record {
    few = one_more (contains_key packet.attrs name) (len packet.attrs) _ (len-insert nat_list_cmp_total packet.attrs name value) legal.few room;
    names = rw (entries-insert nat_list_cmp_total packet.attrs name value) (All-put by_name name value (λ e. e.0) (λ n. is_name n ≡ true) named (λ e kept. kept) (entries packet.attrs) legal.names);
    values = rw (entries-insert nat_list_cmp_total packet.attrs name value) (All-put by_name name value (λ e. e.1) IsLegalValue right (λ e kept. right) (entries packet.attrs) legal.values);
    size = legal.size;
  }

  pub without_attr : (name : List ℕ) → IsLegal (record packet { attrs = remove packet.attrs name })
  without_attr name = record {
    few = one_less (contains_key packet.attrs name) (len packet.attrs) _ (len-remove nat_list_cmp_total packet.attrs name) legal.few;
    names = rw (entries-remove packet.attrs name) (All-kept _ _ (λ n. is_name n ≡ true) (entries packet.attrs) legal.names);
    values = rw (entries-remove packet.attrs name) (All-kept _ _ IsLegalValue (entries packet.attrs) legal.values);
    size = legal.size;
  }
