-- Attributes that are set one by one, in the order in which they are read.
use Rattle.std.proofs.Common.{◌≡◌, ℕ, zero, suc, ◌+◌, ◌-◌, ◌<◌, ◌≤◌, List, [], ◌∷◌, length, take, drop, map, All, slice_get, Some, Ok, Err, refl, sym, ap, subst, ◌∙◌, arith}
use Rattle.std.specs.Cmp.Lexicographic.{nat_list_cmp_total}
use Rattle.std.specs.FinMap.{entries, entries-from_sorted, same_entries_map, empty, insert, len, len-entries}
use Rattle.std.proofs.lemmas.List.{take_all, drop-drop, length-take-le}
use Rattle.std.proofs.lemmas.Option.{slice_get_within}
use Rattle.up_base.specs.Number.{AreBytes}
use Rattle.up_model.proofs.AttrLists.{Attr, HasOrder, by_name, attrs_of}
use Rattle.up_model.proofs.FrameAttributes.{attributes_take}
use Rattle.up_model.proofs.FrameFields.{bind_ok, found, found_is}
use Rattle.up_model.specs.Attrs.{Attrs}
use Rattle.up_model.specs.FrameFronts.{Front, ◌>>=◌, attribute_at, attributes_at}
use Rattle.up_model.specs.Value.{IsLegalValue}
use Rattle.up_model.specs.declared.frame_layout.NotWhole.{NotWhole}
use Rattle.up_model.specs.declared.plain_packet.PlainPacket.{PlainPacket}
use Rattle.up_model.specs.declared.value.Value.{Value}
use Rattle.up_shape.proofs.Copies.{next_copied, entries-empty}

-- the packet has so many attributes of the list, and the others are read from the rest
pub record IsSet (old now : PlainPacket) (count place : ℕ) (list : List Attr) (behind before rest : List ℕ) : Type 0 where
  pub left : attributes_at (count - place) before rest ≡ Ok (drop place list, behind)
  pub front : entries now.attrs ≡ take place list
  pub same : now ≡ record old { attrs = now.attrs }

-- none is set
pub none_set : (old : PlainPacket) (count : ℕ) (list : List Attr) (behind bytes : List ℕ) → old.attrs ≡ empty
    → attributes_at count [] bytes ≡ Ok (list, behind) → IsSet old old count 0 list behind [] bytes
none_set old count list behind bytes none read =
    let all : count - 0 ≡ count = omega arith in
    record {
      left = ap (λ (n : ℕ). attributes_at n [] bytes) all ∙ read;
      front = entries-empty old.attrs none;
      same = refl;
    }

-- the next attribute, and those behind it
pub record IsNext (count place : ℕ) (list : List Attr) (behind before rest : List ℕ) (attr : Attr) (after : List ℕ) : Type 0 where
  pub read : attribute_at before rest ≡ Ok (attr, after)
  pub there : slice_get list place ≡ Some attr
  pub left : attributes_at (count - (place + 1)) attr.0 after ≡ Ok (drop (place + 1) list, behind)

at_place : (list : List Attr) (place : ℕ) (attr : Attr) (others : List Attr) → drop place list ≡ attr ∷ others → slice_get list place ≡ Some attr
at_place list zero attr others e = ap (λ (l : List Attr). slice_get l 0) e
at_place [] (suc place) attr others e = absurd cc
at_place (first ∷ list) (suc place) attr others e = at_place list place attr others e

-- where attributes are left, the next one is read
pub next_is : (old now : PlainPacket) (count place : ℕ) (list : List Attr) (behind before rest : List ℕ) → place < count
    → IsSet old now count place list behind before rest
    → (attr : Attr) × ((after : List ℕ) × IsNext count place list behind before rest attr after)
unfolding attributes_at
next_is old now count place list behind before rest more so_far =
    let n = count - (place + 1) in
    let left : count - place ≡ suc n = omega arith in
    let read : attributes_at (suc n) before rest ≡ Ok (drop place list, behind) =
    ap (λ (m : ℕ). attributes_at m before rest) (sym left) ∙ so_far.left in
    let a = bind_ok (attribute_at before rest) (λ first. attributes_at n first.0.0 first.1 >>= λ others. found (first.0 ∷ others.0, others.1)) (drop place list, behind) read in
    let b = bind_ok (attributes_at n a.0.0.0 a.0.1) (λ others. found (a.0.0 ∷ others.0, others.1)) (drop place list, behind) a.2 in
    let is = found_is (a.0.0 ∷ b.0.0, b.0.1) (drop place list, behind) b.2 in
    let list_is : drop place list ≡ a.0.0 ∷ b.0.0 = sym (ap (λ (p : List Attr × List ℕ). p.0) is) in
    let others_are : drop (place + 1) list ≡ b.0.0 = sym (drop-drop 1 place list) ∙ ap (drop 1) list_is in (
      a.0.0,
      (
        a.0.1,
        record {
          read = a.1;
          there = at_place list place a.0.0 b.0.0 list_is;
          left = b.1
              ∙ ap (λ (l : List Attr). found (l, b.0.1)) (sym others_are)
              ∙ ap (λ (r : List ℕ). found (drop (place + 1) list, r)) (ap (λ (p : List Attr × List ℕ). p.1) is);
        },
      ),
    )

-- what is read isn't refused
pub not_refused : {A : Type 0} (front : Front A) (x : A × List ℕ) (refused : NotWhole) → front ≡ Ok x → front ≡ Err refused → ⊥
not_refused (Ok y) x refused e not = absurd cc
not_refused (Err r) x refused e not = absurd cc

-- what is read where the next one is, is the next one
pub next_read : (count place : ℕ) (list : List Attr) (behind before rest : List ℕ) (attr other : Attr) (after others : List ℕ)
    → attribute_at before rest ≡ Ok (other, others) → IsNext count place list behind before rest attr after
    → IsNext count place list behind before rest other others
next_read count place list behind before rest attr other after others read next =
    let same = found_is (attr, after) (other, others) (sym next.read ∙ read) in
    subst (λ (p : Attr × List ℕ). IsNext count place list behind before rest p.0 p.1) same next

-- the attributes of a frame are in order and legal
pub in_order : (count : ℕ) (list : List Attr) (behind bytes : List ℕ) → AreBytes bytes → attributes_at count [] bytes ≡ Ok (list, behind)
    → HasOrder list × All IsLegalValue (map (λ e. e.1) list) × (length list ≡ count)
in_order count list behind bytes below read =
    let are = attributes_take count [] bytes (list, behind) below read in
    (are.behind.order, are.behind.legal, are.count_is)

-- one more is set
pub next_set : (old now new : PlainPacket) (count place : ℕ) (list : List Attr) (behind before rest name : List ℕ) (value : Value) (after : List ℕ)
    → HasOrder list → new ≡ record now { attrs = insert now.attrs name value } → IsNext count place list behind before rest (name, value) after
    → IsSet old now count place list behind before rest → IsSet old new count (place + 1) list behind name after
next_set old now new count place list behind before rest name value after order set next so_far =
    let whole : Attrs = attrs_of list in
    let all : entries whole ≡ list = entries-from_sorted by_name list order in
    let there : slice_get (entries whole) place ≡ Some (name, value) = ap (λ (l : List Attr). slice_get l place) all ∙ next.there in
    let front : entries now.attrs ≡ take place (entries whole) = so_far.front ∙ ap (take place) (sym all) in
    let more : entries (insert now.attrs name value) ≡ take (place + 1) (entries whole) =
    next_copied nat_list_cmp_total whole now.attrs place name value there front in
    let attrs : new.attrs ≡ insert now.attrs name value = ap (λ (p : PlainPacket). p.attrs) set in
    let bytes : new.bytes ≡ old.bytes = ap (λ (p : PlainPacket). p.bytes) set ∙ ap (λ (p : PlainPacket). p.bytes) so_far.same in
    record {
      left = next.left;
      front = ap entries attrs ∙ more ∙ ap (take (place + 1)) all;
      same = ap (λ (b : List ℕ). record new { bytes = b }) bytes;
    }

-- there is room for one more
pub has_room : (old now : PlainPacket) (count place most : ℕ) (list : List Attr) (behind before rest : List ℕ) (attr : Attr) → place < count → count ≤ most
    → slice_get list place ≡ Some attr → IsSet old now count place list behind before rest → len now.attrs < most
has_room old now count place most list behind before rest attr more few there so_far =
    let within = slice_get_within list place attr there in
    let size : length (take place list) ≡ place = length-take-le place list (omega (arith, within)) in
    let counted : len now.attrs ≡ place = len-entries now.attrs ∙ ap length so_far.front ∙ size in
    omega (arith, counted)

-- all are set
pub all_set : (old now : PlainPacket) (count place : ℕ) (list : List Attr) (behind before rest : List ℕ) → HasOrder list → length list ≡ count
    → count ≤ place → IsSet old now count place list behind before rest → now ≡ record old { attrs = attrs_of list }
all_set old now count place list behind before rest order size all so_far =
    let whole : take place list ≡ list = take_all place list (omega (arith, size)) in
    let attrs : now.attrs ≡ attrs_of list = same_entries_map now.attrs (attrs_of list) (so_far.front ∙ whole ∙ sym (entries-from_sorted by_name list order)) in
    so_far.same ∙ ap (λ (a : Attrs). record old { attrs = a }) attrs
