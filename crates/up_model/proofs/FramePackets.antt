-- A packet that is read is spelled so, and what is spelled so is read.
use Rattle.std.proofs.Common.{◌≡◌, ℕ, ◌^◌, ◌<◌, ◌≤◌, Bool, true, false, ◌&&◌, T, List, [], ◌∷◌, ◌++◌, length, map, All, eqb, leb, Ok, refl, sym, ap, subst, ◌∙◌, append_assoc, arith}
use Rattle.std.specs.FinMap.{entries, len, entries_sorted, entries-from_sorted, len-entries, same_entries_map}
use Rattle.std.specs.FinMap.Entries.{below_all}
use Rattle.std.specs.List.{flat_map}
use Rattle.std.specs.Ordering.{is_lt}
use Rattle.std.proofs.lemmas.Bool.{eqb-true, leb-true, le-leb}
use Rattle.std.proofs.lemmas.List.Elements.{All-head, All-tail}
use Rattle.up_base.specs.Name.{is_name}
use Rattle.up_base.specs.Number.{AreBytes, big_endian_bytes}
use Rattle.up_model.proofs.AttrLists.{Attr, by_name, attrs_of, len-list}
use Rattle.up_model.proofs.FrameAttributes.{AreBehind, attributes_take, attributes_again}
use Rattle.up_model.proofs.FrameFields.{bind_ok, found, found_is, Takes, takes_both, field_takes, field_again, number_takes, number_again}
use Rattle.up_model.specs.FrameFronts.{Front, ◌>>=◌, field, number_at, is_any, attributes_at, content_at, packet_at}
use Rattle.up_model.specs.FrameSpelling.{attribute_bytes, head_bytes, frame_of}
use Rattle.up_model.specs.Packet.{IsLegal}
use Rattle.up_model.specs.Value.{IsLegalValue}
use Rattle.up_model.specs.declared.frame_layout.TheConstants.{MARK, VERSION}
use Rattle.up_model.specs.declared.limits.TheConstants.{MAX_ATTRS, MAX_PACKET}
use Rattle.up_model.specs.declared.plain_packet.PlainPacket.{PlainPacket}

abbrev packet_of : List Attr → List ℕ → PlainPacket
packet_of attrs bytes = record { attrs = attrs_of attrs; bytes = bytes }

-- attributes and bytes that were read
record IsContent (count size : ℕ) (bytes : List ℕ) (packet : PlainPacket) (rest : List ℕ) : Type 0 where
  takes : Takes bytes (flat_map attribute_bytes (entries packet.attrs) ++ packet.bytes) rest
  count_is : len packet.attrs ≡ count
  size_is : length packet.bytes ≡ size
  legal : IsLegal packet

content_takes : (count size : ℕ) (bytes : List ℕ) (x : PlainPacket × List ℕ) → AreBytes bytes → count ≤ MAX_ATTRS → size ≤ MAX_PACKET
    → content_at count size bytes ≡ Ok x → IsContent count size bytes x.0 x.1
unfolding content_at
content_takes count size bytes x below few small e =
    let a = bind_ok (attributes_at count [] bytes) (λ attrs. field size is_any attrs.1 >>= λ content. found (packet_of attrs.0 content.0, content.1)) x e in
    let b = bind_ok (field size is_any a.0.1) (λ content. found (packet_of a.0.0 content.0, content.1)) x a.2 in
    let attrs = attributes_take count [] bytes a.0 below a.1 in
    let content = field_takes size is_any a.0.1 b.0 attrs.takes.below b.1 in
    let packet = packet_of a.0.0 b.0.0 in
    let same : entries packet.attrs ≡ a.0.0 = entries-from_sorted by_name a.0.0 attrs.behind.order in
    let counted : len packet.attrs ≡ count = len-list a.0.0 attrs.behind.order ∙ attrs.count_is in
    let whole = takes_both bytes (flat_map attribute_bytes a.0.0) a.0.1 b.0.0 b.0.1 attrs.takes content.takes in
    let made : IsContent count size bytes packet b.0.1 = record {
      takes = subst (λ (list : List Attr). Takes bytes (flat_map attribute_bytes list ++ b.0.0) b.0.1) (sym same) whole;
      count_is = counted;
      size_is = content.size_is;
      legal = record {
        few = omega (arith, counted);
        names = subst (λ (list : List Attr). All (λ name. is_name name ≡ true) (map (λ e. e.0) list)) (sym same) attrs.behind.names;
        values = subst (λ (list : List Attr). All IsLegalValue (map (λ e. e.1) list)) (sym same) attrs.behind.legal;
        size = omega (arith, content.size_is);
      };
    } in
    subst (λ (p : PlainPacket × List ℕ). IsContent count size bytes p.0 p.1) (found_is (packet, b.0.1) x b.2) made

-- what was read as a frame
pub record IsFrame (bytes : List ℕ) (packet : PlainPacket) (rest : List ℕ) : Type 0 where
  pub takes : Takes bytes (frame_of packet) rest
  pub legal : IsLegal packet

head_then : (count size mark version : ℕ) → mark ≡ MARK → version ≡ VERSION
    → big_endian_bytes 1 mark ++ (big_endian_bytes 1 version ++ (big_endian_bytes 2 count ++ big_endian_bytes 4 size)) ≡ head_bytes count size
head_then count size mark version m v = rw (m, v) refl

pub packet_takes : (bytes : List ℕ) (x : PlainPacket × List ℕ) → AreBytes bytes → packet_at bytes ≡ Ok x → IsFrame bytes x.0 x.1
unfolding packet_at
packet_takes bytes x below e =
    let a = bind_ok (number_at 1 (λ n. eqb n MARK) bytes) (λ mark. number_at 1 (λ n. eqb n VERSION) mark.1 >>= λ version. number_at 2 (λ n. leb n MAX_ATTRS) version.1 >>= λ count. number_at 4 (λ n. leb n MAX_PACKET) count.1 >>= λ size. content_at count.0 size.0 size.1) x e in
    let b = bind_ok (number_at 1 (λ n. eqb n VERSION) a.0.1) (λ version. number_at 2 (λ n. leb n MAX_ATTRS) version.1 >>= λ count. number_at 4 (λ n. leb n MAX_PACKET) count.1 >>= λ size. content_at count.0 size.0 size.1) x a.2 in
    let c = bind_ok (number_at 2 (λ n. leb n MAX_ATTRS) b.0.1) (λ count. number_at 4 (λ n. leb n MAX_PACKET) count.1 >>= λ size. content_at count.0 size.0 size.1) x b.2 in
    let d = bind_ok (number_at 4 (λ n. leb n MAX_PACKET) c.0.1) (λ size. content_at c.0.0 size.0 size.1) x c.2 in
    let mark = number_takes 1 (λ n. eqb n MARK) bytes a.0 below a.1 in
    let version = number_takes 1 (λ n. eqb n VERSION) a.0.1 b.0 mark.0.below b.1 in
    let count = number_takes 2 (λ n. leb n MAX_ATTRS) b.0.1 c.0 version.0.below c.1 in
    let size = number_takes 4 (λ n. leb n MAX_PACKET) c.0.1 d.0 count.0.below d.1 in
    let content = content_takes c.0.0 d.0.0 d.0.1 x size.0.below (leb-true _ _ count.1) (leb-true _ _ size.1) d.2 in
    let lengths = takes_both b.0.1 (big_endian_bytes 2 c.0.0) c.0.1 (big_endian_bytes 4 d.0.0) d.0.1 count.0 size.0 in
    let behind_mark = takes_both a.0.1 (big_endian_bytes 1 b.0.0) b.0.1 (big_endian_bytes 2 c.0.0 ++ big_endian_bytes 4 d.0.0) d.0.1 version.0 lengths in
    let head = takes_both bytes (big_endian_bytes 1 a.0.0) a.0.1 (big_endian_bytes 1 b.0.0 ++ (big_endian_bytes 2 c.0.0 ++ big_endian_bytes 4 d.0.0)) d.0.1 mark.0 behind_mark in
    let spelled : big_endian_bytes 1 a.0.0 ++ (big_endian_bytes 1 b.0.0 ++ (big_endian_bytes 2 c.0.0 ++ big_endian_bytes 4 d.0.0)) ≡ head_bytes (len x.0.attrs) (length x.0.bytes) =
    head_then c.0.0 d.0.0 a.0.0 b.0.0 (eqb-true _ _ mark.1) (eqb-true _ _ version.1)
    ∙ ap (λ (n : ℕ). head_bytes n d.0.0) (sym content.count_is) ∙ ap (head_bytes (len x.0.attrs)) (sym content.size_is) in
    let attrs = flat_map attribute_bytes (entries x.0.attrs) in
    let whole = takes_both bytes (head_bytes (len x.0.attrs) (length x.0.bytes)) d.0.1 (attrs ++ x.0.bytes) x.1
    (subst (λ (text : List ℕ). Takes bytes text d.0.1) spelled head) content.takes in
    record {
      takes = subst (λ (text : List ℕ). Takes bytes text x.1) (sym (append_assoc (head_bytes (len x.0.attrs) (length x.0.bytes)) attrs x.0.bytes)) whole;
      legal = content.legal;
    }

-- names stand behind no byte
all_rise : (attrs : List Attr) → All (λ name. is_name name ≡ true) (map (λ e. e.0) attrs) → T (below_all by_name [] attrs)
all_rise [] names = tt
all_rise (attr ∷ attrs) names =
    both_true _ _ (not_empty attr.0 (All-head (λ name. is_name name ≡ true) attr.0 (map (λ e. e.0) attrs) names))
    (all_rise attrs (All-tail (λ name. is_name name ≡ true) attr.0 (map (λ e. e.0) attrs) names))
  where
    not_empty : (name : List ℕ) → is_name name ≡ true → T (is_lt (by_name [] name))
    not_empty [] holds = absurd cc
    not_empty (byte ∷ name) holds = tt

    both_true : (a b : Bool) → T a → T b → T (a && b)
    both_true true b p q = q
    both_true false b p q = absurd p

behind_nothing : (packet : PlainPacket) → IsLegal packet → AreBehind [] (entries packet.attrs)
behind_nothing packet legal = record {
  order = entries_sorted packet.attrs;
  rise = all_rise (entries packet.attrs) legal.names;
  names = legal.names;
  legal = legal.values;
}

same_packet : (packet : PlainPacket) → packet_of (entries packet.attrs) packet.bytes ≡ packet
same_packet packet =
    ap (λ attrs. record packet { attrs = attrs })
    (same_entries_map (attrs_of (entries packet.attrs)) packet.attrs (entries-from_sorted by_name (entries packet.attrs) (entries_sorted packet.attrs)))

content_again : (packet : PlainPacket) (rest : List ℕ) → IsLegal packet
    → content_at (len packet.attrs) (length packet.bytes) (flat_map attribute_bytes (entries packet.attrs) ++ (packet.bytes ++ rest)) ≡ Ok (packet, rest)
unfolding content_at
content_again packet rest legal =
    let list = entries packet.attrs in
    let size = length packet.bytes in
    let attrs = attributes_again list [] (packet.bytes ++ rest) (behind_nothing packet legal) in
    let content = field_again size is_any packet.bytes rest refl refl in
    ap (λ (count : ℕ). content_at count size (flat_map attribute_bytes list ++ (packet.bytes ++ rest))) (len-entries packet.attrs)
    ∙ ap (λ (r : Front (List Attr)). r >>= λ attrs. field size is_any attrs.1 >>= λ content. found (packet_of attrs.0 content.0, content.1)) attrs
    ∙ ap (λ (r : Front (List ℕ)). r >>= λ content. found (packet_of list content.0, content.1)) content
    ∙ ap (λ (p : PlainPacket). found (p, rest)) (same_packet packet)

pub packet_again : (packet : PlainPacket) (rest : List ℕ) → IsLegal packet → packet_at (frame_of packet ++ rest) ≡ Ok (packet, rest)
unfolding packet_at
packet_again packet rest legal =
    let count = len packet.attrs in
    let size = length packet.bytes in
    let attrs = flat_map attribute_bytes (entries packet.attrs) in
    let content = attrs ++ (packet.bytes ++ rest) in
    let sized = big_endian_bytes 4 size ++ content in
    let counted = big_endian_bytes 2 count ++ sized in
    let grouped : frame_of packet ++ rest ≡ big_endian_bytes 1 MARK ++ (big_endian_bytes 1 VERSION ++ counted) =
    append_assoc (head_bytes count size ++ attrs) packet.bytes rest ∙ append_assoc (head_bytes count size) attrs (packet.bytes ++ rest) in
    let few : count < 256 ^ 2 = omega (arith, legal.few) in
    let small : size < 256 ^ 4 = omega (arith, legal.size) in
    ap packet_at grouped
    ∙ ap (λ (r : Front ℕ). r >>= λ mark. number_at 1 (λ n. eqb n VERSION) mark.1 >>= λ version. number_at 2 (λ n. leb n MAX_ATTRS) version.1 >>= λ count. number_at 4 (λ n. leb n MAX_PACKET) count.1 >>= λ size. content_at count.0 size.0 size.1)
    (number_again 1 (λ n. eqb n MARK) MARK (big_endian_bytes 1 VERSION ++ counted) (omega arith) refl)
    ∙ ap (λ (r : Front ℕ). r >>= λ version. number_at 2 (λ n. leb n MAX_ATTRS) version.1 >>= λ count. number_at 4 (λ n. leb n MAX_PACKET) count.1 >>= λ size. content_at count.0 size.0 size.1)
    (number_again 1 (λ n. eqb n VERSION) VERSION counted (omega arith) refl)
    ∙ ap (λ (r : Front ℕ). r >>= λ count. number_at 4 (λ n. leb n MAX_PACKET) count.1 >>= λ size. content_at count.0 size.0 size.1)
    (number_again 2 (λ n. leb n MAX_ATTRS) count sized few (le-leb _ _ legal.few))
    ∙ ap (λ (r : Front ℕ). r >>= λ size. content_at count size.0 size.1)
    (number_again 4 (λ n. leb n MAX_PACKET) size content small (le-leb _ _ legal.size))
    ∙ content_again packet rest legal
