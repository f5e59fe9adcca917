-- Frames that go on behind what was judged.
use Rattle.std.proofs.Common.{◌≡◌, ℕ, suc, ◌+◌, ◌-◌, ◌<◌, ◌≤◌, Bool, true, false, eqb, leb, ltb, List, [], ◌∷◌, ◌++◌, length, take, drop, append_assoc, append-nil, Option, Some, None, Ok, Err, refl, sym, ap, subst, ◌∙◌, arith}
use Rattle.std.proofs.lemmas.List.{length-append, length-drop, drop-drop, take_all, drop_at, take-append-drop}
use Rattle.std.proofs.lemmas.List.Elements.{All-drop}
use Rattle.std.proofs.lemmas.Bool.{le-ltb, lt-ltb}
use Rattle.up_base.specs.Number.{AreBytes, big_endian_bytes}
use Rattle.up_frame.specs.Judging.{name_or_none, goes_on, GoesOn, IsJudged, EndsAt}
use Rattle.up_frame.specs.declared.judged.Judged.{Judged}
use Rattle.up_model.proofs.AttrLists.{Attr, attrs_of}
use Rattle.up_model.proofs.FrameAttributes.{attribute_takes}
use Rattle.up_model.proofs.FrameFields.{found, number_takes, length_digits}
use Rattle.up_model.proofs.FrameShorter.{attribute_shrinks}
use Rattle.up_model.proofs.FrameSteady.{Stays, Steady, number_steady, attribute_steady}
use Rattle.up_model.specs.FrameFronts.{Front, ◌>>=◌, field, number_at, is_any, attribute_at, attributes_at, content_at, packet_at}
use Rattle.up_model.specs.FrameSpelling.{attribute_bytes}
use Rattle.up_model.specs.declared.frame_layout.NotWhole.{NotWhole}
use Rattle.up_model.specs.declared.frame_layout.NotWhole.TheVariants.{Unfinished}
use Rattle.up_model.specs.declared.frame_layout.TheConstants.{MARK, VERSION}
use Rattle.up_model.specs.declared.limits.TheConstants.{MAX_ATTRS, MAX_PACKET}
use Rattle.up_model.specs.declared.plain_packet.PlainPacket.{PlainPacket}
use Rattle.up_model.specs.declared.value.Value.{Value}

-- what was found is found with more bytes behind
later : {A : Type 0} (front : List ℕ → Front A) → Steady front → (bytes more : List ℕ) (x : A × List ℕ) → front bytes ≡ Ok x
    → front (bytes ++ more) ≡ Ok (x.0, x.1 ++ more)
later front steady bytes more x e = subst (λ now. Stays more now (front (bytes ++ more))) e (steady bytes more)

abbrev packet_of : List Attr → List ℕ → PlainPacket
packet_of attrs bytes = record { attrs = attrs_of attrs; bytes = bytes }

from_start : (count size : ℕ) (bytes : List ℕ) → content_at count size bytes ≡ goes_on [] count size [] bytes
unfolding content_at goes_on
from_start count size bytes = refl

-- behind the head a frame goes on with all its attributes
pub head_on : (bytes : List ℕ) (mark version count size : ℕ × List ℕ)
    → number_at 1 (λ n. eqb n MARK) bytes ≡ Ok mark → number_at 1 (λ n. eqb n VERSION) mark.1 ≡ Ok version
    → number_at 2 (λ n. leb n MAX_ATTRS) version.1 ≡ Ok count → number_at 4 (λ n. leb n MAX_PACKET) count.1 ≡ Ok size
    → (more : List ℕ) → packet_at (bytes ++ more) ≡ goes_on [] count.0 size.0 [] (size.1 ++ more)
unfolding packet_at
head_on bytes mark version count size first second third fourth more =
    ap (λ (r : Front ℕ). r >>= λ mark. number_at 1 (λ n. eqb n VERSION) mark.1 >>= λ version. number_at 2 (λ n. leb n MAX_ATTRS) version.1 >>= λ count. number_at 4 (λ n. leb n MAX_PACKET) count.1 >>= λ size. content_at count.0 size.0 size.1)
    (later (number_at 1 (λ n. eqb n MARK)) (number_steady 1 (λ n. eqb n MARK)) bytes more mark first)
    ∙ ap (λ (r : Front ℕ). r >>= λ version. number_at 2 (λ n. leb n MAX_ATTRS) version.1 >>= λ count. number_at 4 (λ n. leb n MAX_PACKET) count.1 >>= λ size. content_at count.0 size.0 size.1)
    (later (number_at 1 (λ n. eqb n VERSION)) (number_steady 1 (λ n. eqb n VERSION)) mark.1 more version second)
    ∙ ap (λ (r : Front ℕ). r >>= λ count. number_at 4 (λ n. leb n MAX_PACKET) count.1 >>= λ size. content_at count.0 size.0 size.1)
    (later (number_at 2 (λ n. leb n MAX_ATTRS)) (number_steady 2 (λ n. leb n MAX_ATTRS)) version.1 more count third)
    ∙ ap (λ (r : Front ℕ). r >>= λ size. content_at count.0 size.0 size.1)
    (later (number_at 4 (λ n. leb n MAX_PACKET)) (number_steady 4 (λ n. leb n MAX_PACKET)) count.1 more size fourth)
    ∙ from_start count.0 size.0 (size.1 ++ more)

-- a number is so many bytes, and then the rest
pub record Skips (count : ℕ) (bytes rest : List ℕ) : Type 0 where
  pub passed : List ℕ
  pub parts : bytes ≡ passed ++ rest
  pub place : length passed ≡ count

skips_both : (m n : ℕ) (bytes between rest : List ℕ) → Skips m bytes between → Skips n between rest → Skips (m + n) bytes rest
skips_both m n bytes between rest p q = record {
  passed = p.passed ++ q.passed;
  parts = p.parts ∙ ap (λ behind. p.passed ++ behind) q.parts ∙ sym (append_assoc p.passed q.passed rest);
  place = omega (arith, length-append p.passed q.passed, p.place, q.place);
}

number_skips : (size : ℕ) (rule : ℕ → Bool) (bytes : List ℕ) (x : ℕ × List ℕ) → AreBytes bytes → number_at size rule bytes ≡ Ok x
    → Skips size bytes x.1 × AreBytes x.1
number_skips size rule bytes x below e =
    let taken = (number_takes size rule bytes x below e).0 in
    (record { passed = big_endian_bytes size x.0; parts = taken.parts; place = length_digits size x.0 }, taken.below)

-- the head has eight bytes
pub head_skips : (bytes : List ℕ) (mark version count size : ℕ × List ℕ) → AreBytes bytes
    → number_at 1 (λ n. eqb n MARK) bytes ≡ Ok mark → number_at 1 (λ n. eqb n VERSION) mark.1 ≡ Ok version
    → number_at 2 (λ n. leb n MAX_ATTRS) version.1 ≡ Ok count → number_at 4 (λ n. leb n MAX_PACKET) count.1 ≡ Ok size
    → Skips 8 bytes size.1
head_skips bytes mark version count size below first second third fourth =
    let a = number_skips 1 (λ n. eqb n MARK) bytes mark below first in
    let b = number_skips 1 (λ n. eqb n VERSION) mark.1 version a.1 second in
    let d = number_skips 2 (λ n. leb n MAX_ATTRS) version.1 count b.1 third in
    let e = number_skips 4 (λ n. leb n MAX_PACKET) count.1 size d.1 fourth in
    skips_both 1 7 bytes mark.1 size.1 a.0 (skips_both 1 6 mark.1 version.1 size.1 b.0 (skips_both 2 4 version.1 count.1 size.1 d.0 e.0))

abbrev ends_with : ℕ → List Attr → Front (List Attr) → Front PlainPacket
ends_with size front read =
    read >>= λ attrs. field size is_any attrs.1 >>= λ content. found (packet_of (front ++ attrs.0) content.0, content.1)

one_over : (size : ℕ) (front : List Attr) (attr : Attr) (read : Front (List Attr))
    → ends_with size front (read >>= λ others. found (attr ∷ others.0, others.1)) ≡ ends_with size (front ++ attr ∷ []) read
one_over size front attr (Ok x) =
    ap (λ (list : List Attr). field size is_any x.1 >>= λ content. found (packet_of list content.0, content.1)) (sym (append_assoc front (attr ∷ []) x.0))
one_over size front attr (Err refused) = refl

next_on : (front : List Attr) (left size : ℕ) (before behind : List ℕ) (attr : Attr) (rest more : List ℕ)
    → attribute_at before behind ≡ Ok (attr, rest)
    → goes_on front (suc left) size before (behind ++ more) ≡ goes_on (front ++ attr ∷ []) left size attr.0 (rest ++ more)
unfolding goes_on attributes_at
next_on front left size before behind attr rest more e =
    ap (λ (r : Front Attr). ends_with size front (r >>= λ first. attributes_at left first.0.0 first.1 >>= λ others. found (first.0 ∷ others.0, others.1)))
    (later (attribute_at before) (attribute_steady before) behind more (attr, rest) e)
    ∙ one_over size front attr (attributes_at left attr.0 (rest ++ more))

refused_on : (front : List Attr) (left size : ℕ) (before behind : List ℕ) (refused : NotWhole) → attribute_at before behind ≡ Err refused
    → goes_on front (suc left) size before behind ≡ Err refused
unfolding goes_on attributes_at
refused_on front left size before behind refused e =
    ap (λ (r : Front Attr). ends_with size front (r >>= λ first. attributes_at left first.0.0 first.1 >>= λ others. found (first.0 ∷ others.0, others.1))) e

-- what is behind the judged bytes
pub behind_is : (judged : Judged) (bytes : List ℕ) → (on : GoesOn judged bytes) → drop judged.at bytes ≡ on.behind
behind_is judged bytes on = ap (drop judged.at) on.parts ∙ drop_at on.passed on.behind judged.at on.place

-- the bytes alone
alone : (judged : Judged) (bytes : List ℕ) → (on : GoesOn judged bytes)
    → packet_at bytes ≡ goes_on on.front judged.left judged.size (name_or_none judged.before) (drop judged.at bytes)
alone judged bytes on =
    ap packet_at (sym (append-nil bytes)) ∙ on.on []
    ∙ ap (goes_on on.front judged.left judged.size (name_or_none judged.before)) (append-nil on.behind ∙ sym (behind_is judged bytes on))

-- an attribute more was judged
pub one_more : (judged next : Judged) (bytes name : List ℕ) (value : Value) (rest : List ℕ) → AreBytes bytes → judged.at ≤ length bytes
    → 0 < judged.left
    → attribute_at (name_or_none judged.before) (drop judged.at bytes) ≡ Ok ((name, value), rest)
    → next.at ≡ length bytes - length rest → next.left ≡ judged.left - 1 → next.size ≡ judged.size → next.before ≡ Some name
    → GoesOn judged bytes → GoesOn next bytes
one_more judged next bytes name value rest below within some e at left size before on =
    let behind = behind_is judged bytes on in
    let taken = (attribute_takes (name_or_none judged.before) (drop judged.at bytes) ((name, value), rest) (All-drop (λ byte. byte < 256) judged.at bytes below) e).0 in
    let text = attribute_bytes (name, value) in
    let parts : bytes ≡ (take judged.at bytes ++ text) ++ rest =
    sym (take-append-drop judged.at bytes) ∙ ap (λ b. take judged.at bytes ++ b) taken.parts ∙ sym (append_assoc (take judged.at bytes) text rest) in
    let more_left : judged.left ≡ suc next.left = omega (arith, left) in
    let counted : length bytes ≡ length (take judged.at bytes ++ text) + length rest = ap length parts ∙ length-append (take judged.at bytes ++ text) rest in
    record {
      front = on.front ++ (name, value) ∷ [];
      passed = take judged.at bytes ++ text;
      behind = rest;
      parts = parts;
      place = omega (arith, at, counted);
      on = λ more.
          on.on more
          ∙ ap (λ (n : ℕ). goes_on on.front n judged.size (name_or_none judged.before) (on.behind ++ more)) more_left
          ∙ ap (λ (b : List ℕ). goes_on on.front (suc next.left) judged.size (name_or_none judged.before) (b ++ more)) (sym behind)
          ∙ next_on on.front next.left judged.size (name_or_none judged.before) (drop judged.at bytes) (name, value) rest more e
          ∙ ap (λ (s : ℕ). goes_on (on.front ++ (name, value) ∷ []) next.left s name (rest ++ more)) (sym size)
          ∙ ap (λ (b : List ℕ). goes_on (on.front ++ (name, value) ∷ []) next.left next.size b (rest ++ more)) (sym (ap name_or_none before));
    }

-- the next attribute is refused
pub none_more : (judged : Judged) (bytes : List ℕ) (refused : NotWhole) → 0 < judged.left
    → attribute_at (name_or_none judged.before) (drop judged.at bytes) ≡ Err refused → GoesOn judged bytes → packet_at bytes ≡ Err refused
none_more judged bytes refused some e on =
    let more_left : judged.left ≡ suc (judged.left - 1) = omega arith in
    alone judged bytes on
    ∙ ap (λ (n : ℕ). goes_on on.front n judged.size (name_or_none judged.before) (drop judged.at bytes)) more_left
    ∙ refused_on on.front (judged.left - 1) judged.size (name_or_none judged.before) (drop judged.at bytes) refused e

body_whole : (front : List Attr) (size : ℕ) (before behind : List ℕ) → size ≤ length behind
    → goes_on front 0 size before behind ≡ Ok (packet_of (front ++ []) (take size behind), drop size behind)
unfolding goes_on attributes_at
body_whole front size before behind long =
    let enough : ltb (length behind) size ≡ false = le-ltb _ _ long in
    rw enough refl

body_short : (front : List Attr) (size : ℕ) (before behind : List ℕ) → length behind < size
    → goes_on front 0 size before behind ≡ Err Unfinished
unfolding goes_on attributes_at
body_short front size before behind short =
    let short : ltb (length behind) size ≡ true = lt-ltb _ _ short in
    rw short refl

-- the frame ends behind its bytes
pub whole : (judged : Judged) (bytes : List ℕ) → judged.left ≡ 0 → judged.at + judged.size ≤ length bytes → GoesOn judged bytes
    → EndsAt (Ok (judged.at + judged.size)) bytes
whole judged bytes all long on =
    let behind = drop judged.at bytes in
    let enough : judged.size ≤ length behind = omega (arith, length-drop judged.at bytes) in
    let place : drop judged.size behind ≡ drop (judged.at + judged.size) bytes = drop-drop judged.size judged.at bytes in
    let packet = packet_of (on.front ++ []) (take judged.size behind) in (
      packet,
      alone judged bytes on
          ∙ ap (λ (n : ℕ). goes_on on.front n judged.size (name_or_none judged.before) behind) all
          ∙ body_whole on.front judged.size (name_or_none judged.before) behind enough
          ∙ ap (λ (rest : List ℕ). found (packet, rest)) place,
    )

-- the bytes end before the frame does
pub short : (judged : Judged) (bytes : List ℕ) → judged.left ≡ 0 → length bytes < judged.at + judged.size → judged.at ≤ length bytes
    → GoesOn judged bytes → packet_at bytes ≡ Err Unfinished
short judged bytes all few within on =
    let behind = drop judged.at bytes in
    let fewer : length behind < judged.size = omega (arith, length-drop judged.at bytes) in
    alone judged bytes on
    ∙ ap (λ (n : ℕ). goes_on on.front n judged.size (name_or_none judged.before) behind) all
    ∙ body_short on.front judged.size (name_or_none judged.before) behind fewer

-- the same with more bytes behind
pub grows : (judged : Option Judged) (bytes more : List ℕ) → IsJudged judged bytes → IsJudged judged (bytes ++ more)
grows None bytes more on = tt
grows (Some judged) bytes more on = record {
  front = on.front;
  passed = on.passed;
  behind = on.behind ++ more;
  parts = ap (λ b. b ++ more) on.parts ∙ append_assoc on.passed on.behind more;
  place = on.place;
  on = λ others.
      ap packet_at (append_assoc bytes more others) ∙ on.on (more ++ others)
      ∙ ap (λ (b : List ℕ). goes_on on.front judged.left judged.size (name_or_none judged.before) b) (sym (append_assoc on.behind more others));
}

-- no bytes are left that weren't there
pub fewer : (before bytes : List ℕ) (at : ℕ) (x : Attr × List ℕ) → at ≤ length bytes → attribute_at before (drop at bytes) ≡ Ok x → length x.1 + at ≤ length bytes
fewer before bytes at x within e =
    let left = attribute_shrinks before (drop at bytes) x e in
    omega (arith, left, length-drop at bytes)

-- all bytes from a place on
pub from_place : (at : ℕ) (bytes : List ℕ) → take (length bytes - at) (drop at bytes) ≡ drop at bytes
from_place at bytes = take_all (length bytes - at) (drop at bytes) (omega (arith, length-drop at bytes))
