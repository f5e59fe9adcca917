-- Worked examples of frames, computed.
use Rattle.std.proofs.Common.{◌≡◌, ℕ, List, [], ◌∷◌, ◌++◌, length, Some, None, Ok, Err, map, replicate, take, refl, sym, ap, ◌∙◌}
use Rattle.std.specs.FinMap.{entries, entries-from_sorted}
use Rattle.std.specs.List.{flat_map}
use Rattle.std.specs.Prelude.{codes}
use Rattle.up_model.proofs.AttrLists.{Attr, HasOrder, by_name, attrs_of, len-list, no_attrs}
use Rattle.up_model.specs.FrameFronts.{packet_at, content_at, attributes_at, attribute_at, value_at}
use Rattle.up_model.specs.FrameSpelling.{frame_of, head_bytes, attribute_bytes}
use Rattle.up_model.specs.FrameStreams.{rest_of_frames, broken_at, cut_at}
use Rattle.up_model.specs.Packet.{plain}
use Rattle.up_model.specs.declared.frame_layout.NotWhole.TheVariants.{Broken, Unfinished}
use Rattle.up_model.specs.declared.plain_packet.PlainPacket.{PlainPacket}
use Rattle.up_model.specs.declared.value.Value.TheVariants.{Void, Unsigned}

-- a packet with these attributes
abbrev pub with : List Attr → List ℕ → PlainPacket
with list bytes = record { attrs = attrs_of list; bytes = bytes }

-- a map doesn't compute: its list in order does
framed : (list : List Attr) (bytes : List ℕ) → HasOrder list
    → frame_of (with list bytes) ≡ head_bytes (length list) (length bytes) ++ flat_map attribute_bytes list ++ bytes
framed list bytes order =
    ap (λ count. head_bytes count (length bytes) ++ flat_map attribute_bytes (entries (attrs_of list)) ++ bytes) (len-list list order)
    ∙ ap (λ attrs. head_bytes (length list) (length bytes) ++ flat_map attribute_bytes attrs ++ bytes) (entries-from_sorted by_name list order)

pub bare : (bytes : List ℕ) → plain bytes ≡ with [] bytes
bare bytes = ap (λ attrs. record { attrs = attrs; bytes = bytes }) (sym (no_attrs [] refl))

-- the frame of `ab` without attributes
abbrev pub ab : List ℕ
ab = 0x46 ∷ 1 ∷ 0 ∷ 0 ∷ 0 ∷ 0 ∷ 0 ∷ 2 ∷ 97 ∷ 98 ∷ []

pub two_bytes : frame_of (plain (codes "ab")) ≡ ab
two_bytes = ap frame_of (bare (codes "ab")) ∙ framed [] (codes "ab") tt

-- the frame of `hi` with the attribute `x`, the unsigned number 7
abbrev hi : List ℕ
hi =
    0x46 ∷ 1 ∷ 0 ∷ 1 ∷ 0 ∷ 0 ∷ 0 ∷ 2 ∷ 1 ∷ 0x78 ∷ 3 ∷ 0 ∷ 0 ∷ 0 ∷ 8
    ∷ 0 ∷ 0 ∷ 0 ∷ 0 ∷ 0 ∷ 0 ∷ 0 ∷ 7 ∷ 0x68 ∷ 0x69 ∷ []

abbrev x : List Attr
x = (codes "x", Unsigned 7) ∷ []

pub one_attribute : frame_of (with x (codes "hi")) ≡ hi
one_attribute = framed x (codes "hi") tt

-- both are read back, whatever follows
pub two_bytes_back : packet_at (ab ++ 9 ∷ []) ≡ Ok (plain (codes "ab"), 9 ∷ [])
unfolding packet_at content_at attributes_at
two_bytes_back = ap (λ packet. Ok (packet, 9 ∷ [])) (sym (bare (codes "ab")))

pub one_attribute_back : packet_at hi ≡ Ok (with x (codes "hi"), [])
unfolding packet_at content_at attributes_at attribute_at value_at
one_attribute_back = refl

-- each front of the first frame is unfinished
pub fronts_are_unfinished :
    map (λ size. packet_at (take size ab)) (0 ∷ 1 ∷ 2 ∷ 3 ∷ 4 ∷ 5 ∷ 6 ∷ 7 ∷ 8 ∷ 9 ∷ []) ≡ replicate 10 (Err Unfinished)
unfolding packet_at content_at attributes_at
fronts_are_unfinished = refl

-- 65 attributes are too many at once, and so are 1,048,577 bytes
pub too_many_attributes : packet_at (0x46 ∷ 1 ∷ 0 ∷ 0x41 ∷ []) ≡ Err Broken
unfolding packet_at
too_many_attributes = refl

pub too_many_bytes : packet_at (0x46 ∷ 1 ∷ 0 ∷ 0 ∷ 0 ∷ 0x10 ∷ 0 ∷ 1 ∷ []) ≡ Err Broken
unfolding packet_at
too_many_bytes = refl

-- the greatest size is taken, and its bytes are still to come
pub greatest_size : packet_at (0x46 ∷ 1 ∷ 0 ∷ 0 ∷ 0 ∷ 0x10 ∷ 0 ∷ 0 ∷ []) ≡ Err Unfinished
unfolding packet_at content_at attributes_at
greatest_size = refl

-- another mark or version is broken with its byte
pub other_mark : packet_at (0x47 ∷ []) ≡ Err Broken
unfolding packet_at
other_mark = refl

pub other_version : packet_at (0x46 ∷ 2 ∷ []) ≡ Err Broken
unfolding packet_at
other_version = refl

-- the bytes of a frame with one attribute, from the attribute on
abbrev after : List ℕ → List ℕ
after bytes = 0x46 ∷ 1 ∷ 0 ∷ 1 ∷ 0 ∷ 0 ∷ 0 ∷ 0 ∷ bytes

-- a name of no byte, and one with a byte that no name has
pub no_name : packet_at (after (0 ∷ [])) ≡ Err Broken
unfolding packet_at content_at attributes_at attribute_at value_at
no_name = refl

pub blank_in_name : packet_at (after (1 ∷ 0x20 ∷ [])) ≡ Err Broken
unfolding packet_at content_at attributes_at attribute_at value_at
blank_in_name = refl

-- a type with the number 0 or 6
pub no_type : packet_at (after (1 ∷ 0x78 ∷ 0 ∷ [])) ≡ Err Broken
unfolding packet_at content_at attributes_at attribute_at value_at
no_type = refl

pub sixth_type : packet_at (after (1 ∷ 0x78 ∷ 6 ∷ [])) ≡ Err Broken
unfolding packet_at content_at attributes_at attribute_at value_at
sixth_type = refl

-- a void of one byte, a number of seven, and a text of 4,097
pub long_void : packet_at (after (1 ∷ 0x78 ∷ 1 ∷ 0 ∷ 0 ∷ 0 ∷ 1 ∷ [])) ≡ Err Broken
unfolding packet_at content_at attributes_at attribute_at value_at
long_void = refl

pub short_number : packet_at (after (1 ∷ 0x78 ∷ 3 ∷ 0 ∷ 0 ∷ 0 ∷ 7 ∷ [])) ≡ Err Broken
unfolding packet_at content_at attributes_at attribute_at value_at
short_number = refl

pub long_text : packet_at (after (1 ∷ 0x78 ∷ 4 ∷ 0 ∷ 0 ∷ 0x10 ∷ 1 ∷ [])) ≡ Err Broken
unfolding packet_at content_at attributes_at attribute_at value_at
long_text = refl

-- a flag of 2
pub flag_of_two : packet_at (after (1 ∷ 0x78 ∷ 2 ∷ 0 ∷ 0 ∷ 0 ∷ 1 ∷ 2 ∷ [])) ≡ Err Broken
unfolding packet_at content_at attributes_at attribute_at value_at
flag_of_two = refl

-- a frame with two void attributes whose names are one letter each
abbrev two : ℕ → ℕ → List ℕ
two first second =
    0x46 ∷ 1 ∷ 0 ∷ 2 ∷ 0 ∷ 0 ∷ 0 ∷ 0 ∷ 1 ∷ first ∷ 1 ∷ 0 ∷ 0 ∷ 0 ∷ 0
    ∷ 1 ∷ second ∷ 1 ∷ 0 ∷ 0 ∷ 0 ∷ 0 ∷ []

-- names that rise are read, and others are broken: the same twice, and out of order
pub names_rise : packet_at (two 97 98) ≡ Ok (with ((codes "a", Void) ∷ (codes "b", Void) ∷ []) [], [])
unfolding packet_at content_at attributes_at attribute_at value_at
names_rise = refl

pub name_twice : packet_at (two 97 97) ≡ Err Broken
unfolding packet_at content_at attributes_at attribute_at value_at
name_twice = refl

pub names_fall : packet_at (two 98 97) ≡ Err Broken
unfolding packet_at content_at attributes_at attribute_at value_at
names_fall = refl

-- behind a whole frame another one begins at byte 10, and has no broken field
pub unfinished : (broken_at (ab ++ 0x46 ∷ 1 ∷ 0 ∷ []) ≡ None) × (cut_at (ab ++ 0x46 ∷ 1 ∷ 0 ∷ []) ≡ Some 10)
unfolding packet_at content_at attributes_at
unfinished = (refl, refl)

-- one with a broken field is broken at its first byte
pub broken : broken_at (ab ++ 0x46 ∷ 2 ∷ []) ≡ Some 10
unfolding packet_at content_at attributes_at
broken = refl

-- whole frames are neither
pub whole : (broken_at (ab ++ hi) ≡ None) × (cut_at (ab ++ hi) ≡ None) × (rest_of_frames (ab ++ hi) ≡ [])
unfolding packet_at content_at attributes_at attribute_at value_at
whole = (refl, refl, refl)

pub no_bytes : (broken_at [] ≡ None) × (cut_at [] ≡ None)
unfolding packet_at
no_bytes = (refl, refl)
