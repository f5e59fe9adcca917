-- What holds of each field, and of one thing that is read behind another, holds of a frame.
use Rattle.std.proofs.Common.{ℕ, zero, suc, Bool, eqb, leb, List, [], ◌∷◌}
use Rattle.up_base.specs.Name.{is_within}
use Rattle.up_base.specs.Number.{big_endian}
use Rattle.up_base.specs.declared.name_text.TheConstants.{NAME_SIZE}
use Rattle.up_model.proofs.AttrLists.{Attr, attrs_of}
use Rattle.up_model.proofs.FrameFields.{found}
use Rattle.up_model.specs.FrameFronts.{Front, ◌>>=◌, field, number_at, is_name_behind, is_size_of, is_value_of, is_any, type_at, value_at, attribute_at, attributes_at, content_at, packet_at}
use Rattle.up_model.specs.ValueTypes.{value_of}
use Rattle.up_model.specs.declared.frame_layout.TheConstants.{MARK, VERSION}
use Rattle.up_model.specs.declared.limits.TheConstants.{MAX_ATTRS, MAX_PACKET}
use Rattle.up_model.specs.declared.plain_packet.PlainPacket.{PlainPacket}
use Rattle.up_model.specs.declared.value.Value.{Value}
use Rattle.up_model.specs.declared.value_type.ValueType.{ValueType}

abbrev packet_of : List Attr → List ℕ → PlainPacket
packet_of attrs bytes = record { attrs = attrs_of attrs; bytes = bytes }

-- what is behind the mark
abbrev pub behind_mark : List ℕ → Front PlainPacket
behind_mark bytes =
    number_at 1 (λ n. eqb n VERSION) bytes >>= λ version. number_at 2 (λ n. leb n MAX_ATTRS) version.1 >>= λ count. number_at 4 (λ n. leb n MAX_PACKET) count.1 >>= λ size. content_at count.0 size.0 size.1

module _ (Holds : (A : Type 0) → (List ℕ → Front A) → Type 0)
    (nothing : (A : Type 0) (x : A) → Holds A (λ rest. found (x, rest)))
    (both : (A B : Type 0) (front : List ℕ → Front A) (next : A → List ℕ → Front B) → Holds A front → ((x : A) → Holds B (next x))
    → Holds B (λ bytes. front bytes >>= λ x. next x.0 x.1))
    (a_field : (size : ℕ) (rule : List ℕ → Bool) → Holds (List ℕ) (field size rule))
    (a_type : Holds ValueType type_at) where
  pub of_number : (size : ℕ) (rule : ℕ → Bool) → Holds ℕ (number_at size rule)
  of_number size rule =
      both _ _ (field size (λ digits. rule (big_endian digits))) (λ digits rest. found (big_endian digits, rest))
      (a_field size (λ digits. rule (big_endian digits))) (λ digits. nothing _ (big_endian digits))

  of_value : (type_ : ValueType) → Holds Value (value_at type_)
  unfolding value_at
  of_value type_ =
      both _ _ (number_at 4 (is_size_of type_)) (λ size rest. field size (is_value_of type_) rest >>= λ value. found (value_of type_ value.0, value.1))
      (of_number 4 (is_size_of type_))
      (λ size. both _ _ (field size (is_value_of type_)) (λ value rest. found (value_of type_ value, rest))
      (a_field size (is_value_of type_)) (λ value. nothing _ (value_of type_ value)))

  pub of_attribute : (before : List ℕ) → Holds Attr (attribute_at before)
  unfolding attribute_at
  of_attribute before =
      both _ _ (number_at 1 (is_within 1 NAME_SIZE)) (λ size rest. field size (is_name_behind before) rest >>= λ name. type_at name.1 >>= λ type_. value_at type_.0 type_.1 >>= λ value. found ((name.0, value.0), value.1))
      (of_number 1 (is_within 1 NAME_SIZE))
      (λ size. both _ _ (field size (is_name_behind before)) (λ name rest. type_at rest >>= λ type_. value_at type_.0 type_.1 >>= λ value. found ((name, value.0), value.1))
      (a_field size (is_name_behind before))
      (λ name. both _ _ type_at (λ type_ rest. value_at type_ rest >>= λ value. found ((name, value.0), value.1)) a_type
      (λ type_. both _ _ (value_at type_) (λ value rest. found ((name, value), rest)) (of_value type_)
      (λ value. nothing _ (name, value)))))

  of_attributes : (count : ℕ) (before : List ℕ) → Holds (List Attr) (attributes_at count before)
  unfolding attributes_at
  of_attributes zero before = nothing _ []
  of_attributes (suc count) before =
      both _ _ (attribute_at before) (λ first rest. attributes_at count first.0 rest >>= λ others. found (first ∷ others.0, others.1))
      (of_attribute before)
      (λ first. both _ _ (attributes_at count first.0) (λ others rest. found (first ∷ others, rest)) (of_attributes count first.0)
      (λ others. nothing _ (first ∷ others)))

  of_content : (count size : ℕ) → Holds PlainPacket (content_at count size)
  unfolding content_at
  of_content count size =
      both _ _ (attributes_at count []) (λ attrs rest. field size is_any rest >>= λ content. found (packet_of attrs content.0, content.1))
      (of_attributes count [])
      (λ attrs. both _ _ (field size is_any) (λ content rest. found (packet_of attrs content, rest)) (a_field size is_any)
      (λ content. nothing _ (packet_of attrs content)))

  pub of_behind_mark : Holds PlainPacket behind_mark
  of_behind_mark =
      both _ _ (number_at 1 (λ n. eqb n VERSION)) (λ version rest. number_at 2 (λ n. leb n MAX_ATTRS) rest >>= λ count. number_at 4 (λ n. leb n MAX_PACKET) count.1 >>= λ size. content_at count.0 size.0 size.1)
      (of_number 1 (λ n. eqb n VERSION))
      (λ version. both _ _ (number_at 2 (λ n. leb n MAX_ATTRS)) (λ count rest. number_at 4 (λ n. leb n MAX_PACKET) rest >>= λ size. content_at count size.0 size.1)
      (of_number 2 (λ n. leb n MAX_ATTRS))
      (λ count. both _ _ (number_at 4 (λ n. leb n MAX_PACKET)) (λ size rest. content_at count size rest)
      (of_number 4 (λ n. leb n MAX_PACKET)) (λ size. of_content count size)))

  pub of_packet : Holds PlainPacket packet_at
  unfolding packet_at
  of_packet =
      both _ _ (number_at 1 (λ n. eqb n MARK)) (λ mark rest. behind_mark rest) (of_number 1 (λ n. eqb n MARK)) (λ mark. of_behind_mark)
