-- What is spelled reads back.
use Rattle.std.proofs.Common.{◌≡◌, ℕ, zero, suc, ◌+◌, ◌-◌, ◌<◌, ◌≤◌, List, [], ◌∷◌, ◌++◌, length, take, drop, Bool, true, false, All, refl, sym, ap, ◌∙◌, subst, arith, append_assoc, length-append, lit<}
use Rattle.std.specs.Prelude.{slice_index, slice_range}
use Rattle.std.proofs.lemmas.List.{take_at, drop_at, get_or_at}
use Rattle.std.proofs.lemmas.List.Elements.{All-head, All-nil, All-tail}
use Rattle.up_base.specs.Number.{big_endian, big_endian_bytes}
use Rattle.up_base.proofs.NumberBytes.{number_of_bytes}
use Rattle.up_model.specs.Value.{IsLegalValue}
use Rattle.up_model.specs.ValueTypes.{number_of, type_of, value_bytes, value_of}
use Rattle.up_model.specs.declared.value.Value.{Value}
use Rattle.up_model.specs.declared.value.Value.TheVariants.{Void, Flag, Unsigned, Words, Opaque}
use Rattle.up_dict.specs.Held.{Spells, IsRun}
use Rattle.up_dict.specs.Places.{HasFirst, IsValueOf}
use Rattle.up_dict.specs.Reading.{type_of_byte, first_name, type_place, value_size, first_value, first_size, attrs_within, attrs_in}
use Rattle.up_dict.specs.Spelling.{Attr, IsLegalAttr, attr_bytes, spelled}

pub type_reads : (value : Value) → type_of_byte (number_of (type_of value)) ≡ type_of value
type_reads Void = refl
type_reads (Flag flag) = refl
type_reads (Unsigned number) = refl
type_reads (Words text) = refl
type_reads (Opaque bytes) = refl

flag_reads : (flag : Bool) → value_of (type_of (Flag flag)) (value_bytes (Flag flag)) ≡ Flag flag
flag_reads true = refl
flag_reads false = refl

pub value_reads : (value : Value) → IsLegalValue value → value_of (type_of value) (value_bytes value) ≡ value
value_reads Void legal = refl
value_reads (Flag flag) legal = flag_reads flag
value_reads (Unsigned number) legal = ap (λ n. Unsigned n) (number_of_bytes 8 number legal)
value_reads (Words text) legal = refl
value_reads (Opaque bytes) legal = refl

-- the size of a legal value fits two bytes
pub fits : (value : Value) → IsLegalValue value → length (value_bytes value) < 65536
fits Void legal = lit< tt
fits (Flag flag) legal = lit< tt
fits (Unsigned number) legal = lit< tt
fits (Words text) legal = omega (arith, legal.1)
fits (Opaque bytes) legal = omega (arith, legal)

-- the part of a list that stands behind another
range_at : (xs ys zs : List ℕ) (from to : ℕ) → length xs ≡ from → to ≡ from + length ys → slice_range (xs ++ (ys ++ zs)) from to ≡ ys
range_at xs ys zs from to start end =
    ap (take (to - from)) (drop_at xs (ys ++ zs) from start) ∙ take_at ys zs (to - from) (omega arith)

-- the parts of an attribute's bytes, where a run begins with them
module _ (name : List ℕ) (kind : ℕ) (two bytes rest : List ℕ) (pair : length two ≡ 2) where
  abbrev laid : List ℕ
  laid = (((length name ∷ name) ++ (kind ∷ two)) ++ bytes) ++ rest

  name_there : slice_range laid 1 (1 + length name) ≡ name
  name_there =
      let grouped : laid ≡ (length name ∷ []) ++ (name ++ ((kind ∷ two) ++ (bytes ++ rest))) = simp append_assoc in
      ap (λ run. slice_range run 1 (1 + length name)) grouped ∙ range_at (length name ∷ []) name _ 1 (1 + length name) refl refl

  kind_there : slice_index laid (length name + 1) ≡ kind
  kind_there =
      let grouped : laid ≡ (length name ∷ name) ++ kind ∷ (two ++ (bytes ++ rest)) = simp append_assoc in
      ap (λ run. slice_index run (length name + 1)) grouped
      ∙ get_or_at (length name ∷ name) kind (two ++ (bytes ++ rest)) 0 (length name + 1) (omega arith)

  two_there : slice_range laid (length name + 1 + 1) (length name + 1 + 1 + 2) ≡ two
  two_there =
      let grouped : laid ≡ ((length name ∷ name) ++ kind ∷ []) ++ (two ++ (bytes ++ rest)) = simp append_assoc in
      ap (λ run. slice_range run (length name + 1 + 1) (length name + 1 + 1 + 2)) grouped
      ∙ range_at ((length name ∷ name) ++ kind ∷ []) two (bytes ++ rest) _ _ (omega (arith, length-append name (kind ∷ []))) (omega arith)

  bytes_there : (size : ℕ) → size ≡ length bytes → slice_range laid (length name + 1 + 3) (length name + 1 + 3 + size) ≡ bytes
  bytes_there size is =
      let grouped : laid ≡ ((length name ∷ name) ++ (kind ∷ two)) ++ (bytes ++ rest) = simp append_assoc in
      ap (λ run. slice_range run (length name + 1 + 3) (length name + 1 + 3 + size)) grouped
      ∙ range_at ((length name ∷ name) ++ (kind ∷ two)) bytes rest _ _ (omega (arith, length-append name (kind ∷ two), pair)) (omega arith)

-- what is read of the first attribute of a run
pub record ReadsAs (run : List ℕ) (attr : Attr) : Type 0 where
  pub name_size : slice_index run 0 ≡ length attr.0
  pub name : first_name run ≡ attr.0
  pub kind : slice_index run (type_place run) ≡ number_of (type_of attr.1)
  pub counted : value_size run ≡ length (value_bytes attr.1)
  pub part : slice_range run (type_place run + 3) (type_place run + 3 + value_size run) ≡ value_bytes attr.1
  pub size : length (attr_bytes attr) ≡ type_place run + 3 + value_size run

-- a legal attribute reads back, whatever stands behind it
pub attr_reads : (attr : Attr) (rest : List ℕ) → IsLegalAttr attr → ReadsAs (attr_bytes attr ++ rest) attr
unfolding attr_bytes
attr_reads attr rest legal =
    let name = attr.0 in
    let bytes = value_bytes attr.1 in
    let kind = number_of (type_of attr.1) in
    let two = big_endian_bytes 2 (length bytes) in
    let counted : big_endian two ≡ length bytes = number_of_bytes 2 (length bytes) (fits attr.1 legal.1) in
    let size : value_size (attr_bytes attr ++ rest) ≡ length bytes = ap big_endian (two_there name kind two bytes rest refl) ∙ counted in
    record {
      name_size = refl;
      name = name_there name kind two bytes rest refl;
      kind = kind_there name kind two bytes rest refl;
      counted = size;
      part = bytes_there name kind two bytes rest refl _ size;
      size = omega (arith, length-append (name ++ kind ∷ two) bytes, length-append name (kind ∷ two), size);
    }

-- so does the first attribute of a run
pub first_reads : (run : List ℕ) (first : HasFirst run) → ReadsAs run first.attr
first_reads run first = subst (λ run. ReadsAs run first.attr) first.bytes (attr_reads first.attr first.rest first.legal)

pub first_value_reads : (run : List ℕ) (attr : Attr) → IsLegalAttr attr → ReadsAs run attr → first_value run ≡ attr.1
first_value_reads run attr legal reads =
    rw (reads.kind, type_reads attr.1, reads.part) (value_reads attr.1 legal.1)

pub first_size_reads : (run : List ℕ) (attr : Attr) → ReadsAs run attr → first_size run ≡ length (attr_bytes attr)
unfolding first_size
first_size_reads run attr reads = sym reads.size

-- one attribute after the other
some : (attr : Attr) → 0 < length (attr_bytes attr)
unfolding attr_bytes
some attr = omega arith

unrolled : (most : ℕ) (run : List ℕ) → 0 < length run
    → attrs_within (suc most) run ≡ (first_name run, first_value run) ∷ attrs_within most (drop (first_size run) run)
unrolled most [] none = absurd (omega arith)
unrolled most (byte ∷ rest) some = refl

read_within : (most : ℕ) (attrs : List Attr) → All IsLegalAttr attrs → length (spelled attrs) ≤ most → attrs_within most (spelled attrs) ≡ attrs
read_within zero [] legal enough = refl
read_within (suc most) [] legal enough = refl
read_within zero (attr ∷ attrs) legal enough = absurd (omega (arith, some attr, length-append (attr_bytes attr) (spelled attrs)))
read_within (suc most) (attr ∷ attrs) legal enough =
    let first = All-head IsLegalAttr attr attrs legal in
    let rest = All-tail IsLegalAttr attr attrs legal in
    let run = attr_bytes attr ++ spelled attrs in
    let both : length run ≡ length (attr_bytes attr) + length (spelled attrs) = length-append (attr_bytes attr) (spelled attrs) in
    let reads : ReadsAs run attr = attr_reads attr (spelled attrs) first in
    let behind : drop (first_size run) run ≡ spelled attrs = drop_at (attr_bytes attr) (spelled attrs) (first_size run) (sym (first_size_reads run attr reads)) in
    unrolled most run (omega (arith, some attr, both))
    ∙ rw (reads.name, first_value_reads run attr first reads, behind)
    (ap (λ others. attr ∷ others) (read_within most attrs rest (omega (arith, some attr, both, enough))))

pub attrs_read : (attrs : List Attr) → All IsLegalAttr attrs → attrs_in (spelled attrs) ≡ attrs
unfolding attrs_in
attrs_read attrs legal = read_within (length (spelled attrs)) attrs legal (omega arith)

-- a run spells no other attributes
pub spells_one : (attrs : List Attr) (run : List ℕ) → Spells attrs run → attrs_in run ≡ attrs
spells_one attrs run spells = ap attrs_in (sym spells.bytes) ∙ attrs_read attrs spells.legal

pub is_run : (attrs : List Attr) (run : List ℕ) → Spells attrs run → IsRun run
is_run attrs run spells = subst (λ attrs. Spells attrs run) (sym (spells_one attrs run spells)) spells

-- the first attribute lies within the run
pub first_within : (run : List ℕ) (first : HasFirst run) → type_place run + 3 + value_size run ≤ length run
first_within run first =
    let reads : ReadsAs run first.attr = first_reads run first in
    omega (arith, reads.size, length-append (attr_bytes first.attr) first.rest, ap length first.bytes)

-- the bytes of the first value are those of a legal one
pub value_part : (run : List ℕ) (first : HasFirst run)
    → IsValueOf (type_of_byte (slice_index run (type_place run))) (slice_range run (type_place run + 3) (type_place run + 3 + value_size run))
value_part run first =
    let attr = first.attr in
    let reads : ReadsAs run attr = first_reads run first in
    let same : value_of (type_of attr.1) (value_bytes attr.1) ≡ attr.1 = value_reads attr.1 first.legal.1 in
    rw (reads.kind, type_reads attr.1, reads.part) (record {
      same = ap value_bytes same;
      legal = subst IsLegalValue (sym same) first.legal.1;
    })

-- no bytes hold no attributes
pub none_read : attrs_in [] ≡ []
none_read = attrs_read [] (All-nil IsLegalAttr)

pub empty_run : IsRun []
empty_run = is_run [] [] (record { bytes = refl; order = tt; legal = All-nil IsLegalAttr; few = omega arith })
