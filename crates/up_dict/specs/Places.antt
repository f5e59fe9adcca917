-- Where an attribute stands in a run of bytes.
use Rattle.std.specs.Prelude.{◌≡◌, ℕ, ◌<◌, ◌≤◌, List, ◌++◌, length, take}
use Rattle.std.specs.Ordering.{nat_cmp}
use Rattle.std.specs.Cmp.Lexicographic.{slice_cmp}
use Rattle.std.specs.List.{HoldsAt}
use Rattle.std.specs.List.Sorted.{IsPartitionPoint}
use Rattle.std.specs.declared.cmp.Ordering.TheVariants.{Less, Equal, Greater}
use Rattle.up_model.specs.Value.{IsLegalValue}
use Rattle.up_model.specs.ValueTypes.{value_bytes, value_of}
use Rattle.up_model.specs.declared.value_type.ValueType.{ValueType}
use Rattle.up_dict.specs.Spelling.{Attr, IsLegalAttr, attr_bytes, spelled}
use Rattle.up_dict.specs.Reading.{attrs_in, first_name, first_size}
use Rattle.up_dict.specs.declared.find.Compared.{Compared}
use Rattle.up_dict.specs.declared.find.Compared.TheVariants as compared

-- the bytes are those of the legal value of this type that is read from them
pub record IsValueOf (kind : ValueType) (bytes : List ℕ) : Type 0 where
  pub same : value_bytes (value_of kind bytes) ≡ bytes
  pub legal : IsLegalValue (value_of kind bytes)

-- the run begins with the bytes of a legal attribute
pub record HasFirst (run : List ℕ) : Type 0 where
  pub attr : Attr
  pub rest : List ℕ
  pub legal : IsLegalAttr attr
  pub bytes : attr_bytes attr ++ rest ≡ run

-- so many attributes stand before this byte
pub record StandBefore (attrs : List Attr) (place byte : ℕ) : Type 0 where
  pub within : place ≤ length attrs
  pub bytes : length (spelled (take place attrs)) ≡ byte

-- at this byte begins the attribute with the name
pub record IsFoundAt (run name : List ℕ) (byte : ℕ) : Type 0 where
  pub place : ℕ
  pub before : StandBefore (attrs_in run) place byte
  pub within : place < length (attrs_in run)
  pub here : HoldsAt (λ attr. slice_cmp nat_cmp attr.0 name ≡ Equal) (attrs_in run) place

-- the name isn't there, and before this byte stand the attributes whose names are less
pub record IsMissingAt (run name : List ℕ) (byte : ℕ) : Type 0 where
  pub place : ℕ
  pub before : StandBefore (attrs_in run) place byte
  pub gap : IsPartitionPoint (λ attr. slice_cmp nat_cmp attr.0 name ≡ Less)
      (λ attr. slice_cmp nat_cmp attr.0 name ≡ Greater) (attrs_in run) place

-- how the first name compares with another, and where it is less the attribute's size
abbrev pub ComparesAs : List ℕ → List ℕ → Compared → Type 0
ComparesAs run name (compared.Less size) =
    (slice_cmp nat_cmp (first_name run) name ≡ Less)
    × (size ≡ first_size run) × (0 < size) × (size ≤ length run)
ComparesAs run name compared.Same = slice_cmp nat_cmp (first_name run) name ≡ Equal
ComparesAs run name compared.Greater = slice_cmp nat_cmp (first_name run) name ≡ Greater
