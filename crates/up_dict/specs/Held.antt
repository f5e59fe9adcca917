-- The map that a run of bytes holds.
use Rattle.std.specs.Prelude.{◌≡◌, ℕ, ◌≤◌, true, T, List, length, All}
use Rattle.std.specs.Ordering.{nat_cmp}
use Rattle.std.specs.Cmp.Lexicographic.{slice_cmp}
use Rattle.std.specs.FinMap.{from_sorted, is_sorted, keys, values as values_of, len}
use Rattle.up_base.specs.Name.{is_name}
use Rattle.up_model.specs.Attrs.{Attrs}
use Rattle.up_model.specs.Value.{IsLegalValue}
use Rattle.up_model.specs.declared.limits.TheConstants.{MAX_ATTRS}
use Rattle.up_dict.specs.Spelling.{Attr, IsLegalAttr, spelled}
use Rattle.up_dict.specs.Reading.{attrs_in}

-- the run spells these attributes: their names rise, they are legal and at most 64
pub record Spells (attrs : List Attr) (run : List ℕ) : Type 0 where
  pub bytes : spelled attrs ≡ run
  pub order : T (is_sorted (slice_cmp nat_cmp) attrs)
  pub legal : All IsLegalAttr attrs
  pub few : length attrs ≤ MAX_ATTRS

-- the run spells the attributes that are read from it
abbrev pub IsRun : List ℕ → Type 0
IsRun run = Spells (attrs_in run) run

-- the map of the attributes in a run
abbrev pub held_in : List ℕ → Attrs
held_in run = from_sorted (attrs_in run)

-- at most 64 attributes, whose names are names and whose values are legal
pub record AreLegal (attrs : Attrs) : Type 0 where
  pub few : len attrs ≤ MAX_ATTRS
  pub names : All (λ name. is_name name ≡ true) (keys attrs)
  pub values : All IsLegalValue (values_of attrs)
