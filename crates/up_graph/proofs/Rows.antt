-- What holds of every row of kinds.
use Rattle.std.proofs.Common.{ℕ, Bool, true, false, List, Option, Some, None}
use Rattle.std.specs.Prelude.{codes, IfSome, if◌then◌else◌}
use Rattle.std.specs.Str.{bytes_eq}
use Rattle.toml.specs.Data.{Data, string}
use Rattle.up_graph.specs.KindRows.{KindRow, a_kind, plain_row, row_of, source_row, sink_row, skip_row, setattr_row, delattr_row, match_attr_row, delay_row}
use Rattle.up_model.specs.declared.kind.Kind.TheVariants.{Idem, Null, Dup}

pub record Each (P : KindRow → Type 0) : Type 0 where
  pub source : P source_row
  pub sink : P sink_row
  pub idem : P (plain_row Idem)
  pub null : P (plain_row Null)
  pub dup : P (plain_row Dup)
  pub skip : P skip_row
  pub setattr : P setattr_row
  pub delattr : P delattr_row
  pub match_attr : P match_attr_row
  pub delay : P delay_row

if_row : (P : KindRow → Type 0) (is : Bool) (row : KindRow) (others : Option KindRow) → P row → IfSome others P → IfSome (if is then Some row else others) P
if_row P true row others holds of_others = holds
if_row P false row others holds of_others = of_others

each_row : (P : KindRow → Type 0) → Each P → (word : List ℕ) → IfSome (row_of word) P
each_row P each word =
    if_row P (bytes_eq word (codes "source")) source_row _ each.source
    (if_row P (bytes_eq word (codes "sink")) sink_row _ each.sink
    (if_row P (bytes_eq word (codes "idem")) (plain_row Idem) _ each.idem
    (if_row P (bytes_eq word (codes "null")) (plain_row Null) _ each.null
    (if_row P (bytes_eq word (codes "dup")) (plain_row Dup) _ each.dup
    (if_row P (bytes_eq word (codes "skip")) skip_row _ each.skip
    (if_row P (bytes_eq word (codes "setattr")) setattr_row _ each.setattr
    (if_row P (bytes_eq word (codes "delattr")) delattr_row _ each.delattr
    (if_row P (bytes_eq word (codes "match_attr")) match_attr_row _ each.match_attr
    (if_row P (bytes_eq word (codes "delay")) delay_row _ each.delay tt)))))))))

-- what holds of every row holds of that which a field names
pub each_kind : (P : KindRow → Type 0) → Each P → (found : Option Data) → IfSome (a_kind.value found) P
each_kind P each None = tt
each_kind P each (Some (string word)) = each_row P each word
each_kind P each (Some value) = tt
