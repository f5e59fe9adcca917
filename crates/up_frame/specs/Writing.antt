-- What is left where memory runs out while bytes are added.
use Rattle.std.specs.Prelude.{◌≡◌, ℕ, List, ◌++◌}
use Rattle.up_base.specs.Lists.{IsPrefix}

-- a first part of the bytes was added, which may be none or all of them
pub record AddsPart (old new bytes : List ℕ) : Type 0 where
  pub part : List ℕ
  pub first : IsPrefix part bytes
  pub added : new ≡ old ++ part
