-- What a depot holds: a finite map from paths to bytes.
use Rattle.std.specs.Prelude.{◌≡◌, ◌≢◌, ℕ, List, Option, Some}
use Rattle.std.specs.Ordering.{nat_cmp}
use Rattle.std.specs.Cmp.Lexicographic.{slice_cmp}
use Rattle.std.specs.FinMap.{FinMap, get}

-- the bytes at each path that has some; a path is seen as its bytes
abbrev pub Held : Type 0
Held = FinMap (slice_cmp nat_cmp) (List ℕ)

-- the path is held, and its bytes are what is left of the source
pub record Opens (held : Held) (path : List ℕ) (left : Option (List ℕ)) : Type 0 where
  pub bytes : List ℕ
  pub at_path : get held path ≡ Some bytes
  pub told : left ≡ Some bytes

-- every other path has what it had
abbrev pub KeepsOthers : List ℕ → Held → Held → Type 0
KeepsOthers path before after = (q : List ℕ) → q ≢ path → get after q ≡ get before q
