-- Lists of any type.
use Rattle.std.specs.Prelude.{◌≡◌, List, ◌++◌}

-- the second list begins with the first
abbrev pub IsPrefix : {T : Type 0} → List T → List T → Type 0
IsPrefix {T} front whole = (rest : List T) × (whole ≡ front ++ rest)
