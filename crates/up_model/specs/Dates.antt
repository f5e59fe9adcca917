-- The dates of a packet: three attributes that are numbers.
use Rattle.std.specs.Prelude.{ℕ, List, codes}
use Rattle.up_model.specs.declared.date_kind.DateKind.{DateKind}
use Rattle.up_model.specs.declared.date_kind.DateKind.TheVariants.{Sys, Prog, Orig}

-- the name of the attribute
abbrev pub date_name : DateKind → List ℕ
date_name Sys = codes "date.sys"
date_name Prog = codes "date.prog"
date_name Orig = codes "date.orig"
