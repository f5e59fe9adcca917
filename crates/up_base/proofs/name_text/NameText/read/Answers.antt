use Rattle.std.proofs.Common.{◌≡◌, true, sym, ◌∙◌, arith}
use Rattle.std.specs.List.{list_all}
use Rattle.std.proofs.lemmas.Bool.Decides.{nat_tests}
use Rattle.up_base.specs.Name.{is_name_byte}
use Rattle.up_base.proofs.Names.{list_all-no_position, name_of-bad_byte}
use Rattle.up_base.proofs.name_text.NameText.read.Goals as goal

pub returns-in-Some : goal.returns-in-Some
returns-in-Some c = name_of-bad_byte c.args.text.now c.in-Some.at (sym c.first_bad.ensures ∙ c.in-Some.is)

pub keep-requires : goal.keep-requires
keep-requires c =
    let none = sym c.first_bad.ensures ∙ c.in_default.is in
    let passes : list_all is_name_byte c.args.text.now ≡ true = list_all-no_position is_name_byte 64 c.args.text.now none (omega arith) in
    rw passes (grind (arith, nat_tests))
