use Rattle.std.proofs.Common.{◌≡◌, Bool, true, false, cond, Result, Ok, Err, refl, sym}
use Rattle.up_base.specs.Name.{is_name}
use Rattle.up_base.specs.NameOf.{name_of}
use Rattle.up_model.proofs.plain_fields.is_name.Goals as goal

passes : {A E : Type 0} (test : Bool) (a b : A) (e : E) → ◌≡◌ {A = Result A E} (cond test (Ok a) (Err e)) (Ok b) → true ≡ test
passes true a b e is = refl
passes false a b e is = absurd cc

fails : {A E : Type 0} (test : Bool) (a : A) (e f : E) → ◌≡◌ {A = Result A E} (cond test (Ok a) (Err e)) (Err f) → false ≡ test
fails true a e f is = absurd cc
fails false a e f is = refl

pub returns-in-Ok : goal.returns-in-Ok
unfolding name_of
returns-in-Ok c = passes (is_name c.args.name.now) _ _ _ (sym c.in-Ok.ensures)

pub returns-in-Err : goal.returns-in-Err
unfolding name_of
returns-in-Err c = fails (is_name c.args.name.now) _ _ _ (sym c.in-Err.ensures)
