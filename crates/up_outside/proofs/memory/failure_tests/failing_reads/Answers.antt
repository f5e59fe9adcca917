use Rattle.std.proofs.Common.{◌≡◌, ℕ, List, [], ◌∷◌, ◌++◌, length, Option, Some, slice_get, refl, ◌∙◌}
use Rattle.up_outside.specs.Asked.{entry, IsOpenAt}
use Rattle.up_outside.specs.DepotCalls.{IsNext}
use Rattle.up_outside.specs.declared.asked.Entry.{Entry}
use Rattle.up_outside.specs.declared.asked.Mark.TheVariants.{Open}
use Rattle.up_outside.specs.declared.asked.Side.{Side}
use Rattle.up_outside.proofs.memory.failure_tests.failing_reads.Goals as goal

last_of : (old : List Entry) (e : Entry) → slice_get (old ++ e ∷ []) (length old) ≡ Some e
last_of [] e = refl
last_of (d ∷ old) e = last_of old e

is_open : (old new : List Entry) (path : List ℕ) (side : Side) (place now moved : Option ℕ)
    → new ≡ old ++ entry path side Open ∷ [] → IsNext old place moved → now ≡ place → IsOpenAt new now side path
is_open old new path side place now moved grown next stays =
    record { at = length old; told = stays ∙ next.at_end; open_entry = rw grown (last_of old _) }

pub close_source-requires : goal.close_source-requires
close_source-requires c =
    (c.args.path.now, is_open _ _ c.args.path.now _ _ _ _ c.in_ok-source.ensures.asks.entries c.in_ok-source.ensures.opens.next c.three_reads-failed.ensures)
