-- Which calls a table of failures lets fail.
use Rattle.std.proofs.Common.{◌≡◌, List, [], ◌∷◌, true, false, refl}
use Rattle.std.specs.Prelude.{codes}
use Rattle.up_outside.specs.Asked.{entry}
use Rattle.up_outside.specs.Memory.Failures.{failure, calls_made, is_due, numbers_of}
use Rattle.up_outside.specs.declared.asked.Entry.{Entry}
use Rattle.up_outside.specs.declared.asked.Mark.TheVariants as marks
use Rattle.up_outside.specs.declared.asked.Side.TheVariants as sides
use Rattle.up_outside.specs.declared.memory.depot_call.DepotCall.TheVariants as calls
use Rattle.up_outside.specs.declared.memory.failures.Failure.{Failure}

-- the second open of the source `q`, and the third read of each source there
abbrev table : List Failure
table = failure calls.OpenSource (codes "q") 2 ∷ failure calls.Read (codes "q") 3 ∷ []

-- a source was opened and refused at `q`, and a sink was opened and closed there
abbrev asked : List Entry
asked = entry (codes "q") sides.Source marks.Open ∷ entry (codes "q") sides.Source marks.Refused
    ∷ entry (codes "q") sides.Sink (marks.Closed 0 false true) ∷ []

pub the_second_fails : is_due calls.OpenSource (codes "q") 2 table ≡ true
the_second_fails = refl

pub not_the_first : is_due calls.OpenSource (codes "q") 1 table ≡ false
not_the_first = refl

pub not_the_third : is_due calls.OpenSource (codes "q") 3 table ≡ false
not_the_third = refl

pub not_elsewhere : is_due calls.OpenSource (codes "p") 2 table ≡ false
not_elsewhere = refl

pub not_a_sink : is_due calls.OpenSink (codes "q") 2 table ≡ false
not_a_sink = refl

pub each_third_read : numbers_of calls.Read (codes "q") table ≡ 3 ∷ []
each_third_read = refl

pub two_opens_of_a_source : calls_made calls.OpenSource (codes "q") asked ≡ 2
two_opens_of_a_source = refl

pub one_open_of_a_sink : calls_made calls.OpenSink (codes "q") asked ≡ 1
one_open_of_a_sink = refl

pub one_close_of_a_sink : calls_made calls.CloseSink (codes "q") asked ≡ 1
one_close_of_a_sink = refl
