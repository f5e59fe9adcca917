-- The reads, or the writes, of one object in memory, counted from 1.
use Rattle.std.specs.Prelude.{ℕ, List, ◌==◌, Bool, true, false, Vec, Result, Ok, Err}
use Rattle.std.specs.Global.{Global}
use Rattle.std.specs.List.{list_any}
use Rattle.up_base.specs.declared.refusal.Refusal.{Refusal}
use Rattle.up_base.specs.declared.refusal.Refusal.TheVariants as refusals
use Rattle.up_outside.specs.Counts.{raised}
use Rattle.up_outside.specs.declared.memory.object_calls.ObjectCalls.{ObjectCalls}

-- no call was made; those with these numbers will fail
abbrev pub calls_from : Vec ℕ Global → ObjectCalls
calls_from failing = record { made = 0; failing = failing; faults = 0 }

-- how many calls were made
abbrev pub made_of : ObjectCalls → ℕ
made_of calls = calls.made

-- the numbers of the calls that fail
abbrev pub failing_of : ObjectCalls → List ℕ
failing_of calls = calls.failing.items

-- whether the next call fails
abbrev pub next_is_due : ObjectCalls → Bool
next_is_due calls = list_any (λ number. number == raised true calls.made) (failing_of calls)

-- one more call was made, and failed or not
abbrev pub counted : Bool → ObjectCalls → ObjectCalls
counted failed calls = record calls {
  made = raised true calls.made;
  faults = raised failed calls.faults;
}

-- what a call leaves: one for which no memory was found isn't counted
abbrev pub after_call : {T : Type 0} → Result T Refusal → ObjectCalls → ObjectCalls
after_call (Ok x) calls = counted false calls
after_call (Err refusals.Failed) calls = counted true calls
after_call (Err refusals.NoMemory) calls = calls
