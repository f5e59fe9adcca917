-- What is answered of a text, or of a part of it: what it gives, or the first rule that it breaks.
use Rattle.std.specs.Prelude.{◌≡◌, Result, Ok, Err}
use Rattle.up_graph.specs.declared.graph_refused.GraphRefused.{GraphRefused}
use Rattle.up_graph.specs.declared.graph_refused.GraphRefused.TheVariants.{NoMemory}

-- what a text gives, or its refusal
abbrev pub Checked : Type 0 → Type 0
Checked A = Result A GraphRefused

-- one rule after the other: the first refusal stands
infixl 10 ◌>>=◌
abbrev pub ◌>>=◌ : {A B : Type 0} → Checked A → (A → Checked B) → Checked B
(Ok value) >>= next = next value
(Err refused) >>= next = Err refused

-- the refusal is the wanted one, unless memory ran out
abbrev pub Refuses : GraphRefused → GraphRefused → Type 0
Refuses wanted NoMemory = Unit {0}
Refuses wanted refused = wanted ≡ refused

-- the answer, seen by view, is the wanted one, unless memory ran out
abbrev pub Answers : {A B : Type 0} → (A → B) → Result A GraphRefused → Checked B → Type 0
Answers view (Ok value) wanted = wanted ≡ Ok (view value)
Answers view (Err NoMemory) wanted = Unit {0}
Answers view (Err refused) wanted = wanted ≡ Err refused
