-- What holds of a value where one is found.
use Rattle.std.proofs.Common.{ℕ, List, Option, Some, None, Result, Ok, Err}
use Rattle.std.specs.Prelude.{IfOk, IfSome, option_map}
use Rattle.up_graph.specs.Answers.{Checked, ◌>>=◌}
use Rattle.up_graph.specs.Field.{Field, field_map, both, or_wrong}
use Rattle.up_graph.specs.Top.{numbered}

-- what holds of what is found holds of what is made of it
pub mapped : {A B : Type 0} (f : A → B) (found : Field A) (P : B → Type 0) → IfOk found (λ value. P (f value)) → IfOk (field_map f found) P
mapped f (Ok value) P holds = holds
mapped f (Err key) P holds = tt

pub weaker : {A E : Type 0} (found : Result A E) (P Q : A → Type 0) → ((value : A) → P value → Q value) → IfOk found P → IfOk found Q
weaker (Ok value) P Q so holds = so value holds
weaker (Err refused) P Q so holds = tt

pub both_too : {A B : Type 0} (P : A → Type 0) (Q : B → Type 0) (first : Field A) (second : Field B) → IfOk first P → IfOk second Q
    → IfOk (both first second) (λ pair. P pair.0 × Q pair.1)
both_too P Q (Ok a) (Ok b) of_a of_b = (of_a, of_b)
both_too P Q (Ok a) (Err key) of_a of_b = tt
both_too P Q (Err key) (Ok b) of_a of_b = tt
both_too P Q (Err key) (Err other) of_a of_b = tt

-- what is asked of the first may speak of the second
pub both_by : {A B : Type 0} (P : Field B → A → Type 0) (Q : B → Type 0) (first : Field A) (second : Field B) → IfOk first (P second) → IfOk second Q
    → IfOk (both first second) (λ pair. P (Ok pair.1) pair.0 × Q pair.1)
both_by P Q (Ok a) (Ok b) of_a of_b = (of_a, of_b)
both_by P Q (Ok a) (Err key) of_a of_b = tt
both_by P Q (Err key) (Ok b) of_a of_b = tt
both_by P Q (Err key) (Err other) of_a of_b = tt

pub anything : {A : Type 0} (found : Field A) → IfOk found (λ value. Unit {0})
anything (Ok value) = tt
anything (Err key) = tt

pub given_too : {A : Type 0} (key : List ℕ) (P : A → Type 0) (found : Option A) → IfSome found P → IfOk (or_wrong key found) P
given_too key P (Some value) holds = holds
given_too key P None holds = tt

pub made_too : {A B : Type 0} (f : A → B) (P : A → Type 0) (Q : B → Type 0) (found : Option A) → IfSome found P → ((value : A) → P value → Q (f value))
    → IfSome (option_map f found) Q
made_too f P Q (Some value) holds so = so value holds
made_too f P Q None holds so = tt

pub then_too : {A B : Type 0} (found : Checked A) (next : A → Checked B) (P : A → Type 0) (Q : B → Type 0)
    → IfOk found P → ((value : A) → P value → IfOk (next value) Q) → IfOk (found >>= next) Q
then_too (Ok value) next P Q holds so = so value holds
then_too (Err refused) next P Q holds so = tt

pub numbered_too : {A : Type 0} (number : ℕ) (found : Field A) (P : A → Type 0) → IfOk found P → IfOk (numbered number found) P
numbered_too number (Ok value) P holds = holds
numbered_too number (Err key) P holds = tt
