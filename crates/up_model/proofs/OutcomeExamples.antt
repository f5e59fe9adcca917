-- Worked examples of how pipes end and of what a source then carried, computed.
use Rattle.std.proofs.Common.{◌≡◌, ℕ, zero, suc, Bool, true, false, List, [], ◌∷◌, Some, None, map, refl}
use Rattle.std.specs.Prelude.{codes, nat_le, ◌&&◌}
use Rattle.up_model.proofs.ExampleChain.{raw_source}
use Rattle.up_model.proofs.ExampleTree.{tree}
use Rattle.up_model.specs.Inputs.{places}
use Rattle.up_model.specs.Outcomes.{outcome_of, carried_as, carried_flow, own_outcome, outcome_behind, outcome_at, deciding}
use Rattle.up_model.specs.Packet.{plain}
use Rattle.up_model.specs.declared.kind.Kind.TheVariants.{Idem}
use Rattle.up_model.specs.declared.outcome.Outcome.TheVariants.{Whole, ReadFault, WriteFault, TooLong, Broken, NoMemory}

-- as many bytes as the limit are whole
pub at_the_limit : outcome_of (raw_source 4 10) (codes "abcdefghij") ≡ Whole
at_the_limit = refl

-- one byte more is too long
pub above_the_limit : outcome_of (raw_source 4 10) (codes "abcdefghijk") ≡ TooLong 10
above_the_limit = refl

-- a whole source carried all its blocks
pub all_blocks : carried_flow (raw_source 4 10) (codes "abcdefghij") ≡ map plain (codes "abcd" ∷ codes "efgh" ∷ codes "ij" ∷ [])
all_blocks = refl

-- one that is too long carried the blocks that are whole within the limit
pub whole_blocks : carried_flow (raw_source 4 10) (codes "abcdefghijk") ≡ map plain (codes "abcd" ∷ codes "efgh" ∷ [])
whole_blocks = refl

-- a pipe that is no source is whole, and carries nothing of its own
pub no_source : (outcome_of Idem (codes "abc") ≡ Whole) × (carried_flow Idem (codes "abc") ≡ [])
no_source = (refl, refl)

-- a read that failed leaves the blocks that are whole, also where the bytes given end with one
pub at_a_fault :
    (carried_as ReadFault (raw_source 4 10) (codes "abcdefg") ≡ plain (codes "abcd") ∷ [])
    × (carried_as ReadFault (raw_source 4 10) (codes "abcd") ≡ plain (codes "abcd") ∷ [])
at_a_fault = (refl, refl)

-- of the tree, the first source has 11 bytes and a limit of 100, the second's read fails after two
abbrev bytes : ℕ → List ℕ
bytes zero = []
bytes (suc zero) = codes "abcdefghijk"
bytes (suc (suc place)) = codes "xy"

abbrev second_fails : ℕ → Bool
second_fails zero = false
second_fails (suc zero) = false
second_fails (suc (suc zero)) = true
second_fails (suc (suc (suc place))) = false

-- the second's own sink, at place 3, is broken; nothing else is
pub one_branch : map (outcome_at tree second_fails bytes) (places tree) ≡ Whole ∷ Whole ∷ ReadFault ∷ Broken ∷ Whole ∷ Whole ∷ Whole ∷ []
one_branch = refl

-- a sink whose write failed has that cause, also behind a source that failed
abbrev both_fail : ℕ → Bool
both_fail place = nat_le 2 place && nat_le place 3

pub failed_calls : map (outcome_at tree both_fail bytes) (places tree) ≡ Whole ∷ Whole ∷ ReadFault ∷ WriteFault ∷ Whole ∷ Whole ∷ Whole ∷ []
failed_calls = refl

-- a pipe between has no cause of its own, and is broken behind a source that is too long
pub between : (own_outcome Idem true [] ≡ None) × (outcome_behind (TooLong 5) ≡ Broken)
between = (refl, refl)

-- the first in file order decides; where none has a cause, none does
pub first_decides :
    (deciding (Whole ∷ Broken ∷ WriteFault ∷ ReadFault ∷ []) ≡ Some 2) × (deciding (Whole ∷ Broken ∷ NoMemory ∷ []) ≡ None)
first_decides = (refl, refl)
