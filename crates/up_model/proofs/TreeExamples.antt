-- Worked examples of what the pipes of a tree put out and count, computed.
use Rattle.std.proofs.Common.{◌≡◌, true, false, List, ℕ, if◌then◌else◌, [], ◌∷◌, Option, Some, None, refl}
use Rattle.std.specs.Prelude.{◌==◌, codes}
use Rattle.up_model.proofs.ExampleChain.{pipe, raw_source}
use Rattle.up_model.proofs.ExampleTree.{tree, given, archive, tails, other}
use Rattle.up_model.specs.Meaning.{wholly, Doing, Feeding, to_sources, bytes_by, flow_at, flow_by, selected, tally_of, sink_bytes, settled_bytes}
use Rattle.up_model.specs.Packet.{plain}
use Rattle.up_model.specs.Work.{no_work}
use Rattle.up_model.specs.declared.kind.Kind.TheVariants.{Idem, Skip}
use Rattle.up_model.specs.declared.pipe.Pipe.{Pipe}

-- both consumers of the `dup` take its whole flow, one of them by a `skip`
pub both_branches : (sink_bytes tree given archive ≡ codes "abcdefghij") × (sink_bytes tree given tails ≡ codes "dh")
both_branches = (refl, refl)

-- the kinds of this tree hold nothing back, so all of it is settled
pub settled_too : (settled_bytes tree given archive ≡ codes "abcdefghij") × (settled_bytes tree given tails ≡ codes "dh")
settled_too = (refl, refl)

-- a strand is fed at its head: here the `skip`, which stands at place 5, is fed what came through its lane, whatever the sources do
abbrev at_skip : Feeding
at_skip place = if place == 5 then Some (plain (codes "abcd") ∷ plain (codes "xy") ∷ []) else None

pub fed_at_a_head : (flow_by wholly tree at_skip 5 ≡ plain (codes "d") ∷ []) × (bytes_by wholly tree at_skip 6 tails ≡ codes "d") × (flow_by wholly tree at_skip 4 ≡ [])
fed_at_a_head = (refl, refl, refl)

-- where the `dup`, which stands at place 4, does nothing with what it takes, neither of its consumers takes anything
abbrev stopped_at_dup : Doing
stopped_at_dup place kind taken = if place == 4 then no_work else wholly place kind taken

pub no_consumer_served : (flow_by stopped_at_dup tree (to_sources tree given) 5 ≡ []) × (flow_by stopped_at_dup tree (to_sources tree given) 4 ≡ []) × (flow_by stopped_at_dup tree (to_sources tree given) 2 ≡ plain (codes "xy") ∷ [])
no_consumer_served = (refl, refl, refl)

-- the second source feeds its own sink alone
pub second_source : sink_bytes tree given other ≡ codes "xy"
second_source = refl

-- the `dup` puts three packets out, each counted once
pub sums_of_dup : tally_of tree given 4 ≡ record { taken = 3; put = 3; dropped = 0; cut = 0; gained = 0; lost = 0 }
sums_of_dup = refl

pub sums_of_skip : tally_of tree given 5 ≡ record { taken = 3; put = 2; dropped = 1; cut = 8; gained = 0; lost = 0 }
sums_of_skip = refl

-- what the pipe's own probe catches is 0
abbrev quiet : List Pipe
quiet =
    pipe (codes "capture") None (raw_source 4 100)
    ∷ record (pipe (codes "cut") (Some 0) (Skip 3)) { caught = record { drop = false; cut = true; sync = false; lost = false } } ∷ []

pub caught_sums : tally_of quiet (λ place. given 1) 1 ≡ record { taken = 3; put = 2; dropped = 1; cut = 0; gained = 0; lost = 0 }
caught_sums = refl

-- pipes that take each other's output put nothing out, nor does one whose input isn't there
pub no_source :
    (flow_at (pipe (codes "a") (Some 1) Idem ∷ pipe (codes "b") (Some 0) Idem ∷ []) given 0 ≡ [])
    × (flow_at (pipe (codes "a") (Some 9) Idem ∷ []) given 0 ≡ [])
no_source = (refl, refl)

-- a pipe that selects a number of the output at place 1
abbrev selecting : Option ℕ → Option ℕ → Pipe
selecting input number = record (pipe (codes "pid") input Idem) { select = number }

-- the numbers that the consumers of a place select, in the order of the file; others' numbers aren't among them
pub numbers : selected (selecting (Some 1) (Some 5) ∷ selecting (Some 0) (Some 6) ∷ selecting (Some 1) None ∷ selecting (Some 1) (Some 7) ∷ selecting None (Some 8) ∷ []) 1 ≡ 5 ∷ 7 ∷ []
numbers = refl
