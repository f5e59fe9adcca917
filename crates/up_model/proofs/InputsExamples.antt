-- Worked examples of the way along inputs, computed.
use Rattle.std.proofs.Common.{◌≡◌, ℕ, [], ◌∷◌, Some, None, false, refl}
use Rattle.std.specs.Prelude.{codes}
use Rattle.up_model.proofs.ExampleChain.{pipe, three_pipes}
use Rattle.up_model.proofs.ExampleTree.{tree, archive}
use Rattle.up_model.specs.Inputs.{passes_at, places, first_place, consumer_count, input_at, input_pipe, reached_within, ends_at_source, source_of}
use Rattle.up_model.specs.declared.kind.Kind.TheVariants.{Idem, Dup}
use Rattle.up_model.specs.declared.pipe.Pipe.{Pipe}

-- a pipe that takes from a place
abbrev from : ℕ → Pipe
from place = pipe (codes "pass") (Some place) Idem

-- a source is its own source; a pipe that stands before its input has one too
pub sources : (source_of tree 1 ≡ Some 1) × (source_of tree 0 ≡ Some 1) × (source_of tree 6 ≡ Some 1) × (source_of tree 3 ≡ Some 2)
sources = (refl, refl, refl, refl)

-- the input of a place, where a pipe with one stands there
pub inputs : (input_at tree 0 ≡ Some 4) × (input_at tree 1 ≡ None) × (input_at tree 7 ≡ None)
inputs = (refl, refl, refl)

-- as many steps as there are pipes reach the source of the last of a chain, and one fewer don't
pub whole_chain : (source_of three_pipes 2 ≡ Some 0) × (reached_within 2 ends_at_source three_pipes 2 ≡ None)
whole_chain = (refl, refl)

-- two pipes that take each other's output have no source, nor has the pipe that they feed
pub cycle_of_two :
    (source_of (from 1 ∷ from 0 ∷ from 1 ∷ []) 0 ≡ None)
    × (source_of (from 1 ∷ from 0 ∷ from 1 ∷ []) 1 ≡ None)
    × (source_of (from 1 ∷ from 0 ∷ from 1 ∷ []) 2 ≡ None)
cycle_of_two = (refl, refl, refl)

-- nor has a pipe that takes its own output, one whose input isn't there, or a place past the last
pub no_source : (source_of (from 0 ∷ []) 0 ≡ None) × (source_of (from 1 ∷ []) 0 ≡ None) × (source_of tree 7 ≡ None)
no_source = (refl, refl, refl)

-- the `dup` at place 4 has two consumers, a source one, a sink none
pub consumers : (consumer_count tree 4 ≡ 2) × (consumer_count tree 1 ≡ 1) × (consumer_count tree 0 ≡ 0) × (consumer_count tree 7 ≡ 0)
consumers = (refl, refl, refl, refl)

-- the input of the archive is the `dup`
pub input_of_archive : input_pipe tree archive ≡ Some (pipe (codes "both") (Some 1) Dup)
input_of_archive = refl

-- the first place that passes is named, no place past the last passes, and a graph of three has three places
pub first_places :
    (first_place ends_at_source tree ≡ Some 1) × (first_place ends_at_source (from 0 ∷ []) ≡ None)
    × (passes_at ends_at_source tree 7 ≡ false) × (places three_pipes ≡ 0 ∷ 1 ∷ 2 ∷ [])
first_places = (refl, refl, refl, refl)
