-- The private table in strands.rt, which has the head of each place; not needed to read a plan.
use Rattle.std.specs.Prelude.{ℕ, ◌==◌, Bool, false, List, map, Option, slice_get}
use Rattle.std.specs.Option.{option_and_then, option_map_or}
use Rattle.up_model.specs.Inputs.{places}
use Rattle.up_model.specs.Plans.{head_of}
use Rattle.up_model.specs.declared.pipe.Pipe.{Pipe}

-- the head of each place, in file order
abbrev pub head_of_each : List Pipe → List (Option ℕ)
head_of_each pipes = map (head_of pipes) (places pipes)

-- the pipe at a place has this head, by the head of each
abbrev pub has_head : List (Option ℕ) → ℕ → ℕ → Bool
has_head each head place =
    option_map_or (λ own. own == head) (option_and_then (λ own. own) (slice_get each place)) false
