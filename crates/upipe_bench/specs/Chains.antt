-- The graph of a chain: a source, so many idems, and a sink.
use Rattle.std.specs.Prelude.{ℕ, ◌&&◌, ◌++◌, List, [], ◌∷◌, Bool, true, false, map, replicate, nat_lt, nat_le}
use Rattle.up_model.specs.declared.kind.Kind.{Kind}
use Rattle.up_model.specs.declared.kind.Kind.TheVariants.{Idem}
use Rattle.up_model.specs.declared.pipe.Pipe.{Pipe}

abbrev pub is_idem : Kind → Bool
is_idem Idem = true
is_idem kind = false

-- by the pipes of a graph, which of them are idems
abbrev pub are_idems : List Pipe → List Bool
are_idems pipes = map (λ pipe. is_idem pipe.kind) pipes

-- the same of a chain of so many idems: neither its first pipe nor its last
abbrev pub chain : ℕ → List Bool
chain idems = false ∷ replicate idems true ++ false ∷ []

-- the place is that of an idem of the chain
abbrev pub is_inner : ℕ → ℕ → Bool
is_inner idems place = nat_lt 0 place && nat_le place idems
