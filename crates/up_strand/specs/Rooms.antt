-- Room for what the end of a strand tells.
use Rattle.std.specs.Prelude.{◌≡◌, ℕ, []}
use Rattle.up_strand.specs.declared.closing.Told.{Told}

-- there is room for so many pipes, of which so many are sinks, and nothing was told
pub record HasOnlyRoom {K : Type 0} (pipe_count sink_count : ℕ) (told : Told K) : Type 0 where
  pub outcomes : told.outcomes ≡ record { room = pipe_count; items = [] }
  pub tallies : told.tallies ≡ record { room = pipe_count; items = [] }
  pub sinks : told.sinks ≡ record { room = sink_count; items = [] }
