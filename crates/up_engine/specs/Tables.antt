-- The tables of a net before its strands are made: an empty lane for each head that is no source,
-- and pumps that are all ready.
use Rattle.std.specs.Prelude.{◌≡◌, ◌<◌, ◌≤◌, ℕ, List, [], length, slice_get, slice_index_or, true, false, Option, Some, None}
use Rattle.std.specs.Vec.{vec_capacity}
use Rattle.up_engine.specs.Joins.{filler_of}
use Rattle.up_engine.specs.Nets.{head_at}
use Rattle.up_engine.specs.declared.net.Net.{Net}
use Rattle.up_model.specs.Inputs.{passes_at}
use Rattle.up_model.specs.Plans.{heads, is_fed, lane_length}
use Rattle.up_model.specs.declared.pipe.Pipe.{Pipe}
use Rattle.up_pump.specs.Pumps.{pump_at}
use Rattle.up_queue.specs.Lane.{Lane}

-- an empty lane of the length of the pipe's `queue` for a head that is no source, else none
abbrev pub IsEmptyLane : {P : Type 0} → List Pipe → ℕ → Option (Lane P) → Type 0
IsEmptyLane pipes head None = passes_at is_fed pipes head ≡ false
IsEmptyLane pipes head (Some lane) = (passes_at is_fed pipes head ≡ true)
    × (lane.cap ≡ lane_length pipes head) × (lane.items ≡ [])

-- so many lanes, each as the head of its number is to have
pub record AreEmptyLanes {P : Type 0} (pipes : List Pipe) (heads : List ℕ) (count : ℕ)
    (lanes : List (Option (Lane P))) : Type 0 where
  pub size : length lanes ≡ count
  pub each : (i : ℕ) → i < count
      → IsEmptyLane pipes (slice_index_or heads i 0) (slice_index_or lanes i None)

-- all but its strands is made, and for those there is room
pub record HasTables {P S K : Type 0} (pipes : List Pipe) (net : Net P S K) : Type 0 where
  pub head_places : net.heads.items ≡ heads pipes
  pub lanes : AreEmptyLanes pipes (heads pipes) (length (heads pipes)) net.lanes.items
  pub filler_count : length net.fillers.items ≡ length (heads pipes)
  pub fillers : (i filler : ℕ) → i < length (heads pipes)
      → filler_of pipes (head_at pipes i) ≡ Some filler
      → slice_get (heads pipes) (slice_index_or net.fillers.items i 0) ≡ Some filler
  pub number_count : length net.numbers.items ≡ length pipes
  pub numbers : (i : ℕ) → i < length (heads pipes)
      → slice_index_or net.numbers.items (head_at pipes i) 0 ≡ i
  pub pump_count : length net.pumps.pumps ≡ length (heads pipes)
  pub pumps : (i : ℕ) → i < length (heads pipes)
      → pump_at net.pumps i ≡ record { ready = true; blockers = 0 }
  pub room : length (heads pipes) ≤ vec_capacity net.strands
