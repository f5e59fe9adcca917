-- What the parts of a move do to a net.
use Rattle.std.specs.Prelude.{◌≡◌, ◌≢◌, ℕ, ◌-◌, ◌≤◌, List, length, slice_index_or, true, Option, Some, None}
use Rattle.std.specs.Option.{is_some}
use Rattle.up_engine.specs.declared.net.Net.{Net}
use Rattle.up_pump.specs.Pumps.{Pumps, blockers_at, pump_at}
use Rattle.up_queue.specs.Lane.{Lane}
use Rattle.up_strand.specs.Strands.{want_of}
use Rattle.up_strand.specs.declared.strand.Strand.{Strand}
use Rattle.up_strand.specs.declared.want.Want.TheVariants as wants

-- a lane that is there was there, with as much room
abbrev pub HasSameRoom : {P : Type 0} → Option (Lane P) → Option (Lane P) → Type 0
HasSameRoom {P} old new = (lane : Lane P) → new ≡ Some lane
    → (before : Lane P) × (old ≡ Some before) × (lane.cap ≡ before.cap)

-- the lanes of all other strands are as they were, and this one's is still there
pub record OtherLanesStay {P : Type 0} (old new : List (Option (Lane P))) (i : ℕ) : Type 0 where
  pub count : length new ≡ length old
  pub others : (k : ℕ) → k ≢ i → slice_index_or new k None ≡ slice_index_or old k None
  pub there : is_some (slice_index_or new i None) ≡ true
  pub room : HasSameRoom (slice_index_or old i None) (slice_index_or new i None)

-- the lane of a strand's head has room: the strand that fills it is held back by it no more, and no
-- other is held back by more
pub record IsFreed {P S K : Type 0} (net : Net P S K) (i : ℕ) (loop : Pumps) : Type 0 where
  pub count : length loop.pumps ≡ length net.pumps.pumps
  pub ready : (k : ℕ) → (pump_at loop k).ready ≡ (pump_at net.pumps k).ready
  pub fewer : (k : ℕ) → blockers_at loop k ≤ blockers_at net.pumps k
  pub freed : (d : Strand P S K)
      → want_of (slice_index_or net.strands.items (slice_index_or net.fillers.items i 0) d)
      ≡ wants.Output (slice_index_or net.heads.items i 0)
      → blockers_at loop (slice_index_or net.fillers.items i 0)
      ≤ blockers_at net.pumps (slice_index_or net.fillers.items i 0) - 1
