-- The flow that a module was fed.
use Rattle.std.specs.Prelude.{◌≡◌, ◌≢◌, Bool, true, false, []}
use Rattle.up_model.specs.Packet.{Flow}

-- the flag says whether anything was fed
abbrev pub SaysWhetherFed : Bool → Flow → Type 0
SaysWhetherFed false flow = flow ≡ []
SaysWhetherFed true flow = flow ≢ []
