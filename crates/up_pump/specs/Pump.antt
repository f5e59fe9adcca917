-- One pump.
use Rattle.std.specs.Prelude.{Bool, false, ◌&&◌, ◌==◌}
use Rattle.up_pump.specs.declared.pump.Pump.{Pump}

-- a pump that has no work and no blockers
abbrev pub idle : Pump
idle = record { ready = false; blockers = 0 }

-- the pump is ready and has no blockers
abbrev pub is_due : Pump → Bool
is_due pump = pump.ready && (pump.blockers == 0)
