-- Worked examples of the circle and of the next pump, computed.
use Rattle.std.proofs.Common.{◌≡◌, true, [], ◌∷◌, Some, None, refl}
use Rattle.up_pump.specs.Circle.{circle, next_pump}
use Rattle.up_pump.specs.Pump.{idle}
use Rattle.up_pump.specs.declared.pump.Pump.{Pump}

abbrev due : Pump
due = record { ready = true; blockers = 0 }

abbrev blocked : Pump
blocked = record { ready = true; blockers = 2 }

-- five pumps, of which 1 was given last
pub after_pump_1 : circle 2 5 ≡ 2 ∷ 3 ∷ 4 ∷ 0 ∷ 1 ∷ []
after_pump_1 = refl

-- none was given yet
pub from_pump_0 : next_pump (record { pumps = idle ∷ due ∷ due ∷ []; last = None }) ≡ Some 1
from_pump_0 = refl

-- pump 2 was given last, and pump 0 is blocked
pub round_the_circle :
    next_pump (record { pumps = blocked ∷ due ∷ due ∷ []; last = Some 2 }) ≡ Some 1
round_the_circle = refl

-- the pump given last is the only one that is due
pub the_same_again :
    next_pump (record { pumps = idle ∷ due ∷ blocked ∷ []; last = Some 1 }) ≡ Some 1
the_same_again = refl

pub none_is_due : next_pump (record { pumps = idle ∷ blocked ∷ []; last = Some 0 }) ≡ None
none_is_due = refl
