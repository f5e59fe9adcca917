-- Worked examples of `ts_check`, computed.
use Rattle.std.proofs.Common.{◌≡◌, ℕ, List, [], ◌∷◌, ◌++◌, None, refl}
use Rattle.std.specs.Prelude.{replicate}
use Rattle.up_model.specs.Attrs.{Attrs}
use Rattle.up_model.specs.Packet.{Flow, plain}
use Rattle.up_model.specs.TsCheck.{ts_checked, ts_check_meaning}
use Rattle.up_model.specs.declared.opt.Opt.{Opt}

-- sync_byte and so many bytes
abbrev beginning : ℕ → List ℕ
beginning count = 0x47 ∷ replicate count 0

-- a packet, a piece that begins with another byte, and a rest
abbrev taken : Flow
taken = plain (beginning 187 ++ replicate 188 0 ++ beginning 0) ∷ []

pub one_packet : ts_checked taken ≡ plain (beginning 187) ∷ []
one_packet = refl

pub tally : ts_check_meaning.tally taken ≡ record { taken = 1; put = 1; dropped = 0; cut = 189; gained = 0; lost = 0 }
tally = refl

-- a packet behind a piece that is none is put out: the pieces are counted from the start of what came
pub behind_another : ts_checked (plain (replicate 188 0 ++ beginning 187) ∷ []) ≡ plain (beginning 187) ∷ []
behind_another = refl

-- a byte too many in front leaves no packet
pub shifted : ts_checked (plain (0 ∷ beginning 187) ∷ []) ≡ []
shifted = refl

-- a byte too few, none, and a byte too many behind
pub sizes :
    (ts_checked (plain (beginning 186) ∷ []) ≡ [])
    × (ts_checked (plain [] ∷ []) ≡ [])
    × (ts_checked (plain (beginning 188) ∷ []) ≡ plain (beginning 187) ∷ [])
sizes = (refl, refl, refl)

-- no piece reaches from one packet into the next
pub each_by_itself : ts_checked (plain (beginning 186) ∷ plain (0 ∷ beginning 187) ∷ []) ≡ []
each_by_itself = refl

-- each piece has the packet's attributes
pub attrs_stay : (attrs : Attrs)
    → ts_checked (record { attrs = attrs; bytes = beginning 187 ++ beginning 187 } ∷ [])
    ≡ record { attrs = attrs; bytes = beginning 187 } ∷ record { attrs = attrs; bytes = beginning 187 } ∷ []
attrs_stay attrs = refl

-- nothing is held back
pub settled : (flow : Flow) → ts_check_meaning.settled flow ≡ ts_check_meaning.output flow
settled flow = refl

-- it has no option
pub no_option : (option : Opt) → ts_check_meaning.setting option ≡ None
no_option option = refl
