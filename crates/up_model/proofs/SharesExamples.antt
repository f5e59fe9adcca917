-- Worked examples of what a consumer takes of an output, computed.
use Rattle.std.proofs.Common.{◌≡◌, ℕ, ◌+◌, ◌/◌, ◌%◌, [], ◌∷◌, Some, None, replicate, refl}
use Rattle.std.specs.Prelude.{codes}
use Rattle.up_model.specs.Packet.{PlainPacket, Flow, plain}
use Rattle.up_model.specs.Shares.{of_pid, share_by}
use Rattle.up_model.specs.declared.fan_out.FanOut.TheVariants as fans

-- a transport stream packet of this PID, with one flag and a counter beside it
abbrev pub ts_packet : ℕ → PlainPacket
ts_packet number = plain (0x47 ∷ (64 + number / 256) ∷ (number % 256) ∷ replicate 185 9)

-- two PIDs, and what is no packet of a transport stream
abbrev pub mixed : Flow
mixed = ts_packet 256 ∷ ts_packet 8191 ∷ plain (codes "ab") ∷ ts_packet 256 ∷ []

-- a consumer of a split output takes what it selects, the greatest number too, and nothing where it selects none
pub selected :
    (share_by fans.Selected (Some 256) mixed ≡ ts_packet 256 ∷ ts_packet 256 ∷ []) × (share_by fans.Selected (Some 8191) mixed ≡ ts_packet 8191 ∷ [])
    × (share_by fans.Selected (Some 0) mixed ≡ []) × (share_by fans.Selected None mixed ≡ [])
selected = (refl, refl, refl, refl)

-- of any other output it takes all
pub all_of_it : (share_by fans.One None mixed ≡ mixed) × (share_by fans.All None mixed ≡ mixed)
all_of_it = (refl, refl)

-- a byte less, or another first byte, is no packet of a transport stream
pub no_packets :
    (of_pid (Some 256) (plain (0x47 ∷ 1 ∷ 0 ∷ replicate 184 9) ∷ []) ≡ [])
    × (of_pid (Some 256) (plain (0x48 ∷ 1 ∷ 0 ∷ replicate 185 9) ∷ []) ≡ [])
no_packets = (refl, refl)
