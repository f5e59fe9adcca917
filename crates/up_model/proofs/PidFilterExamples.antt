-- Worked examples of `pid_filter`, computed.
use Rattle.std.proofs.Common.{◌≡◌, ℕ, List, [], ◌∷◌, None, map, refl}
use Rattle.std.specs.Prelude.{replicate}
use Rattle.up_model.specs.Attrs.{Attrs}
use Rattle.up_model.specs.Packet.{Flow, plain}
use Rattle.up_model.specs.PidFilter.{pid_filter_step, pid_filter_meaning}
use Rattle.up_model.specs.declared.opt.Opt.{Opt}
use Rattle.up_model.specs.declared.verdict.Verdict.TheVariants.{Passes, Drops}

-- a packet whose bytes 1 and 2 are these
abbrev packet_of : ℕ → ℕ → List ℕ
packet_of high low = 0x47 ∷ high ∷ low ∷ replicate 185 0

-- of the PIDs 256, 257 and 8191; of the second the three bits above the PID are set
abbrev taken : Flow
taken = map plain (packet_of 0x01 0x00 ∷ packet_of 0xe1 0x01 ∷ packet_of 0x1f 0xff ∷ [])

pub two_of_three : (pid_filter_meaning (256 ∷ 257 ∷ [])).output taken
    ≡ map plain (packet_of 0x01 0x00 ∷ packet_of 0xe1 0x01 ∷ [])
two_of_three = refl

pub tally : (pid_filter_meaning (256 ∷ 257 ∷ [])).tally taken
    ≡ record { taken = 3; put = 2; dropped = 1; cut = 188; gained = 0; lost = 0 }
tally = refl

-- the least and the greatest PID
pub least : pid_filter_step (0 ∷ []) (plain (packet_of 0xe0 0x00)) ≡ Passes (plain (packet_of 0xe0 0x00)) 0
least = refl

pub greatest : pid_filter_step (8191 ∷ []) (plain (packet_of 0x1f 0xff)) ≡ Passes (plain (packet_of 0x1f 0xff)) 0
greatest = refl

-- a PID that is named twice puts a packet out once
pub named_twice : (pid_filter_meaning (256 ∷ 256 ∷ [])).output (plain (packet_of 0x01 0x00) ∷ [])
    ≡ plain (packet_of 0x01 0x00) ∷ []
named_twice = refl

-- by no PID all are dropped
pub by_none : (pid_filter_meaning []).output taken ≡ []
by_none = refl

-- a byte too few, a byte too many, another first byte, and an empty packet: each of PID 0 by its bytes 1 and 2
pub no_packets :
    (pid_filter_step (0 ∷ []) (plain (0x47 ∷ replicate 186 0)) ≡ Drops)
    × (pid_filter_step (0 ∷ []) (plain (0x47 ∷ replicate 188 0)) ≡ Drops)
    × (pid_filter_step (0 ∷ []) (plain (replicate 188 0)) ≡ Drops)
    × (pid_filter_step (0 ∷ []) (plain []) ≡ Drops)
no_packets = (refl, refl, refl, refl)

-- the attributes stay
pub attrs_stay : (attrs : Attrs)
    → pid_filter_step (256 ∷ []) (record { attrs = attrs; bytes = packet_of 0x01 0x00 })
    ≡ Passes (record { attrs = attrs; bytes = packet_of 0x01 0x00 }) 0
attrs_stay attrs = refl

-- nothing is held back
pub settled : (pids : List ℕ) (flow : Flow) → (pid_filter_meaning pids).settled flow ≡ (pid_filter_meaning pids).output flow
settled pids flow = refl

-- it has no option
pub no_option : (pids : List ℕ) (option : Opt) → (pid_filter_meaning pids).setting option ≡ None
no_option pids option = refl
