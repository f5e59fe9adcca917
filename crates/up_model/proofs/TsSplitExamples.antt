-- Worked examples of `ts_split`, computed. Its sums are those of the filter by what its consumers select.
use Rattle.std.proofs.Common.{◌≡◌, ℕ, List, [], ◌∷◌, Some, None, map, refl}
use Rattle.std.specs.Prelude.{replicate}
use Rattle.up_model.specs.Packet.{Flow, plain}
use Rattle.up_model.specs.PidFilter.{pid_filter_meaning}
use Rattle.up_model.specs.Shares.{share_by}
use Rattle.up_model.specs.TsSplit.{ts_split_meaning}
use Rattle.up_model.specs.declared.fan_out.FanOut.TheVariants as fans
use Rattle.up_model.specs.declared.kind.Kind.{Kind}
use Rattle.up_model.specs.declared.opt.Opt.{Opt}

-- a packet whose bytes 1 and 2 are these
abbrev packet_of : ℕ → ℕ → List ℕ
packet_of high low = 0x47 ∷ high ∷ low ∷ replicate 185 0

-- of the PIDs 256, 257 and 8191
abbrev taken : Flow
taken = map plain (packet_of 0x01 0x00 ∷ packet_of 0x01 0x01 ∷ packet_of 0x1f 0xff ∷ [])

-- what it puts out for consumers that select 256 and 8191
abbrev put : Flow
put = (pid_filter_meaning (256 ∷ 8191 ∷ [])).output taken

-- each of them takes one packet
pub shares :
    (share_by fans.Selected (Some 256) put ≡ plain (packet_of 0x01 0x00) ∷ [])
    × (share_by fans.Selected (Some 8191) put ≡ plain (packet_of 0x1f 0xff) ∷ [])
shares = (refl, refl)

-- the third packet is dropped
pub tally : (pid_filter_meaning (256 ∷ 8191 ∷ [])).tally taken
    ≡ record { taken = 3; put = 2; dropped = 1; cut = 188; gained = 0; lost = 0 }
tally = refl

module _ (filter_by : List ℕ → Kind) where
  -- its output goes to each consumer by what that selects
  pub feeds : (ts_split_meaning filter_by).fan_out ≡ fans.Selected
  feeds = refl

  -- its module is the filter by what its consumers select, also where that is nothing
  pub stands_in : (pids : List ℕ) → (ts_split_meaning filter_by).stand_in pids ≡ Some (filter_by pids)
  stands_in pids = refl

  -- it has no option
  pub no_option : (option : Opt) → (ts_split_meaning filter_by).setting option ≡ None
  no_option option = refl
