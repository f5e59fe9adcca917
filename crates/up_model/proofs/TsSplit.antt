-- The kind `ts_split` keeps the laws.
use Rattle.std.proofs.Common.{◌≡◌, ℕ, List, [], Some}
use Rattle.std.specs.List.{IsAmong}
use Rattle.up_model.proofs.Lawful.{KeepsFlows}
use Rattle.up_model.proofs.PidFilter.{pid_filter_keeps_flows, own_of_filtered}
use Rattle.up_model.specs.Packet.{Flow}
use Rattle.up_model.specs.PidFilter.{pid_filter_meaning}
use Rattle.up_model.specs.Shares.{share_by, of_pid}
use Rattle.up_model.specs.TsSplit.{ts_split_meaning}
use Rattle.up_model.specs.declared.kind.Kind.{Kind}

pub ts_split_keeps_flows : (filter_by : List ℕ → Kind) → KeepsFlows (ts_split_meaning filter_by)
ts_split_keeps_flows filter_by =
    let by_none = pid_filter_keeps_flows [] in
    record {
      settles_nothing = by_none.settles_nothing;
      settles_no_sums = by_none.settles_no_sums;
      owes_nothing = by_none.owes_nothing;
      owes_no_sums = by_none.owes_no_sums;
      longer = by_none.longer;
      whole = by_none.whole;
      sums_longer = by_none.sums_longer;
      sums_whole = by_none.sums_whole;
      counts_settled = by_none.counts_settled;
      counts_whole = by_none.counts_whole;
      legal = by_none.legal;
      writes_on = by_none.writes_on;
    }

-- a consumer takes the packets of its PID of all that the split took, whatever the others select
pub consumer_takes_its_own : (filter_by : List ℕ → Kind) (pids : List ℕ) (pid : ℕ) → IsAmong pids pid → (taken : Flow)
    → share_by (ts_split_meaning filter_by).fan_out (Some pid) ((pid_filter_meaning pids).output taken) ≡ of_pid (Some pid) taken
consumer_takes_its_own filter_by pids pid among taken = own_of_filtered pids pid among taken
