-- The kind `ts_split`: each consumer takes the transport stream packets of the PID that it selects.
use Rattle.std.specs.Prelude.{ℕ, List, [], Some}
use Rattle.up_model.specs.KindMeaning.{KindMeaning, no_options}
use Rattle.up_model.specs.Packetwise.{packetwise}
use Rattle.up_model.specs.PidFilter.{pid_filter_step}
use Rattle.up_model.specs.declared.fan_out.FanOut.TheVariants as fans
use Rattle.up_model.specs.declared.kind.Kind.{Kind}

-- It puts out, and counts, what a filter by the PIDs that its consumers select does: `filter_by` is
-- that kind, which its module has. By itself it selects none and drops all.
abbrev pub ts_split_meaning : (List ℕ → Kind) → KindMeaning
ts_split_meaning filter_by =
    record (packetwise (Unit {0}) (pid_filter_step []) no_options fans.Selected) {
      stand_in = λ pids. Some (filter_by pids);
    }
