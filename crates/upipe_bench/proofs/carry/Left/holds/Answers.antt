use Rattle.std.proofs.Common.{rules}
use Rattle.up_outside.specs.Memory.MemSink.{sink_written}
use Rattle.upipe_bench.proofs.Chains.{is_only}
use Rattle.upipe_bench.proofs.carry.Left.holds.Goals as goal

pub returns-then-len-eq1 : goal.returns-then-len-eq1
returns-then-len-eq1 c =
    is_only sink_written c.args.self.now.sinks c.at.result.now c.args.bytes.now c.eq.result (search rules) c.at.ensures (search rules)
