-- What a sink in memory tells, and how it goes on.
use Rattle.std.specs.Prelude.{ℕ, Some, List, length}
use Rattle.up_outside.specs.States.{SinkState}
use Rattle.up_outside.specs.declared.memory.mem_sink.MemSink.{MemSink}
use Rattle.up_outside.specs.declared.memory.object_calls.ObjectCalls.{ObjectCalls}

-- what was written
abbrev pub sink_written : MemSink → List ℕ
sink_written k = k.bytes

-- it tells all
abbrev pub sink_state : MemSink → SinkState
sink_state k = record {
  written = Some (sink_written k);
  place = Some k.place;
  moved = Some (length k.bytes);
  faults = k.calls.faults;
}

-- its writes
abbrev pub sink_calls : MemSink → ObjectCalls
sink_calls k = k.calls

-- the most bytes that a write takes
abbrev pub sink_most : MemSink → ℕ
sink_most k = k.most
