-- What a source over bytes in memory tells, and how it goes on.
use Rattle.std.specs.Prelude.{ℕ, Some, List, drop}
use Rattle.up_outside.specs.States.{SourceState}
use Rattle.up_outside.specs.declared.memory.mem_source.MemSource.{MemSource}
use Rattle.up_outside.specs.declared.memory.object_calls.ObjectCalls.{ObjectCalls}

-- the bytes still to come
abbrev pub source_left : MemSource → List ℕ
source_left s = drop s.at s.bytes

-- it tells all
abbrev pub source_state : MemSource → SourceState
source_state s = record {
  left = Some (source_left s);
  place = Some s.place;
  moved = Some s.at;
  faults = s.calls.faults;
}

-- its reads
abbrev pub source_calls : MemSource → ObjectCalls
source_calls s = s.calls

-- the most bytes that a read gives
abbrev pub source_most : MemSource → ℕ
source_most s = s.most
