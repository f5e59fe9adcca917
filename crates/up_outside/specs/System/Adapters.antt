-- What the adapters over std's readers and writers, and over the files of the system, keep.
use Rattle.std.specs.Prelude.{ℕ, None}
use Rattle.up_outside.specs.States.{DepotState}
use Rattle.up_outside.specs.declared.system.file_depot.FileDepot.{FileDepot}
use Rattle.up_outside.specs.declared.system.reader_source.ReaderSource.{ReaderSource}
use Rattle.up_outside.specs.declared.system.writer_sink.WriterSink.{WriterSink}

-- the reader under the source
abbrev pub reader_of : {R : Type 0} → ReaderSource R → R
reader_of s = s.reader

-- how many of its reads failed
abbrev pub reader_faults : {R : Type 0} → ReaderSource R → ℕ
reader_faults s = s.faults

-- the writer under the sink
abbrev pub writer_of : {W : Type 0} → WriterSink W → W
writer_of k = k.writer

-- how many of its writes failed
abbrev pub writer_faults : {W : Type 0} → WriterSink W → ℕ
writer_faults k = k.faults

-- the files of the system tell their counts alone
abbrev pub files_state : {R F : Type 0} → FileDepot R F → DepotState
files_state d = record {
  held = None;
  asked = None;
  source_faults = d.source_faults;
  sink_faults = d.sink_faults;
}
