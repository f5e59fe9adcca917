-- What a depot, a source and a sink tell at a moment, each as one value.
use Rattle.std.specs.Prelude.{ℕ, List, Option}
use Rattle.up_outside.specs.Held.{Held}
use Rattle.up_outside.specs.declared.asked.Entry.{Entry}

pub record DepotState : Type 0 where
  -- the bytes at each path, where they are told
  pub held : Option Held
  -- one entry for each open that was refused or succeeded, in order, where they are told
  pub asked : Option (List Entry)
  -- how many opens of sources failed, and closes of sources of which a read had; it stands still at its last value
  pub source_faults : ℕ
  -- how many opens and closes of sinks failed, and closes of sinks of which a write had
  pub sink_faults : ℕ

pub record SourceState : Type 0 where
  -- the bytes still to come, where they are told
  pub left : Option (List ℕ)
  -- the place of its entry in its depot's `asked`, where it is told
  pub place : Option ℕ
  -- how many bytes its reads gave, where that is told
  pub moved : Option ℕ
  -- how many of its reads failed; it stands still at its last value
  pub faults : ℕ

pub record SinkState : Type 0 where
  -- the bytes that were written, where they are told
  pub written : Option (List ℕ)
  -- the place of its entry, where it is told; it is 0 for a sink that no depot made
  pub place : Option ℕ
  -- how many bytes its writes took, where that is told
  pub moved : Option ℕ
  -- how many of its writes failed
  pub faults : ℕ
