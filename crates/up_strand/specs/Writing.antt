-- What a sink was given of bytes that were to be written to it.
use Rattle.std.specs.Prelude.{◌≡◌, List, ℕ, Bool, true}
use Rattle.std.specs.Io.KnownBytes.{Appends}
use Rattle.up_base.specs.Lists.{IsPrefix}
use Rattle.up_outside.specs.States.{SinkState}
use Rattle.up_outside.specs.Told.{Then}

-- the sink's entry is the same, and what it took is told or not as it was
pub record IsSameSink (old new : SinkState) : Type 0 where
  pub place : new.place ≡ old.place
  pub sum : Then (λ before after. Unit {0}) old.moved new.moved

-- a prefix of these bytes was written, and all of them where the flag says so
pub record Receives (old new : SinkState) (all : Bool) (bytes : List ℕ) : Type 0 where
  pub put : List ℕ
  pub appended : Appends old.written new.written put
  pub prefix : IsPrefix put bytes
  pub whole : all ≡ true → put ≡ bytes
  pub same : IsSameSink old new
