-- What a pipe has put out and counted.
use Rattle.std.specs.Prelude.{◌≡◌, ◌+◌, [], length, map}
use Rattle.up_model.specs.Packet.{Flow, joined}
use Rattle.up_model.specs.Tallies.{nothing, of_kept}
use Rattle.up_model.specs.declared.tally.Tally.{Tally}

pub record Work : Type 0 where
  pub flow : Flow
  pub tally : Tally

abbrev pub no_work : Work
no_work = record { flow = []; tally = nothing }

-- the sums are those of so many packets taken, and of what was put out
pub record Counts (work : Work) (taken : Flow) : Type 0 where
  pub packets_taken : work.tally.taken ≡ length taken
  pub packets_put : work.tally.put ≡ length work.flow

-- the bytes that weren't put out were cut
abbrev pub CutsTheRest : Work → Flow → Type 0
CutsTheRest work taken = work.tally.cut + length (joined work.flow) ≡ length (joined taken)

-- each packet that was taken was put out or dropped, and none was gained or lost
pub record PutsOrDrops (work : Work) : Type 0 where
  pub packets : work.tally.put + work.tally.dropped ≡ work.tally.taken
  pub gained : work.tally.gained ≡ 0
  pub lost : work.tally.lost ≡ 0

-- the packets that were put out have the bytes of those that were taken, one by one, and the sums count all as put, and nothing else
pub record PutsAll (work : Work) (taken : Flow) : Type 0 where
  pub bytes : map (λ packet. packet.bytes) work.flow ≡ map (λ packet. packet.bytes) taken
  pub sums : work.tally ≡ of_kept taken
