-- What a packet's worth of reading did, by how far its room was filled.
use Rattle.std.proofs.Common.{◌≡◌, ℕ, ◌+◌, ◌≤◌, List, length, take, subst, sym, arith}
use Rattle.std.proofs.lemmas.List.{length-take-le}
use Rattle.up_model.specs.declared.plain_packet.PlainPacket.{PlainPacket}
use Rattle.up_outside.specs.Counts.{CountsOnce}
use Rattle.up_outside.specs.States.{SourceState}
use Rattle.up_strand.specs.Reads.{WereRead, Fills, is_fault, block_read_failed, AreReadAs, ReadsPacket}
use Rattle.up_strand.specs.declared.fill.Filled.{Filled}
use Rattle.up_strand.specs.declared.source_packet.Next.{Next}

-- the answer tells what the bytes of the room are, and a fault where the filling met one
pub read_as : {P : Type 0} (plain : P → PlainPacket) (block left want : ℕ) (old new : SourceState) (room : List ℕ) (filled : Filled) (next : Next P)
    → filled.count ≤ want → want ≤ block → want ≤ left + 1 → want ≤ length room → Fills old new room filled → is_fault filled.stop ≡ block_read_failed next
    → (length (take filled.count room) ≡ filled.count → AreReadAs plain block left new.left (take filled.count room) next)
    → ReadsPacket plain block left old new next
read_as plain block left want old new room filled next fits in_block in_limit in_room fills fault are =
    let count : length (take filled.count room) ≡ filled.count = length-take-le filled.count room (omega (arith, fits, in_room)) in
    record {
      taken = take filled.count room;
      took = subst (WereRead old new (take filled.count room)) (sym count) fills.took;
      in_block = omega (arith, count, fits, in_block);
      in_limit = omega (arith, count, fits, in_limit);
      are = are count;
      faults = subst (λ b. CountsOnce b old.faults new.faults) fault fills.faults;
    }
