-- What a strand of a trial, and the items of its lane, stand for.
use Rattle.std.specs.Prelude.{◌≡◌, ℕ, List}
use Rattle.std.specs.List.{All}
use Rattle.up_model.specs.declared.pipe.Pipe.{Pipe}
use Rattle.up_model.specs.declared.plain_packet.PlainPacket.{PlainPacket}
use Rattle.up_outside.specs.Memory.MemSink.{sink_state}
use Rattle.up_outside.specs.Memory.MemSource.{source_state}
use Rattle.up_outside.specs.declared.memory.mem_sink.MemSink.{MemSink}
use Rattle.up_outside.specs.declared.memory.mem_source.MemSource.{MemSource}
use Rattle.up_queue.specs.declared.item.Item.{Item}
use Rattle.up_shape.specs.VecPackets.{plain_of}
use Rattle.up_shape.specs.declared.vec_packet.VecPacket.{VecPacket}
use Rattle.up_strand.specs.History.{History}
use Rattle.up_strand.specs.StrandCalls.{IsLegalItem, ItemFits}
use Rattle.up_strand.specs.Strands.{StandsFor, StandsForSome, StrandFits}
use Rattle.up_strand.specs.declared.strand.Strand.{Strand}

-- it is the strand of this head of the graph, whatever it did
abbrev pub IsOfGraph : {P : Type 0} → (P → PlainPacket) → List Pipe → ℕ
    → Strand P MemSource MemSink → Type 0
IsOfGraph plain pipes head strand = (h : History)
    × StandsFor plain source_state sink_state strand h × (h.pipes ≡ pipes) × (h.head ≡ head)

module _ {P F : Type 0} (plain : P → PlainPacket) (fits : P → F → Type 0) (family : F) where
  -- the strand did something, and what it holds is of the family
  pub record IsAtWork (strand : Strand P MemSource MemSink) : Type 0 where
    pub stands : StandsForSome plain source_state sink_state strand
    pub holds : StrandFits strand fits family

  -- the items can go to a strand of the family
  pub record CanBeTaken (items : List (Item P)) : Type 0 where
    pub legal : All (IsLegalItem plain) items
    pub suit : All (ItemFits fits family) items

-- the strand did something with packets of vectors, which fit any store
abbrev pub IsVecStrand : Strand VecPacket MemSource MemSink → Type 0
IsVecStrand strand = IsAtWork {F = Unit {0}} plain_of (λ packet family. Unit {0}) (tt {0}) strand
