-- Packets for tests, which are packets of vectors.
use Rattle.std.specs.Prelude.{ℕ}
use Rattle.up_model.specs.declared.plain_packet.PlainPacket.{PlainPacket}
use Rattle.up_shape.specs.VecPackets.{plain_of}
use Rattle.up_shape.specs.VecStores.{drawn_from}
use Rattle.up_shape.specs.declared.trial_packet.TrialPacket.{TrialPacket}
use Rattle.up_shape.specs.declared.trial_packet.TrialStore.{TrialStore}

-- the plain packet that it stands for
abbrev pub plain_within : TrialPacket → PlainPacket
plain_within packet = plain_of packet.packet

-- how many rooms and packets were made with the store
abbrev pub drawn_within : TrialStore → ℕ
drawn_within store = drawn_from store.store
