-- The kind `ts_sync`: finds the transport stream packets in the joined bytes of a flow.
use Rattle.std.specs.Prelude.{ℕ, zero, suc, pos, ◌+◌, ◌-◌, ◌*◌, ◌≤◌, ◌==◌, Bool, true, false, List, [], ◌∷◌, nat_le, length, map, slice_get, Option, Some, None}
use Rattle.std.specs.Int.RustNames.{unsigned_abs}
use Rattle.std.specs.List.{find, list_all, range_with_len}
use Rattle.up_base.specs.declared.transport.TheConstants.{SYNC_BYTE, TS_SIZE}
use Rattle.up_model.specs.KindMeaning.{KindMeaning, Setting, no_stand_in, writes_nothing}
use Rattle.up_model.specs.Packet.{Flow, joined}
use Rattle.up_model.specs.Parts.{part_of, of_held, of_cut}
use Rattle.up_model.specs.declared.fan_out.FanOut.TheVariants as fans
use Rattle.up_model.specs.declared.kind.Kind.{Kind}
use Rattle.up_model.specs.declared.opt.Opt.{Opt}
use Rattle.up_model.specs.declared.opt.Opt.TheVariants.{Mtu, Align, Offset, Low, High, By, Sync}
use Rattle.up_model.specs.declared.tally.Tally.{Tally}

-- how many packets in a row can be evidence
abbrev pub most_packets : ℕ
most_packets = 16

abbrev pub IsPacketCount : ℕ → Type 0
IsPacketCount packets = (1 ≤ packets) × (packets ≤ most_packets)

-- the byte is there, and is sync_byte
abbrev pub is_sync : Option ℕ → Bool
is_sync None = false
is_sync (Some byte) = byte == SYNC_BYTE

-- a walk along some bytes: where the packets that are put out begin, and how often it became
-- synchronised, and unsynchronised
pub record Walk : Type 0 where
  pub starts : List ℕ
  pub gained : ℕ
  pub lost : ℕ

-- it stops
abbrev pub stops : Walk
stops = record { starts = []; gained = 0; lost = 0 }

-- it puts out the packet that begins here, and goes on
abbrev pub puts : ℕ → Walk → Walk
puts place walk = record walk { starts = place ∷ walk.starts }

-- it becomes synchronised, and goes on
abbrev pub gains : Walk → Walk
gains walk = record walk { gained = suc walk.gained }

-- it becomes unsynchronised, and goes on
abbrev pub loses : Walk → Walk
loses walk = record walk { lost = suc walk.lost }

-- How a walk goes on, where `onward` is how it goes on from a synchronised place.

-- at an unsynchronised place: it is synchronised at the next place that has evidence, else it stops
abbrev pub at_evidence : (ℕ → Walk) → Option ℕ → Walk
at_evidence onward None = stops
at_evidence onward (Some next) = gains (onward next)

-- at a synchronised place with sync_byte, by whether 188 bytes are there
abbrev pub at_sync : (ℕ → Walk) → ℕ → Bool → Walk
at_sync onward place true = puts place (onward (place + TS_SIZE))
at_sync onward place false = stops

module _ (packets : ℕ) (bytes : List ℕ) where
  -- this place, and those at one packet's size, two and more behind it, so many in all, hold sync_byte
  abbrev pub has_evidence : ℕ → Bool
  has_evidence place =
      list_all (λ packet. is_sync (slice_get bytes (place + packet * TS_SIZE)))
      (range_with_len 0 packets)

  -- the least such place from here on
  abbrev pub next_evidence : ℕ → Option ℕ
  next_evidence place = find has_evidence (range_with_len place (length bytes - place))

  -- at a synchronised place with a byte, by whether that is sync_byte: if not, it is lost here
  abbrev pub at_byte : (ℕ → Walk) → ℕ → Bool → Walk
  at_byte onward place true = at_sync onward place (nat_le (place + TS_SIZE) (length bytes))
  at_byte onward place false = loses (at_evidence onward (next_evidence place))

  -- at a synchronised place, by the byte there
  abbrev pub synchronised : (ℕ → Walk) → ℕ → Option ℕ → Walk
  synchronised onward place None = stops
  synchronised onward place (Some byte) = at_byte onward place (byte == SYNC_BYTE)

  -- at most so many turns from a synchronised place
  abbrev pub walk_within : ℕ → ℕ → Walk
  walk_within zero place = stops
  walk_within (suc turns) place =
      synchronised (walk_within turns) place (slice_get bytes place)

  -- all turns from there: no two begin at one byte
  abbrev pub walk_from : ℕ → Walk
  walk_from place = walk_within (length bytes) place

  -- the whole walk, unsynchronised at place 0
  abbrev pub walk_of : Walk
  walk_of = at_evidence walk_from (next_evidence 0)

-- the packets that the walk along the joined bytes puts out. It stops where its evidence or the 188
-- bytes aren't there yet, so all of it is settled when the flow goes on
abbrev pub ts_synced : ℕ → Flow → Flow
ts_synced packets flow =
    map (λ place. part_of flow place TS_SIZE) (walk_of packets (joined flow)).starts

-- the sums, with how often it became synchronised, and unsynchronised
abbrev pub with_walk : Walk → Tally → Tally
with_walk walk sums = record sums { gained = walk.gained; lost = walk.lost }

-- `ts_sync` is the kind with this evidence
abbrev pub ts_sync_setting : (ℕ → Kind) → ℕ → Opt → Option Setting
ts_sync_setting ts_sync packets Sync = Some (record {
  value = pos packets;
  low = pos 1;
  high = pos most_packets;
  set = λ value. ts_sync (unsigned_abs value);
})
ts_sync_setting ts_sync packets Mtu = None
ts_sync_setting ts_sync packets Align = None
ts_sync_setting ts_sync packets Offset = None
ts_sync_setting ts_sync packets Low = None
ts_sync_setting ts_sync packets High = None
ts_sync_setting ts_sync packets By = None

-- bytes that were passed over, or are held back, are counted as cut at the end alone
abbrev pub ts_sync_meaning : (ℕ → Kind) → ℕ → KindMeaning
ts_sync_meaning ts_sync packets = record {
  IsWithin = IsPacketCount packets;
  output = ts_synced packets;
  settled = ts_synced packets;
  tally = λ taken.
      with_walk (walk_of packets (joined taken)) (of_cut taken (ts_synced packets taken));
  settled_tally = λ taken.
      with_walk (walk_of packets (joined taken)) (of_held taken (ts_synced packets taken));
  setting = ts_sync_setting ts_sync packets;
  fan_out = fans.One;
  stand_in = no_stand_in;
  written = writes_nothing;
}
