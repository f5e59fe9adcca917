-- The kind `chunk`: cuts the joined bytes of a flow into packets of one size.
use Rattle.std.specs.Prelude.{ℕ, pos, ◌-◌, ◌*◌, ◌/◌, ◌%◌, ◌≤◌, ◌==◌, [], ◌∷◌, ◌++◌, length, map, Option, Some, None, if◌then◌else◌}
use Rattle.std.specs.Int.RustNames.{unsigned_abs}
use Rattle.std.specs.List.{range_with_len}
use Rattle.up_model.specs.KindMeaning.{KindMeaning, Setting, no_stand_in, writes_nothing}
use Rattle.up_model.specs.Packet.{Flow, joined}
use Rattle.up_model.specs.Parts.{part_of, of_held, of_cut}
use Rattle.up_model.specs.declared.fan_out.FanOut.TheVariants as fans
use Rattle.up_model.specs.declared.kind.Kind.{Kind}
use Rattle.up_model.specs.declared.limits.TheConstants.{MAX_PACKET}
use Rattle.up_model.specs.declared.opt.Opt.{Opt}
use Rattle.up_model.specs.declared.opt.Opt.TheVariants.{Mtu, Align, Offset, Low, High, By, Sync}

-- the most bytes of a packet, and what its bytes are a multiple of
pub record AreSizes (mtu align : ℕ) : Type 0 where
  pub some : 1 ≤ align
  pub fits : align ≤ mtu
  pub small : mtu ≤ MAX_PACKET

-- the greatest multiple that is at most so much
abbrev pub down_to_multiple : ℕ → ℕ → ℕ
down_to_multiple align count = count - count % align

-- the pieces of this size from the front on, as many as there are bytes for
abbrev pub full_parts : ℕ → Flow → Flow
full_parts size flow =
    map (λ place. part_of flow (place * size) size)
    (range_with_len 0 (length (joined flow) / size))

-- so many bytes from this place on as a packet, and none for no bytes
abbrev pub part_if_any : Flow → ℕ → ℕ → Flow
part_if_any flow place size = if size == 0 then [] else part_of flow place size ∷ []

-- the rest behind those pieces, cut down to a multiple of `align`
abbrev pub rest_part : ℕ → ℕ → Flow → Flow
rest_part size align flow =
    part_if_any flow (length (joined flow) / size * size)
    (down_to_multiple align (length (joined flow) % size))

-- the pieces whose size is the greatest multiple of `align` that `mtu` allows, and the rest
abbrev pub chunked : ℕ → ℕ → Flow → Flow
chunked mtu align flow =
    let size = down_to_multiple align mtu in
    full_parts size flow ++ rest_part size align flow

-- before the end: each piece as soon as its bytes are there
abbrev pub chunked_so_far : ℕ → ℕ → Flow → Flow
chunked_so_far mtu align flow = full_parts (down_to_multiple align mtu) flow

-- `chunk` is the kind with these sizes
abbrev pub chunk_setting : (ℕ → ℕ → Kind) → ℕ → ℕ → Opt → Option Setting
chunk_setting chunk mtu align Mtu = Some (record {
  value = pos mtu;
  low = pos align;
  high = pos MAX_PACKET;
  set = λ value. chunk (unsigned_abs value) align;
})
chunk_setting chunk mtu align Align = Some (record {
  value = pos align;
  low = pos 1;
  high = pos mtu;
  set = λ value. chunk mtu (unsigned_abs value);
})
chunk_setting chunk mtu align Offset = None
chunk_setting chunk mtu align Low = None
chunk_setting chunk mtu align High = None
chunk_setting chunk mtu align By = None
chunk_setting chunk mtu align Sync = None

abbrev pub chunk_meaning : (ℕ → ℕ → Kind) → ℕ → ℕ → KindMeaning
chunk_meaning chunk mtu align = record {
  IsWithin = AreSizes mtu align;
  output = chunked mtu align;
  settled = chunked_so_far mtu align;
  tally = λ taken. of_cut taken (chunked mtu align taken);
  settled_tally = λ taken. of_held taken (chunked_so_far mtu align taken);
  setting = chunk_setting chunk mtu align;
  fan_out = fans.One;
  stand_in = no_stand_in;
  written = writes_nothing;
}
