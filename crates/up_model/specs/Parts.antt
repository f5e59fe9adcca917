-- Parts of the joined bytes of a flow, for kinds that cut them anew.
use Rattle.std.specs.Prelude.{ℕ, ◌-◌, [], ◌∷◌, nat_lt, length, take, drop, if◌then◌else◌}
use Rattle.std.specs.FinMap.{empty}
use Rattle.up_model.specs.Packet.{PlainPacket, Flow, Attrs, joined}
use Rattle.up_model.specs.declared.tally.Tally.{Tally}

-- the attributes of the packet in which the byte at this place stands. An empty packet has no byte
abbrev pub attrs_at : Flow → ℕ → Attrs
attrs_at [] place = empty
attrs_at (packet ∷ flow) place =
    if nat_lt place (length packet.bytes) then packet.attrs
    else attrs_at flow (place - length packet.bytes)

-- so many bytes from this place on, with the attributes of the first of them
abbrev pub part_of : Flow → ℕ → ℕ → PlainPacket
part_of flow place size =
    record { attrs = attrs_at flow place; bytes = take size (drop place (joined flow)) }

-- these packets were taken and these put out, and no byte is cut: what isn't put out is held back
abbrev pub of_held : Flow → Flow → Tally
of_held taken put =
    record { taken = length taken; put = length put; dropped = 0; cut = 0; gained = 0; lost = 0 }

-- all bytes that aren't put out are cut
abbrev pub of_cut : Flow → Flow → Tally
of_cut taken put =
    record (of_held taken put) { cut = length (joined taken) - length (joined put) }
