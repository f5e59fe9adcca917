-- What a function that looks at bytes says of their front.
use Rattle.std.specs.Prelude.{◌≡◌, ℕ, ◌≤◌, List, [], ◌++◌, length, Result, Ok, Err}
use Rattle.std.specs.Borrow.{Bor}
use Rattle.std.specs.FinMap.{from_sorted}
use Rattle.up_base.specs.Number.{AreBytes}
use Rattle.up_frame.specs.declared.frame_parts.FrameParts.{FrameParts}
use Rattle.up_model.specs.FrameFronts.{Front, attributes_at}
use Rattle.up_model.specs.FrameSpelling.{frame_of}
use Rattle.up_model.specs.Packet.{IsLegal}
use Rattle.up_model.specs.declared.frame_layout.NotWhole.{NotWhole}
use Rattle.up_model.specs.declared.limits.TheConstants.{MAX_ATTRS, MAX_PACKET}
use Rattle.up_model.specs.declared.plain_packet.PlainPacket.{PlainPacket}
use Rattle.up_model.specs.declared.value.Value.{Value}

-- the answer tells what is behind the front, or why nothing whole stands there
abbrev pub Ends : {X A : Type 0} → (X → List ℕ) → Result X NotWhole → Front A → Type 0
Ends {A = A} rest (Ok x) front = (whole : A) × (front ≡ Ok (whole, rest x))
Ends rest (Err refused) front = front ≡ Err refused

-- the bytes are the frame of a legal packet, and the rest
pub record BeginsWithFrame (bytes rest : List ℕ) : Type 0 where
  pub packet : PlainPacket
  pub legal : IsLegal packet
  pub is : bytes ≡ frame_of packet ++ rest

-- the attributes of these parts are read as the list
abbrev pub ReadsAs : FrameParts → List (List ℕ × Value) → List ℕ → Type 0
ReadsAs parts list behind = attributes_at parts.count [] parts.attrs.now ≡ Ok (list, behind)

-- the parts are those of a frame, and the packet that they are
pub record AreParts (parts : FrameParts) : Type 0 where
  pub list : List (List ℕ × Value)
  pub behind : List ℕ
  pub few : parts.count ≤ MAX_ATTRS
  pub small : length parts.content.now ≤ MAX_PACKET
  pub below : AreBytes parts.attrs.now
  pub read : ReadsAs parts list behind

-- the packet of these attributes in their order, with the bytes of the parts
abbrev pub packet_with : FrameParts → List (List ℕ × Value) → PlainPacket
packet_with parts list = record { attrs = from_sorted list; bytes = parts.content.now }

-- the packet at the front is that of the parts, with this rest behind, or the refusal is that of the front
abbrev pub Parted : Result (FrameParts × Bor (List ℕ)) NotWhole → Front PlainPacket → Type 0
Parted (Ok (parts, rest)) front =
    (are : AreParts parts) × (front ≡ Ok (packet_with parts are.list, rest.now))
Parted (Err refused) front = front ≡ Err refused
