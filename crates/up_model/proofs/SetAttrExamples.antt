-- Worked examples of `setattr`, computed.
use Rattle.std.proofs.Common.{◌≡◌, ◌∷◌, [], List, ℕ, ◌+◌, ◌-◌, ◌/◌, ◌%◌, ◌^◌, None, map, length, replicate, true, if◌then◌else◌, refl, ap, ap₂, sym, ◌∙◌, arith}
use Rattle.std.specs.Prelude.{codes, nat_le}
use Rattle.std.specs.List.{range_with_len}
use Rattle.std.specs.FinMap.{len}
use Rattle.std.specs.FinMap.Entries.{put}
use Rattle.up_model.proofs.AttrLists.{Attr, HasOrder, StandsFor, by_name, attrs_of, is_put, len-list}
use Rattle.up_model.specs.Attrs.{Attrs}
use Rattle.up_model.specs.Kinds.{IsWithinBounds, setting_of, settled_work, work_of}
use Rattle.up_model.specs.Packet.{Flow, PlainPacket}
use Rattle.up_model.specs.Packetwise.{sums_of}
use Rattle.up_model.specs.SetAttr.{setattr_step}
use Rattle.up_model.specs.Tallies.{nothing, plus}
use Rattle.up_model.specs.declared.kind.Kind.TheVariants.{SetAttr}
use Rattle.up_model.specs.declared.opt.Opt.{Opt}
use Rattle.up_model.specs.declared.value.Value.{Value}
use Rattle.up_model.specs.declared.value.Value.TheVariants.{Void, Flag, Unsigned, Words, Opaque}
use Rattle.up_model.specs.declared.verdict.Verdict.{Verdict}
use Rattle.up_model.specs.declared.verdict.Verdict.TheVariants.{Passes, Drops}

-- the packet `ab` with these attributes
abbrev with : List Attr → PlainPacket
with list = record { attrs = attrs_of list; bytes = codes "ab" }

-- it passes if there are at most 64
abbrev if_few : ℕ → Attrs → Verdict PlainPacket
if_few count attrs = if nat_le count 64 then Passes (record { attrs = attrs; bytes = codes "ab" }) 0 else Drops

-- a map is changed by its laws: the list that an attribute is put into is computed
set_in : (list : List Attr) (name : List ℕ) (value : Value) → HasOrder list
    → setattr_step name value (with list) ≡ if_few (length (put by_name name value list)) (attrs_of (put by_name name value list))
set_in list name value order =
    let new = put by_name name value list in
    let stands : StandsFor new _ = is_put list new name value order refl in
    ap (λ (attrs : Attrs). if_few (len attrs) attrs) (sym stands.is) ∙ ap (λ count. if_few count (attrs_of new)) (len-list new stands.order)

abbrev key : Attr
key = (codes "key", Flag true)

abbrev rate : Attr
rate = (codes "rate", Unsigned 7)

-- a packet without attributes gets its first
pub first_one : setattr_step (codes "key") (Flag true) (with []) ≡ Passes (with (key ∷ [])) 0
first_one = set_in _ _ _ tt

-- a new one stands at the place of its name, whatever its type
pub between : setattr_step (codes "mark") Void (with (key ∷ rate ∷ [])) ≡ Passes (with (key ∷ (codes "mark", Void) ∷ rate ∷ [])) 0
between = set_in _ _ _ tt

-- a text takes the place of a number
pub replaced : setattr_step (codes "rate") (Words (codes "high")) (with (key ∷ rate ∷ []))
    ≡ Passes (with (key ∷ (codes "rate", Words (codes "high")) ∷ [])) 0
replaced = set_in _ _ _ tt

-- `Key` is another name than `key`
pub other_case : setattr_step (codes "Key") (Unsigned 0) (with (key ∷ [])) ≡ Passes (with ((codes "Key", Unsigned 0) ∷ key ∷ [])) 0
other_case = set_in _ _ _ tt

-- `aa` to `ah`, `ba` and so on up to `hh`: 64 names of two letters
abbrev two_letters : ℕ → List ℕ
two_letters place = (97 + place / 8) ∷ (97 + place % 8) ∷ []

abbrev numbered : ℕ → Attr
numbered place = (two_letters place, Unsigned place)

abbrev sixty_three : List Attr
sixty_three = map numbered (range_with_len 0 63)

abbrev sixty_four : List Attr
sixty_four = map numbered (range_with_len 0 64)

-- with a 64th attribute the packet passes
pub sixty_fourth : setattr_step (codes "hh") (Unsigned 63) (with sixty_three) ≡ Passes (with sixty_four) 0
sixty_fourth = set_in sixty_three _ _ tt

-- with a 65th it is dropped
pub sixty_fifth : setattr_step (codes "x") (Unsigned 7) (with sixty_four) ≡ Drops
sixty_fifth = set_in sixty_four _ _ tt

-- one of the 64 is replaced: `hh` is the last
pub one_of_64 : setattr_step (codes "hh") Void (with sixty_four) ≡ Passes (with (put by_name (codes "hh") Void sixty_three)) 0
one_of_64 = set_in sixty_four _ _ tt

-- the two bytes of a packet that is dropped are cut
pub tally : (work_of (SetAttr (codes "x") Void) (with sixty_four ∷ with [] ∷ [])).tally
    ≡ record { taken = 2; put = 1; dropped = 1; cut = 2; gained = 0; lost = 0 }
tally = ap₂ (λ full bare. plus (sums_of (with sixty_four) full) (plus (sums_of (with []) bare) nothing)) (set_in sixty_four _ _ tt) (set_in [] _ _ tt)

-- the work before the end is the same: nothing is held back
pub settled : (value : Value) (taken : Flow) → settled_work (SetAttr (codes "key") value) taken ≡ work_of (SetAttr (codes "key") value) taken
settled value taken = refl

-- it has no option
pub no_option : (attr : List ℕ) (value : Value) (option : Opt) → setting_of (SetAttr attr value) option ≡ None
no_option attr value option = refl

-- the greatest number and the greatest value are within the bounds, the next are not
pub greatest_number : IsWithinBounds (SetAttr (codes "x") (Unsigned (2 ^ 64 - 1))) × (IsWithinBounds (SetAttr (codes "x") (Unsigned (2 ^ 64))) → ⊥)
greatest_number = ((refl, omega arith), λ within. omega (arith, within.1))

pub greatest_value : IsWithinBounds (SetAttr (codes "x") (Opaque (replicate 4096 0))) × (IsWithinBounds (SetAttr (codes "x") (Opaque (replicate 4097 0))) → ⊥)
greatest_value = ((refl, omega arith), λ within. omega (arith, within.1))

-- an attribute has a name
pub no_name : IsWithinBounds (SetAttr [] Void) → ⊥
no_name within = absurd (cc)
