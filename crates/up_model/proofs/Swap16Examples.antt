-- Worked examples of `swap16`, computed.
use Rattle.std.proofs.Common.{◌≡◌, [], ◌∷◌, None, map, refl}
use Rattle.std.specs.Prelude.{codes}
use Rattle.up_model.specs.Attrs.{Attrs}
use Rattle.up_model.specs.Packet.{Flow, plain}
use Rattle.up_model.specs.Swap16.{swapped, swap16_step, swap16_meaning}
use Rattle.up_model.specs.declared.opt.Opt.{Opt}
use Rattle.up_model.specs.declared.verdict.Verdict.TheVariants.{Passes}

-- an odd last byte stays
pub five_bytes : swapped (codes "abcde") ≡ codes "badce"
five_bytes = refl

pub four_bytes : swapped (codes "abcd") ≡ codes "badc"
four_bytes = refl

pub one_byte : swapped (codes "a") ≡ codes "a"
one_byte = refl

pub no_byte : swapped [] ≡ []
no_byte = refl

-- no pair reaches from a packet into the next, and an empty packet goes on
abbrev taken : Flow
taken = map plain (codes "abc" ∷ [] ∷ codes "de" ∷ [])

pub each_by_itself : swap16_meaning.output taken ≡ map plain (codes "bac" ∷ [] ∷ codes "ed" ∷ [])
each_by_itself = refl

pub tally : swap16_meaning.tally taken ≡ record { taken = 3; put = 3; dropped = 0; cut = 0; gained = 0; lost = 0 }
tally = refl

-- nothing is held back
pub settled : (flow : Flow) → swap16_meaning.settled flow ≡ swap16_meaning.output flow
settled flow = refl

-- the attributes stay
pub attrs_stay : (attrs : Attrs)
    → swap16_step (record { attrs = attrs; bytes = codes "ab" }) ≡ Passes (record { attrs = attrs; bytes = codes "ba" }) 0
attrs_stay attrs = refl

-- it has no option
pub no_option : (option : Opt) → swap16_meaning.setting option ≡ None
no_option option = refl
