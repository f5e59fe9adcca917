-- Worked examples of `genaux`, computed.
use Rattle.std.proofs.Common.{◌≡◌, ◌∷◌, [], List, ℕ, ◌-◌, ◌^◌, None, true, refl, ap}
use Rattle.std.specs.Prelude.{codes, replicate, option_and_then}
use Rattle.std.specs.FinMap.{get-from_sorted}
use Rattle.std.specs.FinMap.Entries.{find}
use Rattle.up_model.proofs.AttrLists.{Attr, HasOrder, by_name, attrs_of}
use Rattle.up_model.specs.Dates.{date_name}
use Rattle.up_model.specs.GenAux.{with_number, genaux_step, genaux_meaning}
use Rattle.up_model.specs.Packet.{Flow, PlainPacket}
use Rattle.up_model.specs.Value.{unsigned_of}
use Rattle.up_model.specs.declared.date_kind.DateKind.TheVariants.{Sys}
use Rattle.up_model.specs.declared.opt.Opt.{Opt}
use Rattle.up_model.specs.declared.value.Value.TheVariants.{Void, Flag, Unsigned, Words, Opaque}
use Rattle.up_model.specs.declared.verdict.Verdict.TheVariants.{Passes, Drops}

abbrev with : List Attr → List ℕ → PlainPacket
with list bytes = record { attrs = attrs_of list; bytes = bytes }

abbrev sys : ℕ → Attr
sys date = (codes "date.sys", Unsigned date)

-- a map is read by its laws: what stands under the name in a list in order is computed
by_list : (attr : List ℕ) (list : List Attr) (bytes : List ℕ) → HasOrder list
    → genaux_step attr (with list bytes)
    ≡ with_number (with list bytes) (option_and_then unsigned_of (find by_name attr list))
by_list attr list bytes order =
    ap (λ found. with_number (with list bytes) (option_and_then unsigned_of found)) (get-from_sorted by_name list attr order)

-- 258 as eight bytes in place of two, and the attribute stays
pub eight_for_two : genaux_step (date_name Sys) (with (sys 258 ∷ []) (codes "ab"))
    ≡ Passes (with (sys 258 ∷ []) (0 ∷ 0 ∷ 0 ∷ 0 ∷ 0 ∷ 0 ∷ 1 ∷ 2 ∷ [])) 0
eight_for_two = by_list (date_name Sys) (sys 258 ∷ []) (codes "ab") tt

-- the least and the greatest number; an empty packet has its eight bytes too
pub least : genaux_step (date_name Sys) (with (sys 0 ∷ []) []) ≡ Passes (with (sys 0 ∷ []) (replicate 8 0)) 0
least = by_list (date_name Sys) (sys 0 ∷ []) [] tt

pub greatest : genaux_step (date_name Sys) (with (sys (2 ^ 64 - 1) ∷ []) (codes "abcdefghijk"))
    ≡ Passes (with (sys (2 ^ 64 - 1) ∷ []) (replicate 8 255)) 0
greatest = by_list (date_name Sys) (sys (2 ^ 64 - 1) ∷ []) (codes "abcdefghijk") tt

-- without the attribute, or with no number under its name, a packet is dropped
pub missing : genaux_step (date_name Sys) (with [] (codes "ab")) ≡ Drops
missing = by_list (date_name Sys) [] (codes "ab") tt

pub other_name : genaux_step (codes "date.Sys") (with (sys 258 ∷ []) (codes "ab")) ≡ Drops
other_name = by_list (codes "date.Sys") (sys 258 ∷ []) (codes "ab") tt

pub other_types :
    (genaux_step (codes "key") (with ((codes "key", Void) ∷ []) (codes "ab")) ≡ Drops)
    × (genaux_step (codes "key") (with ((codes "key", Flag true) ∷ []) (codes "ab")) ≡ Drops)
    × (genaux_step (codes "key") (with ((codes "key", Words (codes "258")) ∷ []) (codes "ab")) ≡ Drops)
    × (genaux_step (codes "key") (with ((codes "key", Opaque (replicate 8 0)) ∷ []) (codes "ab")) ≡ Drops)
other_types = (
  by_list (codes "key") ((codes "key", Void) ∷ []) (codes "ab") tt,
  by_list (codes "key") ((codes "key", Flag true) ∷ []) (codes "ab") tt,
  by_list (codes "key") ((codes "key", Words (codes "258")) ∷ []) (codes "ab") tt,
  by_list (codes "key") ((codes "key", Opaque (replicate 8 0)) ∷ []) (codes "ab") tt,
)

-- the bytes of the dropped packet alone are cut, though the other grew
abbrev taken : Flow
taken = with (sys 258 ∷ []) (codes "ab") ∷ with [] (codes "cde") ∷ []

pub tally : (genaux_meaning (date_name Sys)).tally taken
    ≡ record { taken = 2; put = 1; dropped = 1; cut = 3; gained = 0; lost = 0 }
tally = rw (by_list (date_name Sys) (sys 258 ∷ []) (codes "ab") tt, by_list (date_name Sys) [] (codes "cde") tt) refl

-- nothing is held back
pub settled : (flow : Flow) → (genaux_meaning (date_name Sys)).settled flow ≡ (genaux_meaning (date_name Sys)).output flow
settled flow = refl

-- it has no option
pub no_option : (attr : List ℕ) (option : Opt) → (genaux_meaning attr).setting option ≡ None
no_option attr option = refl
