-- What the map holds where a name is found in the run, and where it is missing.
use Rattle.std.proofs.Common.{◌≡◌, ℕ, ◌+◌, ◌<◌, ◌≤◌, List, length, drop, true, false, None, Some, slice_get, is_some, sym, ap, ◌∙◌, arith, length-drop}
use Rattle.std.proofs.lemmas.List.{get_or_default}
use Rattle.std.proofs.lemmas.List.Elements.{All-map}
use Rattle.std.proofs.lemmas.Option.{slice_get-get_or}
use Rattle.std.specs.FinMap as map
use Rattle.std.specs.FinMap.{entries-from_sorted}
use Rattle.std.specs.List.{HoldsAt}
use Rattle.up_model.proofs.AttrLists.{get-there, contains-there, get-missing, remove-missing, len-list}
use Rattle.up_base.specs.Name.{is_name}
use Rattle.up_model.specs.Attrs.{Attrs}
use Rattle.up_model.specs.Value.{IsLegalValue}
use Rattle.up_dict.proofs.InRun.{by_name, no_attr, byte_within, first_here, name_here, value_here}
use Rattle.up_dict.proofs.ReadBack.{first_within}
use Rattle.up_dict.specs.Held.{AreLegal, IsRun, held_in}
use Rattle.up_dict.specs.Places.{HasFirst, StandBefore, IsFoundAt, IsMissingAt}
use Rattle.up_dict.specs.Reading.{attrs_in, first_name, first_size, first_value}
use Rattle.up_dict.specs.Spelling.{Attr}

module _ (run name : List ℕ) (byte : ℕ) (spells : IsRun run) where
  module _ (found : IsFoundAt run name byte) where
    pub found_within : byte ≤ length run
    found_within = byte_within (attrs_in run) run spells found.place byte found.before

    pub found_first : HasFirst (drop byte run)
    found_first = first_here (attrs_in run) run spells found.place byte found.before found.within

    pub found_size : byte + first_size (drop byte run) ≤ length run
    unfolding first_size
    found_size = omega (arith, found_within, first_within (drop byte run) found_first, length-drop byte run)

    pub found_value : map.get (held_in run) name ≡ Some (first_value (drop byte run))
    found_value =
        let here = value_here (attrs_in run) run spells found.place byte found.before found.within in
        let same : HoldsAt (λ attr. attr.1 ≡ first_value (drop byte run)) (attrs_in run) found.place =
        λ d. ap (λ (attr : Attr). attr.1) (get_or_default (attrs_in run) found.place d no_attr found.within) ∙ sym here in
        get-there (attrs_in run) name _ found.place spells.order found.within found.here same

    pub found_there : map.contains_key (held_in run) name ≡ true
    found_there = contains-there (attrs_in run) name found.place spells.order found.within found.here

  module _ (missing : IsMissingAt run name byte) where
    pub missing_within : byte ≤ length run
    missing_within = byte_within (attrs_in run) run spells missing.place byte missing.before

    pub missing_value : map.get (held_in run) name ≡ None
    missing_value = get-missing (attrs_in run) name missing.place spells.order missing.gap

    pub missing_there : map.contains_key (held_in run) name ≡ false
    missing_there = ap is_some missing_value

    pub missing_removed : held_in run ≡ map.remove (held_in run) name
    missing_removed = remove-missing (attrs_in run) name missing.place spells.order missing.gap

pub len_held : (run : List ℕ) → IsRun run → map.len (held_in run) ≡ length (attrs_in run)
len_held run spells = len-list (attrs_in run) spells.order

-- a place of the map is one of the run
pub place_held : (run : List ℕ) → IsRun run → (attrs : Attrs) → held_in run ≡ attrs → (place : ℕ) → place < map.len attrs → place < length (attrs_in run)
place_held run spells attrs is place below = omega (arith, len_held run spells, ap map.len is)

module _ (run : List ℕ) (spells : IsRun run) where
  -- the map has the attributes of the run in their order
  entries_held : map.entries (held_in run) ≡ attrs_in run
  entries_held = entries-from_sorted by_name (attrs_in run) spells.order

  pub held_is_legal : AreLegal (held_in run)
  held_is_legal = record {
    few = omega (arith, len_held run spells, spells.few);
    names = rw entries_held (All-map (λ name. is_name name ≡ true) (λ (attr : Attr). attr.0) (attrs_in run) (λ k d below. (spells.legal k d below).0));
    values = rw entries_held (All-map IsLegalValue (λ (attr : Attr). attr.1) (attrs_in run) (λ k d below. (spells.legal k d below).1));
  }

  pub held_at : (place byte : ℕ) (before : StandBefore (attrs_in run) place byte) → place < length (attrs_in run)
      → slice_get (map.entries (held_in run)) place ≡ Some (first_name (drop byte run), first_value (drop byte run))
  held_at place byte before within =
      let name = name_here (attrs_in run) run spells place byte before within in
      let value = value_here (attrs_in run) run spells place byte before within in
      rw (entries_held, name, value) (slice_get-get_or (attrs_in run) place no_attr within)
