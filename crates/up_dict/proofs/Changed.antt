-- What an edit of a run spells, and the map that it then holds.
use Rattle.std.proofs.Common.{◌≡◌, ℕ, suc, ◌+◌, ◌<◌, ◌≤◌, List, [], ◌∷◌, ◌++◌, length, take, drop, set, All, true, refl, sym, ap, ◌∙◌, arith, append_assoc, length-set, add-one, add-zero}
use Rattle.std.proofs.lemmas.Grind.{flat_map-append}
use Rattle.std.proofs.lemmas.List.{set_split}
use Rattle.std.proofs.lemmas.List.Edits.{length-insert, length-remove}
use Rattle.std.proofs.lemmas.List.Elements.{All-append, All-cons, All-drop, All-set, All-take}
use Rattle.std.proofs.lemmas.Map.Lookups.{exact_bytes}
use Rattle.std.specs.FinMap as map
use Rattle.std.specs.List.{insert, remove, HoldsAt}
use Rattle.up_base.specs.Name.{is_name}
use Rattle.up_model.proofs.AttrLists.{StandsFor, attrs_of, set-there, set-missing, remove-there}
use Rattle.up_model.specs.Value.{IsLegalValue}
use Rattle.up_model.specs.declared.limits.TheConstants.{MAX_ATTRS}
use Rattle.up_model.specs.declared.value.Value.{Value}
use Rattle.up_dict.proofs.InRun.{by_name, front_is, back_is, one_further}
use Rattle.up_dict.proofs.ReadBack.{is_run, spells_one}
use Rattle.up_dict.specs.Edits.{replaced}
use Rattle.up_dict.specs.Held.{Spells, IsRun, held_in}
use Rattle.up_dict.specs.Places.{StandBefore, IsFoundAt, IsMissingAt}
use Rattle.up_dict.specs.Reading.{attrs_in, first_size}
use Rattle.up_dict.specs.Spelling.{Attr, IsLegalAttr, attr_bytes, spelled}

-- the run is one, and holds the map
pub record Holds (run : List ℕ) (attrs : map.FinMap by_name Value) : Type 0 where
  pub is_run : IsRun run
  pub held : held_in run ≡ attrs

-- a run that spells a list holds what the list stands for
holds : (attrs : List Attr) (run : List ℕ) (held : map.FinMap by_name Value)
    → spelled attrs ≡ run → All IsLegalAttr attrs → length attrs ≤ MAX_ATTRS → StandsFor attrs held → Holds run held
holds attrs run held bytes legal few stands =
    let spells : Spells attrs run = record { bytes = bytes; order = stands.order; legal = legal; few = few } in
    record {
      is_run = is_run attrs run spells;
      held = ap attrs_of (spells_one attrs run spells) ∙ stands.is;
    }

module _ (attrs : List Attr) (run : List ℕ) (spells : Spells attrs run) (place byte : ℕ) (before : StandBefore attrs place byte) where
  -- what is spelled before and from a place on
  in_two : (front back : List Attr) (bytes : List ℕ) (to : ℕ) → take place attrs ≡ front → drop to run ≡ spelled back
      → spelled front ++ (bytes ++ spelled back) ≡ (take byte run ++ bytes) ++ drop to run
  in_two front back bytes to is behind =
      let before_is : take byte run ≡ spelled front = front_is attrs run spells place byte before ∙ ap spelled is in
      rw (before_is, behind) (sym (append_assoc (spelled front) bytes (spelled back)))

  -- behind the attribute at the place
  behind : place < length attrs → drop (byte + first_size (drop byte run)) run ≡ spelled (drop (suc place) attrs)
  behind within =
      back_is attrs run spells (place + 1) (byte + first_size (drop byte run)) (one_further attrs run spells place byte before within)
      ∙ ap (λ next. spelled (drop next attrs)) (add-one place)

  here : drop (byte + 0) run ≡ spelled (drop place attrs)
  here = ap (λ from. drop from run) (add-zero byte) ∙ back_is attrs run spells place byte before

  module _ (within : place < length attrs) where
    set_spelled : (attr : Attr) → spelled (set attrs place attr) ≡ replaced run byte (first_size (drop byte run)) (attr_bytes attr)
    set_spelled attr =
        ap spelled (set_split attrs place attr within)
        ∙ flat_map-append attr_bytes (take place attrs) (attr ∷ drop (suc place) attrs)
        ∙ in_two (take place attrs) (drop (suc place) attrs) (attr_bytes attr) _ refl (behind within)

    remove_spelled : spelled (remove attrs place) ≡ replaced run byte (first_size (drop byte run)) []
    remove_spelled =
        flat_map-append attr_bytes (take place attrs) (drop (suc place) attrs)
        ∙ in_two (take place attrs) (drop (suc place) attrs) [] _ refl (behind within)

  insert_spelled : (attr : Attr) → spelled (insert attrs place attr) ≡ replaced run byte 0 (attr_bytes attr)
  insert_spelled attr =
      flat_map-append attr_bytes (take place attrs) (attr ∷ drop place attrs)
      ∙ in_two (take place attrs) (drop place attrs) (attr_bytes attr) _ refl here

module _ (run name : List ℕ) (byte : ℕ) (spells : IsRun run) where
  pub replaces : (value : Value) → IsFoundAt run name byte → is_name name ≡ true → IsLegalValue value
      → Holds (replaced run byte (first_size (drop byte run)) (attr_bytes (name, value))) (map.insert (held_in run) name value)
  replaces value found named legal =
      let list = attrs_in run in
      let attr : Attr = (name, value) in
      let same : HoldsAt (λ (old : Attr). set list found.place attr ≡ set list found.place (old.0, value)) list found.place =
      λ d. ap (λ n. set list found.place (n, value)) (sym (exact_bytes _ _ (found.here d))) in
      holds (set list found.place attr) _ _
      (set_spelled list run spells found.place byte found.before found.within attr)
      (All-set IsLegalAttr list found.place attr (named, legal) spells.legal)
      (omega (arith, length-set list found.place attr, spells.few))
      (set-there list (set list found.place attr) name value found.place spells.order found.within found.here same)

  pub removes : IsFoundAt run name byte
      → Holds (replaced run byte (first_size (drop byte run)) []) (map.remove (held_in run) name)
  removes found =
      let list = attrs_in run in
      holds (remove list found.place) _ _
      (remove_spelled list run spells found.place byte found.before found.within)
      (All-append IsLegalAttr _ _ (All-take IsLegalAttr found.place list spells.legal) (All-drop IsLegalAttr (suc found.place) list spells.legal))
      (omega (arith, length-remove list found.place found.within, spells.few))
      (remove-there list (remove list found.place) name found.place spells.order found.within found.here refl)

  pub inserts : (value : Value) → IsMissingAt run name byte → is_name name ≡ true → IsLegalValue value → length (attrs_in run) < MAX_ATTRS
      → Holds (replaced run byte 0 (attr_bytes (name, value))) (map.insert (held_in run) name value)
  inserts value missing named legal room =
      let list = attrs_in run in
      let attr : Attr = (name, value) in
      let rest = All-cons IsLegalAttr attr (drop missing.place list) (named, legal) (All-drop IsLegalAttr missing.place list spells.legal) in
      holds (insert list missing.place attr) _ _
      (insert_spelled list run spells missing.place byte missing.before attr)
      (All-append IsLegalAttr _ _ (All-take IsLegalAttr missing.place list spells.legal) rest)
      (omega (arith, length-insert list missing.place attr missing.before.within, room))
      (set-missing list (insert list missing.place attr) name value missing.place spells.order missing.before.within missing.gap refl)
