-- A list of files as a map from paths to bytes: of a path that stands twice the first file counts.
use Rattle.std.proofs.Common.{◌≡◌, ◌≢◌, ℕ, zero, suc, ◌<◌, List, [], ◌∷◌, length, get_or, Bool, true, false, cond, Option, Some, None, slice_get, slice_set, refl, sym, ap, ◌∙◌, arith, ltb, ◌≤◌, inl, inr}
use Rattle.std.proofs.lemmas.Bool.{cases_Bool, cases_lt, lt-ltb}
use Rattle.std.specs.Prelude.{position}
use Rattle.std.specs.List.{position_or_len}
use Rattle.std.specs.Str.{bytes_eq}
use Rattle.std.specs.Ordering.{nat_cmp, eq_by_cmp}
use Rattle.std.specs.Cmp.{eq_by_cmp_equiv}
use Rattle.std.specs.Cmp.Lexicographic.{slice_cmp, nat_list_cmp_total}
use Rattle.std.specs.FinMap.{get, insert, from_entries, get-from_entries, get-insert, same_map, slice_cmp-IsAntisymmetric, nat_cmp-IsAntisymmetric}
use Rattle.std.specs.FinMap.Entries.{find}
use Rattle.std.proofs.lemmas.Map.Text.{is_eq-slice_cmp}
use Rattle.std.proofs.lemmas.Slice.Eq.{bytes_eq-Decides}
use Rattle.std.proofs.lemmas.List.Quantifiers.{position-Some}
use Rattle.std.proofs.lemmas.Option.{slice_get-get_or}
use Rattle.up_outside.specs.Held.{Held}
use Rattle.up_outside.specs.Memory.HeldFiles.{File}

-- the list as a map
abbrev pub held : List File → Held
held files = from_entries files

-- whether the paths are the same, as the map's order has it
abbrev pub same : List ℕ → List ℕ → Bool
same q path = eq_by_cmp (slice_cmp nat_cmp) q path

-- the bytes of the first file with the path
abbrev pub found : List ℕ → List File → Option (List ℕ)
found q files = find (slice_cmp nat_cmp) q files

pub same-true : (q path : List ℕ) → same q path ≡ true → q ≡ path
same-true q path is = (bytes_eq-Decides q path).0 (sym (is_eq-slice_cmp q path) ∙ is)

bytes_eq-sym : (a b : List ℕ) → bytes_eq a b ≡ bytes_eq b a
bytes_eq-sym a b = sym (is_eq-slice_cmp a b) ∙ (eq_by_cmp_equiv nat_list_cmp_total).symm a b ∙ is_eq-slice_cmp b a

pub same-refl : (path : List ℕ) → same path path ≡ true
same-refl path = is_eq-slice_cmp path path ∙ (bytes_eq-Decides path path).1 refl

pub same-false : (q path : List ℕ) → q ≢ path → same q path ≡ false
same-false q path differs = by_test (same q path) (λ is. differs (same-true q path is))
  where
    by_test : (b : Bool) → (b ≡ true → ⊥) → b ≡ false
    by_test true never = absurd (never refl)
    by_test false never = refl

-- the file at the place has the path, and none before it does
pub record IsFirst (files : List File) (path : List ℕ) (at : ℕ) (file : File) : Type 0 where
  pub there : slice_get files at ≡ Some file
  pub here : file.0 ≡ path
  pub before : (k : ℕ) → k < at → (get_or files k file).0 ≢ path

first_is : (f file : File) (path : List ℕ) → Some f ≡ Some file → file.0 ≡ path → (f ≡ file) × (f.0 ≡ path)
first_is f file path is here = let e : f ≡ file = cc in (e, ap (λ (x : File). x.0) e ∙ here)

-- one file further on
later : (f : File) (files : List File) (path : List ℕ) (at : ℕ) (file : File)
    → IsFirst (f ∷ files) path (suc at) file → (f.0 ≢ path) × IsFirst files path at file
later f files path at file first =
    (first.before 0 (omega arith), record { there = first.there; here = first.here; before = λ k below. first.before (suc k) (omega arith) })

cond_same : {X : Type 0} (b : Bool) (x y z : X) → cond b x z ≡ cond b x (cond b y z)
cond_same true x y z = refl
cond_same false x y z = refl

-- of two tests that don't both pass either may come first
cond_swap : {X : Type 0} (a b : Bool) (x y z : X) → (a ≡ true → b ≡ false) → cond a x (cond b y z) ≡ cond b y (cond a x z)
cond_swap true true x y z apart = absurd (let e : true ≡ false = apart refl in cc)
cond_swap true false x y z apart = refl
cond_swap false b x y z apart = refl

-- the first file with the path is the one that is found
found_first : (files : List File) (path : List ℕ) (at : ℕ) (file : File) → IsFirst files path at file → found path files ≡ Some file.1
found_first [] path at file first = absurd (let e : None ≡ Some file = first.there in cc)
found_first (f ∷ files) path zero file first =
    let is = first_is f file path first.there first.here in
    ap (λ p. cond (same path p) (Some f.1) (found path files)) is.1
    ∙ ap (λ b. cond b (Some f.1) (found path files)) (same-refl path)
    ∙ ap (λ (x : File). Some x.1) is.0
found_first (f ∷ files) path (suc at) file first =
    let rest = later f files path at file first in
    ap (λ b. cond b (Some f.1) (found path files)) (same-false path f.0 (λ e. rest.0 (sym e)))
    ∙ found_first files path at file rest.1

-- with other bytes in the first file with the path, that path alone is found otherwise
found_put : (files : List File) (path : List ℕ) (at : ℕ) (file : File) (bytes q : List ℕ) → IsFirst files path at file
    → found q (slice_set files at (file.0, bytes)) ≡ cond (same q path) (Some bytes) (found q files)
found_put [] path at file bytes q first = absurd (let e : None ≡ Some file = first.there in cc)
found_put (f ∷ files) path zero file bytes q first =
    let is = first_is f file path first.there first.here in
    ap (λ p. cond (same q p) (Some bytes) (found q files)) first.here
    ∙ cond_same (same q path) (Some bytes) (Some f.1) (found q files)
    ∙ ap (λ p. cond (same q path) (Some bytes) (cond (same q p) (Some f.1) (found q files))) (sym is.1)
found_put (f ∷ files) path (suc at) file bytes q first =
    let rest = later f files path at file first in
    ap (cond (same q f.0) (Some f.1)) (found_put files path at file bytes q rest.1)
    ∙ cond_swap (same q f.0) (same q path) (Some f.1) (Some bytes) (found q files)
    (λ is. same-false q path (λ e. rest.0 (sym (same-true q f.0 is) ∙ e)))

-- the place that a search for the path gives
pub is_first : (files : List File) (path : List ℕ) (at : ℕ) (file : File)
    → position (λ f. bytes_eq f.0 path) files ≡ Some at → slice_get files at ≡ Some file → IsFirst files path at file
is_first files path at file place there =
    let is = position-Some (λ f. bytes_eq f.0 path) files at file place in
    let here : get_or files at file ≡ file = let e = slice_get-get_or files at file is.0 in cc in
    record {
      there = there;
      here = (bytes_eq-Decides file.0 path).0 (rw (← here) is.1);
      before = λ k below e. let fails = is.2 k below in let passes = (bytes_eq-Decides (get_or files k file).0 path).1 e in absurd (let no : true ≡ false = sym passes ∙ fails in cc);
    }

-- the file at the place that a search for the path gives
file_at : (files : List File) (path : List ℕ) (at : ℕ) → position (λ f. bytes_eq f.0 path) files ≡ Some at
    → (file : File) × (slice_get files at ≡ Some file) × IsFirst files path at file
file_at files path at place =
    let is = position-Some (λ f. bytes_eq f.0 path) files at ([], []) place in
    let file = get_or files at ([], []) in
    let there : slice_get files at ≡ Some file = slice_get-get_or files at ([], []) is.0 in
    (file, there, is_first files path at file place there)

-- the path is held, with the bytes of the file at its place
pub held-at : (files : List File) (path : List ℕ) (at : ℕ) (bytes : List ℕ)
    → position (λ f. bytes_eq f.0 path) files ≡ Some at → ((file : File) → slice_get files at ≡ Some file → bytes ≡ file.1)
    → get (held files) path ≡ Some bytes
held-at files path at bytes place is =
    let found_there = file_at files path at place in
    get-from_entries nat_list_cmp_total files path
    ∙ found_first files path at found_there.0 found_there.2
    ∙ ap Some (sym (is found_there.0 found_there.1))

-- a path that a search doesn't find isn't held
pub held-not : (files : List File) (path : List ℕ) → position (λ f. bytes_eq f.0 path) files ≡ None → get (held files) path ≡ None
held-not files path none =
    get-from_entries nat_list_cmp_total files path ∙ not_found files (past _ _ none)
  where
    past : (n len : ℕ) → cond (ltb n len) (Some n) None ≡ None → len ≤ n
    past n len none =
        elim (cases_lt n len) [
          | inl within ↦ absurd (let some : Some n ≡ None = rw (lt-ltb n len within) at none in cc)
          | inr beyond ↦ beyond
        ]

    not_found : (files : List File) → length files ≤ position_or_len (λ f. bytes_eq f.0 path) files → found path files ≡ None
    not_found [] beyond = refl
    not_found (f ∷ files) beyond =
        elim (cases_Bool (bytes_eq f.0 path)) [
          | inl passes ↦ absurd (omega (arith, simp passes at beyond))
          | inr fails ↦
              ap (λ b. cond b (Some f.1) (found path files)) (is_eq-slice_cmp path f.0 ∙ bytes_eq-sym path f.0 ∙ fails)
              ∙ not_found files (omega (arith, simp fails at beyond))
        ]

-- other bytes in the file at the path's place are other bytes at the path
pub held-put : (files new : List File) (path : List ℕ) (at : ℕ) (bytes : List ℕ)
    → position (λ f. bytes_eq f.0 path) files ≡ Some at
    → ((file : File) → slice_get files at ≡ Some file → new ≡ slice_set files at (file.0, bytes))
    → held new ≡ insert (held files) path bytes
held-put files new path at bytes place is =
    let found_there = file_at files path at place in
    let file = found_there.0 in
    ap held (is file found_there.1)
    ∙ same_map nat_list_cmp_total (slice_cmp-IsAntisymmetric nat_cmp-IsAntisymmetric) _ _
    (λ q. get-from_entries nat_list_cmp_total (slice_set files at (file.0, bytes)) q
    ∙ found_put files path at file bytes q found_there.2
    ∙ ap (cond (same q path) (Some bytes)) (sym (get-from_entries nat_list_cmp_total files q))
    ∙ sym (get-insert nat_list_cmp_total (held files) path bytes q))
