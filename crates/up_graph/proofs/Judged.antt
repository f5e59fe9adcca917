-- What a reader of fields tells, beside the test of its wrong fields.
use Rattle.std.proofs.Common.{◌≡◌, ℕ, Bool, true, false, List, [], ◌∷◌, Less, Equal, Greater, Ordering, Option, Some, None, Ok, Err, refl, sym, ap, ◌∙◌}
use Rattle.std.specs.Prelude.{◌||◌, ◌&&◌, not, if◌then◌else◌}
use Rattle.std.specs.Cmp.Lexicographic.{slice_cmp}
use Rattle.std.specs.Ordering.{match_ordering, nat_cmp, ordering_reverse}
use Rattle.std.specs.Option.{is_some}
use Rattle.std.specs.Str.{bytes_eq}
use Rattle.std.proofs.lemmas.Bool.{and_parts}
use Rattle.std.proofs.lemmas.Cmp.{nat_list_cmp_total, tied_itself}
use Rattle.std.proofs.lemmas.Slice.Eq.{bytes_eq-Decides}
use Rattle.toml.specs.Data.{Members, get_member}
use Rattle.up_graph.specs.Field.{Field, Rule, both, each_known, field_map, given, is_among, is_known, or_wrong}
use Rattle.up_graph.specs.KindRows.{test_of}
use Rattle.up_graph.specs.LeastWrong.{IsBefore, IsLeast, is_refused}

-- nothing is wrong where there is a value, and else the least
abbrev pub Judges : {A : Type 0} → Field A → (List ℕ → Bool) → Type 0
Judges (Ok value) wrong = (key : List ℕ) → wrong key ≡ true → ⊥
Judges (Err told) wrong = IsLeast wrong told

-- the two names in the other order
turned : (a b : List ℕ) (o : Ordering) → slice_cmp nat_cmp a b ≡ o → slice_cmp nat_cmp b a ≡ ordering_reverse o
turned a b o is = nat_list_cmp_total.antisymm b a ∙ ap ordering_reverse is

not_before_itself : (key : List ℕ) → IsBefore key key → ⊥
not_before_itself key before = let same : slice_cmp nat_cmp key key ≡ Equal = tied_itself nat_list_cmp_total key in absurd cc

-- before a name that isn't after another is before that, too
before_equal : (a b c : List ℕ) → IsBefore a b → slice_cmp nat_cmp c b ≡ Equal → IsBefore a c
before_equal a b c before tied =
    let after : slice_cmp nat_cmp b a ≡ Greater = turned a b Less before in
    turned c a Greater (nat_list_cmp_total.congr c b a tied ∙ after)

or_left : (a b : Bool) → a ≡ true → (a || b) ≡ true
or_left true b is = refl
or_left false b is = absurd cc

or_right : (a b : Bool) → b ≡ true → (a || b) ≡ true
or_right true b is = refl
or_right false b is = is

or_cases : (a b : Bool) (C : Type 0) → (a || b) ≡ true → (a ≡ true → C) → (b ≡ true → C) → C
or_cases true b C is left right = left refl
or_cases false b C is left right = right is

least_of_two : (V W : List ℕ → Bool) (first second : List ℕ) (o : Ordering) → slice_cmp nat_cmp second first ≡ o → IsLeast V first → IsLeast W second
    → IsLeast (λ key. V key || W key) (match_ordering o second first first)
least_of_two V W first second Less is of_first of_second = record {
  wrong_itself = or_right (V second) (W second) of_second.wrong_itself;
  least = λ other wrong before. or_cases (V other) (W other) ⊥ wrong
      (λ in_first. of_first.least other in_first (nat_list_cmp_total.trans other second first before is))
      (λ in_second. of_second.least other in_second before);
}
least_of_two V W first second Equal is of_first of_second = record {
  wrong_itself = or_left (V first) (W first) of_first.wrong_itself;
  least = λ other wrong before. or_cases (V other) (W other) ⊥ wrong
      (λ in_first. of_first.least other in_first before)
      (λ in_second. of_second.least other in_second (before_equal other first second before is));
}
least_of_two V W first second Greater is of_first of_second = record {
  wrong_itself = or_left (V first) (W first) of_first.wrong_itself;
  least = λ other wrong before. or_cases (V other) (W other) ⊥ wrong
      (λ in_first. of_first.least other in_first before)
      (λ in_second. of_second.least other in_second (nat_list_cmp_total.trans other first second before (turned second first Greater is)));
}

-- what is wrong for both is what is wrong for one of them
pub both_judges : {A B : Type 0} (V W : List ℕ → Bool) (first : Field A) (second : Field B) → Judges first V → Judges second W
    → Judges (both first second) (λ key. V key || W key)
both_judges V W (Ok a) (Ok b) of_first of_second = λ key wrong. or_cases (V key) (W key) ⊥ wrong (of_first key) (of_second key)
both_judges V W (Ok a) (Err told) of_first of_second = record {
  wrong_itself = or_right (V told) (W told) of_second.wrong_itself;
  least = λ other wrong before. or_cases (V other) (W other) ⊥ wrong
      (λ in_first. of_first other in_first) (λ in_second. of_second.least other in_second before);
}
both_judges V W (Err told) (Ok b) of_first of_second = record {
  wrong_itself = or_left (V told) (W told) of_first.wrong_itself;
  least = λ other wrong before. or_cases (V other) (W other) ⊥ wrong
      (λ in_first. of_first.least other in_first before) (λ in_second. of_second other in_second);
}
both_judges V W (Err first) (Err second) of_first of_second = least_of_two V W first second (slice_cmp nat_cmp second first) refl of_first of_second

pub map_judges : {A B : Type 0} (W : List ℕ → Bool) (f : A → B) (found : Field A) → Judges found W → Judges (field_map f found) W
map_judges W f (Ok value) judged = judged
map_judges W f (Err told) judged = judged

-- a test that is the same at each key
pub same_judges : {A : Type 0} (V W : List ℕ → Bool) (found : Field A) → ((key : List ℕ) → W key ≡ V key) → Judges found V → Judges found W
same_judges V W (Ok value) same judged = λ key wrong. judged key (sym (same key) ∙ wrong)
same_judges V W (Err told) same judged = record {
  wrong_itself = same told ∙ judged.wrong_itself;
  least = λ other wrong before. judged.least other (sym (same other) ∙ wrong) before;
}

-- where one name alone is wrong it is the least
pub wrong_alone : (name : List ℕ) (wrong : List ℕ → Bool) → wrong name ≡ true → ((key : List ℕ) → wrong key ≡ true → name ≡ key) → IsLeast wrong name
wrong_alone name wrong itself alone = record {
  wrong_itself = itself;
  least = λ other is before. not_before_itself name (rw (← alone other is) at before);
}

pub same_bytes : (a b : List ℕ) → bytes_eq a b ≡ true → a ≡ b
same_bytes a b is = (bytes_eq-Decides a b).0 is

pub its_own : (a : List ℕ) → bytes_eq a a ≡ true
its_own a = (bytes_eq-Decides a a).1 refl

-- the test of a field, at what the reader found
given_by : {A : Type 0} (rule : Rule A) (fields : Members) (found : Option A) → rule.value (get_member rule.name fields) ≡ found
    → Judges (or_wrong rule.name found) (λ key. is_refused key fields (test_of rule))
given_by rule fields (Some value) is = λ key wrong.
    let parts = and_parts (bytes_eq rule.name key) (not (is_some (rule.value (get_member key fields)))) wrong in
    let same : rule.name ≡ key = same_bytes rule.name key parts.0 in
    let none : not (is_some (rule.value (get_member rule.name fields))) ≡ true = rw same parts.1 in
    absurd (let contra : not (is_some (Some value)) ≡ true = rw is at none in cc)
given_by rule fields None is =
    wrong_alone rule.name _ (rw (its_own rule.name, is) refl)
    (λ key wrong. same_bytes rule.name key (and_parts (bytes_eq rule.name key) (not (is_some (rule.value (get_member key fields)))) wrong).0)

pub given_judges : {A : Type 0} (rule : Rule A) (fields : Members) → Judges (given rule fields) (λ key. is_refused key fields (test_of rule))
given_judges rule fields = given_by rule fields (rule.value (get_member rule.name fields)) refl

-- a key is wrong that stands among these, and is not known
abbrev pub is_unknown : List (List ℕ) → List (List ℕ) → List ℕ → Bool
is_unknown known names key = is_among key names && not (is_among key known)

one_known : (known : List (List ℕ)) (name : List ℕ) → Judges (is_known known name) (λ key. bytes_eq key name && not (is_among key known))
one_known known name = by_test (is_among name known) refl
  where
    by_test : (among : Bool) → is_among name known ≡ among → Judges {A = Unit {0}} (if among then Ok tt else Err name) (λ key. bytes_eq key name && not (is_among key known))
    by_test true is = λ key wrong.
        let parts = and_parts (bytes_eq key name) (not (is_among key known)) wrong in
        let same : key ≡ name = same_bytes key name parts.0 in
        absurd (let contra : not (is_among name known) ≡ true = rw same at parts.1 in cc)
    by_test false is =
        wrong_alone name (λ key. bytes_eq key name && not (is_among key known)) (rw (its_own name, is) refl)
        (λ key wrong. sym (same_bytes key name (and_parts (bytes_eq key name) (not (is_among key known)) wrong).0))

either_unknown : (here there known : Bool) → ((here || there) && not known) ≡ ((here && not known) || (there && not known))
either_unknown true true true = refl
either_unknown true true false = refl
either_unknown true false true = refl
either_unknown true false false = refl
either_unknown false true true = refl
either_unknown false true false = refl
either_unknown false false known = refl

pub known_judges : (known names : List (List ℕ)) → Judges (each_known known names) (is_unknown known names)
known_judges known [] = λ key wrong. absurd cc
known_judges known (name ∷ names) =
    map_judges _ _ (both (is_known known name) (each_known known names))
    (same_judges _ (is_unknown known (name ∷ names)) (both (is_known known name) (each_known known names))
    (λ key. either_unknown (bytes_eq key name) (is_among key names) (is_among key known))
    (both_judges _ _ (is_known known name) (each_known known names) (one_known known name) (known_judges known names)))
