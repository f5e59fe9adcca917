-- Attributes in the order of their names, as they are read and written.
use Rattle.std.proofs.Common.{◌≡◌, ℕ, zero, suc, ◌%◌, ◌^◌, ◌<◌, ◌≤◌, Bool, true, false, ◌&&◌, T, List, [], ◌∷◌, ◌++◌, length, map, All, leb, Ok, refl, sym, ap, subst, ◌∙◌, append_assoc, arith}
use Rattle.std.specs.Cmp.Lexicographic.{nat_list_cmp_total}
use Rattle.std.specs.FinMap.Entries.{is_sorted, below_all}
use Rattle.std.specs.List.{flat_map}
use Rattle.std.specs.Ordering.{is_lt}
use Rattle.std.proofs.lemmas.Bool.{and_parts, and_from, leb-true}
use Rattle.std.proofs.lemmas.List.Elements.{All-nil, All-cons, All-head, All-tail}
use Rattle.up_base.specs.Name.{is_name, is_within}
use Rattle.up_base.specs.Number.{AreBytes, big_endian_bytes}
use Rattle.up_base.specs.declared.name_text.TheConstants.{NAME_SIZE}
use Rattle.up_model.proofs.AttrLists.{Attr, by_name}
use Rattle.up_model.proofs.FrameFields.{bind_ok, found, found_is, Takes, takes_both, field_takes, field_again, number_takes, number_again}
use Rattle.up_model.proofs.FrameValues.{type_takes, type_again, value_takes, value_again}
use Rattle.up_model.proofs.SortedEntries.{first, second, less}
use Rattle.up_model.specs.FrameFronts.{Front, ◌>>=◌, field, number_at, is_name_behind, type_at, value_at, attribute_at, attributes_at}
use Rattle.up_model.specs.FrameSpelling.{named, typed, sized, attribute_bytes}
use Rattle.up_model.specs.Value.{IsLegalValue}
use Rattle.up_model.specs.ValueTypes.{value_bytes, number_of, type_of}
use Rattle.up_model.specs.declared.value.Value.{Value}
use Rattle.up_model.specs.declared.value_type.ValueType.{ValueType}

-- what an attribute behind a name is
pub record IsBehind (before : List ℕ) (attr : Attr) : Type 0 where
  pub name : is_name attr.0 ≡ true
  pub rises : is_lt (by_name before attr.0) ≡ true
  pub legal : IsLegalValue attr.1

name_size : (name : List ℕ) → is_name name ≡ true → is_within 1 NAME_SIZE (length name) ≡ true
name_size name holds = (and_parts _ _ holds).0

few_bytes : (number : ℕ) → is_within 1 NAME_SIZE number ≡ true → number ≤ NAME_SIZE
few_bytes number holds = leb-true _ _ (and_parts (leb 1 number) (leb number NAME_SIZE) holds).1

one_digit : (number : ℕ) → is_within 1 NAME_SIZE number ≡ true → number ≡ number % 256
one_digit number holds = let few = few_bytes number holds in omega (arith, few)

pub attribute_takes : (before bytes : List ℕ) (x : Attr × List ℕ) → AreBytes bytes → attribute_at before bytes ≡ Ok x
    → Takes bytes (attribute_bytes x.0) x.1 × IsBehind before x.0
unfolding attribute_at
attribute_takes before bytes x below e =
    let a = bind_ok (number_at 1 (is_within 1 NAME_SIZE) bytes) (λ size. field size.0 (is_name_behind before) size.1 >>= λ name. type_at name.1 >>= λ type_. value_at type_.0 type_.1 >>= λ value. found ((name.0, value.0), value.1)) x e in
    let b = bind_ok (field a.0.0 (is_name_behind before) a.0.1) (λ name. type_at name.1 >>= λ type_. value_at type_.0 type_.1 >>= λ value. found ((name.0, value.0), value.1)) x a.2 in
    let d = bind_ok (type_at b.0.1) (λ type_. value_at type_.0 type_.1 >>= λ value. found ((b.0.0, value.0), value.1)) x b.2 in
    let f = bind_ok (value_at d.0.0 d.0.1) (λ value. found ((b.0.0, value.0), value.1)) x d.2 in
    let size = number_takes 1 (is_within 1 NAME_SIZE) bytes a.0 below a.1 in
    let name = field_takes a.0.0 (is_name_behind before) a.0.1 b.0 size.0.below b.1 in
    let type_ = type_takes b.0.1 d.0 name.takes.below d.1 in
    let value = value_takes d.0.0 d.0.1 f.0 type_.below f.1 in
    let rule = and_parts (is_name b.0.0) (is_lt (by_name before b.0.0)) name.rule_holds in
    let counted : a.0.0 % 256 ≡ length b.0.0 = sym (one_digit a.0.0 size.1) ∙ sym name.size_is in
    let both = takes_both bytes (a.0.0 % 256 ∷ []) a.0.1 b.0.0 b.0.1 size.0 name.takes in
    let front : Takes bytes (named b.0.0) b.0.1 = subst (λ (count : ℕ). Takes bytes (count ∷ b.0.0) b.0.1) counted both in
    let behind = takes_both b.0.1 (number_of d.0.0 ∷ []) d.0.1 (sized (value_bytes f.0.0)) f.0.1 type_ value.takes in
    let typed_ : Takes b.0.1 (typed f.0.0) f.0.1 =
    subst (λ (t : ValueType). Takes b.0.1 (number_of t ∷ sized (value_bytes f.0.0)) f.0.1) (sym value.type_is) behind in
    let whole = takes_both bytes (named b.0.0) b.0.1 (typed f.0.0) f.0.1 front typed_ in
    let attr : Attr = (b.0.0, f.0.0) in
    let right : IsBehind before attr = record { name = rule.0; rises = rule.1; legal = value.legal } in
    subst (λ (p : Attr × List ℕ). Takes bytes (attribute_bytes p.0) p.1 × IsBehind before p.0) (found_is (attr, f.0.1) x f.2) (whole, right)

pub attribute_again : (before : List ℕ) (attr : Attr) (rest : List ℕ) → IsBehind before attr
    → attribute_at before (attribute_bytes attr ++ rest) ≡ Ok (attr, rest)
unfolding attribute_at
attribute_again before attr rest right =
    let within = name_size attr.0 right.name in
    let one : big_endian_bytes 1 (length attr.0) ≡ length attr.0 ∷ [] = ap (λ (n : ℕ). n ∷ []) (sym (one_digit (length attr.0) within)) in
    let behind = typed attr.1 ++ rest in
    let fits : length attr.0 < 256 ^ 1 = omega (arith, few_bytes (length attr.0) within) in
    let grouped : attribute_bytes attr ++ rest ≡ big_endian_bytes 1 (length attr.0) ++ (attr.0 ++ behind) =
    append_assoc (named attr.0) (typed attr.1) rest ∙ ap (λ (count : List ℕ). count ++ (attr.0 ++ behind)) (sym one) in
    let size = number_again 1 (is_within 1 NAME_SIZE) (length attr.0) (attr.0 ++ behind) fits within in
    let name = field_again (length attr.0) (is_name_behind before) attr.0 behind refl (and_from _ _ right.name right.rises) in
    let type_ = type_again (type_of attr.1) (sized (value_bytes attr.1) ++ rest) in
    let value = value_again attr.1 rest right.legal in
    ap (attribute_at before) grouped
    ∙ ap (λ (r : Front ℕ). r >>= λ size. field size.0 (is_name_behind before) size.1 >>= λ name. type_at name.1 >>= λ type_. value_at type_.0 type_.1 >>= λ value. found ((name.0, value.0), value.1)) size
    ∙ ap (λ (r : Front (List ℕ)). r >>= λ name. type_at name.1 >>= λ type_. value_at type_.0 type_.1 >>= λ value. found ((name.0, value.0), value.1)) name
    ∙ ap (λ (r : Front ValueType). r >>= λ type_. value_at type_.0 type_.1 >>= λ value. found ((attr.0, value.0), value.1)) type_
    ∙ ap (λ (r : Front Value). r >>= λ value. found ((attr.0, value.0), value.1)) value

true_is : (b : Bool) → b ≡ true → T b
true_is b is = subst T (sym is) tt

is_true : (b : Bool) → T b → b ≡ true
is_true true holds = refl
is_true false holds = absurd holds

both : (a b : Bool) → T a → T b → T (a && b)
both true b p q = q
both false b p q = absurd p

-- a name below another one is below all that the other is below
pub below_more : (name other : List ℕ) (attrs : List Attr) → T (is_lt (by_name name other)) → T (below_all by_name other attrs)
    → T (below_all by_name name attrs)
below_more name other [] rises below = tt
below_more name other (attr ∷ attrs) rises below =
    let next = nat_list_cmp_total.trans name other attr.0 (less _ rises) (less _ (first _ _ below)) in
    both _ _ (true_is _ (ap is_lt next)) (below_more name other attrs rises (second _ _ below))

-- what attributes behind a name are
pub record AreBehind (before : List ℕ) (attrs : List Attr) : Type 0 where
  pub order : T (is_sorted by_name attrs)
  pub rise : T (below_all by_name before attrs)
  pub names : All (λ name. is_name name ≡ true) (map (λ attr. attr.0) attrs)
  pub legal : All IsLegalValue (map (λ attr. attr.1) attrs)

none_behind : (before : List ℕ) → AreBehind before []
none_behind before = record { order = tt; rise = tt; names = All-nil (λ name. is_name name ≡ true); legal = All-nil IsLegalValue }

one_behind : (before : List ℕ) (attr : Attr) (attrs : List Attr) → IsBehind before attr → AreBehind attr.0 attrs → AreBehind before (attr ∷ attrs)
one_behind before attr attrs one others = record {
  order = both _ _ others.rise others.order;
  rise = both _ _ (true_is _ one.rises) (below_more before attr.0 attrs (true_is _ one.rises) others.rise);
  names = All-cons (λ name. is_name name ≡ true) attr.0 (map (λ attr. attr.0) attrs) one.name others.names;
  legal = All-cons IsLegalValue attr.1 (map (λ attr. attr.1) attrs) one.legal others.legal;
}

first_behind : (before : List ℕ) (attr : Attr) (attrs : List Attr) → AreBehind before (attr ∷ attrs) → IsBehind before attr
first_behind before attr attrs all = record {
  name = All-head (λ name. is_name name ≡ true) attr.0 (map (λ attr. attr.0) attrs) all.names;
  rises = is_true _ (first _ _ all.rise);
  legal = All-head IsLegalValue attr.1 (map (λ attr. attr.1) attrs) all.legal;
}

others_behind : (before : List ℕ) (attr : Attr) (attrs : List Attr) → AreBehind before (attr ∷ attrs) → AreBehind attr.0 attrs
others_behind before attr attrs all = record {
  order = second _ _ all.order;
  rise = first _ _ all.order;
  names = All-tail (λ name. is_name name ≡ true) attr.0 (map (λ attr. attr.0) attrs) all.names;
  legal = All-tail IsLegalValue attr.1 (map (λ attr. attr.1) attrs) all.legal;
}

pub record AreAttributes (count : ℕ) (before bytes : List ℕ) (attrs : List Attr) (rest : List ℕ) : Type 0 where
  pub takes : Takes bytes (flat_map attribute_bytes attrs) rest
  pub count_is : length attrs ≡ count
  pub behind : AreBehind before attrs

pub attributes_take : (count : ℕ) (before bytes : List ℕ) (x : List Attr × List ℕ) → AreBytes bytes → attributes_at count before bytes ≡ Ok x
    → AreAttributes count before bytes x.0 x.1
unfolding attributes_at
attributes_take zero before bytes x below e =
    subst (λ (p : List Attr × List ℕ). AreAttributes 0 before bytes p.0 p.1) (found_is ([], bytes) x e)
    (record { takes = record { parts = refl; below = below }; count_is = refl; behind = none_behind before })
attributes_take (suc count) before bytes x below e =
    let a = bind_ok (attribute_at before bytes) (λ first. attributes_at count first.0.0 first.1 >>= λ others. found (first.0 ∷ others.0, others.1)) x e in
    let b = bind_ok (attributes_at count a.0.0.0 a.0.1) (λ others. found (a.0.0 ∷ others.0, others.1)) x a.2 in
    let one = attribute_takes before bytes a.0 below a.1 in
    let others = attributes_take count a.0.0.0 a.0.1 b.0 one.0.below b.1 in
    let made : AreAttributes (suc count) before bytes (a.0.0 ∷ b.0.0) b.0.1 = record {
      takes = takes_both bytes (attribute_bytes a.0.0) a.0.1 (flat_map attribute_bytes b.0.0) b.0.1 one.0 others.takes;
      count_is = ap suc others.count_is;
      behind = one_behind before a.0.0 b.0.0 one.1 others.behind;
    } in
    subst (λ (p : List Attr × List ℕ). AreAttributes (suc count) before bytes p.0 p.1) (found_is (a.0.0 ∷ b.0.0, b.0.1) x b.2) made

pub attributes_again : (attrs : List Attr) (before rest : List ℕ) → AreBehind before attrs
    → attributes_at (length attrs) before (flat_map attribute_bytes attrs ++ rest) ≡ Ok (attrs, rest)
unfolding attributes_at
attributes_again [] before rest all = refl
attributes_again (attr ∷ attrs) before rest all =
    let behind = flat_map attribute_bytes attrs ++ rest in
    let grouped : flat_map attribute_bytes (attr ∷ attrs) ++ rest ≡ attribute_bytes attr ++ behind =
    append_assoc (attribute_bytes attr) (flat_map attribute_bytes attrs) rest in
    let one = attribute_again before attr behind (first_behind before attr attrs all) in
    let others = attributes_again attrs attr.0 rest (others_behind before attr attrs all) in
    ap (attributes_at (suc (length attrs)) before) grouped
    ∙ ap (λ (r : Front Attr). r >>= λ first. attributes_at (length attrs) first.0.0 first.1 >>= λ others. found (first.0 ∷ others.0, others.1)) one
    ∙ ap (λ (r : Front (List Attr)). r >>= λ others. found (attr ∷ others.0, others.1)) others
