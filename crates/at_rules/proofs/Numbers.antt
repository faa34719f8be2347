-- An inherited equation that is found by the number of its name is the one that is found by the name.
use Rattle.std.proofs.Common.{◌≡◌, ℕ, ◌<◌, List, [], ◌∷◌, length, map, refl, ap, sym, ◌∙◌, arith, ◌≤◌, Option, Some, None, suc, zero, true≢false, Bor, String, string_bytes}
use Rattle.std.specs.Prelude.{Bool, true, false, ◌&&◌, ◌||◌, cond, nat_eq, nat_lt, find, option_map, position, get_or, is_some}
use Rattle.std.specs.List.{slice_get, list_any, AllByRecursion, IsDistinct}
use Rattle.std.specs.Map.{lookup}
use Rattle.std.specs.Option.{option_eq, option_or, IfSome, IfNone}
use Rattle.std.specs.Str.{bytes_eq}
use Rattle.std.specs.String.{string_eq}
use Rattle.std.proofs.lemmas.Cmp.{nat_list_eq_equiv}
use Rattle.std.proofs.Math.Dec.{eqb-suc-zero, eqb-zero-suc, eqb-suc-suc}
use Rattle.std.proofs.lemmas.Bool.{eqb-true, ltb-true, ltb-false}
use Rattle.std.proofs.lemmas.List.Quantifiers.{position-Some}
use Rattle.std.proofs.lemmas.Option.{none-some, slice_get-get_or, slice_get_past}
use Rattle.at_model.specs.Classes.{chain}
use Rattle.at_model.specs.Bodies.{Expr}
use Rattle.at_model.specs.Rules.{InheritedEquation, Rules, first_answer, inherited_in, inherited_equation, part_eq}
use Rattle.at_model.proofs.Options.{and_off}
use Rattle.at_rules.specs.declared.body.Body.{Body}
use Rattle.at_rules.specs.declared.rules.Attribute.{Attribute as AttributeValue}
use Rattle.at_rules.specs.Bodies.{body_view}
use Rattle.at_rules.specs.RulesView.{text_of, name_in, attribute_view, inherited_view, by_number, numbered_in, named, LacksText}
use Rattle.at_rules.proofs.Lookups.{same_either}

pub differs : {Z : Type 0} (s : String Z) (names : List (String Z)) → AllByRecursion (λ y. string_eq s y ≡ false) names → (j : ℕ) → j < length names → bytes_eq (string_bytes s) (text_of names j) ≡ false
differs s [] all j less = absurd (omega arith)
differs s (t ∷ ts) all zero less = all.0
differs s (t ∷ ts) all (suc j) less = differs s ts all.1 j (omega arith)

-- two numbers are the same where their texts are
pub same_text : {Z : Type 0} (names : List (String Z)) → IsDistinct string_eq names → (i j : ℕ) → i < length names → j < length names → bytes_eq (text_of names i) (text_of names j) ≡ nat_eq i j
unfolding IsDistinct
same_text [] apart i j within other = absurd (omega arith)
same_text (s ∷ ss) apart zero zero within other = nat_list_eq_equiv.refl (string_bytes s)
same_text (s ∷ ss) apart zero (suc j) within other = differs s ss apart.0 j (omega arith) ∙ sym (eqb-zero-suc j)
same_text (s ∷ ss) apart (suc i) zero within other = nat_list_eq_equiv.symm (text_of ss i) (string_bytes s) ∙ differs s ss apart.0 i (omega arith) ∙ sym (eqb-suc-zero i)
same_text (s ∷ ss) apart (suc i) (suc j) within other = same_text ss apart.1 i j (omega arith) (omega arith) ∙ sym (eqb-suc-suc i j)

same_part : (o p : Option ℕ) → option_eq nat_eq o p ≡ part_eq p o
same_part None None = refl
same_part None (Some j) = refl
same_part (Some i) None = refl
same_part (Some i) (Some j) = same_either i j

same_key : {Z : Type 0} (names : List (String Z)) → IsDistinct string_eq names → (c a : ℕ) (o p : Option ℕ) (n m : ℕ) → n < length names → m < length names
    → ((nat_eq c a && option_eq nat_eq o p) && nat_eq n m) ≡ ((nat_eq a c && part_eq p o) && bytes_eq (text_of names m) (text_of names n))
same_key names apart c a o p n m within other =
    ap (λ x. (x && option_eq nat_eq o p) && nat_eq n m) (same_either c a)
    ∙ ap (λ x. (nat_eq a c && x) && nat_eq n m) (same_part o p)
    ∙ ap (λ x. (nat_eq a c && part_eq p o) && x) (same_either n m ∙ sym (same_text names apart m n other within))

pub beyond : (n i l : ℕ) → n < l → nat_lt i l ≡ false → nat_eq n i ≡ false
beyond n i l within out = by (nat_eq n i) refl
  where
    by : (b : Bool) → nat_eq n i ≡ b → nat_eq n i ≡ false
    by false is = is
    by true is = absurd (omega (arith, eqb-true n i is, within, ltb-false i l out))

pub found_by_number : {Z : Type 0} (names : List (String Z)) → IsDistinct string_eq names → (n : ℕ) → n < length names → (o : Option ℕ) (c : ℕ) (es : List ((ℕ × Option ℕ × ℕ) × Body))
    → by_number es n o c ≡ option_map (λ (e : InheritedEquation). e.body) (find (λ e. (nat_eq e.class c && part_eq e.part o) && bytes_eq e.name (text_of names n)) (map (inherited_view names) (named names es)))
found_by_number names apart n within o c [] = refl
found_by_number names apart n within o c (e ∷ es) = by (found_by_number names apart n within o c es) (nat_lt e.0.2 (length names)) refl
  where
    here : by_number es n o c ≡ option_map (λ (e : InheritedEquation). e.body) (find (λ e. (nat_eq e.class c && part_eq e.part o) && bytes_eq e.name (text_of names n)) (map (inherited_view names) (named names es))) → (b d : Bool) → b ≡ d
        → option_map body_view (cond b (Some e.1) (lookup (λ k. (nat_eq c k.0 && option_eq nat_eq o k.1) && nat_eq n k.2) es))
        ≡ option_map (λ (e : InheritedEquation). e.body) (cond d (Some (inherited_view names e)) (find (λ e. (nat_eq e.class c && part_eq e.part o) && bytes_eq e.name (text_of names n)) (map (inherited_view names) (named names es))))
    here rest true true same = refl
    here rest false false same = rest
    here rest true false same = absurd (true≢false same)
    here rest false true same = absurd (true≢false (sym same))

    by : by_number es n o c ≡ option_map (λ (e : InheritedEquation). e.body) (find (λ e. (nat_eq e.class c && part_eq e.part o) && bytes_eq e.name (text_of names n)) (map (inherited_view names) (named names es))) → (b : Bool) → nat_lt e.0.2 (length names) ≡ b
        → option_map body_view (cond ((nat_eq c e.0.0 && option_eq nat_eq o e.0.1) && nat_eq n e.0.2) (Some e.1) (lookup (λ k. (nat_eq c k.0 && option_eq nat_eq o k.1) && nat_eq n k.2) es))
        ≡ option_map (λ (e : InheritedEquation). e.body) (find (λ e. (nat_eq e.class c && part_eq e.part o) && bytes_eq e.name (text_of names n)) (map (inherited_view names) (cond b (e ∷ named names es) (named names es))))
    by rest true is = here rest _ _ (same_key names apart c e.0.0 o e.0.1 n e.0.2 within (ltb-true e.0.2 (length names) is))
    by rest false is = ap (λ b. option_map body_view (cond b (Some e.1) (lookup (λ k. (nat_eq c k.0 && option_eq nat_eq o k.1) && nat_eq n k.2) es))) (and_off (nat_eq c e.0.0 && option_eq nat_eq o e.0.1) (nat_eq n e.0.2) (beyond n e.0.2 (length names) within is)) ∙ rest

pub same_answer : {B : Type 0} (f g : ℕ → Option B) → ((c : ℕ) → f c ≡ g c) → (cs : List ℕ) → first_answer f cs ≡ first_answer g cs
same_answer f g same [] = refl
same_answer f g same (c ∷ cs) = ap (λ o. option_or o (first_answer f cs)) (same c) ∙ ap (λ o. option_or (g c) o) (same_answer f g same cs)

or_false : (a b : Bool) → (a || b) ≡ false → (a ≡ false) × (b ≡ false)
or_false false b is = (refl, is)
or_false true b is = absurd (true≢false is)

pub lacks_each : {Z : Type 0} (names : List (String Z)) (text : List ℕ) → LacksText names text → (i : ℕ) → i < length names → bytes_eq (text_of names i) text ≡ false
lacks_each [] text lacks i within = absurd (omega arith)
lacks_each (s ∷ ss) text lacks zero within = nat_list_eq_equiv.symm (string_bytes s) text ∙ (or_false (bytes_eq text (string_bytes s)) (list_any (λ k. bytes_eq text (string_bytes k)) ss) lacks).0
lacks_each (s ∷ ss) text lacks (suc i) within = lacks_each ss text (or_false (bytes_eq text (string_bytes s)) (list_any (λ k. bytes_eq text (string_bytes k)) ss) lacks).1 i (omega arith)

lacks_found : {Z : Type 0} (names : List (String Z)) (text : List ℕ) → LacksText names text → (o : Option ℕ) (c : ℕ) (es : List ((ℕ × Option ℕ × ℕ) × Body))
    → option_map (λ (e : InheritedEquation). e.body) (find (λ e. (nat_eq e.class c && part_eq e.part o) && bytes_eq e.name text) (map (inherited_view names) (named names es))) ≡ None
lacks_found names text lacks o c [] = refl
lacks_found names text lacks o c (e ∷ es) = by (lacks_found names text lacks o c es) (nat_lt e.0.2 (length names)) refl
  where
    by : option_map (λ (e : InheritedEquation). e.body) (find (λ e. (nat_eq e.class c && part_eq e.part o) && bytes_eq e.name text) (map (inherited_view names) (named names es))) ≡ None → (b : Bool) → nat_lt e.0.2 (length names) ≡ b
        → option_map (λ (e : InheritedEquation). e.body) (find (λ e. (nat_eq e.class c && part_eq e.part o) && bytes_eq e.name text) (map (inherited_view names) (cond b (e ∷ named names es) (named names es)))) ≡ None
    by rest true is = ap (λ b. option_map (λ (e : InheritedEquation). e.body) (cond b (Some (inherited_view names e)) (find (λ e. (nat_eq e.class c && part_eq e.part o) && bytes_eq e.name text) (map (inherited_view names) (named names es))))) (and_off (nat_eq e.0.0 c && part_eq e.0.1 o) _ (lacks_each names text lacks e.0.2 (ltb-true e.0.2 (length names) is))) ∙ rest
    by rest false is = rest

no_answer_of : {B : Type 0} (f : ℕ → Option B) → ((c : ℕ) → f c ≡ None) → (cs : List ℕ) → first_answer f cs ≡ None
no_answer_of f none [] = refl
no_answer_of f none (c ∷ cs) = ap (λ o. option_or o (first_answer f cs)) (none c) ∙ no_answer_of f none cs

-- what is found by the number of a name
pub equation_numbered : {Z : Type 0} (names : List (String Z)) → IsDistinct string_eq names → (es : List ((ℕ × Option ℕ × ℕ) × Body))
    → (rules : Rules) → map (inherited_view names) (named names es) ≡ rules.inherited → (n : ℕ) → n < length names → (part c : ℕ)
    → first_answer (numbered_in es n part) (chain rules.classes c) ≡ inherited_equation rules c part (text_of names n)
equation_numbered names apart es rules same n within part c =
    same_answer (numbered_in es n part) (λ b. option_or (inherited_in rules (text_of names n) (Some part) b) (inherited_in rules (text_of names n) None b)) (λ b.
    ap (λ o. option_or o (by_number es n None b)) (found (Some part) b) ∙ ap (λ o. option_or (inherited_in rules (text_of names n) (Some part) b) o) (found None b))
    (chain rules.classes c)
  where
    found : (o : Option ℕ) (b : ℕ) → by_number es n o b ≡ inherited_in rules (text_of names n) o b
    found o b = found_by_number names apart n within o b es ∙ ap (λ ies. option_map (λ (e : InheritedEquation). e.body) (find (λ e. (nat_eq e.class b && part_eq e.part o) && bytes_eq e.name (text_of names n)) ies)) same

-- nothing stands for what is no name
pub no_equation : {Z : Type 0} (names : List (String Z)) (text : List ℕ) → LacksText names text → (es : List ((ℕ × Option ℕ × ℕ) × Body))
    → (rules : Rules) → map (inherited_view names) (named names es) ≡ rules.inherited → (part c : ℕ)
    → inherited_equation rules c part text ≡ None
no_equation names text lacks es rules same part c =
    no_answer_of (λ b. option_or (inherited_in rules text (Some part) b) (inherited_in rules text None b)) (λ b.
    ap (λ o. option_or o (inherited_in rules text None b)) (found (Some part) b) ∙ found None b)
    (chain rules.classes c)
  where
    found : (o : Option ℕ) (b : ℕ) → inherited_in rules text o b ≡ None
    found o b = ap (λ ies. option_map (λ (e : InheritedEquation). e.body) (find (λ e. (nat_eq e.class b && part_eq e.part o) && bytes_eq e.name text) ies)) (sym same) ∙ lacks_found names text lacks o b es

pub name_seen : {Z : Type 0} (names : List (String Z)) (entries : List ((ℕ × ℕ) × AttributeValue)) (a : ℕ) → name_in names entries a ≡ elim (slice_get (map (attribute_view names) entries) a) [ None ↦ [] | Some x ↦ x.name ]
name_seen names [] a = refl
name_seen names (e ∷ es) zero = refl
name_seen names (e ∷ es) (suc a) = name_seen names es a

-- the one for each component, where there is none for the component
pub or_for_each : (f g : Option Expr) (o p : Option (Bor Body)) → o ≡ None → option_map (λ (b : Bor Body). body_view b.now) o ≡ f → option_map (λ (b : Bor Body). body_view b.now) p ≡ g → option_map (λ (b : Bor Body). body_view b.now) p ≡ option_or f g
or_for_each f g o p none first second = second ∙ ap (λ x. option_or x g) (ap (option_map (λ (b : Bor Body). body_view b.now)) (sym none) ∙ first)

-- an attribute that isn't there, or whose number is no name's, has the name without characters
pub nameless : {Z : Type 0} (names : List (String Z)) (entries : List ((ℕ × ℕ) × AttributeValue)) (a : ℕ) → slice_get entries a ≡ None → name_in names entries a ≡ []
nameless names entries a none = ap (λ o. elim o [ None ↦ [] | Some e ↦ text_of names e.0.1 ]) none

pub numberless : {Z : Type 0} (names : List (String Z)) (entries : List ((ℕ × ℕ) × AttributeValue)) (a : ℕ) (e : (ℕ × ℕ) × AttributeValue) → slice_get entries a ≡ Some e → length names ≤ e.0.1 → name_in names entries a ≡ []
numberless names entries a e there out = ap (λ o. elim o [ None ↦ [] | Some e ↦ text_of names e.0.1 ]) there ∙ ap (λ o. elim o [ None ↦ [] | Some text ↦ string_bytes text ]) (slice_get_past names e.0.1 out)

none_equal : (bytes : List ℕ) → bytes_eq [] bytes ≡ true → bytes ≡ []
none_equal [] is = refl
none_equal (b ∷ bs) is = absurd (true≢false (sym is))

-- where the name without characters stands
pub empty_found : {Z : Type 0} (names : List (String Z)) (text : List ℕ) → text ≡ [] → (o : Option ℕ) → o ≡ position (λ k. bytes_eq [] (string_bytes k)) names → IfSome o (λ n. (n < length names) × (text_of names n ≡ text))
empty_found names text empty None is = tt
empty_found [] text empty (Some n) is = absurd (none-some n (sym is))
empty_found (s ∷ ss) text empty (Some n) is =
    let p = position-Some (λ k. bytes_eq [] (string_bytes k)) (s ∷ ss) n s (sym is) in
    (p.0, ap (λ o. elim o [ None ↦ [] | Some text ↦ string_bytes text ]) (slice_get-get_or (s ∷ ss) n s p.0) ∙ none_equal (string_bytes (get_or (s ∷ ss) n s)) p.1 ∙ sym empty)

pub empty_absent : {Z : Type 0} (names : List (String Z)) (text : List ℕ) → text ≡ [] → (o : Option ℕ) → is_some o ≡ list_any (λ k. bytes_eq [] (string_bytes k)) names → IfNone o (LacksText names text)
empty_absent names text empty None is = ap (λ t. list_any (λ k. bytes_eq t (string_bytes k)) names) empty ∙ sym is
empty_absent names text empty (Some n) is = tt
