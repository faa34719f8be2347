-- The attribute that is found by the number of its name is the first one of that name.
use Rattle.std.proofs.Common.{◌≡◌, ℕ, ◌+◌, ◌-◌, ◌<◌, List, [], ◌∷◌, length, map, refl, ap, sym, ◌∙◌, arith, Option, Some, None, suc, zero, String, string_bytes}
use Rattle.std.specs.Prelude.{Bool, true, false, ◌&&◌, ◌||◌, cond, nat_eq, nat_lt, position, get_or, IfSome}
use Rattle.std.specs.List.{list_any, position_from, IsDistinct}
use Rattle.std.specs.Map.{keys_of}
use Rattle.std.specs.Str.{bytes_eq}
use Rattle.std.specs.String.{string_eq}
use Rattle.std.proofs.lemmas.Bool.{ltb-true, ltb-false}
use Rattle.std.proofs.lemmas.Slice.Eq.{bytes_eq-Decides}
use Rattle.std.proofs.lemmas.Iterator.Adapters.{position_from-zero}
use Rattle.std.proofs.lemmas.List.Quantifiers.{position-Some}
use Rattle.std.proofs.lemmas.Option.{none-some, slice_get-get_or, slice_get_past}
use Rattle.at_class.proofs.Named.{position-map}
use Rattle.at_model.specs.Classes.{Classes, chain_within, parent_of}
use Rattle.at_model.proofs.Options.{and_off}
use Rattle.at_rules.specs.declared.rules.Attribute.{Attribute as AttributeValue}
use Rattle.at_rules.specs.RulesView.{text_of, attribute_view, LacksText}
use Rattle.at_rules.specs.Upward.{earlier, declares, declared_in}
use Rattle.at_rules.proofs.Lookups.{same_either}
use Rattle.at_rules.proofs.Numbers.{same_text, lacks_each, beyond}
use Rattle.at_rules.proofs.Earlier.{either, earlier_assoc, earlier_none}

none_of : {A : Type 0} (p : A → Bool) → ((x : A) → p x ≡ false) → (i : ℕ) (xs : List A) → position_from p i xs ≡ None
none_of p fails i [] = refl
none_of p fails i (x ∷ xs) = ap (λ b. cond b (Some i) (position_from p (i + 1) xs)) (fails x) ∙ none_of p fails (i + 1) xs

pub nowhere : {A : Type 0} (p : A → Bool) → ((x : A) → p x ≡ false) → (xs : List A) → position p xs ≡ None
nowhere p fails xs = position_from-zero p xs ∙ none_of p fails 0 xs

-- what is found on what is left of a chain after one step
pub found_above : (ks : List (ℕ × ℕ)) (n : ℕ) (classes : Classes) (m i c : ℕ) (found : Option ℕ) → i < m
    → earlier found (declared_in ks n (chain_within (m - i) classes (Some c))) ≡ earlier (earlier found (position (λ k. nat_eq c k.0 && nat_eq n k.1) ks)) (declared_in ks n (chain_within (m - (i + 1)) classes (parent_of classes c)))
found_above ks n classes m i c found less =
    let more : m - i ≡ suc (m - (i + 1)) = omega arith in
    ap (λ l. earlier found (declared_in ks n (chain_within l classes (Some c)))) more
    ∙ ap (earlier found) (sym (either (λ k. nat_eq c k.0 && nat_eq n k.1) (declares n (chain_within (m - (i + 1)) classes (parent_of classes c))) ks))
    ∙ sym (earlier_assoc found _ _)

none_declared : (ks : List (ℕ × ℕ)) (n : ℕ) (found : Option ℕ) → earlier found (declared_in ks n []) ≡ found
none_declared ks n found = ap (earlier found) (nowhere (declares n []) (λ k. refl) ks) ∙ earlier_none found

pub found_on_top : (ks : List (ℕ × ℕ)) (n : ℕ) (classes : Classes) (m : ℕ) (found : Option ℕ) → earlier found (declared_in ks n (chain_within m classes None)) ≡ found
found_on_top ks n classes zero found = none_declared ks n found
found_on_top ks n classes (suc m) found = none_declared ks n found

pub found_at_end : (ks : List (ℕ × ℕ)) (n : ℕ) (classes : Classes) (m i : ℕ) (from : Option ℕ) (found : Option ℕ) → i ≡ m → earlier found (declared_in ks n (chain_within (m - i) classes from)) ≡ found
found_at_end ks n classes m i from found end =
    let none : m - i ≡ 0 = omega arith in
    ap (λ l. earlier found (declared_in ks n (chain_within l classes from))) none ∙ none_declared ks n found

pub is_within : {A : Type 0} (p : A → Bool) (xs : List A) (o : Option ℕ) → o ≡ position p xs → IfSome o (λ i. i < length xs)
is_within p xs None is = tt
is_within p [] (Some i) is = absurd (none-some i (sym is))
is_within p (x ∷ xs) (Some i) is = (position-Some p (x ∷ xs) i x (sym is)).0

-- a class that is among some, and one thing more
pub any_both : (a : Bool) (c : ℕ) (cs : List ℕ) → list_any (λ b. nat_eq b c && a) cs ≡ (a && list_any (nat_eq c) cs)
any_both a c [] = sym (and_off a false refl)
any_both a c (b ∷ cs) = ap (λ x. (x && a) || list_any (λ b. nat_eq b c && a) cs) (same_either b c) ∙ ap (λ x. (nat_eq c b && a) || x) (any_both a c cs) ∙ by (nat_eq c b) a (list_any (nat_eq c) cs)
  where
    by : (x z y : Bool) → ((x && z) || (z && y)) ≡ (z && (x || y))
    by true true y = refl
    by true false y = refl
    by false true y = refl
    by false false y = refl

empty_differs : (text : List ℕ) → (text ≡ [] → ⊥) → bytes_eq [] text ≡ false
empty_differs [] some = absurd (some refl)
empty_differs (b ∷ bs) some = refl

beyond_differs : {Z : Type 0} (names : List (String Z)) (text : List ℕ) → (text ≡ [] → ⊥) → (m : ℕ) → nat_lt m (length names) ≡ false → bytes_eq (text_of names m) text ≡ false
beyond_differs names text some m out = ap (λ o. bytes_eq (elim o [ None ↦ [] | Some t ↦ string_bytes t ]) text) (slice_get_past names m (ltb-false m (length names) out)) ∙ empty_differs text some

pub name_at : {Z : Type 0} (names : List (String Z)) (text : List ℕ) (n : ℕ) → position (λ k. bytes_eq text (string_bytes k)) names ≡ Some n → (n < length names) × (text ≡ text_of names n)
name_at [] text n is = absurd (none-some n is)
name_at (s ∷ ss) text n is =
    let p = position-Some (λ k. bytes_eq text (string_bytes k)) (s ∷ ss) n s is in
    (p.0, (bytes_eq-Decides text (string_bytes (get_or (s ∷ ss) n s))).0 p.1 ∙ sym (ap (λ o. elim o [ None ↦ [] | Some t ↦ string_bytes t ]) (slice_get-get_or (s ∷ ss) n s p.0)))

told : {Z : Type 0} (names : List (String Z)) → IsDistinct string_eq names → (text : List ℕ) → (text ≡ [] → ⊥) → (n : ℕ) → n < length names → text ≡ text_of names n → (m : ℕ) → nat_eq n m ≡ bytes_eq (text_of names m) text
told names apart text some n within is m = by (nat_lt m (length names)) refl
  where
    by : (b : Bool) → nat_lt m (length names) ≡ b → nat_eq n m ≡ bytes_eq (text_of names m) text
    by true less = same_either n m ∙ sym (same_text names apart m n (ltb-true m (length names) less) within) ∙ ap (bytes_eq (text_of names m)) (sym is)
    by false out = beyond n m (length names) within out ∙ sym (beyond_differs names text some m out)

-- what is declared by the number of a name is declared by the name
pub declared_by_name : {Z : Type 0} (names : List (String Z)) → IsDistinct string_eq names → (text : List ℕ) → (text ≡ [] → ⊥) → (n : ℕ) → position (λ k. bytes_eq text (string_bytes k)) names ≡ Some n → (es : List ((ℕ × ℕ) × AttributeValue)) (cs : List ℕ)
    → declared_in (keys_of es) n cs ≡ position (λ a. bytes_eq a.name text && list_any (nat_eq a.class) cs) (map (attribute_view names) es)
declared_by_name names apart text some n at es cs =
    let found = name_at names text n at in
    position-map (declares n cs) (λ e. e.0) es
    ∙ ap (λ test. position test es) (λ i e. (any_both (nat_eq n e.0.1) e.0.0 cs ∙ ap (λ b. b && list_any (nat_eq e.0.0) cs) (told names apart text some n found.0 found.1 e.0.1)) i)
    ∙ sym (position-map (λ a. bytes_eq a.name text && list_any (nat_eq a.class) cs) (attribute_view names) es)

-- nothing is declared by what is no name
pub none_by_name : {Z : Type 0} (names : List (String Z)) (text : List ℕ) → (text ≡ [] → ⊥) → LacksText names text → (es : List ((ℕ × ℕ) × AttributeValue)) (cs : List ℕ)
    → position (λ a. bytes_eq a.name text && list_any (nat_eq a.class) cs) (map (attribute_view names) es) ≡ None
none_by_name names text some lacks es cs =
    position-map (λ a. bytes_eq a.name text && list_any (nat_eq a.class) cs) (attribute_view names) es
    ∙ nowhere (λ e. bytes_eq (text_of names e.0.1) text && list_any (nat_eq e.0.0) cs) (λ e. ap (λ b. b && list_any (nat_eq e.0.0) cs) (differs e.0.1)) es
  where
    differs : (m : ℕ) → bytes_eq (text_of names m) text ≡ false
    differs m = by (nat_lt m (length names)) refl
      where
        by : (b : Bool) → nat_lt m (length names) ≡ b → bytes_eq (text_of names m) text ≡ false
        by true less = lacks_each names text lacks m (ltb-true m (length names) less)
        by false out = beyond_differs names text some m out
