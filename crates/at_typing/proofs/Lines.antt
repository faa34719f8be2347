-- The classes above a class, one by one.
use Rattle.std.proofs.Common.{◌≡◌, ℕ, zero, suc, ◌+◌, ◌-◌, ◌<◌, ◌≤◌, Bool, true, false, ◌||◌, nat_eq, List, [], ◌∷◌, length, map, refl, ap, sym, ◌∙◌, arith, Option, Some, None}
use Rattle.std.specs.Prelude.{option_map}
use Rattle.std.specs.List.{list_any}
use Rattle.std.proofs.lemmas.Cmp.{nat_eq_equiv}
use Rattle.at_model.specs.Classes.{Classes, chain, chain_within, parent_of, is_sub}
use Rattle.at_typing.specs.Numbering.{parent_class, same_class, is_class_below, line, line_within}
use Rattle.at_typing.specs.declared.numbered.NamedClass.{NamedClass}
use Rattle.at_typing.specs.declared.numbered.NamedClass.TheVariants.{Known, Unknown}

-- one by one ----------------------------------------------------------------------------------------------------------

-- what is left of the line, where so many are passed
abbrev pub line_from : Classes → ℕ → Option NamedClass → List NamedClass
line_from classes k c = line_within (length classes - k) classes c

less_one : (n k : ℕ) → k < n → n - k ≡ suc (n - (k + 1))
less_one n k less = omega arith

all_passed : (n k : ℕ) → n ≤ k → n - k ≡ 0
all_passed n k past = omega arith

none_left : (n : ℕ) → n - 0 ≡ n
none_left n = omega arith

pub line_begins : (classes : Classes) (c : NamedClass) → line classes c ≡ line_from classes 0 (Some c)
line_begins classes c = ap (λ m. line_within m classes (Some c)) (sym (none_left (length classes)))

pub line_step : (classes : Classes) (k : ℕ) (c : NamedClass) (o : Option NamedClass) → k < length classes → o ≡ Some c → line_from classes k o ≡ c ∷ line_from classes (k + 1) (parent_class classes c)
line_step classes k c o less is = ap (λ m. line_within m classes o) (less_one (length classes) k less) ∙ ap (line_within (suc (length classes - (k + 1))) classes) is

pub line_end : (classes : Classes) (k : ℕ) (o : Option NamedClass) → length classes ≤ k → line_from classes k o ≡ []
line_end classes k o past = ap (λ m. line_within m classes o) (all_passed (length classes) k past)

within_none : (classes : Classes) (m : ℕ) → line_within m classes None ≡ []
within_none classes zero = refl
within_none classes (suc m) = refl

pub line_on_top : (classes : Classes) (k : ℕ) (o : Option NamedClass) → o ≡ None → line_from classes k o ≡ []
line_on_top classes k o is = ap (line_within (length classes - k) classes) is ∙ within_none classes (length classes - k)

-- as a whole ----------------------------------------------------------------------------------------------------------

known_line : (classes : Classes) (m : ℕ) (o : Option ℕ) → line_within m classes (option_map Known o) ≡ map Known (chain_within m classes o)
known_line classes zero o = refl
known_line classes (suc m) None = refl
known_line classes (suc m) (Some c) = ap (λ cs. Known c ∷ cs) (known_line classes m (parent_of classes c))

any_known : (b : ℕ) (cs : List ℕ) → list_any (λ x. same_class x (Known b)) (map Known cs) ≡ list_any (nat_eq b) cs
any_known b [] = refl
any_known b (c ∷ cs) = ap (λ t. t || list_any (λ x. same_class x (Known b)) (map Known cs)) (nat_eq_equiv.symm c b) ∙ ap (λ t. nat_eq b c || t) (any_known b cs)

none_known : (u : ℕ) (cs : List ℕ) → list_any (λ x. same_class x (Unknown u)) (map Known cs) ≡ false
none_known u [] = refl
none_known u (c ∷ cs) = none_known u cs

-- the class itself is on its chain
pub itself : (classes : Classes) (c b : ℕ) → 0 < length classes → is_sub classes c b ≡ (nat_eq c b || is_sub classes c b)
unfolding chain
itself [] c b less = absurd (omega (arith, less))
itself (k ∷ classes) c b less = ap (λ t. t || list_any (nat_eq b) (chain_within (length classes) (k ∷ classes)
    (parent_of (k ∷ classes) c))) (nat_eq_equiv.symm b c) ∙ twice (nat_eq c b) (nat_eq b c) _ (nat_eq_equiv.symm b c)
  where
    twice : (s t r : Bool) → t ≡ s → (s || r) ≡ (s || (t || r))
    twice true t r same = refl
    twice false t r same = ap (λ u. u || r) (sym same)

alone : (classes : Classes) (m u : ℕ) → line_within m classes (parent_class classes (Unknown u)) ≡ []
alone classes m u = within_none classes m

-- one class is on the line of another where that one is it, or below it
pub on_line : (classes : Classes) → 0 < length classes → (c b : NamedClass) → list_any (λ x. same_class x b) (line classes c) ≡ is_class_below classes c b
unfolding chain
on_line classes some (Known c) (Known b) = ap (list_any (λ x. same_class x (Known b))) (known_line classes
    (length classes) (Some c)) ∙ any_known b (chain_within (length classes) classes (Some c)) ∙ itself classes c b some
on_line classes some (Known c) (Unknown u) = ap (list_any (λ x. same_class x (Unknown u)))
    (known_line classes (length classes) (Some c)) ∙ none_known u (chain_within (length classes) classes (Some c))
on_line [] some (Unknown u) b = absurd (omega (arith, some))
on_line (k ∷ classes) some (Unknown u) b = ap (λ cs. list_any (λ x. same_class x b) (Unknown u ∷ cs)) (alone (k ∷ classes) (length classes) u)
