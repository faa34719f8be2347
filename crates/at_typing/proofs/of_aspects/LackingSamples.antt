-- The samples in which a class lacks an equation, and the one in which none does.
use Rattle.std.proofs.Common.{◌≡◌, ℕ, zero, suc, ◌<◌, true, false, List, [], ◌∷◌, Option, Some, None, Ok, Err, refl, sym, ap, ◌∙◌, subst, true≢false, arith}
use Rattle.std.specs.Prelude.{codes, slice_get}
use Rattle.std.proofs.lemmas.Option.{none-some}
use Rattle.at_model.specs.Bodies.{Expr}
use Rattle.at_model.specs.Classes.{chain, fits}
use Rattle.at_model.specs.Rules.{Rules, Attribute, Exposed, as_root, below, inherited_equation}
use Rattle.at_model.specs.Samples.{calc_classes}
use Rattle.at_complete.specs.Completing.{LacksInherited, LacksOwn}
use Rattle.at_text.specs.declared.fault.Failure.TheVariants.{For}
use Rattle.at_kinds.specs.declared.arguments.Arguments.TheVariants.{Given}
use Rattle.at_kinds.specs.declared.code.RuleCode.TheVariants as code
use Rattle.at_typing.specs.Building.{Builds, rules_of}
use Rattle.at_typing.specs.Declaring.{max_attributes, max_text}
use Rattle.at_typing.specs.Ruling.{max_parameters}
use Rattle.at_typing.specs.SampleAspects.{has_no_equation, has_none_above, has_one_above}
use Rattle.at_typing.specs.Samples.{column}

none_before : (j : ℕ) → j < 0 → ⊥
none_before j l = omega (arith, l)

pub own_lacked : Builds Given calc_classes has_no_equation (Err
    (For (record { code = code.ClassWithoutEquation; file = 1; at = column 12 })))
unfolding chain max_attributes max_text max_parameters
own_lacked = (Some (record { code = code.ClassWithoutEquation; file = 1; at = column 12 }), (Some 0, ((_, refl, refl, (2, refl, refl)), λ j l lacks. none_before j l), refl), refl)

-- inherited equations --------------------------------------------------------------------------------------------------

-- the only attribute is inherited
only_inherited : (xs : List Attribute) (q : Attribute) → xs ≡ q ∷ [] → q.is_inherited ≡ true → (k : ℕ) (a : Attribute) → slice_get xs k ≡ Some a → a.is_inherited ≡ false → ⊥
only_inherited xs q e is k a there off = by k (ap (λ ys. slice_get ys k) (sym e) ∙ there)
  where
    by : (k : ℕ) → slice_get (q ∷ []) k ≡ Some a → ⊥
    by zero f = let same : q ≡ a = cc in true≢false (sym is ∙ ap (λ (z : Attribute). z.is_inherited) same ∙ off)
    by (suc k) f = none-some a f

abbrev bare : Rules
bare = rules_of Given calc_classes has_none_above

lacks_no_own : (k : ℕ) → LacksOwn bare k → ⊥
unfolding chain max_attributes max_text max_parameters
lacks_no_own k (a, there, off, lacks) = only_inherited bare.attributes _ refl refl k a there off

-- from the program through a block and a print
use_exposed : Exposed bare (codes "q") 6
unfolding chain max_attributes max_text max_parameters
use_exposed =
    below 4 6 (below 2 4 (below 0 2 (as_root 0 refl) (record { part = 0; class = 2; trees = refl; fit = refl; without = refl }))
    (record { part = 0; class = 1; trees = refl; fit = refl; without = refl })) (record { part = 0; class = 5; trees = refl; fit = refl; without = refl })

pub inherited_lacked : Builds Given calc_classes has_none_above
    (Err (For (record { code = code.InheritedWithoutEquation; file = 1; at = column 12 })))
unfolding chain max_attributes max_text max_parameters
inherited_lacked = (None, (None, lacks_no_own, refl), (Some 0, ((_, refl, refl, (6, refl, use_exposed)), λ j l lacks. none_before j l), refl))

-- the program alone may be the root
abbrev covered : Rules
covered = rules_of Given calc_classes has_one_above

root_alone : (c : ℕ) → fits calc_classes c 0 ≡ true → c ≡ 0
unfolding chain
root_alone zero e = refl
root_alone (suc zero) e = absurd cc
root_alone (suc (suc zero)) e = absurd cc
root_alone (suc (suc (suc zero))) e = absurd cc
root_alone (suc (suc (suc (suc zero)))) e = absurd cc
root_alone (suc (suc (suc (suc (suc zero))))) e = absurd cc
root_alone (suc (suc (suc (suc (suc (suc zero)))))) e = absurd cc
root_alone (suc (suc (suc (suc (suc (suc (suc zero))))))) e = absurd cc
root_alone (suc (suc (suc (suc (suc (suc (suc (suc zero)))))))) e = absurd cc
root_alone (suc (suc (suc (suc (suc (suc (suc (suc (suc n))))))))) e = absurd cc

-- whichever its component, the program has an equation
some_equation : (part : ℕ) (o : Option Expr) → o ≡ inherited_equation covered 0 part (codes "q") → o ≡ None → ⊥
unfolding chain max_attributes max_text max_parameters
some_equation part o e none = none-some _ (sym none ∙ e)

only_root : (c : ℕ) → Exposed covered (codes "q") c → c ≡ 0
only_root _ (as_root c fit) = root_alone c fit
only_root _ (below c d exposed down) =
    absurd (some_equation down.part (inherited_equation covered 0 down.part (codes "q")) refl (ap (λ b. inherited_equation covered b down.part (codes "q")) (sym (only_root c exposed)) ∙ down.without))

lacks_no_own_either : (k : ℕ) → LacksOwn covered k → ⊥
unfolding chain max_attributes max_text max_parameters
lacks_no_own_either k (a, there, off, lacks) = only_inherited covered.attributes _ refl refl k a there off

-- the only attribute is one of expressions
of_expressions : (xs : List Attribute) (q : Attribute) → xs ≡ q ∷ [] → q.name ≡ codes "q" → q.class ≡ 5 → (k : ℕ) (a : Attribute) → slice_get xs k ≡ Some a → (a.name ≡ codes "q") × (a.class ≡ 5)
of_expressions xs q e name class k a there = by k (ap (λ ys. slice_get ys k) (sym e) ∙ there)
  where
    by : (k : ℕ) → slice_get (q ∷ []) k ≡ Some a → (a.name ≡ codes "q") × (a.class ≡ 5)
    by zero f = let same : a ≡ q = cc in (ap (λ (z : Attribute). z.name) same ∙ name, ap (λ (z : Attribute). z.class) same ∙ class)
    by (suc k) f = absurd (none-some a f)

root_apart : (c : ℕ) → c ≡ 0 → fits calc_classes c 5 ≡ true → ⊥
unfolding chain
root_apart c e fit = let off : false ≡ true = ap (λ b. fits calc_classes b 5) (sym e) ∙ fit in true≢false (sym off)

lacks_none : (k : ℕ) → LacksInherited covered k → ⊥
unfolding chain max_attributes max_text max_parameters
lacks_none k (a, there, on, (c, fit, exposed)) =
    let (name, class) = of_expressions covered.attributes _ refl refl refl k a there in
    root_apart c (only_root c (subst (λ n. Exposed covered n c) name exposed)) (ap (fits calc_classes c) (sym class) ∙ fit)

pub nothing_lacked : Builds Given calc_classes has_one_above (Ok (rules_of Given calc_classes has_one_above))
unfolding chain max_attributes max_text max_parameters
nothing_lacked = ((None, (None, lacks_no_own_either, refl), (None, lacks_none, refl)), refl)
