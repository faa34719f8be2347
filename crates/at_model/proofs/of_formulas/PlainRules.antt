-- Rules without circular attributes have the equations that they have without any formula.
use Rattle.std.proofs.Common.{◌≡◌, ℕ, zero, suc, Bool, true, false, List, [], ◌∷◌, Option, Some, None, refl, ap, subst, sym}
use Rattle.at_model.specs.Terms.{max_depth}
use Rattle.at_model.specs.Run.{Value, Instance, Run, Gives, Fails, Looks, Null, Is, Up, ◌>>=◌}
use Rattle.at_model.specs.Bodies.{Expr, Scope, mentioned}
use Rattle.at_model.specs.Rules.{Rules, past_nodes, past_arguments, inherited_equation, own_equation, is_inherited, attribute_name, start_of}
use Rattle.at_model.specs.Rules as equation
use Rattle.at_model.specs.of_fixpoints.Formulas.{Formula, Known}
use Rattle.at_model.specs.of_fixpoints.Evaluations.{by_equation, by_inherited, by_own, evaluation_within, evaluation}
use Rattle.at_model.specs.of_fixpoints.Sets.{plain_forms}

-- an evaluation to a value, as one to a formula
abbrev pub plain : {N : Type 0} → Run N (Value N) → Run N (Formula N)
plain r = r >>= λ v. Gives (Known v)

past_one : {N : Type 0} (ns : List N) (r : Run N (Formula N)) (s : Run N (Value N)) → r ≡ plain s →
    past_nodes ns r ≡ plain (past_nodes ns s)
past_one [] r s e = e
past_one (n ∷ ns) r s e = ap (λ z. Looks (Is n) (λ c. z)) (past_one ns r s e)

past_plain : {N : Type 0} (vs : List (Value N)) (r : Run N (Formula N)) (s : Run N (Value N)) → r ≡ plain s →
    past_arguments vs r ≡ plain (past_arguments vs s)
past_plain [] r s e = e
past_plain (v ∷ vs) r s e = past_one (mentioned v) (past_arguments vs r) (past_arguments vs s) (past_plain vs r s e)

body_plain : {N : Type 0} (rules : Rules) (same : N → N → Bool) (scope : Scope N) (r : Run N (Formula N))
    (s : Run N (Value N)) (o : Option Expr) → r ≡ plain s →
    by_equation rules same None scope r o ≡ plain (equation.by_equation rules same scope s o)
body_plain rules same scope r s None e = e
body_plain rules same scope r s (Some b) e = refl

above_at : {N : Type 0} (rules : Rules) (same : N → N → Bool) (name : List ℕ) (vs : List (Value N)) (height : ℕ)
    (n : N) →
    ((m : N) → by_inherited rules same None name vs height m ≡ plain
    (equation.by_inherited rules same name vs height m)) → (o : Option (N × ℕ)) →
    ◌≡◌ {A = Run N (Formula N)} (elim o [
      | None ↦ Fails Null
      | Some p ↦ Looks (Is p.0)
          (λ c. by_equation rules same None (record { this = p.0; names = vs; child = Some n })
          (by_inherited rules same None name vs height p.0) (inherited_equation rules c p.1 name))
    ]) (plain (elim o [
      | None ↦ Fails Null
      | Some p ↦ Looks (Is p.0)
          (λ c. equation.by_equation rules same (record { this = p.0; names = vs; child = Some n })
          (equation.by_inherited rules same name vs height p.0) (inherited_equation rules c p.1 name))
    ]))
above_at rules same name vs height n rest None = refl
above_at rules same name vs height n rest (Some p) =
    ap (Looks (Is p.0)) (λ i c. body_plain rules same (record { this = p.0; names = vs; child = Some n })
    (by_inherited rules same None name vs height p.0) (equation.by_inherited rules same name vs height p.0)
    (inherited_equation rules c p.1 name) (rest p.0) i)

above_plain : {N : Type 0} (rules : Rules) (same : N → N → Bool) (name : List ℕ) (vs : List (Value N)) (height : ℕ)
    (n : N) →
    by_inherited rules same None name vs height n ≡ plain (equation.by_inherited rules same name vs height n)
above_plain rules same name vs zero n = refl
above_plain rules same name vs (suc height) n =
    ap (Looks (Up n)) (λ i o. above_at rules same name vs height n (above_plain rules same name vs height) o i)

which : {N : Type 0} (b : Bool) (r t : Run N (Formula N)) (s u : Run N (Value N)) → r ≡ plain s → t ≡ plain u →
    ◌≡◌ {A = Run N (Formula N)} (elim b [ true ↦ r | false ↦ t ]) (plain (elim b [ true ↦ s | false ↦ u ]))
which true r t s u e f = e
which false r t s u e f = f

module _ {N : Type 0} (rules : Rules) (same : N → N → Bool) (i : Instance N) (none : start_of rules i.attribute ≡ None)
  where
    inherited_plain : (height : ℕ) →
        by_inherited rules same (start_of rules i.attribute) (attribute_name rules i.attribute) i.arguments height
        i.node
        ≡ plain (equation.by_inherited rules same (attribute_name rules i.attribute) i.arguments height i.node)
    inherited_plain height =
        subst (λ z. by_inherited rules same z (attribute_name rules i.attribute) i.arguments height i.node
        ≡ plain (equation.by_inherited rules same (attribute_name rules i.attribute) i.arguments height i.node)) (sym
        none) (above_plain rules same (attribute_name rules i.attribute) i.arguments height i.node)

    own_plain : (c : ℕ) → by_own rules same i c ≡ plain (equation.by_own rules same i c)
    own_plain c = subst
        (λ z. by_equation rules same z (record { this = i.node; names = i.arguments; child = None }) (Fails Null)
        (own_equation rules c i.attribute) ≡ plain (equation.by_own rules same i c)) (sym none)
        (body_plain rules same (record { this = i.node; names = i.arguments; child = None }) (Fails Null) (Fails Null)
        (own_equation rules c i.attribute) refl)

    within_plain : (height : ℕ) →
        evaluation_within height rules same i ≡ plain (equation.evaluation_within height rules same i)
    within_plain height =
        ap (Looks (Is i.node))
        (λ x c. past_plain i.arguments _ _
        (which (is_inherited rules i.attribute) _ _ _ _ (inherited_plain height) (own_plain c)) x)

    -- one that isn't circular is evaluated as it is without any formula
    pub by_plain_equation : (evaluation rules same).formula i ≡ plain (equation.evaluation rules same i)
    by_plain_equation = within_plain max_depth

pub rules_plain : {N : Type 0} (rules : Rules) (same : N → N → Bool) → ((attribute : ℕ) → start_of rules attribute ≡ None) →
    evaluation rules same ≡ plain_forms (λ i. equation.evaluation rules same i)
rules_plain rules same none =
    λ x. record { starts = λ a. none a x; formula = λ i. by_plain_equation rules same i (none i.attribute) x }
