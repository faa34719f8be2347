-- Evaluations of like instances to formulas are alike.
use Rattle.std.proofs.Common.{◌≡◌, ℕ, zero, suc, Bool, true, false, List, Option, Some, None, refl, ap}
use Rattle.at_model.specs.Terms.{max_depth}
use Rattle.at_model.specs.Run.{Value, Instance, Run, Fails, Looks, Null, Is}
use Rattle.at_model.specs.Bodies.{Expr, Scope}
use Rattle.at_model.specs.Rules.{Rules, inherited_equation, own_equation, is_inherited, attribute_name, start_of}
use Rattle.at_model.specs.Alike.{OptionLike, neither, both, ListLike, ValueLike, is, up, RunLike, gives, fails, looks, ScopeLike, SameLike, InstanceLike, IsInjective, Names}
use Rattle.at_model.specs.Paths.{Node, node_eq}
use Rattle.at_model.proofs.Nodes.{same_like, node_eq-is}
use Rattle.at_model.proofs.of_likeness.ExpressionsAlike.{then-like, eval-like}
use Rattle.at_model.proofs.of_likeness.EquationsAlike.{past_arguments-like}
use Rattle.at_model.specs.of_fixpoints.Formulas.{Formula}
use Rattle.at_model.specs.of_fixpoints.Likeness.{FormulaLike, known_like, FormsLike}
use Rattle.at_model.specs.of_fixpoints.Evaluations.{formula_of, by_equation, by_inherited, by_own, evaluation_within, evaluation, forms}
use Rattle.at_model.proofs.of_formulas.FormsAlike.{form-like}

formula_of-like : {N M : Type 0} {R : N → M → Type 0} (rules : Rules) {same : N → N → Bool} {other : M → M → Bool} →
    SameLike R same other → (start : Option Bool) (e : Expr) (f : Scope N) (g : Scope M) → ScopeLike R f g →
    RunLike R (FormulaLike R) (formula_of rules same start e f) (formula_of rules other start e g)
formula_of-like rules s None e f g t = then-like (eval-like rules.classes s e f g t) (λ v w q. gives (known_like q))
formula_of-like rules s (Some b) e f g t = form-like rules.classes s (start_of rules) b true e f g t

by_equation-like : {N M : Type 0} {R : N → M → Type 0} (rules : Rules) {same : N → N → Bool} {other : M → M → Bool} →
    SameLike R same other → (start : Option Bool) (o : Option Expr) (f : Scope N) (g : Scope M) → ScopeLike R f g →
    {r : Run N (Formula N)} {s : Run M (Formula M)} → RunLike R (FormulaLike R) r s →
    RunLike R (FormulaLike R) (by_equation rules same start f r o) (by_equation rules other start g s o)
by_equation-like rules s start None f g t q = q
by_equation-like rules s start (Some e) f g t q = formula_of-like rules s start e f g t

above : {N M : Type 0} {R : N → M → Type 0} (rules : Rules) (same : N → N → Bool) (other : M → M → Bool) →
    SameLike R same other → (start : Option Bool) (name : List ℕ) (height : ℕ) (vs : List (Value N))
    (ws : List (Value M)) → ListLike (ValueLike R) vs ws →
    (n : N) (m : M) → R n m →
    ((n : N) (m : M) → R n m → RunLike R (FormulaLike R) (by_inherited rules same start name vs height n)
    (by_inherited rules other start name ws height m)) →
    {c : Option (N × ℕ)} {d : Option (M × ℕ)} → OptionLike (λ p q. R p.0 q.0 × (p.1 ≡ q.1)) c d →
    RunLike R (FormulaLike R)
    (elim c as (λ _. Run N (Formula N)) [
      | None ↦ Fails Null
      | Some p ↦ Looks (Is p.0)
          (λ c. by_equation rules same start (record { this = p.0; names = vs; child = Some n })
          (by_inherited rules same start name vs height p.0) (inherited_equation rules c p.1 name))
    ])
    (elim d as (λ _. Run M (Formula M)) [
      | None ↦ Fails Null
      | Some p ↦ Looks (Is p.0)
          (λ c. by_equation rules other start (record { this = p.0; names = ws; child = Some m })
          (by_inherited rules other start name ws height p.0) (inherited_equation rules c p.1 name))
    ])
above rules same other s start name height vs ws es n m t rest neither = fails Null
above rules same other s start name height vs ws es n m t rest (both {a = p} {b = q} (r, e)) =
    looks (is r) (λ x y f. rw (f, e)
    (by_equation-like rules s start (inherited_equation rules y q.1 name) _ _
    (record { this = r; names = es; child = both t }) (rest p.0 q.0 r)))

by_inherited-like : {N M : Type 0} {R : N → M → Type 0} (rules : Rules) (same : N → N → Bool) (other : M → M → Bool) →
    SameLike R same other → (start : Option Bool) (name : List ℕ) (height : ℕ) (vs : List (Value N))
    (ws : List (Value M)) → ListLike (ValueLike R) vs ws →
    (n : N) (m : M) → R n m → RunLike R (FormulaLike R) (by_inherited rules same start name vs height n)
    (by_inherited rules other start name ws height m)
by_inherited-like rules same other s start name zero vs ws es n m r = fails Null
by_inherited-like rules same other s start name (suc height) vs ws es n m r =
    looks (up r) (λ c d f. above rules same other s start name height vs ws es n m r
    (by_inherited-like rules same other s start name height vs ws es) f)

by_own-like : {N M : Type 0} {R : N → M → Type 0} (rules : Rules) {same : N → N → Bool} {other : M → M → Bool} →
    SameLike R same other → (i : Instance N) (j : Instance M) → InstanceLike R i j → (c d : ℕ) → c ≡ d →
    RunLike R (FormulaLike R) (by_own rules same i c) (by_own rules other j d)
by_own-like rules s i j t c d e =
    rw (e, t.attribute) (by_equation-like rules s (start_of rules j.attribute) (own_equation rules d j.attribute) _ _
    (record { this = t.node; names = t.arguments; child = neither }) (fails Null))

which : {N M : Type 0} {R : N → M → Type 0} (b c : Bool) → b ≡ c →
    {r r' : Run N (Formula N)} {s s' : Run M (Formula M)} → RunLike R (FormulaLike R) r s →
    RunLike R (FormulaLike R) r' s' →
    RunLike R (FormulaLike R) (elim b as (λ _. Run N (Formula N)) [ true ↦ r | false ↦ r' ])
    (elim c as (λ _. Run M (Formula M)) [ true ↦ s | false ↦ s' ])
which true true e p q = p
which false false e p q = q
which true false e p q = cc
which false true e p q = cc

inherited-of : {N M : Type 0} {R : N → M → Type 0} (height : ℕ) (rules : Rules) (same : N → N → Bool)
    (other : M → M → Bool) → SameLike R same other → (i : Instance N) (j : Instance M) → InstanceLike R i j →
    RunLike R (FormulaLike R)
    (by_inherited rules same (start_of rules i.attribute) (attribute_name rules i.attribute) i.arguments height
    i.node) (by_inherited rules other (start_of rules j.attribute) (attribute_name rules j.attribute) j.arguments
    height j.node)
inherited-of height rules same other s i j t =
    rw t.attribute (by_inherited-like rules same other s (start_of rules j.attribute)
    (attribute_name rules j.attribute) height i.arguments j.arguments t.arguments i.node j.node t.node)

evaluation_within-like : {N M : Type 0} {R : N → M → Type 0} (height : ℕ) (rules : Rules) (same : N → N → Bool)
    (other : M → M → Bool) → SameLike R same other → (i : Instance N) (j : Instance M) → InstanceLike R i j →
    RunLike R (FormulaLike R) (evaluation_within height rules same i) (evaluation_within height rules other j)
evaluation_within-like height rules same other s i j t =
    looks (is t.node) (λ c d f. past_arguments-like t.arguments
    (which (is_inherited rules i.attribute) (is_inherited rules j.attribute) (ap (is_inherited rules) t.attribute)
    (inherited-of height rules same other s i j t) (by_own-like rules s i j t c d f)))

pub evaluation-like : {N M : Type 0} {R : N → M → Type 0} (rules : Rules) (same : N → N → Bool)
    (other : M → M → Bool) → SameLike R same other → FormsLike R (evaluation rules same) (evaluation rules other)
evaluation-like rules same other s =
    record { starts = λ a. refl; formulas = evaluation_within-like max_depth rules same other s }

pub forms-like : (carry : Node → Option Node) → IsInjective carry → (rules : Rules) →
    FormsLike (Names carry) (forms rules) (forms rules)
forms-like carry injective rules =
    evaluation-like rules node_eq node_eq (same_like node_eq node_eq node_eq-is node_eq-is carry injective)
