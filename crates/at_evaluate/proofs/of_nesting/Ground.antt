-- What evaluations with inner ones stand on, by rules: none of these is circular, since circular attributes are lazy.
use Rattle.std.proofs.Common.{◌≡◌, ℕ, Bool, true, false, not, nat_eq, Option, Some, None, inl, sym, ◌∙◌, subst, true≢false}
use Rattle.at_model.specs.Run.{Instance, Contents, Known, Run}
use Rattle.at_model.specs.Rules.{Rules, is_lazy, start_of}
use Rattle.at_model.specs.Meaning.{Reaches}
use Rattle.at_model.specs.Nested.{IsGround}
use Rattle.at_model.specs.of_fixpoints.Fixpoints.{HasValue}
use Rattle.at_model.specs.of_fixpoints.Formulas.{Formula}
use Rattle.at_model.specs.of_fixpoints.Resting.{Comes}
use Rattle.at_model.proofs.of_formulas.PlainAnswers.{reaches_on}
use Rattle.at_model.proofs.of_formulas.PlainRules.{by_plain_equation}
use Rattle.at_evaluate.specs.Inner.{is_inner}
use Rattle.at_evaluate.specs.Valued.{equations, meaning}
use Rattle.at_evaluate.specs.Meant.{AreCircularWell, AreRightValues}

-- what isn't lazy isn't circular
pub own_of : (rules : Rules) → AreCircularWell rules → (attribute : ℕ) → is_lazy rules attribute ≡ false →
    start_of rules attribute ≡ None
own_of rules circular attribute eager = by (start_of rules attribute) (circular.lazy attribute)
  where
    by : (o : Option Bool) → ((b : Bool) → o ≡ Some b → is_lazy rules attribute ≡ true) → o ≡ None
    by None lazy = cc
    by (Some b) lazy = absurd (true≢false (sym (lazy b cc) ∙ eager))

not_lazy : (b : Bool) → not b ≡ true → b ≡ false
not_lazy true e = absurd (true≢false (sym e))
not_lazy false e = cc

pub ground_of : (rules : Rules) (look : Contents ℕ) (known : Known ℕ) → AreCircularWell rules →
    AreRightValues look (meaning rules) known → IsGround look (equations rules) (meaning rules) known (is_inner rules)
ground_of rules look known circular right = record {
  formula = λ i own. by_plain_equation rules nat_eq i own;
  own = λ i inner. own_of rules circular i.attribute (not_lazy (is_lazy rules i.attribute) inner);
  right = right;
}

-- the formula of an instance that isn't circular demands what its equation does
pub demands_own : (rules : Rules) (look : Contents ℕ) (i j : Instance ℕ) → start_of rules i.attribute ≡ None →
    Reaches look (HasValue look (meaning rules)) (equations rules i) j →
    Reaches look (HasValue look (meaning rules)) ((meaning rules).formula i) j
demands_own rules look i j own h = subst (λ (r : Run ℕ (Formula ℕ)). Reaches look (HasValue look (meaning rules)) r j)
    (sym (by_plain_equation rules nat_eq i own))
    (reaches_on look (HasValue look (meaning rules)) (HasValue look (meaning rules)) (λ k w x. x) (equations rules i) j h)

-- so it comes to that
pub comes_own : (rules : Rules) (look : Contents ℕ) (i j : Instance ℕ) → start_of rules i.attribute ≡ None →
    Reaches look (HasValue look (meaning rules)) (equations rules i) j → Comes look (meaning rules) i j
comes_own rules look i j own h = inl (demands_own rules look i j own h)
