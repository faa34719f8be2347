-- Rules of which none of the two codes tells are complete.
use Rattle.std.proofs.Common.{◌≡◌, Option, Some, None, refl}
use Rattle.std.specs.Prelude.{IsSome}
use Rattle.at_model.specs.Bodies.{Expr}
use Rattle.at_model.specs.Rules.{Rules, AreComplete, own_equation}
use Rattle.at_complete.specs.Completing.{IsFirst, LacksOwn, LacksInherited}

some_equation : (o : Option Expr) → (o ≡ None → ⊥) → IsSome o
some_equation None none = absurd (none refl)
some_equation (Some e) none = refl

pub complete : (rules : Rules) → IsFirst (LacksOwn rules) None → IsFirst (LacksInherited rules) None → AreComplete rules
complete rules own inherited = record {
  synthesized = λ c attribute a there synthesized fit. some_equation (own_equation rules c attribute) (λ none. own attribute (a, there, synthesized, (c, fit, none)));
  inherited = λ c attribute a there is_inherited fit exposed. inherited attribute (a, there, is_inherited, (c, fit, exposed));
}
