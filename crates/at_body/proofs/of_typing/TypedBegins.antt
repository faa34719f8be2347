-- A trial of a well-typed instance begins where there is an equation.
use Rattle.std.proofs.Common.{◌≡◌, ℕ, Bool, false, List, [], map, Some, None, refl, sym, ap, ◌∙◌, subst}
use Rattle.std.specs.Prelude.{IsSome}
use Rattle.at_model.specs.Bodies.{Expr}
use Rattle.at_model.specs.Instances.{AnyText}
use Rattle.at_model.specs.Rules.{Rules, attribute_name, is_inherited, own_equation}
use Rattle.at_model.specs.Run.{Instance, Is}
use Rattle.at_model.specs.Terms.{max_depth}
use Rattle.at_model.specs.TypedRuns.{AreArguments, IsWellTyped}
use Rattle.at_model.specs.WellFormed.{AreWellFormed, IsTreeSound}
use Rattle.at_store.specs.Shown.{IsIdle, Shown, contents, tree}
use Rattle.at_body.specs.declared.trial.Trial.{Trial}
use Rattle.at_body.specs.Values.{value_view}
use Rattle.at_body.specs.Typed.{class_shown}
use Rattle.at_body.specs.TypedStart.{Begins, HasEquation}
use Rattle.at_body.proofs.of_typing.TypedShown.{shown_typed}
use Rattle.at_body.proofs.of_typing.TypedInstances.{own_there, above_there}

module _ (rules : Rules) (s : Shown) (idle : IsIdle s) (ok : AreWellFormed rules) (sound : IsTreeSound rules.classes (tree s)) (i : Instance ℕ) (w : IsWellTyped rules (class_shown s) AnyText i) where
  inherits : is_inherited rules i.attribute ≡ w.declaration.is_inherited
  inherits = ap (λ o. elim o as (λ _. Bool) [ None ↦ false | Some a ↦ a.is_inherited ]) w.attribute

  named : attribute_name rules i.attribute ≡ w.declaration.name
  named = ap (λ o. elim o as (λ _. List ℕ) [ None ↦ [] | Some a ↦ a.name ]) w.attribute

  some_own : (e : Expr) × (own_equation rules w.class i.attribute ≡ Some e) → IsSome (own_equation rules w.class i.attribute)
  some_own (e, h) = subst (λ o. IsSome o) (sym h) refl

  begins_there : (t : Trial) → t.this ≡ i.node → map value_view t.arguments ≡ i.arguments → Begins rules (class_shown s) (contents s) t w.class i.attribute
  begins_there t this arguments = record {
    declaration = w.declaration;
    node = subst (λ n. class_shown s n ≡ Some w.class) (sym this) w.node;
    attribute_is = w.attribute;
    arguments = subst (λ vs. AreArguments rules.classes (class_shown s) AnyText vs w.declaration.parameters) (sym arguments) w.arguments;
    own = λ e. some_own (own_there rules s idle ok sound i w (sym inherits ∙ e));
    above = λ e. subst (λ n. HasEquation rules (class_shown s) (contents s) (attribute_name rules i.attribute) max_depth n) (sym this)
        (subst (λ name. HasEquation rules (class_shown s) (contents s) name max_depth i.node) (sym named) (above_there rules s idle ok sound i w (sym inherits ∙ e)));
  }

  pub begins : (t : Trial) (class attribute : ℕ) → t.this ≡ i.node → map value_view t.arguments ≡ i.arguments → class ≡ contents s (Is i.node) → attribute ≡ i.attribute → Begins rules (class_shown s) (contents s) t class attribute
  begins t class attribute this arguments is same =
      let over = shown_typed rules s idle ok sound in
      let there : class ≡ w.class = is ∙ over.contents.class i.node w.class w.node in
      subst (λ c. Begins rules (class_shown s) (contents s) t c attribute) (sym there) (subst (λ a. Begins rules (class_shown s) (contents s) t w.class a) (sym same) (begins_there t this arguments))
