-- That an equation stands above a node.
use Rattle.std.specs.Prelude.{◌≡◌, ℕ, zero, suc, true, false, List, map, Option, Some, None, IsSome, slice_get, ⊤}
use Rattle.at_model.specs.Run.{Contents, Is, Up}
use Rattle.at_model.specs.Bodies.{Expr}
use Rattle.at_model.specs.Instances.{AnyText}
use Rattle.at_model.specs.Rules.{Rules, Attribute, attribute_name, is_inherited, inherited_equation, own_equation}
use Rattle.at_model.specs.Kinds.{HasKind}
use Rattle.at_model.specs.Terms.{max_depth}
use Rattle.at_model.specs.TypedRuns.{ClassAt, AreArguments}
use Rattle.at_rules.specs.Bodies.{body_view}
use Rattle.at_rules.specs.declared.body.Body.{Body}
use Rattle.at_body.specs.declared.trial.Trial.{Trial}
use Rattle.at_body.specs.Values.{value_view}
use Rattle.at_body.specs.Rest.{place_of}
use Rattle.at_body.specs.Typed.{PlaceKinds, scope_kinds, IsPlaceOf}

-- there is an equation, or that
abbrev pub OrElse : Option Expr → Type 0 → Type 0
OrElse None P = P
OrElse (Some e) P = ⊤

-- there is a parent, and of it and of the component that
abbrev pub AtParent : {N : Type 0} → Option (N × ℕ) → (N → ℕ → Type 0) → Type 0
AtParent None P = ⊥
AtParent (Some p) P = P p.0 p.1

-- among so many nodes above this one the first that has an equation of the name for the component passed is there
abbrev pub HasEquation : {N : Type 0} → Rules → ClassAt N → Contents N → List ℕ → (height : ℕ) → N → Type 0
HasEquation rules at look name zero n = ⊥
HasEquation rules at look name (suc h) n =
    AtParent (look (Up n)) (λ m part. (at m ≡ Some (look (Is m)))
    × OrElse (inherited_equation rules (look (Is m)) part name) (HasEquation rules at look name h m))

-- the trial stands at a node of the class, with arguments for the attribute, which has an equation there
pub record Begins (rules : Rules) (at : ClassAt ℕ) (look : Contents ℕ) (t : Trial) (class attribute : ℕ) : Type 0 where
  pub declaration : Attribute
  pub node : at t.this ≡ Some class
  pub attribute_is : slice_get rules.attributes attribute ≡ Some declaration
  pub arguments : AreArguments rules.classes at AnyText (map value_view t.arguments) declaration.parameters
  pub own : is_inherited rules attribute ≡ false → IsSome (own_equation rules class attribute)
  pub above : is_inherited rules attribute ≡ true → HasEquation rules at look (attribute_name rules attribute) max_depth t.this

-- the trial stands where the body is an equation of the attribute, of its kind
pub record IsEquation (rules : Rules) (at : ClassAt ℕ) (t : Trial) (b : Body) (attribute : ℕ) : Type 0 where
  pub declaration : Attribute
  pub kinds : PlaceKinds
  pub attribute_is : slice_get rules.attributes attribute ≡ Some declaration
  pub is : HasKind rules (scope_kinds kinds) (body_view b) declaration.result
  pub place : IsPlaceOf rules.classes at kinds (place_of t)
