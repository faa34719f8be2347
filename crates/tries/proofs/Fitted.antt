-- Values of the kinds that are asked, and the instances that they make.
use Rattle.std.proofs.Common.{◌≡◌, ℕ, ◌&&◌, List, [], ◌∷◌, ◌++◌, map, length, Option, Some, None, sym, ap, ◌∙◌, subst}
use Rattle.std.specs.List.{AllByRecursion}
use Rattle.std.specs.Str.{bytes_eq}
use Rattle.at_model.specs.Classes.{Classes, is_sub}
use Rattle.at_model.specs.Instances.{AnyText}
use Rattle.at_model.specs.Machine.{parameters_of}
use Rattle.at_model.specs.Rules.{Rules, Attribute, Kind, attribute_asked, attribute_named, names_asked}
use Rattle.at_model.specs.Run.{Value, Int, Instance}
use Rattle.at_model.specs.TypedRuns.{ClassAt, IsOfKind, IsOfItsKind, AreArguments, IsWellTyped}
use Rattle.at_model.specs.Rules as kinds
use Rattle.at_model.proofs.Options.{both}
use Rattle.at_model.proofs.of_machines.WellAsked.{an_answer, element_at}
use Rattle.at_model.proofs.of_typing.TypedTogether.{any_text}
use Rattle.at_rules.specs.Bodies.{kind_view}
use Rattle.at_rules.specs.declared.body.Kind.{Kind as KindCode}
use Rattle.at_rules.specs.Upward.{result_of}
use Rattle.at_body.specs.Values.{value_view}
use Rattle.at_body.specs.declared.value.Value.{Value as ValueCode}

module _ (classes : Classes) (at : ClassAt ℕ) where
  -- the values are arguments for the kinds
  abbrev Fit : List KindCode → List ValueCode → Type 0
  Fit ks vs = AreArguments classes at AnyText (map value_view vs) (map kind_view ks)

  pub none_fit : (ks : List KindCode) (vs : List ValueCode) → length ks ≡ 0 → length vs ≡ 0 → Fit ks vs
  none_fit [] [] e f = tt
  none_fit [] (v ∷ vs) e f = absurd cc
  none_fit (k ∷ ks) vs e f = absurd cc

  pub first_fits : (ks : List KindCode) (k : KindCode) (others : List KindCode) (vs : List ValueCode) (v : ValueCode) (rest : List ValueCode) → ks ≡ k ∷ others → vs ≡ v ∷ rest → IsOfKind classes at (value_view v) (kind_view k) → Fit others rest → Fit ks vs
  first_fits ks k others vs v rest e f is fit =
      subst (λ (xs : List KindCode). Fit xs vs) (sym e) (subst (λ (xs : List ValueCode). Fit (k ∷ others) xs) (sym f) (is, any_text (value_view v), fit))

-- an attribute that the class of a node has, with arguments for its parameters
pub well_typed : (rules : Rules) (at : ClassAt ℕ) (n c attribute : ℕ) (name : List ℕ) (count : ℕ)
    (vs : List (Value ℕ)) → at n ≡ Some c → attribute_asked rules c name count ≡ Some attribute →
    AreArguments rules.classes at AnyText vs (parameters_of rules attribute) → IsWellTyped rules at AnyText (record { node = n; attribute = attribute; arguments = vs })
well_typed rules at n c attribute name count vs there asked fit =
    let (z, named) = an_answer (attribute_named rules c) (names_asked name count) attribute asked in
    let (a, declared, passes) = element_at (λ a. bytes_eq a.name z && is_sub rules.classes c a.class)
    rules.attributes attribute named in
    let (same, below) = both (bytes_eq a.name z) (is_sub rules.classes c a.class) passes in
    let parameters : parameters_of rules attribute ≡ a.parameters = ap (λ (o : Option Attribute). elim o as (λ _. List Kind) [ None ↦ [] | Some b ↦ b.parameters ]) declared in
    record { class = c; declaration = a; node = there; attribute = declared; declared = below; arguments = subst (λ ks. AreArguments rules.classes at AnyText vs ks) parameters fit }

-- what holds of all values, with one more behind them
pub all_more : (P : Value ℕ → Type 0) (vs more : List ValueCode) (v : ValueCode) → more ≡ vs ++ v ∷ [] → AllByRecursion P (map value_view vs) → P (value_view v) → AllByRecursion P (map value_view more)
all_more P vs more v e h is = subst (λ (xs : List ValueCode). AllByRecursion P (map value_view xs)) (sym e) (behind vs h)
  where
    behind : (xs : List ValueCode) → AllByRecursion P (map value_view xs) → AllByRecursion P (map value_view (xs ++ v ∷ []))
    behind [] h = (is, tt)
    behind (x ∷ xs) h = (h.0, behind xs h.1)

-- what holds of all values, of the first and of the others
pub all_first : (P : Value ℕ → Type 0) (vs : List ValueCode) (v : ValueCode) (rest : List ValueCode) → vs ≡ v ∷ rest → AllByRecursion P (map value_view vs) → P (value_view v) × AllByRecursion P (map value_view rest)
all_first P vs v rest e h = subst (λ (xs : List ValueCode). AllByRecursion P (map value_view xs)) e h

pub all_none : (P : Value ℕ → Type 0) (vs : List ValueCode) → vs ≡ [] → AllByRecursion P (map value_view vs)
all_none P vs e = subst (λ (xs : List ValueCode). AllByRecursion P (map value_view xs)) (sym e) tt

-- a value of the kind of an attribute's values is one for each of its instances
pub its_kind : (rules : Rules) (at : ClassAt ℕ) (i : Instance ℕ) (v : Value ℕ) (k : Kind) (attribute : ℕ) → k ≡ result_of rules attribute → attribute ≡ i.attribute → IsOfKind rules.classes at v k → IsOfItsKind rules at i v
its_kind rules at i v k attribute kind same is d declared =
    let result : result_of rules i.attribute ≡ d.result = ap (λ (o : Option Attribute). elim o as (λ _. Kind) [ None ↦ kinds.Int | Some b ↦ b.result ]) declared in
    subst (λ x. IsOfKind rules.classes at v x) (kind ∙ ap (result_of rules) same ∙ result) is
