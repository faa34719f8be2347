-- Values that are noted.
use Rattle.std.proofs.Common.{◌≡◌, ℕ, Bool, true, false, cond, ◌&&◌, nat_eq, List, [], Option, Some, option_map, refl, sym, ap, ◌∙◌, subst}
use Rattle.std.proofs.lemmas.Bool.{eqb-true}
use Rattle.std.specs.Map.{lookup}
use Rattle.std.specs.List.{slice_get}
use Rattle.at_model.specs.Rules.{Rules}
use Rattle.at_model.specs.Run.{Value, Instance}
use Rattle.at_model.specs.TypedRuns.{ClassAt, IsOfKind, IsOfItsKind}
use Rattle.at_model.proofs.Options.{both}
use Rattle.at_body.specs.Same.{same_instance, same_value}
use Rattle.at_body.specs.Typed.{AreOfTheirKinds}
use Rattle.at_body.specs.Values.{value_view}
use Rattle.at_body.specs.declared.value.Value.{Value as ValueCode}
use Rattle.std.specs.Cmp.Lexicographic.{pointwise}

abbrev noted : List (Instance ℕ × ValueCode) → Instance ℕ → Option (Value ℕ)
noted es i = option_map value_view (lookup (same_instance i) es)

same_attribute : (i j : Instance ℕ) → same_instance i j ≡ true → i.attribute ≡ j.attribute
same_attribute i j e =
    let (node, others) = both (nat_eq i.node j.node) (nat_eq i.attribute j.attribute && pointwise same_value i.arguments j.arguments) e in
    let (attribute, arguments) = both (nat_eq i.attribute j.attribute) (pointwise same_value i.arguments j.arguments) others in
    eqb-true i.attribute j.attribute attribute

module _ (rules : Rules) (at : ClassAt ℕ) where
  pub none_noted : (es : List (Instance ℕ × ValueCode)) → es ≡ [] → AreOfTheirKinds rules at (noted es)
  none_noted es none i v typed e =
      let f : noted [] i ≡ Some v = subst (λ (xs : List (Instance ℕ × ValueCode)). noted xs i ≡ Some v) none e in absurd cc

  pub still_noted : (es fs : List (Instance ℕ × ValueCode)) → fs ≡ es → AreOfTheirKinds rules at (noted es) → AreOfTheirKinds rules at (noted fs)
  still_noted es fs e h = subst (λ (xs : List (Instance ℕ × ValueCode)). AreOfTheirKinds rules at (noted xs)) (sym e) h

  pub more_noted : (es fs : List (Instance ℕ × ValueCode)) (i : Instance ℕ) (w : ValueCode) → ((q : Instance ℕ) → lookup (same_instance q) fs ≡ cond (same_instance i q) (Some w) (lookup (same_instance q) es))
      → IsOfItsKind rules at i (value_view w) → AreOfTheirKinds rules at (noted es) → AreOfTheirKinds rules at (noted fs)
  more_noted es fs i w finds its h j v typed e = by_same (same_instance i j) refl (sym (ap (option_map value_view) (finds j)) ∙ e)
    where
      by_same : (b : Bool) → same_instance i j ≡ b → option_map value_view (cond b (Some w) (lookup (same_instance j) es)) ≡ Some v → IsOfItsKind rules at j v
      by_same true same f d declared =
          let value : value_view w ≡ v = cc in
          let attribute = same_attribute i j same in
          subst (λ (x : Value ℕ). IsOfKind rules.classes at x d.result) value (its d (ap (slice_get rules.attributes) attribute ∙ declared))
      by_same false same f d declared = h j v typed f d declared
