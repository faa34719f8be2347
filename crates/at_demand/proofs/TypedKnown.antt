-- What is known of well-typed instances of a store is of their kinds.
use Rattle.std.proofs.Common.{ℕ, nat_eq, refl, sym, ap, ◌∙◌, subst}
use Rattle.std.specs.List.{slice_get}
use Rattle.at_model.specs.Paths.{node_eq}
use Rattle.at_model.specs.Run.{Value, Instance}
use Rattle.at_model.specs.Rules.{Rules}
use Rattle.at_model.specs.Meaning.{Finds, content}
use Rattle.at_model.specs.TypedRuns.{IsWellTyped, IsOfItsKind, class_at}
use Rattle.at_model.specs.Instances.{AnyText}
use Rattle.at_model.specs.WellFormed.{AreWellFormed, IsTreeSound}
use Rattle.at_model.specs.of_fixpoints.Evaluations.{evaluation, forms}
use Rattle.at_model.specs.of_fixpoints.FormKinds.{AreBoolean}
use Rattle.at_model.specs.of_fixpoints.Fixpoints.{HasValue, Holds}
use Rattle.at_model.proofs.Nodes.{same_like, nat_eq-is, node_eq-is}
use Rattle.at_model.proofs.of_formulas.CarriedByFormulas.{outcome_there}
use Rattle.at_model.proofs.of_formulas.EndsAlike.{found_like}
use Rattle.at_model.proofs.of_formulas.FormulasAlike.{evaluation-like}
use Rattle.at_model.proofs.of_formulas.FormulasTogether.{any_of_kind}
use Rattle.at_model.proofs.of_likeness.CarryingCircles.{names_agree}
use Rattle.at_model.proofs.of_typing.TypedNumbers.{value_back}
use Rattle.at_store.specs.Shown.{IsIdle, Shown, contents, numbers, path, tree}
use Rattle.at_store.specs.Memory.{class_in}
use Rattle.at_store.specs.View.{memory_of}
use Rattle.at_store.proofs.Found.{path_injective}
use Rattle.at_store.proofs.Relabelled.{contents_alike}
use Rattle.at_body.specs.Typed.{class_shown}
use Rattle.at_body.proofs.of_typing.TypedInstances.{instance_on}
use Rattle.at_evaluate.specs.Valued.{meaning}

pub known_typed : (rules : Rules) → AreWellFormed rules → AreBoolean rules → (s : Shown) → IsIdle s → IsTreeSound rules.classes (tree s) → (i : Instance ℕ) (v : Value ℕ) →
    IsWellTyped rules (class_shown s) AnyText i → HasValue (contents s) (meaning rules) i v → IsOfItsKind rules (class_shown s) i v
known_typed rules ok boolean s idle sound i v w has d e =
    let (j, like, typed) = instance_on rules (path s) (class_at (tree s)) i w in
    let one = path_injective (numbers s) in
    let alike = contents_alike (class_in (memory_of s.slab)) (numbers s) idle.keeps.apart in
    let (p, also, same) = outcome_there (names_agree (path s) one) (contents s) (content (tree s)) (evaluation rules nat_eq) (forms rules)
    (evaluation-like rules nat_eq node_eq (same_like nat_eq node_eq nat_eq-is node_eq-is (path s) one)) i j (Finds v) (like, λ n u. alike n) has in
    let (u, is, valued) = found_like v same refl in
    value_back rules (path s) (class_at (tree s)) AnyText d.result valued
    (any_of_kind rules ok boolean (tree s) sound j u typed (subst (Holds (content (tree s)) (forms rules) j) is also) d (ap (slice_get rules.attributes) (sym like.attribute) ∙ e))
