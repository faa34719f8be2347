-- With well-formed rules, over a sound tree: what formulas lead to is well formed and listed.
use Rattle.std.proofs.Common.{◌≡◌, ℕ, Some, refl, sym, ◌∙◌}
use Rattle.std.specs.List.{slice_get}
use Rattle.at_model.specs.Kinds.{AreTyped, IsDeclarationTyped}
use Rattle.at_model.proofs.Everywhere.{found}
use Rattle.at_model.specs.Paths.{Node}
use Rattle.at_model.specs.Run.{Value, Instance}
use Rattle.at_model.specs.Trees.{Tree}
use Rattle.at_model.specs.Rules.{Rules, Attribute, start_of}
use Rattle.at_model.specs.Meaning.{Among, content}
use Rattle.at_model.specs.Asking.{IsWellFormed}
use Rattle.at_model.specs.TypedRuns.{IsWellTyped, class_at}
use Rattle.at_model.specs.Instances.{AnyText, IsGiven, instances}
use Rattle.at_model.specs.WellFormed.{AreWellFormed, IsTreeSound}
use Rattle.at_model.specs.of_fixpoints.Evaluations.{forms}
use Rattle.at_model.specs.of_fixpoints.Resting.{Leads}
use Rattle.at_model.specs.of_fixpoints.FormKinds.{AreBoolean, AreFormsTyped}
use Rattle.at_model.specs.Lines.{Line}
use Rattle.at_model.specs.Machine.{State, Asks, AnswersIn, verdict}
use Rattle.at_model.specs.Meaning.{Outcomes, Finds}
use Rattle.at_model.proofs.of_machines.WellAsked.{well_asked}
use Rattle.at_model.proofs.Listed.{instance_listed}
use Rattle.at_model.proofs.of_typing.TypedQuestions.{typed_of_formed, formed_of_typed}
use Rattle.at_model.proofs.of_typing.TypedTogether.{met, met_any}
use Rattle.at_model.proofs.of_formulas.TypedFormulas.{forms_typed, leads_typed, value_typed}
use Rattle.at_model.specs.TypedRuns.{IsOfItsKind}
use Rattle.at_model.specs.Paths.{node_eq}
use Rattle.at_model.specs.of_fixpoints.Fixpoints.{HasValue}
use Rattle.at_model.specs.of_fixpoints.Resting.{goes, stays}
use Rattle.at_model.proofs.of_formulas.StartsKept.{circular_asked}
use Rattle.at_model.proofs.of_formulas.Closure.{leads_valued}

start_at : (rules : Rules) (attribute : ℕ) (d : Attribute) → slice_get rules.attributes attribute ≡ Some d →
    start_of rules attribute ≡ d.start
start_at rules attribute d e = rw (e, start_of) refl

-- typed declarations of circular attributes are boolean
boolean_of : (rules : Rules) → AreTyped rules → AreBoolean rules
boolean_of rules typed attribute b d e f =
    let x = found (IsDeclarationTyped rules.classes) rules.attributes attribute d typed.attributes f in
    x.boolean b (sym (start_at rules attribute d f) ∙ e)

module _ (rules : Rules) (ok : AreWellFormed rules) (t : Tree)
    (sound : IsTreeSound rules.classes t)
    (i : Instance Node) (formed : IsWellFormed rules t i) where
  all_typed : AreFormsTyped rules (class_at t) (IsGiven rules t i.arguments) (content t) (forms rules)
  all_typed = forms_typed rules t (IsGiven rules t i.arguments) (met rules ok t sound i.arguments) (boolean_of rules ok.typed)

  well_typed : (j : Instance Node) → Leads (content t) (forms rules) i j →
      IsWellTyped rules (class_at t) (IsGiven rules t i.arguments) j
  well_typed j l =
      leads_typed rules (boolean_of rules ok.typed) (class_at t) (IsGiven rules t i.arguments) (content t) (forms rules)
      (λ a. refl) all_typed i j
      (typed_of_formed rules t i formed) l

  pub demanded : (j : Instance Node) → Leads (content t) (forms rules) i j → IsWellFormed rules t j
  demanded j l = formed_of_typed rules t j (IsGiven rules t i.arguments) ok.typed (well_typed j l)

  pub listed : (j : Instance Node) → Leads (content t) (forms rules) i j → Among j (instances rules t i.arguments)
  listed j l = instance_listed rules t i.arguments ok.typed j (well_typed j l)

  pub value_of_kind : (v : Value Node) → HasValue (content t) (forms rules) i v → IsOfItsKind rules (class_at t) i v
  value_of_kind v h =
      value_typed rules (boolean_of rules ok.typed) (class_at t) (IsGiven rules t i.arguments) (content t) (forms rules)
      (λ a. refl) all_typed i v
      (typed_of_formed rules t i formed) h

-- values of well-typed instances are of their kinds, whatever texts are among their arguments
pub any_of_kind : (rules : Rules) → AreWellFormed rules → AreBoolean rules → (t : Tree) → IsTreeSound rules.classes t →
    (i : Instance Node) (v : Value Node) → IsWellTyped rules (class_at t) AnyText i → HasValue (content t) (forms rules) i v →
    IsOfItsKind rules (class_at t) i v
any_of_kind rules ok boolean t sound i v typed h =
    value_typed rules boolean (class_at t) AnyText (content t) (forms rules) (λ a. refl)
    (forms_typed rules t AnyText (met_any rules ok t sound) boolean) i v typed h

pub spread : (rules : Rules) → AreWellFormed rules → (t : Tree) → IsTreeSound rules.classes t →
    (i j : Instance Node) (v : Value Node) → IsWellFormed rules t i → HasValue (content t) (forms rules) i v →
    Leads (content t) (forms rules) i j → (w : Value Node) × HasValue (content t) (forms rules) j w
spread rules ok t sound i j v formed h l =
    leads_valued (content t) (forms rules) (circular_asked (content t) rules node_eq) (IsWellFormed rules t)
    (λ m f. (instances rules t m.arguments, listed rules ok t sound m f))
    (λ m k f c. demanded rules ok t sound m f k (goes m k k c (stays k))) i j v formed h l

-- what a line is told is of its kind
pub told_of_kind : (rules : Rules) → AreWellFormed rules → (s : State) → IsTreeSound rules.classes s.tree → (l : Line)
    (q : Instance Node) (v : Value Node) → verdict rules s l ≡ Asks q → AnswersIn rules s.tree q (Outcomes (Finds v)) →
    IsOfItsKind rules (class_at s.tree) q v
told_of_kind rules ok s sound l q v asks has =
    value_of_kind rules ok s.tree sound q (well_asked rules s l q asks) v has
