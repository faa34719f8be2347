-- Formulas that keep to the kinds.
use Rattle.std.specs.Prelude.{◌≡◌, ℕ, Bool, Some, slice_get}
use Rattle.at_model.specs.Run.{Instance, Contents}
use Rattle.at_model.specs.Rules.{Rules, Kind, Truth, Attribute, start_of}
use Rattle.at_model.specs.TypedRuns.{ClassAt, Texts, IsOfKind, IsWellTyped, IsTypedRun}
use Rattle.at_model.specs.of_fixpoints.Formulas.{Formula, Known, Asks, Both, Either, Forms}

-- circular attributes are boolean
abbrev pub AreBoolean : Rules → Type 0
AreBoolean rules = (attribute : ℕ) (b : Bool) (d : Attribute) →
    start_of rules attribute ≡ Some b → slice_get rules.attributes attribute ≡ Some d → d.result ≡ Truth

-- what is known in the formula is of the kind, and its instances are well typed, of attributes of the kind
abbrev pub IsFormulaOf : {N : Type 0} → Rules → ClassAt N → Texts → Kind → Formula N → Type 0
IsFormulaOf rules at Allowed k (Known v) = IsOfKind rules.classes at v k
IsFormulaOf rules at Allowed k (Asks i) =
    IsWellTyped rules at Allowed i × ((d : Attribute) → slice_get rules.attributes i.attribute ≡ Some d → d.result ≡ k)
IsFormulaOf rules at Allowed k (Both f g) = IsFormulaOf rules at Allowed k f × IsFormulaOf rules at Allowed k g
IsFormulaOf rules at Allowed k (Either f g) = IsFormulaOf rules at Allowed k f × IsFormulaOf rules at Allowed k g

-- a formula of the kind of the instance's attribute
abbrev pub IsOfItsForm : {N : Type 0} → Rules → ClassAt N → Texts → Instance N → Formula N → Type 0
IsOfItsForm rules at Allowed i f =
    (d : Attribute) → slice_get rules.attributes i.attribute ≡ Some d → IsFormulaOf rules at Allowed d.result f

-- the evaluation of each instance that is well typed is typed, and gives a formula of its kind
abbrev pub AreFormsTyped : {N : Type 0} → Rules → ClassAt N → Texts → Contents N → Forms N → Type 0
AreFormsTyped {N} rules at Allowed look forms =
    (i : Instance N) → IsWellTyped rules at Allowed i → IsTypedRun rules at Allowed look (IsOfItsForm rules at Allowed i) (forms.formula i)
