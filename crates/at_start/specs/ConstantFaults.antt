-- For which constant files are refused: of its component, of its class, of its term, or since its tree is too large or would stand in
-- itself. Or for which component of the grammar, since none fills it.
use Rattle.std.specs.Prelude.{◌≡◌, ℕ, Bool, true, false, not, ◌&&◌, List, [], ◌∷◌, ◌++◌, codes, Option, Some, None, is_none, is_some, Result, Ok, Err, if◌then◌else◌}
use Rattle.std.specs.List.{list_any}
use Rattle.std.specs.Option.{option_map, option_or}
use Rattle.std.specs.Str.{bytes_eq}
use Rattle.at_model.specs.Names.{is_name}
use Rattle.at_model.specs.Classes.{Classes, class_of_name}
use Rattle.at_model.specs.Declarations.{Declaration, Declarations, Form, One, Many, Maybe, Tok, PartDeclaration, Place as Mark, classes_of, first_fault, first_given, first_of}
use Rattle.at_model.specs.Declarations as grammar
use Rattle.at_model.specs.Shaping.{cell_names_classes}
use Rattle.at_text.specs.declared.place.Place.{Place}
use Rattle.at_java.specs.Declarations.{Constant}
use Rattle.at_start.specs.Constants.{Placed, additions, bare, cell_under, filled, form_of, is_marked, is_moderate, made_over, planted_classes, stands, with_component, with_components}
use Rattle.at_start.specs.declared.code.Code.{Code}
use Rattle.at_start.specs.declared.code.Code.TheVariants as code
use Rattle.at_start.specs.declared.fault.StartFault.{StartFault}
use Rattle.at_start.specs.declared.fault.StartFault.TheVariants as start

-- a code, and its place in the file of that number
pub record Refusal : Type 0 where
  pub file : ℕ
  pub code : Code
  pub at : Place

abbrev pub refusal : Placed → Code → Place → Refusal
refusal k c at = record { file = k.file; code = c; at = at }

-- the first that is given of them
abbrev pub first_refusal : (Placed → Option Refusal) → List Placed → Option Refusal
first_refusal f [] = None
first_refusal f (k ∷ ks) = option_or (f k) (first_refusal f ks)

-- ---- its component

-- its name is no name, which can't be: the reader takes names alone
abbrev pub unnamed : Placed → Option Refusal
unnamed k = if is_name k.constant.name.text then None else Some (refusal k code.AspectSyntax k.constant.name.at)

-- the rule that the grammar breaks with it: each but these three it would break without it
abbrev pub breach : Placed → grammar.Code → Refusal
breach k grammar.ComponentTwice = refusal k code.AttributeTwice k.constant.name.at
breach k grammar.UnknownClass = refusal k code.UnknownName k.constant.kind.at
breach k grammar.Limit = refusal k code.AspectLimit k.constant.name.at
breach k c = refusal k code.AspectSyntax k.constant.name.at

-- what is told of it where this grammar, in which it is the last, breaks a rule
abbrev pub broken : Declarations → Placed → Option Refusal
broken ds k = option_map (λ f. breach k f.code) (first_fault ds)

-- the first with which the grammar breaks a rule
abbrev pub first_breach : Declarations → List Placed → Option Refusal
first_breach ds [] = None
first_breach ds (k ∷ ks) = option_or (broken (with_component ds k.constant) k) (first_breach (with_component ds k.constant) ks)

-- that one, where the grammar breaks a rule with all of them
abbrev pub breaking : Declarations → List Placed → Option Refusal
breaking ds ks = elim (first_fault (with_components ds ks)) [ None ↦ None | Some f ↦ first_breach ds ks ]

-- ---- the component that it fills

abbrev pub is_many : Form → Bool
is_many One = false
is_many Many = true
is_many Maybe = false
is_many Tok = false

abbrev pub are_alike : Bool → Bool → Bool
are_alike true b = b
are_alike false b = not b

-- it is of the component's kind, and a list where that is one
abbrev pub is_like : PartDeclaration → Constant → Bool
is_like p k = bytes_eq k.kind.text p.kind && are_alike (is_many (form_of k.cell)) (is_many p.form)

abbrev pub unlike : List Mark → Declarations → Placed → Option Refusal
unlike marks ds k = elim (filled marks ds k.constant) [
  | None ↦ None
  | Some p ↦ if is_like p k.constant then None else Some (refusal k code.Kind k.constant.kind.at)
]

-- it is one for the component of that name, which that class declares
abbrev pub is_for : (class name : List ℕ) → Placed → Bool
is_for class name k = bytes_eq k.constant.class.text class && bytes_eq k.constant.name.text name

-- it fills a component that one of these does, which stand in front of it
abbrev pub fills_again : List Mark → Declarations → (front : List Placed) → Placed → Bool
fills_again marks ds front k =
    is_some (filled marks ds k.constant) && list_any (is_for k.constant.class.text k.constant.name.text) front

-- the first that does
abbrev pub first_again : List Mark → Declarations → (front : List Placed) → List Placed → Option Refusal
first_again marks ds front [] = None
first_again marks ds front (k ∷ ks) =
    if fills_again marks ds front k then Some (refusal k code.EquationTwice k.constant.name.at) else first_again marks ds (front ++ k ∷ []) ks

-- no constant fills the marked component
abbrev pub is_empty : List Mark → List Placed → Declaration → PartDeclaration → Bool
is_empty marks ks d p = is_marked marks p && not (list_any (is_for d.name p.name) ks)

-- the place of the first such component of the class
abbrev pub first_empty : List Mark → List Placed → Declaration → Option Mark
first_empty marks ks d = first_given (λ i p. if is_empty marks ks d p then Some p.at else None) 0 d.parts

-- it lacks what is to stand in it: the file is that of the grammar
abbrev pub lacking : Mark → Refusal
lacking at = record { file = 0; code = code.ClassWithoutEquation; at = record { line = at.0; column = at.1 } }

abbrev pub unfilled : List Mark → Declarations → List Placed → Option Refusal
unfilled marks ds ks = option_map lacking (first_given (λ c d. first_empty marks ks d) 0 ds)

-- a component is filled by what it isn't like, or by more than one, or by none
abbrev pub misfilled : List Mark → Declarations → List Placed → Option Refusal
misfilled marks ds ks = first_of (first_refusal (unlike marks ds) ks ∷ first_again marks ds [] ks ∷ unfilled marks ds ks ∷ [])

-- without them the grammar breaks a rule, which can't be
abbrev pub barren : List Mark → Declarations → Option Refusal
barren marks ds = option_map (λ f. lacking f.at) (first_fault (bare marks ds))

-- ---- its class, and its tree

-- ASTNode stands above all classes and is none of them: that is told at the first `new`
abbrev pub class_at : Constant → Place
class_at k = if bytes_eq k.class.text (codes "ASTNode") then k.at else k.class.at

-- where it is told that its class isn't there: a kind that isn't there either comes first
abbrev pub unknown_at : Classes → Constant → Place
unknown_at classes k = if is_none (class_of_name classes k.kind.text) then k.kind.at else class_at k

-- what is written of it names what is no class, or else makes no tree of the kind
abbrev pub term_code : Classes → Constant → Code
term_code classes k = if cell_names_classes classes k.cell then code.Kind else code.UnknownName

abbrev pub misfit : Classes → Placed → Option Refusal
misfit classes k = elim (class_of_name classes k.constant.kind.text) [
  | None ↦ Some (refusal k code.UnknownName k.constant.kind.at)
  | Some b ↦ if is_none (cell_under classes k.constant.cell b) then Some (refusal k (term_code classes k.constant) k.constant.at) else None
]

-- over the classes without constants its class isn't there, or it makes no tree
abbrev pub misshapen : Classes → Placed → Option Refusal
misshapen classes k = elim (class_of_name classes k.constant.class.text) [
  | None ↦ Some (refusal k code.UnknownName (unknown_at classes k.constant))
  | Some c ↦ misfit classes k
]

abbrev pub if_declared : Classes → Placed → Option Refusal → Option Refusal
if_declared classes k r = elim (class_of_name classes k.constant.class.text) [ None ↦ None | Some c ↦ r ]

-- it would stand in itself
abbrev pub encircled : Classes → Placed → Option Refusal
encircled classes k =
    if_declared classes k (if stands classes k.constant then None else Some (refusal k code.AspectFormLeftOut k.constant.at))

-- its tree is too large
abbrev pub oversized : Classes → Placed → Option Refusal
oversized classes k = elim (made_over classes k.constant) [
  | None ↦ None
  | Some c ↦ if is_moderate c then None else Some (refusal k code.AspectLimit k.constant.at)
]

-- one is too large, or else would stand in itself
abbrev pub unstanding : Classes → List Placed → Option Refusal
unstanding classes ks = option_or (first_refusal (oversized classes) ks) (first_refusal (encircled classes) ks)

-- ---- all

-- The one for which files with these constants are refused, where the grammar with these marks, and without the constants, breaks no rule:
-- first of all components, then of all trees. Terms leave out what stands between slashes.
abbrev pub constants_fault : List Mark → Declarations → List Placed → Option Refusal
constants_fault marks ds ks = first_of
    (first_refusal unnamed ks
    ∷ breaking ds (additions marks ds ks)
    ∷ misfilled marks ds ks
    ∷ barren marks ds
    ∷ first_refusal (misshapen (classes_of (bare marks ds))) ks
    ∷ unstanding (planted_classes marks ds ks) ks
    ∷ [])

abbrev pub told : Refusal → StartFault
told r = start.Refused r.file r.code (Some r.at)

-- it is told; of want of memory nothing is said
abbrev pub Tells : Option Refusal → StartFault → Type 0
Tells fault (start.Refused file c (Some at)) = fault ≡ Some (record { file = file; code = c; at = at })
Tells fault (start.Refused file c None) = ⊥
Tells fault start.Memory = Unit {0}

-- there is none, or it is told
abbrev pub Finds : {T : Type 0} → Option Refusal → Result T StartFault → Type 0
Finds fault (Ok v) = fault ≡ None
Finds fault (Err e) = Tells fault e
