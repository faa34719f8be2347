-- What is left of a formula under way, by the kinds of its values.
use Rattle.std.specs.Prelude.{◌≡◌, ℕ, Bool, true, length, List, [], ◌∷◌, ◌++◌, map, Option, Some, IsSome, IfSome, slice_get, ⊤}
use Rattle.std.specs.List.{AllByRecursion}
use Rattle.std.specs.Borrow.{Bor}
use Rattle.std.specs.Global.{Box}
use Rattle.at_model.specs.Classes.{Classes, Many, is_sub}
use Rattle.at_model.specs.Bodies.{Exprs}
use Rattle.at_model.specs.Instances.{AnyText}
use Rattle.at_model.specs.Kinds.{HasKind, HaveKinds, shape_of_part}
use Rattle.at_model.specs.Rules.{Rules, Kind, Truth, Class, Attribute}
use Rattle.at_model.specs.Run.{Value, Instance, Contents, Run}
use Rattle.at_model.specs.TypedRuns.{ClassAt, IsNodeOf, IsOfKind, IsOfItsKind, AreArguments, IsTypedRun, IsWellTyped}
use Rattle.at_model.specs.of_fixpoints.Formulas.{Formula}
use Rattle.at_model.specs.of_fixpoints.FormKinds.{IsFormulaOf}
use Rattle.at_rules.specs.Bodies.{body_view, bodies_view}
use Rattle.at_rules.specs.declared.body.Body.{Body}
use Rattle.at_rules.specs.declared.body.Lookup.{Lookup}
use Rattle.at_store.specs.Shown.{IsIdle}
use Rattle.at_body.specs.declared.candidates.Candidates.{Candidates}
use Rattle.at_body.specs.declared.forming.Forming.{Forming}
use Rattle.at_body.specs.declared.forming.Progress.{Progress}
use Rattle.at_body.specs.declared.forming.Progress.TheVariants as progress
use Rattle.at_body.specs.declared.task.Purpose.{Purpose}
use Rattle.at_body.specs.declared.task.Purpose.TheVariants as purpose
use Rattle.at_body.specs.declared.task.Task.{Task}
use Rattle.at_body.specs.declared.task.Task.TheVariants.{Right, Join, Element, Among}
use Rattle.at_body.specs.declared.task.Doing.{Doing}
use Rattle.at_body.specs.declared.task.Doing.TheVariants.{Form, Evaluate, Use, Made, Fail, Wait}
use Rattle.at_body.specs.declared.todo.Asking.{Asking}
use Rattle.at_body.specs.declared.trial.Trial.{Trial}
use Rattle.at_body.specs.Rest.{resumed}
use Rattle.at_body.specs.Values.{value_view}
use Rattle.at_body.specs.Typed.{PlaceKinds, scope_kinds, kinds_inside, IsPlaceOf, WaitsFor}
use Rattle.at_body.specs.Stacked.{below}
use Rattle.at_body.specs.Seeking.{candidates}
use Rattle.at_body.specs.Forms.{place_of}

-- a formula of booleans
abbrev pub IsForm : Rules → ClassAt ℕ → Formula ℕ → Type 0
IsForm rules at f = IsFormulaOf rules at AnyText Truth f

-- a value of the kind may be put to that, where it stands
pub data IsPurpose (rules : Rules) (at : ClassAt ℕ) (s : PlaceKinds) : Kind → Purpose → Type 0 where
  formula : (p : Bool) → IsPurpose rules at s Truth (purpose.Formula p)
  choose : (p : Bool) (a b : Bor Body) → HasKind rules (scope_kinds s) (body_view a.now) Truth →
      HasKind rules (scope_kinds s) (body_view b.now) Truth → IsPurpose rules at s Truth (purpose.Choose p a b)
  arguments : (c attribute : ℕ) (d : Attribute) (bs : Bor (List Body)) → slice_get rules.attributes attribute ≡ Some d → d.result ≡ Truth →
      is_sub rules.classes c d.class ≡ true → HaveKinds rules (scope_kinds s) (bodies_view bs.now) d.parameters →
      IsPurpose rules at s (Class c) (purpose.Arguments attribute bs)
  argument : (c : ℕ) (d : Attribute) (call : Box Asking) (bs : Bor (List Body)) (ks : List Kind) (k : Kind) (ls : List Kind) →
      slice_get rules.attributes call.value.attribute ≡ Some d → d.result ≡ Truth → is_sub rules.classes c d.class ≡ true → d.parameters ≡ ks ++ k ∷ ls →
      IfSome call.value.node (λ m. IsNodeOf rules.classes at m c) → AreArguments rules.classes at AnyText (map value_view call.value.done.items) ks →
      HaveKinds rules (scope_kinds s) (bodies_view bs.now) ls → IsPurpose rules at s k (purpose.Argument call bs)
  elements : (p : Bool) (c part b : ℕ) (e : Bor Body) → shape_of_part rules.classes c part ≡ Some (Many b) →
      HasKind rules (scope_kinds (kinds_inside s b)) (body_view e.now) Truth → IsPurpose rules at s (Class c) (purpose.Elements p part e)
  under : (p : Bool) (c b : ℕ) (look : Bor Lookup) (e : Bor Body) → shape_of_part rules.classes c look.now.part ≡ Some (Many b) →
      HasKind rules (scope_kinds (kinds_inside s b)) (body_view e.now) Truth → IsPurpose rules at s (Class c) (purpose.Under p look e)

-- tasks for formulas of booleans, above those that wait: one for each task that puts two together
pub data AreTasks (rules : Rules) (at : ClassAt ℕ) : PlaceKinds → List Task → List (Formula ℕ) → Type 0 where
  ended : (s : PlaceKinds) → AreTasks rules at s [] []
  right : (s : PlaceKinds) (c p : Bool) (e : Bor Body) (ts : List Task) (fs : List (Formula ℕ)) → HasKind rules (scope_kinds s) (body_view e.now) Truth →
      AreTasks rules at s ts fs → AreTasks rules at s (Right c p e ∷ ts) fs
  join : (s : PlaceKinds) (c : Bool) (f : Formula ℕ) (ts : List Task) (fs : List (Formula ℕ)) → IsForm rules at f →
      AreTasks rules at s ts fs → AreTasks rules at s (Join c ∷ ts) (f ∷ fs)
  element : (s : PlaceKinds) (b : ℕ) (p : Bool) (e : Bor Body) (ns : Bor (List ℕ)) (ts : List Task) (fs : List (Formula ℕ)) →
      HasKind rules (scope_kinds (kinds_inside s b)) (body_view e.now) Truth → AllByRecursion (λ m. IsNodeOf rules.classes at m b) ns.now →
      AreTasks rules at s ts fs → AreTasks rules at (kinds_inside s b) (Element p e ns ∷ ts) fs
  among : (s : PlaceKinds) (b : ℕ) (p : Bool) (mark : ℕ) (e : Bor Body) (ns : Box Candidates) (ts : List Task) (fs : List (Formula ℕ)) →
      HasKind rules (scope_kinds (kinds_inside s b)) (body_view e.now) Truth → AllByRecursion (λ m. IsNodeOf rules.classes at m b) (candidates ns.value mark) →
      IsIdle ns.value.store.now → AreTasks rules at s ts fs → AreTasks rules at (kinds_inside s b) (Among p mark e ns ∷ ts) fs

-- it stands at a place of these kinds, with tasks for what is to come
pub record Stands (rules : Rules) (at : ClassAt ℕ) (s : PlaceKinds) (t : Forming) (fs : List (Formula ℕ)) : Type 0 where
  pub place : IsPlaceOf rules.classes at s (place_of t)
  pub tasks : AreTasks rules at s t.tasks fs

-- it may go on with the formula of the expression
pub record Forms (rules : Rules) (at : ClassAt ℕ) (t : Forming) (b : Body) : Type 0 where
  pub kinds : PlaceKinds
  pub is : HasKind rules (scope_kinds kinds) (body_view b) Truth
  pub stands : Stands rules at kinds t t.pile

-- with the value of the expression, for that
pub record Evaluates (rules : Rules) (at : ClassAt ℕ) (t : Forming) (u : Purpose) (b : Body) : Type 0 where
  pub kinds : PlaceKinds
  pub kind : Kind
  pub is : HasKind rules (scope_kinds kinds) (body_view b) kind
  pub does : IsPurpose rules at kinds kind u
  pub stands : Stands rules at kinds t t.pile

-- with that value
pub record Uses (rules : Rules) (at : ClassAt ℕ) (t : Forming) (u : Purpose) (v : Value ℕ) : Type 0 where
  pub kinds : PlaceKinds
  pub kind : Kind
  pub is : IsOfKind rules.classes at v kind
  pub does : IsPurpose rules at kinds kind u
  pub stands : Stands rules at kinds t t.pile

-- with the formula on top
pub record Completes (rules : Rules) (at : ClassAt ℕ) (t : Forming) : Type 0 where
  pub kinds : PlaceKinds
  pub formula : Formula ℕ
  pub others : List (Formula ℕ)
  pub top : t.pile ≡ formula ∷ others
  pub is : IsForm rules at formula
  pub stands : Stands rules at kinds t others

-- with the formula on top, for a task that stood above the others
pub record Continues (rules : Rules) (at : ClassAt ℕ) (t : Forming) (task : Task) : Type 0 where
  pub kinds : PlaceKinds
  pub formula : Formula ℕ
  pub others : List (Formula ℕ)
  pub top : t.pile ≡ formula ∷ others
  pub is : IsForm rules at formula
  pub place : IsPlaceOf rules.classes at kinds (place_of t)
  pub tasks : AreTasks rules at kinds (task ∷ t.tasks) others

-- it calls an attribute that is left in the formula, with the first arguments done
pub record Calls (rules : Rules) (at : ClassAt ℕ) (t : Forming) (attribute : ℕ) (n : Option ℕ) (done : List (Value ℕ)) (es : Exprs) : Type 0 where
  pub kinds : PlaceKinds
  pub class : ℕ
  pub declaration : Attribute
  pub first : List Kind
  pub others : List Kind
  pub attribute_is : slice_get rules.attributes attribute ≡ Some declaration
  pub result : declaration.result ≡ Truth
  pub declared : is_sub rules.classes class declaration.class ≡ true
  pub parameters : declaration.parameters ≡ first ++ others
  pub node : IfSome n (λ m. IsNodeOf rules.classes at m class)
  pub arguments : AreArguments rules.classes at AnyText done first
  pub are : HaveKinds rules (scope_kinds kinds) es others
  pub stands : Stands rules at kinds t t.pile

-- it goes over these nodes
pub record GoesOver (rules : Rules) (at : ClassAt ℕ) (t : Forming) (e : Body) (ns : List ℕ) : Type 0 where
  pub kinds : PlaceKinds
  pub class : ℕ
  pub is : HasKind rules (scope_kinds (kinds_inside kinds class)) (body_view e) Truth
  pub nodes : AllByRecursion (λ m. IsNodeOf rules.classes at m class) ns
  pub stands : Stands rules at kinds t t.pile

-- behind an element with a formula on top
pub record Decides (rules : Rules) (at : ClassAt ℕ) (t : Forming) (e : Body) (ns : List ℕ) : Type 0 where
  pub kinds : PlaceKinds
  pub class : ℕ
  pub is : HasKind rules (scope_kinds (kinds_inside kinds class)) (body_view e) Truth
  pub nodes : AllByRecursion (λ m. IsNodeOf rules.classes at m class) ns
  pub stands : Stands rules at kinds t (below t.pile)

-- over those in a component of the node
pub record Folds (rules : Rules) (at : ClassAt ℕ) (t : Forming) (part : ℕ) (e : Body) (n : Option ℕ) : Type 0 where
  pub goes : GoesOver rules at t e []
  pub class : ℕ
  pub shape : shape_of_part rules.classes class part ≡ Some (Many goes.class)
  pub node : IfSome n (λ m. IsNodeOf rules.classes at m class)

-- it waits for the value of the instance, for that: its trial may be told it, and comes to a value of the kind
pub record Awaits (rules : Rules) (at : ClassAt ℕ) (look : Contents ℕ) (t : Forming) (u : Purpose) (j : Instance ℕ) : Type 0 where
  pub kinds : PlaceKinds
  pub kind : Kind
  pub does : IsPurpose rules at kinds kind u
  pub waits : WaitsFor rules at t.trial j
  pub comes : (v : Value ℕ) → IsOfItsKind rules at j v →
      IsTypedRun rules at AnyText look (λ w. IsOfKind rules.classes at w kind) (resumed rules.classes t.trial v)
  pub stands : Stands rules at kinds t t.pile

-- what it does next is of the right kinds
abbrev pub IsTypedDoing : Rules → ClassAt ℕ → Contents ℕ → Doing → Forming → Type 0
IsTypedDoing rules at look (Form p b) t = Forms rules at t b.now
IsTypedDoing rules at look (Evaluate u b) t = Evaluates rules at t u b.now
IsTypedDoing rules at look (Use u v) t = Uses rules at t u (value_view v)
IsTypedDoing rules at look Made t = Completes rules at t
IsTypedDoing rules at look (Fail k) t = ⊤
IsTypedDoing rules at look (Wait u j) t = Awaits rules at look t u j

-- and so is what it has come to: the formula is one of booleans, and one that waits may be told a value of the kind
abbrev pub IsTypedProgress : Rules → ClassAt ℕ → Contents ℕ → Progress → Forming → Type 0
IsTypedProgress rules at look (progress.Formula f) t = IsForm rules at f
IsTypedProgress rules at look (progress.Fault k) t = ⊤
IsTypedProgress rules at look (progress.Need j) t = (u : Purpose) × (t.purpose ≡ Some u) × Awaits rules at look t u j

-- it may be told that value
abbrev pub Takes : Rules → ClassAt ℕ → Contents ℕ → Forming → Value ℕ → Type 0
Takes rules at look t v = (u : Purpose) × (j : Instance ℕ) × (t.purpose ≡ Some u) × Awaits rules at look t u j × IsOfItsKind rules at j v
