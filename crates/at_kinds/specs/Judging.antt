-- The kinds of expressions as they are written, and the bodies that they mean; or their first fault: parts before the whole, from
-- left to right. The place of a fault is that of the form at which it is found, or of an argument.
use Rattle.std.specs.Prelude.{ℕ, Bool, true, false, ◌&&◌, not, nat_eq, List, [], ◌∷◌, length, codes, position, Option, Some, None, option_map, option_and_then, slice_get, if◌then◌else◌}
use Rattle.std.specs.Str.{bytes_eq}
use Rattle.at_model.specs.Classes.{Classes, class_of_name}
use Rattle.at_model.specs.Bodies as body
use Rattle.at_model.specs.Bodies.{Expr, Exprs, no_exprs, expr}
use Rattle.at_text.specs.declared.place.Place.{Place}
use Rattle.at_jrag.specs.Syntax.{Word, place}
use Rattle.at_jrag.specs.Syntax as written
use Rattle.at_kinds.specs.Signatures.{Declared, declared_named}
use Rattle.at_kinds.specs.Accessors.{accessor_named, listed}
use Rattle.at_kinds.specs.Kinds.{known, of_written, is_int, is_truth, is_text, is_node, fits, wider, are_ints, are_truths, are_alike}
use Rattle.at_kinds.specs.declared.arguments.Arguments.{Arguments}
use Rattle.at_kinds.specs.declared.arguments.Arguments.TheVariants.{Given, Computed}
use Rattle.at_kinds.specs.declared.code.RuleCode.{RuleCode}
use Rattle.at_kinds.specs.declared.code.RuleCode.TheVariants as code
use Rattle.at_rules.specs.declared.body.Kind.TheVariants as kind
use Rattle.at_kinds.specs.declared.signatures.WrittenKind.{WrittenKind}
use Rattle.at_kinds.specs.declared.signatures.WrittenKind.TheVariants.{Known}
use Rattle.at_kinds.specs.declared.accessors.Accessor.{Accessor}
use Rattle.at_kinds.specs.declared.accessors.Accessor.TheVariants as accessor
use Rattle.at_kinds.specs.declared.typing.kinds.ExprKind.{ExprKind}
use Rattle.at_kinds.specs.declared.typing.kinds.ExprKind.TheVariants.{Int, Bool as Truth, Text, Class, Strange, Null}

-- an expression where it stands, with its kind and the body that it means
pub record Kinded : Type 0 where
  pub at : Place
  pub kind : ExprKind
  pub body : Expr

-- what is found, or the first fault
pub data Judgement (A : Type 0) : Type 0 where
  Is : A → Judgement A
  Wrong : RuleCode → Place → Judgement A

abbrev pub Judged : Type 0
Judged = Judgement Kinded

-- what is made of a part, or the part's fault
abbrev pub and_then : {A B : Type 0} → (A → Judgement B) → Judgement A → Judgement B
and_then f (Is a) = f a
and_then f (Wrong c at) = Wrong c at

abbrev pub of_kind : Place → ExprKind → Expr → Judged
of_kind at k e = Is (record { at = at; kind = k; body = e })

-- where the condition holds; else it is a wrong kind
abbrev pub kind_if : Bool → Place → ExprKind → Expr → Judged
kind_if b at k e = if b then of_kind at k e else Wrong code.Kind at

-- a parameter's or a fold's name, with the kind of what it stands for
pub record Bound : Type 0 where
  pub name : List ℕ
  pub kind : WrittenKind

-- where an expression stands: `this` is a node of the class, and the innermost name comes first
pub record Scope : Type 0 where
  pub classes : Classes
  pub declared : List Declared
  pub arguments : Arguments
  pub this : ℕ
  pub names : List Bound
  pub index : Option (List ℕ)

-- in the braces of a fold over nodes of class c
abbrev pub within : Scope → List ℕ → ℕ → Scope
within s name c = record s { names = record { name = name; kind = Known (kind.Class c) } ∷ s.names }

-- names ---------------------------------------------------------------------------------------------------------------

abbrev pub index_eq : Option (List ℕ) → List ℕ → Bool
index_eq None name = false
index_eq (Some index) name = bytes_eq index name

-- what is bound to the name, and at which position
abbrev pub bound_to : List Bound → List ℕ → Option (ℕ × WrittenKind)
bound_to bs name = option_and_then (λ i. option_map (λ b. (i, b.kind)) (slice_get bs i)) (position (λ b. bytes_eq b.name name) bs)

abbrev pub index_named : Place → Bool → Judged
index_named at is_index = if is_index then of_kind at Int body.IndexName else Wrong code.UnknownName at

abbrev pub named_by : Place → Bool → Option (ℕ × WrittenKind) → Judged
named_by at is_index (Some b) = of_kind at (of_written b.1) (body.Name b.0)
named_by at is_index None = index_named at is_index

-- the innermost fold's name comes first, then the parameters, then the index name
abbrev pub named : Scope → Place → List ℕ → Judged
named s at name = named_by at (index_eq s.index name) (bound_to s.names name)

abbrev pub this_node : Scope → Place → Kinded
this_node s at = record { at = at; kind = Class s.this; body = body.This }

-- operators -----------------------------------------------------------------------------------------------------------

abbrev pub negation : Place → Kinded → Judged
negation at k = kind_if (is_int k.kind) at Int (body.Negate k.body)

abbrev pub opposite : Place → Kinded → Judged
opposite at k = kind_if (is_truth k.kind) at Truth (body.Not k.body)

-- two ints
abbrev pub computed : Place → body.Operator → Kinded → Kinded → Judged
computed at o j k = kind_if (are_ints j.kind k.kind) at Int (body.Arithmetic o j.body k.body)

abbrev pub ordered : Place → body.Order → Kinded → Kinded → Judged
ordered at o j k = kind_if (are_ints j.kind k.kind) at Truth (body.Compare o j.body k.body)

-- a text joined with a text, or with an int
abbrev pub text_joined : Place → Expr → ExprKind → Expr → Judged
text_joined at a Text b = of_kind at Text (body.Join a b)
text_joined at a Int b = of_kind at Text (body.JoinInt a b)
text_joined at a k b = Wrong code.Kind at

-- `+`
abbrev pub added : Place → Kinded → Kinded → Judged
added at j k = if is_text j.kind then text_joined at j.body k.kind k.body else computed at body.Add j k

abbrev pub joined : Place → written.Operator → Kinded → Kinded → Judged
joined at written.Add j k = added at j k
joined at written.Subtract j k = computed at body.Subtract j k
joined at written.Multiply j k = computed at body.Multiply j k
joined at written.Divide j k = computed at body.Divide j k
joined at written.Remainder j k = computed at body.Remainder j k
joined at written.Below j k = ordered at body.Below j k
joined at written.AtMost j k = ordered at body.AtMost j k
joined at written.Above j k = ordered at body.Above j k
joined at written.AtLeast j k = ordered at body.AtLeast j k
joined at written.Same j k = kind_if (are_alike j.kind k.kind) at Truth (body.Same j.body k.body)
joined at written.Differs j k = kind_if (are_alike j.kind k.kind) at Truth (body.Differ j.body k.body)
joined at written.And j k = kind_if (are_truths j.kind k.kind) at Truth (body.And j.body k.body)
joined at written.Or j k = kind_if (are_truths j.kind k.kind) at Truth (body.Or j.body k.body)

abbrev pub of_wider : Place → Expr → Option ExprKind → Judged
of_wider at e None = Wrong code.Kind at
of_wider at e (Some k) = of_kind at k e

-- c ? a : b
abbrev pub chosen : Classes → Place → Kinded → Kinded → Kinded → Judged
chosen classes at c j k = if is_truth c.kind then of_wider at (body.Choose c.body j.body k.body) (wider classes j.kind k.kind) else Wrong code.Kind at

-- casts and `instanceof` ----------------------------------------------------------------------------------------------

abbrev pub beside : Place → ExprKind → Option ℕ → Judgement ℕ
beside at k None = Wrong code.UnknownName at
beside at k (Some c) = if is_node k then Is c else Wrong code.Kind at

-- the class has to be there, and what stands beside it a node or null
abbrev pub class_beside : Classes → Place → Word → Kinded → Judgement ℕ
class_beside classes at class k = beside at k.kind (class_of_name classes class.text)

abbrev pub cast : Classes → Place → Word → Kinded → Judged
cast classes at class k = and_then (λ c. of_kind at (Class c) (body.CastTo c k.body)) (class_beside classes at class k)

abbrev pub tested : Classes → Place → Word → Kinded → Judged
tested classes at class k = and_then (λ c. of_kind at Truth (body.InstanceOf k.body c)) (class_beside classes at class k)

-- calls ---------------------------------------------------------------------------------------------------------------

-- the only argument of a call
abbrev pub only : Place → List Kinded → Judged
only at [] = Wrong code.Argument at
only at (k ∷ []) = Is k
only at (k ∷ l ∷ ks) = Wrong code.Argument at

abbrev pub where_fit : Bool → Kinded → Judgement Expr
where_fit b k = if b then Is k.body else Wrong code.Argument k.at

-- the only argument of a call, where it passes the test
abbrev pub one_argument : (ExprKind → Bool) → Place → List Kinded → Judgement Expr
one_argument test at ks = and_then (λ k. where_fit (test k.kind) k) (only at ks)

-- a.equals(b)
abbrev pub equal : Place → Kinded → List Kinded → Judged
equal at k ks = if is_text k.kind then and_then (λ e. of_kind at Truth (body.Equals k.body e)) (one_argument is_text at ks) else Wrong code.Kind at

-- without arguments
abbrev pub alone : Place → List Kinded → Judged → Judged
alone at [] j = j
alone at (k ∷ ks) j = Wrong code.Argument at

-- an accessor of a node; that of a list stands only in folds
abbrev pub accessed : Place → Accessor → Expr → List Kinded → Judged
accessed at (accessor.Child part c) e ks = alone at ks (of_kind at (Class c) (body.Child e part))
accessed at (accessor.Element part c) e ks = and_then (λ i. of_kind at (Class c) (body.Element e part i)) (one_argument is_int at ks)
accessed at (accessor.Token part k) e ks = alone at ks (of_kind at (known k) (body.TokenOf e part))
accessed at (accessor.Has part) e ks = alone at ks (of_kind at Truth (body.Has e part))
accessed at (accessor.Count part) e ks = alone at ks (of_kind at Int (body.Count e part))
accessed at (accessor.List part) e ks = alone at ks (Wrong code.Kind at)

-- a text that was given: a literal, a parameter's, a token's
abbrev pub is_given_text : Expr → Bool
is_given_text (body.TextLiteral bytes) = true
is_given_text (body.Name i) = true
is_given_text (body.TokenOf e part) = true
is_given_text e = false

abbrev pub is_text_word : WrittenKind → Bool
is_text_word (Known kind.Text) = true
is_text_word k = false

-- it may stand for a parameter of that kind, which it fits
abbrev pub is_allowed : Arguments → WrittenKind → Expr → Bool
is_allowed Given p e = if is_text_word p then is_given_text e else true
is_allowed Computed p e = true

-- it may be the argument for a parameter of that kind
abbrev pub is_argument : Arguments → Classes → Kinded → WrittenKind → Bool
is_argument allowed classes k p = fits classes k.kind p && is_allowed allowed p k.body

-- the place of the first argument that is wrong for its parameter
abbrev pub misfit : Arguments → Classes → List Kinded → List WrittenKind → Option Place
misfit allowed classes [] ps = None
misfit allowed classes (k ∷ ks) [] = None
misfit allowed classes (k ∷ ks) (p ∷ ps) = if is_argument allowed classes k p then misfit allowed classes ks ps else Some k.at

-- an int that is written out
abbrev pub is_number : Expr → Bool
is_number (body.IntLiteral n) = true
is_number e = false

-- an int that isn't written out, or a text that wasn't given
abbrev pub is_computed : ExprKind → Expr → Bool
is_computed Int e = not (is_number e)
is_computed Text e = not (is_given_text e)
is_computed k e = false

-- the body of an argument: what is computed is looked at when it is passed
abbrev pub passed_for : Arguments → Kinded → Expr
passed_for Given k = k.body
passed_for Computed k = if is_computed k.kind k.body then body.Passed k.body else k.body

abbrev pub bodies : Arguments → List Kinded → Exprs
bodies allowed [] = no_exprs
bodies allowed (k ∷ ks) = expr (passed_for allowed k) (bodies allowed ks)

abbrev pub bodies_or : Arguments → List Kinded → Option Place → Judgement Exprs
bodies_or allowed ks None = Is (bodies allowed ks)
bodies_or allowed ks (Some at) = Wrong code.Argument at

-- as many arguments as parameters, each of which fits
abbrev pub fitted : Arguments → Classes → Place → List Kinded → List WrittenKind → Judgement Exprs
fitted allowed classes at ks ps =
    if nat_eq (length ks) (length ps) then bodies_or allowed ks (misfit allowed classes ks ps) else Wrong code.Argument at

abbrev pub demanded_of : Arguments → Classes → Place → ℕ → Option Declared → Expr → List Kinded → Judged
demanded_of allowed classes at a None e ks = Wrong code.UnknownName at
demanded_of allowed classes at a (Some d) e ks =
    and_then (λ es. of_kind at (of_written d.result) (body.Call e a es)) (fitted allowed classes at ks d.parameters)

abbrev pub demanded : Scope → Place → Option ℕ → Expr → List Kinded → Judged
demanded s at None e ks = Wrong code.UnknownName at
demanded s at (Some a) e ks = demanded_of s.arguments s.classes at a (slice_get s.declared a) e ks

abbrev pub asked_by : Scope → Place → Option ℕ → Option Accessor → Expr → List Kinded → Judged
asked_by s at a (Some accessor) e ks = accessed at accessor e ks
asked_by s at a None e ks = demanded s at a e ks

-- an accessor or an attribute of nodes of class c
abbrev pub asked : Scope → Place → List ℕ → ℕ → Expr → List Kinded → Judged
asked s at name c e ks = asked_by s at (declared_named s.classes s.declared c name) (accessor_named s.classes c name) e ks

abbrev pub asked_of : Scope → Place → List ℕ → ExprKind → Expr → List Kinded → Judged
asked_of s at name (Class c) e ks = asked s at name c e ks
asked_of s at name (Strange first) e ks = Wrong code.UnknownName at
asked_of s at name k e ks = Wrong code.Kind at

-- a call of a receiver: texts have `equals`, nodes have accessors and attributes
abbrev pub called : Scope → Place → List ℕ → Kinded → List Kinded → Judged
called s at name k ks = if bytes_eq name (codes "equals") then equal at k ks else asked_of s at name k.kind k.body ks

-- folds ---------------------------------------------------------------------------------------------------------------

-- what a fold goes over: the node of the list, its component, and the class of its elements; no component where it is no list
pub record Listed : Type 0 where
  pub node : Expr
  pub part : Option ℕ
  pub class : ℕ

-- what is no list: its braces are looked at where it has nodes of a class, and else it is a wrong kind of the fold
abbrev pub nodes_of : Place → ExprKind → Expr → Judgement Listed
nodes_of fold (Class c) e = Is (record { node = e; part = None; class = c })
nodes_of fold k e = Wrong code.Kind fold

abbrev pub no_list : Place → Kinded → Judgement Listed
no_list fold k = nodes_of fold k.kind k.body

-- the list that nodes of that kind have under that name, and the class of its elements
abbrev pub list_named : Classes → ExprKind → List ℕ → Option (ℕ × ℕ)
list_named classes (Class c) name = listed classes c name
list_named classes k name = None

abbrev pub without : Place → List Kinded → Listed → Judgement Listed
without at [] l = Is l
without at (k ∷ ks) l = Wrong code.Argument at

-- a call that is no list, if it has no fault itself
abbrev pub list_by : Place → Place → Option (ℕ × ℕ) → Judged → Kinded → List Kinded → Judgement Listed
list_by fold at None call k ks = and_then (no_list fold) call
list_by fold at (Some l) call k ks = without at ks (record { node = k.body; part = Some l.0; class = l.1 })

abbrev pub list_called : Scope → Place → Place → List ℕ → Kinded → List Kinded → Judgement Listed
list_called s fold at name k ks = list_by fold at (list_named s.classes k.kind name) (called s at name k ks) k ks

-- what is no call is no list
abbrev pub list_or : Place → Judged → Option (Judgement Listed) → Judgement Listed
list_or fold whole None = and_then (no_list fold) whole
list_or fold whole (Some l) = l

-- a fold over the list in that component
abbrev pub folded_over : Place → written.FoldForm → Listed → ℕ → Kinded → Judged
folded_over at written.Exists l part k = kind_if (is_truth k.kind) at Truth (body.Exists l.node part k.body)
folded_over at written.First l part k = kind_if (is_truth k.kind) at (Class l.class) (body.First l.node part k.body)
folded_over at written.Sum l part k = kind_if (is_int k.kind) at Int (body.Sum l.node part k.body)

-- behind the braces the whole: over what is no list it is a wrong kind
abbrev pub folded_in : Place → written.FoldForm → Listed → Option ℕ → Kinded → Judged
folded_in at form l None k = Wrong code.Kind at
folded_in at form l (Some part) k = folded_over at form l part k

abbrev pub folded : Place → written.FoldForm → Listed → Kinded → Judged
folded at form l k = folded_in at form l l.part k

-- ---------------------------------------------------------------------------------------------------------------------

-- in parentheses it stands where they begin
abbrev pub placed : Place → Kinded → Judged
placed at k = of_kind at k.kind k.body

abbrev mutual
  -- the expression where it stands
  pub judged : Scope → written.Expr → Judged
  judged s (written.Number at n) = of_kind at Int (body.IntLiteral n)
  judged s (written.TextLiteral at bytes) = of_kind at Text (body.TextLiteral bytes)
  judged s (written.Truth at b) = of_kind at Truth (body.TruthLiteral b)
  judged s (written.Null at) = of_kind at Null body.NullLiteral
  judged s (written.This at) = Is (this_node s at)
  judged s (written.Name at name) = named s at name
  judged s (written.Call at name es) = and_then (called s at name (this_node s at)) (judged_all s es)
  judged s (written.CallOf at e name es) = and_then (λ k. and_then (called s at name k) (judged_all s es)) (judged s e)
  judged s (written.Paren at e) = and_then (placed at) (judged s e)
  judged s (written.Negate at e) = and_then (negation at) (judged s e)
  judged s (written.Not at e) = and_then (opposite at) (judged s e)
  judged s (written.Cast at class e) = and_then (cast s.classes at class) (judged s e)
  judged s (written.InstanceOf at e behind class) = and_then (tested s.classes at class) (judged s e)
  judged s (written.Binary at o between a b) = and_then (λ j. and_then (joined at o j) (judged s b)) (judged s a)
  judged s (written.Choose at c behind a b) = and_then (λ i. and_then (λ j. and_then (chosen s.classes at i j) (judged s b)) (judged s a)) (judged s c)
  judged s (written.Fold at form name list e) =
      and_then (λ l. and_then (folded at form l) (judged (within s name.text l.class) e)) (list_or at (judged s list) (judged_list s at list))

  -- the arguments of a call, from left to right
  pub judged_all : Scope → written.Exprs → Judgement (List Kinded)
  judged_all s written.no_exprs = Is []
  judged_all s (written.expr e es) = and_then (λ k. and_then (λ ks. Is (k ∷ ks)) (judged_all s es)) (judged s e)

  -- a call as the list of a fold
  pub judged_list : Scope → Place → written.Expr → Option (Judgement Listed)
  judged_list s fold (written.Call at name es) = Some (and_then (list_called s fold at name (this_node s at)) (judged_all s es))
  judged_list s fold (written.CallOf at e name es) = Some (and_then (λ k. and_then (list_called s fold at name k) (judged_all s es)) (judged s e))
  judged_list s fold e = None

-- of the wanted kind; else it is a wrong kind
abbrev pub fitting : Classes → WrittenKind → Place → Kinded → Judgement Expr
fitting classes wanted at k = if fits classes k.kind wanted then Is k.body else Wrong code.Kind at

-- the body of the wanted kind that the expression means, or its first fault
abbrev pub body_of : Scope → written.Expr → WrittenKind → Judgement Expr
body_of s e wanted = and_then (fitting s.classes wanted (place e)) (judged s e)
