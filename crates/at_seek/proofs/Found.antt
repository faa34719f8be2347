-- What is found of lists, and with what their tests begin.
use Rattle.std.proofs.Common.{◌≡◌, ◌<◌, ℕ, Bool, true, List, [], ◌∷◌, length, map, Option, None, Some, IfSome, refl, sym, ap, subst, ◌∙◌, option_map, option_and_then, slice_get, nat_eq, Vec, Box, rules, arith, eqb-true}
use Rattle.std.specs.Global.{Global}
use Rattle.std.specs.Vec.{vec_len}
use Rattle.at_model.specs.Classes.{Classes, Shape, Many, fits, is_concrete, is_sub}
use Rattle.at_model.specs.Drawers.{Key}
use Rattle.at_model.specs.Bodies.{Expr, Exprs, no_exprs, expr, Name, And, Equals, TokenOf, Call, Child, CastTo, Exists, First}
use Rattle.at_model.specs.Kinds.{ScopeKinds, bound_kinds, HasKind, HaveKinds, shape_of_part, single_class, call, cast_to, child, no_more}
use Rattle.at_model.specs.Kinds as has
use Rattle.at_model.specs.Rules.{Rules, Kind, Class, Attribute}
use Rattle.at_model.proofs.Below.{AreChained, sub_sub}
use Rattle.at_model.proofs.Chained.{chained}
use Rattle.at_model.proofs.Options.{and_true, both}
use Rattle.at_class.specs.Keys.{key_view}
use Rattle.at_class.specs.declared.key.Key.{Key as KeyCode}
use Rattle.at_rules.specs.Bodies.{bodies_view, body_view, kind_view, row_view, sought_view}
use Rattle.at_rules.specs.declared.body.Body.{Body, Row_of-Body, end_of-Body, more_of-Body, items-the_row-Body, the_lemmas}
use Rattle.at_rules.specs.declared.body.Body as body
use Rattle.at_rules.specs.declared.body.Kind.{Kind as KindCode}
use Rattle.at_rules.specs.declared.body.Lookup.{Lookup}
use Rattle.at_rules.specs.declared.body.Sought.{Sought}
use Rattle.at_rules.specs.declared.rules.Attribute.{Attribute as AttributeCode}
use Rattle.at_seek.specs.Finding.{BeginsBy, IsDeclaredAs, IsInside, IsOver, MaySeek, MaySeekIn, any, first, kinds_in}
use Rattle.at_seek.specs.Sought.{AreElements, AreKeyed, BeginsByKey, IsSoughtText, TestsByKey, and, attribute, token, turned}
use Rattle.at_seek.specs.declared.finder.Finder.{Finder}
use Rattle.at_seek.specs.declared.scope.Scope.{Scope}

-- the arguments of a call as a list
pub of_row : (n : _) (row : Row_of-Body n) → row_view row ≡ bodies_view (items-the_row-Body n row)
of_row _ end_of-Body = refl
of_row _ (more_of-Body b rest) = ap (expr (body_view b)) (of_row _ rest)

-- a call whose arguments stand in a list
pub call_seen : (p : Box Body Global) (a : ℕ) (bs : Vec Body Global) → body_view (body.Call p a bs) ≡ Call (body_view p.value) a (bodies_view bs.items)
call_seen p a bs = search (rules, the_lemmas, of_row)

pub call_told : (x : Body) (p : Box Body Global) (a : ℕ) (bs : Vec Body Global) (b : Body) (cs : List Body) → x ≡ body.Call p a bs → b ≡ p.value →
    cs ≡ bs.items → body_view x ≡ Call (body_view b) a (bodies_view cs)
call_told x p a bs b cs is q s = ap body_view is ∙ call_seen p a bs ∙ rw (q, s) refl

-- an attribute that tests at what is of a class does at what is of one below
pub tests_below : (rules : Rules) (finder : Finder) (key : Key) (element above k : ℕ) → IsOver rules finder → is_sub rules.classes element above ≡ true →
    TestsByKey rules key above k → TestsByKey rules key element k
tests_below rules finder key element above k over below tests = record {
  own = tests.own;
  strict = tests.strict;
  text = tests.text;
  equations = λ c e.
      let (concrete, sub) = both (is_concrete rules.classes c) (is_sub rules.classes c element) e in
      tests.equations c
      (and_true (is_concrete rules.classes c) (is_sub rules.classes c above) concrete
      (sub_sub rules.classes (chained rules.classes over.hierarchy) c element above sub below));
}

-- the key that is kept of an attribute that stands by that class
pub key_told : (rules : Rules) (finder : Finder) (o : Option KeyCode) (element k : ℕ) (e : (ℕ × ℕ) × AttributeCode) → IsOver rules finder →
    slice_get finder.attributes.now.entries k ≡ Some e → is_sub finder.classes.now element e.0.0 ≡ true →
    slice_get finder.keys.now k ≡ Some o → IfSome o (λ key. TestsByKey rules (key_view key) element k)
key_told rules finder None element k e over at below is = tt
key_told rules finder (Some key) element k e over at below is =
    let (a, there, as_is) = over.attributes k e at in
    tests_below rules finder (key_view key) element a.class k over
    (subst (λ d. is_sub rules.classes element d ≡ true) (sym as_is.class) (subst (λ cs. is_sub cs element e.0.0 ≡ true) over.classes below))
    (over.keys k key is a there)

-- a child, a cast, and an attribute
pub child_kind : (rules : Rules) (finder : Finder) (s : ScopeKinds) (e : Expr) (o : Option ℕ) (class part : ℕ) → IsOver rules finder →
    IfSome o (λ b. option_and_then single_class (shape_of_part finder.classes.now class part) ≡ Some b) →
    HasKind rules s e (Class class) → IfSome o (λ b. HasKind rules s (Child e part) (Class b))
child_kind rules finder s e None class part over h kind = tt
child_kind rules finder s e (Some b) class part over h kind =
    child class part b (subst (λ cs. option_and_then single_class (shape_of_part cs class part) ≡ Some b) over.classes h) kind

pub cast_kind : (rules : Rules) (finder : Finder) (s : ScopeKinds) (e : Expr) (class target : ℕ) → IsOver rules finder →
    target < length finder.classes.now → HasKind rules s e (Class class) → HasKind rules s (CastTo target e) (Class target)
cast_kind rules finder s e class target over less kind = cast_to class target (subst (λ cs. target < length cs) over.classes less) kind

pub call_kind : (rules : Rules) (finder : Finder) (s : ScopeKinds) (e : Expr) (o : Option ℕ) (class k : ℕ) (d : (ℕ × ℕ) × AttributeCode) → IsOver rules finder →
    slice_get finder.attributes.now.entries k ≡ Some d → is_sub finder.classes.now class d.0.0 ≡ true → d.1.params.items ≡ [] →
    IfSome o (λ c. kind_view d.1.result ≡ Class c) → HasKind rules s e (Class class) → IfSome o (λ c. HasKind rules s (Call e k no_exprs) (Class c))
call_kind rules finder s e None class k d over at below none h kind = tt
call_kind rules finder s e (Some c) class k d over at below none h kind =
    let (a, there, as_is) = over.attributes k d at in
    let few : a.parameters ≡ [] = as_is.parameters ∙ ap (map kind_view) none in
    let sub : is_sub rules.classes class a.class ≡ true =
    subst (λ b. is_sub rules.classes class b ≡ true) (sym as_is.class) (subst (λ cs. is_sub cs class d.0.0 ≡ true) over.classes below) in
    subst (λ r. HasKind rules s (Call e k no_exprs) r) (as_is.result ∙ h)
    (call class k a there sub kind (subst (λ ks. HaveKinds rules s no_exprs ks) (sym few) no_more))

-- the elements of a list
pub elements_of : (rules : Rules) (finder : Finder) (s : ScopeKinds) (e : Expr) (o : Option ℕ) (class part : ℕ) → IsOver rules finder →
    IfSome o (λ b. shape_of_part finder.classes.now class part ≡ Some (Many b)) → HasKind rules s e (Class class) →
    IfSome o (AreElements rules s e part)
elements_of rules finder s e None class part over h kind = tt
elements_of rules finder s e (Some b) class part over h kind = record {
  class = class;
  list = subst (λ cs. shape_of_part cs class part ≡ Some (Many b)) over.classes h;
  kind = kind;
}

-- tests that begin by a key
abbrev Begins : Rules → ScopeKinds → ℕ → Expr → KeyCode × Sought → Type 0
Begins rules s element test p = BeginsBy rules s (key_view p.0) (sought_view p.1) element test

pub begins_and : (rules : Rules) (s : ScopeKinds) (element : ℕ) (e f : Expr) (o : Option (KeyCode × Sought)) →
    IfSome o (λ p. BeginsBy rules s (key_view p.0) (sought_view p.1) element e) →
    IfSome o (λ p. BeginsBy rules s (key_view p.0) (sought_view p.1) element (And e f))
begins_and rules s element e f None h = tt
begins_and rules s element e f (Some p) h = record { inside = h.inside; sought = h.sought; begins = and h.begins }

abbrev pub KeyedBy : Rules → ScopeKinds → ℕ → ℕ → Expr → KeyCode × Sought → Type 0
KeyedBy rules s element t text p = AreKeyed rules (key_view p.0) element × ((key_view p.0).token ≡ t) × IsSoughtText s (sought_view p.1) text

pub begins_token : (rules : Rules) (s : ScopeKinds) (element t : ℕ) (e f : Expr) (o : Option (KeyCode × Sought)) → e ≡ TokenOf (Name 0) t →
    IfSome o (λ p. AreKeyed rules (key_view p.0) element × ((key_view p.0).token ≡ t) × IsSoughtText s (sought_view p.1) f) →
    IfSome o (λ p. BeginsBy rules s (key_view p.0) (sought_view p.1) element (Equals e f))
begins_token rules s element t e f None is h = tt
begins_token rules s element t e f (Some p) is (keyed, same, sought) = record {
  inside = f;
  sought = sought;
  begins = subst (λ x. BeginsByKey rules (key_view p.0) element f (Equals x f)) (ap (TokenOf (Name 0)) same ∙ sym is) (token keyed);
}

pub begins_turned : (rules : Rules) (s : ScopeKinds) (element t : ℕ) (e f : Expr) (o : Option (KeyCode × Sought)) → f ≡ TokenOf (Name 0) t →
    IfSome o (λ p. AreKeyed rules (key_view p.0) element × ((key_view p.0).token ≡ t) × IsSoughtText s (sought_view p.1) e) →
    IfSome o (λ p. BeginsBy rules s (key_view p.0) (sought_view p.1) element (Equals e f))
begins_turned rules s element t e f None is h = tt
begins_turned rules s element t e f (Some p) is (keyed, same, sought) = record {
  inside = e;
  sought = sought;
  begins = subst (λ x. BeginsByKey rules (key_view p.0) element e (Equals e x)) (ap (TokenOf (Name 0)) same ∙ sym is) (turned keyed);
}

pub begins_call : (rules : Rules) (s : ScopeKinds) (key : Key) (text : Expr) (element k : ℕ) (node inside : Expr) (es : Exprs) → node ≡ Name 0 →
    es ≡ expr inside no_exprs → IsSoughtText s text inside → TestsByKey rules key element k → BeginsBy rules s key text element (Call node k es)
begins_call rules s key text element k node inside es is only sought tests = record {
  inside = inside;
  sought = sought;
  begins = subst (λ x. BeginsByKey rules key element inside (Call x k es)) (sym is)
      (subst (λ y. BeginsByKey rules key element inside (Call (Name 0) k y)) (sym only) (attribute k tests));
}

-- what a name stands for
pub name_kind : (rules : Rules) (s : ScopeKinds) (i : ℕ) (k : KindCode) (o : Option ℕ) → slice_get s.names i ≡ Some (kind_view k) →
    IfSome o (λ c. kind_view k ≡ Class c) → IfSome o (λ c. HasKind rules s (Name i) (Class c))
name_kind rules s i k None at h = tt
name_kind rules s i k (Some c) at h = has.name i (at ∙ ap Some h)

-- the same of an expression that is the same one
pub same_kind : (rules : Rules) (s : ScopeKinds) (o : Option ℕ) (e f : Expr) → e ≡ f →
    IfSome o (λ c. HasKind rules s f (Class c)) → IfSome o (λ c. HasKind rules s e (Class c))
same_kind rules s o e f is h = subst (λ x. IfSome o (λ c. HasKind rules s x (Class c))) (sym is) h

pub same_begins : (rules : Rules) (s : ScopeKinds) (element : ℕ) (o : Option (KeyCode × Sought)) (e f : Expr) → e ≡ f →
    IfSome o (λ p. BeginsBy rules s (key_view p.0) (sought_view p.1) element f) →
    IfSome o (λ p. BeginsBy rules s (key_view p.0) (sought_view p.1) element e)
same_begins rules s element o e f is h =
    subst (λ x. IfSome o (λ p. BeginsBy rules s (key_view p.0) (sought_view p.1) element x)) (sym is) h

-- a list of no elements
pub none_there : {A : Type 0} (v : Vec A Global) → nat_eq (vec_len v) 0 ≡ true → v.items ≡ []
none_there v e = empty v.items (sym v.ok.0 ∙ eqb-true v.len 0 e)
  where
    empty : {A : Type 0} (xs : List A) → length xs ≡ 0 → xs ≡ []
    empty [] e = refl
    empty (x ∷ xs) e = absurd (omega (arith, e))

-- a fold over that list with that test
pub may_any : (rules : Rules) (s : ScopeKinds) (h : Bool) (o : Option (Box Lookup Global × Scope)) (x list test : Expr) (part : ℕ) →
    x ≡ Exists list part test → IfSome o (λ p. MaySeekIn rules s (kinds_in p.1 h) p.0.value list part test) →
    IfSome o (λ p. MaySeek rules s (kinds_in p.1 h) p.0.value x)
may_any rules s h None x list test part is m = tt
may_any rules s h (Some p) x list test part is m = subst (λ y. MaySeek rules s (kinds_in p.1 h) p.0.value y) (sym is) (any part m)

pub may_first : (rules : Rules) (s : ScopeKinds) (h : Bool) (o : Option (Box Lookup Global × Scope)) (x list test : Expr) (part : ℕ) →
    x ≡ First list part test → IfSome o (λ p. MaySeekIn rules s (kinds_in p.1 h) p.0.value list part test) →
    IfSome o (λ p. MaySeek rules s (kinds_in p.1 h) p.0.value x)
may_first rules s h None x list test part is m = tt
may_first rules s h (Some p) x list test part is m = subst (λ y. MaySeek rules s (kinds_in p.1 h) p.0.value y) (sym is) (first part m)

pub may_in : (rules : Rules) (s inner : ScopeKinds) (look l : Lookup) (list test : Expr) (part element : ℕ) → look ≡ l →
    AreElements rules s list part element → inner ≡ bound_kinds s element → l.part ≡ part →
    BeginsBy rules s (key_view l.key) (sought_view l.sought) element test → MaySeekIn rules s inner look list part test
may_in rules s inner look l list test part element is elements bound place begins = subst (λ x. MaySeekIn rules s inner x list part test) (sym is)
    (record { element = element; elements = elements; bound = bound; place = sym place; begins = begins })

pub is_inside : (rules : Rules) (s : ScopeKinds) (h : Bool) (list : Expr) (part element : ℕ) (o : Option Scope) →
    AreElements rules s list part element → IfSome o (λ inner. kinds_in inner h ≡ bound_kinds s element) →
    IfSome o (λ inner. IsInside rules s list part (kinds_in inner h))
is_inside rules s h list part element None elements is = tt
is_inside rules s h list part element (Some inner) elements is = record { element = element; elements = elements; bound = is }
