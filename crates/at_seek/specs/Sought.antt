-- Rules in which some folds over lists are searches for a text: which folds may be, and that all else is as it was.
use Rattle.std.specs.Prelude.{◌≡◌, ℕ, suc, Bool, true, false, List, [], ◌∷◌, None, Some, slice_get, ⊤}
use Rattle.at_model.specs.Classes.{Classes, Many, Token, fits}
use Rattle.at_model.specs.Classes as class
use Rattle.at_model.specs.Drawers.{Key, has_key}
use Rattle.at_model.specs.Bodies.{Expr, Exprs, no_exprs, expr, TextLiteral, Name, Negate, Not, Operator, Arithmetic, Order, Compare, Join, JoinInt, Same, Differ, And, Or, Choose, Equals, InstanceOf, CastTo, Child, Element, Count, Has, TokenOf, Call, Exists, First, Sum, SeekAny, SeekFirst, Fold, Close, Listed, Only, Union, Contains, Over, Children, Parent, Passed}
use Rattle.at_model.specs.Rules.{Rules, Text, Class, Nodes, Attribute, OwnEquation, InheritedEquation, is_inherited, own_equation, start_of}
use Rattle.at_model.specs.Kinds.{ScopeKinds, bound_kinds, shape_of_part, HasKind, IsInheritedOf, is_for_list}
use Rattle.at_model.specs.Seeking.{IsTest}

-- tests by a key ------------------------------------------------------------------------------------------------------

-- the text that is looked for, a literal or what a name stands for; and the same inside the braces of a fold
pub data IsSoughtText : ScopeKinds → Expr → Expr → Type 0 where
  literal : {s : ScopeKinds} (bytes : List ℕ) → IsSoughtText s (TextLiteral bytes) (TextLiteral bytes)
  name : {s : ScopeKinds} (i : ℕ) → slice_get s.names i ≡ Some Text → IsSoughtText s (Name i) (Name (suc i))

-- the key's token of nodes of the class is a text
abbrev pub HasTextKey : Classes → Key → ℕ → Type 0
HasTextKey classes key c = shape_of_part classes c key.token ≡ Some (Token class.Text)

-- all nodes that may stand in a list of the class have the key
abbrev pub AreKeyed : Rules → Key → (element : ℕ) → Type 0
AreKeyed rules key element = (c : ℕ) → fits rules.classes c element ≡ true → (has_key key c ≡ true) × HasTextKey rules.classes key c

-- the attribute has one parameter, a text
abbrev pub IsOfText : Rules → (attribute : ℕ) → Type 0
IsOfText rules attribute = (a : Attribute) × (slice_get rules.attributes attribute ≡ Some a) × (a.parameters ≡ Text ∷ [])

-- the equation of nodes of that class compares the key's token with the argument, or is `false` where they have no key
abbrev pub HasTest : Rules → Key → (attribute : ℕ) → ℕ → Type 0
HasTest rules key attribute c =
    (e : Expr) × (own_equation rules c attribute ≡ Some e)
    × IsTest key (has_key key c) e × (has_key key c ≡ true → HasTextKey rules.classes key c)

-- the attribute is the node's own and isn't circular, and tests by the key whatever may stand in a list of the class
pub record TestsByKey (rules : Rules) (key : Key) (element attribute : ℕ) : Type 0 where
  pub own : is_inherited rules attribute ≡ false
  pub strict : start_of rules attribute ≡ None
  pub text : IsOfText rules attribute
  pub equations : (c : ℕ) → fits rules.classes c element ≡ true → HasTest rules key attribute c

-- what is asked of elements begins with a test by the key for the text, as it is said inside the braces
pub data BeginsByKey (rules : Rules) (key : Key) (element : ℕ) (text : Expr) : Expr → Type 0 where
  token : AreKeyed rules key element → BeginsByKey rules key element text (Equals (TokenOf (Name 0) key.token) text)
  turned : AreKeyed rules key element → BeginsByKey rules key element text (Equals text (TokenOf (Name 0) key.token))
  attribute : (a : ℕ) → TestsByKey rules key element a → BeginsByKey rules key element text (Call (Name 0) a (expr text no_exprs))
  and : {e f : Expr} → BeginsByKey rules key element text e → BeginsByKey rules key element text (And e f)

-- expressions ---------------------------------------------------------------------------------------------------------

-- the elements of that list component of what the expression comes to are of the class
pub record AreElements (rules : Rules) (s : ScopeKinds) (a : Expr) (part element : ℕ) : Type 0 where
  pub class : ℕ
  pub list : shape_of_part rules.classes class part ≡ Some (Many element)
  pub kind : HasKind rules s a (Class class)

-- such nodes are gone over each once: not those which this adds to them
abbrev pub is_over : Fold → Bool
is_over Close = false
is_over fold = true

-- In a scope of these kinds the second expression is the first one, where some folds over lists are searches.
mutual
  pub data IsSearched (rules : Rules) : ScopeKinds → Expr → Expr → Type 0 where
    itself : {s : ScopeKinds} (e : Expr) → IsSearched rules s e e
    seek_any : {s : ScopeKinds} {a a' t u e f : Expr} (part element : ℕ) (key : Key) → AreElements rules s a part element →
        IsSoughtText s t u → BeginsByKey rules key element u e →
        IsSearched rules s a a' → IsSearched rules (bound_kinds s element) e f → IsSearched rules s (Exists a part e) (SeekAny a' part key t f)
    seek_first : {s : ScopeKinds} {a a' t u e f : Expr} (part element : ℕ) (key : Key) → AreElements rules s a part element →
        IsSoughtText s t u → BeginsByKey rules key element u e →
        IsSearched rules s a a' → IsSearched rules (bound_kinds s element) e f → IsSearched rules s (First a part e) (SeekFirst a' part key t f)
    exists : {s : ScopeKinds} {a a' e f : Expr} (part : ℕ) →
        IsSearched rules s a a' → IsSearchedIn rules s a part e f → IsSearched rules s (Exists a part e) (Exists a' part f)
    first : {s : ScopeKinds} {a a' e f : Expr} (part : ℕ) →
        IsSearched rules s a a' → IsSearchedIn rules s a part e f → IsSearched rules s (First a part e) (First a' part f)
    sum : {s : ScopeKinds} {a a' e f : Expr} (part : ℕ) →
        IsSearched rules s a a' → IsSearchedIn rules s a part e f → IsSearched rules s (Sum a part e) (Sum a' part f)
    over : {s : ScopeKinds} {a a' e f : Expr} (fold : Fold) →
        IsSearched rules s a a' → IsSearchedOver rules s fold a e f → IsSearched rules s (Over fold a e) (Over fold a' f)
    call : {s : ScopeKinds} {a a' : Expr} {es fs : Exprs} (attribute : ℕ) →
        IsSearched rules s a a' → AreSearched rules s es fs → IsSearched rules s (Call a attribute es) (Call a' attribute fs)
    negate : {s : ScopeKinds} {a a' : Expr} → IsSearched rules s a a' → IsSearched rules s (Negate a) (Negate a')
    opposite : {s : ScopeKinds} {a a' : Expr} → IsSearched rules s a a' → IsSearched rules s (Not a) (Not a')
    arithmetic : {s : ScopeKinds} {a a' b b' : Expr} (o : Operator) →
        IsSearched rules s a a' → IsSearched rules s b b' → IsSearched rules s (Arithmetic o a b) (Arithmetic o a' b')
    compare : {s : ScopeKinds} {a a' b b' : Expr} (o : Order) →
        IsSearched rules s a a' → IsSearched rules s b b' → IsSearched rules s (Compare o a b) (Compare o a' b')
    join : {s : ScopeKinds} {a a' b b' : Expr} → IsSearched rules s a a' → IsSearched rules s b b' → IsSearched rules s (Join a b) (Join a' b')
    join_int : {s : ScopeKinds} {a a' b b' : Expr} →
        IsSearched rules s a a' → IsSearched rules s b b' → IsSearched rules s (JoinInt a b) (JoinInt a' b')
    same : {s : ScopeKinds} {a a' b b' : Expr} → IsSearched rules s a a' → IsSearched rules s b b' → IsSearched rules s (Same a b) (Same a' b')
    differ : {s : ScopeKinds} {a a' b b' : Expr} →
        IsSearched rules s a a' → IsSearched rules s b b' → IsSearched rules s (Differ a b) (Differ a' b')
    and : {s : ScopeKinds} {a a' b b' : Expr} → IsSearched rules s a a' → IsSearched rules s b b' → IsSearched rules s (And a b) (And a' b')
    or : {s : ScopeKinds} {a a' b b' : Expr} → IsSearched rules s a a' → IsSearched rules s b b' → IsSearched rules s (Or a b) (Or a' b')
    choose : {s : ScopeKinds} {c c' a a' b b' : Expr} →
        IsSearched rules s c c' → IsSearched rules s a a' → IsSearched rules s b b' → IsSearched rules s (Choose c a b) (Choose c' a' b')
    equals : {s : ScopeKinds} {a a' b b' : Expr} →
        IsSearched rules s a a' → IsSearched rules s b b' → IsSearched rules s (Equals a b) (Equals a' b')
    instance_of : {s : ScopeKinds} {a a' : Expr} (class : ℕ) → IsSearched rules s a a' → IsSearched rules s (InstanceOf a class) (InstanceOf a' class)
    cast_to : {s : ScopeKinds} {a a' : Expr} (class : ℕ) → IsSearched rules s a a' → IsSearched rules s (CastTo class a) (CastTo class a')
    child : {s : ScopeKinds} {a a' : Expr} (part : ℕ) → IsSearched rules s a a' → IsSearched rules s (Child a part) (Child a' part)
    element : {s : ScopeKinds} {a a' b b' : Expr} (part : ℕ) →
        IsSearched rules s a a' → IsSearched rules s b b' → IsSearched rules s (Element a part b) (Element a' part b')
    count : {s : ScopeKinds} {a a' : Expr} (part : ℕ) → IsSearched rules s a a' → IsSearched rules s (Count a part) (Count a' part)
    has : {s : ScopeKinds} {a a' : Expr} (part : ℕ) → IsSearched rules s a a' → IsSearched rules s (Has a part) (Has a' part)
    token_of : {s : ScopeKinds} {a a' : Expr} (part : ℕ) → IsSearched rules s a a' → IsSearched rules s (TokenOf a part) (TokenOf a' part)
    listed : {s : ScopeKinds} {a a' : Expr} (part : ℕ) → IsSearched rules s a a' → IsSearched rules s (Listed a part) (Listed a' part)
    only : {s : ScopeKinds} {a a' : Expr} → IsSearched rules s a a' → IsSearched rules s (Only a) (Only a')
    union : {s : ScopeKinds} {a a' b b' : Expr} →
        IsSearched rules s a a' → IsSearched rules s b b' → IsSearched rules s (Union a b) (Union a' b')
    contains : {s : ScopeKinds} {a a' b b' : Expr} →
        IsSearched rules s a a' → IsSearched rules s b b' → IsSearched rules s (Contains a b) (Contains a' b')
    children : {s : ScopeKinds} {a a' : Expr} → IsSearched rules s a a' → IsSearched rules s (Children a) (Children a')
    parent : {s : ScopeKinds} {a a' : Expr} → IsSearched rules s a a' → IsSearched rules s (Parent a) (Parent a')
    passed : {s : ScopeKinds} {a a' : Expr} → IsSearched rules s a a' → IsSearched rules s (Passed a) (Passed a')

  -- inside the braces of a fold over the elements of a list component, where it is known of which class they are
  pub data IsSearchedIn (rules : Rules) : ScopeKinds → Expr → ℕ → Expr → Expr → Type 0 where
    unchanged : {s : ScopeKinds} {a : Expr} {part : ℕ} (e : Expr) → IsSearchedIn rules s a part e e
    elements : {s : ScopeKinds} {a e f : Expr} {part : ℕ} (element : ℕ) → AreElements rules s a part element →
        IsSearched rules (bound_kinds s element) e f → IsSearchedIn rules s a part e f

  -- inside the braces of a fold over nodes
  pub data IsSearchedOver (rules : Rules) : ScopeKinds → Fold → Expr → Expr → Expr → Type 0 where
    unchanged_over : {s : ScopeKinds} {fold : Fold} {a : Expr} (e : Expr) → IsSearchedOver rules s fold a e e
    nodes : {s : ScopeKinds} {fold : Fold} {a e f : Expr} (class : ℕ) → is_over fold ≡ true → HasKind rules s a (Nodes class) →
        IsSearched rules (bound_kinds s class) e f → IsSearchedOver rules s fold a e f

  -- each of the arguments
  pub data AreSearched (rules : Rules) : ScopeKinds → Exprs → Exprs → Type 0 where
    no_more : {s : ScopeKinds} → AreSearched rules s no_exprs no_exprs
    argument : {s : ScopeKinds} {e f : Expr} {es fs : Exprs} →
        IsSearched rules s e f → AreSearched rules s es fs → AreSearched rules s (expr e es) (expr f fs)

-- rules ---------------------------------------------------------------------------------------------------------------

-- an own equation of the same class and attribute, whose body is searched where the names stand for the attribute's parameters
pub record IsOwnSought (rules : Rules) (e f : OwnEquation) : Type 0 where
  pub class : f.class ≡ e.class
  pub attribute : f.attribute ≡ e.attribute
  pub body : (a : Attribute) → slice_get rules.attributes e.attribute ≡ Some a →
      IsSearched rules (record { this = e.class; names = a.parameters; has_index = false }) e.body f.body

-- an inherited equation of the same class, component and name, whose body is searched whichever attribute of the name is meant
pub record IsInheritedSought (rules : Rules) (e f : InheritedEquation) : Type 0 where
  pub class : f.class ≡ e.class
  pub part : f.part ≡ e.part
  pub name : f.name ≡ e.name
  pub body : (k : ℕ) (a : Attribute) → IsInheritedOf rules e.name k a →
      IsSearched rules (record { this = e.class; names = a.parameters; has_index = is_for_list rules e }) e.body f.body

-- the elements of two lists one by one
abbrev pub EachBy : {A : Type 0} → (A → A → Type 0) → List A → List A → Type 0
EachBy R [] [] = ⊤
EachBy R (a ∷ as') (b ∷ bs) = R a b × EachBy R as' bs
EachBy R as' bs = ⊥

-- the second rules are the first ones, where some folds over lists are searches
pub record IsSought (rules also : Rules) : Type 0 where
  pub classes : also.classes ≡ rules.classes
  pub attributes : also.attributes ≡ rules.attributes
  pub own : EachBy (IsOwnSought rules) rules.own also.own
  pub inherited : EachBy (IsInheritedSought rules) rules.inherited also.inherited
