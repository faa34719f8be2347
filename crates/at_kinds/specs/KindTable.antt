-- The table of kinds: which kind an expression has, by the kinds of its parts. There are no places here, no bodies, and no order in
-- which faults are found; `Judging` has these.
use Rattle.std.specs.Prelude.{◌≡◌, ℕ, ℤ, Bool, true, false, List, [], ◌∷◌, codes, Option, Some, None, slice_get}
use Rattle.std.specs.Str.{bytes_eq}
use Rattle.at_model.specs.Classes.{Classes, class_of_name, is_sub}
use Rattle.at_text.specs.declared.place.Place.{Place}
use Rattle.at_jrag.specs.Syntax.{Word}
use Rattle.at_jrag.specs.Syntax as written
use Rattle.at_kinds.specs.Signatures.{Declared, declared_named}
use Rattle.at_kinds.specs.Accessors.{accessor_named, listed}
use Rattle.at_kinds.specs.Kinds.{known, of_written}
use Rattle.at_kinds.specs.Judging.{Scope, bound_to, index_eq, within}
use Rattle.at_kinds.specs.declared.arguments.Arguments.TheVariants as arguments
use Rattle.at_rules.specs.declared.body.Kind.{Kind}
use Rattle.at_rules.specs.declared.body.Kind.TheVariants as kind
use Rattle.at_kinds.specs.declared.signatures.WrittenKind.{WrittenKind}
use Rattle.at_kinds.specs.declared.signatures.WrittenKind.TheVariants.{Known, Strange as Nowhere}
use Rattle.at_kinds.specs.declared.accessors.Accessor.TheVariants as accessor
use Rattle.at_kinds.specs.declared.typing.kinds.ExprKind.{ExprKind}
use Rattle.at_kinds.specs.declared.typing.kinds.ExprKind.TheVariants.{Int, Bool as Truth, Text, Class, Strange, Null}

-- kinds ----------------------------------------------------------------------------------------------------------------

-- nodes, of whichever class, and null
pub data IsNode : ExprKind → Type 0 where
  node : (c : ℕ) → IsNode (Class c)
  stranger : (first : Option ℕ) → IsNode (Strange first)
  nothing : IsNode Null

-- `==` stands between two ints, two booleans, two nodes or null; between texts it does not
pub data AreAlike : ExprKind → ExprKind → Type 0 where
  ints : AreAlike Int Int
  truths : AreAlike Truth Truth
  nodes : {j k : ExprKind} → IsNode j → IsNode k → AreAlike j k

-- the wider of two kinds: of equal ones, of two classes one of which is the other or below it, of null and a kind of nodes; a class
-- that isn't there is equal to itself alone
pub data Wider (classes : Classes) : ExprKind → ExprKind → ExprKind → Type 0 where
  ints : Wider classes Int Int Int
  truths : Wider classes Truth Truth Truth
  texts : Wider classes Text Text Text
  first : (c b : ℕ) → is_sub classes b c ≡ true → Wider classes (Class c) (Class b) (Class c)
  second : (c b : ℕ) → is_sub classes b c ≡ false → is_sub classes c b ≡ true → Wider classes (Class c) (Class b) (Class b)
  strangers : (a : ℕ) → Wider classes (Strange (Some a)) (Strange (Some a)) (Strange (Some a))
  null_second : {k : ExprKind} → IsNode k → Wider classes k Null k
  null_first : {k : ExprKind} → IsNode k → Wider classes Null k k

-- a value of the kind may be given where that is declared: a class takes null and every class below it, one that isn't there null
-- and itself
pub data Fits (classes : Classes) : ExprKind → WrittenKind → Type 0 where
  int : Fits classes Int (Known kind.Int)
  truth : Fits classes Truth (Known kind.Bool)
  text : Fits classes Text (Known kind.Text)
  below : (c b : ℕ) → is_sub classes c b ≡ true → Fits classes (Class c) (Known (kind.Class b))
  null : (b : ℕ) → Fits classes Null (Known (kind.Class b))
  stranger : (a : ℕ) → Fits classes (Strange (Some a)) (Nowhere (Some a))
  null_nowhere : (first : Option ℕ) → Fits classes Null (Nowhere first)

-- operators ------------------------------------------------------------------------------------------------------------

-- `-`, `*`, `/` and `%`
pub data Computes : written.Operator → Type 0 where
  subtract : Computes written.Subtract
  multiply : Computes written.Multiply
  divide : Computes written.Divide
  remainder : Computes written.Remainder

-- `<`, `<=`, `>` and `>=`
pub data Orders : written.Operator → Type 0 where
  below : Orders written.Below
  at_most : Orders written.AtMost
  above : Orders written.Above
  at_least : Orders written.AtLeast

-- `==` and `!=`
pub data Compares : written.Operator → Type 0 where
  same : Compares written.Same
  differs : Compares written.Differs

-- `&&` and `||`
pub data Decides : written.Operator → Type 0 where
  and : Decides written.And
  or : Decides written.Or

-- the table ------------------------------------------------------------------------------------------------------------

mutual
  -- the expression has that kind where it stands
  pub data Gives : Scope → written.Expr → ExprKind → Type 0 where
    number : {s : Scope} {at : Place} {n : ℤ} → Gives s (written.Number at n) Int
    text : {s : Scope} {at : Place} {bytes : List ℕ} → Gives s (written.TextLiteral at bytes) Text
    truth : {s : Scope} {at : Place} {b : Bool} → Gives s (written.Truth at b) Truth
    null : {s : Scope} {at : Place} → Gives s (written.Null at) Null
    this : {s : Scope} {at : Place} → Gives s (written.This at) (Class s.this)
    -- a fold's name or a parameter, else the index name
    name : {s : Scope} {at : Place} {name : List ℕ} (i : ℕ) (k : WrittenKind) → bound_to s.names name ≡ Some (i, k)
        → Gives s (written.Name at name) (of_written k)
    index : {s : Scope} {at : Place} {name : List ℕ} → bound_to s.names name ≡ None → index_eq s.index name ≡ true
        → Gives s (written.Name at name) Int
    paren : {s : Scope} {at : Place} {e : written.Expr} {k : ExprKind} → Gives s e k → Gives s (written.Paren at e) k
    negate : {s : Scope} {at : Place} {e : written.Expr} → Gives s e Int → Gives s (written.Negate at e) Int
    opposite : {s : Scope} {at : Place} {e : written.Expr} → Gives s e Truth → Gives s (written.Not at e) Truth
    cast : {s : Scope} {at : Place} {class : Word} {e : written.Expr} {k : ExprKind} (c : ℕ) → class_of_name s.classes class.text ≡ Some c → IsNode k
        → Gives s e k → Gives s (written.Cast at class e) (Class c)
    instance_of : {s : Scope} {at behind : Place} {class : Word} {e : written.Expr} {k : ExprKind} (c : ℕ)
        → class_of_name s.classes class.text ≡ Some c → IsNode k → Gives s e k → Gives s (written.InstanceOf at e behind class) Truth
    computes : {s : Scope} {at between : Place} {a b : written.Expr} {o : written.Operator} → Computes o → Gives s a Int → Gives s b Int
        → Gives s (written.Binary at o between a b) Int
    adds : {s : Scope} {at between : Place} {a b : written.Expr} → Gives s a Int → Gives s b Int
        → Gives s (written.Binary at written.Add between a b) Int
    joins : {s : Scope} {at between : Place} {a b : written.Expr} → Gives s a Text → Gives s b Text
        → Gives s (written.Binary at written.Add between a b) Text
    joins_int : {s : Scope} {at between : Place} {a b : written.Expr} → Gives s a Text → Gives s b Int
        → Gives s (written.Binary at written.Add between a b) Text
    orders : {s : Scope} {at between : Place} {a b : written.Expr} {o : written.Operator} → Orders o → Gives s a Int → Gives s b Int
        → Gives s (written.Binary at o between a b) Truth
    compares : {s : Scope} {at between : Place} {a b : written.Expr} {o : written.Operator} {j k : ExprKind} → Compares o → AreAlike j k → Gives s a j
        → Gives s b k → Gives s (written.Binary at o between a b) Truth
    decides : {s : Scope} {at between : Place} {a b : written.Expr} {o : written.Operator} → Decides o → Gives s a Truth → Gives s b Truth
        → Gives s (written.Binary at o between a b) Truth
    chooses : {s : Scope} {at behind : Place} {c a b : written.Expr} {j k m : ExprKind} → Wider s.classes j k m → Gives s c Truth → Gives s a j
        → Gives s b k → Gives s (written.Choose at c behind a b) m
    call : {s : Scope} {at : Place} {name : List ℕ} {es : written.Exprs} {k : ExprKind} → Answers s (Class s.this) name es k
        → Gives s (written.Call at name es) k
    call_of : {s : Scope} {at : Place} {e : written.Expr} {name : List ℕ} {es : written.Exprs} {j k : ExprKind} → Gives s e j → Answers s j name es k
        → Gives s (written.CallOf at e name es) k
    exists : {s : Scope} {at : Place} {name : Word} {list e : written.Expr} {c : ℕ} → IsList s list c → Gives (within s name.text c) e Truth
        → Gives s (written.Fold at written.Exists name list e) Truth
    first : {s : Scope} {at : Place} {name : Word} {list e : written.Expr} {c : ℕ} → IsList s list c → Gives (within s name.text c) e Truth
        → Gives s (written.Fold at written.First name list e) (Class c)
    sum : {s : Scope} {at : Place} {name : Word} {list e : written.Expr} {c : ℕ} → IsList s list c → Gives (within s name.text c) e Int
        → Gives s (written.Fold at written.Sum name list e) Int

  -- what is asked of a receiver of a kind has that kind: a text's `equals`, a node's accessors and attributes
  pub data Answers : Scope → ExprKind → (name : List ℕ) → written.Exprs → ExprKind → Type 0 where
    equals : {s : Scope} {name : List ℕ} {e : written.Expr} → bytes_eq name (codes "equals") ≡ true → Gives s e Text
        → Answers s Text name (written.expr e written.no_exprs) Truth
    child : {s : Scope} {c : ℕ} {name : List ℕ} (part b : ℕ) → bytes_eq name (codes "equals") ≡ false
        → accessor_named s.classes c name ≡ Some (accessor.Child part b) → Answers s (Class c) name written.no_exprs (Class b)
    element : {s : Scope} {c : ℕ} {name : List ℕ} {e : written.Expr} (part b : ℕ) → bytes_eq name (codes "equals") ≡ false
        → accessor_named s.classes c name ≡ Some (accessor.Element part b) → Gives s e Int
        → Answers s (Class c) name (written.expr e written.no_exprs) (Class b)
    token : {s : Scope} {c : ℕ} {name : List ℕ} (part : ℕ) (k : Kind) → bytes_eq name (codes "equals") ≡ false
        → accessor_named s.classes c name ≡ Some (accessor.Token part k) → Answers s (Class c) name written.no_exprs (known k)
    has : {s : Scope} {c : ℕ} {name : List ℕ} (part : ℕ) → bytes_eq name (codes "equals") ≡ false
        → accessor_named s.classes c name ≡ Some (accessor.Has part) → Answers s (Class c) name written.no_exprs Truth
    count : {s : Scope} {c : ℕ} {name : List ℕ} (part : ℕ) → bytes_eq name (codes "equals") ≡ false
        → accessor_named s.classes c name ≡ Some (accessor.Count part) → Answers s (Class c) name written.no_exprs Int
    attribute : {s : Scope} {c : ℕ} {name : List ℕ} {es : written.Exprs} (a : ℕ) (d : Declared) → bytes_eq name (codes "equals") ≡ false
        → accessor_named s.classes c name ≡ None → declared_named s.classes s.declared c name ≡ Some a → slice_get s.declared a ≡ Some d
        → AreArguments s es d.parameters → Answers s (Class c) name es (of_written d.result)

  -- as many arguments as parameters, each of which fits; where none may be computed a text among them is given
  pub data AreArguments : Scope → written.Exprs → List WrittenKind → Type 0 where
    none : {s : Scope} → AreArguments s written.no_exprs []
    argument : {s : Scope} {e : written.Expr} {es : written.Exprs} {k : ExprKind} {p : WrittenKind} {ps : List WrittenKind} → Gives s e k
        → Fits s.classes k p → (s.arguments ≡ arguments.Given → p ≡ Known kind.Text → IsGiven s e) → AreArguments s es ps
        → AreArguments s (written.expr e es) (p ∷ ps)

  -- parentheses aside, the text is a literal, a parameter's or a token's
  pub data IsGiven : Scope → written.Expr → Type 0 where
    literal : {s : Scope} {at : Place} {bytes : List ℕ} → IsGiven s (written.TextLiteral at bytes)
    parameter : {s : Scope} {at : Place} {name : List ℕ} (i : ℕ) (k : WrittenKind) → bound_to s.names name ≡ Some (i, k)
        → IsGiven s (written.Name at name)
    own_token : {s : Scope} {at : Place} {name : List ℕ} {es : written.Exprs} (part : ℕ) (k : Kind) → bytes_eq name (codes "equals") ≡ false
        → accessor_named s.classes s.this name ≡ Some (accessor.Token part k) → IsGiven s (written.Call at name es)
    token_of : {s : Scope} {at : Place} {e : written.Expr} {name : List ℕ} {es : written.Exprs} (c part : ℕ) (k : Kind) → Gives s e (Class c)
        → bytes_eq name (codes "equals") ≡ false → accessor_named s.classes c name ≡ Some (accessor.Token part k)
        → IsGiven s (written.CallOf at e name es)
    parens : {s : Scope} {at : Place} {e : written.Expr} → IsGiven s e → IsGiven s (written.Paren at e)

  -- a list accessor, whose elements are of that class
  pub data IsList : Scope → written.Expr → ℕ → Type 0 where
    own_list : {s : Scope} {at : Place} {name : List ℕ} (part c : ℕ) → listed s.classes s.this name ≡ Some (part, c)
        → IsList s (written.Call at name written.no_exprs) c
    list_of : {s : Scope} {at : Place} {e : written.Expr} {name : List ℕ} (b part c : ℕ) → Gives s e (Class b)
        → listed s.classes b name ≡ Some (part, c) → IsList s (written.CallOf at e name written.no_exprs) c
