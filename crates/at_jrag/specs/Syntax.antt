-- Aspects as they are read: declarations and expressions, with their places.
use Rattle.std.specs.Prelude.{ℕ, ℤ, Bool, List, [], ◌∷◌, Option}
use Rattle.at_text.specs.declared.place.Place.{Place}

-- a name where it stands
pub record Word : Type 0 where
  pub text : List ℕ
  pub at : Place

-- a kind of values, as it is written: a class by its name
pub data Kind : Type 0 where
  Int : Kind
  Bool' : Kind
  Text : Kind
  Class : List ℕ → Kind

pub record KindWord : Type 0 where
  pub kind : Kind
  pub at : Place

pub record Param : Type 0 where
  pub kind : KindWord
  pub name : Word

-- the parameters, and the place of the parenthesis that ends them
pub record Params : Type 0 where
  pub items : List Param
  pub end : Place

-- `||`; `&&`; `==` and `!=`; `<`, `<=`, `>` and `>=`; `+` and `-`; `*`, `/` and `%`
pub data Operator : Type 0 where
  Or : Operator
  And : Operator
  Same : Operator
  Differs : Operator
  Below : Operator
  AtMost : Operator
  Above : Operator
  AtLeast : Operator
  Add : Operator
  Subtract : Operator
  Multiply : Operator
  Divide : Operator
  Remainder : Operator

pub data FoldForm : Type 0 where
  Exists : FoldForm
  First : FoldForm
  Sum : FoldForm

-- expressions, each with the place of its first token; an operator, `instanceof` and `?` have a place of their own
mutual
  pub data Expr : Type 0 where
    Number : Place → ℤ → Expr
    TextLiteral : Place → List ℕ → Expr
    Truth : Place → Bool → Expr
    Null : Place → Expr
    This : Place → Expr
    -- the name of a parameter, an index or an element
    Name : Place → List ℕ → Expr
    -- asked of `this`
    Call : Place → (name : List ℕ) → Exprs → Expr
    -- asked of a receiver
    CallOf : Place → Expr → (name : List ℕ) → Exprs → Expr
    Paren : Place → Expr → Expr
    Negate : Place → Expr → Expr
    Not : Place → Expr → Expr
    Cast : Place → (class : Word) → Expr → Expr
    InstanceOf : Place → Expr → (behind : Place) → (class : Word) → Expr
    Binary : Place → Operator → (between : Place) → Expr → Expr → Expr
    Choose : Place → Expr → (behind : Place) → Expr → Expr → Expr
    Fold : Place → FoldForm → (name : Word) → (list : Expr) → (body : Expr) → Expr

  -- the arguments of a call
  pub data Exprs : Type 0 where
    no_exprs : Exprs
    expr : Expr → Exprs → Exprs

abbrev pub to_exprs : List Expr → Exprs
to_exprs [] = no_exprs
to_exprs (e ∷ es) = expr e (to_exprs es)

abbrev pub from_exprs : Exprs → List Expr
from_exprs no_exprs = []
from_exprs (expr e es) = e ∷ from_exprs es

-- the place of its first token
abbrev pub place : Expr → Place
place (Number at n) = at
place (TextLiteral at bytes) = at
place (Truth at b) = at
place (Null at) = at
place (This at) = at
place (Name at text) = at
place (Call at name es) = at
place (CallOf at e name es) = at
place (Paren at e) = at
place (Negate at e) = at
place (Not at e) = at
place (Cast at class e) = at
place (InstanceOf at e behind class) = at
place (Binary at o between a b) = at
place (Choose at c behind a b) = at
place (Fold at form name list body) = at

-- `= E;` or `{ return E; }`, which mean the same
pub data BodyForm : Type 0 where
  Equation' : BodyForm
  Block : BodyForm

-- the body of an equation, with the place of its `=` or `{`
pub record Body : Type 0 where
  pub at : Place
  pub form : BodyForm
  pub expr : Expr

-- behind the parameters of a synthesized attribute: its body, or a `;` alone
pub data Ending : Type 0 where
  With : Body → Ending
  Semicolon : Place → Ending

-- where `lazy` is written, its place is kept; a circular attribute has a start
pub data DeclForm : Type 0 where
  Synthesized : (lazy : Option Place) → KindWord → (class name : Word) → Params → (start : Option Bool) → Ending → DeclForm
  Inherited : (lazy : Option Place) → KindWord → (class name : Word) → Params → (start : Option Bool) → DeclForm
  Equation : (class name : Word) → Params → Body → DeclForm
  InheritedEquation : (class getter : Word) → (index : Option Word) → (name : Word) → Params → Body → DeclForm

-- a declaration, with the place of its first token
pub record Decl : Type 0 where
  pub at : Place
  pub form : DeclForm

pub record Aspect : Type 0 where
  pub name : Word
  pub decls : List Decl
