-- Expressions counted by their forms, and expressions in which names stand for others.
use Rattle.std.specs.Prelude.{ℕ, List, ◌+◌, cond}
use Rattle.std.specs.Str.{bytes_eq}
use Rattle.at_text.specs.declared.place.Place.{Place}
use Rattle.at_jrag.specs.Syntax.{Expr, Exprs, no_exprs, expr, Number, TextLiteral, Truth, Null, This, Name, Call, CallOf, Paren, Negate, Not, Cast, InstanceOf, Binary, Choose, Fold}

-- the forms of an expression, each of which counts so much: a fold, and any other
abbrev mutual
  pub counted : (fold other : ℕ) → Expr → ℕ
  counted f o (Number at n) = o
  counted f o (TextLiteral at text) = o
  counted f o (Truth at b) = o
  counted f o (Null at) = o
  counted f o (This at) = o
  counted f o (Name at text) = o
  counted f o (Call at name es) = o + counted_all f o es
  counted f o (CallOf at e name es) = o + counted f o e + counted_all f o es
  counted f o (Paren at e) = o + counted f o e
  counted f o (Negate at e) = o + counted f o e
  counted f o (Not at e) = o + counted f o e
  counted f o (Cast at class e) = o + counted f o e
  counted f o (InstanceOf at e behind class) = o + counted f o e
  counted f o (Binary at operator between a b) = o + counted f o a + counted f o b
  counted f o (Choose at c behind a b) = o + counted f o c + counted f o a + counted f o b
  counted f o (Fold at form name list e) = f + counted f o list + counted f o e

  pub counted_all : (fold other : ℕ) → Exprs → ℕ
  counted_all f o no_exprs = 0
  counted_all f o (expr e es) = counted f o e + counted_all f o es

-- how many forms there are, and how many folds among them
abbrev pub forms : Expr → ℕ
forms = counted 1 1

abbrev pub folds : Expr → ℕ
folds = counted 1 0

-- What names stand for, by where they stand.
abbrev pub Names : Type 0
Names = Place → List ℕ → Expr

-- one name stands for this expression, others for themselves
abbrev pub name_for : List ℕ → Expr → Names
name_for name e at text = cond (bytes_eq name text) e (Name at text)

-- the expression with what its names stand for
abbrev mutual
  pub named : Names → Expr → Expr
  named names (Number at n) = Number at n
  named names (TextLiteral at text) = TextLiteral at text
  named names (Truth at b) = Truth at b
  named names (Null at) = Null at
  named names (This at) = This at
  named names (Name at text) = names at text
  named names (Call at name es) = Call at name (named_all names es)
  named names (CallOf at e name es) = CallOf at (named names e) name (named_all names es)
  named names (Paren at e) = Paren at (named names e)
  named names (Negate at e) = Negate at (named names e)
  named names (Not at e) = Not at (named names e)
  named names (Cast at class e) = Cast at class (named names e)
  named names (InstanceOf at e behind class) = InstanceOf at (named names e) behind class
  named names (Binary at operator between a b) = Binary at operator between (named names a) (named names b)
  named names (Choose at c behind a b) = Choose at (named names c) behind (named names a) (named names b)
  named names (Fold at form name list e) = Fold at form name (named names list) (named names e)

  pub named_all : Names → Exprs → Exprs
  named_all names no_exprs = no_exprs
  named_all names (expr e es) = expr (named names e) (named_all names es)
