-- The numbers that are written in expressions.
use Rattle.std.proofs.Common.{ℕ, zero, suc, ◌<◌, ◌≤◌, ℤ, pos, neg_ℤ, inl, inr, List, sym, subst, arith}
use Rattle.std.specs.Prelude.{⊤, IfSome}
use Rattle.std.specs.List.{AllByRecursion}
use Rattle.at_model.specs.Terms.{IsInt32}
use Rattle.at_text.specs.declared.place.Place.{Place}
use Rattle.at_jrag.specs.Syntax.{Expr, Exprs, no_exprs, expr, Number, TextLiteral, Truth, Null, This, Name, Call, CallOf, Paren, Negate, Not, Cast, InstanceOf, Binary, Choose, Fold, Body, BodyForm, Equation', Block, Ending, With, Semicolon, DeclForm, Synthesized, Inherited, Equation, InheritedEquation, Aspect}
use Rattle.at_text.specs.Rows.{Row}
use Rattle.at_jrag.specs.declared.Forms.{Forms}
use Rattle.at_jrag.specs.Grammar.{NumberOf, Spells, Arguments, MoreArguments, BodyOf, EndingOf, Behind}
use Rattle.at_typing.specs.Declaring.{body_at, body_in}
use Rattle.at_typing.specs.Located.{Located, IsSpelled, located}
use Rattle.at_typing.proofs.Spelled.{located_each}

abbrev mutual
  -- each number in the expression has 32 bits
  pub AreInts : Expr → Type 0
  AreInts (Number at n) = IsInt32 n
  AreInts (TextLiteral at bytes) = ⊤
  AreInts (Truth at b) = ⊤
  AreInts (Null at) = ⊤
  AreInts (This at) = ⊤
  AreInts (Name at text) = ⊤
  AreInts (Call at name es) = AreIntsAmong es
  AreInts (CallOf at e name es) = AreInts e × AreIntsAmong es
  AreInts (Paren at e) = AreInts e
  AreInts (Negate at e) = AreInts e
  AreInts (Not at e) = AreInts e
  AreInts (Cast at class e) = AreInts e
  AreInts (InstanceOf at e behind class) = AreInts e
  AreInts (Binary at o between a b) = AreInts a × AreInts b
  AreInts (Choose at c behind a b) = AreInts c × AreInts a × AreInts b
  AreInts (Fold at form name list body) = AreInts list × AreInts body

  -- and in each of these
  pub AreIntsAmong : Exprs → Type 0
  AreIntsAmong no_exprs = ⊤
  AreIntsAmong (expr e es) = AreInts e × AreIntsAmong es

-- in the declaration's body, if it has one
abbrev pub AreIntsIn : Located → Type 0
AreIntsIn d = IfSome (body_in d.decl.form) (λ b. AreInts b.expr)

-- what is spelled -------------------------------------------------------------------------------------------------------

-- a number has as many digits as 32 bits hold
pub neg_fits : (m : ℕ) → m ≤ 2147483648 → IsInt32 (neg_ℤ (pos m))
neg_fits zero less = omega arith
neg_fits (suc k) less = omega (arith, less)

number_fits : (at : Place) (n : ℤ) (old rest : Row) → NumberOf at n old rest → IsInt32 n
number_fits at n old rest (inl (m, less, is, row)) = subst IsInt32 (sym is) (small m less)
  where
    small : (m : ℕ) → m ≤ 2147483647 → m < 2147483648
    small m less = omega (arith, less)
number_fits at n old rest (inr (m, digits, less, is, row)) = subst IsInt32 (sym is) (neg_fits m less)

mutual
  spelled_ints : (e : Expr) (old rest : Row) → Spells e old rest → AreInts e
  spelled_ints (Number at n) old rest is = number_fits at n old rest is
  spelled_ints (TextLiteral at bytes) old rest is = tt
  spelled_ints (Truth at b) old rest is = tt
  spelled_ints (Null at) old rest is = tt
  spelled_ints (This at) old rest is = tt
  spelled_ints (Name at text) old rest is = tt
  spelled_ints (Call at name es) old rest (paren, list, named, opens, arguments) = arguments_ints es list rest arguments
  spelled_ints (CallOf at e name es) old rest (dot, called, paren, list, name_at, place, level, is, sign, named, opens, arguments) = (spelled_ints e old dot is, arguments_ints es list rest arguments)
  spelled_ints (Paren at e) old rest (one, close, sign, is, end) = spelled_ints e one close is
  spelled_ints (Negate at e) old rest (one, sign, next, level, is) = spelled_ints e one rest is
  spelled_ints (Not at e) old rest (one, sign, level, is) = spelled_ints e one rest is
  spelled_ints (Cast at class e) old rest (named, close, one, sign, name, end, follows, level, is) = spelled_ints e one rest is
  spelled_ints (InstanceOf at e behind class) old rest (link, named, place, level, is, word, name) = spelled_ints e old link is
  spelled_ints (Binary at o between a b) old rest (link, right, place, left, strong, is, sign, other) = (spelled_ints a old link is, spelled_ints b right rest other)
  spelled_ints (Choose at c behind a b) old rest (link, first, colon, other, place, level, is, sign, one, end, two) =
      (spelled_ints c old link is, spelled_ints a first colon one, spelled_ints b other rest two)
  spelled_ints (Fold at form name list body) old rest (
    paren,
    named,
    colon,
    items,
    close,
    brace,
    one,
    end,
    word,
    opens,
    bound,
    sign,
    next,
    level,
    is,
    closed,
    braced,
    inner,
    ended,
  ) =
      (spelled_ints list items close is, spelled_ints body one end inner)

  arguments_ints : (es : Exprs) (old rest : Row) → Arguments es old rest → AreIntsAmong es
  arguments_ints no_exprs old rest is = tt
  arguments_ints (expr e es) old rest (more, is, others) = (spelled_ints e old more is, more_ints es more rest others)

  more_ints : (es : Exprs) (old rest : Row) → MoreArguments es old rest → AreIntsAmong es
  more_ints no_exprs old rest is = tt
  more_ints (expr e es) old rest (one, more, comma, is, others) = (spelled_ints e one more is, more_ints es more rest others)

body_ints : (b : Body) (old rest : Row) → BodyOf b old rest → AreInts b.expr
body_ints b old rest is = by b.form is
  where
    by : (form : BodyForm) → BodyOf (record { at = b.at; form = form; expr = b.expr }) old rest → AreInts b.expr
    by Equation' (one, end, first, is, last) = spelled_ints b.expr one end is
    by Block (returns, one, end, close, first, word, is, semicolon, last) = spelled_ints b.expr one end is

ending_ints : (ending : Ending) (old rest : Row) → EndingOf ending old rest → IfSome (body_at ending) (λ b. AreInts b.expr)
ending_ints (With b) old rest is = body_ints b old rest is
ending_ints (Semicolon at) old rest is = tt

form_ints : (forms : Forms) (form : DeclForm) (old rest : Row) → Behind forms form old rest → IfSome (body_in form) (λ b. AreInts b.expr)
form_ints forms (Synthesized lazy k class name ps start ending) old rest (end, declared, is) = ending_ints ending end rest is
form_ints forms (Inherited lazy k class name ps start) old rest is = tt
form_ints forms (Equation class name ps b) old rest (called, body, owner, signature, is) = body_ints b body rest is
form_ints forms (InheritedEquation class getter index name ps b) old rest (got, called, body, owner, gets, signature, is) = body_ints b body rest is

-- the numbers of files that are spelled have 32 bits
pub located_ints : (file : ℕ) (files : List (List Aspect)) → AllByRecursion IsSpelled files → AllByRecursion AreIntsIn (located file files)
located_ints = located_each (λ form. IfSome (body_in form) (λ b. AreInts b.expr)) form_ints
