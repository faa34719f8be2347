-- Expressions as they are written, over the classes of calc.ast, and where they stand.
use Rattle.std.specs.Prelude.{◌≡◌, ℕ, ℤ, pos, List, [], ◌∷◌, true, false, Some, codes}
use Rattle.at_model.specs.Bodies as body
use Rattle.at_model.specs.Samples.{calc_classes}
use Rattle.at_text.specs.declared.place.Place.{Place}
use Rattle.at_jrag.specs.Syntax.{Word, place, to_exprs}
use Rattle.at_jrag.specs.Syntax as written
use Rattle.at_rules.specs.declared.body.Kind.TheVariants as kind
use Rattle.at_kinds.specs.Judging.{Bound, Is, Scope, judged}
use Rattle.at_kinds.specs.Signatures.{Declared}
use Rattle.at_kinds.specs.declared.arguments.Arguments.{Arguments}
use Rattle.at_kinds.specs.declared.arguments.Arguments.TheVariants.{Given, Computed}
use Rattle.at_kinds.specs.declared.signatures.WrittenKind.TheVariants.{Known}
use Rattle.at_kinds.specs.declared.typing.kinds.ExprKind.{ExprKind}

-- all of an expression stands there
abbrev pub here : Place
here = record { line = 1; column = 1 }

-- ---- where it stands

-- syn Decl Block.local(String n); syn boolean Stmt.covers(Decl d, String n); syn int Expr.value(); syn int Block.level(int n, boolean b);
abbrev pub attributes : List Declared
attributes =
    record { name = codes "local"; class = Some 2; parameters = Known kind.Text ∷ []; result = Known (kind.Class 3) }
    ∷ record { name = codes "covers"; class = Some 1; parameters = Known (kind.Class 3) ∷ Known kind.Text ∷ []; result = Known kind.Bool }
    ∷ record { name = codes "value"; class = Some 5; parameters = []; result = Known kind.Int }
    ∷ record { name = codes "level"; class = Some 2; parameters = Known kind.Int ∷ Known kind.Bool ∷ []; result = Known kind.Int }
    ∷ []

-- the parameters Decl d and String n
abbrev pub parameters : List Bound
parameters = record { name = codes "d"; kind = Known (kind.Class 3) } ∷ record { name = codes "n"; kind = Known kind.Text } ∷ []

-- in an equation of that class with these parameters, and with i for the index, where such arguments may be passed
abbrev pub inside_with : Arguments → ℕ → Scope
inside_with allowed c =
    record { classes = calc_classes; declared = attributes; arguments = allowed; this = c; names = parameters; index = Some (codes "i") }

-- so where nothing that is computed may be passed
abbrev pub inside : ℕ → Scope
inside c = inside_with Given c

-- in an equation of the class it has the kind, and means the body
abbrev pub MeansIn : ℕ → written.Expr → ExprKind → body.Expr → Type 0
MeansIn c e k b = judged (inside c) e ≡ Is (record { at = place e; kind = k; body = b })

-- so it is in an equation of Block
abbrev pub Means : written.Expr → ExprKind → body.Expr → Type 0
Means e k b = MeansIn 2 e k b

-- so it is where what is computed may be passed
abbrev pub MeansComputed : written.Expr → ExprKind → body.Expr → Type 0
MeansComputed e k b = judged (inside_with Computed 2) e ≡ Is (record { at = place e; kind = k; body = b })

-- ---- as it is written

abbrev pub number : ℤ → written.Expr
number n = written.Number here n

abbrev pub text : List ℕ → written.Expr
text bytes = written.TextLiteral here bytes

abbrev pub yes : written.Expr
yes = written.Truth here true

abbrev pub no : written.Expr
no = written.Truth here false

abbrev pub null : written.Expr
null = written.Null here

abbrev pub this : written.Expr
this = written.This here

abbrev pub name : List ℕ → written.Expr
name bytes = written.Name here bytes

abbrev pub class_word : List ℕ → Word
class_word bytes = record { text = bytes; at = here }

-- e.a(..), and a(..)
abbrev pub call_of : written.Expr → List ℕ → List written.Expr → written.Expr
call_of e a es = written.CallOf here e a (to_exprs es)

abbrev pub call : List ℕ → List written.Expr → written.Expr
call a es = written.Call here a (to_exprs es)

abbrev pub between : written.Operator → written.Expr → written.Expr → written.Expr
between o a b = written.Binary here o here a b

-- c ? a : b
abbrev pub choice : written.Expr → written.Expr → written.Expr → written.Expr
choice c a b = written.Choose here c here a b

-- (C) e, and e instanceof C
abbrev pub cast : List ℕ → written.Expr → written.Expr
cast c e = written.Cast here (class_word c) e

abbrev pub test : written.Expr → List ℕ → written.Expr
test e c = written.InstanceOf here e here (class_word c)

-- exists, first or sum (s : list) { e }
abbrev pub fold : written.FoldForm → written.Expr → written.Expr → written.Expr
fold form list e = written.Fold here form (class_word (codes "s")) list e

-- getStmt(0), and its body
abbrev pub statement : written.Expr
statement = call (codes "getStmt") (number (pos 0) ∷ [])

abbrev pub statement_body : body.Expr
statement_body = body.Element body.This 0 (body.IntLiteral (pos 0))

-- ---- the numbers 7 and 2, and their bodies

abbrev pub seven : written.Expr
seven = number (pos 7)

abbrev pub two : written.Expr
two = number (pos 2)

abbrev pub int : ℕ → body.Expr
int n = body.IntLiteral (pos n)

-- ---- a text with an x behind it, and its body

abbrev pub longer : written.Expr
longer = between written.Add (name (codes "n")) (text (codes "x"))

abbrev pub longer_body : body.Expr
longer_body = body.Join (body.Name 1) (body.TextLiteral (codes "x"))

-- a body's arguments
abbrev pub arguments : List body.Expr → body.Exprs
arguments [] = body.no_exprs
arguments (e ∷ es) = body.expr e (arguments es)
