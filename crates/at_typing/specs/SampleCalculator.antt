-- The declarations of samples/calculator/calc.jrag and probe.jrag, in their order. All stand at one place: none goes into what they mean.
use Rattle.std.specs.Prelude.{ℕ, ℤ, pos, negsuc, false, List, [], ◌∷◌, ◌++◌, map, Some, None, codes}
use Rattle.at_text.specs.declared.place.Place.{Place}
use Rattle.at_jrag.specs.Syntax.{Word, Kind, Int, Bool', Text, Class, KindWord, Params, Operator, Same, Differs, And, Add, Divide, First, Expr, Number, TextLiteral, Truth, Null, Name, Call, CallOf, Cast, Binary, Choose, Fold, to_exprs, Equation', Block, Body, With, Semicolon, DeclForm, Synthesized, Inherited, Equation, InheritedEquation}
use Rattle.at_typing.specs.Located.{Located}

-- ---- words and expressions, at the place

abbrev pub word : Place → List ℕ → Word
word at text = record { text = text; at = at }

abbrev pub kind : Place → Kind → KindWord
kind at k = record { kind = k; at = at }

-- no parameter
abbrev pub none : Place → Params
none at = record { items = []; end = at }

-- String n
abbrev pub n : Place → Params
n at = record { items = record { kind = kind at Text; name = word at (codes "n") } ∷ []; end = at }

abbrev pub number : Place → ℤ → Expr
number at i = Number at i

-- a call of this node, and of another one
abbrev pub own : Place → List ℕ → List Expr → Expr
own at name es = Call at name (to_exprs es)

abbrev pub of : Place → Expr → List ℕ → List Expr → Expr
of at e name es = CallOf at e name (to_exprs es)

abbrev pub between : Place → Operator → Expr → Expr → Expr
between at o a b = Binary at o at a b

-- = e;
abbrev pub is : Place → Expr → Body
is at e = record { at = at; form = Equation'; expr = e }

-- { return e; }
abbrev pub returns : Place → Expr → Body
returns at e = record { at = at; form = Block; expr = e }

-- ---- declarations

-- syn K C.a(..) with a body or without, and with `lazy`
abbrev pub syn : Place → Kind → List ℕ → List ℕ → Params → Body → DeclForm
syn at k c a ps b = Synthesized None (kind at k) (word at c) (word at a) ps None (With b)

abbrev pub syn_lazy : Place → Kind → List ℕ → List ℕ → Params → Body → DeclForm
syn_lazy at k c a ps b = Synthesized (Some at) (kind at k) (word at c) (word at a) ps None (With b)

-- eq C.a(..)
abbrev pub eq : Place → List ℕ → List ℕ → Params → Expr → DeclForm
eq at c a ps e = Equation (word at c) (word at a) ps (is at e)

-- eq C.getB().a(..)
abbrev pub eq_below : Place → List ℕ → List ℕ → List ℕ → Params → Expr → DeclForm
eq_below at c getter a ps e = InheritedEquation (word at c) (word at getter) None (word at a) ps (is at e)

-- eq Block.getStmt(int i).a(..)
abbrev pub eq_of_statement : Place → List ℕ → Params → Expr → DeclForm
eq_of_statement at a ps e = InheritedEquation (word at (codes "Block")) (word at (codes "getStmt")) (Some (word at (codes "i"))) (word at a) ps (is at e)

abbrev pub names_aspect : Place → List DeclForm
names_aspect at =
    -- inh lazy Decl Use.lookup(String n);
    Inherited (Some at) (kind at (Class (codes "Decl"))) (word at (codes "Use")) (word at (codes "lookup")) (n at) None
    -- inh Decl Block.lookup(String n);
    ∷ Inherited None (kind at (Class (codes "Decl"))) (word at (codes "Block")) (word at (codes "lookup")) (n at) None
    -- syn lazy Decl Block.local(String n) = (Decl) first (s : getStmtList()) { s.declares(n) };
    ∷ syn_lazy at (Class (codes "Decl")) (codes "Block") (codes "local") (n at)
    (is at (Cast at (word at (codes "Decl")) (Fold at First (word at (codes "s")) (own at (codes "getStmtList") [])
    (of at (Name at (codes "s")) (codes "declares") (Name at (codes "n") ∷ [])))))
    -- syn boolean Stmt.declares(String n) = false;
    ∷ syn at Bool' (codes "Stmt") (codes "declares") (n at) (is at (Truth at false))
    -- eq Decl.declares(String n) = getID().equals(n);
    ∷ eq at (codes "Decl") (codes "declares") (n at) (of at (own at (codes "getID") []) (codes "equals") (Name at (codes "n") ∷ []))
    -- eq Block.getStmt(int i).lookup(String n) = local(n) != null ? local(n) : lookup(n);
    ∷ eq_of_statement at (codes "lookup") (n at)
    (Choose at (between at Differs (own at (codes "local") (Name at (codes "n") ∷ [])) (Null at)) at (own at (codes "local") (Name at (codes "n") ∷ []))
    (own at (codes "lookup") (Name at (codes "n") ∷ [])))
    -- eq Program.getBlock().lookup(String n) = null;
    ∷ eq_below at (codes "Program") (codes "getBlock") (codes "lookup") (n at) (Null at)
    -- syn lazy Decl Use.decl() = lookup(getID());
    ∷ syn_lazy at (Class (codes "Decl")) (codes "Use") (codes "decl") (none at) (is at (own at (codes "lookup") (own at (codes "getID") [] ∷ [])))
    ∷ []

abbrev pub values_aspect : Place → List DeclForm
values_aspect at =
    -- syn lazy int Expr.value();
    Synthesized (Some at) (kind at Int) (word at (codes "Expr")) (word at (codes "value")) (none at) None (Semicolon at)
    -- eq Num.value() = getValue();
    ∷ eq at (codes "Num") (codes "value") (none at) (own at (codes "getValue") [])
    -- eq Add.value() = getLeft().value() + getRight().value();
    ∷ eq at (codes "Add") (codes "value") (none at)
    (between at Add (of at (own at (codes "getLeft") []) (codes "value") []) (of at (own at (codes "getRight") []) (codes "value") []))
    -- eq Use.value() = decl().value();
    ∷ eq at (codes "Use") (codes "value") (none at) (of at (own at (codes "decl") []) (codes "value") [])
    -- syn lazy int Decl.value() = hasInit() ? getInit().value() : 0;
    ∷ syn_lazy at Int (codes "Decl") (codes "value") (none at)
    (is at (Choose at (own at (codes "hasInit") []) at (of at (own at (codes "getInit") []) (codes "value") []) (number at (pos 0))))
    ∷ []

abbrev pub probe_aspect : Place → List DeclForm
probe_aspect at =
    -- syn boolean Add.same() = getLeft() == getRight();
    syn at Bool' (codes "Add") (codes "same") (none at) (is at (between at Same (own at (codes "getLeft") []) (own at (codes "getRight") [])))
    -- syn boolean Add.alike() { return getLeft() == getLeft(); }
    ∷ syn at Bool' (codes "Add") (codes "alike") (none at) (returns at (between at Same (own at (codes "getLeft") []) (own at (codes "getLeft") [])))
    -- syn int Program.circ() = circ();
    ∷ syn at Int (codes "Program") (codes "circ") (none at) (is at (own at (codes "circ") []))
    -- syn boolean Program.spin() = spin();
    ∷ syn at Bool' (codes "Program") (codes "spin") (none at) (is at (own at (codes "spin") []))
    -- syn boolean Program.c1() = false && spin();
    ∷ syn at Bool' (codes "Program") (codes "c1") (none at) (is at (between at And (Truth at false) (own at (codes "spin") [])))
    -- syn int Program.c2() = 1 / 0 + circ();
    ∷ syn at Int (codes "Program") (codes "c2") (none at)
    (is at (between at Add (between at Divide (number at (pos 1)) (number at (pos 0))) (own at (codes "circ") [])))
    -- syn int Program.c3() = circ() + 1 / 0;
    ∷ syn at Int (codes "Program") (codes "c3") (none at)
    (is at (between at Add (own at (codes "circ") []) (between at Divide (number at (pos 1)) (number at (pos 0)))))
    -- syn int Program.big() = 2147483647 + 1;
    ∷ syn at Int (codes "Program") (codes "big") (none at) (is at (between at Add (number at (pos 2147483647)) (number at (pos 1))))
    -- syn String Program.join() = "n" + 1 / 2 + -7;
    ∷ syn at Text (codes "Program") (codes "join") (none at)
    (is at (between at Add (between at Add (TextLiteral at (codes "n")) (between at Divide (number at (pos 1)) (number at (pos 2)))) (number at (negsuc 6))))
    -- inh lazy int Stmt.pos();
    ∷ Inherited (Some at) (kind at Int) (word at (codes "Stmt")) (word at (codes "pos")) (none at) None
    -- eq Block.getStmt(int i).pos() = i;
    ∷ eq_of_statement at (codes "pos") (none at) (Name at (codes "i"))
    -- eq Program.getBlock().pos() = -1;
    ∷ eq_below at (codes "Program") (codes "getBlock") (codes "pos") (none at) (number at (negsuc 0))
    ∷ []

-- the declarations of a file
abbrev pub from : ℕ → Place → List DeclForm → List Located
from file at forms = map (λ form. record { file = file; decl = record { at = at; form = form } }) forms

-- those of calc.jrag, and then those of probe.jrag
abbrev pub calculator : Place → List Located
calculator at = from 1 at (names_aspect at ++ values_aspect at) ++ from 2 at (probe_aspect at)
