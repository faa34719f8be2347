-- Declarations over the classes of calc.ast, one row for each code, as they stand in one line of one file.
use Rattle.std.specs.Prelude.{ℕ, ◌+◌, pos, Bool, true, false, List, [], ◌∷◌, ◌++◌, Option, None, Some, codes}
use Rattle.at_jrag.specs.Syntax.{Bool', DeclForm, Equation, Expr, Inherited, InheritedEquation, Int, Kind, KindWord, Number, Param, Semicolon, Synthesized, Text, TextLiteral, Truth, With}
use Rattle.at_jrag.specs.Syntax as written
use Rattle.at_typing.specs.Located.{Located}
use Rattle.at_typing.specs.Samples.{call, column, declared, equals, no_params, word}

abbrev pub kind : Kind → ℕ → KindWord
kind k n = record { kind = k; at = column n }

abbrev pub one : ℕ → Expr
one n = Number (column n) (pos 1)

-- syn int Program.a() = E;
abbrev pub program_int : Expr → DeclForm
program_int e = Synthesized None (kind Int 16) (word (codes "Program") 20) (word (codes "a") 28) (no_params 30) None (With (equals 32 e))

-- syn int Program.a() = b();
abbrev pub calls_nothing : List Located
calls_nothing = declared 12 (program_int (call (codes "b") 34 [])) ∷ []

-- syn int Program.a(int n) = 1;
abbrev pub passes_an_int : List Located
passes_an_int =
    declared 12 (Synthesized None (kind Int 16) (word (codes "Program") 20) (word (codes "a") 28)
    (record { items = record { kind = kind Int 30; name = word (codes "n") 34 } ∷ []; end = column 35 }) None (With (equals 37 (one 39)))) ∷ []

-- syn int Program.a() = true;
abbrev pub is_a_boolean : List Located
is_a_boolean = declared 12 (program_int (Truth (column 34) true)) ∷ []

-- K NAME
abbrev pub param : Kind → List ℕ → (at name_at : ℕ) → Param
param k name n m = record { kind = kind k n; name = word name m }

-- syn int Program.a(..) = 1;, where the parameters end in that column
abbrev pub takes : List Param → ℕ → List Located
takes ps n =
    declared 12 (Synthesized None (kind Int 16) (word (codes "Program") 20) (word (codes "a") 28)
    (record { items = ps; end = column n }) None (With (equals (n + 2) (one (n + 4))))) ∷ []

-- with int v, int w, int x, int y
abbrev pub four : List Param
four = param Int (codes "v") 30 34 ∷ param Int (codes "w") 37 41 ∷ param Int (codes "x") 44 48 ∷ param Int (codes "y") 51 55 ∷ []

-- and with int z
abbrev pub takes_five : List Located
takes_five = takes (four ++ param Int (codes "z") 58 62 ∷ []) 63

-- with String v, String w, String x
abbrev pub takes_texts : List Located
takes_texts = takes (param Text (codes "v") 30 37 ∷ param Text (codes "w") 40 47 ∷ param Text (codes "x") 50 57 ∷ []) 58

-- with int v, boolean w
abbrev pub takes_numbers : List Located
takes_numbers = takes (param Int (codes "v") 30 34 ∷ param Bool' (codes "w") 37 45 ∷ []) 46

-- syn int Program.a(String s) = a(s + "x");
abbrev pub passes_a_sum : List Located
passes_a_sum =
    declared 12 (Synthesized None (kind Int 16) (word (codes "Program") 20) (word (codes "a") 28)
    (record { items = param Text (codes "s") 30 37 ∷ []; end = column 38 }) None (With (equals 40 (call (codes "a") 42
    (written.Binary (column 44) written.Add (column 46) (written.Name (column 44) (codes "s")) (TextLiteral (column 48) (codes "x")) ∷ []))))) ∷ []

-- syn boolean Use.a() = getID() == "x";
abbrev pub compares_texts : List Located
compares_texts =
    declared 12 (Synthesized None (kind Bool' 16) (word (codes "Use") 24) (word (codes "a") 28) (no_params 30)
    None (With (equals 32 (written.Binary (column 34) written.Same (column 42) (call (codes "getID") 34 []) (TextLiteral (column 45) (codes "x")))))) ∷ []

-- syn int Program.a() = 1; eq Program.a() = 2;
abbrev pub has_two_equations : List Located
has_two_equations =
    declared 12 (program_int (one 34))
    ∷ declared 37 (Equation (word (codes "Program") 40) (word (codes "a") 48) (no_params 50) (equals 52 (Number (column 54) (pos 2))))
    ∷ []

-- syn int Program.a() = 1; syn int Program.a() = 1;
abbrev pub is_declared_twice : List Located
is_declared_twice =
    declared 12 (program_int (one 34))
    ∷ declared 37 (Synthesized None (kind Int 41) (word (codes "Program") 45) (word (codes "a") 53) (no_params 55) None (With (equals 57 (one 59))))
    ∷ []

-- eq Program.a() = 1;
abbrev pub is_of_no_attribute : List Located
is_of_no_attribute = declared 12 (Equation (word (codes "Program") 15) (word (codes "a") 23) (no_params 25) (equals 27 (one 29))) ∷ []

-- syn int Program.getBlock() = 1;
abbrev pub is_an_accessor : List Located
is_an_accessor =
    declared 12 (Synthesized None (kind Int 16) (word (codes "Program") 20) (word (codes "getBlock") 28) (no_params 37) None (With (equals 39 (one 41)))) ∷ []

-- inh int Expr.q();
abbrev pub inherits : Located
inherits = declared 12 (Inherited None (kind Int 16) (word (codes "Expr") 20) (word (codes "q") 25) (no_params 27) None)

-- inh int Expr.q(); eq Stmt.getExpr().q() = 1;
abbrev pub is_of_no_component : List Located
is_of_no_component =
    inherits
    ∷ declared 30 (InheritedEquation (word (codes "Stmt") 33) (word (codes "getExpr") 38) None (word (codes "q") 48) (no_params 50) (equals 52 (one 54)))
    ∷ []

-- syn boolean Program.a() circular [true] = a();
abbrev pub is_circular : List Located
is_circular =
    declared 12 (Synthesized None (kind Bool' 16) (word (codes "Program") 24) (word (codes "a") 32) (no_params 34) (Some true)
    (With (equals 52 (call (codes "a") 54 [])))) ∷ []

-- inh boolean Expr.q() circular [false]; inh boolean Stmt.q() and this start;
abbrev pub with_starts : (second : Option Bool) → List Located
with_starts second =
    declared 12 (Inherited None (kind Bool' 16) (word (codes "Expr") 24) (word (codes "q") 29) (no_params 31) (Some false))
    ∷ declared 51 (Inherited None (kind Bool' 55) (word (codes "Stmt") 63) (word (codes "q") 68) (no_params 70) second)
    ∷ []

-- syn int Stmt.a();
abbrev pub has_no_equation : List Located
has_no_equation =
    declared 12 (Synthesized None (kind Int 16) (word (codes "Stmt") 20) (word (codes "a") 25) (no_params 27) None (Semicolon (column 28))) ∷ []

-- inh int Expr.q();
abbrev pub has_none_above : List Located
has_none_above = inherits ∷ []

-- inh int Expr.q(); eq Program.getChild().q() = 1;
abbrev pub has_one_above : List Located
has_one_above =
    inherits
    ∷ declared 30 (InheritedEquation (word (codes "Program") 33) (word (codes "getChild") 41) None (word (codes "q") 52) (no_params 54) (equals 56 (one 58)))
    ∷ []

-- syn int C.q() = 1;, where it, its class and its name stand in these columns
abbrev pub gives_q : (class : List ℕ) → (at class_at name_at : ℕ) → Located
gives_q class n m k =
    declared n (Synthesized None (kind Int (n + 4)) (word class m) (word (codes "q") k) (no_params (k + 2)) None (With (equals (k + 4) (one (k + 6)))))

-- inh int Expr.q(); syn int C.q() = 1;
abbrev pub is_both : (class : List ℕ) → (name_at : ℕ) → List Located
is_both class k = inherits ∷ gives_q class 30 38 k ∷ []

-- syn int Stmt.q() = 1; inh int Expr.q(); inh boolean Program.q();
abbrev pub differs_behind : List Located
differs_behind =
    gives_q (codes "Stmt") 12 20 25
    ∷ declared 34 (Inherited None (kind Int 38) (word (codes "Expr") 42) (word (codes "q") 47) (no_params 49) None)
    ∷ declared 52 (Inherited None (kind Bool' 56) (word (codes "Program") 64) (word (codes "q") 72) (no_params 74) None)
    ∷ []
