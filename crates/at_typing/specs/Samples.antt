-- Declarations over the classes of calc.ast in which a class isn't there, as they stand in one line of one file.
use Rattle.std.specs.Prelude.{ℕ, List, [], ◌∷◌, None, codes}
use Rattle.at_text.specs.declared.place.Place.{Place}
use Rattle.at_jrag.specs.Syntax.{Word, KindWord, Class, Int, Param, Params, Expr, Call, Null, no_exprs, to_exprs, Equation', Body, With, Semicolon, DeclForm, Synthesized, Equation}
use Rattle.at_typing.specs.Located.{Located}

abbrev pub column : ℕ → Place
column n = record { line = 1; column = n }

abbrev pub word : List ℕ → ℕ → Word
word text n = record { text = text; at = column n }

abbrev pub class_word : List ℕ → ℕ → KindWord
class_word text n = record { kind = Class text; at = column n }

abbrev pub no_params : ℕ → Params
no_params n = record { items = []; end = column n }

abbrev pub declared : ℕ → DeclForm → Located
declared n form = record { file = 1; decl = record { at = column n; form = form } }

abbrev pub equals : ℕ → Expr → Body
equals n e = record { at = column n; form = Equation'; expr = e }

abbrev pub call : List ℕ → ℕ → List Expr → Expr
call name n es = Call (column n) name (to_exprs es)

-- aspect A { eq Program.a() = a(); syn Nix Program.a(); }
abbrev pub of_itself : List Located
of_itself =
    declared 12 (Equation (word (codes "Program") 15) (word (codes "a") 23) (no_params 25) (equals 27 (call (codes "a") 29 [])))
    ∷ declared 34 (Synthesized None (class_word (codes "Nix") 38) (word (codes "Program") 42) (word (codes "a") 50) (no_params 52) None (Semicolon (column 53)))
    ∷ []

-- aspect A { eq Program.a() = b(); syn Nix Program.a(); syn Nux Program.b() = null; }
abbrev pub of_another : List Located
of_another =
    declared 12 (Equation (word (codes "Program") 15) (word (codes "a") 23) (no_params 25) (equals 27 (call (codes "b") 29 [])))
    ∷ declared 34 (Synthesized None (class_word (codes "Nix") 38) (word (codes "Program") 42) (word (codes "a") 50) (no_params 52) None (Semicolon (column 53)))
    ∷ declared 55 (Synthesized None (class_word (codes "Nux") 59) (word (codes "Program") 63) (word (codes "b") 71) (no_params 73)
    None (With (equals 75 (Null (column 77)))))
    ∷ []

-- aspect A { syn int Program.a() = t(b()); syn int Program.t(Nix n) = 1; syn Nix Program.b() = null; }, with null for the 1
abbrev pub as_argument : List Located
as_argument =
    declared 12 (Synthesized None (record { kind = Int; at = column 16 }) (word (codes "Program") 20) (word (codes "a") 28) (no_params 30)
    None (With (equals 32 (call (codes "t") 34 (call (codes "b") 36 [] ∷ [])))))
    ∷ declared 42 (Synthesized None (record { kind = Int; at = column 46 }) (word (codes "Program") 50) (word (codes "t") 58)
    (record { items = record { kind = class_word (codes "Nix") 60; name = word (codes "n") 64 } ∷ []; end = column 65 })
    None (With (equals 67 (Null (column 69)))))
    ∷ declared 72 (Synthesized None (class_word (codes "Nix") 76) (word (codes "Program") 80) (word (codes "b") 88) (no_params 90)
    None (With (equals 92 (Null (column 94)))))
    ∷ []
