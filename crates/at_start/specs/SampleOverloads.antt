-- Attributes of one name, as they are written and as they are told apart.
use Rattle.std.specs.Prelude.{ℕ, pos, List, [], ◌∷◌, None, codes}
use Rattle.at_text.specs.Place.{first_place}
use Rattle.at_jrag.specs.Syntax.{Word, Int, KindWord, Param, Expr, Number, Call, Fold, Sum, to_exprs, Equation', With, Synthesized, Decl, Aspect}

abbrev pub word : List ℕ → Word
word text = record { text = text; at = first_place }

abbrev pub int : KindWord
int = record { kind = Int; at = first_place }

abbrev pub parameter : Param
parameter = record { kind = int; name = word (codes "i") }

abbrev pub number : ℕ → Expr
number n = Number first_place (pos n)

abbrev pub call : List ℕ → List Expr → Expr
call name es = Call first_place name (to_exprs es)

-- `syn int C.NAME(..) = e;`
abbrev pub declared : List ℕ → List Param → Expr → Decl
declared name items e = record {
  at = first_place;
  form = Synthesized None int (word (codes "C")) (word name) (record { items = items; end = first_place }) None
      (With (record { at = first_place; form = Equation'; expr = e }));
}

abbrev pub file : List Decl → List (List Aspect)
file ds = (record { name = word (codes "A"); decls = ds } ∷ []) ∷ []

-- `syn int C.a() = 1; syn int C.a(int i) = a(); syn int C.b() = sum (x : l()) { a(a(1), 2) };`
abbrev pub written : List (List Aspect)
written = file (
    declared (codes "a") [] (number 1)
    ∷ declared (codes "a") (parameter ∷ []) (call (codes "a") [])
    ∷ declared (codes "b") [] (Fold first_place Sum (word (codes "x")) (call (codes "l") [])
    (call (codes "a") (call (codes "a") (number 1 ∷ []) ∷ number 2 ∷ [])))
    ∷ []
    )

-- an `a` with two parameters isn't declared, and there is one `b` alone
abbrev pub apart : List (List Aspect)
apart = file (
    declared (codes "a/0") [] (number 1)
    ∷ declared (codes "a/1") (parameter ∷ []) (call (codes "a/0") [])
    ∷ declared (codes "b") [] (Fold first_place Sum (word (codes "x")) (call (codes "l") [])
    (call (codes "a") (call (codes "a/1") (number 1 ∷ []) ∷ number 2 ∷ [])))
    ∷ []
    )

-- `syn int C.getParent() = 1; syn int C.getParent(int i) = 2;`
abbrev pub accessors : List (List Aspect)
accessors = file (declared (codes "getParent") [] (number 1) ∷ declared (codes "getParent") (parameter ∷ []) (number 2) ∷ [])
