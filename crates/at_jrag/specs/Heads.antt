-- What the reader's methods say of the fronts of declarations.
use Rattle.std.specs.Prelude.{◌∷◌, List, [], ℕ, Bool, true, false, Option, Some, None}
use Rattle.at_jrag.specs.Syntax as syntax
use Rattle.at_jrag.specs.Syntax.{Word, Param, Params, Kind}
use Rattle.at_text.specs.Rows.{Row}
use Rattle.at_jrag.specs.declared.Forms.{Forms}
use Rattle.at_jrag.specs.Grammar.{Owner, Opens, Listed, Signature, Declared}
use Rattle.at_jrag.specs.View.{word_view, kind_word_view, params_view}
use Rattle.at_jrag.specs.declared.reader.declarations.Head.{Head}
use Rattle.at_jrag.specs.declared.reader.declarations.Target.{Target}

-- "(" [params] ")" behind a name
abbrev pub ParamsOf : List ℕ → Params → Row → Row → Type 0
ParamsOf name ps old rest = (list : Row) × Opens name old list × Listed ps.items ps.end list rest

-- name "." name "(" [params] ")"
abbrev pub TargetOf : Target → Row → Row → Type 0
TargetOf t old rest = (called : Row) × Owner (word_view t.class) old called × Signature (word_view t.name) (params_view t.params) called rest

abbrev pub HeadOf : Forms → Head → Row → Row → Type 0
HeadOf forms h old rest =
    Declared forms h.lazy (kind_word_view h.kind) (word_view h.class) (word_view h.name) (params_view h.params) h.start old rest

abbrev pub is_int : Kind → Bool
is_int syntax.Int = true
is_int syntax.Bool' = false
is_int syntax.Text = false
is_int (syntax.Class name) = false

-- none, or an `int` alone
abbrev pub is_getter : List Param → Bool
is_getter [] = true
is_getter (p ∷ []) = is_int p.kind.kind
is_getter (p ∷ q ∷ ps) = false

-- the name of the last
abbrev pub index : List Param → Option Word
index [] = None
index (p ∷ []) = Some p.name
index (p ∷ q ∷ ps) = index (q ∷ ps)
