-- Bodies as they are written.
use Rattle.std.specs.Prelude.{List, [], ◌∷◌}
use Rattle.at_text.specs.declared.place.Place.{Place}
use Rattle.at_jrag.specs.Syntax.{Expr, KindWord, Word}

mutual
  -- a statement, with the place of its first token
  pub data Statement : Type 0 where
    Return : Place → Expr → Statement
    -- where no `else` is written, the last one is empty
    If : Place → Expr → (then else_ : Statement) → Statement
    -- over the elements of a list
    Each : Place → KindWord → (name : Word) → (list : Expr) → (body : Statement) → Statement
    Block : Statements → Statement
    Empty : Statement

  pub data Statements : Type 0 where
    no_statements : Statements
    statement : Statement → Statements → Statements

abbrev pub to_statements : List Statement → Statements
to_statements [] = no_statements
to_statements (s ∷ ss) = statement s (to_statements ss)

abbrev pub from_statements : Statements → List Statement
from_statements no_statements = []
from_statements (statement s ss) = s ∷ from_statements ss
