-- Operators with two operands, and `instanceof` (Java Language Specification 15.17 to 15.24).
use Rattle.std.specs.Prelude.{ℕ, zero, suc, ◌-◌, List, [], ◌∷◌, cond, ◌==◌, Option, Some, None}
use Rattle.std.specs.Str.{bytes_eq}
use lib.Chars.{codes}
use Rattle.at_text.specs.declared.place.Place.{Place}
use Rattle.at_text.specs.Symbols.{PlacedToken, is_sign_kind}
use Rattle.at_text.specs.Rows.{Row, is_word}
use Rattle.at_jrag.specs.Grammar.{operator_level}
use Rattle.at_jrag.specs.Syntax as syntax
use Rattle.at_jrag.specs.Syntax.{Expr, Operator, place}
use Rattle.at_java.specs.Read.{Read, got, fails, here, then_read, map_read}
use Rattle.at_java.specs.Tokens.{name}
use Rattle.at_java.specs.Operands.{Readers, if_next, unary}
use Rattle.at_java.specs.declared.JavaCode.TheVariants.{Limit}

-- how many operators of one rank may stand in a row
unfoldable pub max_links : ℕ
max_links = 64

-- what stands behind a left operand
pub data Link : Type 0 where
  Between : Operator → Place → Link
  InstanceOf : Place → Link

-- the operator that the sign is
abbrev pub operator_of : List ℕ → Option Operator
operator_of sign =
    cond (bytes_eq sign (codes "||")) (Some syntax.Or)
    (cond (bytes_eq sign (codes "&&")) (Some syntax.And)
    (cond (bytes_eq sign (codes "==")) (Some syntax.Same)
    (cond (bytes_eq sign (codes "!=")) (Some syntax.Differs)
    (cond (bytes_eq sign (codes "<")) (Some syntax.Below)
    (cond (bytes_eq sign (codes "<=")) (Some syntax.AtMost)
    (cond (bytes_eq sign (codes ">")) (Some syntax.Above)
    (cond (bytes_eq sign (codes ">=")) (Some syntax.AtLeast)
    (cond (bytes_eq sign (codes "+")) (Some syntax.Add)
    (cond (bytes_eq sign (codes "-")) (Some syntax.Subtract)
    (cond (bytes_eq sign (codes "*")) (Some syntax.Multiply)
    (cond (bytes_eq sign (codes "/")) (Some syntax.Divide)
    (cond (bytes_eq sign (codes "%")) (Some syntax.Remainder) None))))))))))))

-- from 1, the strongest, to 6
abbrev pub rank : Operator → ℕ
rank o = 7 - operator_level o

-- `instanceof` is of the rank of `<`
abbrev pub word_link : ℕ → PlacedToken → Option Link
word_link at_rank t = cond (at_rank == 3) (cond (is_word (codes "instanceof") t) (Some (InstanceOf t.at)) None) None

abbrev pub sign_link : ℕ → Place → Option Operator → Option Link
sign_link at_rank at None = None
sign_link at_rank at (Some o) = cond (rank o == at_rank) (Some (Between o at)) None

-- what the token is behind a left operand of this rank
abbrev pub link_of : ℕ → PlacedToken → Option Link
link_of at_rank t = cond (is_sign_kind t.kind) (sign_link at_rank t.at (operator_of t.text)) (word_link at_rank t)

abbrev pub link_before : Option Link → Row → Option (Link × Row)
link_before None rest = None
link_before (Some l) rest = Some (l, rest)

unfoldable pub link_next : ℕ → Row → Option (Link × Row)
link_next at_rank [] = None
link_next at_rank (t ∷ ts) = link_before (link_of at_rank t) ts

-- a left operand with what stands behind it
abbrev pub linked : (operand : Row → Read Expr) → Expr → Link → Row → Read Expr
linked operand e (Between o at) row = map_read (λ right. syntax.Binary (place e) o at e right) (operand row)
linked operand e (InstanceOf at) row = map_read (λ class. syntax.InstanceOf (place e) e at class) (name row)

-- what leans left behind a left operand of this rank, so many links at most
abbrev pub links : (operand : Row → Read Expr) → ℕ → ℕ → Expr → Row → Read Expr
links operand at_rank zero e row = if_next (link_next at_rank row) (λ l rest. fails (here Limit rest)) (got e row)
links operand at_rank (suc n) e row =
    if_next (link_next at_rank row) (λ l rest. then_read (linked operand e l rest) (λ f more. links operand at_rank n f more)) (got e row)

-- operands with operators of this rank at most between them
unfoldable pub operands : Readers → ℕ → Row → Read Expr
operands r zero row = unary r row
operands r (suc n) row = then_read (operands r n row) (λ e rest. links (operands r n) (suc n) max_links e rest)
