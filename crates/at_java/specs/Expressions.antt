-- Expressions (Java Language Specification 15.25), which nest within a limit.
use Rattle.std.specs.Prelude.{ℕ, zero, suc}
use lib.Chars.{codes}
use Rattle.at_text.specs.declared.place.Place.{Place}
use Rattle.at_text.specs.Rows.{Row}
use Rattle.at_jrag.specs.Syntax as syntax
use Rattle.at_jrag.specs.Syntax.{Expr, place}
use Rattle.at_java.specs.Read.{Read, got, fails, here, then_read, map_read}
use Rattle.at_java.specs.Tokens.{sign_here}
use Rattle.at_java.specs.Operands.{Readers, if_next, sign_next, unary, postfix}
use Rattle.at_java.specs.Operators.{operands}
use Rattle.at_java.specs.declared.JavaCode.TheVariants.{Limit}

-- how deep expressions may nest
unfoldable pub max_nesting : ℕ
max_nesting = 64

-- the rank of the weakest operators
abbrev pub weakest : ℕ
weakest = 6

-- expr ":" expr behind a condition and its "?"
unfoldable pub chosen : Readers → Expr → Place → Row → Read Expr
chosen r condition behind row =
    then_read (r.expression row) (λ a colon.
    then_read (sign_here (codes ":") colon) (λ between other.
    map_read (λ b. syntax.Choose (place condition) condition behind a b) (r.expression other)))

-- or ["?" expr ":" expr]
unfoldable pub choice : Readers → Row → Read Expr
choice r row = then_read (operands r weakest row) (λ e rest. if_next (sign_next (codes "?") rest) (λ behind next. chosen r e behind next) (got e rest))

-- nothing may nest any more
abbrev pub too_deep : Row → Read Expr
too_deep row = fails (here Limit row)

-- the readers of what nests so deep at most
unfoldable pub readers : ℕ → Readers
readers zero = record { expression = too_deep; unary = too_deep; postfix = too_deep }
readers (suc n) = record { expression = choice (readers n); unary = unary (readers n); postfix = postfix (readers n) }

unfoldable pub expression : Row → Read Expr
expression row = (readers max_nesting).expression row
