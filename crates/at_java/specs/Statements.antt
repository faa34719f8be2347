-- Statements (Java Language Specification 14).
use Rattle.std.specs.Prelude.{ℕ, zero, suc}
use lib.Chars.{codes}
use Rattle.at_text.specs.Rows.{Row}
use Rattle.at_text.specs.declared.place.Place.{Place}
use Rattle.at_jrag.specs.Syntax.{Expr, Param}
use Rattle.at_java.specs.Read.{Read, got, fails, here, at_place, then_read}
use Rattle.at_java.specs.Tokens.{sign_here}
use Rattle.at_java.specs.Next.{after_word, after_sign, other_code, or_fails}
use Rattle.at_java.specs.Items.{Closed, items_until}
use Rattle.at_java.specs.Kinds.{variable}
use Rattle.at_java.specs.Expressions.{expression}
use Rattle.at_java.specs.Written.{Statement, Return, If, Each, Block, Empty, to_statements}
use Rattle.at_java.specs.declared.JavaCode.TheVariants.{LeftOut, Limit}

-- E ";", behind the `return` at this place
abbrev pub returned : Place → Row → Read Statement
returned at row = then_read (expression row) (λ e rest. then_read (sign_here (codes ";") rest) (λ end left. got (Return at e) left))

-- "(" E ")"
abbrev pub condition : Row → Read Expr
condition row = then_read (sign_here (codes "(") row) (λ paren inner.
    then_read (expression inner) (λ e rest. then_read (sign_here (codes ")") rest) (λ close left. got e left)))

-- ["else" S], behind what stands in front of it
abbrev pub otherwise : (Row → Read Statement) → Place → Expr → Statement → Row → Read Statement
otherwise part at c s row =
    after_word (codes "else") row (λ behind rest. then_read (part rest) (λ t left. got (If at c s t) left)) (got (If at c s Empty) row)

-- "(" E ")" S ["else" S], behind the `if` at this place, by what reads its parts
abbrev pub conditional : (Row → Read Statement) → Place → Row → Read Statement
conditional part at row = then_read (condition row) (λ c rest. then_read (part rest) (λ s behind. otherwise part at c s behind))

-- "(" ["final"] kind name ":"
abbrev pub element : Row → Read Param
element row = then_read (sign_here (codes "(") row) (λ paren inner.
    then_read (variable inner) (λ v rest. then_read (sign_here (codes ":") rest) (λ colon left. got v left)))

-- an element, E ")" S, behind the `for` at this place: where no element stands, another loop is left out there
abbrev pub loop : (Row → Read Statement) → Place → Row → Read Statement
loop part at row = then_read (or_fails (at_place LeftOut at) (element row)) (λ v inner.
    then_read (expression inner) (λ l rest. then_read (sign_here (codes ")") rest) (λ close behind.
    then_read (part behind) (λ s left. got (Each at v.kind v.name l s) left))))

abbrev pub most_statements : ℕ
most_statements = 4096

-- statements up to the closing brace, behind the opening one, by what reads each
abbrev pub block : (Row → Read Statement) → Row → Read (Closed Statement)
block part row = items_until part most_statements row

abbrev pub max_nesting : ℕ
max_nesting = 64

-- a statement, by what reads those in it
abbrev pub formed : (Row → Read Statement) → Row → Read Statement
formed part row =
    after_word (codes "return") row returned
    (after_word (codes "if") row (conditional part)
    (after_word (codes "for") row (loop part)
    (after_sign (codes "{") row (λ at rest. then_read (block part rest) (λ b left. got (Block (to_statements b.items)) left))
    (after_sign (codes ";") row (λ at rest. got Empty rest) (fails (here (other_code row) row))))))

-- nested at most so deep
unfoldable pub statement : ℕ → Row → Read Statement
statement zero row = fails (here Limit row)
statement (suc n) row = formed (statement n) row
