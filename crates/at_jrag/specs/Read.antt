-- What the reader's methods say of expressions.
use Rattle.std.specs.Prelude.{◌≡◌, ℕ, ◌<◌, ◌≤◌, ℤ, pos, neg_ℤ, List, [], ◌∷◌, map, Bool, true, false, ◌&&◌, ◌||◌, decimal}
use Rattle.std.specs.Str.{bytes_eq}
use lib.Chars.{codes}
use Rattle.at_text.specs.declared.token.TokenKind.TheVariants as kind
use Rattle.at_text.specs.Symbols.{PlacedToken}
use Rattle.at_text.specs.declared.place.Place.{Place}
use Rattle.at_jrag.specs.Syntax as syntax
use Rattle.at_jrag.specs.Syntax.{Expr, place, to_exprs}
use Rattle.at_jrag.specs.Grammar as grammar
use Rattle.at_text.specs.Rows.{Row, sign, word, is_sign, is_name_token, next_is}
use Rattle.at_jrag.specs.Grammar.{Opens, deepest, Spells, level, depth, is_number, operator_text, operator_level, Name, Sign, follows_cast}
use Rattle.at_jrag.specs.View.{word_view, expr_view, operator_view}
use Rattle.at_jrag.specs.declared.reader.forms.Measured.{Measured}
use Rattle.at_jrag.specs.declared.reader.forms.Arguments.{Arguments}
use Rattle.at_jrag.specs.declared.reader.operators.Link.{Link}
use Rattle.at_jrag.specs.declared.reader.operators.Link.TheVariants as link
use Rattle.at_jrag.specs.declared.reader.operators.Prefix.{Prefix}
use Rattle.at_jrag.specs.declared.reader.operators.Prefix.TheVariants as prefix

-- The tokens up to the rest spell the expression, which is of this level at least; its nesting was counted.
abbrev pub Reads : (lowest : ℕ) → Measured → Row → Row → Type 0
Reads lowest m old rest = Spells (expr_view m.expr) old rest × (lowest ≤ level (expr_view m.expr)) × (m.depth ≡ depth (expr_view m.expr))

-- ---- literals

abbrev pub greatest : Bool → ℕ
greatest true = 2147483648
greatest false = 2147483647

abbrev pub signed : Bool → ℕ → ℤ
signed true m = neg_ℤ (pos m)
signed false m = pos m

-- the digits are those of the number, which has a minus before it or not
abbrev pub IsNumber : Bool → List ℕ → ℤ → Type 0
IsNumber is_negative digits n = (m : ℕ) × (m ≤ greatest is_negative) × (n ≡ signed is_negative m) × (digits ≡ decimal m)

-- a `-` and a number are next
abbrev pub opens_negative : Row → Bool
opens_negative [] = false
opens_negative (t ∷ ts) = is_sign (codes "-") t && next_is is_number ts

abbrev pub is_constant : List ℕ → Bool
is_constant text = bytes_eq text (codes "true") || bytes_eq text (codes "false") || bytes_eq text (codes "null") || bytes_eq text (codes "this")

abbrev pub is_literal : PlacedToken → Bool
is_literal t = elim t.kind [ kind.Word ↦ is_constant t.text | kind.Number ↦ true | kind.Text ↦ true | kind.Sign ↦ false ]

-- ---- what stands before an operand

-- an operand with what stands before it
abbrev pub prefix_view : Prefix → Place → Expr → Expr
prefix_view prefix.Not at e = syntax.Not at e
prefix_view prefix.Minus at e = syntax.Negate at e
prefix_view (prefix.Cast class) at e = syntax.Cast at (word_view class) e

-- `!`, `-` or `( NAME )`, and an operand that fits it is next
abbrev pub StandsBefore : Prefix → Place → Row → Row → Type 0
StandsBefore prefix.Not at old rest = old ≡ sign (codes "!") at ∷ rest
StandsBefore prefix.Minus at old rest = (old ≡ sign (codes "-") at ∷ rest) × (next_is is_number rest ≡ false)
StandsBefore (prefix.Cast class) at old rest =
    (named : Row) × (close : Row) × (old ≡ sign (codes "(") at ∷ named)
    × Name (word_view class) named close × Sign (codes ")") close rest × (next_is follows_cast rest ≡ true)

-- what a form that nests this deep may have before its operand; a `-` alone is told by what follows it
abbrev pub NestsWithin : Prefix → ℕ → Type 0
NestsWithin prefix.Not budget = 1 < budget
NestsWithin prefix.Minus budget = Unit {0}
NestsWithin (prefix.Cast class) budget = 1 < budget

-- `( NAME )` is next, and behind it what makes it a cast
abbrev pub opens_cast : Row → Bool
opens_cast (a ∷ b ∷ c ∷ d ∷ ts) = is_sign (codes "(") a && (is_name_token b && (is_sign (codes ")") c && follows_cast d))
opens_cast ts = false

-- ---- what stands behind a left operand

-- an operator of this level, or `instanceof` at its own
abbrev pub LinkIs : ℕ → Link → PlacedToken → Type 0
LinkIs lowest (link.Operator o) t = (operator_level (operator_view o.operator) ≡ lowest) × (t ≡ sign (operator_text (operator_view o.operator)) o.at)
LinkIs lowest (link.InstanceOf at) t = (lowest ≡ 4) × (t ≡ word (codes "instanceof") at)

abbrev pub LinksTo : ℕ → Link → Row → Row → Type 0
LinksTo lowest l old rest = (t : PlacedToken) × LinkIs lowest l t × (old ≡ t ∷ rest)

-- the arguments of a call behind its name, and the nesting of the deepest
abbrev pub HasArguments : List ℕ → Arguments → Row → Row → Type 0
HasArguments name a old rest = (list : Row) × Opens name old list × grammar.Arguments (to_exprs (map expr_view a.items.items)) list rest
    × (a.depth ≡ deepest (to_exprs (map expr_view a.items.items)))
