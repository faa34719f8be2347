-- Operands: what operators stand between, and the calls behind it (Java Language Specification 15.8 to 15.16).
use Rattle.std.specs.Prelude.{ℕ, zero, suc, List, [], ◌∷◌, Bool, true, false, cond, ◌==◌, ◌&&◌, ◌||◌, Option, Some, None}
use Rattle.std.specs.Str.Parse.{digits_value}
use lib.Chars.{codes}
use Rattle.at_model.specs.Names.{is_name}
use Rattle.at_text.specs.declared.token.TokenKind.TheVariants as kind
use Rattle.at_text.specs.declared.place.Place.{Place}
use Rattle.at_text.specs.Symbols.{PlacedToken}
use Rattle.at_text.specs.Rows.{Row, is_sign, is_word, is_name_token, next_is}
use Rattle.at_jrag.specs.Grammar.{is_number}
use Rattle.at_jrag.specs.Read.{greatest, signed, opens_cast}
use Rattle.at_jrag.specs.Table.{is_number_within, is_quotation, begins_fold}
use Rattle.at_jrag.specs.Syntax as syntax
use Rattle.at_jrag.specs.Syntax.{Word, Expr, FoldForm, to_exprs, place}
use Rattle.at_java.specs.Read.{Read, got, fails, here, then_read, map_read}
use Rattle.at_java.specs.Tokens.{sign_here, name}
use Rattle.at_java.specs.declared.JavaCode.TheVariants.{Syntax, LeftOut, Limit}

-- readers of what may nest so much deeper
pub record Readers : Type 0 where
  pub expression : Row → Read Expr
  pub unary : Row → Read Expr
  pub postfix : Row → Read Expr

-- how many calls may stand behind an operand
unfoldable pub max_calls : ℕ
max_calls = 64

-- how many arguments a call may have
unfoldable pub max_arguments : ℕ
max_arguments = 255

-- ---- what may be there

-- what goes on behind what is next, or else
abbrev pub if_next : {A B : Type 0} → Option (A × Row) → (A → Row → Read B) → Read B → Read B
if_next None follows other = other
if_next (Some p) follows other = follows p.0 p.1

-- the place of the sign, if it is next
abbrev pub sign_next : List ℕ → Row → Option (Place × Row)
sign_next text [] = None
sign_next text (t ∷ ts) = cond (is_sign text t) (Some (t.at, ts)) None

-- ---- literals

-- digits, with a `-` before them or not; the place is that of the first token
unfoldable pub number : (is_negative : Bool) → Place → Row → Read Expr
number is_negative at [] = fails (here Syntax [])
number is_negative at (t ∷ ts) =
    cond (is_number_within (greatest is_negative) t) (got (syntax.Number at (signed is_negative (digits_value 10 t.text))) ts) (fails (here Syntax (t ∷ ts)))

-- what a character stands for behind a backslash
abbrev pub escape_value : ℕ → ℕ
escape_value c = cond (c == 110) 10 (cond (c == 116) 9 c)

-- what stands for a text behind its opening quote, without the closing one
abbrev pub unescaped : List ℕ → List ℕ
unescaped [] = []
unescaped (b ∷ []) = []
unescaped (b ∷ c ∷ bs) = cond (b == 92) (escape_value c ∷ unescaped bs) (b ∷ unescaped (c ∷ bs))

-- the text that is quoted
abbrev pub unquoted : List ℕ → List ℕ
unquoted [] = []
unquoted (b ∷ bs) = unescaped bs

unfoldable pub text : Row → Read Expr
text [] = fails (here Syntax [])
text (t ∷ ts) = cond (is_quotation t) (got (syntax.TextLiteral t.at (unquoted t.text)) ts) (fails (here Syntax (t ∷ ts)))

-- the value that the word is
abbrev pub constant : PlacedToken → Option Expr
constant t =
    cond (is_word (codes "true") t) (Some (syntax.Truth t.at true))
    (cond (is_word (codes "false") t) (Some (syntax.Truth t.at false))
    (cond (is_word (codes "null") t) (Some (syntax.Null t.at))
    (cond (is_word (codes "this") t) (Some (syntax.This t.at)) None)))

abbrev pub with_rest : {A : Type 0} → Option A → Row → Option (A × Row)
with_rest None rest = None
with_rest (Some a) rest = Some (a, rest)

unfoldable pub constant_next : Row → Option (Expr × Row)
constant_next [] = None
constant_next (t ∷ ts) = with_rest (constant t) ts

-- ---- calls

-- a name, or a word of a fold, which may be the name of what is called
unfoldable pub called : Row → Read Word
called [] = fails (here Syntax [])
called (t ∷ ts) = cond (is_name_token t || begins_fold t) (got (record { text = t.text; at = t.at }) ts) (fails (here Syntax (t ∷ ts)))

-- ")", or else "," and what goes on
abbrev pub more_items : {A : Type 0} → (Row → Read (List A)) → Row → Read (List A)
more_items next row = if_next (sign_next (codes ")") row) (λ end rest. got [] rest) (then_read (sign_here (codes ",") row) (λ at rest. next rest))

-- item { "," item } ")", so many at most of what is read one by one
abbrev pub items : {A : Type 0} → (Row → Read A) → ℕ → Row → Read (List A)
items one zero row = fails (here Limit row)
items one (suc n) row = then_read (one row) (λ a rest. map_read (λ as'. a ∷ as') (more_items (λ next. items one n next) rest))

-- "(" [expr { "," expr }] ")"
unfoldable pub arguments : Readers → Row → Read (List Expr)
arguments r row =
    then_read (sign_here (codes "(") row) (λ at list.
    if_next (sign_next (codes ")") list) (λ end rest. got [] rest) (items r.expression max_arguments list))

-- name "(" [args] ")" behind a receiver and its "."
unfoldable pub call_of : Readers → Expr → Row → Read Expr
call_of r e row = then_read (called row) (λ w list. map_read (λ es. syntax.CallOf (place e) e w.text (to_exprs es)) (arguments r list))

-- { "." name "(" [args] ")" } behind a receiver, so many at most
abbrev pub calls : Readers → ℕ → Expr → Row → Read Expr
calls r zero e row = if_next (sign_next (codes ".") row) (λ at rest. fails (here Limit rest)) (got e row)
calls r (suc n) e row = if_next (sign_next (codes ".") row) (λ at rest. then_read (call_of r e rest) (λ f more. calls r n f more)) (got e row)

-- name | name "(" [args] ")"
unfoldable pub named : Readers → Row → Read Expr
named r row = then_read (called row) (λ w rest.
    cond (next_is (is_sign (codes "(")) rest) (map_read (λ es. syntax.Call w.at w.text (to_exprs es)) (arguments r rest))
    (cond (is_name w.text) (got (syntax.Name w.at w.text) rest) (fails (here Syntax rest))))

-- ---- folds

-- "(" name ":" is next
abbrev pub opens_fold : Row → Bool
opens_fold (a ∷ b ∷ c ∷ ts) = is_sign (codes "(") a && (is_name_token b && is_sign (codes ":") c)
opens_fold ts = false

-- the fold whose word it is
abbrev pub fold_form : PlacedToken → FoldForm
fold_form t = cond (is_word (codes "exists") t) syntax.Exists (cond (is_word (codes "first") t) syntax.First syntax.Sum)

-- the word of a fold, before "(" name ":"; else it names what is called
unfoldable pub fold_next : Row → Option (Place × FoldForm × Row)
fold_next [] = None
fold_next (t ∷ ts) = cond (begins_fold t && opens_fold ts) (Some (t.at, fold_form t, ts)) None

-- "(" name ":" post ")" "{" expr "}" behind the word of a fold
unfoldable pub fold : Readers → Place → FoldForm → Row → Read Expr
fold r at form row =
    then_read (sign_here (codes "(") row) (λ begin named.
    then_read (name named) (λ w colon.
    then_read (sign_here (codes ":") colon) (λ between list.
    then_read (r.postfix list) (λ l close.
    then_read (sign_here (codes ")") close) (λ end brace.
    then_read (sign_here (codes "{") brace) (λ brace_at body.
    then_read (r.expression body) (λ e last.
    map_read (λ closing. syntax.Fold at form w l e) (sign_here (codes "}") last))))))))

-- ---- primaries

-- "(" expr ")"
unfoldable pub parenthesized : Readers → Row → Read Expr
parenthesized r row =
    then_read (sign_here (codes "(") row) (λ at inner.
    then_read (r.expression inner) (λ e close.
    map_read (λ end. syntax.Paren at e) (sign_here (codes ")") close)))

-- the words of Java with which operands begin that are left out
abbrev pub is_left_out : PlacedToken → Bool
is_left_out t = is_word (codes "new") t || is_word (codes "super") t || is_word (codes "switch") t

-- "true" | "false" | "null" | "this" | fold | name | name "(" [args] ")"
unfoldable pub worded : Readers → Row → Read Expr
worded r row =
    cond (next_is is_left_out row) (fails (here LeftOut row))
    (if_next (constant_next row) (λ e rest. got e rest)
    (elim (fold_next row) [ Some f ↦ fold r f.0 f.1 f.2 | None ↦ named r row ]))

-- number | text | "(" expr ")" | what begins with a word
unfoldable pub primary : Readers → Row → Read Expr
primary r [] = fails (here Syntax [])
primary r (t ∷ ts) = elim t.kind [
  | kind.Number ↦ number false t.at (t ∷ ts)
  | kind.Text ↦ text (t ∷ ts)
  | kind.Sign ↦ parenthesized r (t ∷ ts)
  | kind.Word ↦ worded r (t ∷ ts)
]

-- primary { "." name "(" [args] ")" }
unfoldable pub postfix : Readers → Row → Read Expr
postfix r row = then_read (primary r row) (λ e rest. calls r max_calls e rest)

-- ---- what stands before an operand

-- behind a "-", which belongs to a number right behind it
unfoldable pub negative : Readers → Place → Row → Read Expr
negative r at row =
    cond (next_is is_number row) (then_read (number true at row) (λ e rest. calls r max_calls e rest))
    (map_read (λ e. syntax.Negate at e) (r.unary row))

-- "(" name ")" unary
unfoldable pub cast : Readers → Row → Read Expr
cast r row =
    then_read (sign_here (codes "(") row) (λ at named.
    then_read (name named) (λ class close.
    then_read (sign_here (codes ")") close) (λ end operand.
    map_read (λ e. syntax.Cast at class e) (r.unary operand))))

-- ("-" | "!") unary | cast | postfix
unfoldable pub unary : Readers → Row → Read Expr
unary r row =
    if_next (sign_next (codes "-") row) (λ at rest. negative r at rest)
    (if_next (sign_next (codes "!") row) (λ at rest. map_read (λ e. syntax.Not at e) (r.unary rest))
    (cond (opens_cast row) (cast r row) (postfix r row)))
