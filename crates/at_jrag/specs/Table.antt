-- What may come next in an aspect, by the next token: the reader's decisions as a table, from which its contracts follow.
use Rattle.std.specs.Prelude.{ℕ, zero, suc, ◌+◌, ◌-◌, ◌==◌, List, [], ◌∷◌, ◌++◌, Bool, true, false, cond, nat_lt, nat_le, max, decimal, not, ◌||◌, ◌&&◌, Option, Some, None}
use Rattle.std.specs.Str.{bytes_eq}
use Rattle.std.specs.Str.Parse.{digits_value}
use lib.Chars.{codes}
use Rattle.at_text.specs.declared.token.TokenKind.TheVariants as kind
use Rattle.at_text.specs.Faults.{makes_escape}
use Rattle.at_text.specs.Symbols.{PlacedToken, is_word_kind, is_sign_kind}
use Rattle.at_text.specs.Rows.{is_sign, is_word, is_name_token}
use Rattle.at_jrag.specs.declared.Forms.{Forms}
use Rattle.at_jrag.specs.Grammar.{is_number, follows_cast, begins_other, max_nesting}
use Rattle.at_text.specs.Machine.{Answer, Takes, Skips, Refuses, LeavesOut, and_then, Table}
use Rattle.at_jrag.specs.Wants.{Want, Expression, Binary, Links, Choice, Otherwise, Unary, Minus, Opened, Enclosed, Parenthesized, Calls, Called, Arguments, FirstArgument, MoreArguments, Primary, Named, FoldBody, Deeper, Join, Deepest, Counts, Name, Mark, File, Decls, Lazy, NotNta, Attribute, Kind, Signed, Opening, Params, OneParam, MoreParams, Circular, Bracket, Start, Ending, Body, Defined, Return, Close}

-- ---- the next token

-- it passes the test
abbrev pub next : (PlacedToken → Bool) → Option PlacedToken → Bool
next test None = false
next test (Some t) = test t

-- the rank of the operator that the sign is, counted from the strongest; 0 if it's none
abbrev pub sign_rank : List ℕ → ℕ
sign_rank text =
    cond (bytes_eq text (codes "*") || bytes_eq text (codes "/") || bytes_eq text (codes "%")) 1
    (cond (bytes_eq text (codes "+") || bytes_eq text (codes "-")) 2
    (cond (bytes_eq text (codes "<") || bytes_eq text (codes "<=") || bytes_eq text (codes ">") || bytes_eq text (codes ">=")) 3
    (cond (bytes_eq text (codes "==") || bytes_eq text (codes "!=")) 4
    (cond (bytes_eq text (codes "&&")) 5
    (cond (bytes_eq text (codes "||")) 6 0)))))

-- the rank of what goes on behind a left operand, an operator or `instanceof`; 0 for any other token
abbrev pub link_rank : PlacedToken → ℕ
link_rank t = cond (is_sign_kind t.kind) (sign_rank t.text) (cond (is_word (codes "instanceof") t) 3 0)

-- the rank of the next token, if there is one
abbrev pub next_rank : Option PlacedToken → ℕ
next_rank None = 0
next_rank (Some t) = link_rank t

-- digits without a leading zero, and their value is at most this
abbrev pub is_decimal_within : ℕ → List ℕ → Bool
is_decimal_within most text = nat_le (digits_value 10 text) most && bytes_eq (decimal (digits_value 10 text)) text

abbrev pub is_number_within : ℕ → PlacedToken → Bool
is_number_within most t = is_number t && is_decimal_within most t.text

-- the name of a call that reads any child
abbrev pub is_get_child : PlacedToken → Bool
is_get_child t = bytes_eq t.text (codes "getChild")

abbrev pub is_constant : PlacedToken → Bool
is_constant t = is_word (codes "true") t || is_word (codes "false") t || is_word (codes "null") t || is_word (codes "this") t

abbrev pub begins_fold : PlacedToken → Bool
begins_fold t = is_word (codes "exists") t || is_word (codes "first") t || is_word (codes "sum") t

-- behind an opening quote: what stands for a text, and the closing quote
abbrev pub ends_quoted : List ℕ → Bool
ends_quoted [] = false
ends_quoted (b ∷ []) = b == 34
ends_quoted (b ∷ c ∷ bs) = cond (b == 92) (makes_escape c && ends_quoted bs) (not ((b == 34) || ((b == 10) || (b == 9))) && ends_quoted (c ∷ bs))

-- the spelling of a text between quotes
abbrev pub is_quoted : List ℕ → Bool
is_quoted [] = false
is_quoted (b ∷ bs) = (b == 34) && ends_quoted bs

abbrev pub is_quotation : PlacedToken → Bool
is_quotation t = elim t.kind [ kind.Word ↦ false | kind.Number ↦ false | kind.Text ↦ is_quoted t.text | kind.Sign ↦ false ]

-- a number, a text or a reserved word that is a value
abbrev pub is_literal : PlacedToken → Bool
is_literal t = is_number_within 2147483647 t || (is_quotation t || is_constant t)

-- unaries begin with it
abbrev pub opens_unary : PlacedToken → Bool
opens_unary t = is_sign (codes "-") t || (is_sign (codes "!") t || (is_sign (codes "(") t || (is_literal t || (begins_fold t || is_name_token t))))

-- it is a sign or a word
abbrev pub is_plain : PlacedToken → Bool
is_plain t = is_sign_kind t.kind || is_word_kind t.kind

-- ---- the rows of expressions

-- it takes the next token and wants more, or else
abbrev pub on : Bool → Answer Want → Answer Want → Answer Want
on test takes other = cond test takes other

abbrev pub expects : (PlacedToken → Bool) → Answer Want → Option PlacedToken → Answer Want
expects test takes s = on (next test s) takes Refuses

abbrev pub primary_answer : ℕ → Option PlacedToken → Answer Want
primary_answer b None = Refuses
primary_answer b (Some t) =
    on (is_literal t) (Takes (nat_lt 0 b) [] 1)
    (on (is_sign (codes "(") t) (Takes (nat_lt 1 b) (Expression (b - 1) ∷ Mark (codes ")") ∷ Deeper ∷ []) 0)
    (on (begins_fold t)
    (Takes (nat_lt 1 b) (Mark (codes "(") ∷ Name ∷ Mark (codes ":") ∷ Primary (b - 1) ∷ Calls (b - 1) ∷ Mark (codes ")") ∷ FoldBody b ∷ []) 0)
    (on (is_name_token t) (Takes (nat_lt 0 b) (Named (is_get_child t) b ∷ []) 0) Refuses)))

abbrev pub unary_answer : ℕ → Option PlacedToken → Answer Want
unary_answer b s =
    on (next (is_sign (codes "-")) s) (Takes (nat_lt 0 b) (Minus b ∷ []) 0)
    (on (next (is_sign (codes "!")) s) (Takes (nat_lt 1 b) (Unary (b - 1) ∷ Deeper ∷ []) 0)
    (on (next (is_sign (codes "(")) s) (Takes (nat_lt 1 b) (Opened b ∷ []) 0) (and_then (primary_answer b s) (Calls b ∷ []))))

-- behind a `-`
abbrev pub minus_answer : ℕ → Option PlacedToken → Answer Want
minus_answer b s =
    on (next is_number s) (expects (is_number_within 2147483648) (Takes true (Calls b ∷ []) 1) s) (and_then (unary_answer (b - 1) s) (Deeper ∷ []))

-- operands of this rank at most
abbrev pub binary_answer : ℕ → ℕ → Option PlacedToken → Answer Want
binary_answer zero b s = unary_answer b s
binary_answer (suc rank) b s = and_then (binary_answer rank b s) (Links rank b ∷ [])

-- or ["?" expr ":" expr]
abbrev pub expression_answer : ℕ → Option PlacedToken → Answer Want
expression_answer b s = and_then (binary_answer 6 b s) (Choice b ∷ [])

-- behind a left operand of this depth
abbrev pub link_answer : ℕ → ℕ → ℕ → PlacedToken → Answer Want
link_answer rank b d t =
    cond (is_word_kind t.kind) (Takes (nat_lt d b) (Name ∷ Counts (1 + d) ∷ Links rank b ∷ []) 0)
    (Takes (nat_lt d b) (Binary rank (b - 1) ∷ Join d ∷ Links rank b ∷ []) 0)

abbrev pub links_answer : ℕ → ℕ → ℕ → Option PlacedToken → Answer Want
links_answer rank b d None = Skips d
links_answer rank b d (Some t) = on (link_rank t == suc rank) (link_answer rank b d t) (Skips d)

abbrev pub choice_answer : ℕ → ℕ → Option PlacedToken → Answer Want
choice_answer b d s = on (next (is_sign (codes "?")) s) (Takes (nat_lt d b) (Expression (b - 1) ∷ Otherwise b d ∷ []) 0) (Skips d)

abbrev pub calls_answer : ℕ → ℕ → Option PlacedToken → Answer Want
calls_answer b d s = on (next (is_sign (codes ".")) s) (Takes (nat_lt d b) (Called (b - 1) ∷ Join d ∷ Calls b ∷ []) 0) (Skips d)

abbrev pub called_answer : ℕ → Option PlacedToken → Answer Want
called_answer b None = Refuses
called_answer b (Some t) = on (is_name_token t) (Takes true (Arguments (is_get_child t) b ∷ []) 0) Refuses

abbrev pub named_answer : Bool → ℕ → Option PlacedToken → Answer Want
named_answer g b s = on (next (is_sign (codes "(")) s) (Takes true (FirstArgument g (b - 1) ∷ Deeper ∷ []) 0) (Skips 1)

-- `int` behind the `(` of `getChild` begins what is left out
abbrev pub first_argument_answer : Bool → ℕ → Option PlacedToken → Answer Want
first_argument_answer g b s =
    on (next (is_sign (codes ")")) s) (Takes true [] 0)
    (on (g && next (is_word (codes "int")) s) LeavesOut (and_then (expression_answer b s) (MoreArguments b ∷ [])))

abbrev pub more_arguments_answer : ℕ → ℕ → Option PlacedToken → Answer Want
more_arguments_answer b d s =
    on (next (is_sign (codes ")")) s) (Takes true [] d) (expects (is_sign (codes ",")) (Takes true (Expression b ∷ Deepest d ∷ MoreArguments b ∷ []) 0) s)

-- ---- a parenthesis in the place of a unary, which may be a cast's

-- what goes on behind a name alone within a parenthesis
abbrev pub links_from : ℕ → ℕ → List Want
links_from zero b = []
links_from (suc rank) b = links_from rank b ++ Links rank b ∷ []

-- the first of what may be absent that takes the next token
abbrev pub or_else : Answer Want → List Want → (ℕ → Answer Want) → Answer Want
or_else (Takes within more d) ws skipped = Takes within (more ++ ws) d
or_else (Skips d) ws skipped = skipped d
or_else Refuses ws skipped = Refuses
or_else LeavesOut ws skipped = LeavesOut

-- operators of each rank below this, and what is wanted behind them
abbrev pub tails_answer : ℕ → ℕ → List Want → (ℕ → Answer Want) → ℕ → Option PlacedToken → Answer Want
tails_answer zero b ws skipped d s = skipped d
tails_answer (suc rank) b ws skipped d s = tails_answer rank b (Links rank b ∷ ws) (λ e. or_else (links_answer rank b e s) ws skipped) d s

-- within a parenthesis behind its first name, where the parenthesis doesn't end
abbrev pub enclosed_rest : Bool → ℕ → ℕ → Option PlacedToken → Answer Want
enclosed_rest g b d s =
    let behind = Choice b ∷ Mark (codes ")") ∷ [] in
    or_else (named_answer g b s) (Calls b ∷ (links_from 6 b ++ behind)) (λ e.
    or_else (calls_answer b e s) (links_from 6 b ++ behind) (λ x.
    tails_answer 6 b behind (λ y. or_else (choice_answer b y s) (Mark (codes ")") ∷ []) (λ z. Refuses)) x s))

abbrev pub enclosed_answer : Bool → ℕ → ℕ → Option PlacedToken → Answer Want
enclosed_answer g b d s =
    on (next (is_sign (codes ")")) s) (Takes true (Parenthesized b ∷ []) 2) (and_then (enclosed_rest g (b - 1) d s) (Deeper ∷ Calls b ∷ []))

abbrev pub opened_answer : ℕ → Option PlacedToken → Answer Want
opened_answer b None = Refuses
opened_answer b (Some t) =
    on (is_name_token t) (Takes (nat_lt 0 (b - 1)) (Enclosed (is_get_child t) b ∷ []) 0)
    (and_then (expression_answer (b - 1) (Some t)) (Mark (codes ")") ∷ Deeper ∷ Calls b ∷ []))

-- behind `( NAME )`: a cast's operand, or what may stand behind a parenthesis
abbrev pub parenthesized_answer : ℕ → ℕ → Option PlacedToken → Answer Want
parenthesized_answer b d s = on (next follows_cast s) (and_then (unary_answer (b - 1) s) (Deeper ∷ [])) (calls_answer b d s)

-- ---- the rows of declarations

-- another word than a keyword begins what is left out
abbrev pub no_keyword : PlacedToken → Answer Want
no_keyword t = cond (is_word_kind t.kind) LeavesOut Refuses

abbrev pub declared : Forms → List Want → List Want
declared forms ws = Lazy ∷ Attribute forms ∷ ws

abbrev pub file_answer : Forms → Option PlacedToken → Answer Want
file_answer forms None = Skips 0
file_answer forms (Some t) =
    on (is_word (codes "aspect") t) (Takes true (Name ∷ Mark (codes "{") ∷ Decls forms ∷ File forms ∷ []) 0) (no_keyword t)

abbrev pub decls_answer : Forms → Option PlacedToken → Answer Want
decls_answer forms None = Refuses
decls_answer forms (Some t) =
    on (is_sign (codes "}") t) (Takes true [] 0)
    (on (is_word (codes "syn") t) (Takes true (declared forms (Ending ∷ Decls forms ∷ [])) 0)
    (on (is_word (codes "inh") t) (Takes true (declared forms (Mark (codes ";") ∷ Decls forms ∷ [])) 0)
    (on (is_word (codes "eq") t) (Takes true (Name ∷ Mark (codes ".") ∷ Signed ∷ Defined ∷ Decls forms ∷ []) 0) (no_keyword t))))

abbrev pub not_nta_answer : Option PlacedToken → Answer Want
not_nta_answer s = on (next (is_word (codes "nta")) s) LeavesOut (Skips 0)

abbrev pub lazy_answer : Option PlacedToken → Answer Want
lazy_answer s = on (next (is_word (codes "lazy")) s) (Takes true (NotNta ∷ []) 0) (not_nta_answer s)

abbrev pub is_kind : PlacedToken → Bool
is_kind t = is_word (codes "int") t || is_word (codes "boolean") t || is_word (codes "String") t || is_name_token t

-- behind a kind: the attribute's names and parameters, and whether it is circular
abbrev pub named : Bool → List Want
named may_stand = Name ∷ Mark (codes ".") ∷ Signed ∷ Circular may_stand ∷ []

abbrev pub attribute_answer : Forms → Option PlacedToken → Answer Want
attribute_answer forms None = Refuses
attribute_answer forms (Some t) = on (is_kind t) (Takes true (named (is_word (codes "boolean") t && forms.circular)) 0) Refuses

abbrev pub signed_answer : Option PlacedToken → Answer Want
signed_answer None = Refuses
signed_answer (Some t) = on (is_name_token t) (Takes true (Opening (is_get_child t) ∷ []) 0) Refuses

-- behind a parameter, where it ends with this register
abbrev pub more_params_answer : ℕ → Option PlacedToken → Answer Want
more_params_answer d s = on (next (is_sign (codes ")")) s) (Takes true [] d) (expects (is_sign (codes ",")) (Takes true (Kind ∷ Name ∷ MoreParams ∷ []) 0) s)

abbrev pub params_answer : Bool → Option PlacedToken → Answer Want
params_answer g None = Refuses
params_answer g (Some t) =
    on (is_sign (codes ")") t) (Takes true [] 0)
    (on (g && is_word (codes "int") t) LeavesOut
    (on (is_word (codes "int") t) (Takes true (Name ∷ OneParam ∷ []) 0)
    (on (is_kind t) (Takes true (Name ∷ MoreParams ∷ []) 0) Refuses)))

abbrev pub body_answer : Option PlacedToken → Answer Want
body_answer s = on (next (is_sign (codes "=")) s) (Takes true (Expression max_nesting ∷ Mark (codes ";") ∷ []) 0)
    (expects (is_sign (codes "{")) (Takes true (Return ∷ Expression max_nesting ∷ Mark (codes ";") ∷ Close ∷ []) 0) s)

abbrev pub circular_answer : Bool → Option PlacedToken → Answer Want
circular_answer may_stand s =
    on (next (is_word (codes "circular")) s) (cond may_stand (Takes true (Bracket ∷ Mark (codes "]") ∷ Circular false ∷ []) 0) LeavesOut) (Skips 0)

-- another expression is left out
abbrev pub start_answer : Option PlacedToken → Answer Want
start_answer s =
    on (next (is_word (codes "true")) s) (Takes true [] 0)
    (on (next (is_word (codes "false")) s) (Takes true [] 0) (on (next begins_other s) LeavesOut Refuses))

abbrev pub ending_answer : Option PlacedToken → Answer Want
ending_answer s = on (next (is_sign (codes ";")) s) (Takes true [] 0) (body_answer s)

abbrev pub defined_answer : ℕ → Option PlacedToken → Answer Want
defined_answer d s = on ((d == 0) && next (is_sign (codes ".")) s) (Takes true (Signed ∷ Body ∷ []) 0) (body_answer s)

-- any other token is left out
abbrev pub alone : (PlacedToken → Bool) → Option PlacedToken → Answer Want
alone test None = Refuses
alone test (Some t) = on (test t) (Takes true [] 0) LeavesOut

-- ---- the table

-- each form by its first token
unfoldable pub table : Table PlacedToken Want
table (Expression b) d s = expression_answer b s
table (Binary rank b) d s = binary_answer rank b s
table (Links rank b) d s = links_answer rank b d s
table (Choice b) d s = choice_answer b d s
table (Otherwise b m) d s = expects (is_sign (codes ":")) (Takes true (Expression (b - 1) ∷ Deepest d ∷ Join m ∷ []) 0) s
table (Unary b) d s = unary_answer b s
table (Minus b) d s = minus_answer b s
table (Opened b) d s = opened_answer b s
table (Enclosed g b) d s = enclosed_answer g b d s
table (Parenthesized b) d s = parenthesized_answer b d s
table (Calls b) d s = calls_answer b d s
table (Called b) d s = called_answer b s
table (Arguments g b) d s = expects (is_sign (codes "(")) (Takes true (FirstArgument g b ∷ []) 0) s
table (FirstArgument g b) d s = first_argument_answer g b s
table (MoreArguments b) d s = more_arguments_answer b d s
table (Primary b) d s = primary_answer b s
table (Named g b) d s = named_answer g b s
table (FoldBody b) d s = expects (is_sign (codes "{")) (Takes true (Expression (b - 1) ∷ Mark (codes "}") ∷ Join d ∷ []) 0) s
table Deeper d s = Skips (1 + d)
table (Join m) d s = Skips (1 + max m d)
table (Deepest m) d s = Skips (max m d)
table (Counts n) d s = Skips n
table Name d s = expects is_name_token (Takes true [] d) s
table (Mark text) d s = expects (is_sign text) (Takes true [] d) s
table (File forms) d s = file_answer forms s
table (Decls forms) d s = decls_answer forms s
table Lazy d s = lazy_answer s
table NotNta d s = not_nta_answer s
table (Attribute forms) d s = attribute_answer forms s
table Kind d s = expects is_kind (Takes true [] 0) s
table Signed d s = signed_answer s
table (Opening g) d s = expects (is_sign (codes "(")) (Takes true (Params g ∷ []) 0) s
table (Params g) d s = params_answer g s
table OneParam d s = more_params_answer 0 s
table MoreParams d s = more_params_answer 1 s
table (Circular may_stand) d s = circular_answer may_stand s
table Bracket d s = expects (is_sign (codes "[")) (Takes true (Start ∷ []) 0) s
table Start d s = start_answer s
table Ending d s = ending_answer s
table Body d s = body_answer s
table Defined d s = defined_answer d s
table Return d s = alone (is_word (codes "return")) s
table Close d s = alone (is_sign (codes "}")) s
