-- Aspects as they are written: which tokens spell each form (.jrag, JastAdd2 reference manual).
-- Each form relates the tokens that are left where it begins to those that are left behind it. `forms` are those that are read
-- of the forms that are left out else.
use Rattle.std.specs.Prelude.{◌≡◌, ℕ, ◌+◌, ◌≤◌, ℤ, pos, neg_ℤ, List, [], ◌∷◌, Bool, true, false, ◌&&◌, ◌||◌, Option, Some, None, max, decimal, ◌⊎◌}
use Rattle.std.specs.List.{AllByRecursion}
use Rattle.std.specs.Str.{bytes_eq}
use lib.Chars.{codes}
use Rattle.at_model.specs.Names.{is_name}
use Rattle.at_model.specs.Texts.{quoted}
use Rattle.at_text.specs.declared.token.TokenKind.TheVariants as kind
use Rattle.at_text.specs.Symbols.{PlacedToken, is_word_kind}
use Rattle.at_text.specs.Rows.{Row, sign, word, is_sign, is_word, next_is}
use Rattle.at_text.specs.declared.place.Place.{Place}
use Rattle.at_jrag.specs.declared.Forms.{Forms}
use Rattle.at_jrag.specs.Syntax as syntax
use Rattle.at_jrag.specs.Syntax.{Word, Kind, KindWord, Param, Params, Operator, FoldForm, Expr, Exprs, place, Body, Ending, Decl, DeclForm, Aspect}

-- ---- tokens

abbrev pub number : List ℕ → Place → PlacedToken
number text at = record { kind = kind.Number; text = text; at = at }

-- a text between quotes
abbrev pub quotation : List ℕ → Place → PlacedToken
quotation text at = record { kind = kind.Text; text = text; at = at }

-- a sign, wherever it stands
abbrev pub Sign : List ℕ → Row → Row → Type 0
Sign text old rest = (at : Place) × (old ≡ sign text at ∷ rest)

abbrev pub Keyword : List ℕ → Row → Row → Type 0
Keyword text old rest = (at : Place) × (old ≡ word text at ∷ rest)

-- name
abbrev pub Name : Word → Row → Row → Type 0
Name w old rest = (is_name w.text ≡ true) × (old ≡ word w.text w.at ∷ rest)

-- ---- what comes next

abbrev pub is_number : PlacedToken → Bool
is_number t = elim t.kind [ kind.Word ↦ false | kind.Number ↦ true | kind.Text ↦ false | kind.Sign ↦ false ]

abbrev pub is_text : PlacedToken → Bool
is_text t = elim t.kind [ kind.Word ↦ false | kind.Number ↦ false | kind.Text ↦ true | kind.Sign ↦ false ]

-- ---- declarations

abbrev pub kind_text : Kind → List ℕ
kind_text syntax.Int = codes "int"
kind_text syntax.Bool' = codes "boolean"
kind_text syntax.Text = codes "String"
kind_text (syntax.Class name) = name

abbrev pub IsKind : Kind → Type 0
IsKind syntax.Int = Unit {0}
IsKind syntax.Bool' = Unit {0}
IsKind syntax.Text = Unit {0}
IsKind (syntax.Class name) = is_name name ≡ true

-- "int" | "boolean" | "String" | name
abbrev pub KindOf : KindWord → Row → Row → Type 0
KindOf k old rest = IsKind k.kind × (old ≡ word (kind_text k.kind) k.at ∷ rest)

-- kind name
abbrev pub ParamOf : Param → Row → Row → Type 0
ParamOf p old rest = (mid : Row) × KindOf p.kind old mid × Name p.name mid rest

-- { "," kind name } ")"
abbrev pub MoreParams : List Param → Place → Row → Row → Type 0
MoreParams [] end old rest = old ≡ sign (codes ")") end ∷ rest
MoreParams (p ∷ ps) end old rest = (one : Row) × (more : Row) × Sign (codes ",") old one × ParamOf p one more × MoreParams ps end more rest

-- [kind name { "," kind name }] ")"
abbrev pub Listed : List Param → Place → Row → Row → Type 0
Listed [] end old rest = old ≡ sign (codes ")") end ∷ rest
Listed (p ∷ ps) end old rest = (more : Row) × ParamOf p old more × MoreParams ps end more rest

-- "(" behind a name; behind the one of `getChild` no `int` follows
abbrev pub Opens : List ℕ → Row → Row → Type 0
Opens name old rest = Sign (codes "(") old rest × (bytes_eq name (codes "getChild") && next_is (is_word (codes "int")) rest ≡ false)

-- name "(" [params] ")"
abbrev pub Signature : Word → Params → Row → Row → Type 0
Signature name ps old rest = (paren : Row) × (list : Row) × Name name old paren × Opens name.text paren list × Listed ps.items ps.end list rest

-- name "."
abbrev pub Owner : Word → Row → Row → Type 0
Owner class old rest = (dot : Row) × Name class old dot × Sign (codes ".") dot rest

-- ["lazy"]
abbrev pub Lazy : Option Place → Row → Row → Type 0
Lazy None old rest = old ≡ rest
Lazy (Some at) old rest = old ≡ word (codes "lazy") at ∷ rest

-- ["int" name] ")"
abbrev pub Index : Option Word → Row → Row → Type 0
Index None old rest = Sign (codes ")") old rest
Index (Some w) old rest = (one : Row) × (close : Row) × Keyword (codes "int") old one × Name w one close × Sign (codes ")") close rest

-- name "(" ["int" name] ")" "."
abbrev pub Getter : Word → Option Word → Row → Row → Type 0
Getter name index old rest =
    (paren : Row) × (list : Row) × (dot : Row) × Name name old paren × Opens name.text paren list × Index index list dot × Sign (codes ".") dot rest

-- ---- expressions

abbrev pub operator_text : Operator → List ℕ
operator_text syntax.Or = codes "||"
operator_text syntax.And = codes "&&"
operator_text syntax.Same = codes "=="
operator_text syntax.Differs = codes "!="
operator_text syntax.Below = codes "<"
operator_text syntax.AtMost = codes "<="
operator_text syntax.Above = codes ">"
operator_text syntax.AtLeast = codes ">="
operator_text syntax.Add = codes "+"
operator_text syntax.Subtract = codes "-"
operator_text syntax.Multiply = codes "*"
operator_text syntax.Divide = codes "/"
operator_text syntax.Remainder = codes "%"

-- from the weakest to the strongest
abbrev pub operator_level : Operator → ℕ
operator_level syntax.Or = 1
operator_level syntax.And = 2
operator_level syntax.Same = 3
operator_level syntax.Differs = 3
operator_level syntax.Below = 4
operator_level syntax.AtMost = 4
operator_level syntax.Above = 4
operator_level syntax.AtLeast = 4
operator_level syntax.Add = 5
operator_level syntax.Subtract = 5
operator_level syntax.Multiply = 6
operator_level syntax.Divide = 6
operator_level syntax.Remainder = 6

-- how strongly the parts of an expression hold together: `?` and `:`, operators, what stands before an operand, and the others
abbrev pub level : Expr → ℕ
level (syntax.Number at n) = 8
level (syntax.TextLiteral at bytes) = 8
level (syntax.Truth at b) = 8
level (syntax.Null at) = 8
level (syntax.This at) = 8
level (syntax.Name at text) = 8
level (syntax.Call at name es) = 8
level (syntax.CallOf at e name es) = 8
level (syntax.Paren at e) = 8
level (syntax.Negate at e) = 7
level (syntax.Not at e) = 7
level (syntax.Cast at class e) = 7
level (syntax.InstanceOf at e behind class) = 4
level (syntax.Binary at o between a b) = operator_level o
level (syntax.Choose at c behind a b) = 0
level (syntax.Fold at form name list body) = 8

abbrev pub truth_text : Bool → List ℕ
truth_text true = codes "true"
truth_text false = codes "false"

abbrev pub fold_text : FoldForm → List ℕ
fold_text syntax.Exists = codes "exists"
fold_text syntax.First = codes "first"
fold_text syntax.Sum = codes "sum"

-- digits without a leading zero, and no more of them than 32 bits hold; a minus before them belongs to the number
abbrev pub NumberOf : Place → ℤ → Row → Row → Type 0
NumberOf at n old rest =
    ((m : ℕ) × (m ≤ 2147483647) × (n ≡ pos m) × (old ≡ number (decimal m) at ∷ rest))
    ⊎ ((m : ℕ) × (digits : Place) × (m ≤ 2147483648) × (n ≡ neg_ℤ (pos m)) × (old ≡ sign (codes "-") at ∷ number (decimal m) digits ∷ rest))

-- a reserved word that makes a cast of the `( NAME )` before it
abbrev pub is_opening : List ℕ → Bool
is_opening text =
    bytes_eq text (codes "this") || bytes_eq text (codes "null")
    || bytes_eq text (codes "exists") || bytes_eq text (codes "first") || bytes_eq text (codes "sum")

-- what makes a cast of the `( NAME )` before it
abbrev pub follows_cast : PlacedToken → Bool
follows_cast t = (is_word_kind t.kind && (is_name t.text || is_opening t.text)) || is_sign (codes "(") t

-- an expression that is neither `true` nor `false` may begin with it
abbrev pub begins_other : PlacedToken → Bool
begins_other t = is_number t || (is_text t || (is_sign (codes "-") t || (is_sign (codes "!") t || follows_cast t)))

abbrev mutual
  -- An expression. Its place is that of its first token.
  pub Spells : Expr → Row → Row → Type 0
  Spells (syntax.Number at n) old rest = NumberOf at n old rest
  Spells (syntax.TextLiteral at bytes) old rest = old ≡ quotation (quoted bytes) at ∷ rest
  Spells (syntax.Truth at b) old rest = old ≡ word (truth_text b) at ∷ rest
  Spells (syntax.Null at) old rest = old ≡ word (codes "null") at ∷ rest
  Spells (syntax.This at) old rest = old ≡ word (codes "this") at ∷ rest
  Spells (syntax.Name at text) old rest = Name (record { text = text; at = at }) old rest
  -- name "(" [args] ")"
  Spells (syntax.Call at name es) old rest =
      (paren : Row) × (list : Row) × Name (record { text = name; at = at }) old paren × Opens name paren list × Arguments es list rest
  -- post "." name "(" [args] ")"
  Spells (syntax.CallOf at e name es) old rest =
      (dot : Row) × (called : Row) × (paren : Row) × (list : Row) × (name_at : Place) × (at ≡ place e) × (8 ≤ level e)
      × Spells e old dot × Sign (codes ".") dot called × Name (record { text = name; at = name_at }) called paren
      × Opens name paren list × Arguments es list rest
  -- "(" expr ")"
  Spells (syntax.Paren at e) old rest =
      (one : Row) × (close : Row) × (old ≡ sign (codes "(") at ∷ one) × Spells e one close × Sign (codes ")") close rest
  -- "-" unary, where no number follows
  Spells (syntax.Negate at e) old rest =
      (one : Row) × (old ≡ sign (codes "-") at ∷ one) × (next_is is_number one ≡ false) × (7 ≤ level e) × Spells e one rest
  -- "!" unary
  Spells (syntax.Not at e) old rest = (one : Row) × (old ≡ sign (codes "!") at ∷ one) × (7 ≤ level e) × Spells e one rest
  -- "(" name ")" cast
  Spells (syntax.Cast at class e) old rest =
      (named : Row) × (close : Row) × (one : Row) × (old ≡ sign (codes "(") at ∷ named) × Name class named close × Sign (codes ")") close one
      × (next_is follows_cast one ≡ true) × (7 ≤ level e) × Spells e one rest
  -- rel "instanceof" name
  Spells (syntax.InstanceOf at e behind class) old rest =
      (link : Row) × (named : Row) × (at ≡ place e) × (4 ≤ level e)
      × Spells e old link × (link ≡ word (codes "instanceof") behind ∷ named) × Name class named rest
  -- two operands, of which the left one may be of the operator's level
  Spells (syntax.Binary at o between a b) old rest =
      (link : Row) × (right : Row) × (at ≡ place a) × (operator_level o ≤ level a) × (operator_level o + 1 ≤ level b)
      × Spells a old link × (link ≡ sign (operator_text o) between ∷ right) × Spells b right rest
  -- or "?" expr ":" expr
  Spells (syntax.Choose at c behind a b) old rest =
      (link : Row) × (then : Row) × (colon : Row) × (other : Row) × (at ≡ place c) × (1 ≤ level c)
      × Spells c old link × (link ≡ sign (codes "?") behind ∷ then) × Spells a then colon × Sign (codes ":") colon other × Spells b other rest
  -- ("exists" | "first" | "sum") "(" name ":" post ")" "{" expr "}"
  Spells (syntax.Fold at form name list body) old rest =
      (paren : Row) × (named : Row) × (colon : Row) × (items : Row) × (close : Row) × (brace : Row) × (one : Row) × (end : Row)
      × (old ≡ word (fold_text form) at ∷ paren) × Sign (codes "(") paren named × Name name named colon × Sign (codes ":") colon items
      × (next_is (is_sign (codes "-")) items ≡ false) × (8 ≤ level list)
      × Spells list items close × Sign (codes ")") close brace × Sign (codes "{") brace one
      × Spells body one end × Sign (codes "}") end rest

  -- [expr { "," expr }] ")"
  pub Arguments : Exprs → Row → Row → Type 0
  Arguments syntax.no_exprs old rest = Sign (codes ")") old rest
  Arguments (syntax.expr e es) old rest = (more : Row) × Spells e old more × MoreArguments es more rest

  -- { "," expr } ")"
  pub MoreArguments : Exprs → Row → Row → Type 0
  MoreArguments syntax.no_exprs old rest = Sign (codes ")") old rest
  MoreArguments (syntax.expr e es) old rest =
      (one : Row) × (more : Row) × Sign (codes ",") old one × Spells e one more × MoreArguments es more rest

-- ---- nesting

abbrev mutual
  -- how deep expressions nest: a literal, a name and a call without parts once, any other form one more than its deepest part
  pub depth : Expr → ℕ
  depth (syntax.Number at n) = 1
  depth (syntax.TextLiteral at bytes) = 1
  depth (syntax.Truth at b) = 1
  depth (syntax.Null at) = 1
  depth (syntax.This at) = 1
  depth (syntax.Name at text) = 1
  depth (syntax.Call at name es) = 1 + deepest es
  depth (syntax.CallOf at e name es) = 1 + max (depth e) (deepest es)
  depth (syntax.Paren at e) = 1 + depth e
  depth (syntax.Negate at e) = 1 + depth e
  depth (syntax.Not at e) = 1 + depth e
  depth (syntax.Cast at class e) = 1 + depth e
  depth (syntax.InstanceOf at e behind class) = 1 + depth e
  depth (syntax.Binary at o between a b) = 1 + max (depth a) (depth b)
  depth (syntax.Choose at c behind a b) = 1 + max (depth c) (max (depth a) (depth b))
  depth (syntax.Fold at form name list body) = 1 + max (depth list) (depth body)

  -- the nesting of the deepest; 0 if there is none
  pub deepest : Exprs → ℕ
  deepest syntax.no_exprs = 0
  deepest (syntax.expr e es) = max (depth e) (deepest es)

-- ---- bodies, declarations, files

-- "=" expr ";" | "{" "return" expr ";" "}"
abbrev pub BodyOf : Body → Row → Row → Type 0
BodyOf b old rest = elim b.form [
  | syntax.Equation' ↦ (one : Row) × (end : Row) × (old ≡ sign (codes "=") b.at ∷ one) × Spells b.expr one end × Sign (codes ";") end rest
  | syntax.Block ↦ (returns : Row) × (one : Row) × (end : Row) × (close : Row)
      × (old ≡ sign (codes "{") b.at ∷ returns) × Keyword (codes "return") returns one × Spells b.expr one end
      × Sign (codes ";") end close × Sign (codes "}") close rest
]

-- ";" | body
abbrev pub EndingOf : Ending → Row → Row → Type 0
EndingOf (syntax.With b) old rest = BodyOf b old rest
EndingOf (syntax.Semicolon at) old rest = old ≡ sign (codes ";") at ∷ rest

-- an attribute of this kind may be circular
abbrev pub may_be_circular : Forms → Kind → Bool
may_be_circular forms syntax.Int = false
may_be_circular forms syntax.Bool' = forms.circular
may_be_circular forms syntax.Text = false
may_be_circular forms (syntax.Class name) = false

-- "[" ("true" | "false") "]"
abbrev pub StartOf : Bool → Row → Row → Type 0
StartOf b old rest = (value : Row) × (close : Row) × Sign (codes "[") old value × Keyword (truth_text b) value close × Sign (codes "]") close rest

-- ["circular" "[" ("true" | "false") "]"], where it may stand
abbrev pub Circular : Bool → Option Bool → Row → Row → Type 0
Circular may_stand None old rest = old ≡ rest
Circular may_stand (Some b) old rest = (may_stand ≡ true) × (bracket : Row) × Keyword (codes "circular") old bracket × StartOf b bracket rest

-- kind name "." name "(" [params] ")" ["circular" "[" ("true" | "false") "]"]
abbrev pub AttributeOf : Forms → KindWord → Word → Word → Params → Option Bool → Row → Row → Type 0
AttributeOf forms k class name ps start old rest =
    (owner : Row) × (called : Row) × (behind : Row) × KindOf k old owner × Owner class owner called × Signature name ps called behind
    × Circular (may_be_circular forms k.kind) start behind rest

-- ["lazy"] attribute
abbrev pub Declared : Forms → Option Place → KindWord → Word → Word → Params → Option Bool → Row → Row → Type 0
Declared forms lazy k class name ps start old rest = (kinds : Row) × Lazy lazy old kinds × AttributeOf forms k class name ps start kinds rest

-- a declaration behind its first word
abbrev pub Behind : Forms → DeclForm → Row → Row → Type 0
Behind forms (syntax.Synthesized lazy k class name ps start ending) old rest =
    (end : Row) × Declared forms lazy k class name ps start old end × EndingOf ending end rest
Behind forms (syntax.Inherited lazy k class name ps start) old rest =
    (end : Row) × Declared forms lazy k class name ps start old end × Sign (codes ";") end rest
Behind forms (syntax.Equation class name ps b) old rest =
    (called : Row) × (body : Row) × Owner class old called × Signature name ps called body × BodyOf b body rest
Behind forms (syntax.InheritedEquation class getter index name ps b) old rest =
    (got : Row) × (called : Row) × (body : Row)
    × Owner class old got × Getter getter index got called × Signature name ps called body × BodyOf b body rest

abbrev pub keyword : DeclForm → List ℕ
keyword (syntax.Synthesized lazy k class name ps start ending) = codes "syn"
keyword (syntax.Inherited lazy k class name ps start) = codes "inh"
keyword (syntax.Equation class name ps b) = codes "eq"
keyword (syntax.InheritedEquation class getter index name ps b) = codes "eq"

-- ("syn" | "inh" | "eq") and what stands behind it
abbrev pub DeclOf : Forms → Decl → Row → Row → Type 0
DeclOf forms d old rest = (behind : Row) × (old ≡ word (keyword d.form) d.at ∷ behind) × Behind forms d.form behind rest

-- { decl }
abbrev pub Decls : Forms → List Decl → Row → Row → Type 0
Decls forms [] old rest = old ≡ rest
Decls forms (d ∷ ds) old rest = (more : Row) × DeclOf forms d old more × Decls forms ds more rest

-- "aspect" name "{" { decl } "}"
abbrev pub AspectOf : Forms → Aspect → Row → Row → Type 0
AspectOf forms a old rest =
    (named : Row) × (brace : Row) × (inner : Row) × (close : Row)
    × Keyword (codes "aspect") old named × Name a.name named brace × Sign (codes "{") brace inner
    × Decls forms a.decls inner close × Sign (codes "}") close rest

-- { aspect }
abbrev pub File : Forms → List Aspect → Row → Row → Type 0
File forms [] old rest = old ≡ rest
File forms (a ∷ aspects) old rest = (more : Row) × AspectOf forms a old more × File forms aspects more rest

-- ---- the limit

abbrev pub ending_depth : Ending → ℕ
ending_depth (syntax.With b) = depth b.expr
ending_depth (syntax.Semicolon at) = 0

-- how deep expressions nest in the declaration; 0 where it has none
abbrev pub nesting : DeclForm → ℕ
nesting (syntax.Synthesized lazy k class name ps start ending) = ending_depth ending
nesting (syntax.Inherited lazy k class name ps start) = 0
nesting (syntax.Equation class name ps b) = depth b.expr
nesting (syntax.InheritedEquation class getter index name ps b) = depth b.expr

abbrev pub max_nesting : ℕ
max_nesting = 64

abbrev pub NestsWithin : Decl → Type 0
NestsWithin d = nesting d.form ≤ max_nesting

-- no expression nests deeper than that
abbrev pub IsWithin : List Aspect → Type 0
IsWithin = AllByRecursion (λ a. AllByRecursion NestsWithin a.decls)
