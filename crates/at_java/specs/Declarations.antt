-- Declarations: attributes, equations and methods (JastAdd2 reference manual, attributes; Java Language Specification 8.4).
use Rattle.std.specs.Prelude.{[], ◌∷◌, ◌++◌, Bool, true, false, cond, not, ◌&&◌, ◌||◌, nat_eq, Option, Some, None}
use Rattle.std.specs.List.{starts_with}
use lib.Chars.{codes}
use Rattle.at_text.specs.Symbols.{PlacedToken}
use Rattle.at_text.specs.Rows.{Row, is_sign, is_word, is_name_token, next_is}
use Rattle.at_text.specs.declared.place.Place.{Place}
use Rattle.at_model.specs.Terms.{Cell, One, Many}
use Rattle.at_tree.specs.View.{to_terms}
use Rattle.at_jrag.specs.Syntax as syntax
use Rattle.at_jrag.specs.Syntax.{Word, Kind, KindWord, Params, Body, Ending, Decl}
use Rattle.at_jrag.specs.Table.{is_kind}
use Rattle.at_jrag.specs.Heads.{is_getter, index}
use Rattle.at_java.specs.Read.{Read, got, fails, here, at_place, then_read, map_read}
use Rattle.at_java.specs.Tokens.{sign_here, name}
use Rattle.at_java.specs.Next.{after_word, after_sign, other_code, or_fails}
use Rattle.at_java.specs.Written.{to_statements}
use Rattle.at_java.specs.Kinds.{kind, params}
use Rattle.at_java.specs.Outsets.{Outset, outset}
use Rattle.at_java.specs.Making.{Making, making, made_term, made_list}
use Rattle.at_java.specs.Statements.{block, statement, max_nesting}
use Rattle.at_java.specs.Expressions.{expression}
use Rattle.at_java.specs.Rewriting as meaning
use Rattle.at_java.specs.Rewriting.{Meaning, rewritten}
use Rattle.at_java.specs.declared.JavaCode.TheVariants.{Syntax, LeftOut, Limit, NoValue}

-- ---- headings

-- an attribute of a class, as it is declared or as an equation names it
pub record Target : Type 0 where
  pub class : Word
  pub name : Word
  pub params : Params

-- name "." name "(" [params] ")"
abbrev pub target : Row → Read Target
target row = then_read (name row) (λ class rest. then_read (sign_here (codes ".") rest) (λ dot behind. then_read (name behind) (λ w paren.
    then_read (params w.text paren) (λ ps left. got (record { class = class; name = w; params = ps }) left))))

-- { "lazy" | "final" }: the place of the last `lazy`, or this
unfoldable pub laziness : Option Place → Row → Read (Option Place)
laziness lazy [] = got lazy []
laziness lazy (t ∷ ts) =
    cond (is_word (codes "lazy") t) (laziness (Some t.at) ts)
    (cond (is_word (codes "final") t) (laziness lazy ts) (got lazy (t ∷ ts)))

abbrev pub is_boolean : Kind → Bool
is_boolean syntax.Int = false
is_boolean syntax.Bool' = true
is_boolean syntax.Text = false
is_boolean (syntax.Class text) = false

-- "true" | "false"
abbrev pub truth : Row → Read Bool
truth row = after_word (codes "true") row (λ at rest. got true rest)
    (after_word (codes "false") row (λ at rest. got false rest) (fails (here Syntax row)))

-- "[" truth "]"
abbrev pub start : Row → Read Bool
start row = then_read (sign_here (codes "[") row) (λ paren inner.
    then_read (truth inner) (λ b rest. then_read (sign_here (codes "]") rest) (λ close left. got b left)))

-- ["circular" start] of a boolean: what is circular else is left out there
abbrev pub circular : Kind → Row → Read (Option Bool)
circular k row = after_word (codes "circular") row (λ at rest. cond (is_boolean k)
    (then_read (or_fails (at_place LeftOut at) (start rest)) (λ b left. got (Some b) left)) (fails (at_place LeftOut at))) (got None row)

-- a declared attribute, behind `lazy` and `final`, up to its ending
pub record Head : Type 0 where
  pub kind : KindWord
  pub target : Target
  pub start : Option Bool

abbrev pub head : Row → Read Head
head row = then_read (kind row) (λ k named. then_read (target named) (λ t behind.
    then_read (circular k.kind behind) (λ s left. got (record { kind = k; target = t; start = s }) left)))

-- ---- bodies

-- what the statements mean, behind the whole body
abbrev pub meant : Place → Meaning → Place → Row → Read Body
meant at (meaning.Means e) end rest = got (record { at = at; form = syntax.Block; expr = e }) rest
meant at meaning.Open end rest = fails (at_place NoValue end)
meant at (meaning.Refused code there) end rest = fails (at_place code there)

-- statements and "}", behind the `{` at this place
abbrev pub block_body : Place → Row → Read Body
block_body at row = then_read (block (statement max_nesting) row) (λ b rest. meant at (rewritten b.end (to_statements b.items)) b.end rest)

-- E ";", behind the `=` at this place
abbrev pub expression_body : Place → Row → Read Body
expression_body at row = then_read (expression row) (λ e rest. then_read (sign_here (codes ";") rest) (λ end left.
    got (record { at = at; form = syntax.Equation'; expr = e }) left))

abbrev pub body : Row → Read Body
body row = after_sign (codes "=") row expression_body (then_read (sign_here (codes "{") row) block_body)

-- ";" | body
abbrev pub ending : Row → Read Ending
ending row = after_sign (codes ";") row (λ at rest. got (syntax.Semicolon at) rest) (then_read (body row) (λ b left. got (syntax.With b) left))

-- ---- constants

-- what fills a component of the class, a tree of the kind or a list of such trees, with the place of its `new`
pub record Constant : Type 0 where
  pub class : Word
  pub name : Word
  pub kind : Word
  pub cell : Cell
  pub at : Place

-- what comes of a declaration among the aspects, and the constant that it declares
pub record Declared : Type 0 where
  pub decl : Option Decl
  pub constant : Option Constant

-- one that declares none
abbrev pub without : Read Decl → Read Declared
without read = map_read (λ d. record { decl = Some d; constant = None }) read

-- what stands for it among the aspects: its value is that of the accessor of a component of its name
abbrev pub accessing : Place → Outset → Making → Decl
accessing at o m = record {
  at = at;
  form = syntax.Synthesized None (record { kind = syntax.Class o.kind.text; at = o.kind.at }) o.class o.name (record { items = []; end = o.end }) None
      (syntax.With (record { at = m.at; form = syntax.Equation'; expr = syntax.Call m.made_at (codes "get" ++ o.name.text) syntax.no_exprs }));
}

-- nothing stands for one whose name is that of the component's own accessor
abbrev pub accessing_if : Place → Outset → Making → Option Decl
accessing_if at o m = cond o.is_accessor None (Some (accessing at o m))

abbrev pub made_constant : Outset → Place → Cell → Constant
made_constant o at c = record { class = o.class; name = o.name; kind = o.kind; cell = c; at = at }

-- a tree, behind the heading of the declaration at this place
abbrev pub declared_tree : Place → Outset → Row → Read Declared
declared_tree at o row = then_read (making o.name.at row) (λ m inner. then_read (made_term m inner) (λ t left.
    got (record { decl = accessing_if at o m; constant = Some (made_constant o m.made_at (One t)) }) left))

-- a list
abbrev pub declared_list : Outset → Row → Read Declared
declared_list o row = then_read (made_list o.name.at row) (λ l left.
    got (record { decl = None; constant = Some (made_constant o l.at (Many (to_terms l.items))) }) left)

-- { "lazy" | "final" } outset and what is made, behind `nta`, of the declaration at this place
abbrev pub declared_constant : Place → Row → Read Declared
declared_constant at row = then_read (laziness None row) (λ lazy rest. then_read (outset rest) (λ o behind.
    cond o.is_list (declared_list o behind) (declared_tree at o behind)))

-- ---- declarations, behind their keyword at this place

-- one that isn't a constant, where `lazy` stands
abbrev pub computed : Place → Option Place → Row → Read Decl
computed at lazy row = then_read (head row) (λ h rest. then_read (ending rest) (λ e left.
    got (record { at = at; form = syntax.Synthesized lazy h.kind h.target.class h.target.name h.target.params h.start e }) left))

abbrev pub synthesized : Place → Row → Read Declared
synthesized at row = then_read (laziness None row) (λ lazy rest.
    after_word (codes "nta") rest (λ nta behind. declared_constant at behind) (without (computed at lazy rest)))

abbrev pub inherited : Place → Row → Read Decl
inherited at row = then_read (laziness None row) (λ lazy rest. after_word (codes "nta") rest (λ nta left. fails (at_place LeftOut nta))
    (then_read (head rest) (λ h behind. then_read (sign_here (codes ";") behind) (λ end left.
    got (record { at = at; form = syntax.Inherited lazy h.kind h.target.class h.target.name h.target.params h.start }) left))))

-- of an attribute of this target
abbrev pub own_equation : Place → Target → Row → Read Decl
own_equation at t row = then_read (body row) (λ b left. got (record { at = at; form = syntax.Equation t.class t.name t.params b }) left)

-- the getter of the child that an equation names: `get..` as it stands, and `get` in front of what is a component's own name
abbrev pub child_getter : Word → Word
child_getter w = cond (starts_with nat_eq w.text (codes "get")) w (record { text = codes "get" ++ w.text; at = w.at })

-- of an attribute that the target's child is given
abbrev pub child_equation : Place → Target → Row → Read Decl
child_equation at t row = then_read (name row) (λ w paren. then_read (params w.text paren) (λ ps rest. then_read (body rest) (λ b left.
    got (record { at = at; form = syntax.InheritedEquation t.class (child_getter t.name) (index t.params.items) w ps b }) left)))

-- behind its target: behind a getter's, `.` may stand
abbrev pub equation_of : Place → Target → Row → Read Decl
equation_of at t row = cond (is_getter t.params.items)
    (after_sign (codes ".") row (λ dot rest. child_equation at t rest) (own_equation at t row)) (own_equation at t row)

abbrev pub equation : Place → Row → Read Decl
equation at row = then_read (target row) (equation_of at)

-- ---- methods

-- kind name "." name "(", but for `void`
abbrev pub heads_method : (kind class dot name paren : PlacedToken) → Bool
heads_method k c dot a paren = is_kind k && (not (is_word (codes "void") k) && (is_name_token c
    && (is_sign (codes ".") dot && (is_name_token a && is_sign (codes "(") paren))))

-- one begins here
abbrev pub begins_method : Row → Bool
begins_method (k ∷ c ∷ dot ∷ a ∷ paren ∷ rest) = heads_method k c dot a paren
begins_method row = false

-- kind target "{" statements "}": an attribute that isn't lazy
abbrev pub method : Row → Read Decl
method row = then_read (kind row) (λ k rest. then_read (target rest) (λ t behind. then_read (sign_here (codes "{") behind) (λ at inner.
    then_read (block_body at inner) (λ b left.
    got (record { at = k.at; form = syntax.Synthesized None k t.class t.name t.params None (syntax.With b) }) left))))

-- ---- one of them

-- all but synthesized attributes, behind the modifiers
abbrev pub other_declared : Row → Read Decl
other_declared row = after_word (codes "inh") row inherited (after_word (codes "eq") row equation
    (cond (begins_method row) (method row) (fails (here (other_code row) row))))

abbrev pub declared : Row → Read Declared
declared row = after_word (codes "syn") row synthesized (without (other_declared row))

-- each fault by the limits is one at this place
abbrev pub limited : {A : Type 0} → Place → Read A → Read A
limited at (got a rest) = got a rest
limited at (fails (here Limit row)) = fails (at_place Limit at)
limited at (fails (at_place Limit there)) = fails (at_place Limit at)
limited at (fails f) = fails f

abbrev pub is_modifier : PlacedToken → Bool
is_modifier t = is_word (codes "public") t || (is_word (codes "protected") t || (is_word (codes "private") t || is_word (codes "final") t))

unfoldable pub behind_modifiers : Row → Row
behind_modifiers [] = []
behind_modifiers (t ∷ ts) = cond (is_modifier t) (behind_modifiers ts) (t ∷ ts)

-- the limits of a declaration are met at its first token
abbrev pub first_declared : Row → Read Declared
first_declared [] = fails (here Syntax [])
first_declared (t ∷ ts) = limited t.at (declared (t ∷ ts))

-- { "public" | "protected" | "private" | "final" } and a declaration
unfoldable pub declaration : Row → Read Declared
declaration row = first_declared (behind_modifiers row)
