-- Expressions as a head and what stands behind it, link by link.
use Rattle.std.proofs.Common.{◌≡◌, ℕ, zero, suc, ◌+◌, ◌-◌, ◌<◌, ◌≤◌, List, [], ◌∷◌, Bool, true, false, cond, length, refl, sym, ap, subst, subst₂, ◌∙◌, arith, inl, inr, eq-or-lt_of_le}
use Rattle.std.specs.Prelude.{◌||◌, ◌⊎◌}
use lib.Chars.{codes}
use Rattle.at_model.specs.Names.{reserved_words}
use Rattle.at_text.specs.declared.token.TokenKind.TheVariants as kind
use Rattle.at_text.specs.Symbols.{PlacedToken}
use Rattle.at_text.specs.declared.place.Place.{Place}
use Rattle.at_jrag.specs.Syntax as syntax
use Rattle.at_jrag.specs.Syntax.{Word, Operator, Expr, Exprs, place}
use Rattle.at_text.specs.Rows.{Row, sign, word, is_sign, next_is}
use Rattle.at_jrag.specs.Grammar.{follows_cast, Name, Opens, Spells, Arguments, level, operator_text, operator_level}
use Rattle.at_jrag.specs.Table.{link_rank}
use Rattle.at_jrag.proofs.of_expressions.ExpressionSteps.{reserved_is_no_name}
use Rattle.at_jrag.proofs.of_expressions.ExpressionRanks.{operator_facts}
use Rattle.at_jrag.proofs.of_expressions.Expressions.{takes_one, spells_shorter}

-- ---- what goes on behind an expression

abbrev rank_reach : ℕ → ℕ
rank_reach zero = 0
rank_reach (suc rank) = 7 - rank

abbrev link_reach : PlacedToken → ℕ
link_reach t = cond (is_sign (codes ".") t) 9 (cond (is_sign (codes "?") t) 1 (rank_reach (link_rank t)))

-- One more than the level that goes on with an expression by this token: `?`, an operator, `instanceof` or a call; 10 for
-- what makes a cast, or a call of a name; 0 for what ends any.
abbrev pub token_reach : PlacedToken → ℕ
token_reach t = cond (follows_cast t) 10 (link_reach t)

-- that of the next token
abbrev pub reach : Row → ℕ
reach [] = 0
reach (t ∷ ts) = token_reach t

-- what ends any expression is next
pub ended : {t : PlacedToken} {row rest : Row} → (l : ℕ) → row ≡ t ∷ rest → token_reach t ≡ 0 → reach row ≤ l
ended {row = row} l e h = let n : reach row ≡ 0 = ap reach e ∙ h in omega (arith, n)

operator_reach : (o : Operator) (at : Place) → token_reach (sign (operator_text o) at) ≡ operator_level o + 1
operator_reach syntax.Or at = refl
operator_reach syntax.And at = refl
operator_reach syntax.Same at = refl
operator_reach syntax.Differs at = refl
operator_reach syntax.Below at = refl
operator_reach syntax.AtMost at = refl
operator_reach syntax.Above at = refl
operator_reach syntax.AtLeast at = refl
operator_reach syntax.Add at = refl
operator_reach syntax.Subtract at = refl
operator_reach syntax.Multiply at = refl
operator_reach syntax.Divide at = refl
operator_reach syntax.Remainder at = refl

instance_reach : (at : Place) → token_reach (word (codes "instanceof") at) ≡ 5
unfolding reserved_words
instance_reach at = ap (λ x. cond ((x || false) || false) 10 5) (reserved_is_no_name (codes "instanceof") refl)

uncast : (b : Bool) (n : ℕ) → cond b 10 n ≤ 9 → b ≡ false
uncast true n h = absurd (omega (arith, h))
uncast false n h = refl

or_second : (a b : Bool) → a || b ≡ false → b ≡ false
or_second true b e = absurd cc
or_second false b e = e

-- no call of a name is made by what is next
pub opens_no_call : (row : Row) → reach row ≤ 9 → next_is (is_sign (codes "(")) row ≡ false
opens_no_call [] h = refl
opens_no_call (t ∷ ts) h = or_second _ (is_sign (codes "(") t) (uncast (follows_cast t) (link_reach t) h)

-- what makes a cast of a `( NAME )` before it ends no operand
pub cast_reach : (row : Row) → next_is follows_cast row ≡ true → reach row ≡ 10
cast_reach [] h = absurd cc
cast_reach (t ∷ ts) h = ap (λ x. cond x 10 (link_reach t)) h

-- ---- levels, those of a receiver's calls told from those of other primaries

abbrev pub strength : Expr → ℕ
strength (syntax.Number at n) = 9
strength (syntax.TextLiteral at bytes) = 9
strength (syntax.Truth at b) = 9
strength (syntax.Null at) = 9
strength (syntax.This at) = 9
strength (syntax.Name at text) = 9
strength (syntax.Call at name es) = 9
strength (syntax.CallOf at e name es) = 8
strength (syntax.Paren at e) = 9
strength (syntax.Negate at e) = 7
strength (syntax.Not at e) = 7
strength (syntax.Cast at class e) = 7
strength (syntax.InstanceOf at e behind class) = 4
strength (syntax.Binary at o between a b) = operator_level o
strength (syntax.Choose at c behind a b) = 0
strength (syntax.Fold at form name list body) = 9

-- no weaker than its level says
pub at_least : (e : Expr) → level e ≤ strength e
at_least (syntax.Number at n) = omega arith
at_least (syntax.TextLiteral at bytes) = omega arith
at_least (syntax.Truth at b) = omega arith
at_least (syntax.Null at) = omega arith
at_least (syntax.This at) = omega arith
at_least (syntax.Name at text) = omega arith
at_least (syntax.Call at name es) = omega arith
at_least (syntax.CallOf at e name es) = omega arith
at_least (syntax.Paren at e) = omega arith
at_least (syntax.Negate at e) = omega arith
at_least (syntax.Not at e) = omega arith
at_least (syntax.Cast at class e) = omega arith
at_least (syntax.InstanceOf at e behind class) = omega arith
at_least (syntax.Binary at o between a b) = omega arith
at_least (syntax.Choose at c behind a b) = omega arith
at_least (syntax.Fold at form name list body) = omega arith

-- ---- links

-- what stands behind a left operand or a receiver
pub data LinkForm : Type 0 where
  OperatorLink : LinkForm
  InstanceLink : LinkForm
  CallLink : LinkForm

-- which of them the next token begins
abbrev pub front_link : Row → LinkForm
front_link [] = CallLink
front_link (t ∷ ts) = elim t.kind [ kind.Word ↦ InstanceLink | kind.Number ↦ CallLink | kind.Text ↦ CallLink | kind.Sign ↦ cond (is_sign (codes ".") t) CallLink OperatorLink ]

-- the tokens make an expression of this level of another before them
abbrev pub Link : LinkForm → ℕ → Expr → Expr → Row → Row → Type 0
Link OperatorLink l a e old rest = (o : Operator) × (between : Place) × (b : Expr) × (right : Row)
    × (operator_level o ≡ l) × (e ≡ syntax.Binary (place a) o between a b)
    × (old ≡ sign (operator_text o) between ∷ right) × (operator_level o + 1 ≤ level b) × Spells b right rest
Link InstanceLink l a e old rest = (behind : Place) × (class : Word) × (named : Row)
    × (l ≡ 4) × (e ≡ syntax.InstanceOf (place a) a behind class)
    × (old ≡ word (codes "instanceof") behind ∷ named) × Name class named rest
Link CallLink l a e old rest = (dot_at : Place) × (name_at : Place) × (name : List ℕ) × (es : Exprs) × (called : Row) × (paren : Row) × (list : Row)
    × (l ≡ 8) × (e ≡ syntax.CallOf (place a) a name es)
    × (old ≡ sign (codes ".") dot_at ∷ called) × Name (record { text = name; at = name_at }) called paren × Opens name paren list × Arguments es list rest

-- so many of them, one behind the other
abbrev pub Links : ℕ → ℕ → Expr → Expr → Row → Row → Type 0
Links zero l a e old rest = (a ≡ e) × (old ≡ rest)
Links (suc count) l a e old rest = (b : Expr) × (mid : Row) × Link (front_link old) l a b old mid × Links count l b e mid rest

-- a link of a level goes on by that level
pub link_reaches : (k : LinkForm) (l : ℕ) (a e : Expr) (old rest : Row) → Link k l a e old rest → reach old ≡ l + 1
link_reaches OperatorLink l a e old rest (o, between, b, right, is, made, front, strong, p) = ap reach front ∙ operator_reach o between ∙ ap (λ n. n + 1) is
link_reaches InstanceLink l a e old rest (behind, class, named, is, made, front, n) = ap reach front ∙ instance_reach behind ∙ sym (ap (λ n. n + 1) is)
link_reaches CallLink l a e old rest (dot_at, name_at, name, es, called, paren, list, is, made, front, n, o, p) = ap reach front ∙ sym (ap (λ n. n + 1) is)

pub link_shorter : (k : LinkForm) (l : ℕ) (a e : Expr) (old rest : Row) → Link k l a e old rest → length rest < length old
link_shorter OperatorLink l a e old rest (o, between, b, right, is, made, front, strong, p) = omega (arith, takes_one _ old right front, spells_shorter b right rest p)
link_shorter InstanceLink l a e old rest (behind, class, named, is, made, front, n) = omega (arith, takes_one _ old named front, takes_one _ named rest n.1)
link_shorter CallLink l a e old rest (dot_at, name_at, name, es, called, paren, list, is, made, front, n, o, p) =
    omega (arith, takes_one _ old called front, spells_shorter (syntax.Call name_at name es) called rest (paren, list, n, o, p))

-- before links of a level stands what ends an operand of the next
pub links_end : (count l : ℕ) (a e : Expr) (old rest : Row) → Links count l a e old rest → reach rest ≤ l → reach old ≤ l + 1
links_end zero l a e old rest (made, same) h = omega (arith, ap reach same, h)
links_end (suc count) l a e old rest (b, mid, k, more) h = omega (arith, link_reaches (front_link old) l a b old mid k)

-- one more link behind the last
links_push : (count l : ℕ) (a b e : Expr) (old mid rest : Row) → Links count l a b old mid → Link (front_link mid) l b e mid rest → Links (suc count) l a e old rest
links_push zero l a b e old mid rest (made, same) k =
    (e, rest, subst₂ (λ (x : Expr) (y : Row). Link (front_link y) l x e y rest) (sym made) (sym same) k, (refl, refl))
links_push (suc count) l a b e old mid rest (c, inner, first, more) k = (c, inner, first, links_push count l c b e inner mid rest more k)

link_at : (k : LinkForm) (l : ℕ) (a e : Expr) (old rest : Row) → front_link old ≡ k → Link k l a e old rest → Link (front_link old) l a e old rest
link_at k l a e old rest is h = subst (λ (x : LinkForm). Link x l a e old rest) (sym is) h

-- ---- heads

-- An expression is a head of a higher level, and links behind it.
pub record Headed (l : ℕ) (e : Expr) (old rest : Row) : Type 0 where
  pub head : Expr
  pub mid : Row
  pub strong : l + 1 ≤ strength head
  pub spells : Spells head old mid
  pub count : ℕ
  pub links : Links count l head e mid rest

-- what is of a higher level is its own head
itself : (l : ℕ) (e : Expr) (old rest : Row) → l + 1 ≤ strength e → Spells e old rest → Headed l e old rest
itself l e old rest h p = record { head = e; mid = rest; strong = h; spells = p; count = 0; links = (refl, refl) }

headed_push : (l : ℕ) (a e : Expr) (old mid rest : Row) → Headed l a old mid → Link (front_link mid) l a e mid rest → Headed l e old rest
headed_push l a e old mid rest h k = record { head = h.head; mid = h.mid; strong = h.strong; spells = h.spells; count = suc h.count; links = links_push h.count l h.head a e h.mid mid rest h.links k }

-- what has links at this level: all but what stands before an operand
abbrev pub Linked : ℕ → Type 0
Linked l = (l ≤ 6) ⊎ (l ≡ 8)

linked_low : (l : ℕ) → Linked l → l ≤ 8
linked_low l (inl h) = omega (arith, h)
linked_low l (inr h) = omega (arith, h)

primary_above : (l : ℕ) → Linked l → l + 1 ≤ 9
primary_above l w = omega (arith, linked_low l w)

prefix_above : (l : ℕ) → Linked l → l ≤ 7 → l + 1 ≤ 7
prefix_above l (inl w) h = omega (arith, w)
prefix_above l (inr w) h = absurd (omega (arith, w, h))

by_level : {P : Type 0} (l k : ℕ) → l ≤ k → (l ≡ k → P) → (l + 1 ≤ k → P) → P
by_level l k h f g = elim (eq-or-lt_of_le h) [ inl e ↦ f e | inr m ↦ g (omega (arith, m)) ]

-- each expression of this level at least has a head
pub headed : (e : Expr) (l : ℕ) (old rest : Row) → Linked l → 1 ≤ l → l ≤ strength e → Spells e old rest → Headed l e old rest
headed (syntax.Number at n) l old rest w low h p = itself l _ old rest (primary_above l w) p
headed (syntax.TextLiteral at bytes) l old rest w low h p = itself l _ old rest (primary_above l w) p
headed (syntax.Truth at b) l old rest w low h p = itself l _ old rest (primary_above l w) p
headed (syntax.Null at) l old rest w low h p = itself l _ old rest (primary_above l w) p
headed (syntax.This at) l old rest w low h p = itself l _ old rest (primary_above l w) p
headed (syntax.Name at text) l old rest w low h p = itself l _ old rest (primary_above l w) p
headed (syntax.Call at name es) l old rest w low h p = itself l _ old rest (primary_above l w) p
headed (syntax.CallOf at e name es) l old rest w low h (dot, called, paren, list, name_at, same, post, p, d, n, o, q) = by_level l 8 h
    (λ is. headed_push l e _ old dot rest (headed e l old dot w low (omega (arith, is, post, at_least e)) p)
    (link_at CallLink l e _ dot rest (ap front_link d.1) (d.0, name_at, name, es, called, paren, list, is, ap (λ x. syntax.CallOf x e name es) same, d.1, n, o, q)))
    (λ m. itself l _ old rest m (dot, called, paren, list, name_at, same, post, p, d, n, o, q))
headed (syntax.Paren at e) l old rest w low h p = itself l _ old rest (primary_above l w) p
headed (syntax.Negate at e) l old rest w low h p = itself l _ old rest (prefix_above l w h) p
headed (syntax.Not at e) l old rest w low h p = itself l _ old rest (prefix_above l w h) p
headed (syntax.Cast at class e) l old rest w low h p = itself l _ old rest (prefix_above l w h) p
headed (syntax.InstanceOf at e behind class) l old rest w low h (link, named, same, lean, p, f, n) = by_level l 4 h
    (λ is. headed_push l e _ old link rest (headed e l old link w low (omega (arith, is, lean, at_least e)) p)
    (link_at InstanceLink l e _ link rest (ap front_link f) (behind, class, named, is, ap (λ x. syntax.InstanceOf x e behind class) same, f, n)))
    (λ m. itself l _ old rest m (link, named, same, lean, p, f, n))
headed (syntax.Binary at o between a b) l old rest w low h (link, right, same, lean, strong, p, f, q) = by_level l (operator_level o) h
    (λ is. headed_push l a _ old link rest (headed a l old link w low (omega (arith, is, lean, at_least a)) p)
    (link_at OperatorLink l a _ link rest (ap front_link f ∙ ap (λ x. cond x CallLink OperatorLink) (operator_facts o between).dot)
    (o, between, b, right, sym is, ap (λ x. syntax.Binary x o between a b) same, f, strong, q)))
    (λ m. itself l _ old rest m (link, right, same, lean, strong, p, f, q))
headed (syntax.Choose at c behind a b) l old rest w low h p = absurd (omega (arith, low, h))
headed (syntax.Fold at form name list body) l old rest w low h p = itself l _ old rest (primary_above l w) p
