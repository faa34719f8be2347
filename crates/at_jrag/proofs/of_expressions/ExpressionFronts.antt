-- Which form of an expression without links stands at the front of a row.
use Rattle.std.proofs.Common.{◌≡◌, ℕ, ◌<◌, ◌≤◌, ℤ, List, [], ◌∷◌, Bool, true, false, cond, length, refl, sym, ap, subst, ◌∙◌, arith, inl, inr}
use Rattle.std.specs.Prelude.{◌&&◌, ◌||◌}
use Rattle.std.specs.Str.{bytes_eq}
use lib.Chars.{codes}
use Rattle.at_model.specs.Names.{is_name, is_reserved, reserved_words}
use Rattle.at_model.proofs.Options.{both}
use Rattle.at_text.specs.declared.token.TokenKind.TheVariants as kind
use Rattle.at_text.specs.declared.place.Place.{Place}
use Rattle.at_jrag.specs.Syntax as syntax
use Rattle.at_jrag.specs.Syntax.{Word, FoldForm, Expr, Exprs}
use Rattle.at_text.specs.Rows.{Row, sign, word, is_sign, is_name_token, next_is}
use Rattle.at_jrag.specs.Grammar.{is_number, follows_cast, NumberOf, Spells, level, truth_text, fold_text}
use Rattle.at_jrag.proofs.of_expressions.ExpressionSteps.{reserved_is_no_name, sign_is, name_is}
use Rattle.at_jrag.proofs.of_expressions.ExpressionRanks.{operator_facts}
use Rattle.at_jrag.proofs.of_expressions.Expressions.{takes_one}
use Rattle.at_jrag.proofs.OneToken.{token_one}
use Rattle.at_jrag.proofs.of_expressions.ExpressionLinks.{reach, ended, opens_no_call, cast_reach, strength}

-- What begins later in the row is spelled in one way.
abbrev pub OneBehind : ℕ → Type 0
OneBehind size = (l : ℕ) (e f : Expr) (x y r s : Row) → length x < size → l ≤ 8 → x ≡ y → l ≤ level e → l ≤ level f
    → Spells e x r → Spells f y s → reach r ≤ l → reach s ≤ l → (e ≡ f) × (r ≡ s)

pub data Front : Type 0 where
  NumberFront : Front
  TextFront : Front
  TruthFront : Front
  NullFront : Front
  ThisFront : Front
  NameFront : Front
  CallFront : Front
  ParenFront : Front
  FoldFront : Front
  NegateFront : Front
  NotFront : Front
  CastFront : Front

abbrev name_front : Row → Front
name_front rest = cond (next_is (is_sign (codes "(")) rest) CallFront NameFront

abbrev reserved_front : List ℕ → Front
reserved_front text =
    cond (bytes_eq text (codes "true") || bytes_eq text (codes "false")) TruthFront (cond (bytes_eq text (codes "null")) NullFront (cond (bytes_eq text (codes "this")) ThisFront FoldFront))

-- behind a `(`: a name, a `)`, and what makes a cast of them
abbrev casts : Row → Bool
casts [] = false
casts (a ∷ []) = false
casts (a ∷ b ∷ ts) = is_name_token a && (is_sign (codes ")") b && next_is follows_cast ts)

abbrev sign_front : List ℕ → Row → Front
sign_front text rest =
    cond (bytes_eq text (codes "-")) (cond (next_is is_number rest) NumberFront NegateFront) (cond (bytes_eq text (codes "!")) NotFront (cond (casts rest) CastFront ParenFront))

-- the form that the tokens begin
abbrev pub front : Row → Front
front [] = TextFront
front (t ∷ ts) = elim t.kind [
  | kind.Word ↦ cond (is_name t.text) (name_front ts) (reserved_front t.text)
  | kind.Number ↦ NumberFront
  | kind.Text ↦ TextFront
  | kind.Sign ↦ sign_front t.text ts
]

-- the tokens spell an expression of this form
abbrev pub Made : Front → Expr → Row → Row → Type 0
Made NumberFront e old rest = (at : Place) × (n : ℤ) × (e ≡ syntax.Number at n) × Spells (syntax.Number at n) old rest
Made TextFront e old rest = (at : Place) × (bytes : List ℕ) × (e ≡ syntax.TextLiteral at bytes) × Spells (syntax.TextLiteral at bytes) old rest
Made TruthFront e old rest = (at : Place) × (b : Bool) × (e ≡ syntax.Truth at b) × Spells (syntax.Truth at b) old rest
Made NullFront e old rest = (at : Place) × (e ≡ syntax.Null at) × Spells (syntax.Null at) old rest
Made ThisFront e old rest = (at : Place) × (e ≡ syntax.This at) × Spells (syntax.This at) old rest
Made NameFront e old rest = (at : Place) × (text : List ℕ) × (e ≡ syntax.Name at text) × Spells (syntax.Name at text) old rest
Made CallFront e old rest = (at : Place) × (name : List ℕ) × (es : Exprs) × (e ≡ syntax.Call at name es) × Spells (syntax.Call at name es) old rest
Made ParenFront e old rest = (at : Place) × (a : Expr) × (e ≡ syntax.Paren at a) × Spells (syntax.Paren at a) old rest
Made FoldFront e old rest = (at : Place) × (form : FoldForm) × (name : Word) × (list : Expr) × (body : Expr)
    × (e ≡ syntax.Fold at form name list body) × Spells (syntax.Fold at form name list body) old rest
Made NegateFront e old rest = (at : Place) × (a : Expr) × (e ≡ syntax.Negate at a) × Spells (syntax.Negate at a) old rest
Made NotFront e old rest = (at : Place) × (a : Expr) × (e ≡ syntax.Not at a) × Spells (syntax.Not at a) old rest
Made CastFront e old rest = (at : Place) × (class : Word) × (a : Expr) × (e ≡ syntax.Cast at class a) × Spells (syntax.Cast at class a) old rest

-- ---- words

reserved_at : (text : List ℕ) (at : Place) (old rest : Row) → is_reserved text ≡ true → old ≡ word text at ∷ rest → front old ≡ reserved_front text
reserved_at text at old rest r e = ap front e ∙ ap (λ x. cond x (name_front rest) (reserved_front text)) (reserved_is_no_name text r)

named_at : (text : List ℕ) (at : Place) (old rest : Row) → is_name text ≡ true → old ≡ word text at ∷ rest → front old ≡ name_front rest
named_at text at old rest is e = ap front e ∙ ap (λ x. cond x (name_front rest) (reserved_front text)) is

truth_front : (b : Bool) (at : Place) (old rest : Row) → old ≡ word (truth_text b) at ∷ rest → front old ≡ TruthFront
unfolding reserved_words
truth_front true at old rest e = reserved_at (codes "true") at old rest refl e
truth_front false at old rest e = reserved_at (codes "false") at old rest refl e

null_front : (at : Place) (old rest : Row) → old ≡ word (codes "null") at ∷ rest → front old ≡ NullFront
unfolding reserved_words
null_front at old rest e = reserved_at (codes "null") at old rest refl e

this_front : (at : Place) (old rest : Row) → old ≡ word (codes "this") at ∷ rest → front old ≡ ThisFront
unfolding reserved_words
this_front at old rest e = reserved_at (codes "this") at old rest refl e

fold_front : (form : FoldForm) (at : Place) (old rest : Row) → old ≡ word (fold_text form) at ∷ rest → front old ≡ FoldFront
unfolding reserved_words
fold_front syntax.Exists at old rest e = reserved_at (codes "exists") at old rest refl e
fold_front syntax.First at old rest e = reserved_at (codes "first") at old rest refl e
fold_front syntax.Sum at old rest e = reserved_at (codes "sum") at old rest refl e

number_front : (at : Place) (n : ℤ) (old rest : Row) → NumberOf at n old rest → front old ≡ NumberFront
number_front at n old rest (inl (m, small, is, e)) = ap front e
number_front at n old rest (inr (m, digits, small, is, e)) = ap front e

-- ---- parentheses

-- a name, a `)` and what makes a cast of them
record CastAhead (row : Row) : Type 0 where
  text : List ℕ
  at : Place
  close : Place
  rest : Row
  begins : row ≡ word text at ∷ sign (codes ")") close ∷ rest
  named : is_name text ≡ true
  follows : next_is follows_cast rest ≡ true

cast_ahead : (row : Row) → casts row ≡ true → CastAhead row
cast_ahead [] h = absurd cc
cast_ahead (a ∷ []) h = absurd cc
cast_ahead (a ∷ b ∷ ts) h =
    let one = both (is_name_token a) (is_sign (codes ")") b && next_is follows_cast ts) h in
    let two = both (is_sign (codes ")") b) (next_is follows_cast ts) one.1 in
    let name = name_is a one.0 in
    let shut = sign_is (codes ")") b two.0 in
    record { text = a.text; at = a.at; close = b.at; rest = ts; begins = (λ i. name.0 i ∷ shut i ∷ ts); named = name.1; follows = two.1 }

-- an expression in parentheses makes no cast
no_cast : (test : Bool) (size : ℕ) → OneBehind size → (at : Place) (e : Expr) (one close rest : Row) → casts one ≡ test
    → length one < size → Spells e one close → close ≡ sign (codes ")") at ∷ rest → reach rest ≤ 9
    → test ≡ false
no_cast false size behind at e one close rest is short p c h = refl
no_cast true size behind at e one close rest is short p c h =
    let ahead = cast_ahead one is in
    let same = behind 0 e (syntax.Name ahead.at ahead.text) one one close (sign (codes ")") ahead.close ∷ ahead.rest) short (omega arith) refl (omega arith) (omega arith)
    p (ahead.named, ahead.begins) (ended 0 c refl) (omega arith) in
    let rows : rest ≡ ahead.rest = (token_one same.1 c refl).1 in
    absurd (omega (arith, h, ap reach rows, cast_reach ahead.rest ahead.follows))

-- ---- all

front_at : (k : Front) (e : Expr) (old rest : Row) → front old ≡ k → Made k e old rest → Made (front old) e old rest
front_at k e old rest is h = subst (λ (x : Front). Made x e old rest) (sym is) h

-- what has no links is of the form that its first tokens tell
pub made : (size : ℕ) → OneBehind size → (e : Expr) (old rest : Row) → length old ≤ size → 7 ≤ strength e → (strength e ≡ 8 → ⊥) → reach rest ≤ 9 → Spells e old rest → Made (front old) e old rest
made size behind (syntax.Number at n) old rest short h none l p = front_at NumberFront _ old rest (number_front at n old rest p) (at, n, refl, p)
made size behind (syntax.TextLiteral at bytes) old rest short h none l p = front_at TextFront _ old rest (ap front p) (at, bytes, refl, p)
made size behind (syntax.Truth at b) old rest short h none l p = front_at TruthFront _ old rest (truth_front b at old rest p) (at, b, refl, p)
made size behind (syntax.Null at) old rest short h none l p = front_at NullFront _ old rest (null_front at old rest p) (at, refl, p)
made size behind (syntax.This at) old rest short h none l p = front_at ThisFront _ old rest (this_front at old rest p) (at, refl, p)
made size behind (syntax.Name at text) old rest short h none l p =
    front_at NameFront _ old rest (named_at text at old rest p.0 p.1 ∙ ap (λ x. cond x CallFront NameFront) (opens_no_call rest l)) (at, text, refl, p)
made size behind (syntax.Call at name es) old rest short h none l (paren, list, n, o, a) =
    front_at CallFront _ old rest (named_at name at old paren n.0 n.1 ∙ ap name_front o.0.1) (at, name, es, refl, (paren, list, n, o, a))
made size behind (syntax.CallOf at e name es) old rest short h none l p = absurd (none refl)
made size behind (syntax.Paren at e) old rest short h none l (one, close, p, q, c) =
    let inner : length one < size = omega (arith, short, takes_one _ old one p) in
    front_at ParenFront _ old rest (ap front p ∙ ap (λ x. cond x CastFront ParenFront) (no_cast (casts one) size behind c.0 e one close rest refl inner q c.1 l)) (at, e, refl, (one, close, p, q, c))
made size behind (syntax.Negate at e) old rest short h none l (one, p, plain, post, q) =
    front_at NegateFront _ old rest (ap front p ∙ ap (λ x. cond x NumberFront NegateFront) plain) (at, e, refl, (one, p, plain, post, q))
made size behind (syntax.Not at e) old rest short h none l (one, p, post, q) = front_at NotFront _ old rest (ap front p) (at, e, refl, (one, p, post, q))
made size behind (syntax.Cast at class e) old rest short h none l (named, close, one, p, n, c, f, post, q) =
    front_at CastFront _ old rest (ap front p ∙ ap (λ row. cond (casts row) CastFront ParenFront)
    (n.1 ∙ ap (λ row. word class.text class.at ∷ row) c.1) ∙ (λ i. cond (n.0 i && f i) CastFront ParenFront))
    (at, class, e, refl, (named, close, one, p, n, c, f, post, q))
made size behind (syntax.InstanceOf at e behind' class) old rest short h none l p = absurd (omega (arith, h))
made size behind (syntax.Binary at o between a b) old rest short h none l p = absurd (omega (arith, h, (operator_facts o between).level))
made size behind (syntax.Choose at c behind' a b) old rest short h none l p = absurd (omega (arith, h))
made size behind (syntax.Fold at form name list body) old rest short h none l (paren, named, colon, items, close, brace, one, end, w, p, n, m, plain, post, q, c, b, r, z) =
    front_at FoldFront _ old rest (fold_front form at old paren w) (at, form, name, list, body, refl, (paren, named, colon, items, close, brace, one, end, w, p, n, m, plain, post, q, c, b, r, z))

-- how strongly each form holds together
abbrev pub front_level : Front → ℕ
front_level NumberFront = 9
front_level TextFront = 9
front_level TruthFront = 9
front_level NullFront = 9
front_level ThisFront = 9
front_level NameFront = 9
front_level CallFront = 9
front_level ParenFront = 9
front_level FoldFront = 9
front_level NegateFront = 7
front_level NotFront = 7
front_level CastFront = 7

pub front_strength : (k : Front) (e : Expr) (old rest : Row) → Made k e old rest → strength e ≡ front_level k
front_strength NumberFront e old rest (at, n, is, p) = ap strength is
front_strength TextFront e old rest (at, bytes, is, p) = ap strength is
front_strength TruthFront e old rest (at, b, is, p) = ap strength is
front_strength NullFront e old rest (at, is, p) = ap strength is
front_strength ThisFront e old rest (at, is, p) = ap strength is
front_strength NameFront e old rest (at, text, is, p) = ap strength is
front_strength CallFront e old rest (at, name, es, is, p) = ap strength is
front_strength ParenFront e old rest (at, a, is, p) = ap strength is
front_strength FoldFront e old rest (at, form, name, list, body, is, p) = ap strength is
front_strength NegateFront e old rest (at, a, is, p) = ap strength is
front_strength NotFront e old rest (at, a, is, p) = ap strength is
front_strength CastFront e old rest (at, class, a, is, p) = ap strength is
