-- A row of tokens spells one expression, where nothing goes on with it.
use Rattle.std.proofs.Common.{◌≡◌, ℕ, zero, suc, ◌+◌, ◌-◌, ◌<◌, ◌≤◌, ℤ, pos, neg_ℤ, List, [], ◌∷◌, ◌++◌, Bool, true, false, cond, length, refl, sym, ap, subst, ◌∙◌, arith, inl, inr, eq-or-lt_of_le}
use Rattle.std.specs.Prelude.{◌⊎◌}
use Rattle.std.specs.Str.{bytes_eq}
use Rattle.std.proofs.lemmas.Fmt.{decimal_injective}
use lib.Chars.{codes}
use Rattle.at_model.specs.Texts.{quoted}
use Rattle.at_model.proofs.of_texts.QuotedTexts.{same_quoted}
use Rattle.at_text.specs.Reading.{first}
use Rattle.at_text.specs.declared.place.Place.{Place}
use Rattle.at_jrag.specs.Syntax as syntax
use Rattle.at_jrag.specs.Syntax.{Word, Operator, FoldForm, Expr, Exprs, place}
use Rattle.at_text.specs.Rows.{Row, sign, is_sign}
use Rattle.at_jrag.specs.Grammar.{is_number, NumberOf, Spells, Arguments, MoreArguments, operator_text, truth_text, fold_text}
use Rattle.at_jrag.specs.Table.{next}
use Rattle.at_jrag.proofs.of_expressions.Expressions.{takes_one, spells_shorter}
use Rattle.at_jrag.proofs.of_expressions.ExpressionRanks.{operator_facts}
use Rattle.at_jrag.proofs.of_expressions.ExpressionsTaken.{heads}
use Rattle.at_jrag.proofs.OneToken.{token_one, text_one, at_one, apart, name_one}
use Rattle.at_jrag.proofs.of_expressions.ExpressionLinks.{reach, ended, strength, at_least, LinkForm, OperatorLink, InstanceLink, CallLink, front_link, Link, Links, link_reaches, link_shorter, links_end, Linked, headed}
use Rattle.at_jrag.proofs.of_expressions.ExpressionFronts.{OneBehind, Front, NumberFront, TextFront, TruthFront, NullFront, ThisFront, NameFront, CallFront, ParenFront, FoldFront, NegateFront, NotFront, CastFront, front, Made, made, front_level, front_strength}

-- ---- arguments

-- no expression begins with a `)`
closes_none : (f : Expr) (at : Place) (x y r s : Row) → x ≡ y → x ≡ sign (codes ")") at ∷ r → Spells f y s → ⊥
closes_none f at x y r s same e p = absurd (let c : true ≡ false = sym (ap (λ row. next (is_sign (codes ")")) (first row)) (sym same ∙ e)) ∙ (heads f y s p).close in cc)

more_end : (es : Exprs) (more rest : Row) → MoreArguments es more rest → reach more ≤ 0
more_end syntax.no_exprs more rest h = ended 0 h.1 refl
more_end (syntax.expr e es) more rest (one, mid, c, p, m) = ended 0 c.1 refl

more_one : (size : ℕ) → OneBehind size → (es fs : Exprs) (x y r s : Row) → length x ≤ size → x ≡ y → MoreArguments es x r → MoreArguments fs y s → (es ≡ fs) × (r ≡ s)
more_one size behind syntax.no_exprs syntax.no_exprs x y r s short same h k = (refl, (token_one same h.1 k.1).1)
more_one size behind syntax.no_exprs (syntax.expr f fs) x y r s short same h (one, mid, c, p, m) = absurd (apart (is_sign (codes ")")) same h.1 c.1 refl refl)
more_one size behind (syntax.expr e es) syntax.no_exprs x y r s short same (one, mid, c, p, m) k = absurd (apart (is_sign (codes ",")) same c.1 k.1 refl refl)
more_one size behind (syntax.expr e es) (syntax.expr f fs) x y r s short same (one, mid, c, p, m) (other, inner, d, q, n) =
    let item = behind 0 e f one other mid inner (omega (arith, short, takes_one _ x one c.1)) (omega arith)
    (token_one same c.1 d.1).1 (omega arith) (omega arith) p q (more_end es mid r m) (more_end fs inner s n) in
    let more = more_one size behind es fs mid inner r s (omega (arith, short, takes_one _ x one c.1, spells_shorter e one mid p)) item.1 m n in
    ((λ i. syntax.expr (item.0 i) (more.0 i)), more.1)

arguments_one : (size : ℕ) → OneBehind size → (es fs : Exprs) (x y r s : Row) → length x < size → x ≡ y → Arguments es x r → Arguments fs y s → (es ≡ fs) × (r ≡ s)
arguments_one size behind syntax.no_exprs syntax.no_exprs x y r s short same h k = (refl, (token_one same h.1 k.1).1)
arguments_one size behind syntax.no_exprs (syntax.expr f fs) x y r s short same h (mid, p, m) = absurd (closes_none f h.0 x y r mid same h.1 p)
arguments_one size behind (syntax.expr e es) syntax.no_exprs x y r s short same (mid, p, m) k = absurd (closes_none e k.0 y x s mid (sym same) k.1 p)
arguments_one size behind (syntax.expr e es) (syntax.expr f fs) x y r s short same (mid, p, m) (inner, q, n) =
    let item = behind 0 e f x y mid inner short (omega arith) same (omega arith) (omega arith) p q (more_end es mid r m) (more_end fs inner s n) in
    let more = more_one size behind es fs mid inner r s (omega (arith, short, spells_shorter e x mid p)) item.1 m n in
    ((λ i. syntax.expr (item.0 i) (more.0 i)), more.1)

-- ---- links

abbrev operator_of : List ℕ → Operator
operator_of text =
    cond (bytes_eq text (codes "||")) syntax.Or
    (cond (bytes_eq text (codes "&&")) syntax.And
    (cond (bytes_eq text (codes "==")) syntax.Same
    (cond (bytes_eq text (codes "!=")) syntax.Differs
    (cond (bytes_eq text (codes "<")) syntax.Below
    (cond (bytes_eq text (codes "<=")) syntax.AtMost
    (cond (bytes_eq text (codes ">")) syntax.Above
    (cond (bytes_eq text (codes ">=")) syntax.AtLeast
    (cond (bytes_eq text (codes "+")) syntax.Add
    (cond (bytes_eq text (codes "-")) syntax.Subtract
    (cond (bytes_eq text (codes "*")) syntax.Multiply
    (cond (bytes_eq text (codes "/")) syntax.Divide syntax.Remainder)))))))))))

operator_back : (o : Operator) → operator_of (operator_text o) ≡ o
operator_back syntax.Or = refl
operator_back syntax.And = refl
operator_back syntax.Same = refl
operator_back syntax.Differs = refl
operator_back syntax.Below = refl
operator_back syntax.AtMost = refl
operator_back syntax.Above = refl
operator_back syntax.AtLeast = refl
operator_back syntax.Add = refl
operator_back syntax.Subtract = refl
operator_back syntax.Multiply = refl
operator_back syntax.Divide = refl
operator_back syntax.Remainder = refl

operator_one : (o q : Operator) → operator_text o ≡ operator_text q → o ≡ q
operator_one o q e = sym (operator_back o) ∙ ap operator_of e ∙ operator_back q

-- behind one operand, links of one level that begin one row are the same
link_one : (k : LinkForm) (size : ℕ) → OneBehind size → (l : ℕ) (a b e f : Expr) (x y r s : Row) → a ≡ b → length
    x ≤ size → x ≡ y → Link k l a e x r → Link k l b f y s → reach r ≤ l + 1 → reach s ≤ l + 1 → (e ≡ f) × (r ≡ s)
link_one OperatorLink size behind l a b e f x y r s same short rows (o, between, c, right, is, made, begins, strong, p) (q, other, d, next, also, makes, starts, stronger, t) er es =
    let token = token_one rows begins starts in
    let operator = operator_one o q (text_one token.0) in
    let operand = behind (l + 1) c d right next r s (omega (arith, short, takes_one _ x right begins))
    (omega (arith, is, (operator_facts o between).level)) token.1 (omega (arith, is, strong))
    (omega (arith, also, stronger)) p t er es in
    (made ∙ (λ i. syntax.Binary (place (same i)) (operator i) (at_one token.0 i) (same i) (operand.0 i)) ∙ sym makes, operand.1)
link_one InstanceLink size behind l a b e f x y r s same short rows (at, class, named, is, made, begins, n) (other, parent, next, also, makes, starts, m) er es =
    let token = token_one rows begins starts in
    let name = name_one class parent token.1 n.1 m.1 in
    (made ∙ (λ i. syntax.InstanceOf (place (same i)) (same i) (at_one token.0 i) (name.0 i)) ∙ sym makes, name.1)
link_one CallLink size behind l a b e f x y r s same short rows (
  at,
  name_at,
  name,
  es,
  called,
  paren,
  list,
  is,
  made,
  begins,
  n,
  o,
  p,
) (other, place_at, text, fs, named, brackets, items, also, makes, starts, m, q, t) er et =
    let dot = token_one rows begins starts in
    let word = token_one dot.1 n.1 m.1 in
    let inner = token_one word.1 o.0.1 q.0.1 in
    let given = arguments_one size behind es fs list items r s (omega (arith, short, takes_one _ x called begins, takes_one _ called paren n.1, takes_one _ paren list o.0.1)) inner.1 p t in
    (made ∙ (λ i. syntax.CallOf (place (same i)) (same i) (text_one word.0 i) (given.0 i)) ∙ sym makes, given.1)

-- behind one head, rows of links of one level that begin one row are the same
links_one : (count number size : ℕ) → OneBehind size → (l : ℕ) (a b e f : Expr) (x y r s : Row) → a ≡ b → length
    x ≤ size → x ≡ y → Links count l a e x r → Links number l b f y s → reach r ≤ l → reach s ≤ l → (e ≡ f) × (r ≡ s)
links_one zero zero size behind l a b e f x y r s same short rows h k er es = (sym h.0 ∙ same ∙ k.0, sym h.1 ∙ rows ∙ k.1)
links_one zero (suc number) size behind l a b e f x y r s same short rows h (c, mid, first, more) er es =
    absurd (omega (arith, er, ap reach (sym h.1 ∙ rows), link_reaches (front_link y) l b c y mid first))
links_one (suc count) zero size behind l a b e f x y r s same short rows (c, mid, first, more) k er es =
    absurd (omega (arith, es, ap reach (rows ∙ k.1), link_reaches (front_link x) l a c x mid first))
links_one (suc count) (suc number) size behind l a b e f x y r s same short rows (c, mid, first, more) (d, inner, start, others) er es =
    let alike = subst (λ (k : LinkForm). Link k l b d y inner) (ap front_link (sym rows)) start in
    let one = link_one (front_link x) size behind l a b c d x y mid inner same short rows first alike (links_end count l c e mid r more er) (links_end number l d f inner s others es) in
    links_one count number size behind l c d e f mid inner r s one.0 (omega (arith, short, link_shorter (front_link x) l a c x mid first)) one.1 more others er es

-- ---- forms without links

number_one : (at by : Place) (m n : ℤ) (x y r s : Row) → x ≡ y → NumberOf at m x r → NumberOf by n y s → (at ≡ by) × (m ≡ n) × (r ≡ s)
number_one at by m n x y r s same (inl (j, small, is, e)) (inl (k, little, also, f)) =
    let token = token_one same e f in
    (at_one token.0, is ∙ ap pos (decimal_injective j k (omega (arith, small)) (omega (arith, little)) (text_one token.0)) ∙ sym also, token.1)
number_one at by m n x y r s same (inl (j, small, is, e)) (inr (k, digits, little, also, f)) = absurd (apart is_number same e f refl refl)
number_one at by m n x y r s same (inr (j, digits, small, is, e)) (inl (k, little, also, f)) = absurd (apart is_number (sym same) f e refl refl)
number_one at by m n x y r s same (inr (j, digits, small, is, e)) (inr (k, figures, little, also, f)) =
    let minus = token_one same e f in
    let token = token_one minus.1 refl refl in
    (at_one minus.0, is ∙ ap (λ v. neg_ℤ (pos v)) (decimal_injective j k (omega (arith, small)) (omega (arith, little)) (text_one token.0)) ∙ sym also, token.1)

text_injective : (a b : List ℕ) → quoted a ≡ quoted b → a ≡ b
text_injective a b e = (same_quoted a b [] [] (ap (λ l. l ++ []) e)).0

truth_back : (b : Bool) → bytes_eq (truth_text b) (codes "true") ≡ b
truth_back true = refl
truth_back false = refl

abbrev fold_of : List ℕ → FoldForm
fold_of text = cond (bytes_eq text (codes "exists")) syntax.Exists (cond (bytes_eq text (codes "first")) syntax.First syntax.Sum)

fold_back : (form : FoldForm) → fold_of (fold_text form) ≡ form
fold_back syntax.Exists = refl
fold_back syntax.First = refl
fold_back syntax.Sum = refl

-- two expressions of one form
front_one : (k : Front) (size : ℕ) → OneBehind size → (e f : Expr) (x y r s : Row) → length x ≤ size → x ≡ y
    → Made k e x r → Made k f y s → reach r ≤ front_level k → reach s ≤ front_level k → (e ≡ f) × (r ≡ s)
front_one NumberFront size behind e f x y r s short same (at, m, is, p) (by, n, also, q) er es =
    let one = number_one at by m n x y r s same p q in
    (is ∙ (λ i. syntax.Number (one.0 i) (one.1 i)) ∙ sym also, one.2)
front_one TextFront size behind e f x y r s short same (at, bytes, is, p) (by, others, also, q) er es =
    let token = token_one same p q in
    let text = text_injective bytes others (text_one token.0) in
    (is ∙ (λ i. syntax.TextLiteral (at_one token.0 i) (text i)) ∙ sym also, token.1)
front_one TruthFront size behind e f x y r s short same (at, b, is, p) (by, c, also, q) er es =
    let token = token_one same p q in
    let truth : b ≡ c = sym (truth_back b) ∙ ap (λ text. bytes_eq text (codes "true")) (text_one token.0) ∙ truth_back c in
    (is ∙ (λ i. syntax.Truth (at_one token.0 i) (truth i)) ∙ sym also, token.1)
front_one NullFront size behind e f x y r s short same (at, is, p) (by, also, q) er es =
    let token = token_one same p q in (is ∙ ap syntax.Null (at_one token.0) ∙ sym also, token.1)
front_one ThisFront size behind e f x y r s short same (at, is, p) (by, also, q) er es =
    let token = token_one same p q in (is ∙ ap syntax.This (at_one token.0) ∙ sym also, token.1)
front_one NameFront size behind e f x y r s short same (at, text, is, p) (by, other, also, q) er es =
    let token = token_one same p.1 q.1 in
    (is ∙ (λ i. syntax.Name (at_one token.0 i) (text_one token.0 i)) ∙ sym also, token.1)
front_one CallFront size behind e f x y r s short same (at, name, es, is, (paren, list, n, o, p)) (by, other, fs, also, (brackets, items, m, u, q)) er et =
    let token = token_one same n.1 m.1 in
    let inner = token_one token.1 o.0.1 u.0.1 in
    let given = arguments_one size behind es fs list items r s (omega (arith, short, takes_one _ x paren n.1, takes_one _ paren list o.0.1)) inner.1 p q in
    (is ∙ (λ i. syntax.Call (at_one token.0 i) (text_one token.0 i) (given.0 i)) ∙ sym also, given.1)
front_one ParenFront size behind e f x y r s short same (at, a, is, (one, close, p, h, c)) (by, b, also, (other, shut, q, k, d)) er es =
    let token = token_one same p q in
    let inner = behind 0 a b one other close shut (omega (arith, short, takes_one _ x one p)) (omega arith) token.1 (omega arith) (omega arith) h k (ended 0 c.1 refl) (ended 0 d.1 refl) in
    (is ∙ (λ i. syntax.Paren (at_one token.0 i) (inner.0 i)) ∙ sym also, (token_one inner.1 c.1 d.1).1)
front_one FoldFront size behind e f x y r s short same (at, form, name, list, body, is, (paren, named, colon, items, close, brace, one, end, w, p, n, m, plain, post, h, c, b, k, z))
    (by, fold, word, others, inside, also, (paren', named', colon', items', close', brace', one', end', w', p', n', m', plain', post', h', c', b', k', z')) er es =
    let token = token_one same w w' in
    let forms : form ≡ fold = sym (fold_back form) ∙ ap fold_of (text_one token.0) ∙ fold_back fold in
    let names = name_one name word (token_one token.1 p.1 p'.1).1 n.1 n'.1 in
    let before : length items < size = omega (arith, short, takes_one _ x paren w, takes_one _ paren named p.1, takes_one _ named colon n.1, takes_one _ colon items m.1) in
    let lists = behind 8 list others items items' close close' before (omega arith) (token_one names.1 m.1 m'.1).1 post post' h h' (ended 8 c.1 refl) (ended 8 c'.1 refl) in
    let inner : length one < size = omega (arith, before, spells_shorter list items close h, takes_one _ close brace c.1, takes_one _ brace one b.1) in
    let bodies = behind 0 body inside one one' end end' inner (omega arith) (token_one (token_one lists.1 c.1 c'.1).1
    b.1 b'.1).1 (omega arith) (omega arith) k k' (ended 0 z.1 refl) (ended 0 z'.1 refl) in
    (is ∙ (λ i. syntax.Fold (at_one token.0 i) (forms i) (names.0 i) (lists.0 i) (bodies.0 i)) ∙ sym also, (token_one bodies.1 z.1 z'.1).1)
front_one NegateFront size behind e f x y r s short same (at, a, is, (one, p, plain, post, h)) (by, b, also, (other, q, plain', post', k)) er es =
    let token = token_one same p q in
    let inner = behind 7 a b one other r s (omega (arith, short, takes_one _ x one p)) (omega arith) token.1 post post' h k er es in
    (is ∙ (λ i. syntax.Negate (at_one token.0 i) (inner.0 i)) ∙ sym also, inner.1)
front_one NotFront size behind e f x y r s short same (at, a, is, (one, p, post, h)) (by, b, also, (other, q, post', k)) er es =
    let token = token_one same p q in
    let inner = behind 7 a b one other r s (omega (arith, short, takes_one _ x one p)) (omega arith) token.1 post post' h k er es in
    (is ∙ (λ i. syntax.Not (at_one token.0 i) (inner.0 i)) ∙ sym also, inner.1)
front_one CastFront size behind e f x y r s short same (at, class, a, is, (named, close, one, p, n, c, g, post, h)) (by, other, b, also, (named', close', one', p', n', c', g', post', k)) er es =
    let token = token_one same p p' in
    let names = name_one class other token.1 n.1 n'.1 in
    let inner = behind 7 a b one one' r s (omega (
      arith,
      short,
      takes_one _ x named p,
      takes_one _ named close n.1,
      takes_one _ close one c.1,
    )) (omega arith) (token_one names.1 c.1 c'.1).1 post post' h k er es in
    (is ∙ (λ i. syntax.Cast (at_one token.0 i) (names.0 i) (inner.0 i)) ∙ sym also, inner.1)

-- ---- each level

-- What begins where the row does, and is of this level, is spelled in one way.
abbrev OneHere : ℕ → ℕ → Type 0
OneHere size l = (e f : Expr) (x y r s : Row) → length x ≤ size → x ≡ y → l ≤ strength e → l ≤ strength f → Spells e x r → Spells f y s → reach r ≤ l → reach s ≤ l → (e ≡ f) × (r ≡ s)

-- an expression without links
record Bare (e : Expr) (rest : Row) : Type 0 where
  high : 7 ≤ strength e
  plain : strength e ≡ 8 → ⊥
  ends : reach rest ≤ 9

-- both are of the form that the row begins
same_front : (size : ℕ) → OneBehind size → (e f : Expr) (x y r s : Row) → length x ≤ size → x ≡ y → Bare e r → Bare f s → Spells e x r → Spells f y s → Made (front x) e x r × Made (front x) f y s
same_front size behind e f x y r s short same h k p q =
    let longer : length y ≤ size = omega (arith, short, ap length same) in
    (made size behind e x r short h.high h.plain h.ends p, subst (λ (k : Front). Made k f y s) (ap front (sym same)) (made size behind f y s longer k.high k.plain k.ends q))

bare_one : (size : ℕ) → OneBehind size → (e f : Expr) (x y r s : Row) → length x ≤ size → x ≡ y → Bare e r → Bare f s
    → Spells e x r → Spells f y s → reach r ≤ strength e → reach s ≤ strength f → (e ≡ f) × (r ≡ s)
bare_one size behind e f x y r s short same h k p q er es =
    let m = same_front size behind e f x y r s short same h k p q in
    front_one (front x) size behind e f x y r s short same m.0 m.1 (omega (arith, er, front_strength (front x) e x r m.0)) (omega (arith, es, front_strength (front x) f y s m.1))

bare_level : (size : ℕ) → OneBehind size → (e f : Expr) (x y r s : Row) → length x ≤ size → x ≡ y → Bare e r → Bare f s → Spells e x r → Spells f y s → strength e ≡ strength f
bare_level size behind e f x y r s short same h k p q =
    let m = same_front size behind e f x y r s short same h k p q in
    front_strength (front x) e x r m.0 ∙ sym (front_strength (front x) f y s m.1)

primary_bare : (e : Expr) (rest : Row) → 9 ≤ strength e → reach rest ≤ 9 → Bare e rest
primary_bare e rest h l = record { high = omega (arith, h); plain = λ is. absurd (omega (arith, is, h)); ends = l }

prefix_bare : (e : Expr) (rest : Row) → 7 ≡ strength e → reach rest ≤ 7 → Bare e rest
prefix_bare e rest h l = record { high = omega (arith, h); plain = λ is. absurd (omega (arith, is, h)); ends = omega (arith, l) }

primary_one : (size : ℕ) → OneBehind size → OneHere size 9
primary_one size behind e f x y r s short same h k p q er es =
    bare_one size behind e f x y r s short same (primary_bare e r h er) (primary_bare f s k es) p q (omega (arith, h, er)) (omega (arith, k, es))

-- a level with links, from the one above it
linked_one : (size l : ℕ) → Linked l → 1 ≤ l → OneBehind size → OneHere size (l + 1) → OneHere size l
linked_one size l w low behind above e f x y r s short same h k p q er es =
    let g = headed e l x r w low h p in
    let j = headed f l y s w low k q in
    let head = above g.head j.head x y g.mid j.mid short same g.strong j.strong g.spells j.spells (links_end g.count l g.head e g.mid r g.links er) (links_end j.count l j.head f j.mid s j.links es) in
    links_one g.count j.count size behind l g.head j.head e f g.mid j.mid r s head.0 (omega (arith, short, spells_shorter g.head x g.mid g.spells)) head.1 g.links j.links er es

-- what begins with a sign before an operand is no primary with its calls
prefix_apart : (size : ℕ) → OneBehind size → (e f : Expr) (x y r s : Row) → length x ≤ size → x ≡ y → 7 ≡ strength e → 8 ≤ strength f → Spells e x r → Spells f y s → reach r ≤ 7 → reach s ≤ 7 → ⊥
prefix_apart size behind e f x y r s short same h k p q er es =
    let j = headed f 8 y s (inr refl) (omega arith) k q in
    let ends : reach j.mid ≤ 9 = links_end j.count 8 j.head f j.mid s j.links (omega (arith, es)) in
    let level = bare_level size behind e j.head x y r j.mid short same (prefix_bare e r h er) (primary_bare j.head j.mid j.strong ends) p j.spells in
    absurd (omega (arith, level, h, j.strong))

-- with a sign before an operand, or a primary with its calls
unary_by : (size : ℕ) → OneBehind size → OneHere size 8 → (e f : Expr) (x y r s : Row) → length x ≤ size → x ≡ y
    → (7 ≡ strength e) ⊎ (7 < strength e) → (7 ≡ strength f) ⊎ (7 < strength f) → Spells e x r → Spells f y s
    → reach r ≤ 7 → reach s ≤ 7 → (e ≡ f) × (r ≡ s)
unary_by size behind above e f x y r s short same (inl h) (inl k) p q er es =
    bare_one size behind e f x y r s short same (prefix_bare e r h er) (prefix_bare f s k es) p q (omega (arith, h, er)) (omega (arith, k, es))
unary_by size behind above e f x y r s short same (inl h) (inr k) p q er es = absurd (prefix_apart size behind e f x y r s short same h (omega (arith, k)) p q er es)
unary_by size behind above e f x y r s short same (inr h) (inl k) p q er es =
    absurd (prefix_apart size behind f e y x s r (omega (arith, short, ap length same)) (sym same) k (omega (arith, h)) q p es er)
unary_by size behind above e f x y r s short same (inr h) (inr k) p q er es = above e f x y r s short same (omega (arith, h)) (omega (arith, k)) p q (omega (arith, er)) (omega (arith, es))

unary_one : (size : ℕ) → OneBehind size → OneHere size 8 → OneHere size 7
unary_one size behind above e f x y r s short same h k p q er es =
    unary_by size behind above e f x y r s short same (eq-or-lt_of_le h) (eq-or-lt_of_le k) p q er es

-- the levels of operators, from the strongest down
operators_one : (size steps l : ℕ) → l + steps ≡ 7 → 1 ≤ l → OneBehind size → OneHere size 7 → OneHere size l
operators_one size zero l is low behind above = let last : 7 ≡ l = omega (arith, is) in subst (λ (k : ℕ). OneHere size k) last above
operators_one size (suc steps) l is low behind above = linked_one size l (inl (omega (arith, is))) low behind (operators_one size steps (l + 1) (omega (arith, is)) (omega arith) behind above)

-- ---- choices

-- a `?` and what stands around it, or a stronger form
data Choice (e : Expr) (old rest : Row) : Type 0 where
  Chosen : (at : Place) (c : Expr) (behind : Place) (a b : Expr) → e ≡ syntax.Choose at c behind a b → Spells (syntax.Choose at c behind a b) old rest → Choice e old rest
  Stronger : 1 ≤ strength e → Choice e old rest

choice_of : (e : Expr) (old rest : Row) → Spells e old rest → Choice e old rest
choice_of (syntax.Choose at c behind a b) old rest p = Chosen at c behind a b refl p
choice_of (syntax.Binary at o between a b) old rest p = Stronger (operator_facts o between).low
choice_of e old rest p = Stronger (omega arith)

-- a choice and a stronger form begin no one row
choice_apart : (size : ℕ) → OneHere size 1 → (e f : Expr) (at : Place) (behind : Place) (x y link chosen s : Row) → length x ≤ size → x ≡ y → 1 ≤ strength e → 1 ≤ strength f
    → Spells e x link → link ≡ sign (codes "?") behind ∷ chosen → Spells f y s → reach s ≤ 0 → ⊥
choice_apart size above e f at behind x y link chosen s short same h k p t q es =
    let asks : reach link ≡ 1 = ap reach t in
    let rows = (above e f x y link s short same h k p q (omega (arith, asks)) (omega (arith, es))).1 in
    absurd (omega (arith, asks, ap reach rows, es))

choice_by : (size : ℕ) → OneBehind size → OneHere size 1 → (e f : Expr) (x y r s : Row) → length x ≤ size → x ≡ y
    → Choice e x r → Choice f y s → Spells e x r → Spells f y s → reach r ≤ 0 → reach s ≤ 0 → (e ≡ f) × (r ≡ s)
choice_by size behind above e f x y r s short same
    (Chosen at c asks a b is (link, chosen, colon, other, at_c, low, p, t, u, m, v))
    (Chosen at' c' asks' a' b' is' (link', chosen', colon', other', at_c', low', p', t', u', m', v')) h k er es =
    let asked : reach link ≡ 1 = ap reach t in
    let asked' : reach link' ≡ 1 = ap reach t' in
    let test = above c c' x y link link' short same (omega (arith, low, at_least c)) (omega (arith, low', at_least c')) p p' (omega (arith, asked)) (omega (arith, asked')) in
    let token = token_one test.1 t t' in
    let before : length chosen < size = omega (arith, short, spells_shorter c x link p, takes_one _ link chosen t) in
    let one = behind 0 a a' chosen chosen' colon colon' before (omega arith) token.1 (omega arith) (omega arith) u u' (ended 0 m.1 refl) (ended 0 m'.1 refl) in
    let later : length other < size = omega (arith, before, spells_shorter a chosen colon u, takes_one _ colon other m.1) in
    let two = behind 0 b b' other other' r s later (omega arith) (token_one one.1 m.1 m'.1).1 (omega arith) (omega arith) v v' er es in (
      is ∙ ap (λ z. syntax.Choose z c asks a b) at_c ∙ (λ i. syntax.Choose (place (test.0 i)) (test.0 i)
          (at_one token.0 i) (one.0 i) (two.0 i)) ∙ sym (ap (λ z. syntax.Choose z c' asks' a' b') at_c') ∙ sym is',
      two.1,
    )
choice_by size behind above e f x y r s short same (Chosen at c asks a b is (link, chosen, colon, other, at_c, low, p, t, u, m, v)) (Stronger strong) h k er es =
    absurd (choice_apart size above c f at asks x y link chosen s short same (omega (arith, low, at_least c)) strong p t k es)
choice_by size behind above e f x y r s short same (Stronger strong) (Chosen at c asks a b is (link, chosen, colon, other, at_c, low, p, t, u, m, v)) h k er es =
    absurd (choice_apart size above c e at asks y x link chosen r (omega (arith, short, ap length same)) (sym same) (omega (arith, low, at_least c)) strong p t h er)
choice_by size behind above e f x y r s short same (Stronger strong) (Stronger firm) h k er es = above e f x y r s short same strong firm h k (omega (arith, er)) (omega (arith, es))

choice_one : (size : ℕ) → OneBehind size → OneHere size 1 → OneHere size 0
choice_one size behind above e f x y r s short same low none p q er es = choice_by size behind above e f x y r s short same (choice_of e x r p) (choice_of f y s q) p q er es

-- ---- all levels

level_by : (size l : ℕ) → OneBehind size → OneHere size 8 → OneHere size 7 → 1 ≤ l → (l ≡ 8) ⊎ (l < 8) → OneHere size l
level_by size l behind eight seven low (inl is) = subst (λ (k : ℕ). OneHere size k) (sym is) eight
level_by size l behind eight seven low (inr h) = let steps : l + (7 - l) ≡ 7 = omega (arith, h) in operators_one size (7 - l) l steps low behind seven

level_one : (size l : ℕ) → OneBehind size → OneHere size 8 → l ≤ 8 → OneHere size l
level_one size zero behind eight h = choice_one size behind (operators_one size 6 1 refl (omega arith) behind (unary_one size behind eight))
level_one size (suc l) behind eight h = level_by size (suc l) behind eight (unary_one size behind eight) (omega arith) (eq-or-lt_of_le h)

here_one : (size l : ℕ) → OneBehind size → l ≤ 8 → OneHere size l
here_one size l behind h = level_one size l behind (linked_one size 8 (inr refl) (omega arith) behind (primary_one size behind)) h

-- rows of tokens below any length spell one expression of each level
behind_one : (size : ℕ) → OneBehind size
behind_one zero l e f x y r s short low same h k p q er es = absurd (omega (arith, short))
behind_one (suc size) l e f x y r s short low same h k p q er es =
    here_one size l (behind_one size) low e f x y r s (omega (arith, short)) same (omega (arith, h, at_least e)) (omega (arith, k, at_least f)) p q er es

-- one row spells one expression up to where nothing goes on with it
pub one_expression : (e f : Expr) (x y r s : Row) → x ≡ y → Spells e x r → Spells f y s → reach r ≤ 0 → reach s ≤ 0 → (e ≡ f) × (r ≡ s)
one_expression e f x y r s same p q er es = behind_one (suc (length x)) 0 e f x y r s (omega arith) (omega arith) same (omega arith) (omega arith) p q er es
