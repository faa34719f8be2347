-- How reading an expression follows from reading its parts.
use Rattle.std.proofs.Common.{◌≡◌, ℕ, ◌+◌, ◌≤◌, ◌<◌, suc, ℤ, List, [], ◌∷◌, ◌++◌, false, length, max, map, refl, sym, ap, subst, ◌∙◌, append_assoc, arith, inl, inr}
use Rattle.std.specs.Prelude.{Result, IfOk}
use Rattle.std.proofs.lemmas.Result.{IfOk-weaker}
use lib.Chars.{codes}
use Rattle.at_text.specs.Symbols.{PlacedToken}
use Rattle.at_text.specs.declared.place.Place.{Place}
use Rattle.at_jrag.specs.Syntax as syntax
use Rattle.at_jrag.specs.Syntax.{Expr, Exprs, to_exprs, place}
use Rattle.at_jrag.specs.Syntax.{Word, FoldForm}
use Rattle.at_jrag.specs.View.{expr_view}
use Rattle.at_jrag.specs.Read.{Reads, HasArguments, prefix_view, StandsBefore}
use Rattle.at_jrag.specs.declared.reader.forms.Measured.{Measured}
use Rattle.at_jrag.specs.declared.reader.forms.Arguments.{Arguments as ArgumentsValue}
use Rattle.at_jrag.specs.declared.reader.operators.Prefix.{Prefix}
use Rattle.at_jrag.specs.declared.reader.operators.Prefix.TheVariants as prefix
use Rattle.at_text.specs.Rows.{Row, sign, word, is_sign, next_is}
use Rattle.at_jrag.specs.Grammar.{fold_text, operator_text, operator_level, Name, Spells, Arguments, MoreArguments, NumberOf, Sign, deepest, depth, level}

-- ---- each form takes a token at least

pub takes_one : (t : PlacedToken) (old rest : Row) → old ≡ t ∷ rest → length rest < length old
takes_one t old rest e = let l : length old ≡ suc (length rest) = ap length e in omega (arith, l)

takes_two : (t u : PlacedToken) (old rest : Row) → old ≡ t ∷ u ∷ rest → length rest < length old
takes_two t u old rest e = let l : length old ≡ suc (suc (length rest)) = ap length e in omega (arith, l)

number_shorter : (at : Place) (n : ℤ) (old rest : Row) → NumberOf at n old rest → length rest < length old
number_shorter at n old rest (inl h) = takes_one _ old rest h.3
number_shorter at n old rest (inr h) = takes_two _ _ old rest h.4

mutual
  pub spells_shorter : (e : Expr) (old rest : Row) → Spells e old rest → length rest < length old
  spells_shorter (syntax.Number at n) old rest h = number_shorter at n old rest h
  spells_shorter (syntax.TextLiteral at bytes) old rest h = takes_one _ old rest h
  spells_shorter (syntax.Truth at b) old rest h = takes_one _ old rest h
  spells_shorter (syntax.Null at) old rest h = takes_one _ old rest h
  spells_shorter (syntax.This at) old rest h = takes_one _ old rest h
  spells_shorter (syntax.Name at text) old rest h = takes_one _ old rest h.1
  spells_shorter (syntax.Call at name es) old rest (paren, list, n, o, a) =
      omega (arith, takes_one _ old paren n.1, takes_one _ paren list o.0.1, arguments_shorter es list rest a)
  spells_shorter (syntax.CallOf at e name es) old rest (dot, called, paren, list, name_at, same, post, r, d, n, o, a) =
      omega (arith, spells_shorter e old dot r, takes_one _ dot called d.1, takes_one _ called paren n.1, takes_one _ paren list o.0.1, arguments_shorter es list rest a)
  spells_shorter (syntax.Paren at e) old rest (one, close, p, r, c) = omega (arith, takes_one _ old one p, spells_shorter e one close r, takes_one _ close rest c.1)
  spells_shorter (syntax.Negate at e) old rest (one, p, none, post, r) = omega (arith, takes_one _ old one p, spells_shorter e one rest r)
  spells_shorter (syntax.Not at e) old rest (one, p, post, r) = omega (arith, takes_one _ old one p, spells_shorter e one rest r)
  spells_shorter (syntax.Cast at class e) old rest (named, close, one, p, n, c, f, post, r) =
      omega (arith, takes_one _ old named p, takes_one _ named close n.1, takes_one _ close one c.1, spells_shorter e one rest r)
  spells_shorter (syntax.InstanceOf at e behind class) old rest (link, named, same, lean, r, l, n) =
      omega (arith, spells_shorter e old link r, takes_one _ link named l, takes_one _ named rest n.1)
  spells_shorter (syntax.Binary at o between a b) old rest (link, right, same, lean, strong, p, l, q) =
      omega (arith, spells_shorter a old link p, takes_one _ link right l, spells_shorter b right rest q)
  spells_shorter (syntax.Choose at c behind a b) old rest (link, then, colon, other, same, lean, p, l, q, m, r) =
      omega (arith, spells_shorter c old link p, takes_one _ link then l, spells_shorter a then colon q, takes_one _ colon other m.1, spells_shorter b other rest r)
  spells_shorter (syntax.Fold at form name list body) old rest (paren, named, colon, items, close, brace, one, end, w, p, n, m, plain, post, q, c, b, r, z) =
      omega (
        arith,
        takes_one _ old paren w,
        takes_one _ paren named p.1,
        takes_one _ named colon n.1,
        takes_one _ colon items m.1,
        spells_shorter list items close q,
        takes_one _ close brace c.1,
        takes_one _ brace one b.1,
        spells_shorter body one end r,
        takes_one _ end rest z.1,
      )

  arguments_shorter : (es : Exprs) (old rest : Row) → Arguments es old rest → length rest < length old
  arguments_shorter syntax.no_exprs old rest h = takes_one _ old rest h.1
  arguments_shorter (syntax.expr e es) old rest (more, r, m) = omega (arith, spells_shorter e old more r, more_shorter es more rest m)

  more_shorter : (es : Exprs) (old rest : Row) → MoreArguments es old rest → length rest < length old
  more_shorter syntax.no_exprs old rest h = takes_one _ old rest h.1
  more_shorter (syntax.expr e es) old rest (one, more, c, r, m) = omega (arith, takes_one _ old one c.1, spells_shorter e one more r, more_shorter es more rest m)

-- ---- arguments

-- The arguments so far were read, and one more is wanted.
abbrev pub Wanted : List Expr → Row → Row → Type 0
Wanted es start old = (e : Expr) (more : List Expr) (mid rest : Row) → Spells e old mid → MoreArguments (to_exprs more) mid rest → Arguments (to_exprs (es ++ e ∷ more)) start rest

pub wanted_first : (old : Row) → Wanted [] old old
wanted_first old e more mid rest r m = (mid, r, m)

pub wanted_next : (es : List Expr) (e : Expr) (start old mid next : Row) → Wanted es start old → Spells e old mid → Sign (codes ",") mid next → Wanted (es ++ e ∷ []) start next
wanted_next es e start old mid next w r c f more last rest s m =
    subst (λ (x : List Expr). Arguments (to_exprs x) start rest) (sym (append_assoc es (e ∷ []) (f ∷ more))) (w e (f ∷ more) mid rest r (next, last, c, s, m))

pub deepest_push : (es : List Expr) (e : Expr) → deepest (to_exprs (es ++ e ∷ [])) ≡ max (deepest (to_exprs es)) (depth e)
deepest_push [] e = omega arith
deepest_push (x ∷ es) e = let h = deepest_push es e in omega (arith, h)

pub wanted_end : (es : List Expr) (e : Expr) (start old mid rest : Row) → Wanted es start old → Spells e old mid → Sign (codes ")") mid rest → Arguments (to_exprs (es ++ e ∷ [])) start rest
wanted_end es e start old mid rest w r c = w e [] mid rest r c

pub next_shorter : (e : Expr) (old mid next : Row) → Spells e old mid → Sign (codes ",") mid next → length next < length old
next_shorter e old mid next r c = omega (arith, spells_shorter e old mid r, takes_one _ mid next c.1)

-- ---- forms made of their parts

pub reads_made : (lowest : ℕ) (m : Measured) (e : Expr) (old rest : Row) → expr_view m.expr ≡ e → Spells e old rest → lowest ≤ level e → m.depth ≡ depth e → Reads lowest m old rest
reads_made lowest m e old rest made r l d = (subst (λ (x : Expr). Spells x old rest) (sym made) r, subst (λ (x : Expr). lowest ≤ level x) (sym made) l, d ∙ ap depth (sym made))

pub call_of_reads : (receiver m : Measured) (name : Word) (args : ArgumentsValue) (old dot called paren rest : Row)
    → Reads 8 receiver old dot → Sign (codes ".") dot called → Name name called paren → HasArguments name.text args paren rest
    → expr_view m.expr ≡ syntax.CallOf (place (expr_view receiver.expr)) (expr_view receiver.expr) name.text (to_exprs (map expr_view args.items.items))
    → m.depth ≡ 1 + max receiver.depth args.depth → Reads 8 m old rest
call_of_reads receiver m name args old dot called paren rest r d n (list, opens, a, deep) made size =
    reads_made 8 m _ old rest made (dot, called, paren, list, name.at, refl, r.1, r.0, d, n, opens, a) (omega arith) (size ∙ (λ i. 1 + max (r.2 i) (deep i)))

pub fold_reads : (form : FoldForm) (at : Place) (m list body : Measured) (name : Word) (old paren named colon items close brace one end rest : Row)
    → expr_view m.expr ≡ syntax.Fold at form name (expr_view list.expr) (expr_view body.expr) → m.depth ≡ 1 + max list.depth body.depth
    → old ≡ word (fold_text form) at ∷ paren → Sign (codes "(") paren named → Name name named colon → Sign (codes ":") colon items → next_is (is_sign (codes "-")) items ≡ false
    → Reads 8 list items close → Sign (codes ")") close brace → Sign (codes "{") brace one → Reads 0 body one end → Sign (codes "}") end rest → Reads 8 m old rest
fold_reads form at m list body name old paren named colon items close brace one end rest made size w p n c plain l q b r z =
    reads_made 8 m _ old rest made (paren, named, colon, items, close, brace, one, end, w, p, n, c, plain, l.1, l.0, q, b, r.0, z) (omega arith) (size ∙ (λ i. 1 + max (l.2 i) (r.2 i)))

pub prefix_reads : (p : Prefix) (at : Place) (m inner : Measured) (old one rest : Row) → expr_view m.expr ≡ prefix_view p at (expr_view inner.expr) → m.depth ≡ 1 + inner.depth
    → StandsBefore p at old one → Reads 7 inner one rest → Reads 7 m old rest
prefix_reads prefix.Not at m inner old one rest made size b r = reads_made 7 m _ old rest made (one, b, r.1, r.0) (omega arith) (size ∙ ap (λ d. 1 + d) r.2)
prefix_reads prefix.Minus at m inner old one rest made size b r = reads_made 7 m _ old rest made (one, b.0, b.1, r.1, r.0) (omega arith) (size ∙ ap (λ d. 1 + d) r.2)
prefix_reads (prefix.Cast class) at m inner old one rest made size (named, close, p, n, c, f) r =
    reads_made 7 m _ old rest made (named, close, one, p, n, c, f, r.1, r.0) (omega arith) (size ∙ ap (λ d. 1 + d) r.2)

pub choice_reads : (m c a b : Measured) (behind : Place) (old link one colon other rest : Row)
    → Reads 1 c old link → link ≡ sign (codes "?") behind ∷ one → Reads 0 a one colon → Sign (codes ":") colon other → Reads 0 b other rest
    → expr_view m.expr ≡ syntax.Choose (place (expr_view c.expr)) (expr_view c.expr) behind (expr_view a.expr) (expr_view b.expr)
    → m.depth ≡ 1 + max c.depth (max a.depth b.depth) → Reads 0 m old rest
choice_reads m c a b behind old link one colon other rest r q x p y made size =
    reads_made 0 m _ old rest made (link, one, colon, other, refl, r.1, r.0, q, x.0, p, y.0) (omega arith) (size ∙ (λ i. 1 + max (r.2 i) (max (x.2 i) (y.2 i))))

pub operation_reads : (m a b : Measured) (o : syntax.Operator) (between : Place) (lowest : ℕ) (old link right rest : Row)
    → Reads lowest a old link → operator_level o ≡ lowest → link ≡ sign (operator_text o) between ∷ right → Reads (lowest + 1) b right rest
    → expr_view m.expr ≡ syntax.Binary (place (expr_view a.expr)) o between (expr_view a.expr) (expr_view b.expr) → m.depth ≡ 1 + max a.depth b.depth → Reads lowest m old rest
operation_reads m a b o between lowest old link right rest r same q x made size =
    reads_made lowest m _ old rest made (link, right, refl, omega (arith, same, r.1), omega (arith, same, x.1), r.0, q, x.0) (omega (arith, same)) (size ∙ (λ i. 1 + max (r.2 i) (x.2 i)))

pub instance_reads : (m a : Measured) (behind : Place) (class : Word) (lowest : ℕ) (old link named rest : Row)
    → Reads lowest a old link → lowest ≡ 4 → link ≡ word (codes "instanceof") behind ∷ named → Name class named rest
    → expr_view m.expr ≡ syntax.InstanceOf (place (expr_view a.expr)) (expr_view a.expr) behind class → m.depth ≡ 1 + a.depth → Reads lowest m old rest
instance_reads m a behind class lowest old link named rest r same q n made size =
    reads_made lowest m _ old rest made (link, named, refl, omega (arith, same, r.1), r.0, q, n) (omega (arith, same)) (size ∙ (λ i. 1 + r.2 i))

pub paren_reads : (m a : Measured) (at : Place) (old one close rest : Row) → old ≡ sign (codes "(") at ∷ one → Reads 0 a one close → Sign (codes ")") close rest
    → expr_view m.expr ≡ syntax.Paren at (expr_view a.expr) → m.depth ≡ 1 + a.depth → Reads 8 m old rest
paren_reads m a at old one close rest q r z made size = reads_made 8 m _ old rest made (one, close, q, r.0, z) (omega arith) (size ∙ (λ i. 1 + r.2 i))

pub call_reads : (m : Measured) (name : Word) (args : ArgumentsValue) (old paren rest : Row) → Name name old paren → HasArguments name.text args paren rest
    → expr_view m.expr ≡ syntax.Call name.at name.text (to_exprs (map expr_view args.items.items)) → m.depth ≡ 1 + args.depth → Reads 8 m old rest
call_reads m name args old paren rest n (list, opens, a, deep) made size = reads_made 8 m _ old rest made (paren, list, n, opens, a) (omega arith) (size ∙ (λ i. 1 + deep i))

-- what is read with its calls, as a unary
pub called_unary : {E : Type 0} (first : Measured) (read : Result Measured E) (old mid rest : Row)
    → Reads 8 first old mid → IfOk read (λ m. (start : Row) → Reads 8 first start mid → Reads 8 m start rest)
    → IfOk read (λ m. Reads 7 m old rest)
called_unary first read old mid rest r f =
    IfOk-weaker read (λ m. (start : Row) → Reads 8 first start mid → Reads 8 m start rest) (λ m. Reads 7 m old rest) (λ m g. let x = g old r in (x.0, omega (arith, x.1), x.2)) f
