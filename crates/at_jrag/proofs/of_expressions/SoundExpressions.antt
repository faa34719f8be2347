-- The rows of the table for expressions have the sense of their wants.
use Rattle.std.proofs.Common.{◌≡◌, ℕ, zero, suc, ◌+◌, ◌-◌, ◌≤◌, pos, neg_ℤ, List, [], ◌∷◌, Bool, true, false, max, Some, refl, sym, ap, subst, ◌∙◌, arith, inr}
use Rattle.std.specs.Prelude.{◌==◌, nat_lt}
use Rattle.std.proofs.lemmas.Bool.{ltb-true, eqb-true}
use lib.Chars.{codes}
use Rattle.at_model.specs.Names.{is_name}
use Rattle.at_text.specs.Reading.{first}
use Rattle.at_text.specs.Symbols.{PlacedToken, is_word_kind}
use Rattle.at_text.specs.declared.place.Place.{Place}
use Rattle.at_jrag.specs.Syntax as syntax
use Rattle.at_jrag.specs.Syntax.{Word, Expr, Exprs, place}
use Rattle.at_jrag.specs.Grammar as grammar
use Rattle.at_text.specs.Rows.{Row, sign, word, is_sign, is_word, is_name_token, next_is}
use Rattle.at_jrag.specs.Grammar.{number, is_number, follows_cast, Sign, Spells, level, depth, deepest, operator_text, operator_level, fold_text, Keyword}
use Rattle.at_text.specs.Machine.{Takes, Skips, Refuses, and_then}
use Rattle.at_jrag.specs.Wants.{Expression, Binary, Links, Choice, Otherwise, Unary, Minus, Opened, Calls, Primary, Named, FoldBody, Deeper, Join, Deepest, Counts, Name, Mark}
use Rattle.at_jrag.specs.Table.{next, link_rank, is_get_child, is_literal, is_number_within, begins_fold, expects, primary_answer, unary_answer, minus_answer, binary_answer, expression_answer, link_answer, links_answer, choice_answer}
use Rattle.at_jrag.proofs.of_expressions.ExpressionSteps.{name_is, sign_is}
use Rattle.at_jrag.proofs.of_expressions.ExpressionsTaken.{deep, next_first}
use Rattle.at_jrag.proofs.SoundTokens.{front_passes, sign_front, word_front, number_of, literal_of, fold_of, word_link, sign_link}
use Rattle.at_jrag.proofs.SoundSays.{IsRead, IsOther, IsFoldBody, AllSay, Took, Does, only_says, then_does, on_does}

-- ---- what was read, at other rows and ranks

pub put : {l : Bool} {r b e k : ℕ} {old rest more : Row} → e ≡ k → rest ≡ more → IsRead l r b k old more → IsRead l r b e old rest
put {l} {r} {b} {e} {k} {old} {rest} {more} same end h = subst (λ (x : Row). IsRead l r b e old x) (sym end) (subst (λ (x : ℕ). IsRead l r b x old more) (sym same) h)

pub moved : {l : Bool} {r b e : ℕ} {old new rest : Row} → old ≡ new → IsRead l r b e new rest → IsRead l r b e old rest
moved {l} {r} {b} {e} {old} {new} {rest} same h = subst (λ (x : Row). IsRead l r b e x rest) (sym same) h

pub weaken : {l : Bool} (r q : ℕ) {b e : ℕ} {old rest : Row} → r ≤ q → IsRead l r b e old rest → IsRead l q b e old rest
weaken r q h x = record { expr = x.expr; spells = x.spells; strong = let s = x.strong in omega (arith, h, s); deep = x.deep; fits = x.fits }

-- ---- single tokens

-- a token that is taken alone
pub sign_alone : (l : Bool) (text : List ℕ) (d : ℕ) (old : Row) (e : ℕ) (rest : Row) → next (is_sign text) (first old) ≡ true → Took l true [] d old e rest → Sign text old rest
sign_alone l text d old e rest p k = (k.token.at, sign_front text old k.behind k.token k.front p ∙ ap (λ r. sign text k.token.at ∷ r) (sym k.all.1))

pub word_alone : (l : Bool) (text : List ℕ) (d : ℕ) (old : Row) (e : ℕ) (rest : Row) → next (is_word text) (first old) ≡ true → Took l true [] d old e rest → Keyword text old rest
word_alone l text d old e rest p k = (k.token.at, word_front text old k.behind k.token k.front p ∙ ap (λ r. word text k.token.at ∷ r) (sym k.all.1))

pub mark_means : (l : Bool) (text : List ℕ) (d : ℕ) (old : Row) (e : ℕ) (rest : Row) → Does l (expects (is_sign text) (Takes true [] d) (first old)) old e rest → Sign text old rest × (e ≡ d)
mark_means l text d old e rest h = on_does l (next (is_sign text) (first old)) (Takes true [] d) Refuses old e rest
    (λ p k. (sign_alone l text d old e rest p k, k.all.0)) (λ p k. absurd k) h

pub name_means : (l : Bool) (d : ℕ) (old : Row) (e : ℕ) (rest : Row) → Does l (expects is_name_token (Takes true [] d) (first old)) old e rest → (w : Word) × grammar.Name w old rest × (e ≡ d)
name_means l d old e rest h = on_does l (next is_name_token (first old)) (Takes true [] d) Refuses old e rest
    (λ p k. let n = name_is k.token (front_passes is_name_token old k.behind k.token k.front p) in
    (record { text = k.token.text; at = k.token.at }, (n.1, k.front ∙ (λ i. n.0 i ∷ sym k.all.1 i)), k.all.0)) (λ p k. absurd k) h

-- ---- primaries

pub paren_read : (l : Bool) (b m : ℕ) (at : Place) (old one close rest : Row) → old ≡ sign (codes "(") at ∷ one → IsRead l 8 (b - 1) m one close → Sign (codes ")") close rest
    → IsRead l 0 b (1 + m) old rest
paren_read l b m at old one close rest e r c = record {
  expr = syntax.Paren at r.expr;
  spells = (one, close, e, r.spells, c);
  strong = omega arith;
  deep = ap (λ x. 1 + x) r.deep;
  fits = λ h. let f = r.fits h in let d = r.deep in let some = deep r.expr in omega (arith, f, d, some);
}

paren_means : (l : Bool) (b : ℕ) (at : Place) (old one : Row) (e : ℕ) (rest : Row)
    → old ≡ sign (codes "(") at ∷ one → AllSay l (Expression (b - 1) ∷ Mark (codes ")") ∷ Deeper ∷ []) 0 one e rest → IsRead l 0 b e old rest
paren_means l b at old one e rest k (close, m, r, (mid, m2, (c, e1), tail)) =
    let s = only_says l Deeper m2 mid e rest tail in put (s.0 ∙ ap (λ x. 1 + x) e1) s.1 (paren_read l b m at old one close mid k r c)

fold_read : (l : Bool) (b m : ℕ) (f : syntax.FoldForm) (at : Place) (w : Word) (old paren named colon items close brace : Row) (e : ℕ) (rest : Row) → (l ≡ true → 2 ≤ b)
    → old ≡ word (fold_text f) at ∷ paren → Sign (codes "(") paren named → grammar.Name w named colon → Sign (codes ":") colon items
    → next_is (is_sign (codes "-")) items ≡ false → IsRead l 0 (b - 1) m items close → Sign (codes ")") close brace → IsFoldBody l b m e brace rest → IsRead l 0 b e old rest
fold_read l b m f at w old paren named colon items close brace e rest some k p n c plain r q body = record {
  expr = syntax.Fold at f w r.expr body.read.expr;
  spells = (paren, named, colon, items, close, brace, body.one, body.end, k, p, n, c, plain, (let s = r.strong in omega (arith, s)), r.spells, q, body.brace, body.read.spells, body.close);
  strong = omega arith;
  deep = body.deep ∙ (λ i. 1 + max (r.deep i) (body.read.deep i));
  fits = λ h. let x = r.fits h in let y = body.read.fits h in let z = some h in let s = body.deep in omega (arith, x, y, z, s);
}

fold_means : (l : Bool) (b : ℕ) (f : syntax.FoldForm) (at : Place) (old paren : Row) (e : ℕ) (rest : Row) → (l ≡ true → 2 ≤ b) → old ≡ word (fold_text f) at ∷ paren
    → AllSay l (Mark (codes "(") ∷ Name ∷ Mark (codes ":") ∷ Primary (b - 1) ∷ Calls (b - 1) ∷ Mark (codes ")") ∷ FoldBody b ∷ []) 0 paren e rest → IsRead l 0 b e old rest
fold_means l b f at old paren e rest some k (named, d1, (p, e1), (colon, d2, (w, n, e2), (items, d3, (c, e3), (mid, m, (r, plain), (close, m2, calls, (brace, m3, (q, e4), tail)))))) =
    fold_read l b m3 f at w old paren named colon items close brace e rest some k p n c plain (put e4 refl (calls items r)) q (only_says l (FoldBody b) m3 brace e rest tail)

pub first_tail : (t u : PlacedToken) (x y : Row) → t ∷ x ≡ u ∷ y → x ≡ y
first_tail t u x y e = cc

primary_named : (l : Bool) (b : ℕ) (t : PlacedToken) (ts : Row) (e : ℕ) (rest : Row) → is_name_token t ≡ true → Took l (nat_lt 0 b) (Named (is_get_child t) b ∷ []) 0 (t ∷ ts) e rest
    → IsRead l 0 b e (t ∷ ts) rest
primary_named l b t ts e rest p k =
    let n = name_is t p in
    let w : Word = record { text = t.text; at = t.at } in
    moved (λ i. n.0 i ∷ first_tail t k.token ts k.behind k.front i) (only_says l (Named (is_get_child t) b) 0 k.behind e rest k.all w n.1 refl (λ h. ltb-true 0 b (k.within_is h)))

primary_at : (l : Bool) (b : ℕ) (t : PlacedToken) (ts : Row) (e : ℕ) (rest : Row) → Does l (primary_answer b (Some t)) (t ∷ ts) e rest → IsRead l 0 b e (t ∷ ts) rest × (is_sign (codes "-") t ≡ false)
primary_at l b t ts e rest h = on_does l (is_literal t) (Takes (nat_lt 0 b) [] 1) _ (t ∷ ts) e rest
    (λ p k. let x = literal_of t p in (
      (record {
        expr = x.expr;
        spells = subst (λ (r : Row). Spells x.expr (t ∷ r) rest) (sym (first_tail t k.token ts k.behind k.front ∙ sym k.all.1)) (x.spells rest);
        strong = x.strong;
        deep = k.all.0 ∙ x.one;
        fits = λ f. let g = ltb-true 0 b (k.within_is f) in let y = k.all.0 in omega (arith, g, y);
      }),
      x.plain,
    ))
    (λ p h. on_does l (is_sign (codes "(") t) (Takes (nat_lt 1 b) (Expression (b - 1) ∷ Mark (codes ")") ∷ Deeper ∷ []) 0) _ (t ∷ ts) e rest
    (λ p k. (paren_means l b k.token.at (t ∷ ts) k.behind e rest (sign_front (codes "(") (t ∷ ts) k.behind k.token k.front p) k.all, ap (is_sign (codes "-")) (sign_is (codes "(") t p)))
    (λ p h. on_does l (begins_fold t) (Takes (nat_lt 1 b) (Mark (codes "(") ∷ Name ∷ Mark (codes ":") ∷ Primary (b - 1) ∷ Calls (b - 1) ∷ Mark (codes ")") ∷ FoldBody b ∷ []) 0) _ (t ∷ ts) e rest
    (λ p k. let f = fold_of t p in
    (fold_means l b f.0 t.at (t ∷ ts) k.behind e rest (λ g. ltb-true 1 b (k.within_is g)) (λ i. f.1 i ∷ first_tail t k.token ts k.behind k.front i) k.all, ap (is_sign (codes "-")) f.1))
    (λ p h. on_does l (is_name_token t) (Takes (nat_lt 0 b) (Named (is_get_child t) b ∷ []) 0) Refuses (t ∷ ts) e rest
    (λ p k. (primary_named l b t ts e rest p k, ap (is_sign (codes "-")) (name_is t p).0)) (λ p k. absurd k) h) h) h) h

pub primary_means : (l : Bool) (b : ℕ) (old : Row) (e : ℕ) (rest : Row) → Does l (primary_answer b (first old)) old e rest → IsRead l 0 b e old rest × (next_is (is_sign (codes "-")) old ≡ false)
primary_means l b [] e rest h = absurd h
primary_means l b (t ∷ ts) e rest h = primary_at l b t ts e rest h

-- ---- unaries

not_read : (l : Bool) (b m : ℕ) (at : Place) (old one rest : Row) → old ≡ sign (codes "!") at ∷ one → IsRead l 1 (b - 1) m one rest → IsRead l 1 b (1 + m) old rest
not_read l b m at old one rest e r = record {
  expr = syntax.Not at r.expr;
  spells = (one, e, (let s = r.strong in omega (arith, s)), r.spells);
  strong = omega arith;
  deep = ap (λ x. 1 + x) r.deep;
  fits = λ h. let f = r.fits h in let d = r.deep in let some = deep r.expr in omega (arith, f, d, some);
}

negate_read : (l : Bool) (b m : ℕ) (at : Place) (one rest : Row) → next_is is_number one ≡ false → IsRead l 1 (b - 1) m one rest → IsRead l 1 b (1 + m) (sign (codes "-") at ∷ one) rest
negate_read l b m at one rest none r = record {
  expr = syntax.Negate at r.expr;
  spells = (one, refl, none, (let s = r.strong in omega (arith, s)), r.spells);
  strong = omega arith;
  deep = ap (λ x. 1 + x) r.deep;
  fits = λ h. let f = r.fits h in let d = r.deep in let some = deep r.expr in omega (arith, f, d, some);
}

pub cast_read : (l : Bool) (b m : ℕ) (at close : Place) (w : Word) (one rest : Row) → is_name w.text ≡ true → next_is follows_cast one ≡ true → IsRead l 1 (b - 1) m one rest
    → IsRead l 1 b (1 + m) (sign (codes "(") at ∷ word w.text w.at ∷ sign (codes ")") close ∷ one) rest
cast_read l b m at close w one rest is follows r = record {
  expr = syntax.Cast at w r.expr;
  spells = (word w.text w.at ∷ sign (codes ")") close ∷ one, sign (codes ")") close ∷ one, one, refl, (is, refl), (close, refl), follows, (let s = r.strong in omega (arith, s)), r.spells);
  strong = omega arith;
  deep = ap (λ x. 1 + x) r.deep;
  fits = λ h. let f = r.fits h in let d = r.deep in let some = deep r.expr in omega (arith, f, d, some);
}

pub unary_means : (l : Bool) (b : ℕ) (old : Row) (e : ℕ) (rest : Row) → Does l (unary_answer b (first old)) old e rest → IsRead l 1 b e old rest
unary_means l b old e rest h = on_does l (next (is_sign (codes "-")) (first old)) (Takes (nat_lt 0 b) (Minus b ∷ []) 0) _ old e rest
    (λ p k. moved (sign_front (codes "-") old k.behind k.token k.front p) (only_says l (Minus b) 0 k.behind e rest k.all k.token.at (λ f. ltb-true 0 b (k.within_is f))))
    (λ p h. on_does l (next (is_sign (codes "!")) (first old)) (Takes (nat_lt 1 b) (Unary (b - 1) ∷ Deeper ∷ []) 0) _ old e rest
    (λ p k. let s = only_says l Deeper k.all.1 k.all.0 e rest k.all.3 in
    put s.0 s.1 (not_read l b k.all.1 k.token.at old k.behind k.all.0 (sign_front (codes "!") old k.behind k.token k.front p) k.all.2))
    (λ p h. on_does l (next (is_sign (codes "(")) (first old)) (Takes (nat_lt 1 b) (Opened b ∷ []) 0) (and_then (primary_answer b (first old)) (Calls b ∷ [])) old e rest
    (λ p k. moved (sign_front (codes "(") old k.behind k.token k.front p) (only_says l (Opened b) 0 k.behind e rest k.all k.token.at))
    (λ p h. let r = then_does l (primary_answer b (first old)) (Calls b ∷ []) old e rest h in
    weaken 0 1 (omega arith) (only_says l (Calls b) r.1 r.0 e rest r.3 old (primary_means l b old r.1 r.0 r.2).0)) h) h) h

negative_read : (l : Bool) (b : ℕ) (at : Place) (t : PlacedToken) (old rest : Row) → (l ≡ true → 1 ≤ b) → is_number_within 2147483648 t ≡ true → old ≡ t ∷ rest
    → IsRead l 0 b 1 (sign (codes "-") at ∷ old) rest
negative_read l b at t old rest some p front = let n = number_of 2147483648 t p in record {
  expr = syntax.Number at (neg_ℤ (pos n.value));
  spells = inr (n.value, t.at, n.small, refl, ap (λ r. sign (codes "-") at ∷ r) (front ∙ ap (λ x. x ∷ rest) n.is));
  strong = omega arith;
  deep = refl;
  fits = some;
}

pub minus_means : (l : Bool) (b : ℕ) (old : Row) (e : ℕ) (rest : Row) (at : Place) → (l ≡ true → 1 ≤ b)
    → Does l (minus_answer b (first old)) old e rest → IsRead l 1 b e (sign (codes "-") at ∷ old) rest
minus_means l b old e rest at some h = on_does l (next is_number (first old)) (expects (is_number_within 2147483648) (Takes true (Calls b ∷ []) 1) (first old))
    (and_then (unary_answer (b - 1) (first old)) (Deeper ∷ [])) old e rest
    (λ p h. on_does l (next (is_number_within 2147483648) (first old)) (Takes true (Calls b ∷ []) 1) Refuses old e rest
    (λ q k. weaken 0 1 (omega arith) (only_says l (Calls b) 1 k.behind e rest k.all (sign (codes "-") at ∷ old)
    (negative_read l b at k.token old k.behind some (front_passes (is_number_within 2147483648) old k.behind k.token k.front q) k.front))) (λ q k. absurd k) h)
    (λ p h. let r = then_does l (unary_answer (b - 1) (first old)) (Deeper ∷ []) old e rest h in
    let s = only_says l Deeper r.1 r.0 e rest r.3 in
    put s.0 s.1 (negate_read l b r.1 at old r.0 (next_first is_number old ∙ p) (unary_means l (b - 1) old r.1 r.0 r.2))) h

-- ---- operators

operation_read : (l : Bool) (r b m n : ℕ) (o : syntax.Operator) (between : Place) (start old right rest : Row) → operator_level o + suc r ≡ 7 → (l ≡ true → suc m ≤ b)
    → old ≡ sign (operator_text o) between ∷ right
    → IsRead l (2 + r) b m start old → IsRead l (1 + r) (b - 1) n right rest → IsRead l (2 + r) b (1 + max m n) start rest
operation_read l r b m n o between start old right rest at some e x y = record {
  expr = syntax.Binary (place x.expr) o between x.expr y.expr;
  spells = (old, right, refl, (let s = x.strong in omega (arith, at, s)), (let s = y.strong in omega (arith, at, s)), x.spells, e, y.spells);
  strong = omega (arith, at);
  deep = (λ i. 1 + max (x.deep i) (y.deep i));
  fits = λ h. let f = y.fits h in let g = some h in omega (arith, f, g);
}

instance_read : (l : Bool) (b m : ℕ) (behind : Place) (w : Word) (start old named rest : Row) → (l ≡ true → suc m ≤ b) → old ≡ word (codes "instanceof") behind ∷ named
    → grammar.Name w named rest → IsRead l 4 b m start old → IsRead l 4 b (1 + m) start rest
instance_read l b m behind w start old named rest some e n x = record {
  expr = syntax.InstanceOf (place x.expr) x.expr behind w;
  spells = (old, named, refl, (let s = x.strong in omega (arith, s)), x.spells, e, n);
  strong = omega arith;
  deep = ap (λ x. 1 + x) x.deep;
  fits = λ h. let g = some h in omega (arith, g);
}

instance_means : (l : Bool) (r b d : ℕ) (old : Row) (e : ℕ) (rest : Row) (at : Place) (behind start : Row) → r ≡ 2 → (l ≡ true → suc d ≤ b) → old ≡ word (codes "instanceof") at ∷ behind
    → AllSay l (Name ∷ Counts (1 + d) ∷ Links r b ∷ []) 0 behind e rest → IsRead l (2 + r) b d start old → IsRead l (2 + r) b e start rest
instance_means l r b d old e rest at behind start two some front (mid, m, (w, n, e1), (more, k, (e2, s), tail)) x =
    only_says l (Links r b) k more e rest tail start
    (put e2 s (subst (λ (q : ℕ). IsRead l (2 + q) b (1 + d) start mid) (sym two) (instance_read l b d at w start old
    behind mid some front n (subst (λ (q : ℕ). IsRead l (2 + q) b d start old) two x))))

operation_means : (l : Bool) (r b d : ℕ) (old : Row) (e : ℕ) (rest : Row) (o : syntax.Operator) (at : Place) (behind start : Row) → operator_level o + suc r ≡ 7 → (l ≡ true → suc d ≤ b)
    → old ≡ sign (operator_text o) at ∷ behind
    → AllSay l (Binary r (b - 1) ∷ Join d ∷ Links r b ∷ []) 0 behind e rest → IsRead l (2 + r) b d start old → IsRead l (2 + r) b e start rest
operation_means l r b d old e rest o at behind start level some front (mid, m, y, (more, k, (e2, s), tail)) x =
    only_says l (Links r b) k more e rest tail start (put e2 s (operation_read l r b d m o at start old behind mid level some front x y))

links_at : (l : Bool) (r b d : ℕ) (t : PlacedToken) (ts : Row) (e : ℕ) (rest : Row) → Does l (links_answer r b d (Some t)) (t ∷ ts) e rest → (start : Row)
    → IsRead l (2 + r) b d start (t ∷ ts) → IsRead l (2 + r) b e start rest
links_at l r b d t ts e rest h start x = on_does l (link_rank t == suc r) (link_answer r b d t) (Skips d) (t ∷ ts) e rest
    (λ p h. on_does l (is_word_kind t.kind) (Takes (nat_lt d b) (Name ∷ Counts (1 + d) ∷ Links r b ∷ []) 0) (Takes (nat_lt d b) (Binary r (b - 1) ∷ Join d ∷ Links r b ∷ []) 0) (t ∷ ts) e rest
    (λ q k. let w = word_link t r q (eqb-true (link_rank t) (suc r) p) in
    instance_means l r b d (t ∷ ts) e rest t.at k.behind start w.1 (λ f. ltb-true d b (k.within_is f)) (λ i. w.0 i ∷ first_tail t k.token ts k.behind k.front i) k.all x)
    (λ q k. let o = sign_link t r q (eqb-true (link_rank t) (suc r) p) in
    operation_means l r b d (t ∷ ts) e rest o.operator t.at k.behind start o.level (λ f. ltb-true d b (k.within_is f)) (λ i. o.is i ∷ first_tail t k.token ts k.behind k.front i) k.all x) h)
    (λ p h. put h.0 h.1 x) h

pub links_mean : (l : Bool) (r b d : ℕ) (old : Row) (e : ℕ) (rest : Row) → Does l (links_answer r b d (first old)) old e rest → (start : Row) → IsRead l (2 + r) b d start old
    → IsRead l (2 + r) b e start rest
links_mean l r b d [] e rest h start x = put h.0 h.1 x
links_mean l r b d (t ∷ ts) e rest h start x = links_at l r b d t ts e rest h start x

pub binary_means : (l : Bool) (rank b : ℕ) (old : Row) (e : ℕ) (rest : Row) → Does l (binary_answer rank b (first old)) old e rest → IsRead l (1 + rank) b e old rest
binary_means l zero b old e rest h = unary_means l b old e rest h
binary_means l (suc rank) b old e rest h =
    let r = then_does l (binary_answer rank b (first old)) (Links rank b ∷ []) old e rest h in
    let x = only_says l (Links rank b) r.1 r.0 e rest r.3 old (weaken (1 + rank) (2 + rank) (omega arith) (binary_means l rank b old r.1 r.0 r.2)) in
    weaken (2 + rank) (1 + suc rank) (omega arith) x

-- ---- choices

other_of : (l : Bool) (b m d : ℕ) (behind old : Row) (e : ℕ) (rest : Row) (at : Place) → old ≡ sign (codes ":") at ∷ behind
    → AllSay l (Expression (b - 1) ∷ Deepest d ∷ Join m ∷ []) 0 behind e rest → IsOther l b m d e old rest
other_of l b m d behind old e rest at front (mid, n, x, (more, k, (e1, s1), tail)) =
    let s = only_says l (Join m) k more e rest tail in
    record { other = behind; colon = (at, front); depth_of = n; read = put refl (s.1 ∙ s1) x; deep = s.0 ∙ ap (λ y. 1 + max m y) e1 }

pub otherwise_means : (l : Bool) (b m d : ℕ) (old : Row) (e : ℕ) (rest : Row)
    → Does l (expects (is_sign (codes ":")) (Takes true (Expression (b - 1) ∷ Deepest d ∷ Join m ∷ []) 0) (first old)) old e rest → IsOther l b m d e old rest
otherwise_means l b m d old e rest h = on_does l (next (is_sign (codes ":")) (first old)) (Takes true (Expression (b - 1) ∷ Deepest d ∷ Join m ∷ []) 0) Refuses old e rest
    (λ p k. other_of l b m d k.behind old e rest k.token.at (sign_front (codes ":") old k.behind k.token k.front p) k.all) (λ p k. absurd k) h

choice_read : (l : Bool) (b d m : ℕ) (behind : Place) (start old chosen colon : Row) (e : ℕ) (rest : Row) → (l ≡ true → suc d ≤ b) → old ≡ sign (codes "?") behind ∷ chosen
    → IsRead l 7 b d start old → IsRead l 8 (b - 1) m chosen colon → IsOther l b d m e colon rest → IsRead l 8 b e start rest
choice_read l b d m behind start old chosen colon e rest some k c x y = record {
  expr = syntax.Choose (place c.expr) c.expr behind x.expr y.read.expr;
  spells = (old, chosen, colon, y.other, refl, (let s = c.strong in omega (arith, s)), c.spells, k, x.spells, y.colon, y.read.spells);
  strong = omega arith;
  deep = y.deep ∙ (λ i. 1 + max (c.deep i) (max (x.deep i) (y.read.deep i)));
  fits = λ h. let f = x.fits h in let g = y.read.fits h in let z = some h in let s = y.deep in omega (arith, f, g, z, s);
}

pub choice_means : (l : Bool) (b d : ℕ) (old : Row) (e : ℕ) (rest : Row) → Does l (choice_answer b d (first old)) old e rest → (start : Row) → IsRead l 7 b d start old → IsRead l 8 b e start rest
choice_means l b d old e rest h start c = on_does l (next (is_sign (codes "?")) (first old)) (Takes (nat_lt d b) (Expression (b - 1) ∷ Otherwise b d ∷ []) 0) (Skips d) old e rest
    (λ p k. choice_read l b d k.all.1 k.token.at start old k.behind k.all.0 e rest (λ f. ltb-true d b (k.within_is f)) (sign_front (codes "?") old k.behind k.token k.front p)
    c k.all.2 (only_says l (Otherwise b d) k.all.1 k.all.0 e rest k.all.3))
    (λ p h. weaken 7 8 (omega arith) (put h.0 h.1 c)) h

pub expression_means : (l : Bool) (b : ℕ) (old : Row) (e : ℕ) (rest : Row) → Does l (expression_answer b (first old)) old e rest → IsRead l 8 b e old rest
expression_means l b old e rest h =
    let r = then_does l (binary_answer 6 b (first old)) (Choice b ∷ []) old e rest h in
    only_says l (Choice b) r.1 r.0 e rest r.3 old (binary_means l 6 b old r.1 r.0 r.2)
