-- The rows of the table for calls, arguments and parentheses have the sense of their wants.
use Rattle.std.proofs.Common.{◌≡◌, ℕ, zero, suc, ◌+◌, ◌-◌, ◌≤◌, List, [], ◌∷◌, ◌++◌, Bool, true, false, max, Some, refl, sym, ap, subst, ◌∙◌, append_assoc, arith}
use Rattle.std.specs.Prelude.{◌&&◌, nat_lt}
use Rattle.std.specs.Str.{bytes_eq}
use Rattle.std.proofs.lemmas.Bool.{ltb-true}
use lib.Chars.{codes}
use Rattle.at_model.specs.Names.{is_name}
use Rattle.at_model.proofs.Options.{and_off}
use Rattle.at_text.specs.Reading.{first}
use Rattle.at_text.specs.Symbols.{PlacedToken}
use Rattle.at_text.specs.declared.place.Place.{Place}
use Rattle.at_jrag.specs.Syntax as syntax
use Rattle.at_jrag.specs.Syntax.{Word, place}
use Rattle.at_text.specs.Rows.{Row, sign, word, is_sign, is_word, is_name_token, next_is}
use Rattle.at_jrag.specs.Grammar.{follows_cast, Sign, deepest}
use Rattle.at_text.specs.Machine.{Answer, Takes, Skips, Refuses, LeavesOut, and_then}
use Rattle.at_jrag.specs.Wants.{Want, Expression, Links, Choice, Enclosed, Parenthesized, Calls, Called, Arguments, FirstArgument, MoreArguments, Deeper, Join, Deepest, Mark}
use Rattle.at_jrag.specs.Table.{next, or_else, is_get_child, expects, unary_answer, expression_answer, links_answer, choice_answer, calls_answer, called_answer, named_answer, first_argument_answer, more_arguments_answer, links_from, tails_answer, enclosed_rest, enclosed_answer, opened_answer, parenthesized_answer}
use Rattle.at_jrag.proofs.of_expressions.ExpressionSteps.{name_is}
use Rattle.at_jrag.proofs.of_expressions.ExpressionsTaken.{next_first}
use Rattle.at_jrag.proofs.SoundTokens.{sign_front}
use Rattle.at_jrag.proofs.SoundSays.{IsRead, HasArguments, HasMore, IsApplied, IsCalled, IsFoldBody, AllSay, Does, only_says, then_does, else_does, on_does}
use Rattle.at_jrag.proofs.of_expressions.SoundExpressions.{put, moved, weaken, first_tail, sign_alone, paren_read, cast_read, unary_means, links_mean, choice_means, expression_means}

-- ---- calls

call_of_read : (l : Bool) (b d m : ℕ) (start old dot rest : Row) → (l ≡ true → suc d ≤ b) → Sign (codes ".") old dot → IsRead l 0 b d start old → IsCalled l (b - 1) m dot rest
    → IsRead l 0 b (1 + max d m) start rest
call_of_read l b d m start old dot rest some s x c = record {
  expr = syntax.CallOf (place x.expr) x.expr c.name.text c.read.read.items;
  spells = (old, dot, c.paren, c.read.list, c.name.at, refl, (let y = x.strong in omega (arith, y)), x.spells, s, c.named, (c.read.paren, c.read.read.opens), c.read.read.spells);
  strong = omega arith;
  deep = λ i. 1 + max (x.deep i) (c.read.read.deep i);
  fits = λ h. let f = c.read.read.fits h in let g = some h in omega (arith, f, g);
}

call_means : (l : Bool) (b d : ℕ) (start old dot : Row) (e : ℕ) (rest : Row) → (l ≡ true → suc d ≤ b) → Sign (codes ".") old dot
    → AllSay l (Called (b - 1) ∷ Join d ∷ Calls b ∷ []) 0 dot e rest → IsRead l 0 b d start old → IsRead l 0 b e start rest
call_means l b d start old dot e rest some s (mid, m, c, (more, k, (e1, s1), tail)) x = only_says l (Calls b) k more e rest tail start (put e1 s1 (call_of_read l b d m start old dot mid some s x c))

pub calls_mean : (l : Bool) (b d : ℕ) (old : Row) (e : ℕ) (rest : Row) → Does l (calls_answer b d (first old)) old e rest → (start : Row) → IsRead l 0 b d start old → IsRead l 0 b e start rest
calls_mean l b d old e rest h start x = on_does l (next (is_sign (codes ".")) (first old)) (Takes (nat_lt d b) (Called (b - 1) ∷ Join d ∷ Calls b ∷ []) 0) (Skips d) old e rest
    (λ p k. call_means l b d start old k.behind e rest (λ f. ltb-true d b (k.within_is f)) (k.token.at, sign_front (codes ".") old k.behind k.token k.front p) k.all x)
    (λ p h. put h.0 h.1 x) h

called_at : (l : Bool) (b : ℕ) (t : PlacedToken) (ts : Row) (e : ℕ) (rest : Row) → Does l (called_answer b (Some t)) (t ∷ ts) e rest → IsCalled l b e (t ∷ ts) rest
called_at l b t ts e rest h = on_does l (is_name_token t) (Takes true (Arguments (is_get_child t) b ∷ []) 0) Refuses (t ∷ ts) e rest
    (λ p k. let n = name_is t p in record {
      name = record { text = t.text; at = t.at };
      paren = k.behind;
      named = (n.1, (λ i. n.0 i ∷ first_tail t k.token ts k.behind k.front i));
      read = only_says l (Arguments (is_get_child t) b) 0 k.behind e rest k.all;
    }) (λ p k. absurd k) h

pub called_means : (l : Bool) (b : ℕ) (old : Row) (e : ℕ) (rest : Row) → Does l (called_answer b (first old)) old e rest → IsCalled l b e old rest
called_means l b [] e rest h = absurd h
called_means l b (t ∷ ts) e rest h = called_at l b t ts e rest h

pub arguments_mean : (l g : Bool) (b : ℕ) (old : Row) (e : ℕ) (rest : Row)
    → Does l (expects (is_sign (codes "(")) (Takes true (FirstArgument g b ∷ []) 0) (first old)) old e rest → IsApplied l g b e old rest
arguments_mean l g b old e rest h = on_does l (next (is_sign (codes "(")) (first old)) (Takes true (FirstArgument g b ∷ []) 0) Refuses old e rest
    (λ p k. record { list = k.behind; paren = (k.token.at, sign_front (codes "(") old k.behind k.token k.front p); read = only_says l (FirstArgument g b) 0 k.behind e rest k.all }) (λ p k. absurd k) h

-- ---- arguments

first_of : (l g : Bool) (b m : ℕ) (old mid : Row) (e : ℕ) (rest : Row) → g && next_is (is_word (codes "int")) old ≡ false → IsRead l 8 b m old mid → HasMore l b m e mid rest
    → HasArguments l g b e old rest
first_of l g b m old mid e rest none x y = record {
  items = syntax.expr x.expr y.items;
  spells = (mid, x.spells, y.spells);
  opens = none;
  deep = y.deep ∙ ap (λ k. max k (deepest y.items)) x.deep;
  fits = λ h. let f = x.fits h in let g = y.fits h in let s = y.deep in omega (arith, f, g, s);
}

pub first_argument_means : (l g : Bool) (b : ℕ) (old : Row) (e : ℕ) (rest : Row) → Does l (first_argument_answer g b (first old)) old e rest → HasArguments l g b e old rest
first_argument_means l g b old e rest h = on_does l (next (is_sign (codes ")")) (first old)) (Takes true [] 0) _ old e rest
    (λ p k. record {
      items = syntax.no_exprs;
      spells = sign_alone l (codes ")") 0 old e rest p k;
      opens = and_off g _ (next_first (is_word (codes "int")) old ∙ ap (λ r. next (is_word (codes "int")) (first r)) (sign_front (codes ")") old k.behind k.token k.front p));
      deep = k.all.0;
      fits = λ f. let z = k.all.0 in omega (arith, z);
    })
    (λ p h. on_does l (g && next (is_word (codes "int")) (first old)) LeavesOut (and_then (expression_answer b (first old)) (MoreArguments b ∷ [])) old e rest (λ q k. absurd k)
    (λ q h. let r = then_does l (expression_answer b (first old)) (MoreArguments b ∷ []) old e rest h in
    first_of l g b r.1 old r.0 e rest (ap (λ x. g && x) (next_first (is_word (codes "int")) old) ∙ q) (expression_means l b old r.1 r.0 r.2) (only_says l (MoreArguments b) r.1 r.0 e rest r.3)) h) h

more_of : (l : Bool) (b d m : ℕ) (old one mid : Row) (e : ℕ) (rest : Row) → Sign (codes ",") old one → IsRead l 8 b m one mid → HasMore l b (max d m) e mid rest → HasMore l b d e old rest
more_of l b d m old one mid e rest c x y = record {
  items = syntax.expr x.expr y.items;
  spells = (one, mid, c, x.spells, y.spells);
  deep = let s = y.deep in let t = x.deep in omega (arith, s, t);
  fits = λ h. let f = x.fits h in let g = y.fits h in let t = x.deep in omega (arith, f, g, t);
}

more_all : (l : Bool) (b d : ℕ) (old one : Row) (e : ℕ) (rest : Row) → Sign (codes ",") old one → AllSay l (Expression b ∷ Deepest d ∷ MoreArguments b ∷ []) 0 one e rest → HasMore l b d e old rest
more_all l b d old one e rest c (mid, m, x, (more, k, (e1, s1), tail)) =
    more_of l b d m old one mid e rest c x (subst (λ (r : Row). HasMore l b (max d m) e r rest) s1 (subst (λ (q : ℕ). HasMore l b q e more rest) e1 (only_says l (MoreArguments b) k more e rest tail)))

pub more_arguments_mean : (l : Bool) (b d : ℕ) (old : Row) (e : ℕ) (rest : Row) → Does l (more_arguments_answer b d (first old)) old e rest → HasMore l b d e old rest
more_arguments_mean l b d old e rest h = on_does l (next (is_sign (codes ")")) (first old)) (Takes true [] d) _ old e rest
    (λ p k. record {
      items = syntax.no_exprs;
      spells = sign_alone l (codes ")") d old e rest p k;
      deep = let z = k.all.0 in omega (arith, z);
      fits = λ f. omega arith;
    })
    (λ p h. on_does l (next (is_sign (codes ",")) (first old)) (Takes true (Expression b ∷ Deepest d ∷ MoreArguments b ∷ []) 0) Refuses old e rest
    (λ q k. more_all l b d old k.behind e rest (k.token.at, sign_front (codes ",") old k.behind k.token k.front q) k.all) (λ q k. absurd k) h) h

call_read : (l : Bool) (b m : ℕ) (w : Word) (old list rest : Row) → is_name w.text ≡ true → (l ≡ true → 1 ≤ b)
    → Sign (codes "(") old list → HasArguments l (bytes_eq w.text (codes "getChild")) (b - 1) m list rest → IsRead l 0 b (1 + m) (word w.text w.at ∷ old) rest
call_read l b m w old list rest is some p a = record {
  expr = syntax.Call w.at w.text a.items;
  spells = (old, list, (is, refl), (p, a.opens), a.spells);
  strong = omega arith;
  deep = ap (λ x. 1 + x) a.deep;
  fits = λ h. let f = a.fits h in let g = some h in omega (arith, f, g);
}

name_read : (l : Bool) (b : ℕ) (w : Word) (old : Row) → is_name w.text ≡ true → (l ≡ true → 1 ≤ b) → IsRead l 0 b 1 (word w.text w.at ∷ old) old
name_read l b w old is some = record { expr = syntax.Name w.at w.text; spells = (is, refl); strong = omega arith; deep = refl; fits = some }

pub named_means : (l g : Bool) (b : ℕ) (old : Row) (e : ℕ) (rest : Row) → Does l (named_answer g b (first old)) old e rest → (w : Word) → is_name w.text ≡ true
    → g ≡ bytes_eq w.text (codes "getChild") → (l ≡ true → 1 ≤ b) → IsRead l 0 b e (word w.text w.at ∷ old) rest
named_means l g b old e rest h w is same some = on_does l (next (is_sign (codes "(")) (first old)) (Takes true (FirstArgument g (b - 1) ∷ Deeper ∷ []) 0) (Skips 1) old e rest
    (λ p k. let s = only_says l Deeper k.all.1 k.all.0 e rest k.all.3 in
    put s.0 s.1 (call_read l b k.all.1 w old k.behind k.all.0 is some (k.token.at, sign_front (codes "(") old k.behind k.token k.front p)
    (subst (λ (x : Bool). HasArguments l x (b - 1) k.all.1 k.behind k.all.0) same k.all.2)))
    (λ p h. put h.0 h.1 (name_read l b w old is some)) h

fold_body_of : (l : Bool) (b d : ℕ) (old one : Row) (e : ℕ) (rest : Row) → Sign (codes "{") old one → AllSay l (Expression (b - 1) ∷ Mark (codes "}") ∷ Join d ∷ []) 0 one e rest
    → IsFoldBody l b d e old rest
fold_body_of l b d old one e rest s (end, m, x, (more, k, (c, e1), tail)) =
    let j = only_says l (Join d) k more e rest tail in
    record { one = one; brace = s; end = end; depth_of = m; read = x; close = (c.0, c.1 ∙ ap (λ r. sign (codes "}") c.0 ∷ r) (sym j.1)); deep = j.0 ∙ ap (λ y. 1 + max d y) e1 }

pub fold_body_means : (l : Bool) (b d : ℕ) (old : Row) (e : ℕ) (rest : Row)
    → Does l (expects (is_sign (codes "{")) (Takes true (Expression (b - 1) ∷ Mark (codes "}") ∷ Join d ∷ []) 0) (first old)) old e rest → IsFoldBody l b d e old rest
fold_body_means l b d old e rest h = on_does l (next (is_sign (codes "{")) (first old)) (Takes true (Expression (b - 1) ∷ Mark (codes "}") ∷ Join d ∷ []) 0) Refuses old e rest
    (λ p k. fold_body_of l b d old k.behind e rest (k.token.at, sign_front (codes "{") old k.behind k.token k.front p) k.all) (λ p k. absurd k) h

-- ---- a parenthesis in the place of a unary

-- what goes on behind a name alone within a parenthesis, by ranks
tails_say : (l : Bool) (rank b : ℕ) (us : List Want) (skipped : ℕ → Answer Want) (d : ℕ) (old : Row) (e : ℕ) (rest : Row) → ((x : ℕ) → Does l (skipped x) old e rest → AllSay l us x old e rest)
    → Does l (tails_answer rank b us skipped d (first old)) old e rest → AllSay l (links_from rank b ++ us) d old e rest
tails_say l zero b us skipped d old e rest g h = g d h
tails_say l (suc rank) b us skipped d old e rest g h =
    subst (λ (vs : List Want). AllSay l vs d old e rest) (sym (append_assoc (links_from rank b) (Links rank b ∷ []) us))
    (tails_say l rank b (Links rank b ∷ us) (λ x. or_else (links_answer rank b x (first old)) us skipped) d old e rest
    (λ x k. let r = else_does l (links_answer rank b x (first old)) us skipped old e rest g k in (r.0, r.1, links_mean l rank b x old r.1 r.0 r.2, r.3)) h)

abbrev behind_name : ℕ → List Want
behind_name b = Choice b ∷ Mark (codes ")") ∷ []

choice_say : (l : Bool) (b d : ℕ) (old : Row) (e : ℕ) (rest : Row)
    → Does l (or_else (choice_answer b d (first old)) (Mark (codes ")") ∷ []) (λ z. Refuses)) old e rest → AllSay l (behind_name b) d old e rest
choice_say l b d old e rest h =
    let r = else_does l (choice_answer b d (first old)) (Mark (codes ")") ∷ []) (λ z. Refuses) old e rest (λ x k. absurd k) h in
    (r.0, r.1, choice_means l b d old r.1 r.0 r.2, r.3)

enclosed_say : (l g : Bool) (b d : ℕ) (old : Row) (e : ℕ) (rest : Row) → Does l (enclosed_rest g b d (first old)) old e rest
    → (mid : Row) × (m : ℕ) × Does l (named_answer g b (first old)) old m mid × AllSay l (Calls b ∷ (links_from 6 b ++ behind_name b)) m mid e rest
enclosed_say l g b d old e rest h =
    else_does l (named_answer g b (first old)) (Calls b ∷ (links_from 6 b ++ behind_name b)) _ old e rest
    (λ x k. let r = else_does l (calls_answer b x (first old)) (links_from 6 b ++ behind_name b) _ old e rest
    (λ y t. tails_say l 6 b (behind_name b) (λ z. or_else (choice_answer b z (first old)) (Mark (codes ")") ∷ []) (λ z. Refuses)) y old e rest (λ z c. choice_say l b z old e rest c) t) k in
    (r.0, r.1, calls_mean l b x old r.1 r.0 r.2, r.3)) h

-- an expression and the parenthesis that ends it
record IsEnclosed (l : Bool) (b e : ℕ) (start rest : Row) : Type 0 where
  pub close : Row
  pub read : IsRead l 8 b e start close
  pub end : Sign (codes ")") close rest

climb_say : (l : Bool) (b m : ℕ) (start mid : Row) (e : ℕ) (rest : Row) → IsRead l 0 b m start mid → AllSay l (Calls b ∷ (links_from 6 b ++ behind_name b)) m mid e rest → IsEnclosed l b e start rest
climb_say l b m start mid e rest x (r, k, c, (r0, k0, l0, (r1, k1, l1, (r2, k2, l2, (r3, k3, l3, (r4, k4, l4, (r5, k5, l5, (close, k6, q, tail)))))))) =
    let x0 = l0 start (weaken 0 2 (omega arith) (c start x)) in
    let x1 = l1 start (weaken 2 3 (omega arith) x0) in
    let x2 = l2 start (weaken 3 4 (omega arith) x1) in
    let x3 = l3 start (weaken 4 5 (omega arith) x2) in
    let x4 = l4 start (weaken 5 6 (omega arith) x3) in
    let x5 = l5 start (weaken 6 7 (omega arith) x4) in
    let s = only_says l (Mark (codes ")")) k6 close e rest tail in
    record { close = close; read = put s.1 refl (q start x5); end = s.0 }

enclosed_read : (l : Bool) (b d : ℕ) (g : Bool) (old : Row) (e : ℕ) (rest : Row) (w : Word) → is_name w.text ≡ true → g ≡ bytes_eq w.text (codes "getChild") → (l ≡ true → 1 ≤ b)
    → Does l (enclosed_rest g b d (first old)) old e rest → IsEnclosed l b e (word w.text w.at ∷ old) rest
enclosed_read l b d g old e rest w is same some h =
    let r = enclosed_say l g b d old e rest h in
    climb_say l b r.1 (word w.text w.at ∷ old) r.0 e rest (named_means l g b old r.1 r.0 r.2 w is same some) r.3

-- a parenthesis that has ended, and calls behind it
paren_calls : (l : Bool) (b m : ℕ) (at : Place) (one mid : Row) (e : ℕ) (rest : Row) → IsEnclosed l (b - 1) m one mid → AllSay l (Deeper ∷ Calls b ∷ []) m mid e rest
    → IsRead l 1 b e (sign (codes "(") at ∷ one) rest
paren_calls l b m at one mid e rest x (more, k, (e1, s1), tail) =
    weaken 0 1 (omega arith) (only_says l (Calls b) k more e rest tail (sign (codes "(") at ∷ one) (put e1 s1 (paren_read l b m at (sign (codes "(") at ∷ one) one x.close mid refl x.read x.end)))

pub enclosed_means : (l g : Bool) (b d : ℕ) (old : Row) (e : ℕ) (rest : Row) → Does l (enclosed_answer g b d (first old)) old e rest
    → (at : Place) (w : Word) → is_name w.text ≡ true → g ≡ bytes_eq w.text (codes "getChild") → (l ≡ true → 2 ≤ b) → IsRead l 1 b e (sign (codes "(") at ∷ word w.text w.at ∷ old) rest
enclosed_means l g b d old e rest h at w is same some = on_does l (next (is_sign (codes ")")) (first old)) (Takes true (Parenthesized b ∷ []) 2)
    (and_then (enclosed_rest g (b - 1) d (first old)) (Deeper ∷ Calls b ∷ [])) old e rest
    (λ p k. moved (ap (λ r. sign (codes "(") at ∷ word w.text w.at ∷ r) (sign_front (codes ")") old k.behind k.token k.front p))
    (only_says l (Parenthesized b) 2 k.behind e rest k.all at w k.token.at is refl some))
    (λ p h. let r = then_does l (enclosed_rest g (b - 1) d (first old)) (Deeper ∷ Calls b ∷ []) old e rest h in
    paren_calls l b r.1 at (word w.text w.at ∷ old) r.0 e rest (enclosed_read l (b - 1) d g old r.1 r.0 w is same (λ f. let y = some f in omega (arith, y)) r.2) r.3) h

name_alone : (l : Bool) (b d : ℕ) (at close : Place) (w : Word) (old : Row) → is_name w.text ≡ true → d ≡ 2 → (l ≡ true → 2 ≤ b)
    → IsRead l 0 b d (sign (codes "(") at ∷ word w.text w.at ∷ sign (codes ")") close ∷ old) old
name_alone l b d at close w old is two some = put two refl (paren_read l b 1 at _ (word w.text w.at ∷ sign (codes ")") close ∷ old) (sign (codes ")") close ∷ old) old refl
    (weaken 0 8 (omega arith) (name_read l (b - 1) w (sign (codes ")") close ∷ old) is (λ f. let y = some f in omega (arith, y)))) (close, refl))

pub parenthesized_means : (l : Bool) (b d : ℕ) (old : Row) (e : ℕ) (rest : Row) → Does l (parenthesized_answer b d (first old)) old e rest
    → (at : Place) (w : Word) (close : Place) → is_name w.text ≡ true → d ≡ 2 → (l ≡ true → 2 ≤ b) → IsRead l 1 b e (sign (codes "(") at ∷ word w.text w.at ∷ sign (codes ")") close ∷ old) rest
parenthesized_means l b d old e rest h at w close is two some = on_does l (next follows_cast (first old)) (and_then (unary_answer (b - 1) (first old)) (Deeper ∷ []))
    (calls_answer b d (first old)) old e rest
    (λ p h. let r = then_does l (unary_answer (b - 1) (first old)) (Deeper ∷ []) old e rest h in
    let s = only_says l Deeper r.1 r.0 e rest r.3 in
    put s.0 s.1 (cast_read l b r.1 at close w old r.0 is (next_first follows_cast old ∙ p) (unary_means l (b - 1) old r.1 r.0 r.2)))
    (λ p h. weaken 0 1 (omega arith) (calls_mean l b d old e rest h _ (name_alone l b d at close w old is two some))) h

opened_at : (l : Bool) (b : ℕ) (t : PlacedToken) (ts : Row) (e : ℕ) (rest : Row) → Does l (opened_answer b (Some t)) (t ∷ ts) e rest → (at : Place) → IsRead l 1 b e (sign (codes "(") at ∷ t ∷ ts) rest
opened_at l b t ts e rest h at = on_does l (is_name_token t) (Takes (nat_lt 0 (b - 1)) (Enclosed (is_get_child t) b ∷ []) 0)
    (and_then (expression_answer (b - 1) (Some t)) (Mark (codes ")") ∷ Deeper ∷ Calls b ∷ [])) (t ∷ ts) e rest
    (λ p k. let n = name_is t p in
    moved (λ i. sign (codes "(") at ∷ n.0 i ∷ first_tail t k.token ts k.behind k.front i)
    (only_says l (Enclosed (is_get_child t) b) 0 k.behind e rest k.all at (record { text = t.text; at = t.at }) n.1 refl (λ f. let y = ltb-true 0 (b - 1) (k.within_is f) in omega (arith, y))))
    (λ p h. let r = then_does l (expression_answer (b - 1) (Some t)) (Mark (codes ")") ∷ Deeper ∷ Calls b ∷ []) (t ∷ ts) e rest h in
    paren_calls l b r.3.1 at (t ∷ ts) r.3.0 e rest (record { close = r.0; read = put r.3.2.1 refl (expression_means l (b - 1) (t ∷ ts) r.1 r.0 r.2); end = r.3.2.0 }) r.3.3) h

pub opened_means : (l : Bool) (b : ℕ) (old : Row) (e : ℕ) (rest : Row) → Does l (opened_answer b (first old)) old e rest → (at : Place) → IsRead l 1 b e (sign (codes "(") at ∷ old) rest
opened_means l b [] e rest h at = absurd h
opened_means l b (t ∷ ts) e rest h at = opened_at l b t ts e rest h at
