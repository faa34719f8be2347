-- The rows of the table for declarations have the sense of their wants.
use Rattle.std.proofs.Common.{◌≡◌, ℕ, ◌≤◌, List, [], ◌∷◌, Bool, true, false, cond, Option, Some, None, refl, sym, ap, subst, ◌∙◌, arith, inl, inr}
use Rattle.std.specs.Prelude.{◌&&◌, ◌||◌, ◌==◌, ◌⊎◌}
use Rattle.std.specs.List.{AllByRecursion}
use Rattle.std.proofs.lemmas.Bool.{eqb-true}
use lib.Chars.{codes}
use Rattle.at_text.specs.Reading.{first}
use Rattle.at_text.specs.Symbols.{PlacedToken, is_word_kind}
use Rattle.at_text.specs.declared.place.Place.{Place}
use Rattle.at_jrag.specs.declared.Forms.{Forms}
use Rattle.at_jrag.specs.Syntax as syntax
use Rattle.at_jrag.specs.Syntax.{Word, KindWord, Ending, Body, Decl, Aspect}
use Rattle.at_jrag.specs.Grammar as grammar
use Rattle.at_text.specs.Rows.{Row, sign, word, is_sign, is_word, is_name_token, next_is}
use Rattle.at_jrag.specs.Grammar.{truth_text, may_be_circular, begins_other, Circular, kind_text, IsKind, Sign, Keyword, KindOf, Listed, Signature, Owner, EndingOf, DeclOf, ending_depth, max_nesting, NestsWithin, IsWithin}
use Rattle.at_text.specs.Machine.{Takes, Skips, Refuses, LeavesOut}
use Rattle.at_jrag.specs.Wants as want
use Rattle.at_jrag.specs.Table.{next, on, expects, named, attribute_answer, circular_answer, start_answer, is_get_child, is_kind, no_keyword, declared, file_answer, decls_answer, not_nta_answer, lazy_answer, signed_answer, more_params_answer, params_answer, body_answer, ending_answer, defined_answer, alone}
use Rattle.at_jrag.proofs.of_expressions.ExpressionSteps.{name_is}
use Rattle.at_jrag.proofs.DeclarationRuns.{is_boolean}
use Rattle.at_jrag.proofs.SoundTokens.{or_case, front_passes, sign_front, word_is, word_front}
use Rattle.at_jrag.proofs.SoundSays.{IsRead, IsAttribute, HasParams, HasMoreParams, IsOpened, IsSigned, IsBody, IsDefined, AllSay, Does, only_says, on_does}
use Rattle.at_jrag.proofs.of_expressions.SoundExpressions.{first_tail, sign_alone, word_alone}
use Rattle.at_model.proofs.Options.{both, and_off}

-- ---- single tokens

return_at : (l : Bool) (t : PlacedToken) (ts : Row) (e : ℕ) (rest : Row) → Does l (alone (is_word (codes "return")) (Some t)) (t ∷ ts) e rest → Keyword (codes "return") (t ∷ ts) rest
return_at l t ts e rest h = on_does l (is_word (codes "return") t) (Takes true [] 0) LeavesOut (t ∷ ts) e rest (λ p k. word_alone l (codes "return") 0 (t ∷ ts) e rest p k) (λ p k. absurd k) h

pub return_means : (l : Bool) (old : Row) (e : ℕ) (rest : Row) → Does l (alone (is_word (codes "return")) (first old)) old e rest → Keyword (codes "return") old rest
return_means l [] e rest h = absurd h
return_means l (t ∷ ts) e rest h = return_at l t ts e rest h

close_at : (l : Bool) (t : PlacedToken) (ts : Row) (e : ℕ) (rest : Row) → Does l (alone (is_sign (codes "}")) (Some t)) (t ∷ ts) e rest → Sign (codes "}") (t ∷ ts) rest
close_at l t ts e rest h = on_does l (is_sign (codes "}") t) (Takes true [] 0) LeavesOut (t ∷ ts) e rest (λ p k. sign_alone l (codes "}") 0 (t ∷ ts) e rest p k) (λ p k. absurd k) h

pub close_means : (l : Bool) (old : Row) (e : ℕ) (rest : Row) → Does l (alone (is_sign (codes "}")) (first old)) old e rest → Sign (codes "}") old rest
close_means l [] e rest h = absurd h
close_means l (t ∷ ts) e rest h = close_at l t ts e rest h

-- ---- kinds

-- the kind that a token is
record IsKindToken (t : PlacedToken) : Type 0 where
  pub kind : syntax.Kind
  pub well : IsKind kind
  pub is : t ≡ word (kind_text kind) t.at

kind_of : (t : PlacedToken) → is_kind t ≡ true → IsKindToken t
kind_of t e = or_case (is_word (codes "int") t || is_word (codes "boolean") t || is_word (codes "String") t) (is_name_token t)
    (λ h. or_case (is_word (codes "int") t || is_word (codes "boolean") t) (is_word (codes "String") t)
    (λ h. or_case (is_word (codes "int") t) (is_word (codes "boolean") t)
    (λ h. record { kind = syntax.Int; well = tt; is = word_is (codes "int") t h })
    (λ h. record { kind = syntax.Bool'; well = tt; is = word_is (codes "boolean") t h }) h)
    (λ h. record { kind = syntax.Text; well = tt; is = word_is (codes "String") t h }) h)
    (λ h. let n = name_is t h in record { kind = syntax.Class t.text; well = n.1; is = n.0 }) e

kind_word : (t : PlacedToken) → IsKindToken t → (old behind : Row) → old ≡ t ∷ behind → (k : KindWord) × KindOf k old behind
kind_word t k old behind front = (record { kind = k.kind; at = t.at }, (k.well, front ∙ ap (λ x. x ∷ behind) k.is))

pub kind_means : (l : Bool) (old : Row) (e : ℕ) (rest : Row) → Does l (expects is_kind (Takes true [] 0) (first old)) old e rest → (k : KindWord) × KindOf k old rest
kind_means l old e rest h = on_does l (next is_kind (first old)) (Takes true [] 0) Refuses old e rest
    (λ p k. kind_word k.token (kind_of k.token (front_passes is_kind old k.behind k.token k.front p)) old rest (k.front ∙ ap (λ r. k.token ∷ r) (sym k.all.1))) (λ p k. absurd k) h

pub not_nta_means : (l : Bool) (old : Row) (e : ℕ) (rest : Row) → Does l (not_nta_answer (first old)) old e rest → rest ≡ old
not_nta_means l old e rest h = on_does l (next (is_word (codes "nta")) (first old)) LeavesOut (Skips 0) old e rest (λ p k. absurd k) (λ p k. k.1) h

-- ---- whether an attribute is circular

start_at : (l : Bool) (t : PlacedToken) (ts : Row) (e : ℕ) (rest : Row) → Does l (start_answer (Some t)) (t ∷ ts) e rest → (b : Bool) × Keyword (truth_text b) (t ∷ ts) rest
start_at l t ts e rest h = on_does l (is_word (codes "true") t) (Takes true [] 0) _ (t ∷ ts) e rest (λ p k. (true, word_alone l (codes "true") 0 (t ∷ ts) e rest p k))
    (λ p h. on_does l (is_word (codes "false") t) (Takes true [] 0) _ (t ∷ ts) e rest (λ q k. (false, word_alone l (codes "false") 0 (t ∷ ts) e rest q k))
    (λ q h. absurd (on_does l (begins_other t) LeavesOut Refuses (t ∷ ts) e rest (λ r k. k) (λ r k. k) h)) h) h

pub start_means : (l : Bool) (old : Row) (e : ℕ) (rest : Row) → Does l (start_answer (first old)) old e rest → (b : Bool) × Keyword (truth_text b) old rest
start_means l [] e rest h = absurd h
start_means l (t ∷ ts) e rest h = start_at l t ts e rest h

pub bracket_means : (l : Bool) (old : Row) (e : ℕ) (rest : Row) → Does l (expects (is_sign (codes "[")) (Takes true (want.Start ∷ []) 0) (first old)) old e rest
    → (b : Bool) × (value : Row) × Sign (codes "[") old value × Keyword (truth_text b) value rest
bracket_means l old e rest h = on_does l (next (is_sign (codes "[")) (first old)) (Takes true (want.Start ∷ []) 0) Refuses old e rest
    (λ p k. let s = only_says l want.Start 0 k.behind e rest k.all in (s.0, k.behind, (k.token.at, sign_front (codes "[") old k.behind k.token k.front p), s.1)) (λ p k. absurd k) h

none_again : (start : Option Bool) (old rest : Row) → Circular false start old rest → old ≡ rest
none_again None old rest h = h
none_again (Some b) old rest h = absurd (let n : false ≡ true = h.0 in cc)

circular_at : (l m : Bool) (at : Place) (old bracket : Row) (e : ℕ) (rest : Row) → m ≡ true → old ≡ word (codes "circular") at ∷ bracket
    → AllSay l (want.Bracket ∷ want.Mark (codes "]") ∷ want.Circular false ∷ []) 0 bracket e rest → (start : Option Bool) × Circular m start old rest
circular_at l m at old bracket e rest may front (close, d1, (b, value, s, k), (end, d2, (z, e2), tail)) =
    let again = only_says l (want.Circular false) d2 end e rest tail in
    (Some b, (may, bracket, (at, front), (value, close, s, k, subst (λ (r : Row). Sign (codes "]") close r) (none_again again.0 end rest again.1) z)))

pub circular_means : (l m : Bool) (old : Row) (e : ℕ) (rest : Row) → Does l (circular_answer m (first old)) old e rest → (start : Option Bool) × Circular m start old rest
circular_means l m old e rest h =
    let taken = Takes true (want.Bracket ∷ want.Mark (codes "]") ∷ want.Circular false ∷ []) 0 in
    on_does l (next (is_word (codes "circular")) (first old)) (cond m taken LeavesOut) (Skips 0) old e rest
    (λ p h. on_does l m taken LeavesOut old e rest (λ q k. circular_at l m k.token.at old k.behind e rest q (word_front (codes "circular") old k.behind k.token k.front p) k.all) (λ q k. absurd k) h)
    (λ p k. (None, sym k.1)) h

pub lazy_means : (l : Bool) (old : Row) (e : ℕ) (rest : Row) → Does l (lazy_answer (first old)) old e rest → (lazy : Option Place) × grammar.Lazy lazy old rest
lazy_means l old e rest h = on_does l (next (is_word (codes "lazy")) (first old)) (Takes true (want.NotNta ∷ []) 0) (not_nta_answer (first old)) old e rest
    (λ p k. (Some k.token.at, word_front (codes "lazy") old k.behind k.token k.front p ∙ ap (λ r. word (codes "lazy") k.token.at ∷ r) (sym (only_says l want.NotNta 0 k.behind e rest k.all))))
    (λ p k. (None, sym (not_nta_means l old e rest k))) h

-- ---- parameters

no_zero : (e : ℕ) → e ≡ 1 → e ≡ 0 → ⊥
no_zero e one none = omega (arith, one, none)

param_more : (k : KindWord) (w : Word) (old mid more : Row) (e : ℕ) (rest : Row) → KindOf k old mid → grammar.Name w mid more → HasMoreParams e more rest
    → (ps : syntax.Params) × Listed ps.items ps.end old rest
param_more k w old mid more e rest q n m = (record { items = record { kind = k; name = w } ∷ m.params.items; end = m.params.end }, (more, (mid, q, n), m.listed))

params_more : (l : Bool) (old one : Row) (e : ℕ) (rest : Row) → Sign (codes ",") old one → AllSay l (want.Kind ∷ want.Name ∷ want.MoreParams ∷ []) 0 one e rest → HasMoreParams e old rest × (e ≡ 1)
params_more l old one e rest c (mid, d1, (k, q), (more, d2, (w, n, e2), tail)) =
    let m = only_says l want.MoreParams d2 more e rest tail in (
      record {
        params = record { items = record { kind = k; name = w } ∷ m.0.params.items; end = m.0.params.end };
        listed = (one, more, c, (mid, q, n), m.0.listed);
        index = λ z. absurd (no_zero e m.1 z);
      },
      m.1,
    )

pub more_params_mean : (l : Bool) (d : ℕ) (old : Row) (e : ℕ) (rest : Row) → Does l (more_params_answer d (first old)) old e rest → HasMoreParams e old rest × ((e ≡ d) ⊎ (e ≡ 1))
more_params_mean l d old e rest h = on_does l (next (is_sign (codes ")")) (first old)) (Takes true [] d) _ old e rest
    (λ p k. let s = sign_alone l (codes ")") d old e rest p k in
    (record { params = record { items = []; end = s.0 }; listed = s.1; index = λ z. s }, inl k.all.0))
    (λ p h. on_does l (next (is_sign (codes ",")) (first old)) (Takes true (want.Kind ∷ want.Name ∷ want.MoreParams ∷ []) 0) Refuses old e rest
    (λ q k. let r = params_more l old k.behind e rest (k.token.at, sign_front (codes ",") old k.behind k.token k.front q) k.all in (r.0, inr r.1)) (λ q k. absurd k) h) h

pub other_params_mean : (l : Bool) (old : Row) (e : ℕ) (rest : Row) → Does l (more_params_answer 1 (first old)) old e rest → HasMoreParams e old rest × (e ≡ 1)
other_params_mean l old e rest h = let r = more_params_mean l 1 old e rest h in (r.0, elim r.1 [ inl x ↦ x | inr x ↦ x ])

first_int : (l g : Bool) (at : Place) (old behind : Row) (e : ℕ) (rest : Row) → g && next_is (is_word (codes "int")) old ≡ false → old ≡ word (codes "int") at ∷ behind
    → AllSay l (want.Name ∷ want.OneParam ∷ []) 0 behind e rest → HasParams g e old rest
first_int l g at old behind e rest none front (more, d, (w, n, e1), tail) =
    let m = only_says l want.OneParam d more e rest tail in
    let r = param_more (record { kind = syntax.Int; at = at }) w old behind more e rest (tt, front) n m in
    record { params = r.0; listed = r.1; opens = none; index = λ z. (Some w, (behind, more, (at, front), n, m.index z)) }

first_other : (l g : Bool) (k : KindWord) (old behind : Row) (e : ℕ) (rest : Row) → g && next_is (is_word (codes "int")) old ≡ false → KindOf k old behind
    → AllSay l (want.Name ∷ want.MoreParams ∷ []) 0 behind e rest → HasParams g e old rest
first_other l g k old behind e rest none q (more, d, (w, n, e1), tail) =
    let m = only_says l want.MoreParams d more e rest tail in
    let r = param_more k w old behind more e rest q n m.0 in
    record { params = r.0; listed = r.1; opens = none; index = λ z. absurd (no_zero e m.1 z) }

params_at : (l g : Bool) (t : PlacedToken) (ts : Row) (e : ℕ) (rest : Row) → Does l (params_answer g (Some t)) (t ∷ ts) e rest → HasParams g e (t ∷ ts) rest
params_at l g t ts e rest h = on_does l (is_sign (codes ")") t) (Takes true [] 0) _ (t ∷ ts) e rest
    (λ p k. let s = sign_alone l (codes ")") 0 (t ∷ ts) e rest p k in
    record { params = record { items = []; end = s.0 }; listed = s.1; opens = and_off g _ (ap (next_is (is_word (codes "int"))) s.1); index = λ z. (None, s) })
    (λ p h. on_does l (g && is_word (codes "int") t) LeavesOut _ (t ∷ ts) e rest (λ q k. absurd k)
    (λ q h. on_does l (is_word (codes "int") t) (Takes true (want.Name ∷ want.OneParam ∷ []) 0) _ (t ∷ ts) e rest
    (λ r k. first_int l g k.token.at (t ∷ ts) k.behind e rest q (word_front (codes "int") (t ∷ ts) k.behind k.token k.front r) k.all)
    (λ r h. on_does l (is_kind t) (Takes true (want.Name ∷ want.MoreParams ∷ []) 0) Refuses (t ∷ ts) e rest
    (λ s k. let c = kind_word k.token (kind_of k.token (front_passes is_kind (t ∷ ts) k.behind k.token k.front s)) (t ∷ ts) k.behind k.front in
    first_other l g c.0 (t ∷ ts) k.behind e rest q c.1 k.all) (λ s k. absurd k) h) h) h) h

pub params_mean : (l g : Bool) (old : Row) (e : ℕ) (rest : Row) → Does l (params_answer g (first old)) old e rest → HasParams g e old rest
params_mean l g [] e rest h = absurd h
params_mean l g (t ∷ ts) e rest h = params_at l g t ts e rest h

pub opening_means : (l g : Bool) (old : Row) (e : ℕ) (rest : Row) → Does l (expects (is_sign (codes "(")) (Takes true (want.Params g ∷ []) 0) (first old)) old e rest → IsOpened g e old rest
opening_means l g old e rest h = on_does l (next (is_sign (codes "(")) (first old)) (Takes true (want.Params g ∷ []) 0) Refuses old e rest
    (λ p k. record { list = k.behind; paren = (k.token.at, sign_front (codes "(") old k.behind k.token k.front p); read = only_says l (want.Params g) 0 k.behind e rest k.all }) (λ p k. absurd k) h

signed_at : (l : Bool) (t : PlacedToken) (ts : Row) (e : ℕ) (rest : Row) → Does l (signed_answer (Some t)) (t ∷ ts) e rest → IsSigned e (t ∷ ts) rest
signed_at l t ts e rest h = on_does l (is_name_token t) (Takes true (want.Opening (is_get_child t) ∷ []) 0) Refuses (t ∷ ts) e rest
    (λ p k. let n = name_is t p in record {
      name = record { text = t.text; at = t.at };
      paren = k.behind;
      named = (n.1, (λ i. n.0 i ∷ first_tail t k.token ts k.behind k.front i));
      read = only_says l (want.Opening (is_get_child t)) 0 k.behind e rest k.all;
    }) (λ p k. absurd k) h

pub signed_means : (l : Bool) (old : Row) (e : ℕ) (rest : Row) → Does l (signed_answer (first old)) old e rest → IsSigned e old rest
signed_means l [] e rest h = absurd h
signed_means l (t ∷ ts) e rest h = signed_at l t ts e rest h

-- ---- a declared attribute

signs : (e : ℕ) (old rest : Row) → IsSigned e old rest → (name : Word) × (ps : syntax.Params) × Signature name ps old rest
signs e old rest s = (s.name, s.read.read.params, (s.paren, s.read.list, s.named, (s.read.paren, s.read.read.opens), s.read.read.listed))

attribute_then : (l : Bool) (forms : Forms) (t : PlacedToken) (old behind : Row) (e : ℕ) (rest : Row) → IsKindToken t → old ≡ t ∷ behind
    → AllSay l (named (is_word (codes "boolean") t && forms.circular)) 0 behind e rest → IsAttribute forms old rest
unfolding kind_word
attribute_then l forms t old behind e rest k front (dot, d1, (w, n, e1), (called, d2, (s, e2), (end, d3, g, tail))) =
    let q = signs d3 called end g in
    let c = only_says l (want.Circular (is_word (codes "boolean") t && forms.circular)) d3 end e rest tail in
    let may : is_word (codes "boolean") t && forms.circular ≡ may_be_circular forms k.kind = ap (λ x. is_word (codes "boolean") x && forms.circular) k.is ∙ is_boolean k.kind t.at forms k.well in
    let word_of = kind_word t k old behind front in
    record {
      kind = word_of.0;
      class = w;
      name = q.0;
      params = q.1;
      start = c.0;
      is = (behind, called, end, word_of.1, (dot, n, s), q.2, subst (λ m. Circular m c.0 end rest) may c.1);
    }

attribute_at : (l : Bool) (forms : Forms) (t : PlacedToken) (ts : Row) (e : ℕ) (rest : Row) → Does l (attribute_answer forms (Some t)) (t ∷ ts) e rest → IsAttribute forms (t ∷ ts) rest
attribute_at l forms t ts e rest h = on_does l (is_kind t) (Takes true (named (is_word (codes "boolean") t && forms.circular)) 0) Refuses (t ∷ ts) e rest
    (λ p k. attribute_then l forms t (t ∷ ts) k.behind e rest (kind_of t p) (λ i. t ∷ first_tail t k.token ts k.behind k.front i) k.all) (λ p k. absurd k) h

pub attribute_means : (l : Bool) (forms : Forms) (old : Row) (e : ℕ) (rest : Row) → Does l (attribute_answer forms (first old)) old e rest → IsAttribute forms old rest
attribute_means l forms [] e rest h = absurd h
attribute_means l forms (t ∷ ts) e rest h = attribute_at l forms t ts e rest h

-- ---- bodies

nests : (l : Bool) (e : ℕ) (old rest : Row) (x : IsRead l 8 max_nesting e old rest) → l ≡ true → grammar.depth x.expr ≤ max_nesting
nests l e old rest x h = subst (λ (k : ℕ). k ≤ max_nesting) x.deep (x.fits h)

equation_body : (l : Bool) (at : Place) (old one : Row) (e : ℕ) (rest : Row) → old ≡ sign (codes "=") at ∷ one
    → AllSay l (want.Expression max_nesting ∷ want.Mark (codes ";") ∷ []) 0 one e rest → IsBody l old rest
equation_body l at old one e rest front (end, m, x, tail) =
    let s = only_says l (want.Mark (codes ";")) m end e rest tail in
    (record { at = at; form = syntax.Equation'; expr = x.expr }, (one, end, front, x.spells, s.0), nests l m one end x)

block_body : (l : Bool) (at : Place) (old returns : Row) (e : ℕ) (rest : Row)
    → old ≡ sign (codes "{") at ∷ returns → AllSay l (want.Return ∷ want.Expression max_nesting ∷ want.Mark (codes ";") ∷ want.Close ∷ []) 0 returns e rest → IsBody l old rest
block_body l at old returns e rest front (one, d, k, (end, m, x, (close, n, (s, e1), tail))) =
    (record { at = at; form = syntax.Block; expr = x.expr }, (returns, one, end, close, front, k, x.spells, s, only_says l want.Close n close e rest tail), nests l m one end x)

pub body_means : (l : Bool) (old : Row) (e : ℕ) (rest : Row) → Does l (body_answer (first old)) old e rest → IsBody l old rest
body_means l old e rest h = on_does l (next (is_sign (codes "=")) (first old)) (Takes true (want.Expression max_nesting ∷ want.Mark (codes ";") ∷ []) 0) _ old e rest
    (λ p k. equation_body l k.token.at old k.behind e rest (sign_front (codes "=") old k.behind k.token k.front p) k.all)
    (λ p h. on_does l (next (is_sign (codes "{")) (first old)) (Takes true (want.Return ∷ want.Expression max_nesting ∷ want.Mark (codes ";") ∷ want.Close ∷ []) 0) Refuses old e rest
    (λ q k. block_body l k.token.at old k.behind e rest (sign_front (codes "{") old k.behind k.token k.front q) k.all) (λ q k. absurd k) h) h

pub ending_means : (l : Bool) (old : Row) (e : ℕ) (rest : Row) → Does l (ending_answer (first old)) old e rest → (x : Ending) × EndingOf x old rest × (l ≡ true → ending_depth x ≤ max_nesting)
ending_means l old e rest h = on_does l (next (is_sign (codes ";")) (first old)) (Takes true [] 0) (body_answer (first old)) old e rest
    (λ p k. let s = sign_alone l (codes ";") 0 old e rest p k in (syntax.Semicolon s.0, s.1, (λ f. omega arith)))
    (λ p h. let b = body_means l old e rest h in (syntax.With b.0, b.1, b.2)) h

pub defined_means : (l : Bool) (d : ℕ) (old : Row) (e : ℕ) (rest : Row) → Does l (defined_answer d (first old)) old e rest → IsDefined l d old rest
defined_means l d old e rest h = on_does l ((d == 0) && next (is_sign (codes ".")) (first old)) (Takes true (want.Signed ∷ want.Body ∷ []) 0) (body_answer (first old)) old e rest
    (λ p k. let q = both (d == 0) (next (is_sign (codes ".")) (first old)) p in
    inr (eqb-true d 0 q.0, k.behind, k.all.0, k.all.1, (k.token.at, sign_front (codes ".") old k.behind k.token k.front q.1), k.all.2, only_says l want.Body k.all.1 k.all.0 e rest k.all.3))
    (λ p h. inl (body_means l old e rest h)) h

-- ---- declarations

abbrev pub HasDecls : Bool → Forms → Row → Row → Type 0
HasDecls l forms old rest = (ds : List Decl) × (close : Row) × grammar.Decls forms ds old close × Sign (codes "}") close rest × (l ≡ true → AllByRecursion NestsWithin ds)

decl_then : (l : Bool) (forms : Forms) (d : Decl) (old more rest : Row) → DeclOf forms d old more → (l ≡ true → NestsWithin d) → HasDecls l forms more rest → HasDecls l forms old rest
decl_then l forms d old more rest h f (ds, close, k, s, g) = (d ∷ ds, close, (more, h, k), s, (λ e. (f e, g e)))

synthesized_then : (l : Bool) (forms : Forms) (at : Place) (old behind : Row) (e : ℕ) (rest : Row) → old ≡ word (codes "syn") at ∷ behind
    → AllSay l (declared forms (want.Ending ∷ want.Decls forms ∷ [])) 0 behind e rest → HasDecls l forms old rest
synthesized_then l forms at old behind e rest front (kinds, d1, (lazy, z), (end, d2, a, (more, d3, (x, y, f), tail))) =
    decl_then l forms (record { at = at; form = syntax.Synthesized lazy a.kind a.class a.name a.params a.start x }) old more rest (behind, front, (end, (kinds, z, a.is), y)) f
    (only_says l (want.Decls forms) d3 more e rest tail)

inherited_then : (l : Bool) (forms : Forms) (at : Place) (old behind : Row) (e : ℕ) (rest : Row) → old ≡ word (codes "inh") at ∷ behind
    → AllSay l (declared forms (want.Mark (codes ";") ∷ want.Decls forms ∷ [])) 0 behind e rest → HasDecls l forms old rest
inherited_then l forms at old behind e rest front (kinds, d1, (lazy, z), (end, d2, a, (more, d3, (y, e3), tail))) =
    decl_then l forms (record { at = at; form = syntax.Inherited lazy a.kind a.class a.name a.params a.start }) old more rest (behind, front, (end, (kinds, z, a.is), y)) (λ h. omega arith)
    (only_says l (want.Decls forms) d3 more e rest tail)

defined_then : (l : Bool) (forms : Forms) (at : Place) (class : Word) (old behind called body more : Row) (d : ℕ) (rest : Row) → old ≡ word (codes "eq") at ∷ behind → Owner class behind called
    → IsSigned d called body → IsDefined l d body more → HasDecls l forms more rest → HasDecls l forms old rest
defined_then l forms at class old behind called body more d rest front o g (inl b) k =
    let q = signs d called body g in
    decl_then l forms (record { at = at; form = syntax.Equation class q.0 q.1 b.0 }) old more rest (behind, front, (called, body, o, q.2, b.1)) b.2 k
defined_then l forms at class old behind called body more d rest front o g (inr (z, named, inner, e, s, h, b)) k =
    let q = signs e named inner h in
    let i = g.read.read.index z in
    decl_then l forms (record { at = at; form = syntax.InheritedEquation class g.name i.0 q.0 q.1 b.0 }) old more rest
    (behind, front, (called, named, inner, o, (g.paren, g.read.list, body, g.named, (g.read.paren, g.read.read.opens), i.1, s), q.2, b.1)) b.2 k

equation_then : (l : Bool) (forms : Forms) (at : Place) (old behind : Row) (e : ℕ) (rest : Row) → old ≡ word (codes "eq") at ∷ behind
    → AllSay l (want.Name ∷ want.Mark (codes ".") ∷ want.Signed ∷ want.Defined ∷ want.Decls forms ∷ []) 0 behind e rest → HasDecls l forms old rest
equation_then l forms at old behind e rest front (dot, d1, (w, n, e1), (called, d2, (s, e2), (body, d3, g, (more, d4, x, tail)))) =
    defined_then l forms at w old behind called body more d3 rest front (dot, n, s) g x (only_says l (want.Decls forms) d4 more e rest tail)

no_keyword_none : (l : Bool) (t : PlacedToken) (old : Row) (e : ℕ) (rest : Row) → Does l (no_keyword t) old e rest → ⊥
no_keyword_none l t old e rest h = on_does l (is_word_kind t.kind) LeavesOut Refuses old e rest (λ p k. k) (λ p k. k) h

decls_at : (l : Bool) (forms : Forms) (t : PlacedToken) (ts : Row) (e : ℕ) (rest : Row) → Does l (decls_answer forms (Some t)) (t ∷ ts) e rest → HasDecls l forms (t ∷ ts) rest
decls_at l forms t ts e rest h = on_does l (is_sign (codes "}") t) (Takes true [] 0) _ (t ∷ ts) e rest
    (λ p k. ([], t ∷ ts, refl, sign_alone l (codes "}") 0 (t ∷ ts) e rest p k, (λ f. tt)))
    (λ p h. on_does l (is_word (codes "syn") t) (Takes true (declared forms (want.Ending ∷ want.Decls forms ∷ [])) 0) _ (t ∷ ts) e rest
    (λ p k. synthesized_then l forms k.token.at (t ∷ ts) k.behind e rest (word_front (codes "syn") (t ∷ ts) k.behind k.token k.front p) k.all)
    (λ p h. on_does l (is_word (codes "inh") t) (Takes true (declared forms (want.Mark (codes ";") ∷ want.Decls forms ∷ [])) 0) _ (t ∷ ts) e rest
    (λ p k. inherited_then l forms k.token.at (t ∷ ts) k.behind e rest (word_front (codes "inh") (t ∷ ts) k.behind k.token k.front p) k.all)
    (λ p h. on_does l (is_word (codes "eq") t) (Takes true (want.Name ∷ want.Mark (codes ".") ∷ want.Signed ∷ want.Defined ∷ want.Decls forms ∷ []) 0) (no_keyword t) (t ∷ ts) e rest
    (λ p k. equation_then l forms k.token.at (t ∷ ts) k.behind e rest (word_front (codes "eq") (t ∷ ts) k.behind k.token k.front p) k.all)
    (λ p h. absurd (no_keyword_none l t (t ∷ ts) e rest h)) h) h) h) h

pub decls_mean : (l : Bool) (forms : Forms) (old : Row) (e : ℕ) (rest : Row) → Does l (decls_answer forms (first old)) old e rest → HasDecls l forms old rest
decls_mean l forms [] e rest h = absurd h
decls_mean l forms (t ∷ ts) e rest h = decls_at l forms t ts e rest h

-- ---- files

abbrev pub HasAspects : Bool → Forms → Row → Row → Type 0
HasAspects l forms old rest = (aspects : List Aspect) × grammar.File forms aspects old rest × (l ≡ true → IsWithin aspects)

aspect_then : (l : Bool) (forms : Forms) (at : Place) (old named : Row) (e : ℕ) (rest : Row) → old ≡ word (codes "aspect") at ∷ named
    → AllSay l (want.Name ∷ want.Mark (codes "{") ∷ want.Decls forms ∷ want.File forms ∷ []) 0 named e rest → HasAspects l forms old rest
aspect_then l forms at old named e rest front (brace, d1, (w, n, e1), (inner, d2, (b, e2), (more, d3, (ds, close, k, c, f), tail))) =
    let r = only_says l (want.File forms) d3 more e rest tail in
    (record { name = w; decls = ds } ∷ r.0, (more, (named, brace, inner, close, (at, front), n, b, k, c), r.1), (λ h. (f h, r.2 h)))

file_at : (l : Bool) (forms : Forms) (t : PlacedToken) (ts : Row) (e : ℕ) (rest : Row) → Does l (file_answer forms (Some t)) (t ∷ ts) e rest → HasAspects l forms (t ∷ ts) rest
file_at l forms t ts e rest h = on_does l (is_word (codes "aspect") t) (Takes true (want.Name ∷ want.Mark (codes "{") ∷ want.Decls forms ∷ want.File forms ∷ []) 0) (no_keyword t) (t ∷ ts) e rest
    (λ p k. aspect_then l forms k.token.at (t ∷ ts) k.behind e rest (word_front (codes "aspect") (t ∷ ts) k.behind k.token k.front p) k.all)
    (λ p h. absurd (no_keyword_none l t (t ∷ ts) e rest h)) h

pub file_means : (l : Bool) (forms : Forms) (old : Row) (e : ℕ) (rest : Row) → Does l (file_answer forms (first old)) old e rest → HasAspects l forms old rest
file_means l forms [] e rest h = ([], sym h.1, (λ f. tt))
file_means l forms (t ∷ ts) e rest h = file_at l forms t ts e rest h
