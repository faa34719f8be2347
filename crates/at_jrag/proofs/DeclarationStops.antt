-- Where reading declarations stops.
use Rattle.std.proofs.Common.{◌≡◌, ℕ, ◌≤◌, ◌<◌, List, [], ◌∷◌, ◌++◌, length, Bool, true, false, cond, Option, Some, None, refl, sym, ap, subst, ◌∙◌, arith}
use Rattle.std.specs.Prelude.{◌&&◌, ◌==◌, MatchOption, Result, Ok, Err, IfErr}
use Rattle.std.specs.Option.{is_some}
use Rattle.std.specs.Str.{bytes_eq}
use lib.Chars.{codes}
use Rattle.at_text.specs.Reading.{first}
use Rattle.at_text.specs.Symbols.{PlacedToken, is_word_kind}
use Rattle.at_text.specs.declared.place.Place.{Place}
use Rattle.at_jrag.specs.declared.Forms.{Forms}
use Rattle.at_jrag.specs.Syntax.{Word, Params, KindWord}
use Rattle.at_jrag.specs.Grammar as grammar
use Rattle.at_text.specs.Rows.{Row, sign, word, is_sign, is_word, is_name_token, next_is}
use Rattle.at_jrag.specs.Grammar.{truth_text, kind_text, may_be_circular, begins_other, StartOf, Sign, Keyword, Lazy, KindOf, Signature, Owner, Declared, max_nesting}
use Rattle.at_jrag.specs.Heads.{is_getter}
use Rattle.at_text.specs.Machine.{Reason, Refused, LeftOut, Takes, Skips, Refuses, LeavesOut, Stuck, run}
use Rattle.at_jrag.specs.Wants as want
use Rattle.at_jrag.specs.Wants.{Want}
use Rattle.at_jrag.specs.Table.{table, next, on, is_kind, body_answer, declared, named, alone}
use Rattle.at_jrag.specs.Runs.{Goes, Stay, Stays, Pass, Missing, reason_of}
use Rattle.at_text.specs.declared.fault.Failure.{Failure}
use Rattle.at_text.specs.declared.fault.Failure.TheVariants as failure
use Rattle.at_jrag.specs.declared.JragCode.{JragCode}
use Rattle.at_jrag.specs.declared.JragCode.TheVariants as code
use Rattle.at_text.proofs.MachineLaws.{run-takes, run-refuses}
use Rattle.at_jrag.proofs.DeclarationRuns.{missing_stays, circular_row, bracket_pass, attribute_row, next_same, dot_row, signed_row, aspect_row, synthesized_row, inherited_row, equation_row, pass_none, lazy_pass, kind_pass, name_pass, mark_pass, return_pass, signed_pass, signature_goes, declared_then, stay_then, stay_first, stay_takes, stay_refuses, stay_leaves_out, name_missing, mark_missing}
use Rattle.at_jrag.proofs.ParamStops.{signed_missing, last_row}

-- ---- where a keyword is wanted

-- an error of a reader that took nothing
at_same : (w : Want) (f : Row → Failure JragCode) (old rest : Row) → rest ≡ old → Stay (w ∷ []) (reason_of (f old)) old old → Stay (w ∷ []) (reason_of (f rest)) old rest
at_same w f old rest same s = subst (λ (x : Row). Stay (w ∷ []) (reason_of (f x)) old x) (sym same) s

abbrev no_keyword : Row → Failure JragCode
no_keyword old = cond (next_is (λ t. is_word_kind t.kind) old) (failure.For code.LeftOut) (failure.For code.Syntax)

keyword_stays : (w : Want) (t : PlacedToken) (ts : Row) (b : Bool) → ((d : ℕ) → table w d (Some t) ≡ cond b LeavesOut
    Refuses) → Stay (w ∷ []) (reason_of (cond b (failure.For code.LeftOut) (failure.For code.Syntax))) (t ∷ ts) (t ∷ ts)
keyword_stays w t ts true row = stay_leaves_out w t (t ∷ ts) ts (t ∷ ts) refl refl row
keyword_stays w t ts false row = stay_refuses w (t ∷ ts) (t ∷ ts) refl row

aspect_none : (forms : Forms) (t : PlacedToken) (d : ℕ) → is_word (codes "aspect") t ≡ false → table (want.File forms) d (Some t) ≡ cond (is_word_kind t.kind) LeavesOut Refuses
unfolding table
aspect_none forms t d h = ap (λ b. on b (Takes true (want.Name ∷ want.Mark (codes "{") ∷ want.Decls forms ∷ want.File forms ∷ []) 0) (cond (is_word_kind t.kind) LeavesOut Refuses)) h

aspect_at : (forms : Forms) (old : Row) → 0 < length old → next_is (is_word (codes "aspect")) old ≡ false → Stay (want.File forms ∷ []) (reason_of (no_keyword old)) old old
aspect_at forms [] some h = absurd (omega (arith, some))
aspect_at forms (t ∷ ts) some h = keyword_stays (want.File forms) t ts (is_word_kind t.kind) (λ d. aspect_none forms t d h)

pub aspect_stays : (forms : Forms) (old rest : Row) → rest ≡ old → 0 < length old → next_is (is_word (codes "aspect")) old ≡ false → Stay (want.File forms ∷ []) (reason_of (no_keyword rest)) old rest
aspect_stays forms old rest same some h = at_same (want.File forms) no_keyword old rest same (aspect_at forms old some h)

decl_none : (forms : Forms) (t : PlacedToken) (d : ℕ) → is_sign (codes "}") t ≡ false → is_word (codes "syn") t ≡ false
    → is_word (codes "inh") t ≡ false → is_word (codes "eq") t ≡ false
    → table (want.Decls forms) d (Some t) ≡ cond (is_word_kind t.kind) LeavesOut Refuses
unfolding table
decl_none forms t d close syn inh eq = last_row (is_sign (codes "}") t) (is_word (codes "syn") t) (is_word (codes "inh") t) (is_word (codes "eq") t) _ _ _ _ _ close syn inh eq

decls_end : (forms : Forms) (d : ℕ) → table (want.Decls forms) d None ≡ Refuses
unfolding table
decls_end forms d = refl

decl_at : (forms : Forms) (old : Row) → next_is (is_sign (codes "}")) old ≡ false → next_is (is_word (codes "syn")) old
    ≡ false → next_is (is_word (codes "inh")) old ≡ false → next_is (is_word (codes "eq")) old ≡ false
    → Stay (want.Decls forms ∷ []) (reason_of (no_keyword old)) old old
decl_at forms [] close syn inh eq = stay_refuses (want.Decls forms) [] [] refl (decls_end forms)
decl_at forms (t ∷ ts) close syn inh eq = keyword_stays (want.Decls forms) t ts (is_word_kind t.kind) (λ d. decl_none forms t d close syn inh eq)

pub decl_stays : (forms : Forms) (old rest : Row) → rest ≡ old → next_is (is_sign (codes "}")) old ≡ false
    → next_is (is_word (codes "syn")) old ≡ false → next_is (is_word (codes "inh")) old ≡ false
    → next_is (is_word (codes "eq")) old ≡ false
    → Stay (want.Decls forms ∷ []) (reason_of (no_keyword rest)) old rest
decl_stays forms old rest same close syn inh eq = at_same (want.Decls forms) no_keyword old rest same (decl_at forms old close syn inh eq)

-- ---- where one token alone is wanted

abbrev no_block : Row → Failure JragCode
no_block old = cond (next_is (λ t. true) old) (failure.For code.LeftOut) (failure.For code.Syntax)

alone_at : (w : Want) (test : PlacedToken → Bool) (old : Row) → ((d : ℕ) (s : Option PlacedToken)
    → table w d s ≡ alone test s) → next_is test old ≡ false → Stay (w ∷ []) (reason_of (no_block old)) old old
alone_at w test [] row h = stay_refuses w [] [] refl (λ d. row d None)
alone_at w test (t ∷ ts) row h = stay_leaves_out w t (t ∷ ts) ts (t ∷ ts) refl refl (λ d. row d (Some t) ∙ ap (λ b. on b (Takes true [] 0) LeavesOut) h)

return_row : (d : ℕ) (s : Option PlacedToken) → table want.Return d s ≡ alone (is_word (codes "return")) s
unfolding table
return_row d s = refl

close_row : (d : ℕ) (s : Option PlacedToken) → table want.Close d s ≡ alone (is_sign (codes "}")) s
unfolding table
close_row d s = refl

return_stays : (old rest : Row) → rest ≡ old → next_is (is_word (codes "return")) old ≡ false → Stay (want.Return ∷ []) (reason_of (no_block rest)) old rest
return_stays old rest same h = at_same want.Return no_block old rest same (alone_at want.Return (is_word (codes "return")) old return_row h)

close_stays : (old rest : Row) → rest ≡ old → next_is (is_sign (codes "}")) old ≡ false → Stay (want.Close ∷ []) (reason_of (no_block rest)) old rest
close_stays old rest same h = at_same want.Close no_block old rest same (alone_at want.Close (is_sign (codes "}")) old close_row h)

-- ---- a word that is taken, or not

pub word_missing : {R : Type 0} (old rest : R) (f : R → Row) (text : List ℕ) (o : Option Place) → is_some o ≡ false
    → MatchOption o ((rest ≡ old) × (next_is (is_word text) (f old) ≡ false)) (λ at. f old ≡ word text at ∷ f rest)
    → (f rest ≡ f old) × (next_is (is_word text) (f old) ≡ false)
word_missing old rest f text None n h = (ap f h.0, h.1)
word_missing old rest f text (Some at) n h = absurd cc

pub word_taken : {R : Type 0} (old rest : R) (f : R → Row) (text : List ℕ) (o : Option Place) → is_some o ≡ true
    → MatchOption o ((rest ≡ old) × (next_is (is_word text) (f old) ≡ false)) (λ at. f old ≡ word text at ∷ f rest)
    → Keyword text (f old) (f rest)
word_taken old rest f text None n h = absurd cc
word_taken old rest f text (Some at) n h = (at, h)

-- ---- ["lazy"]

-- the word was taken, or it isn't next
abbrev pub TookLazy : Option Place → Row → Row → Type 0
TookLazy None old rest = (rest ≡ old) × (next_is (is_word (codes "lazy")) old ≡ false)
TookLazy (Some at) old rest = old ≡ word (codes "lazy") at ∷ rest

pub took_lazy : {R : Type 0} (old rest : R) (f : R → Row) (o : Option Place) → MatchOption o
    ((rest ≡ old) × (next_is (is_word (codes "lazy")) (f old) ≡ false)) (λ at. f old ≡ word (codes "lazy") at ∷ f rest)
    → TookLazy o (f old) (f rest)
took_lazy old rest f None (e, n) = (ap f e, n)
took_lazy old rest f (Some at) h = h

pub lazy_goes : (o : Option Place) (old rest : Row) → TookLazy o old rest → next_is (is_word (codes "nta")) rest ≡ false → Pass true (want.Lazy ∷ []) old rest
lazy_goes None old rest (e, n) h =
    lazy_pass true None old rest (sym e) (λ k. next_same (is_word (codes "lazy")) rest ∙ ap (next_is (is_word (codes "lazy"))) e ∙ n) (next_same (is_word (codes "nta")) rest ∙ h)
lazy_goes (Some at) old rest t h = lazy_pass true (Some at) old rest t (λ k. absurd cc) (next_same (is_word (codes "nta")) rest ∙ h)

nta_row : (t : PlacedToken) (d : ℕ) → is_word (codes "nta") t ≡ true → table want.NotNta d (Some t) ≡ LeavesOut
unfolding table
nta_row t d h = ap (λ b. on b LeavesOut (Skips 0)) h

not_nta_stays : (old : Row) → next_is (is_word (codes "nta")) old ≡ true → Stay (want.NotNta ∷ []) (Some LeftOut) old old
not_nta_stays [] h = absurd cc
not_nta_stays (t ∷ ts) h = stay_leaves_out want.NotNta t (t ∷ ts) ts (t ∷ ts) refl refl (λ d. nta_row t d h)

lazy_nta_row : (t : PlacedToken) (d : ℕ) → is_word (codes "lazy") t ≡ false → is_word (codes "nta") t ≡ true → table want.Lazy d (Some t) ≡ LeavesOut
unfolding table
lazy_nta_row t d n h = ap (λ b. on b (Takes true (want.NotNta ∷ []) 0) (on (is_word (codes "nta") t) LeavesOut (Skips 0))) n ∙ ap (λ b. on b LeavesOut (Skips 0)) h

nta_at : (old : Row) → next_is (is_word (codes "lazy")) old ≡ false → next_is (is_word (codes "nta")) old ≡ true → Stay (want.Lazy ∷ []) (Some LeftOut) old old
nta_at [] n h = absurd cc
nta_at (t ∷ ts) n h = stay_leaves_out want.Lazy t (t ∷ ts) ts (t ∷ ts) refl refl (λ d. lazy_nta_row t d n h)

lazy_row : (at : Place) (d : ℕ) → table want.Lazy d (Some (word (codes "lazy") at)) ≡ Takes true (want.NotNta ∷ []) 0
unfolding table
lazy_row at d = refl

pub lazy_stays : (o : Option Place) (old rest : Row) → TookLazy o old rest → next_is (is_word (codes "nta")) rest ≡ true → Stay (want.Lazy ∷ []) (Some LeftOut) old rest
lazy_stays None old rest (e, n) h = subst (λ (x : Row). Stay (want.Lazy ∷ []) (Some LeftOut) old x) (sym e) (nta_at old n (ap (next_is (is_word (codes "nta"))) (sym e) ∙ h))
lazy_stays (Some at) old rest t h = stay_takes want.Lazy (want.NotNta ∷ []) (word (codes "lazy") at) (Some LeftOut) old rest rest t (λ d. (0, lazy_row at d)) (not_nta_stays rest h)

-- ---- name "." name "(" [params] ")"

pub owner_stays : (class : Word) (us : List Want) (r : Option Reason) (old mid rest : Row) → Owner class old mid → Stay us r mid rest → Stay (want.Name ∷ want.Mark (codes ".") ∷ us) r old rest
owner_stays class us r old mid rest (dot, n, s) st =
    stay_then want.Name (want.Mark (codes ".") ∷ us) r old dot rest (name_pass true class old dot n) (stay_then (want.Mark (codes ".")) us r dot mid rest (mark_pass true (codes ".") dot mid s) st)

pub no_class : (us : List Want) (e : Failure JragCode) (old rest : Row) → Missing is_name_token e old rest → Stay (want.Name ∷ us) (reason_of e) old rest
no_class us e old rest m = stay_first want.Name us (reason_of e) old rest (name_missing e old rest m)

pub no_dot : (us : List Want) (class : Word) (e : Failure JragCode) (old dot rest : Row) → grammar.Name class old dot
    → Missing (is_sign (codes ".")) e dot rest → Stay (want.Name ∷ want.Mark (codes ".") ∷ us) (reason_of e) old rest
no_dot us class e old dot rest n m =
    stay_then want.Name (want.Mark (codes ".") ∷ us) (reason_of e) old dot rest (name_pass true class old dot n)
    (stay_first (want.Mark (codes ".")) us (reason_of e) dot rest (mark_missing (codes ".") e dot rest m))

pub no_name : (us : List Want) (e : Failure JragCode) (old rest : Row) → Missing is_name_token e old rest → Stay (want.Signed ∷ us) (reason_of e) old rest
no_name us e old rest m = stay_first want.Signed us (reason_of e) old rest (signed_missing e old rest m)

pub signed_stays : (us : List Want) (name : Word) (r : Option Reason) (old paren rest : Row)
    → grammar.Name name old paren → Stay (want.Opening (bytes_eq name.text (codes "getChild")) ∷ []) r paren rest
    → Stay (want.Signed ∷ us) r old rest
signed_stays us name r old paren rest n st =
    stay_first want.Signed us r old rest
    (stay_takes want.Signed (want.Opening (bytes_eq name.text (codes "getChild")) ∷ []) (word name.text name.at) r old paren rest n.1 (λ d. (0, signed_row name.text name.at d n.0)) st)

-- ---- ["circular" "[" ("true" | "false") "]"]

circular_left : (m : Bool) (t : PlacedToken) (d : ℕ) → m ≡ false → is_word (codes "circular") t ≡ true → table (want.Circular m) d (Some t) ≡ LeavesOut
unfolding table
circular_left m t d may h =
    ap (λ b. on b (cond m (Takes true (want.Bracket ∷ want.Mark (codes "]") ∷ want.Circular false ∷ []) 0) LeavesOut) (Skips 0)) h
    ∙ ap (λ b. cond b (Takes true (want.Bracket ∷ want.Mark (codes "]") ∷ want.Circular false ∷ []) 0) LeavesOut) may

-- where it may not stand
pub circular_stays : (m : Bool) (old : Row) → m ≡ false → next_is (is_word (codes "circular")) old ≡ true → Stay (want.Circular m ∷ []) (Some LeftOut) old old
circular_stays m [] may h = absurd cc
circular_stays m (t ∷ ts) may h = stay_leaves_out (want.Circular m) t (t ∷ ts) ts (t ∷ ts) refl refl (λ d. circular_left m t d may h)

pub left_stays : (m : Bool) (e : Failure JragCode) (old : Row) → m ≡ false → e ≡ failure.For code.LeftOut
    → next_is (is_word (codes "circular")) old ≡ true → Stay (want.Circular m ∷ []) (reason_of e) old old
left_stays m e old may is h = subst (λ x. Stay (want.Circular m ∷ []) (reason_of x) old old) (sym is) (circular_stays m old may h)

-- behind the word
pub start_stays : (m : Bool) (at : Place) (r : Option Reason) (old bracket rest : Row) → m ≡ true → old ≡ word (codes "circular") at ∷ bracket
    → Stay (want.Bracket ∷ want.Mark (codes "]") ∷ want.Circular false ∷ []) r bracket rest → Stay (want.Circular m ∷ []) r old rest
start_stays m at r old bracket rest may front st =
    stay_takes (want.Circular m) (want.Bracket ∷ want.Mark (codes "]") ∷ want.Circular false ∷ []) (word (codes "circular") at) r old bracket rest front (λ d. (0, circular_row m at d may)) st

-- behind its brackets
pub again_stays : (b : Bool) (e : Failure JragCode) (old mid : Row) → StartOf b old mid → e ≡ failure.For code.LeftOut → next_is (is_word (codes "circular")) mid ≡ true
    → Stay (want.Bracket ∷ want.Mark (codes "]") ∷ want.Circular false ∷ []) (reason_of e) old mid
again_stays b e old mid (value, close, s, k, z) is h =
    stay_then want.Bracket (want.Mark (codes "]") ∷ want.Circular false ∷ []) (reason_of e) old close mid (bracket_pass true b old value close s k)
    (stay_then (want.Mark (codes "]")) (want.Circular false ∷ []) (reason_of e) close mid mid (mark_pass true (codes "]") close mid z) (left_stays false e mid refl is h))

-- an error between the brackets
pub brackets_stay : (us : List Want) (r : Option Reason) (old rest : Row) → Stay (want.Bracket ∷ want.Mark (codes "]") ∷ []) r old rest → Stay (want.Bracket ∷ want.Mark (codes "]") ∷ us) r old rest
brackets_stay us None old rest st d = tt
brackets_stay us (Some r) old rest st d = λ ws. st d (us ++ ws)

bracket_row : (d : ℕ) (s : Option PlacedToken) → next (is_sign (codes "[")) s ≡ false → table want.Bracket d s ≡ Refuses
unfolding table
bracket_row d s h = ap (λ b. on b (Takes true (want.Start ∷ []) 0) Refuses) h

pub no_bracket : (us : List Want) (e : Failure JragCode) (old rest : Row) → Missing (is_sign (codes "[")) e old rest → Stay (want.Bracket ∷ us) (reason_of e) old rest
no_bracket us e old rest m = stay_first want.Bracket us (reason_of e) old rest (missing_stays want.Bracket (is_sign (codes "[")) e old rest bracket_row m)

bracket_takes : (at : Place) (d : ℕ) → table want.Bracket d (Some (sign (codes "[") at)) ≡ Takes true (want.Start ∷ []) 0
unfolding table
bracket_takes at d = refl

pub bracket_stays : (us : List Want) (at : Place) (r : Option Reason) (old value rest : Row)
    → old ≡ sign (codes "[") at ∷ value → Stay (want.Start ∷ []) r value rest → Stay (want.Bracket ∷ us) r old rest
bracket_stays us at r old value rest front st =
    stay_first want.Bracket us r old rest (stay_takes want.Bracket (want.Start ∷ []) (sign (codes "[") at) r old value rest front (λ d. (0, bracket_takes at d)) st)

pub no_end : (b : Bool) (at : Place) (e : Failure JragCode) (old value close rest : Row) → old
    ≡ sign (codes "[") at ∷ value → Keyword (truth_text b) value close → Missing (is_sign (codes "]")) e close rest
    → Stay (want.Bracket ∷ want.Mark (codes "]") ∷ []) (reason_of e) old rest
no_end b at e old value close rest front k m =
    stay_then want.Bracket (want.Mark (codes "]") ∷ []) (reason_of e) old close rest (bracket_pass true b old value close (at, front) k) (mark_missing (codes "]") e close rest m)

start_row : (d : ℕ) (t : PlacedToken) → is_word (codes "true") t ≡ false → is_word (codes "false") t ≡ false → table want.Start d (Some t) ≡ cond (begins_other t) LeavesOut Refuses
unfolding table
start_row d t a b = simp (a, b)

start_ended : (d : ℕ) → table want.Start d None ≡ Refuses
unfolding table
start_ended d = refl

-- another expression is left out
abbrev no_truth : Row → Failure JragCode
no_truth old = cond (next_is begins_other old) (failure.For code.LeftOut) (failure.For code.Syntax)

truth_at : (old : Row) → next_is (is_word (codes "true")) old ≡ false → next_is (is_word (codes "false")) old ≡ false → Stay (want.Start ∷ []) (reason_of (no_truth old)) old old
truth_at [] a b = stay_refuses want.Start [] [] refl start_ended
truth_at (t ∷ ts) a b = keyword_stays want.Start t ts (begins_other t) (λ d. start_row d t a b)

pub truth_stays : (old rest : Row) → rest ≡ old → next_is (is_word (codes "true")) old ≡ false
    → next_is (is_word (codes "false")) old ≡ false → Stay (want.Start ∷ []) (reason_of (no_truth rest)) old rest
truth_stays old rest same a b = at_same want.Start no_truth old rest same (truth_at old a b)

-- ---- a declared attribute

attribute_missing : (forms : Forms) (d : ℕ) (s : Option PlacedToken) → next is_kind s ≡ false → table (want.Attribute forms) d s ≡ Refuses
unfolding table
attribute_missing forms d None h = refl
attribute_missing forms d (Some t) h = ap (λ b. on b (Takes true (named (is_word (codes "boolean") t && forms.circular)) 0) Refuses) h

pub no_kind : (forms : Forms) (us : List Want) (e : Failure JragCode) (old kinds rest : Row) → Pass true
    (want.Lazy ∷ []) old kinds → Missing is_kind e kinds rest → Stay (declared forms us) (reason_of e) old rest
no_kind forms us e old kinds rest p m =
    stay_then want.Lazy (want.Attribute forms ∷ us) (reason_of e) old kinds rest p
    (stay_first (want.Attribute forms) us (reason_of e) kinds rest (missing_stays (want.Attribute forms) is_kind e kinds rest (attribute_missing forms) m))

pub no_target : (forms : Forms) (us : List Want) (k : KindWord) (r : Option Reason) (old kinds owner rest : Row) → Pass true (want.Lazy ∷ []) old kinds → KindOf k kinds owner
    → Stay (named (may_be_circular forms k.kind)) r owner rest → Stay (declared forms us) r old rest
no_target forms us k r old kinds owner rest p is st =
    stay_then want.Lazy (want.Attribute forms ∷ us) r old kinds rest p
    (stay_first (want.Attribute forms) us r kinds rest
    (stay_takes (want.Attribute forms) (named (may_be_circular forms k.kind)) (word (kind_text k.kind) k.at) r kinds owner rest is.1 (λ d. (0, attribute_row forms k.kind k.at d is.0)) st))

pub named_then : (m : Bool) (class name : Word) (ps : Params) (r : Option Reason) (owner called end rest : Row)
    → Owner class owner called → Signature name ps called end → Stay (want.Circular m ∷ []) r end rest
    → Stay (named m) r owner rest
named_then m class name ps r owner called end rest o s st =
    owner_stays class (want.Signed ∷ want.Circular m ∷ []) r owner called rest o
    (stay_then want.Signed (want.Circular m ∷ []) r called end rest (signed_pass true name ps called end s) st)

pub declared_stays : (forms : Forms) (us : List Want) (lazy : Option Place) (k : KindWord) (class name : Word)
    (ps : Params) (start : Option Bool) (r : Option Reason) (old end rest : Row)
    → Declared forms lazy k class name ps start old end
    → next_is (is_word (codes "circular")) end ≡ false → Stay us r end rest → Stay (declared forms us) r old rest
declared_stays forms us lazy k class name ps start None old end rest h n st d = tt
declared_stays forms us lazy k class name ps start (Some q) old end rest h n st d = λ ws.
    let a = declared_then true forms [] lazy k class name ps start old end end h (next_same (is_word (codes "circular")) end ∙ n) (pass_none true end) (us ++ ws) d in
    a.1 ∙ st a.0 ws

-- ---- bodies

-- where a body is wanted, the machine is stuck at the rest
abbrev pub BodyStays : Option Reason → Row → Row → Type 0
BodyStays r old rest = (w : Want) (d : ℕ) → table w d (first old) ≡ body_answer (first old) → Stays (w ∷ []) d r old rest

body_takes : (us : List Want) (t : PlacedToken) (r : Option Reason) (old mid rest : Row) → old ≡ t ∷ mid → body_answer (Some t) ≡ Takes true us 0 → Stay us r mid rest → BodyStays r old rest
body_takes us t None old mid rest front answer st w d row = tt
body_takes us t (Some q) old mid rest front answer st w d row = λ ws.
    let takes = sym (ap (λ x. table w d (first x)) front) ∙ row ∙ ap (λ x. body_answer (first x)) front ∙ answer in
    ap (run true table (w ∷ ws) d) front ∙ run-takes true table w true us ws d 0 t mid takes (λ h. refl) ∙ st 0 ws

body_refused : (s : Option PlacedToken) → next (is_sign (codes "=")) s ≡ false → next (is_sign (codes "{")) s ≡ false → body_answer s ≡ Refuses
body_refused s a b = simp (a, b)

pub no_body : (e : Failure JragCode) (old rest : Row) → next_is (is_sign (codes "=")) old ≡ false → Missing (is_sign (codes "{")) e old rest → BodyStays (reason_of e) old rest
no_body failure.Memory old rest a m w d row = tt
no_body (failure.For code.Syntax) old rest a m w d row = λ ws.
    run-refuses true table w ws d old (row ∙ body_refused (first old) (next_same (is_sign (codes "=")) old ∙ a) (next_same (is_sign (codes "{")) old ∙ m.1)) ∙ ap (Stuck Refused) (sym m.0)
no_body (failure.For code.LeftOut) old rest a m w d row = absurd m
no_body (failure.For code.Nesting) old rest a m w d row = absurd m

goes_pass : (n : ℕ) (old rest : Row) → Goes want.Expression (λ b. []) n old rest → n ≤ max_nesting → Pass true (want.Expression max_nesting ∷ []) old rest
goes_pass n old rest g fits ws d = (n, g true max_nesting (λ e. fits) ws d)

pub equation_stays : (at : Place) (r : Option Reason) (old one rest : Row) → old ≡ sign (codes "=") at ∷ one → Stay (want.Expression max_nesting ∷ []) r one rest → BodyStays r old rest
equation_stays at r old one rest front st =
    let vs = want.Mark (codes ";") ∷ [] in
    body_takes (want.Expression max_nesting ∷ vs) (sign (codes "=") at) r old one rest front refl (stay_first (want.Expression max_nesting) vs r one rest st)

pub equation_ends : (at : Place) (n : ℕ) (e : Failure JragCode) (old one end rest : Row)
    → old ≡ sign (codes "=") at ∷ one → Goes want.Expression (λ b. []) n one end → n ≤ max_nesting
    → Missing (is_sign (codes ";")) e end rest → BodyStays (reason_of e) old rest
equation_ends at n e old one end rest front g fits m =
    let vs = want.Mark (codes ";") ∷ [] in
    body_takes (want.Expression max_nesting ∷ vs) (sign (codes "=") at) (reason_of e) old one rest front refl
    (stay_then (want.Expression max_nesting) vs (reason_of e) one end rest (goes_pass n one end g fits) (mark_missing (codes ";") e end rest m))

abbrev block_wants : List Want
block_wants = want.Expression max_nesting ∷ want.Mark (codes ";") ∷ want.Close ∷ []

pub no_return : (at : Place) (old mid rest : Row) → old ≡ sign (codes "{") at ∷ mid → rest ≡ mid → next_is (is_word (codes "return")) mid ≡ false → BodyStays (reason_of (no_block rest)) old rest
no_return at old mid rest front same h =
    body_takes (want.Return ∷ block_wants) (sign (codes "{") at) (reason_of (no_block rest)) old mid rest front refl
    (stay_first want.Return block_wants (reason_of (no_block rest)) mid rest (return_stays mid rest same h))

block_then : (at : Place) (r : Option Reason) (old mid one rest : Row) → old ≡ sign (codes "{") at ∷ mid → Keyword (codes "return") mid one → Stay block_wants r one rest → BodyStays r old rest
block_then at r old mid one rest front k st = body_takes (want.Return ∷ block_wants) (sign (codes "{") at) r old mid
    rest front refl (stay_then want.Return block_wants r mid one rest (return_pass true mid one k) st)

pub block_stays : (at : Place) (r : Option Reason) (old mid one rest : Row) → old ≡ sign (codes "{") at ∷ mid
    → Keyword (codes "return") mid one → Stay (want.Expression max_nesting ∷ []) r one rest → BodyStays r old rest
block_stays at r old mid one rest front k st = block_then at r old mid one rest front k (stay_first (want.Expression max_nesting) (want.Mark (codes ";") ∷ want.Close ∷ []) r one rest st)

pub block_ends : (at : Place) (n : ℕ) (e : Failure JragCode) (old mid one end rest : Row) → old ≡ sign (codes "{")
    at ∷ mid → Keyword (codes "return") mid one → Goes want.Expression (λ b. []) n one end → n ≤ max_nesting
    → Missing (is_sign (codes ";")) e end rest → BodyStays (reason_of e) old rest
block_ends at n e old mid one end rest front k g fits m =
    block_then at (reason_of e) old mid one rest front k
    (stay_then (want.Expression max_nesting) (want.Mark (codes ";") ∷ want.Close ∷ []) (reason_of e) one end rest (goes_pass n one end g fits)
    (stay_first (want.Mark (codes ";")) (want.Close ∷ []) (reason_of e) end rest (mark_missing (codes ";") e end rest m)))

pub no_close : (at : Place) (n : ℕ) (old mid one end close rest : Row) → old ≡ sign (codes "{") at ∷ mid → Keyword (codes "return") mid one → Goes want.Expression (λ b. []) n one end → n ≤ max_nesting
    → Sign (codes ";") end close → rest ≡ close → next_is (is_sign (codes "}")) close ≡ false → BodyStays (reason_of (no_block rest)) old rest
no_close at n old mid one end close rest front k g fits s same h =
    let r = reason_of (no_block rest) in
    block_then at r old mid one rest front k
    (stay_then (want.Expression max_nesting) (want.Mark (codes ";") ∷ want.Close ∷ []) r one end rest (goes_pass n one end g fits)
    (stay_then (want.Mark (codes ";")) (want.Close ∷ []) r end close rest (mark_pass true (codes ";") end close s) (close_stays close rest same h)))

body_stay : (w : Want) (us : List Want) (r : Option Reason) (old rest : Row) → ((d : ℕ) → table w d (first old) ≡ body_answer (first old)) → BodyStays r old rest → Stay (w ∷ us) r old rest
body_stay w us None old rest row b d = tt
body_stay w us (Some q) old rest row b d = λ ws. b w d (row d) (us ++ ws)

ending_row : (d : ℕ) (s : Option PlacedToken) → next (is_sign (codes ";")) s ≡ false → table want.Ending d s ≡ body_answer s
unfolding table
ending_row d s h = ap (λ x. on x (Takes true [] 0) (body_answer s)) h

pub ending_stays : (us : List Want) (r : Option Reason) (old rest : Row) → next_is (is_sign (codes ";")) old ≡ false → BodyStays r old rest → Stay (want.Ending ∷ us) r old rest
ending_stays us r old rest h b = body_stay want.Ending us r old rest (λ d. ending_row d (first old) (next_same (is_sign (codes ";")) old ∙ h)) b

body_row : (d : ℕ) (s : Option PlacedToken) → table want.Body d s ≡ body_answer s
unfolding table
body_row d s = refl

-- ---- equations

counted : (g b : Bool) → g && b ≡ false → (cond {A = ℕ} g 0 1 == 0) && b ≡ false
counted true b h = h
counted false b h = refl

defined_row : (d : ℕ) (s : Option PlacedToken) → (d == 0) && next (is_sign (codes ".")) s ≡ false → table want.Defined d s ≡ body_answer s
unfolding table
defined_row d s h = ap (λ x. on x (Takes true (want.Signed ∷ want.Body ∷ []) 0) (body_answer s)) h

defined_stays : (us : List Want) (name : Word) (ps : Params) (r : Option Reason) (called mid rest : Row) → Signature
    name ps called mid → is_getter ps.items && next_is (is_sign (codes ".")) mid ≡ false → BodyStays r mid rest
    → Stay (want.Signed ∷ want.Defined ∷ us) r called rest
defined_stays us name ps None called mid rest s h b d = tt
defined_stays us name ps (Some q) called mid rest s h b d = λ ws.
    let none = counted (is_getter ps.items) (next (is_sign (codes ".")) (first mid)) (ap (λ x. is_getter ps.items && x) (next_same (is_sign (codes ".")) mid) ∙ h) in
    signature_goes true name ps called mid s (want.Defined ∷ (us ++ ws)) d ∙ b want.Defined (cond (is_getter ps.items) 0 1) (defined_row (cond (is_getter ps.items) 0 1) (first mid) none) (us ++ ws)

pub equation_body : (us : List Want) (class name : Word) (ps : Params) (r : Option Reason) (old called mid rest : Row)
    → Owner class old called → Signature name ps called mid
    → is_getter ps.items && next_is (is_sign (codes ".")) mid ≡ false
    → BodyStays r mid rest → Stay (want.Name ∷ want.Mark (codes ".") ∷ want.Signed ∷ want.Defined ∷ us) r old rest
equation_body us class name ps r old called mid rest o s h b = owner_stays class (want.Signed ∷ want.Defined ∷ us) r old called rest o (defined_stays us name ps r called mid rest s h b)

dotted : (us : List Want) (name : Word) (ps : Params) (r : Option Reason) (called dot mid rest : Row)
    → Signature name ps called dot → is_getter ps.items ≡ true → Sign (codes ".") dot mid
    → Stay (want.Signed ∷ want.Body ∷ us) r mid rest
    → Stay (want.Signed ∷ want.Defined ∷ us) r called rest
dotted us name ps None called dot mid rest s is c st d = tt
dotted us name ps (Some q) called dot mid rest s is c st d = λ ws.
    let vs = want.Defined ∷ (us ++ ws) in
    signature_goes true name ps called dot s vs d ∙ ap (λ n. run true table vs n dot) (ap (λ b. cond {A = ℕ} b 0 1) is) ∙ ap (run true table vs 0) c.1
    ∙ run-takes true table want.Defined true (want.Signed ∷ want.Body ∷ []) (us ++ ws) 0 0 (sign (codes ".") c.0) mid (dot_row c.0) (λ h. refl) ∙ st 0 ws

pub getter_stays : (us : List Want) (class name : Word) (ps : Params) (r : Option Reason) (old called dot mid rest :
    Row) → Owner class old called → Signature name ps called dot → is_getter ps.items ≡ true → Sign (codes ".") dot mid
    → Stay (want.Signed ∷ want.Body ∷ us) r mid rest → Stay (want.Name ∷ want.Mark (codes ".") ∷ want.Signed ∷ want.Defined ∷ us) r old rest
getter_stays us class name ps r old called dot mid rest o s is c st = owner_stays class (want.Signed ∷ want.Defined ∷ us) r old called rest o (dotted us name ps r called dot mid rest s is c st)

-- an error of what stands behind a getter is one of the equation
pub behind_getter : {A : Type 0} (x : Result A (Failure JragCode)) (us : List Want) (class name : Word) (ps : Params)
    (old called dot mid rest : Row) → Owner class old called → Signature name ps called dot → is_getter ps.items ≡ true
    → Sign (codes ".") dot mid
    → IfErr x (λ e. Stay (want.Signed ∷ want.Body ∷ us) (reason_of e) mid rest) → IfErr x (λ e. Stay (want.Name ∷ want.Mark (codes ".") ∷ want.Signed ∷ want.Defined ∷ us) (reason_of e) old rest)
behind_getter (Ok a) us class name ps old called dot mid rest o s is c st = tt
behind_getter (Err e) us class name ps old called dot mid rest o s is c st = getter_stays us class name ps (reason_of e) old called dot mid rest o s is c st

pub inherited_body : (us : List Want) (name : Word) (ps : Params) (r : Option Reason) (old mid rest : Row)
    → Signature name ps old mid → BodyStays r mid rest → Stay (want.Signed ∷ want.Body ∷ us) r old rest
inherited_body us name ps r old mid rest s b = stay_then want.Signed (want.Body ∷ us) r old mid rest
    (signed_pass true name ps old mid s) (body_stay want.Body us r mid rest (λ d. body_row d (first mid)) b)

-- ---- declarations

-- an error behind a keyword is one of the declaration
pub behind_keyword : (forms : Forms) {A : Type 0} (x : Result A (Failure JragCode)) (ws : List Want)
    (mid rest old : Row) → ((r : Option Reason) → Stay ws r mid rest → Stay (want.Decls forms ∷ []) r old rest)
    → IfErr x (λ e. Stay ws (reason_of e) mid rest) → IfErr x (λ e. Stay (want.Decls forms ∷ []) (reason_of e) old rest)
behind_keyword forms (Ok a) ws mid rest old h st = tt
behind_keyword forms (Err e) ws mid rest old h st = h (reason_of e) st

pub syn_stays : (forms : Forms) (at : Place) (r : Option Reason) (old mid rest : Row)
    → old ≡ word (codes "syn") at ∷ mid → Stay (declared forms (want.Ending ∷ want.Decls forms ∷ [])) r mid rest
    → Stay (want.Decls forms ∷ []) r old rest
syn_stays forms at r old mid rest front st = stay_takes (want.Decls forms) (declared forms (want.Ending ∷ want.Decls
    forms ∷ [])) (word (codes "syn") at) r old mid rest front (λ d. (0, synthesized_row forms at d)) st

pub inh_stays : (forms : Forms) (at : Place) (r : Option Reason) (old mid rest : Row) → old
    ≡ word (codes "inh") at ∷ mid → Stay (declared forms (want.Mark (codes ";") ∷ want.Decls forms ∷ [])) r mid rest
    → Stay (want.Decls forms ∷ []) r old rest
inh_stays forms at r old mid rest front st =
    stay_takes (want.Decls forms) (declared forms (want.Mark (codes ";") ∷ want.Decls forms ∷ []))
    (word (codes "inh") at) r old mid rest front (λ d. (0, inherited_row forms at d)) st

pub eq_stays : (forms : Forms) (at : Place) (r : Option Reason) (old mid rest : Row) → old ≡ word (codes "eq") at ∷ mid
    → Stay (want.Name ∷ want.Mark (codes ".") ∷ want.Signed ∷ want.Defined ∷ want.Decls forms ∷ []) r mid rest
    → Stay (want.Decls forms ∷ []) r old rest
eq_stays forms at r old mid rest front st =
    stay_takes (want.Decls forms) (want.Name ∷ want.Mark (codes ".") ∷ want.Signed ∷ want.Defined ∷ want.Decls
    forms ∷ []) (word (codes "eq") at) r old mid rest front (λ d. (0, equation_row forms at d)) st

abbrev aspect_wants : Forms → List Want
aspect_wants forms = want.Mark (codes "{") ∷ want.Decls forms ∷ want.File forms ∷ []

pub aspect_no_name : (forms : Forms) (at : Place) (e : Failure JragCode) (old mid rest : Row) → old ≡ word
    (codes "aspect") at ∷ mid → Missing is_name_token e mid rest → Stay (want.File forms ∷ []) (reason_of e) old rest
aspect_no_name forms at e old mid rest front m =
    stay_takes (want.File forms) (want.Name ∷ aspect_wants forms) (word (codes "aspect") at) (reason_of e) old mid rest
    front (λ d. (0, aspect_row forms at d)) (no_class (aspect_wants forms) e mid rest m)

named_stays : (forms : Forms) (at : Place) (name : Word) (r : Option Reason) (old mid brace rest : Row)
    → old ≡ word (codes "aspect") at ∷ mid → grammar.Name name mid brace → Stay (aspect_wants forms) r brace rest
    → Stay (want.File forms ∷ []) r old rest
named_stays forms at name r old mid brace rest front n st =
    stay_takes (want.File forms) (want.Name ∷ aspect_wants forms) (word (codes "aspect") at) r old mid rest
    front (λ d. (0, aspect_row forms at d))
    (stay_then want.Name (aspect_wants forms) r mid brace rest (name_pass true name mid brace n) st)

pub aspect_no_brace : (forms : Forms) (at : Place) (name : Word) (e : Failure JragCode) (old mid brace rest : Row)
    → old ≡ word (codes "aspect") at ∷ mid → grammar.Name name mid brace → Missing (is_sign (codes "{")) e brace rest
    → Stay (want.File forms ∷ []) (reason_of e) old rest
aspect_no_brace forms at name e old mid brace rest front n m =
    named_stays forms at name (reason_of e) old mid brace rest front n (stay_first (want.Mark (codes "{"))
    (want.Decls forms ∷ want.File forms ∷ []) (reason_of e) brace rest (mark_missing (codes "{") e brace rest m))

pub aspect_decls : (forms : Forms) (at : Place) (name : Word) (r : Option Reason) (old mid brace inner rest : Row)
    → old ≡ word (codes "aspect") at ∷ mid → grammar.Name name mid brace → Sign (codes "{") brace inner
    → Stay (want.Decls forms ∷ []) r inner rest
    → Stay (want.File forms ∷ []) r old rest
aspect_decls forms at name r old mid brace inner rest front n s st =
    named_stays forms at name r old mid brace rest front n
    (stay_then (want.Mark (codes "{")) (want.Decls forms ∷ want.File forms ∷ []) r brace inner rest (mark_pass true
    (codes "{") brace inner s) (stay_first (want.Decls forms) (want.File forms ∷ []) r inner rest st))
