-- How reading a declaration follows from reading its parts.
use Rattle.std.proofs.Common.{◌≡◌, ℕ, ◌≤◌, ◌<◌, List, [], ◌∷◌, ◌++◌, Bool, true, Option, Some, None, length, refl, sym, ap, subst, ◌∙◌, append_assoc, arith}
use Rattle.std.specs.Prelude.{Result, Ok, Err, IfOk}
use lib.Chars.{codes}
use Rattle.at_text.specs.declared.place.Place.{Place}
use Rattle.at_jrag.specs.declared.Forms.{Forms}
use Rattle.at_jrag.specs.View.{decl_view}
use Rattle.at_jrag.specs.declared.syntax.Decl.{Decl as DeclValue}
use Rattle.at_jrag.specs.declared.reader.declarations.Target.{Target}
use Rattle.at_jrag.specs.Syntax as syntax
use Rattle.at_jrag.specs.Syntax.{Word, Param, Params, KindWord, Body, Ending, Decl, DeclForm, Aspect}
use Rattle.at_text.specs.Rows.{Row, word}
use Rattle.at_jrag.specs.Grammar.{Circular, kind_text, Sign, Lazy, ParamOf, MoreParams, Listed, Signature, Owner, Index, Getter, Declared, BodyOf, EndingOf, Behind, DeclOf, Decls, AspectOf, File}
use Rattle.at_jrag.specs.Heads.{is_getter, is_int, index, TargetOf}
use Rattle.at_jrag.proofs.of_expressions.Expressions.{takes_one, spells_shorter}

-- ---- parameters

-- The parameters so far were read, and one more is wanted.
abbrev pub Wanted : List Param → Row → Row → Type 0
Wanted ps start old = (p : Param) (more : List Param) (end : Place) (mid rest : Row) → ParamOf p old mid → MoreParams more end mid rest → Listed (ps ++ p ∷ more) end start rest

pub wanted_first : (old : Row) → Wanted [] old old
wanted_first old p more end mid rest r m = (mid, r, m)

pub wanted_next : (ps : List Param) (p : Param) (start old mid next : Row) → Wanted ps start old → ParamOf p old mid → Sign (codes ",") mid next → Wanted (ps ++ p ∷ []) start next
wanted_next ps p start old mid next w r c q more end last rest s m =
    subst (λ (x : List Param). Listed x end start rest) (sym (append_assoc ps (p ∷ []) (q ∷ more))) (w p (q ∷ more) end mid rest r (next, last, c, s, m))

pub index_last : (ps : List Param) (p : Param) → index (ps ++ p ∷ []) ≡ Some p.name
index_last [] p = refl
index_last (q ∷ []) p = refl
index_last (q ∷ r ∷ ps) p = index_last (r ∷ ps) p

-- ---- each form takes a token at least

param_shorter : (p : Param) (old rest : Row) → ParamOf p old rest → length rest < length old
param_shorter p old rest (mid, k, n) = omega (arith, takes_one _ old mid k.1, takes_one _ mid rest n.1)

pub param_next : (p : Param) (old mid next : Row) → ParamOf p old mid → Sign (codes ",") mid next → length next < length old
param_next p old mid next r c = omega (arith, param_shorter p old mid r, takes_one _ mid next c.1)

more_shorter : (ps : List Param) (end : Place) (old rest : Row) → MoreParams ps end old rest → length rest < length old
more_shorter [] end old rest h = takes_one _ old rest h
more_shorter (p ∷ ps) end old rest (one, more, c, r, m) = omega (arith, takes_one _ old one c.1, param_shorter p one more r, more_shorter ps end more rest m)

listed_shorter : (ps : List Param) (end : Place) (old rest : Row) → Listed ps end old rest → length rest < length old
listed_shorter [] end old rest h = takes_one _ old rest h
listed_shorter (p ∷ ps) end old rest (more, r, m) = omega (arith, param_shorter p old more r, more_shorter ps end more rest m)

signature_shorter : (name : Word) (ps : Params) (old rest : Row) → Signature name ps old rest → length rest < length old
signature_shorter name ps old rest (paren, list, n, o, l) = omega (arith, takes_one _ old paren n.1, takes_one _ paren list o.0.1, listed_shorter ps.items ps.end list rest l)

owner_shorter : (class : Word) (old rest : Row) → Owner class old rest → length rest < length old
owner_shorter class old rest (dot, n, d) = omega (arith, takes_one _ old dot n.1, takes_one _ dot rest d.1)

lazy_shorter : (lazy : Option Place) (old rest : Row) → Lazy lazy old rest → length rest ≤ length old
lazy_shorter None old rest h = let l : length old ≡ length rest = ap length h in omega (arith, l)
lazy_shorter (Some at) old rest h = omega (arith, takes_one _ old rest h)

circular_shorter : (m : Bool) (start : Option Bool) (old rest : Row) → Circular m start old rest → length rest ≤ length old
circular_shorter m None old rest h = let l : length old ≡ length rest = ap length h in omega (arith, l)
circular_shorter m (Some b) old rest (may, bracket, k, (value, close, s, j, z)) =
    omega (arith, takes_one _ old bracket k.1, takes_one _ bracket value s.1, takes_one _ value close j.1, takes_one _ close rest z.1)

declared_shorter : (forms : Forms) (lazy : Option Place) (k : KindWord) (class name : Word) (ps : Params) (start :
    Option Bool) (old rest : Row) → Declared forms lazy k class name ps start old rest → length rest < length old
declared_shorter forms lazy k class name ps start old rest (kinds, l, (owner, called, behind, t, o, s, c)) =
    omega (arith, lazy_shorter lazy old kinds l, takes_one _ kinds owner t.1, owner_shorter class owner called o, signature_shorter name ps called behind s, circular_shorter _ start behind rest c)

equation_shorter : (at : Place) (b : Body) (old rest : Row) → BodyOf (record { at = at; form = syntax.Equation'; expr = b.expr }) old rest → length rest < length old
equation_shorter at b old rest (one, end, e, r, s) = omega (arith, takes_one _ old one e, spells_shorter b.expr one end r, takes_one _ end rest s.1)

block_shorter : (at : Place) (b : Body) (old rest : Row) → BodyOf (record { at = at; form = syntax.Block; expr = b.expr }) old rest → length rest < length old
block_shorter at b old rest (returns, one, end, close, e, k, r, s, c) =
    omega (arith, takes_one _ old returns e, takes_one _ returns one k.1, spells_shorter b.expr one end r, takes_one _ end close s.1, takes_one _ close rest c.1)

body_of : (f : syntax.BodyForm) (b : Body) (old rest : Row) → BodyOf (record { at = b.at; form = f; expr = b.expr }) old rest → length rest < length old
body_of syntax.Equation' b old rest h = equation_shorter b.at b old rest h
body_of syntax.Block b old rest h = block_shorter b.at b old rest h

body_shorter : (b : Body) (old rest : Row) → BodyOf b old rest → length rest < length old
body_shorter b old rest h = body_of b.form b old rest h

ending_shorter : (e : Ending) (old rest : Row) → EndingOf e old rest → length rest < length old
ending_shorter (syntax.With b) old rest h = body_shorter b old rest h
ending_shorter (syntax.Semicolon at) old rest h = takes_one _ old rest h

index_shorter : (i : Option Word) (old rest : Row) → Index i old rest → length rest < length old
index_shorter None old rest h = takes_one _ old rest h.1
index_shorter (Some w) old rest (one, close, k, n, c) = omega (arith, takes_one _ old one k.1, takes_one _ one close n.1, takes_one _ close rest c.1)

getter_shorter : (name : Word) (i : Option Word) (old rest : Row) → Getter name i old rest → length rest < length old
getter_shorter name i old rest (paren, list, dot, n, o, x, d) = omega (arith, takes_one _ old paren n.1, takes_one _ paren list o.0.1, index_shorter i list dot x, takes_one _ dot rest d.1)

behind_shorter : (forms : Forms) (f : DeclForm) (old rest : Row) → Behind forms f old rest → length rest < length old
behind_shorter forms (syntax.Synthesized lazy k class name ps start ending) old rest (end, d, e) =
    omega (arith, declared_shorter forms lazy k class name ps start old end d, ending_shorter ending end rest e)
behind_shorter forms (syntax.Inherited lazy k class name ps start) old rest (end, d, e) = omega (arith, declared_shorter forms lazy k class name ps start old end d, takes_one _ end rest e.1)
behind_shorter forms (syntax.Equation class name ps b) old rest (called, body, o, s, e) =
    omega (arith, owner_shorter class old called o, signature_shorter name ps called body s, body_shorter b body rest e)
behind_shorter forms (syntax.InheritedEquation class getter i name ps b) old rest (got, called, body, o, g, s, e) =
    omega (arith, owner_shorter class old got o, getter_shorter getter i got called g, signature_shorter name ps called body s, body_shorter b body rest e)

pub decl_shorter : (forms : Forms) (d : Decl) (old rest : Row) → DeclOf forms d old rest → length rest < length old
decl_shorter forms d old rest (behind, k, b) = omega (arith, takes_one _ old behind k, behind_shorter forms d.form behind rest b)

decls_shorter : (forms : Forms) (ds : List Decl) (old rest : Row) → Decls forms ds old rest → length rest ≤ length old
decls_shorter forms [] old rest h = let l : length old ≡ length rest = ap length h in omega (arith, l)
decls_shorter forms (d ∷ ds) old rest (more, r, m) = omega (arith, decl_shorter forms d old more r, decls_shorter forms ds more rest m)

pub aspect_shorter : (forms : Forms) (a : Aspect) (old rest : Row) → AspectOf forms a old rest → length rest < length old
aspect_shorter forms a old rest (named, brace, inner, close, k, n, b, d, c) =
    omega (arith, takes_one _ old named k.1, takes_one _ named brace n.1, takes_one _ brace inner b.1, decls_shorter forms a.decls inner close d, takes_one _ close rest c.1)

-- ---- loops

pub decls_push : (forms : Forms) (ds : List Decl) (d : Decl) (old mid rest : Row) → Decls forms ds old mid → DeclOf forms d mid rest → Decls forms (ds ++ d ∷ []) old rest
decls_push forms [] d old mid rest e r = (rest, subst (λ (x : Row). DeclOf forms d x rest) (sym e) r, refl)
decls_push forms (x ∷ ds) d old mid rest (more, first, h) r = (more, first, decls_push forms ds d more mid rest h r)

pub file_push : (forms : Forms) (as' : List Aspect) (a : Aspect) (old mid rest : Row) → File forms as' old mid → AspectOf forms a mid rest → File forms (as' ++ a ∷ []) old rest
file_push forms [] a old mid rest e r = (rest, subst (λ (x : Row). AspectOf forms a x rest) (sym e) r, refl)
file_push forms (x ∷ as') a old mid rest (more, first, h) r = (more, first, file_push forms as' a more mid rest h r)

-- ---- equations

int_text : (k : syntax.Kind) → is_int k ≡ true → kind_text k ≡ codes "int"
int_text syntax.Int is = refl
int_text syntax.Bool' is = absurd cc
int_text syntax.Text is = absurd cc
int_text (syntax.Class name) is = absurd cc

-- a getter's parameters are the index
getter_index : (ps : List Param) (end : Place) (list rest : Row) → is_getter ps ≡ true → Listed ps end list rest → Index (index ps) list rest
getter_index [] end list rest is h = (end, h)
getter_index (p ∷ []) end list rest is (more, (mid, k, n), h) = (mid, more, (p.kind.at, k.1 ∙ (λ i. word (int_text p.kind.kind is i) p.kind.at ∷ mid)), n, (end, h))
getter_index (p ∷ q ∷ ps) end list rest is h = absurd cc

pub getter_read : (name : Word) (ps : Params) (old mid rest : Row) → is_getter ps.items ≡ true → Signature name ps old mid → Sign (codes ".") mid rest → Getter name (index ps.items) old rest
getter_read name ps old mid rest is (paren, list, n, o, l) d = (paren, list, mid, n, o, getter_index ps.items ps.end list mid is l, d)

-- a declaration was read behind its keyword
pub decl_read : (forms : Forms) {E : Type 0} (r : Result DeclValue E) (text : List ℕ) (at : Place) (old mid rest : Row)
    → IfOk r (λ d. (o : Row) → o ≡ word text at ∷ mid → DeclOf forms (decl_view d) o rest) → old ≡ word text at ∷ mid → IfOk r (λ d. DeclOf forms (decl_view d) old rest)
decl_read forms (Ok d) text at old mid rest h e = h old e
decl_read forms (Err e) text at old mid rest h f = tt

-- an equation of an inherited attribute was read behind its getter
pub equation_read : (forms : Forms) {E : Type 0} (r : Result DeclValue E) (t : Target) (at : Place) (named mid dot rest : Row)
    → IfOk r (λ d. (o n m : Row) → o ≡ word (codes "eq") at ∷ n → TargetOf t n m → Sign (codes ".") m dot → DeclOf forms (decl_view d) o rest) → TargetOf t named mid → Sign (codes ".") mid dot
    → IfOk r (λ d. (o : Row) → o ≡ word (codes "eq") at ∷ named → DeclOf forms (decl_view d) o rest)
equation_read forms (Ok d) t at named mid dot rest h is s = λ o e. h o named mid e is s
equation_read forms (Err e) t at named mid dot rest h is s = tt
