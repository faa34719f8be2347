-- A row of tokens spells one file of aspects.
use Rattle.std.proofs.Common.{◌≡◌, ℕ, List, [], ◌∷◌, Bool, true, false, cond, Option, Some, None, refl, sym, ap, ◌∙◌}
use Rattle.std.specs.Prelude.{◌||◌}
use Rattle.std.specs.Str.{bytes_eq}
use Rattle.std.proofs.lemmas.Slice.Eq.{bytes_eq-Decides}
use lib.Chars.{codes}
use Rattle.at_model.specs.Names.{is_name, reserved_words}
use Rattle.at_text.specs.Reading.{first}
use Rattle.at_text.specs.Symbols.{PlacedToken}
use Rattle.at_text.specs.declared.place.Place.{Place}
use Rattle.at_jrag.specs.declared.Forms.{Forms}
use Rattle.at_jrag.specs.Syntax as syntax
use Rattle.at_jrag.specs.Syntax.{Word, Kind, KindWord, Param, Params, BodyForm, Body, Ending, Decl, DeclForm, Aspect}
use Rattle.at_text.specs.Rows.{Row, sign, word, is_sign, is_word, next_is}
use Rattle.at_jrag.specs.Grammar.{truth_text, Circular, Sign, kind_text, IsKind, KindOf, ParamOf, MoreParams, Listed, Signature, Owner, Lazy, Index, Getter, Declared, BodyOf, EndingOf, Behind, keyword, DeclOf, Decls, AspectOf, File}
use Rattle.at_jrag.specs.Table.{next}
use Rattle.at_jrag.proofs.of_expressions.ExpressionSteps.{reserved_is_no_name, no_word}
use Rattle.at_jrag.proofs.DeclarationRuns.{NoWord, no_circular}
use Rattle.at_jrag.proofs.OneToken.{token_one, text_one, at_one, apart, name_one}
use Rattle.at_jrag.proofs.of_expressions.ExpressionLinks.{ended}
use Rattle.at_jrag.proofs.of_expressions.OneExpression.{one_expression}

-- ---- kinds

abbrev reserved_kind : List ℕ → Kind
reserved_kind text = cond (bytes_eq text (codes "int")) syntax.Int (cond (bytes_eq text (codes "boolean")) syntax.Bool' syntax.Text)

abbrev kind_of : List ℕ → Kind
kind_of text = cond (is_name text) (syntax.Class text) (reserved_kind text)

kind_back : (k : Kind) → IsKind k → kind_of (kind_text k) ≡ k
unfolding reserved_words
kind_back syntax.Int is = ap (λ x. cond x (syntax.Class (codes "int")) syntax.Int) (reserved_is_no_name (codes "int") refl)
kind_back syntax.Bool' is = ap (λ x. cond x (syntax.Class (codes "boolean")) syntax.Bool') (reserved_is_no_name (codes "boolean") refl)
kind_back syntax.Text is = ap (λ x. cond x (syntax.Class (codes "String")) syntax.Text) (reserved_is_no_name (codes "String") refl)
kind_back (syntax.Class name) is = ap (λ x. cond x (syntax.Class name) (reserved_kind name)) is

kind_is_not_lazy : (k : Kind) → IsKind k → bytes_eq (kind_text k) (codes "lazy") ≡ false
unfolding reserved_words
kind_is_not_lazy syntax.Int is = refl
kind_is_not_lazy syntax.Bool' is = refl
kind_is_not_lazy syntax.Text is = refl
kind_is_not_lazy (syntax.Class name) is = no_word name (codes "lazy") refl is

kind_one : (k j : KindWord) (x y r s : Row) → x ≡ y → KindOf k x r → KindOf j y s → (k ≡ j) × (r ≡ s)
kind_one k j x y r s same h g =
    let token = token_one same h.1 g.1 in
    let kinds : k.kind ≡ j.kind = sym (kind_back k.kind h.0) ∙ ap kind_of (text_one token.0) ∙ kind_back j.kind g.0 in
    ((λ i. record { kind = kinds i; at = at_one token.0 i }), token.1)

-- ---- parameters

param_one : (p q : Param) (x y r s : Row) → x ≡ y → ParamOf p x r → ParamOf q y s → (p ≡ q) × (r ≡ s)
param_one p q x y r s same (mid, k, n) (inner, j, m) =
    let kinds = kind_one p.kind q.kind x y mid inner same k j in
    let names = name_one p.name q.name kinds.1 n.1 m.1 in
    ((λ i. record { kind = kinds.0 i; name = names.0 i }), names.1)

more_one : (ps qs : List Param) (at by : Place) (x y r s : Row) → x ≡ y → MoreParams ps at x r → MoreParams qs by y s → (ps ≡ qs) × (at ≡ by) × (r ≡ s)
more_one [] [] at by x y r s same h k = let token = token_one same h k in (refl, at_one token.0, token.1)
more_one [] (q ∷ qs) at by x y r s same h (one, mid, c, p, m) = absurd (apart (is_sign (codes ")")) same h c.1 refl refl)
more_one (p ∷ ps) [] at by x y r s same (one, mid, c, h, m) k = absurd (apart (is_sign (codes ",")) same c.1 k refl refl)
more_one (p ∷ ps) (q ∷ qs) at by x y r s same (one, mid, c, h, m) (other, inner, d, k, n) =
    let item = param_one p q one other mid inner (token_one same c.1 d.1).1 h k in
    let more = more_one ps qs at by mid inner r s item.1 m n in
    ((λ i. item.0 i ∷ more.0 i), more.1, more.2)

listed_one : (ps qs : List Param) (at by : Place) (x y r s : Row) → x ≡ y → Listed ps at x r → Listed qs by y s → (ps ≡ qs) × (at ≡ by) × (r ≡ s)
listed_one [] [] at by x y r s same h k = let token = token_one same h k in (refl, at_one token.0, token.1)
listed_one [] (q ∷ qs) at by x y r s same h (mid, (name, k, n), m) = absurd (apart (is_sign (codes ")")) same h k.1 refl refl)
listed_one (p ∷ ps) [] at by x y r s same (mid, (name, k, n), m) h = absurd (apart (is_sign (codes ")")) (sym same) h k.1 refl refl)
listed_one (p ∷ ps) (q ∷ qs) at by x y r s same (mid, h, m) (inner, k, n) =
    let item = param_one p q x y mid inner same h k in
    let more = more_one ps qs at by mid inner r s item.1 m n in
    ((λ i. item.0 i ∷ more.0 i), more.1, more.2)

signature_one : (v w : Word) (ps qs : Params) (x y r s : Row) → x ≡ y → Signature v ps x r → Signature w qs y s → (v ≡ w) × (ps ≡ qs) × (r ≡ s)
signature_one v w ps qs x y r s same (paren, list, n, o, l) (brackets, items, m, u, k) =
    let names = name_one v w same n.1 m.1 in
    let lists = listed_one ps.items qs.items ps.end qs.end list items r s (token_one names.1 o.0.1 u.0.1).1 l k in
    (names.0, (λ i. record { items = lists.0 i; end = lists.1 i }), lists.2)

owner_one : (v w : Word) (x y r s : Row) → x ≡ y → Owner v x r → Owner w y s → (v ≡ w) × (r ≡ s)
owner_one v w x y r s same (dot, n, d) (point, m, p) =
    let names = name_one v w same n.1 m.1 in
    (names.0, (token_one names.1 d.1 p.1).1)

-- ---- declared attributes

lazy_one : (l m : Option Place) (k j : KindWord) (x y a b r s : Row) → x ≡ y → Lazy l x a → KindOf k a r → Lazy m y b → KindOf j b s → (l ≡ m) × (k ≡ j) × (r ≡ s)
lazy_one None None k j x y a b r s same h p g q =
    let kinds = kind_one k j a b r s (sym h ∙ same ∙ g) p q in (refl, kinds.0, kinds.1)
lazy_one None (Some at) k j x y a b r s same h p g q = absurd (apart (is_word (codes "lazy")) (sym same) g (h ∙ p.1) refl (kind_is_not_lazy k.kind p.0))
lazy_one (Some at) None k j x y a b r s same h p g q = absurd (apart (is_word (codes "lazy")) same h (g ∙ q.1) refl (kind_is_not_lazy j.kind q.0))
lazy_one (Some at) (Some by) k j x y a b r s same h p g q =
    let token = token_one same h g in
    let kinds = kind_one k j a b r s token.1 p q in
    (ap (λ (z : Place). Some z) (at_one token.0), kinds.0, kinds.1)

truth_one : (b c : Bool) → truth_text b ≡ truth_text c → b ≡ c
truth_one true true e = refl
truth_one true false e = absurd (let c : bytes_eq (truth_text true) (truth_text false) ≡ true = (bytes_eq-Decides (truth_text true) (truth_text false)).1 e in cc)
truth_one false true e = absurd (let c : bytes_eq (truth_text false) (truth_text true) ≡ true = (bytes_eq-Decides (truth_text false) (truth_text true)).1 e in cc)
truth_one false false e = refl

-- `circular` doesn't follow where it is absent
no_circle : {A : Type 0} (at : Place) (r mid : Row) → r ≡ word (codes "circular") at ∷ mid → NoWord (codes "circular") r → A
no_circle at r mid e n = absurd (let c : true ≡ false = sym (ap (λ (x : Row). next (is_word (codes "circular")) (first x)) e) ∙ n in cc)

circular_one : (m n : Bool) (a b : Option Bool) (x y r s : Row) → x ≡ y → Circular m a x r → Circular n b y s → NoWord (codes "circular") r → NoWord (codes "circular") s → (a ≡ b) × (r ≡ s)
circular_one m n None None x y r s same h k f g = (refl, sym h ∙ same ∙ k)
circular_one m n None (Some b) x y r s same h (may, mid, k, more) f g = no_circle k.0 r mid (sym h ∙ same ∙ k.1) f
circular_one m n (Some a) None x y r s same (may, mid, k, more) h f g = no_circle k.0 s mid (sym h ∙ sym same ∙ k.1) g
circular_one m n (Some a) (Some b) x y r s same (may, one, k, (value, close, o, w, z)) (can, other, j, (truth, end, u, v, t)) f g =
    let values = token_one (token_one (token_one same k.1 j.1).1 o.1 u.1).1 w.1 v.1 in
    (ap (λ (x : Bool). Some x) (truth_one a b (text_one values.0)), (token_one values.1 z.1 t.1).1)

-- what a declaration tells of an attribute
record SameDeclared (l m : Option Place) (k j : KindWord) (c d v w : Word) (ps qs : Params) (a b : Option Bool) (r s : Row) : Type 0 where
  lazy : l ≡ m
  kind : k ≡ j
  class : c ≡ d
  name : v ≡ w
  params : ps ≡ qs
  start : a ≡ b
  rest : r ≡ s

declared_one : (forms : Forms) (l m : Option Place) (k j : KindWord) (c d v w : Word) (ps qs : Params)
    (a b : Option Bool) (x y r s : Row) → x ≡ y → Declared forms l k c v ps a x r → Declared forms m j d w qs b y s
    → NoWord (codes "circular") r → NoWord (codes "circular") s → SameDeclared l m k j c d v w ps qs a b r s
declared_one forms l m k j c d v w ps qs a b x y r s same (kinds, z, (owner, called, behind, p, o, n, i)) (others, e, (class, name, after, q, u, t, h)) f g =
    let front = lazy_one l m k j x y kinds others owner class same z p e q in
    let owners = owner_one c d owner class called name front.2 o u in
    let names = signature_one v w ps qs called name behind after owners.1 n t in
    let starts = circular_one _ _ a b behind after r s names.2 i h f g in
    record { lazy = front.0; kind = front.1; class = owners.0; name = names.0; params = names.1; start = starts.0; rest = starts.1 }

-- ---- bodies

body_of_one : (f g : BodyForm) (b c : Body) (x y r s : Row) → x ≡ y → BodyOf (record { at = b.at; form = f; expr = b.expr }) x r → BodyOf (record { at = c.at; form = g; expr = c.expr }) y s
    → (f ≡ g) × (b.at ≡ c.at) × (b.expr ≡ c.expr) × (r ≡ s)
body_of_one syntax.Equation' syntax.Equation' b c x y r s same (one, end, o, p, z) (other, last, u, q, t) =
    let token = token_one same o u in
    let inner = one_expression b.expr c.expr one other end last token.1 p q (ended 0 z.1 refl) (ended 0 t.1 refl) in
    (refl, at_one token.0, inner.0, (token_one inner.1 z.1 t.1).1)
body_of_one syntax.Equation' syntax.Block b c x y r s same (one, end, o, p, z) (returns, other, last, close, u, k, q, t, e) = absurd (apart (is_sign (codes "=")) same o u refl refl)
body_of_one syntax.Block syntax.Equation' b c x y r s same (returns, one, end, close, o, k, p, z, e) (other, last, u, q, t) = absurd (apart (is_sign (codes "=")) (sym same) u o refl refl)
body_of_one syntax.Block syntax.Block b c x y r s same (returns, one, end, close, o, k, p, z, e) (gives, other, last, shut, u, j, q, t, d) =
    let token = token_one same o u in
    let inner = one_expression b.expr c.expr one other end last (token_one token.1 k.1 j.1).1 p q (ended 0 z.1 refl) (ended 0 t.1 refl) in
    (refl, at_one token.0, inner.0, (token_one (token_one inner.1 z.1 t.1).1 e.1 d.1).1)

body_one : (b c : Body) (x y r s : Row) → x ≡ y → BodyOf b x r → BodyOf c y s → (b ≡ c) × (r ≡ s)
body_one b c x y r s same h k =
    let one = body_of_one b.form c.form b c x y r s same h k in
    ((λ i. record { at = one.1 i; form = one.0 i; expr = one.2 i }), one.3)

body_of_begins : (f : BodyForm) (b : Body) (x r : Row) → BodyOf (record { at = b.at; form = f; expr = b.expr }) x r → next_is (λ t. is_sign (codes "=") t || is_sign (codes "{") t) x ≡ true
body_of_begins syntax.Equation' b x r (one, end, o, p, z) = ap (next_is (λ t. is_sign (codes "=") t || is_sign (codes "{") t)) o
body_of_begins syntax.Block b x r (returns, one, end, close, o, k, p, z, e) = ap (next_is (λ t. is_sign (codes "=") t || is_sign (codes "{") t)) o

-- no other sign begins a body
no_body : {t : PlacedToken} (b : Body) (x y r s : Row) → x ≡ y → BodyOf b x r → y ≡ t ∷ s → is_sign (codes "=") t || is_sign (codes "{") t ≡ false → ⊥
no_body b x y r s same h e none =
    absurd (let c : true ≡ false = sym (body_of_begins b.form b x r h) ∙ ap (next_is (λ t. is_sign (codes "=") t || is_sign (codes "{") t)) (same ∙ e) ∙ none in cc)

ending_one : (a b : Ending) (x y r s : Row) → x ≡ y → EndingOf a x r → EndingOf b y s → (a ≡ b) × (r ≡ s)
ending_one (syntax.With b) (syntax.With c) x y r s same h k = let one = body_one b c x y r s same h k in (ap syntax.With one.0, one.1)
ending_one (syntax.With b) (syntax.Semicolon at) x y r s same h k = absurd (no_body b x y r s same h k refl)
ending_one (syntax.Semicolon at) (syntax.With c) x y r s same h k = absurd (no_body c y x s r (sym same) k h refl)
ending_one (syntax.Semicolon at) (syntax.Semicolon by) x y r s same h k = let token = token_one same h k in (ap syntax.Semicolon (at_one token.0), token.1)

-- ---- equations

index_one : (i j : Option Word) (x y r s : Row) → x ≡ y → Index i x r → Index j y s → (i ≡ j) × (r ≡ s)
index_one None None x y r s same h k = (refl, (token_one same h.1 k.1).1)
index_one None (Some w) x y r s same h (one, close, k, n, c) = absurd (apart (is_sign (codes ")")) same h.1 k.1 refl refl)
index_one (Some v) None x y r s same (one, close, k, n, c) h = absurd (apart (is_sign (codes ")")) (sym same) h.1 k.1 refl refl)
index_one (Some v) (Some w) x y r s same (one, close, k, n, c) (other, shut, j, m, d) =
    let names = name_one v w (token_one same k.1 j.1).1 n.1 m.1 in
    (ap (λ (z : Word). Some z) names.0, (token_one names.1 c.1 d.1).1)

getter_one : (v w : Word) (i j : Option Word) (x y r s : Row) → x ≡ y → Getter v i x r → Getter w j y s → (v ≡ w) × (i ≡ j) × (r ≡ s)
getter_one v w i j x y r s same (paren, list, dot, n, o, l, d) (brackets, items, point, m, u, k, p) =
    let names = name_one v w same n.1 m.1 in
    let indices = index_one i j list items dot point (token_one names.1 o.0.1 u.0.1).1 l k in
    (names.0, indices.0, (token_one indices.1 d.1 p.1).1)

-- behind parameters stands a body, and a `.` behind a getter
no_getter : (ps : List Param) (at : Place) (i : Option Word) (b : Body) (x y r s rest next : Row) → x ≡ y → Listed ps at x r → Index i y s → BodyOf b r rest → Sign (codes ".") s next → ⊥
no_getter [] at None b x y r s rest next same h k p d = no_body b r s rest next (token_one same h k.1).1 p d.1 refl
no_getter [] at (Some w) b x y r s rest next same h (one, close, k, n, c) p d = apart (is_sign (codes ")")) same h k.1 refl refl
no_getter (q ∷ qs) at None b x y r s rest next same (mid, (name, j, m), h) k p d = apart (is_sign (codes ")")) (sym same) k.1 j.1 refl refl
no_getter (q ∷ []) at (Some w) b x y r s rest next same (mid, (name, j, m), h) (one, close, k, n, c) p d =
    no_body b r s rest next (token_one (name_one q.name w (token_one same j.1 k.1).1 m.1 n.1).1 h c.1).1 p d.1 refl
no_getter (q ∷ o ∷ ps) at (Some w) b x y r s rest next same (mid, (name, j, m), (other, inner, e, u, h)) (one, close, k, n, c) p d =
    apart (is_sign (codes ",")) (name_one q.name w (token_one same j.1 k.1).1 m.1 n.1).1 e.1 c.1 refl refl

-- an equation of a synthesized attribute and one of an inherited attribute begin no one row
inherited_apart : (v name w : Word) (ps : Params) (b : Body) (getter : Word) (i : Option Word) (x y r end s : Row) → x ≡ y → Owner v x r → Signature name ps r end → (rest : Row) → BodyOf b end rest
    → (got : Row) → Owner w y got → Getter getter i got s → ⊥
inherited_apart v name w ps b getter i x y r end s same o (paren, list, n, u, l) rest p got q (brackets, items, dot, m, e, k, d) =
    let owners = owner_one v w x y r got same o q in
    let names = name_one name getter owners.1 n.1 m.1 in
    no_getter ps.items ps.end i b list items end dot rest s (token_one names.1 u.0.1 e.0.1).1 l k p d

-- ---- declarations

semicolon_follows : (old rest : Row) → Sign (codes ";") old rest → NoWord (codes "circular") old
semicolon_follows old rest h = ap (λ (x : Row). next (is_word (codes "circular")) (first x)) h.1

-- what stands behind a declaration's first word
behind_one : (forms : Forms) (f g : DeclForm) → keyword f ≡ keyword g → (x y r s : Row) → x ≡ y → Behind forms f x r → Behind forms g y s → (f ≡ g) × (r ≡ s)
behind_one forms (syntax.Synthesized l k c v ps o a) (syntax.Synthesized m j d w qs u b) e x y r s same (end, h, p) (last, t, q) =
    let one = declared_one forms l m k j c d v w ps qs o u x y end last same h t (no_circular a end r p) (no_circular b last s q) in
    let ends = ending_one a b end last r s one.rest p q in
    ((λ i. syntax.Synthesized (one.lazy i) (one.kind i) (one.class i) (one.name i) (one.params i) (one.start i) (ends.0 i)), ends.1)
behind_one forms (syntax.Inherited l k c v ps o) (syntax.Inherited m j d w qs u) e x y r s same (end, h, p) (last, t, q) =
    let one = declared_one forms l m k j c d v w ps qs o u x y end last same h t (semicolon_follows end r p) (semicolon_follows last s q) in
    ((λ i. syntax.Inherited (one.lazy i) (one.kind i) (one.class i) (one.name i) (one.params i) (one.start i)), (token_one one.rest p.1 q.1).1)
behind_one forms (syntax.Equation c v ps a) (syntax.Equation d w qs b) e x y r s same (called, body, o, n, p) (name, inner, u, t, q) =
    let owners = owner_one c d x y called name same o u in
    let names = signature_one v w ps qs called name body inner owners.1 n t in
    let bodies = body_one a b body inner r s names.2 p q in
    ((λ i. syntax.Equation (owners.0 i) (names.0 i) (names.1 i) (bodies.0 i)), bodies.1)
behind_one forms (syntax.Equation c v ps a) (syntax.InheritedEquation d g i w qs b) e x y r s same (called, body, o, n, p) (got, name, inner, u, z, t, q) =
    absurd (inherited_apart c v d ps a g i x y called body name same o n r p got u z)
behind_one forms (syntax.InheritedEquation c g i v ps a) (syntax.Equation d w qs b) e x y r s same (got, name, inner, u, z, t, q) (called, body, o, n, p) =
    absurd (inherited_apart d w c qs b g i y x called body name (sym same) o n s p got u z)
behind_one forms (syntax.InheritedEquation c g i v ps a) (syntax.InheritedEquation d h j w qs b) e x y r s same (got, called, body, o, z, n, p) (gives, name, inner, u, k, t, q) =
    let owners = owner_one c d x y got gives same o u in
    let getters = getter_one g h i j got gives called name owners.1 z k in
    let names = signature_one v w ps qs called name body inner getters.2 n t in
    let bodies = body_one a b body inner r s names.2 p q in
    ((λ i. syntax.InheritedEquation (owners.0 i) (getters.0 i) (getters.1 i) (names.0 i) (names.1 i) (bodies.0 i)), bodies.1)
behind_one forms f g e x y r s same h k = absurd (let c : bytes_eq (keyword f) (keyword g) ≡ true = (bytes_eq-Decides (keyword f) (keyword g)).1 e in cc)

decl_one : (forms : Forms) (d e : Decl) (x y r s : Row) → x ≡ y → DeclOf forms d x r → DeclOf forms e y s → (d ≡ e) × (r ≡ s)
decl_one forms d e x y r s same (behind, k, h) (after, j, g) =
    let token = token_one same k j in
    let one = behind_one forms d.form e.form (text_one token.0) behind after r s token.1 h g in
    ((λ i. record { at = at_one token.0 i; form = one.0 i }), one.1)

decls_one : (forms : Forms) (ds es : List Decl) (at by : Place) (x y r s rest other : Row) → x ≡ y → Decls forms ds x r
    → Decls forms es y s → r ≡ sign (codes "}") at ∷ rest → s ≡ sign (codes "}") by ∷ other → (ds ≡ es) × (r ≡ s)
decls_one forms [] [] at by x y r s rest other same h k p q = (refl, sym h ∙ same ∙ k)
decls_one forms [] (e ∷ es) at by x y r s rest other same h (mid, (behind, k, g), m) p q = absurd (apart (is_sign (codes "}")) same (h ∙ p) k refl refl)
decls_one forms (d ∷ ds) [] at by x y r s rest other same (mid, (behind, k, g), m) h p q = absurd (apart (is_sign (codes "}")) (sym same) (h ∙ q) k refl refl)
decls_one forms (d ∷ ds) (e ∷ es) at by x y r s rest other same (mid, h, m) (inner, k, n) p q =
    let one = decl_one forms d e x y mid inner same h k in
    let more = decls_one forms ds es at by mid inner r s rest other one.1 m n p q in
    ((λ i. one.0 i ∷ more.0 i), more.1)

-- ---- files

aspect_one : (forms : Forms) (a b : Aspect) (x y r s : Row) → x ≡ y → AspectOf forms a x r → AspectOf forms b y s → (a ≡ b) × (r ≡ s)
aspect_one forms a b x y r s same (named, brace, inner, close, k, n, o, d, c) (called, opens, begins, shut, j, m, u, e, z) =
    let names = name_one a.name b.name (token_one same k.1 j.1).1 n.1 m.1 in
    let decls = decls_one forms a.decls b.decls c.0 z.0 inner begins close shut r s (token_one names.1 o.1 u.1).1 d e c.1 z.1 in
    ((λ i. record { name = names.0 i; decls = decls.0 i }), (token_one decls.1 c.1 z.1).1)

aspects_one : (forms : Forms) (as' bs : List Aspect) (x y : Row) → x ≡ y → File forms as' x [] → File forms bs y [] → as' ≡ bs
aspects_one forms [] [] x y same h k = refl
aspects_one forms [] (b ∷ bs) x y same h (mid, (named, brace, inner, close, k, n, o, d, c), m) = absurd (let l : [] ≡ _ ∷ named = sym h ∙ same ∙ k.1 in cc)
aspects_one forms (a ∷ as') [] x y same (mid, (named, brace, inner, close, k, n, o, d, c), m) h = absurd (let l : [] ≡ _ ∷ named = sym h ∙ sym same ∙ k.1 in cc)
aspects_one forms (a ∷ as') (b ∷ bs) x y same (mid, h, m) (inner, k, n) =
    let one = aspect_one forms a b x y mid inner same h k in
    λ i. one.0 i ∷ aspects_one forms as' bs mid inner one.1 m n i

-- a row of tokens spells one file
pub one_file : (forms : Forms) (as' bs : List Aspect) (row : Row) → File forms as' row [] → File forms bs row [] → as' ≡ bs
one_file forms as' bs row h k = aspects_one forms as' bs row row refl h k
