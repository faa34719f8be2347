-- What is told apart: pairs of names and numbers, and calls by them.
use Rattle.std.proofs.Common.{◌≡◌, ◌∙◌, ℕ, List, [], ◌∷◌, ◌++◌, Bool, true, false, cond, not, ◌&&◌, ◌||◌, nat_eq, nat_le, length, map, Vec, Box, String, string_bytes, Result, IfOk, refl, sym, ap, ap₂, subst, true≢false, zero, suc, ◌+◌, ◌<◌, ◌≤◌, get_or, take, add-one, arith, eqb-true, Bor}
use Rattle.std.specs.Global.{Global}
use Rattle.std.specs.List.{AllByRecursion, list_any}
use Rattle.std.specs.Str.{bytes_eq}
use Rattle.at_model.specs.Classes.{Classes}
use Rattle.at_model.specs.Rules.{name_by}
use Rattle.at_model.proofs.Options.{both}
use Rattle.at_model.proofs.of_texts.Shaped.{same_bytes}
use Rattle.at_text.specs.declared.place.Place.{Place}
use Rattle.indexmap.specs.IndexSet.{insert_key}
use Rattle.at_jrag.specs.View.{expr_view, form_view}
use Rattle.at_jrag.specs.declared.syntax.Expr.{Expr as ExprValue}
use Rattle.at_jrag.specs.Syntax.{Word, Params, Expr, Exprs, no_exprs, expr, to_exprs, from_exprs, Number, TextLiteral, Truth, Null, This, Name, Call, CallOf, Paren, Negate, Not, Cast, InstanceOf, Binary, Choose, Fold, Body, Ending, With, Semicolon, DeclForm, Synthesized, Inherited, Equation, InheritedEquation, Decl, Aspect}
use Rattle.at_jrag.specs.declared.syntax.Form.TheVariants as form
use Rattle.at_java.proofs.SeenForms.{call_form, call_of_form, seen_call, seen_call_of}
use Rattle.at_start.specs.Overloading.{Counted, Overloads, all_counted, apart, all_apart, apart_among, aspect_apart, body_apart, decl_apart, declares, ending_apart, files_apart, form_apart, is_declared_by, is_overloaded, needs_number, told, told_apart, word_apart, HaveNoneOverloaded}
use Rattle.at_start.specs.Pairs.{has_pair, needs_in, overloaded_in}
use Rattle.at_start.specs.declared.overloaded.pairs.Pairs.{Pairs}
use Rattle.at_kinds.specs.Accessors.{is_accessor}
use Rattle.at_start.specs.Spreading.{HaveNoneEverywhere, is_everywhere}

-- ---- what is told apart of calls, by the lists of their arguments

-- the arguments of a call, as they are seen
pub apart_row : (is : Overloads) (xs : List ExprValue) → all_apart is (to_exprs (map expr_view xs)) ≡ to_exprs (map (λ x. apart is (expr_view x)) xs)
apart_row is [] = refl
apart_row is (x ∷ xs) = ap (expr (apart is (expr_view x))) (apart_row is xs)

pub counted_row : (xs : List ExprValue) → length (from_exprs (to_exprs (map expr_view xs))) ≡ length xs
counted_row [] = refl
counted_row (x ∷ xs) = ap suc (counted_row xs)

-- calls, whose parts are told apart
module _ (is : Overloads) (e : ExprValue) where
  pub call_apart : (s t : String Global) (es fs : Vec ExprValue Global) (name : List ℕ) (count : ℕ) (xs : List ExprValue)
      → e.form ≡ form.Call s es → name ≡ string_bytes s → count ≡ length es.items → string_bytes t ≡ told is name count
      → xs ≡ es.items → map expr_view fs.items ≡ map (λ x. apart is (expr_view x)) xs → form_view (form.Call t fs) e.at ≡ apart is (expr_view e)
  call_apart s t es fs name count xs is_form is_name counts same is_xs each =
      let number = counts ∙ ap (λ (v : List ExprValue). length v) (sym is_xs) ∙ sym (counted_row xs) in
      call_form e.at t fs
      ∙ ap₂ (λ u ys. Call e.at u (to_exprs ys)) (same ∙ ap₂ (told is) is_name number) each
      ∙ ap (λ ys. Call e.at (told is (string_bytes s) (length (from_exprs (to_exprs (map expr_view xs))))) ys) (sym (apart_row is xs))
      ∙ sym (ap (apart is) (seen_call e s es xs is_form is_xs))

  pub call_of_apart : (p q : Box ExprValue Global) (s t : String Global) (es fs : Vec ExprValue Global) (x : ExprValue)
      (name : List ℕ) (count : ℕ) (xs : List ExprValue) → e.form ≡ form.CallOf p s es → x ≡ p.value → expr_view q.value ≡ apart is (expr_view x)
      → name ≡ string_bytes s → count ≡ length es.items → string_bytes t ≡ told is name count
      → xs ≡ es.items → map expr_view fs.items ≡ map (λ y. apart is (expr_view y)) xs → form_view (form.CallOf q t fs) e.at ≡ apart is (expr_view e)
  call_of_apart p q s t es fs x name count xs is_form is_x inner is_name counts same is_xs each =
      let number = counts ∙ ap (λ (v : List ExprValue). length v) (sym is_xs) ∙ sym (counted_row xs) in
      call_of_form e.at q t fs
      ∙ ap₂ (λ y u. CallOf e.at y u (to_exprs (map expr_view fs.items))) inner (same ∙ ap₂ (told is) is_name number)
      ∙ ap (λ ys. CallOf e.at (apart is (expr_view x)) (told is (string_bytes s) (length (from_exprs (to_exprs (map expr_view xs))))) (to_exprs ys)) each
      ∙ ap (λ ys. CallOf e.at (apart is (expr_view x)) (told is (string_bytes s) (length (from_exprs (to_exprs (map expr_view xs))))) ys)
      (sym (apart_row is xs))
      ∙ sym (ap (apart is) (seen_call_of e p s es x xs is_form is_x is_xs))

-- ---- nothing is overloaded

module _ (is : Overloads) (none : (name : List ℕ) (count : ℕ) → is name count ≡ false) where
  told_plain : (name : List ℕ) (count : ℕ) → told is name count ≡ name
  told_plain name count = ap (λ (b : Bool). cond b (name_by name count) name) (none name count)

  mutual
    apart_plain : (e : Expr) → apart is e ≡ e
    apart_plain (Number at n) = refl
    apart_plain (TextLiteral at text) = refl
    apart_plain (Truth at b) = refl
    apart_plain (Null at) = refl
    apart_plain (This at) = refl
    apart_plain (Name at text) = refl
    apart_plain (Call at name es) = ap₂ (Call at) (told_plain name (length (from_exprs es))) (all_plain es)
    apart_plain (CallOf at e name es) =
        ap₂ (λ x xs. CallOf at x (told is name (length (from_exprs es))) xs) (apart_plain e) (all_plain es)
        ∙ ap (λ text. CallOf at e text es) (told_plain name (length (from_exprs es)))
    apart_plain (Paren at e) = ap (Paren at) (apart_plain e)
    apart_plain (Negate at e) = ap (Negate at) (apart_plain e)
    apart_plain (Not at e) = ap (Not at) (apart_plain e)
    apart_plain (Cast at class e) = ap (Cast at class) (apart_plain e)
    apart_plain (InstanceOf at e behind class) = ap (λ x. InstanceOf at x behind class) (apart_plain e)
    apart_plain (Binary at operator between a b) = ap₂ (Binary at operator between) (apart_plain a) (apart_plain b)
    apart_plain (Choose at c behind a b) =
        ap₂ (λ x y. Choose at x behind y (apart is b)) (apart_plain c) (apart_plain a) ∙ ap (Choose at c behind a) (apart_plain b)
    apart_plain (Fold at form name list body) = ap₂ (Fold at form name) (apart_plain list) (apart_plain body)

    all_plain : (es : Exprs) → all_apart is es ≡ es
    all_plain no_exprs = refl
    all_plain (expr e es) = ap₂ expr (apart_plain e) (all_plain es)

  body_plain : (b : Body) → body_apart is b ≡ b
  body_plain b = ap (λ (e : Expr). let c : Body = record { at = b.at; form = b.form; expr = e } in c) (apart_plain b.expr)

  ending_plain : (e : Ending) → ending_apart is e ≡ e
  ending_plain (With b) = ap With (body_plain b)
  ending_plain (Semicolon at) = refl

  word_plain : (w : Word) (params : Params) → word_apart is w params ≡ w
  word_plain w params = ap (λ (t : List ℕ). let v : Word = record { text = t; at = w.at } in v) (told_plain w.text (length params.items))

  form_plain : (form : DeclForm) → form_apart is form ≡ form
  form_plain (Synthesized lazy kind class name params start ending) =
      ap₂ (λ w e. Synthesized lazy kind class w params start e) (word_plain name params) (ending_plain ending)
  form_plain (Inherited lazy kind class name params start) = ap (λ w. Inherited lazy kind class w params start) (word_plain name params)
  form_plain (Equation class name params body) = ap₂ (λ w b. Equation class w params b) (word_plain name params) (body_plain body)
  form_plain (InheritedEquation class getter index name params body) =
      ap₂ (λ w b. InheritedEquation class getter index w params b) (word_plain name params) (body_plain body)

  decls_plain : (ds : List Decl) → map (decl_apart is) ds ≡ ds
  decls_plain [] = refl
  decls_plain (d ∷ ds) =
      ap₂ (λ (form : DeclForm) (rest : List Decl). let e : Decl = record { at = d.at; form = form } in e ∷ rest)
      (form_plain d.form) (decls_plain ds)

  aspects_plain : (as' : List Aspect) → map (aspect_apart is) as' ≡ as'
  aspects_plain [] = refl
  aspects_plain (a ∷ as') =
      ap₂ (λ (ds : List Decl) (rest : List Aspect). let b : Aspect = record { name = a.name; decls = ds } in b ∷ rest)
      (decls_plain a.decls) (aspects_plain as')

  pub files_plain : (files : List (List Aspect)) → files_apart is files ≡ files
  files_plain [] = refl
  files_plain (f ∷ fs) = ap₂ (λ (g : List Aspect) (rest : List (List Aspect)). g ∷ rest) (aspects_plain f) (files_plain fs)

pub none_told_apart : (classes : Classes) (files : List (List Aspect)) → HaveNoneOverloaded classes files → told_apart classes files ≡ files
none_told_apart classes files none = by (nat_le (length (all_counted files)) 2000)
  where
    by : (b : Bool) → cond b (apart_among classes (all_counted files) files) files ≡ files
    by true = files_plain (is_overloaded classes (all_counted files)) none files
    by false = refl

-- ---- for which class attributes are declared stays

module _ (is : Overloads) where
  stays_below : (form : DeclForm) → is_everywhere (form_apart is form) ≡ is_everywhere form
  stays_below (Synthesized lazy kind class name params start ending) = refl
  stays_below (Inherited lazy kind class name params start) = refl
  stays_below (Equation class name params body) = refl
  stays_below (InheritedEquation class getter index name params body) = refl

  abbrev IsBelow : Decl → Type 0
  IsBelow d = is_everywhere d.form ≡ false

  decls_below : (ds : List Decl) → AllByRecursion IsBelow ds → AllByRecursion IsBelow (map (decl_apart is) ds)
  decls_below [] are = tt
  decls_below (d ∷ ds) are = (stays_below d.form ∙ are.0, decls_below ds are.1)

  abbrev AreBelow : Aspect → Type 0
  AreBelow a = AllByRecursion IsBelow a.decls

  aspects_below : (as' : List Aspect) → AllByRecursion AreBelow as' → AllByRecursion AreBelow (map (aspect_apart is) as')
  aspects_below [] are = tt
  aspects_below (a ∷ as') are = (decls_below a.decls are.0, aspects_below as' are.1)

  files_below : (files : List (List Aspect)) → HaveNoneEverywhere files → HaveNoneEverywhere (files_apart is files)
  files_below [] are = tt
  files_below (f ∷ fs) are = (aspects_below f are.0, files_below fs are.1)

pub none_everywhere_apart : (classes : Classes) (files : List (List Aspect)) → HaveNoneEverywhere files → HaveNoneEverywhere (told_apart classes files)
none_everywhere_apart classes files are = by (nat_le (length (all_counted files)) 2000)
  where
    by : (b : Bool) → HaveNoneEverywhere (cond b (apart_among classes (all_counted files) files) files)
    by true = files_below (is_overloaded classes (all_counted files)) files are
    by false = are

-- ---- which are overloaded

absorbs : (s d : Bool) → (s || (d && s)) ≡ s
absorbs true d = refl
absorbs false true = refl
absorbs false false = refl

such_step : (such : Overloads) (c : Counted) (name : List ℕ) (count : ℕ) (rest among : Bool) → rest ≡ (among && such name count)
    → (b : Bool) → is_declared_by name count c ≡ b
    → ((is_declared_by name count c && such c.name c.count) || rest) ≡ ((is_declared_by name count c || among) && such name count)
such_step such c name count rest among so_far false is =
    ap (λ (t : Bool). (t && such c.name c.count) || rest) is ∙ so_far ∙ sym (ap (λ (t : Bool). (t || among) && such name count) is)
such_step such c name count rest among so_far true is =
    let halves = both (bytes_eq name c.name) (nat_eq count c.count) is in
    let same = ap₂ such (sym (same_bytes name c.name halves.0)) (sym (eqb-true count c.count halves.1)) in
    ap (λ (t : Bool). (t && such c.name c.count) || rest) is
    ∙ ap₂ (λ (t r : Bool). t || r) same so_far
    ∙ absorbs (such name count) among
    ∙ sym (ap (λ (t : Bool). (t || among) && such name count) is)

-- those of these that pass a test which goes by name and number alone
pub declared_such : (such : Overloads) (cs : List Counted) (name : List ℕ) (count : ℕ)
    → list_any (λ c. is_declared_by name count c && such c.name c.count) cs ≡ (declares cs name count && such name count)
declared_such such [] name count = refl
declared_such such (c ∷ cs) name count =
    such_step such c name count (list_any (λ d. is_declared_by name count d && such d.name d.count) cs) (declares cs name count)
    (declared_such such cs name count) (is_declared_by name count c) refl

-- ---- numbers

abbrev pub numbers : List ℕ
numbers = 0 ∷ 1 ∷ 2 ∷ 3 ∷ 4 ∷ []

pub own_number : (i : ℕ) → i < 5 → i ≡ get_or numbers i i
own_number zero less = refl
own_number (suc zero) less = refl
own_number (suc (suc zero)) less = refl
own_number (suc (suc (suc zero))) less = refl
own_number (suc (suc (suc (suc zero)))) less = refl
own_number (suc (suc (suc (suc (suc i))))) less = absurd (omega (arith, less))

-- ---- pairs

abbrev Pair : Type 0
Pair = Bor (List ℕ) × ℕ

abbrev pub same_pair : Pair → Pair → Bool
same_pair j k = bytes_eq j.0.now k.0.now && nat_eq j.1 k.1

abbrev pub is_pair : (name : List ℕ) → (count : ℕ) → Pair → Bool
is_pair name count k = bytes_eq name k.0.now && nat_eq count k.1

any_behind : (p : Pair → Bool) (ks : List Pair) (k : Pair) → list_any p (ks ++ k ∷ []) ≡ (list_any p ks || p k)
any_behind p [] k = by (p k)
  where
    by : (b : Bool) → (b || false) ≡ b
    by true = refl
    by false = refl
any_behind p (j ∷ ks) k = ap (λ (b : Bool). p j || b) (any_behind p ks k) ∙ by (p j)
  where
    by : (b : Bool) → (b || (list_any p ks || p k)) ≡ ((b || list_any p ks) || p k)
    by true = refl
    by false = refl

pub pair_added : (ks new : List Pair) (k : Pair) (name : List ℕ) (count : ℕ) → new ≡ insert_key same_pair ks k
    → list_any (is_pair name count) new ≡ (list_any (is_pair name count) ks || is_pair name count k)
pair_added ks new k name count is = by (list_any (same_pair k) ks) refl
  where
    there : Bool
    there = list_any (is_pair name count) ks

    present : (b : Bool) → is_pair name count k ≡ b → list_any (same_pair k) ks ≡ true → there ≡ (there || is_pair name count k)
    present false none found = or_false there ∙ ap (λ (b : Bool). there || b) (sym none)
      where
        or_false : (b : Bool) → b ≡ (b || false)
        or_false true = refl
        or_false false = refl
    present true same found =
        let halves = both (bytes_eq name k.0.now) (nat_eq count k.1) same in
        let is_there : there ≡ true =
        ap₂ (λ (t : List ℕ) (n : ℕ). list_any (is_pair t n) ks) (same_bytes name k.0.now halves.0) (eqb-true count k.1 halves.1) ∙ found in
        is_there ∙ sym (ap (λ (b : Bool). b || is_pair name count k) is_there)

    by : (b : Bool) → list_any (same_pair k) ks ≡ b → list_any (is_pair name count) new ≡ (there || is_pair name count k)
    by true found =
        ap (list_any (is_pair name count)) (is ∙ ap (λ (b : Bool). cond b ks (ks ++ k ∷ [])) found) ∙ present (is_pair name count k) refl found
    by false none =
        ap (list_any (is_pair name count)) (is ∙ ap (λ (b : Bool). cond b ks (ks ++ k ∷ [])) none) ∙ any_behind (is_pair name count) ks k

-- ---- what is found

pub none_more : (h i n : Bool) → n ≡ false → h ≡ (h || (i && n))
none_more h i n none = by h i ∙ sym (ap (λ (b : Bool). h || (i && b)) none)
  where
    by : (h i : Bool) → h ≡ (h || (i && false))
    by true i = refl
    by false true = refl
    by false false = refl

pub one_more : (h i n : Bool) → n ≡ true → (h || i) ≡ (h || (i && n))
one_more h i n some = by h i ∙ sym (ap (λ (b : Bool). h || (i && b)) some)
  where
    by : (h i : Bool) → (h || i) ≡ (h || (i && true))
    by true i = refl
    by false true = refl
    by false false = refl

pub none_in : (p : Pairs) (name : List ℕ) (count : ℕ) → p.items.keys ≡ [] → has_pair p name count ≡ false
none_in p name count none = ap (list_any (is_pair name count)) none

pub none_overloaded : (p : Pairs) (name : List ℕ) (count : ℕ) → p.items.keys ≡ [] → overloaded_in p name count ≡ false
none_overloaded p name count none = ap (λ (b : Bool). nat_le count 4 && b) (none_in p name count none) ∙ by (nat_le count 4)
  where
    by : (b : Bool) → (b && false) ≡ false
    by true = refl
    by false = refl

-- those that are found of all that are declared
pub all_overloaded : (classes : Classes) (all found : Pairs) (counted : List Counted)
    → ((name : List ℕ) (count : ℕ) → has_pair all name count ≡ declares counted name count)
    → ((name : List ℕ) (count : ℕ) → has_pair found name count ≡ list_any (λ d. is_declared_by name count d && needs_in classes all d) counted)
    → (name : List ℕ) (count : ℕ) → overloaded_in found name count ≡ is_overloaded classes counted name count
all_overloaded classes all found counted are finds name count =
    let such : Overloads → Overloads = λ h t n. list_any (λ m. not (nat_eq m n) && h t m) numbers && not (is_accessor classes t) in
    let same : has_pair all ≡ declares counted = λ i t n. are t n i in
    ap (λ (b : Bool). nat_le count 4 && b)
    (finds name count ∙ ap (λ (h : Overloads). list_any (λ d. is_declared_by name count d && such h d.name d.count) counted) same
    ∙ declared_such (such (declares counted)) counted name count)

-- ---- where there are few, and many

module _ (classes : Classes) (files : List (List Aspect)) where
  abbrev by_number : Bool → List (List Aspect)
  by_number b = cond b (apart_among classes (all_counted files) files) files

  numbered : (counted : List Counted) (count : ℕ) → counted ≡ all_counted files → length counted ≡ count
      → nat_le (length (all_counted files)) 2000 ≡ nat_le count 2000
  numbered counted count is counts =
      ap (λ (n : ℕ). nat_le n 2000) (ap (λ (cs : List Counted). length cs) (sym is) ∙ counts)

  pub few_apart : (counted : List Counted) (count : ℕ) → counted ≡ all_counted files → length counted ≡ count
      → nat_le count 2000 ≡ true → apart_among classes counted files ≡ told_apart classes files
  few_apart counted count is counts few =
      ap (λ (cs : List Counted). apart_among classes cs files) is ∙ sym (ap by_number (numbered counted count is counts ∙ few))

  pub many_apart : (counted : List Counted) (count : ℕ) → counted ≡ all_counted files → length counted ≡ count
      → nat_le count 2000 ≡ false → files ≡ told_apart classes files
  many_apart counted count is counts many = sym (ap by_number (numbered counted count is counts ∙ many))

-- where these pairs are the overloaded ones
pub apart_by : (classes : Classes) (counted : List Counted) (p : Pairs) (files : List (List Aspect))
    → ((name : List ℕ) (count : ℕ) → overloaded_in p name count ≡ is_overloaded classes counted name count)
    → files_apart (overloaded_in p) files ≡ apart_among classes counted files
apart_by classes counted p files are =
    let same : overloaded_in p ≡ is_overloaded classes counted = λ i name count. are name count i in
    ap (λ (is : Overloads). files_apart is files) same

pub apart_plainly : (classes : Classes) (counted : List Counted) (p : Pairs) (files : List (List Aspect))
    → ((name : List ℕ) (count : ℕ) → overloaded_in p name count ≡ is_overloaded classes counted name count)
    → p.items.keys ≡ [] → files ≡ apart_among classes counted files
apart_plainly classes counted p files are none =
    sym (files_plain (overloaded_in p) (λ name count. none_overloaded p name count none) files) ∙ apart_by classes counted p files are

-- ---- loops over a front

module _ {X : Type 0} (p : X → Bool) where
  joined : (b : Bool) (c d : Bool) → (b || (c || d)) ≡ ((b || c) || d)
  joined true c d = refl
  joined false c d = refl

  next_any : (xs : List X) (i : ℕ) (x : X) → i < length xs → x ≡ get_or xs i x → list_any p (take (suc i) xs) ≡ (list_any p (take i xs) || p x)
  next_any [] i x less is = absurd (omega (arith, less))
  next_any (y ∷ ys) zero x less is = ap (λ (z : X). p z || false) (sym is) ∙ or_false (p x)
    where
      or_false : (b : Bool) → (b || false) ≡ b
      or_false true = refl
      or_false false = refl
  next_any (y ∷ ys) (suc i) x less is =
      ap (λ (b : Bool). p y || b) (next_any ys i x (omega (arith, less)) is) ∙ joined (p y) (list_any p (take i ys)) (p x)

  -- one more
  pub one_any : (xs : List X) (i : ℕ) (x : X) → i < length xs → x ≡ get_or xs i x → list_any p (take (i + 1) xs) ≡ (list_any p (take i xs) || p x)
  one_any xs i x less is = ap (λ (n : ℕ). list_any p (take n xs)) (add-one i) ∙ next_any xs i x less is

  -- all
  pub all_any : (xs : List X) (i : ℕ) → length xs ≤ i → list_any p (take i xs) ≡ list_any p xs
  all_any [] zero past = refl
  all_any [] (suc i) past = refl
  all_any (y ∷ ys) zero past = absurd (omega (arith, past))
  all_any (y ∷ ys) (suc i) past = ap (λ (b : Bool). p y || b) (all_any ys i (omega (arith, past)))
