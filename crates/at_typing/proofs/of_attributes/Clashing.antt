-- An attribute clashes with one of those before it, by their numbers and by their words.
use Rattle.std.proofs.Common.{◌≡◌, ℕ, ◌+◌, ◌<◌, List, [], ◌∷◌, length, take, get_or, map, refl, ap, ap₂, sym, ◌∙◌, Option, Some, None, true≢false}
use Rattle.std.specs.Prelude.{Bool, true, false, ◌&&◌, ◌||◌, not, nat_eq, option_map, if◌then◌else◌}
use Rattle.std.specs.Borrow.{Bor}
use Rattle.std.specs.List.{list_any}
use Rattle.std.specs.Map.{lookup}
use Rattle.std.specs.Bool.{beq}
use Rattle.std.specs.Option.{option_eq, option_or}
use Rattle.std.proofs.lemmas.Bool.{and_parts, eqb-true}
use Rattle.std.proofs.lemmas.Cmp.{nat_eq_equiv, nat_list_eq_equiv}
use Rattle.std.proofs.lemmas.List.Folds.{list_any_more}
use Rattle.std.proofs.lemmas.Slice.Eq.{bytes_eq-Decides}
use Rattle.indexmap.specs.IndexMap.{IndexMap, get}
use Rattle.at_model.specs.Classes.{Classes}
use Rattle.at_model.proofs.Options.{or_false}
use Rattle.at_kinds.specs.declared.arguments.Arguments.{Arguments}
use Rattle.at_jrag.specs.declared.syntax.DeclForm.{DeclForm as FormValue}
use Rattle.at_jrag.specs.Syntax.{Kind, Int, Bool', Text, Class, KindWord, Param, DeclForm}
use Rattle.at_jrag.specs.View.{decl_form_view}
use Rattle.at_typing.specs.AttributeKeys.{is_key, IsAmong}
use Rattle.at_typing.specs.Declaring.{is_attribute, is_inherited, result_in, params_in, is_same_kind, have_same_kinds, has_same_result, has_same_signature, has_same_start, start_in, differs, disagrees, is_compared, clashes, is_below, is_on_one_line, class_text, name_text}
use Rattle.at_typing.specs.Numbering.{numbered_view, parent_class, same_class, is_class_below, line, IsOfItsClass, AreAlike}
use Rattle.at_typing.specs.Twice.{differs_from, disagrees_from, form_of, first_form, has_key, declares, compares, AreBefore, Adds, InsertsKeys, NotesCompared}
use Rattle.at_typing.specs.declared.checks.twice.Before.{Before}
use Rattle.at_typing.specs.declared.numbered.NamedClass.{NamedClass}
use Rattle.at_typing.specs.declared.numbered.NamedClass.TheVariants.{Known, Unknown}
use Rattle.at_typing.specs.declared.numbered.Numbered.{Numbered as NumberedValue}
use Rattle.at_typing.proofs.of_attributes.AttributesFound.{drawn, switched}
use Rattle.at_typing.proofs.ClassesBelow.{below}
use Rattle.at_typing.proofs.SameStart.{same_start}
use Rattle.at_typing.proofs.EquationsBefore.{list_any-or, list_any-same, list_any-where}
use Rattle.at_typing.proofs.FirstValues.{not_noted}
use Rattle.at_typing.proofs.Lines.{line_begins, line_from, line_step, on_line}
use Rattle.at_class.proofs.Firsts.{list_any-map}

-- truth values --------------------------------------------------------------------------------------------------------

or_twice : (a : Bool) → a ≡ (a || a)
or_twice true = refl
or_twice false = refl

-- lists of any --------------------------------------------------------------------------------------------------------

pub any_more : {A : Type 0} (p : A → Bool) (xs : List A) (k : ℕ) (x : A) → k < length xs → x ≡ get_or xs k x → list_any p (take (k + 1) xs) ≡ (list_any p (take k xs) || p x)
any_more p xs k x less is = list_any_more p xs k x less ∙ ap (λ y. list_any p (take k xs) || p y) (sym is)

any_none : {A : Type 0} (p : A → Bool) (xs : List A) → list_any (λ x. p x && false) xs ≡ false
any_none p [] = refl
any_none p (x ∷ xs) = ap (λ b. b || list_any (λ y. p y && false) xs) (by (p x)) ∙ any_none p xs
  where
    by : (b : Bool) → (b && false) ≡ false
    by true = refl
    by false = refl

-- behind a condition that isn't theirs
any_if : {A : Type 0} (c : Bool) (p : A → Bool) (xs : List A) → list_any (λ x. c && p x) xs ≡ (c && list_any p xs)
any_if true p xs = refl
any_if false p [] = refl
any_if false p (x ∷ xs) = any_if false p xs

-- the same, looked for the other way round
any_turned : {A C : Type 0} (n : A → Bool) (s : C → A → Bool) (xs : List A) (cs : List C) → list_any (λ c. list_any (λ x. n x && s c x) xs) cs ≡ list_any (λ x. n x && list_any (λ c. s c x) cs) xs
any_turned n s xs [] = sym (any_none n xs)
any_turned n s xs (c ∷ cs) =
    ap (λ b. list_any (λ x. n x && s c x) xs || b) (any_turned n s xs cs)
    ∙ sym (list_any-or (λ x. n x && s c x) (λ x. n x && list_any (λ d. s d x) cs) xs)
    ∙ list_any-same _ _ xs (λ x. by (n x) (s c x) (list_any (λ d. s d x) cs))
  where
    by : (n a b : Bool) → ((n && a) || (n && b)) ≡ (n && (a || b))
    by true a b = refl
    by false a b = refl

-- what differs from one that doesn't differ from another --------------------------------------------------------------

kind_like : (j k l : Kind) → is_same_kind k l ≡ true → is_same_kind j k ≡ is_same_kind j l
kind_like j Int Int e = refl
kind_like j Bool' Bool' e = refl
kind_like j Text Text e = refl
kind_like j (Class v) (Class w) e = ap (λ t. is_same_kind j (Class t)) ((bytes_eq-Decides v w).0 e)
kind_like j Int Bool' e = absurd (true≢false (sym e))
kind_like j Int Text e = absurd (true≢false (sym e))
kind_like j Int (Class w) e = absurd (true≢false (sym e))
kind_like j Bool' Int e = absurd (true≢false (sym e))
kind_like j Bool' Text e = absurd (true≢false (sym e))
kind_like j Bool' (Class w) e = absurd (true≢false (sym e))
kind_like j Text Int e = absurd (true≢false (sym e))
kind_like j Text Bool' e = absurd (true≢false (sym e))
kind_like j Text (Class w) e = absurd (true≢false (sym e))
kind_like j (Class v) Int e = absurd (true≢false (sym e))
kind_like j (Class v) Bool' e = absurd (true≢false (sym e))
kind_like j (Class v) Text e = absurd (true≢false (sym e))

kinds_like : (ps qs rs : List Param) → have_same_kinds qs rs ≡ true → have_same_kinds ps qs ≡ have_same_kinds ps rs
kinds_like ps [] [] e = refl
kinds_like ps [] (r ∷ rs) e = absurd (true≢false (sym e))
kinds_like ps (q ∷ qs) [] e = absurd (true≢false (sym e))
kinds_like [] (q ∷ qs) (r ∷ rs) e = refl
kinds_like (p ∷ ps) (q ∷ qs) (r ∷ rs) e =
    let (first, rest) = and_parts (is_same_kind q.kind.kind r.kind.kind) (have_same_kinds qs rs) e in
    ap₂ (λ a b. a && b) (kind_like p.kind.kind q.kind.kind r.kind.kind first) (kinds_like ps qs rs rest)

result_like : (x y z : Option KindWord) → has_same_result y z ≡ true → has_same_result x y ≡ has_same_result x z
result_like x None z e = absurd (true≢false (sym e))
result_like x (Some k) None e = absurd (true≢false (sym e))
result_like None (Some k) (Some l) e = refl
result_like (Some j) (Some k) (Some l) e = kind_like j.kind k.kind l.kind e

signature_like : (d e f : DeclForm) → has_same_signature e f ≡ true → has_same_signature d e ≡ has_same_signature d f
signature_like d e f same =
    let (result, kinds) = and_parts (has_same_result (result_in e) (result_in f)) (have_same_kinds (params_in e).items (params_in f).items) same in
    ap₂ (λ a b. a && b) (result_like (result_in d) (result_in e) (result_in f) result) (kinds_like (params_in d).items (params_in e).items (params_in f).items kinds)

start_like : (x y z : Option Bool) → option_eq beq y z ≡ true → option_eq beq x y ≡ option_eq beq x z
start_like x y z e = ap (option_eq beq x) (same_start y z e)

-- with the same kinds and the same start
abbrev is_alike : DeclForm → DeclForm → Bool
is_alike d e = has_same_signature d e && has_same_start d e

alike_like : (d e f : DeclForm) → is_alike e f ≡ true → is_alike d e ≡ is_alike d f
alike_like d e f same =
    let (signature, start) = and_parts (has_same_signature e f) (has_same_start e f) same in
    ap₂ (λ a b. a && b) (signature_like d e f signature) (start_like (start_in d) (start_in e) (start_in f) start)

differs_like : (d e f : DeclForm) → differs e f ≡ false → differs d e ≡ differs d f
differs_like d e f same =
    by (is_inherited d) (is_inherited e) (is_inherited f) (is_alike e f) (is_alike d e) (is_alike d f)
    (alike_like d e f) same
  where
    by : (i j k s t u : Bool) → (s ≡ true → t ≡ u) → (if j then not (k && s) else k) ≡ false → (if i then not (j && t) else j) ≡ (if i then not (k && u) else k)
    by i true true true t u like e = ap (λ b. if i then not b else true) (like refl)
    by i true true false t u like e = absurd (true≢false e)
    by i true false s t u like e = absurd (true≢false e)
    by i false true s t u like e = absurd (true≢false e)
    by i false false s t u like e = refl

-- one more is declared ------------------------------------------------------------------------------------------------

differs_more : (form own : DeclForm) (o : Option DeclForm) (b : Bool) → (b ≡ true → differs_from own o ≡ false)
    → differs_from form (option_or o (if b then Some own else None)) ≡ (differs_from form o || (b && differs form own))
differs_more form own None true fits = refl
differs_more form own None false fits = refl
differs_more form own (Some first) true fits = or_twice (differs form first) ∙ ap (λ c. differs form first || c) (sym (differs_like form own first (fits refl)))
differs_more form own (Some first) false fits = sym (or_false (differs form first))

-- where it is compared it doesn't differ from the first of its name
pub one_added : (allowed : Arguments) (classes : Classes) (ds : List NumberedValue) (k : ℕ) (d : NumberedValue) (old new : Before)
    → k < length ds → d ≡ get_or ds k d → AreBefore allowed classes (take k ds) old → Adds allowed classes d old new
    → (is_attribute (numbered_view d).decl.form ≡ true → disagrees_from allowed (numbered_view d).decl.form (first_form old d.name) ≡ false) → AreBefore allowed classes (take (k + 1) ds) new
one_added allowed classes ds k d old new less is are adds fits = record {
  first = λ form name.
      ap (differs_from form) (adds.first name)
      ∙ differs_more form (numbered_view d).decl.form (first_form old name) (compares allowed name d) (same_name name)
      ∙ ap (λ b. b || (compares allowed name d && differs form (numbered_view d).decl.form)) (are.first form name)
      ∙ sym (any_more (λ e. compares allowed name e && differs form (numbered_view e).decl.form) ds k d less is);
  declared = λ class name. adds.declared class name ∙ ap (λ b. b || (declares name d && same_class class d.class))
      (are.declared class name) ∙ sym (any_more (λ e. declares name e && same_class class e.class) ds k d less is);
  above = λ class name. adds.above class name
      ∙ ap (λ b. b || (declares name d && is_class_below classes d.class class)) (are.above class name)
      ∙ sym (any_more (λ e. declares name e && is_class_below classes e.class class) ds k d less is);
}
  where
    second : (a b : Bool) → a ≡ true → (a && b) ≡ false → b ≡ false
    second true b is off = off
    second false b is off = absurd (true≢false (sym is))

    same_name : (name : ℕ) → compares allowed name d ≡ true → differs_from (numbered_view d).decl.form (first_form old name) ≡ false
    same_name name e =
        let (named, compared) = and_parts (declares name d) (is_compared allowed (numbered_view d).decl.form) e in
        let (test, same) = and_parts (is_attribute (numbered_view d).decl.form) (nat_eq name d.name) named in
        ap (λ n. differs_from (numbered_view d).decl.form (first_form old n)) (eqb-true name d.name same)
        ∙ second (is_compared allowed (numbered_view d).decl.form) (differs_from (numbered_view d).decl.form (first_form old d.name)) compared (fits test)

pub none_added : (allowed : Arguments) (classes : Classes) (ds : List NumberedValue) (b : Before) → b.first.entries ≡ [] → b.declared.keys ≡ [] → b.above.keys ≡ [] → AreBefore allowed classes (take 0 ds) b
none_added allowed classes ds b first declared above = record {
  first = λ form name. ap (λ es. differs_from form (option_map (λ f. decl_form_view f.now) (lookup (nat_eq name) es))) first;
  declared = λ class name. ap (list_any (is_key class name)) declared;
  above = λ class name. ap (list_any (is_key class name)) above;
}

-- what the code looks for ---------------------------------------------------------------------------------------------

pub class_symm : (c b : NamedClass) → same_class c b ≡ same_class b c
class_symm (Known c) (Known b) = nat_eq_equiv.symm c b
class_symm (Known c) (Unknown v) = refl
class_symm (Unknown u) (Known b) = refl
class_symm (Unknown u) (Unknown v) = nat_eq_equiv.symm u v

alike_back : (d e : NumberedValue) → AreAlike d e → AreAlike e d
alike_back d e like = record {
  class = class_symm e.class d.class ∙ like.class ∙ nat_list_eq_equiv.symm (class_text (numbered_view d)) (class_text (numbered_view e));
  name = nat_eq_equiv.symm e.name d.name ∙ like.name ∙ nat_list_eq_equiv.symm (name_text (numbered_view d)) (name_text (numbered_view e));
}

-- the attribute clashes with that one, by numbers
abbrev pub clashes_by_number : Arguments → Classes → NumberedValue → NumberedValue → Bool
clashes_by_number allowed classes d e = (is_compared allowed (numbered_view d).decl.form && (compares allowed d.name e && differs (numbered_view d).decl.form (numbered_view e).decl.form))
    || ((declares d.name e && is_class_below classes e.class d.class)
    || (declares d.name e && is_class_below classes d.class e.class))

by_numbers : (allowed : Arguments) (classes : Classes) (d e : NumberedValue) → IsOfItsClass classes d → IsOfItsClass classes e → AreAlike d e
    → clashes allowed classes (numbered_view d) (numbered_view e) ≡ clashes_by_number allowed classes d e
by_numbers allowed classes d e own other like =
    ap (λ b. (is_attribute (numbered_view e).decl.form && b) && (apart || is_on_one_line classes (class_text (numbered_view d)) (class_text (numbered_view e)))) (sym like.name)
    ∙ ap (λ b. declares d.name e && (apart || (b || is_below classes (class_text (numbered_view e)) (class_text (numbered_view d))))) (sym (below classes d e own other like))
    ∙ ap (λ b. declares d.name e && (apart || (is_class_below classes d.class e.class || b))) (sym (below classes e d other own (alike_back d e like)))
    ∙ by (declares d.name e) (is_compared allowed (numbered_view d).decl.form) (is_compared allowed (numbered_view e).decl.form)
    (differs (numbered_view d).decl.form (numbered_view e).decl.form) (is_class_below classes d.class e.class) (is_class_below classes e.class d.class)
  where
    apart : Bool
    apart = disagrees allowed (numbered_view d).decl.form (numbered_view e).decl.form

    turned : (y z : Bool) → (y || z) ≡ (z || y)
    turned true true = refl
    turned true false = refl
    turned false z = sym (or_false z)

    by : (n c k x y z : Bool) → (n && (((c && k) && x) || (y || z))) ≡ ((c && ((n && k) && x)) || ((n && z) || (n && y)))
    by false true k x y z = refl
    by false false k x y z = refl
    by true true true true y z = refl
    by true true true false y z = turned y z
    by true true false x y z = turned y z
    by true false k x y z = turned y z

-- a class above the attribute's, or its own, declares the name
abbrev pub is_declared_above : Classes → List NumberedValue → NumberedValue → Bool
is_declared_above classes ds d = list_any (λ e. declares d.name e && is_class_below classes d.class e.class) ds

-- it is compared and differs from the first of its name, or the class or one below it declares the name, or one above it
abbrev pub is_clash : Arguments → Classes → List NumberedValue → Before → NumberedValue → Bool
is_clash allowed classes ds b d = disagrees_from allowed (numbered_view d).decl.form (first_form b d.name) || (has_key b.above.keys d.name d.class || is_declared_above classes ds d)

pub declared_above : (allowed : Arguments) (classes : Classes) → 0 < length classes → (ds : List NumberedValue) (b : Before) → AreBefore allowed classes ds b → (class : NamedClass) (name : ℕ)
    → list_any (has_key b.declared.keys name) (line classes class) ≡ list_any (λ e. declares name e && is_class_below classes class e.class) ds
declared_above allowed classes some ds b are class name =
    list_any-same (has_key b.declared.keys name) (λ c. list_any (λ e. declares name e && same_class c e.class) ds) (line classes class) (λ c. are.declared c name)
    ∙ any_turned (declares name) (λ c e. same_class c e.class) ds (line classes class)
    ∙ list_any-same _ _ ds (λ e. ap (λ x. declares name e && x) (on_line classes some class e.class))

clash : (allowed : Arguments) (classes : Classes) (ds : List NumberedValue) (b : Before) (d : NumberedValue) → AreBefore allowed classes ds b
    → IsAmong classes ds d → list_any (clashes allowed classes (numbered_view d)) (map numbered_view ds) ≡ is_clash allowed classes ds b d
clash allowed classes ds b d are among =
    list_any-map (clashes allowed classes (numbered_view d)) numbered_view ds
    ∙ list_any-where (λ e. IsOfItsClass classes e × AreAlike d e)
    (λ e. clashes allowed classes (numbered_view d) (numbered_view e)) (clashes_by_number allowed classes d) ds
    (λ k x less. (among.others k x less, among.alike k x less)) (λ e h. by_numbers allowed classes d e among.class h.0 h.1)
    ∙ list_any-or (λ e. compared && (compares allowed d.name e && differs (numbered_view d).decl.form (numbered_view e).decl.form))
    (λ e. (declares d.name e && is_class_below classes e.class d.class)
    || (declares d.name e && is_class_below classes d.class e.class)) ds
    ∙ ap₂ (λ x y. x || y) (any_if compared (λ e. compares allowed d.name e && differs (numbered_view d).decl.form (numbered_view e).decl.form) ds
    ∙ ap (λ x. compared && x) (sym (are.first (numbered_view d).decl.form d.name)))
    (list_any-or (λ e. declares d.name e && is_class_below classes e.class d.class) (λ e. declares d.name e && is_class_below classes d.class e.class) ds
    ∙ ap (λ x. x || is_declared_above classes ds d) (sym (are.above d.class d.name)))
  where
    compared : Bool
    compared = is_compared allowed (numbered_view d).decl.form

pub tells_clash : (allowed : Arguments) (classes : Classes) (ds : List NumberedValue) (b : Before) (d : NumberedValue)
    → AreBefore allowed classes ds b → IsAmong classes ds d → (r : Bool) → is_attribute (numbered_view d).decl.form ≡ true
    → is_clash allowed classes ds b d ≡ r
    → r ≡ (is_attribute (numbered_view d).decl.form && list_any (clashes allowed classes (numbered_view d)) (map numbered_view ds))
tells_clash allowed classes ds b d are among r test found =
    sym (ap (λ a. a && list_any (clashes allowed classes (numbered_view d)) (map numbered_view ds)) test ∙ clash allowed classes ds b d are among ∙ found)

-- where nothing clashes and it is compared, it doesn't differ from the first of its name
pub fits : (allowed : Arguments) (classes : Classes) (ds : List NumberedValue) (b : Before) (d : NumberedValue) → AreBefore allowed classes ds b
    → IsAmong classes ds d → (r : Bool) → ((is_attribute (numbered_view d).decl.form
    && list_any (clashes allowed classes (numbered_view d)) (map numbered_view ds)) || r) ≡ false
    → is_attribute (numbered_view d).decl.form ≡ true → disagrees_from allowed (numbered_view d).decl.form (first_form b d.name) ≡ false
fits allowed classes ds b d are among r none test = first (disagrees_from allowed (numbered_view d).decl.form (first_form b d.name))
    (has_key b.above.keys d.name d.class || is_declared_above classes ds d)
    (sym (clash allowed classes ds b d are among) ∙ second (is_attribute (numbered_view d).decl.form) _ r none test)
  where
    first : (x y : Bool) → (x || y) ≡ false → x ≡ false
    first true y e = e
    first false y e = refl

    second : (a x r : Bool) → ((a && x) || r) ≡ false → a ≡ true → x ≡ false
    second true true r e is = e
    second true false r e is = refl
    second false x r e is = absurd (true≢false (sym is))

-- the line of a class is inserted -------------------------------------------------------------------------------------

-- what is inserted so far, and what is left of the line
abbrev pub InsertsUpTo : Classes → NamedClass → (name : ℕ) → (old now : List (NamedClass × ℕ)) → (k : ℕ) → Option NamedClass → Type 0
InsertsUpTo classes class name old now k next = (c : NamedClass) (n : ℕ)
    → (has_key now n c || list_any (λ b. is_key c n (b, name)) (line_from classes k next)) ≡ (has_key old n c || list_any (λ b. is_key c n (b, name)) (line classes class))

pub inserts_first : (classes : Classes) (class : NamedClass) (name : ℕ) (old : List (NamedClass × ℕ)) → InsertsUpTo classes class name old old 0 (Some class)
inserts_first classes class name old = λ c n. ap (λ l. has_key old n c || list_any (λ b. is_key c n (b, name)) l) (sym (line_begins classes class))

pub inserts_more : (classes : Classes) (class : NamedClass) (name : ℕ) (old now new : List (NamedClass × ℕ)) (k : ℕ)
    (d : NamedClass) (o p : Option NamedClass) → k < length classes → o ≡ Some d → p ≡ parent_class classes d
    → InsertsKeys now new name (d ∷ [])
    → InsertsUpTo classes class name old now k o → InsertsUpTo classes class name old new (k + 1) p
inserts_more classes class name old now new k d o p less is up inserts so_far = λ c n.
    ap (λ b. b || list_any (λ b. is_key c n (b, name)) (line_from classes (k + 1) p)) (inserts c n)
    ∙ ap (λ q. (has_key now n c || (is_key c n (d, name) || false)) || list_any (λ b. is_key c n (b, name)) (line_from classes (k + 1) q)) up
    ∙ by (has_key now n c) (is_key c n (d, name)) (list_any (λ b. is_key c n (b, name)) (line_from classes (k + 1) (parent_class classes d)))
    ∙ ap (λ l. has_key now n c || list_any (λ b. is_key c n (b, name)) l) (sym (line_step classes k d o less is))
    ∙ so_far c n
  where
    by : (a b r : Bool) → ((a || (b || false)) || r) ≡ (a || (b || r))
    by true b r = refl
    by false true r = refl
    by false false r = refl

pub inserts_last : (classes : Classes) (class : NamedClass) (name : ℕ) (old new : List (NamedClass × ℕ)) (k : ℕ)
    (o : Option NamedClass) → line_from classes k o ≡ [] → InsertsUpTo classes class name old new k o
    → InsertsKeys old new name (line classes class)
inserts_last classes class name old new k o none so_far = λ c n. sym (or_false (has_key new n c)) ∙ ap (λ l. has_key new n c || list_any (λ b. is_key c n (b, name)) l) (sym none) ∙ so_far c n

-- one declaration -----------------------------------------------------------------------------------------------------

-- an equation adds nothing
pub adds_none : (allowed : Arguments) (classes : Classes) (d : NumberedValue) (b : Before) → is_attribute (numbered_view d).decl.form ≡ false → Adds allowed classes d b b
adds_none allowed classes d b test = record {
  first = λ name. not_noted (first_form b name) (numbered_view d).decl.form (compares allowed name d)
      (ap (λ a. a && is_compared allowed (numbered_view d).decl.form) (no_name name));
  declared = λ class name. none (has_key b.declared.keys name class) (declares name d) (same_class class d.class) (no_name name);
  above = λ class name. none (has_key b.above.keys name class) (declares name d) (is_class_below classes d.class class) (no_name name);
}
  where
    no_name : (name : ℕ) → declares name d ≡ false
    no_name name = ap (λ a. a && nat_eq name d.name) test

    none : (x n s : Bool) → n ≡ false → x ≡ (x || (n && s))
    none x n s is = sym (or_false x) ∙ ap (λ m. x || (m && s)) (sym is)

viewed_or : {A B : Type 0} (f : A → B) (o : Option A) (b : Bool) (v : A) → option_map f (option_or o (if b then Some v else None)) ≡ option_or (option_map f o) (if b then Some (f v) else None)
viewed_or f None true v = refl
viewed_or f None false v = refl
viewed_or f (Some x) b v = refl

-- it isn't compared, or is, and stands by its name where none stood there
pub not_compared : {S : Type 0} (allowed : Arguments) (name : ℕ) (form : DeclForm) (firsts : IndexMap ℕ (Bor FormValue) S)
    → is_compared allowed form ≡ false → NotesCompared allowed name form firsts firsts
not_compared allowed name form firsts off = λ n. not_noted (form_of firsts n) form (nat_eq n name && is_compared allowed form)
    (ap (λ b. nat_eq n name && b) off ∙ switched (nat_eq n name) false)

pub is_noted : {S : Type 0} (allowed : Arguments) (name : ℕ) (form : Bor FormValue) (old new : IndexMap ℕ (Bor FormValue) S)
    → is_compared allowed (decl_form_view form.now) ≡ true
    → ((n : ℕ) → get nat_eq new n ≡ option_or (get nat_eq old n) (if nat_eq n name then Some form else None))
    → NotesCompared allowed name (decl_form_view form.now) old new
is_noted allowed name form old new on notes = λ n.
    ap (option_map (λ (f : Bor FormValue). decl_form_view f.now)) (notes n)
    ∙ viewed_or (λ (f : Bor FormValue). decl_form_view f.now) (get nat_eq old n) (nat_eq n name) form
    ∙ ap (λ b. option_or (form_of old n) (if b then Some (decl_form_view form.now) else None))
    (sym (ap (λ b. nat_eq n name && b) on ∙ switched (nat_eq n name) true))

pub adds_one : (allowed : Arguments) (classes : Classes) → 0 < length classes → (d : NumberedValue) (old new : Before)
    → is_attribute (numbered_view d).decl.form ≡ true → NotesCompared allowed d.name (numbered_view d).decl.form old.first new.first
    → InsertsKeys old.declared.keys new.declared.keys d.name (d.class ∷ []) → InsertsKeys old.above.keys new.above.keys d.name (line classes d.class) → Adds allowed classes d old new
adds_one allowed classes some d old new test first declared above = record {
  first = λ name.
      first name
      ∙ ap (λ a. option_or (first_form old name) (if (a && nat_eq name d.name) && is_compared allowed (numbered_view d).decl.form then Some (numbered_view d).decl.form else None)) (sym test);
  declared = λ class name.
      declared class name
      ∙ ap (λ x. has_key old.declared.keys name class || x) (or_false (is_key class name (d.class, d.name)) ∙ switched (same_class class d.class) (nat_eq name d.name))
      ∙ ap (λ a. has_key old.declared.keys name class || ((a && nat_eq name d.name) && same_class class d.class)) (sym test);
  above = λ class name.
      above class name
      ∙ ap (λ x. has_key old.above.keys name class || x) (
      drawn true (nat_eq name d.name) (same_class class) (line classes d.class)
      ∙ ap (λ b. b && nat_eq name d.name) (list_any-same (same_class class) (λ x. same_class x class) (line classes d.class) (λ x. class_symm class x) ∙ on_line classes some d.class class)
      ∙ switched (is_class_below classes d.class class) (nat_eq name d.name))
      ∙ ap (λ a. has_key old.above.keys name class || ((a && nat_eq name d.name) && is_class_below classes d.class class)) (sym test);
}
