-- The attributes that are found by numbers are those that words name.
use Rattle.std.proofs.Common.{◌≡◌, ℕ, suc, ◌+◌, ◌<◌, List, [], ◌∷◌, ◌++◌, length, take, get_or, map, refl, ap, ap₂, sym, subst, ◌∙◌, arith, append-nil, Option}
use Rattle.std.specs.Prelude.{Bool, true, false, ◌&&◌, ◌||◌, not, nat_eq, cond, position, is_some, All}
use Rattle.std.specs.List.{list_any}
use Rattle.std.specs.Str.{bytes_eq}
use Rattle.std.proofs.lemmas.List.Elements.{filter_more, All-take}
use Rattle.at_class.proofs.Named.{position-map}
use Rattle.at_model.specs.Classes.{Classes, chain, is_sub}
use Rattle.at_jrag.specs.Syntax.{Word, Params, Body, DeclForm, Synthesized, Inherited, Equation, InheritedEquation}
use Rattle.at_rules.specs.FirstNamed.{is_named, IsFirst}
use Rattle.at_rules.proofs.UpwardLemmas.{any_both}
use Rattle.at_typing.specs.AttributeKeys.{attributes_in, class_key, word_key, name_key, by_class, by_word, by_name, AreNotedAll, AreAttributes, Notes, IsAmong, FindsSynthesized, FindsInherited}
use Rattle.at_typing.specs.Declaring.{is_attribute, is_inherited, is_of_attribute, is_synthesized, is_synthesized_by, is_inherited_name, is_below, class_text, name_text, synthesized_named, inherited_named}
use Rattle.at_typing.specs.Located.{Located, class_word, name_word}
use Rattle.at_typing.specs.Numbering.{numbered_view, known_class, is_class_below, IsOfItsClass, AreAlike, AreNumbered}
use Rattle.at_typing.specs.declared.attributes.Attributes.{Attributes}
use Rattle.at_typing.specs.declared.numbered.NamedClass.{NamedClass}
use Rattle.at_typing.specs.declared.numbered.NamedClass.TheVariants as named
use Rattle.at_typing.specs.declared.numbered.Numbered.{Numbered as NumberedValue}
use Rattle.at_typing.proofs.ClassesBelow.{below}
use Rattle.at_typing.proofs.Earlier.{same_first, is_found}
use Rattle.at_typing.proofs.EquationsBefore.{list_any-same}
use Rattle.at_typing.proofs.Lines.{itself}
use Rattle.at_typing.proofs.of_attributes.KindsDeclared.{class_there}

-- among declarations --------------------------------------------------------------------------------------------------

pub among_all : (classes : Classes) (xs : List NumberedValue) (i : ℕ) (d : NumberedValue) → i < length xs → d ≡ get_or xs i d → AreNumbered classes xs → IsAmong classes xs d
among_all classes xs i d less is n = record {
  class = subst (IsOfItsClass classes) (sym is) (n.class i d less);
  others = n.class;
  alike = subst (λ e. All (AreAlike e) xs) (sym is) (n.alike i d less);
}

pub among_before : (classes : Classes) (xs : List NumberedValue) (i : ℕ) (d : NumberedValue) → i < length xs → d ≡ get_or xs i d → AreNumbered classes xs → IsAmong classes (take i xs) d
among_before classes xs i d less is n =
    let all = among_all classes xs i d less is n in
    record { class = all.class; others = All-take (IsOfItsClass classes) i xs all.others; alike = All-take (AreAlike d) i xs all.alike }

-- those that are noted ------------------------------------------------------------------------------------------------

next : (n : ℕ) → n + 1 ≡ suc n
next n = omega arith

length_last : {A : Type 0} (xs : List A) (y : A) → length (xs ++ y ∷ []) ≡ suc (length xs)
length_last [] y = refl
length_last (x ∷ xs) y = ap suc (length_last xs y)

one_more : (ds : List NumberedValue) (k : ℕ) (d : NumberedValue) → k < length ds → d ≡ get_or ds k d → attributes_in
    (take (k + 1) ds) ≡ attributes_in (take k ds) ++ cond (is_attribute (numbered_view d).decl.form) (d ∷ []) []
one_more ds k d less is =
    filter_more (λ (e : NumberedValue). is_attribute (numbered_view e).decl.form) ds k d less
    ∙ ap (λ (e : NumberedValue). attributes_in (take k ds) ++ cond (is_attribute (numbered_view e).decl.form) (e ∷ []) []) (sym is)

pub with_attribute : (ds : List NumberedValue) (k : ℕ) (d : NumberedValue) → k < length ds → d ≡ get_or ds k d
    → is_attribute (numbered_view d).decl.form ≡ true
    → attributes_in (take (k + 1) ds) ≡ attributes_in (take k ds) ++ d ∷ []
with_attribute ds k d less is test = one_more ds k d less is ∙ ap (λ b. attributes_in (take k ds) ++ cond b (d ∷ []) []) test

pub with_none : (ds : List NumberedValue) (k : ℕ) (d : NumberedValue) → k < length ds → d ≡ get_or ds k d
    → is_attribute (numbered_view d).decl.form ≡ false → attributes_in (take (k + 1) ds) ≡ attributes_in (take k ds)
with_none ds k d less is test = one_more ds k d less is ∙ ap (λ b. attributes_in (take k ds) ++ cond b (d ∷ []) []) test ∙ append-nil (attributes_in (take k ds))

pub counted : (ds : List NumberedValue) (k : ℕ) (d : NumberedValue) (n : ℕ) → k < length ds → d ≡ get_or ds k d
    → is_attribute (numbered_view d).decl.form ≡ true → n ≡ length (attributes_in (take k ds))
    → n + 1 ≡ length (attributes_in (take (k + 1) ds))
counted ds k d n less is test count = next n ∙ ap suc count ∙ sym (length_last (attributes_in (take k ds)) d) ∙ ap length (sym (with_attribute ds k d less is test))

pub one_noted : (ds : List NumberedValue) (k : ℕ) (d : NumberedValue) (n : ℕ) (old new : Attributes) → k < length ds
    → d ≡ get_or ds k d → is_attribute (numbered_view d).decl.form ≡ true → n ≡ length (attributes_in (take k ds))
    → AreAttributes (take k ds) old → Notes d n old new → AreAttributes (take (k + 1) ds) new
one_noted ds k d n old new less is test count are notes = subst (λ xs. AreNotedAll xs new) (sym (with_attribute ds k d less is test)) (notes (attributes_in (take k ds)) count are)

pub still_noted : (ds : List NumberedValue) (k : ℕ) (d : NumberedValue) (a : Attributes) → k < length ds
    → d ≡ get_or ds k d → is_attribute (numbered_view d).decl.form ≡ false → AreAttributes (take k ds) a
    → AreAttributes (take (k + 1) ds) a
still_noted ds k d a less is test are = subst (λ xs. AreNotedAll xs a) (sym (with_none ds k d less is test)) are

-- by words ------------------------------------------------------------------------------------------------------------

pub drawn : (n m : Bool) (p : NamedClass → Bool) (cs : List NamedClass) → list_any (λ c. n && (p c && m)) cs ≡ (n && (list_any p cs && m))
drawn true m p [] = refl
drawn false m p [] = refl
drawn n m p (c ∷ cs) = ap (λ b. (n && (p c && m)) || b) (drawn n m p cs) ∙ by n (p c) (list_any p cs) m
  where
    by : (n x y m : Bool) → ((n && (x && m)) || (n && (y && m))) ≡ (n && ((x || y) && m))
    by false x y m = refl
    by true true y true = refl
    by true true true false = refl
    by true true false false = refl
    by true false y m = refl

pub switched : (x y : Bool) → (x && y) ≡ (y && x)
switched true true = refl
switched true false = refl
switched false true = refl
switched false false = refl

-- a synthesized attribute of that name, of the class or one above it
abbrev is_found_for : Classes → NamedClass → ℕ → NumberedValue → Bool
is_found_for classes class name e = not (is_inherited (numbered_view e).decl.form) && (is_class_below classes class e.class && nat_eq name e.name)

synthesized_by : (classes : Classes) (d e : NumberedValue) (class : NamedClass) (name : ℕ) → IsOfItsClass classes d → IsOfItsClass classes e → AreAlike d e → class ≡ d.class → name ≡ d.name
    → is_found_for classes class name e ≡ is_synthesized_by classes (class_text (numbered_view d)) (name_text (numbered_view d)) (numbered_view e)
synthesized_by classes d e class name own other alike of_class same_name =
    ap₂ (λ c m. here && (is_class_below classes c e.class && nat_eq m e.name)) of_class same_name
    ∙ ap (λ b. here && (b && nat_eq d.name e.name)) (below classes d e own other alike)
    ∙ ap (λ b. here && (is_below classes (class_text (numbered_view d)) (class_text (numbered_view e)) && b)) alike.name
    ∙ ap (λ b. here && b) (switched (is_below classes (class_text (numbered_view d)) (class_text (numbered_view e))) (bytes_eq (name_text (numbered_view d)) (name_text (numbered_view e))))
  where
    here : Bool
    here = not (is_inherited (numbered_view e).decl.form)

found_for : (classes : Classes) (ds : List NumberedValue) (d : NumberedValue) (class : NamedClass) (name : ℕ) → IsAmong classes ds d → class ≡ d.class → name ≡ d.name
    → position (is_found_for classes class name) (attributes_in ds) ≡ synthesized_named classes (map numbered_view ds) (class_text (numbered_view d)) (name_text (numbered_view d))
found_for classes ds d class name among of_class same_name =
    same_first (λ e. IsOfItsClass classes e × AreAlike d e) numbered_view (λ (e : Located). is_attribute e.decl.form)
    (is_found_for classes class name) (is_synthesized_by classes (class_text (numbered_view d)) (name_text (numbered_view d))) ds
    (λ k x less. (among.others k x less, among.alike k x less)) (λ e h. synthesized_by classes d e class name among.class h.0 h.1 of_class same_name)

-- a class that is there
class_test : (classes : Classes) → 0 < length classes → (c n : ℕ) (inherits : Bool) (class : NamedClass) (m : ℕ)
    → is_named n (chain classes c) (class_key inherits class m)
    ≡ (not inherits && (is_class_below classes (named.Known c) class && nat_eq n m))
class_test classes some c n true class m = refl
class_test classes some c n false (named.Unknown u) m = refl
class_test classes some c n false (named.Known b) m = any_both (nat_eq n m) b (chain classes c) ∙ switched (nat_eq n m) (is_sub classes c b) ∙ ap (λ t. t && nat_eq n m) (itself classes c b some)

pub finds_of_class : (classes : Classes) (a : Attributes) (class : NamedClass) (c name : ℕ) (found : Option ℕ) → class
    ≡ named.Known c → IsFirst a.of_classes name (chain classes c) found → FindsSynthesized a classes class name found
finds_of_class classes a class c name found is first = λ ds d are among of_class same_name.
    let there = class_there classes (class_text (numbered_view d)) c (sym among.class ∙ ap known_class (sym of_class ∙ is)) in
    first (map by_class (attributes_in ds)) are.classes
    ∙ position-map (is_named name (chain classes c)) by_class (attributes_in ds)
    ∙ ap (λ test. position test (attributes_in ds)) (λ i e. class_test classes (omega (arith, there)) c name (is_inherited (numbered_view e).decl.form) e.class e.name i)
    ∙ ap (λ k. position (is_found_for classes k name) (attributes_in ds)) (sym is)
    ∙ found_for classes ds d class name among of_class same_name

-- a word that names none
word_test : (classes : Classes) (u n : ℕ) (inherits : Bool) (class : NamedClass) (m : ℕ) → is_named n (u ∷ [])
    (word_key inherits class m) ≡ (not inherits && (is_class_below classes (named.Unknown u) class && nat_eq n m))
word_test classes u n true class m = refl
word_test classes u n false (named.Known b) m = refl
word_test classes u n false (named.Unknown v) m = by (nat_eq u v) (nat_eq n m)
  where
    by : (x y : Bool) → ((x && y) || false) ≡ ((x || false) && y)
    by true true = refl
    by true false = refl
    by false y = refl

pub finds_of_word : (classes : Classes) (a : Attributes) (class : NamedClass) (u name : ℕ) (found : Option ℕ)
    → class ≡ named.Unknown u → IsFirst a.of_words name (u ∷ []) found → FindsSynthesized a classes class name found
finds_of_word classes a class u name found is first = λ ds d are among of_class same_name.
    first (map by_word (attributes_in ds)) are.words
    ∙ position-map (is_named name (u ∷ [])) by_word (attributes_in ds)
    ∙ ap (λ test. position test (attributes_in ds)) (λ i e. word_test classes u name (is_inherited (numbered_view e).decl.form) e.class e.name i)
    ∙ ap (λ k. position (is_found_for classes k name) (attributes_in ds)) (sym is)
    ∙ found_for classes ds d class name among of_class same_name

name_test : (n : ℕ) (inherits : Bool) (m : ℕ) → is_named n (0 ∷ []) (name_key inherits m) ≡ (inherits && nat_eq n m)
name_test n false m = refl
name_test n true m = by (nat_eq n m)
  where
    by : (x : Bool) → (x || false) ≡ x
    by true = refl
    by false = refl

pub finds_inherited : (a : Attributes) (name : ℕ) (found : Option ℕ) → IsFirst a.inherited name (0 ∷ []) found → FindsInherited a name found
finds_inherited a name found first = λ ds d are alike same_name.
    first (map by_name (attributes_in ds)) are.names
    ∙ position-map (is_named name (0 ∷ [])) by_name (attributes_in ds)
    ∙ ap (λ test. position test (attributes_in ds)) (λ i e. name_test name (is_inherited (numbered_view e).decl.form) e.name i)
    ∙ same_first (AreAlike d) numbered_view (λ (e : Located). is_attribute e.decl.form)
    (λ e. is_inherited (numbered_view e).decl.form && nat_eq name e.name) (λ e. is_inherited e.decl.form && bytes_eq (name_text (numbered_view d)) (name_text e)) ds alike
    (λ e like. ap (λ m. is_inherited (numbered_view e).decl.form && nat_eq m e.name) same_name ∙ ap (λ b. is_inherited (numbered_view e).decl.form && b) like.name)

-- equations -----------------------------------------------------------------------------------------------------------

pub synthesized_there : (classes : Classes) (ds : List Located) (class name : List ℕ) → is_some (synthesized_named classes ds class name) ≡ is_synthesized classes ds class name
synthesized_there classes ds class name =
    is_found (is_synthesized_by classes class name) (λ d. is_attribute d.decl.form) ds
    ∙ list_any-same _ _ ds (λ d. by (is_attribute d.decl.form) (not (is_inherited d.decl.form)) (bytes_eq name (name_text d) && is_below classes class (class_text d)))
  where
    by : (a n r : Bool) → (a && (n && r)) ≡ ((a && n) && r)
    by true n r = refl
    by false n r = refl

pub inherited_there : (ds : List Located) (name : List ℕ) → is_some (inherited_named ds name) ≡ is_inherited_name ds name
inherited_there ds name =
    is_found (λ d. is_inherited d.decl.form && bytes_eq name (name_text d)) (λ d. is_attribute d.decl.form) ds
    ∙ list_any-same _ _ ds (λ d. by d.decl.form (bytes_eq name (name_text d)))
  where
    by : (form : DeclForm) (r : Bool) → (is_attribute form && (is_inherited form && r)) ≡ (is_inherited form && r)
    by (Synthesized lazy kind class n params start ending) r = refl
    by (Inherited lazy kind class n params start) r = refl
    by (Equation class n params body) r = refl
    by (InheritedEquation class getter index n params body) r = refl

-- of an equation
pub of_equation : (classes : Classes) (ds : List Located) (form : DeclForm) (class name : Word) (params : Params) (body : Body) (found : Option ℕ) → form ≡ Equation class name params body
    → found ≡ synthesized_named classes ds (class_word form).text (name_word form).text → is_some found ≡ is_of_attribute classes ds form
of_equation classes ds form class name params body found is named =
    ap is_some named ∙ synthesized_there classes ds (class_word form).text (name_word form).text
    ∙ ap (λ f. is_synthesized classes ds (class_word f).text (name_word f).text) is ∙ sym (ap (is_of_attribute classes ds) is)

-- of an inherited equation
pub of_inherited : (classes : Classes) (ds : List Located) (form : DeclForm) (class getter : Word) (index : Option Word)
    (name : Word) (params : Params) (body : Body) (found : Option ℕ)
    → form ≡ InheritedEquation class getter index name params body
    → found ≡ inherited_named ds (name_word form).text → is_some found ≡ is_of_attribute classes ds form
of_inherited classes ds form class getter index name params body found is named =
    ap is_some named ∙ inherited_there ds (name_word form).text
    ∙ ap (λ f. is_inherited_name ds (name_word f).text) is ∙ sym (ap (is_of_attribute classes ds) is)
