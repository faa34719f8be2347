-- Classes with names, as keys.
use Rattle.std.proofs.Common.{◌≡◌, ℕ, List, [], ◌∷◌, ◌++◌, length, map, refl, ap, ap₂, sym, subst, ◌∙◌, Option, Some, None}
use Rattle.std.specs.Prelude.{Bool, true, false, ◌&&◌, ◌||◌, nat_eq, cond}
use Rattle.std.specs.List.{list_any}
use Rattle.std.proofs.lemmas.Cmp.{nat_eq_equiv}
use Rattle.std.proofs.lemmas.List.{length-map, map-append}
use Rattle.at_rules.specs.FirstNamed.{AreNoted, NotesOne}
use Rattle.at_rules.specs.declared.first_named.FirstNamed.{FirstNamed}
use Rattle.at_rules.proofs.FirstNaming.{passed_over}
use Rattle.at_typing.specs.AttributeKeys.{is_key, class_key, word_key, name_key, by_class, by_word, by_name, Notes}
use Rattle.at_typing.specs.Declaring.{is_inherited}
use Rattle.at_typing.specs.Numbering.{numbered_view, same_class}
use Rattle.at_typing.specs.Twice.{has_key}
use Rattle.at_typing.specs.declared.attributes.Attributes.{Attributes}
use Rattle.at_typing.specs.declared.numbered.NamedClass.{NamedClass}
use Rattle.at_typing.specs.declared.numbered.NamedClass.TheVariants as named
use Rattle.at_typing.specs.declared.numbered.Numbered.{Numbered as NumberedValue}
use Rattle.at_typing.specs.contracts.numbered.NamedClassPartialEq.TheImpl.{ghosts}
use Rattle.at_typing.proofs.of_attributes.Clashing.{class_symm}
use Rattle.at_typing.proofs.EquationsBefore.{class_eq}

-- the test of the code
abbrev pub key_eq : NamedClass × ℕ → NamedClass × ℕ → Bool
key_eq j k = ghosts.eq j.0 k.0 && nat_eq j.1 k.1

pub key_test : (class : NamedClass) (name : ℕ) → key_eq (class, name) ≡ is_key class name
key_test class name = λ i k. class_eq class k.0 i && nat_eq name k.1

pub contained : (keys : List (NamedClass × ℕ)) (class : NamedClass) (name : ℕ) → list_any (key_eq (class, name)) keys ≡ has_key keys name class
contained keys class name = ap (λ test. list_any test keys) (key_test class name)

-- one more key
pub key_inserted : (old new : List (NamedClass × ℕ)) (class : NamedClass) (name : ℕ) → ((q : NamedClass × ℕ) → list_any (key_eq q) new ≡ cond (key_eq (class, name) q) true (list_any (key_eq q) old))
    → (c : NamedClass) (n : ℕ) → has_key new n c ≡ (has_key old n c || list_any (λ b. is_key c n (b, name)) (class ∷ []))
key_inserted old new class name updates c n =
    sym (contained new c n) ∙ updates (c, n)
    ∙ ap (λ b. cond b true (list_any (key_eq (c, n)) old)) (ap (λ test. test (c, n)) (key_test class name) ∙ turned)
    ∙ ap (λ b. cond (is_key c n (class, name)) true b) (contained old c n)
    ∙ by (is_key c n (class, name)) (has_key old n c)
  where
    turned : is_key class name (c, n) ≡ is_key c n (class, name)
    turned = ap (λ b. b && nat_eq name n) (class_symm class c) ∙ ap (λ b. same_class c class && b) (nat_eq_equiv.symm name n)

    by : (a b : Bool) → cond a true b ≡ (b || (a || false))
    by true true = refl
    by true false = refl
    by false true = refl
    by false false = refl

-- attributes that are noted -------------------------------------------------------------------------------------------

module _ (key : NumberedValue → Option (ℕ × ℕ)) (ds : List NumberedValue) (d : NumberedValue) (old new : FirstNamed) (are : AreNoted (map key ds) old) where
  with_key : (k : Option (ℕ × ℕ)) → key d ≡ k → map key ds ++ k ∷ [] ≡ map key (ds ++ d ∷ [])
  with_key k is = ap (λ x. map key ds ++ x ∷ []) (sym is) ∙ sym (map-append key ds (d ∷ []))

  -- the declaration has no such key
  none_more : key d ≡ None → new ≡ old → AreNoted (map key (ds ++ d ∷ [])) new
  none_more none same = subst (AreNoted (map key (ds ++ d ∷ []))) (sym same) (subst (λ ks. AreNoted ks old) (with_key None none) (passed_over old.first.entries (map key ds) are))

  -- it has one
  one_more : (c n a : ℕ) → key d ≡ Some (c, n) → a ≡ length ds → NotesOne c n a old new → AreNoted (map key (ds ++ d ∷ [])) new
  one_more c n a is count notes = subst (λ ks. AreNoted ks new) (with_key (Some (c, n)) is) (notes (map key ds) (count ∙ sym (length-map ds key)) are)

module _ (d : NumberedValue) (a : ℕ) (old new : Attributes) where
  -- an inherited attribute is noted by its name alone
  pub notes_inherited : is_inherited (numbered_view d).decl.form ≡ true → new.of_classes ≡ old.of_classes
      → new.of_words ≡ old.of_words → NotesOne 0 d.name a old.inherited new.inherited → Notes d a old new
  notes_inherited test classes words notes = λ ds count are. record {
    classes = none_more by_class ds d old.of_classes new.of_classes are.classes (ap (λ b. class_key b d.class d.name) test) classes;
    words = none_more by_word ds d old.of_words new.of_words are.words (ap (λ b. word_key b d.class d.name) test) words;
    names = one_more by_name ds d old.inherited new.inherited are.names 0 d.name a (ap (λ b. name_key b d.name) test) count notes;
  }

  -- a synthesized one by its class and name
  pub notes_of_class : (c : ℕ) → is_inherited (numbered_view d).decl.form ≡ false → d.class ≡ named.Known c
      → NotesOne c d.name a old.of_classes new.of_classes → new.of_words ≡ old.of_words → new.inherited ≡ old.inherited
      → Notes d a old new
  notes_of_class c test of notes words names = λ ds count are. record {
    classes = one_more by_class ds d old.of_classes new.of_classes are.classes c d.name a (ap₂ (λ b k. class_key b k d.name) test of) count notes;
    words = none_more by_word ds d old.of_words new.of_words are.words (ap₂ (λ b k. word_key b k d.name) test of) words;
    names = none_more by_name ds d old.inherited new.inherited are.names (ap (λ b. name_key b d.name) test) names;
  }

  pub notes_of_word : (u : ℕ) → is_inherited (numbered_view d).decl.form ≡ false → d.class ≡ named.Unknown u
      → NotesOne u d.name a old.of_words new.of_words → new.of_classes ≡ old.of_classes → new.inherited ≡ old.inherited
      → Notes d a old new
  notes_of_word u test of notes classes names = λ ds count are. record {
    classes = none_more by_class ds d old.of_classes new.of_classes are.classes (ap₂ (λ b k. class_key b k d.name) test of) classes;
    words = one_more by_word ds d old.of_words new.of_words are.words u d.name a (ap₂ (λ b k. word_key b k d.name) test of) count notes;
    names = none_more by_name ds d old.inherited new.inherited are.names (ap (λ b. name_key b d.name) test) names;
  }
