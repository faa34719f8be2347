-- The whole table.
use Rattle.std.proofs.Common.{◌≡◌, ◌<◌, ◌∙◌, ℕ, List, [], ◌∷◌, ap, sym, subst, refl, arith, length, map, get_or, None, Some, false, true}
use Rattle.std.proofs.lemmas.Bool.{eqb-true}
use Rattle.std.proofs.lemmas.List.{length-map}
use Rattle.std.proofs.Common.{eq-eqb, true≢false}
use Rattle.std.specs.Prelude.{Bool, String, string_bytes, ◌==◌}
use Rattle.at_grammar.specs.declared.syntax.ClassDecl.{ClassDecl}
use Rattle.at_model.specs.Classes.{AreSound, Class as ModelClass, Classes, parts}
use Rattle.at_model.specs.WellFormed.{IsHierarchy}
use Rattle.at_model.specs.Declarations.{AreNamed, no_class, classes_of, class_by, class_named, class_twice, superclass_circle, component_twice}
use Rattle.std.specs.List.{AllByRecursion}
use Rattle.at_model.specs.Paths.{ArePartsApart}
use Rattle.at_class.specs.declared.class.Class.{Class}
use Rattle.at_class.specs.declared.entry.Entry.{Entry}
use Rattle.at_class.specs.declared.intervals.Interval.{Interval}
use Rattle.at_class.specs.Intervals.{AreIntervals}
use Rattle.at_class.specs.View.{class_view, classes_view, part_view}
use Rattle.at_class.specs.Grammar.{declarations_view}
use Rattle.at_class.specs.Table.{AreEntries, HasNoneFixed, IsTable, table_view}
use Rattle.at_class.specs.Ways.{AreLed}
use Rattle.at_class.specs.Fixing.{Fixed, IsWritten, fixed_as}
use Rattle.at_class.proofs.Acyclic.{hierarchy as is_hierarchy}
use Rattle.at_class.proofs.Apart.{parts_apart}
use Rattle.at_class.proofs.FixedParts.{fixed_apart, fixed_hierarchy, fixed_names, fixed_sound}
use Rattle.at_class.proofs.Sound.{classes_sound, view_texts}
use Rattle.at_class.proofs.Entries.{table-declared}
use Rattle.at_model.proofs.LedUp.{led}

pub none_declared : (xs : List ClassDecl) → (length xs == 0) ≡ true → no_class (declarations_view xs) ≡ Some (1, 1)
unfolding no_class
none_declared [] h = refl
none_declared (x ∷ xs) h = let e : length (x ∷ xs) ≡ 0 = eqb-true (length (x ∷ xs)) 0 h in absurd (omega arith)

pub some_declared : (xs : List ClassDecl) → (length xs == 0) ≡ false → no_class (declarations_view xs) ≡ None
unfolding no_class
some_declared [] h = absurd (true≢false (sym (eq-eqb 0 0 refl) ∙ h))
some_declared (x ∷ xs) h = refl

pub longer : (xs : List ClassDecl) → no_class (declarations_view xs) ≡ None → 0 < length (declarations_view xs)
unfolding no_class
longer [] h = absurd cc
longer (x ∷ xs) h = omega arith

names_of : (named : List ℕ → _) (xs : List ClassDecl) → map (λ (k : ModelClass). k.name) (map (class_by named) (declarations_view xs)) ≡ map (λ d. string_bytes d.name) xs
names_of named [] = refl
names_of named (x ∷ xs) = ap (λ ns. string_bytes x.name ∷ ns) (names_of named xs)

names_declared : (xs : List ClassDecl) → map (λ (k : ModelClass). k.name) (classes_of (declarations_view xs)) ≡ map (λ d. string_bytes d.name) xs
unfolding classes_of
names_declared xs = names_of (class_named (declarations_view xs)) xs

-- the table stands for the classes of which its entries are
pub table_of_classes : {A : Type 0} (keys : List (String A)) (ks lent : List Class) (es : List Entry) (classes : Classes)
    → map string_bytes keys ≡ map (λ (k : ModelClass). k.name) classes → classes_view ks ≡ classes → lent ≡ ks → AreEntries lent es (length lent)
    → AreSound classes → IsHierarchy classes → table_view keys es ≡ classes
table_of_classes keys ks lent es classes same e is are sound hierarchy =
    let f : classes_view lent ≡ classes = ap classes_view is ∙ e in
    table-declared keys lent es (same ∙ sym (ap (map (λ (k : ModelClass). k.name)) f)) are
    (subst AreLed (sym f) (led classes hierarchy sound.some))
    (subst IsHierarchy (sym f) hierarchy) ∙ f

pub is_table : {A : Type 0} (keys : List (String A)) (ks lent : List Class) (es : List Entry) (is : List Interval)
    (start : ℕ) (classes : Classes) → start ≡ 0 → map string_bytes keys ≡ map (λ (k : ModelClass). k.name) classes
    → classes_view ks ≡ classes → lent ≡ ks → AreEntries lent es (length lent) → AreSound classes → IsHierarchy classes → ArePartsApart classes
    → AreIntervals (classes_view lent) is → (has_fixed : Bool) → (has_fixed ≡ false → HasNoneFixed classes) → IsTable keys es is start has_fixed
is_table keys ks lent es numbers start classes first same e is are sound hierarchy apart right has_fixed none =
    let t : table_view keys es ≡ classes = table_of_classes keys ks lent es classes same e is are sound hierarchy in
    let f : classes_view lent ≡ table_view keys es = ap classes_view is ∙ e ∙ sym t in
    record {
      count = sym (length-map keys string_bytes) ∙ ap length same ∙ length-map classes (λ (k : ModelClass). k.name) ∙ ap length (sym (ap classes_view is ∙ e)) ∙ length-map lent class_view ∙ sym are.count;
      parts = λ c d less. subst (λ classes. map part_view (get_or es c d).parts.items ≡ parts classes c) f
          (are.each c (spare lent c (subst (λ n. c < n) are.count less)) d (subst (λ n. c < n) are.count less)).parts;
      numbers = subst (λ classes. AreIntervals classes numbers) f right;
      first = first;
      sound = subst AreSound (sym t) sound;
      hierarchy = subst IsHierarchy (sym t) hierarchy;
      apart = subst ArePartsApart (sym t) apart;
      free = λ off. subst HasNoneFixed (sym t) (none off);
    }
  where
    spare : {X : Type 0} (xs : List X) (c : ℕ) → c < length xs → X
    spare [] c less = absurd (omega (arith, less))
    spare (x ∷ xs) c less = x

-- what is so of the classes of a grammar without faults, in which these are fixed
pub record IsMade (xs : List ClassDecl) (fs : List Fixed) : Type 0 where
  pub sound : AreSound (fixed_as fs (classes_of (declarations_view xs)))
  pub hierarchy : IsHierarchy (fixed_as fs (classes_of (declarations_view xs)))
  pub apart : ArePartsApart (fixed_as fs (classes_of (declarations_view xs)))
  pub named : map (λ (d : ClassDecl). string_bytes d.name) xs ≡ map (λ (k : ModelClass). k.name) (fixed_as fs (classes_of (declarations_view xs)))

pub made : (xs : List ClassDecl) (fs : List Fixed) → AreNamed (declarations_view xs) → no_class (declarations_view xs) ≡ None → class_twice (declarations_view xs) ≡ None
    → superclass_circle (declarations_view xs) ≡ None → component_twice (declarations_view xs) ≡ None → AllByRecursion IsWritten fs → IsMade xs fs
made xs fs named some once circle twice written =
    let ds = declarations_view xs in
    let sound = classes_sound ds (longer xs some) named (view_texts xs) once in
    let h = is_hierarchy ds sound circle in
    record {
      sound = fixed_sound fs (classes_of ds) written sound;
      hierarchy = fixed_hierarchy fs (classes_of ds) h;
      apart = fixed_apart fs (classes_of ds) (parts_apart ds (led (classes_of ds) h sound.some) twice);
      named = sym (names_declared xs) ∙ sym (fixed_names fs (classes_of ds));
    }
