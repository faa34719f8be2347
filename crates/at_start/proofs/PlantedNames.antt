-- Classes in which constants are fixed have the names of those that are declared.
use Rattle.std.proofs.Common.{◌≡◌, ◌∙◌, ℕ, zero, suc, ◌<◌, true, false, Bool, List, [], ◌∷◌, length, map, Option, Some, None, if◌then◌else◌, refl, sym, ap, subst}
use Rattle.std.specs.Prelude.{position}
use Rattle.std.specs.List.{slice_get}
use Rattle.std.specs.Option.{option_map}
use Rattle.std.specs.Str.{bytes_eq}
use Rattle.std.proofs.lemmas.List.{length-map}
use Rattle.std.proofs.lemmas.Option.{slice_get-map}
use Rattle.at_model.specs.Classes.{AreNamedApart, Class, Classes, class_of_name, name_of}
use Rattle.at_model.specs.Declarations.{Declaration, Declarations, class_by, class_named, classes_of, first_fault, Place}
use Rattle.at_model.specs.Edits.{changed_at}
use Rattle.at_class.specs.Fixing.{Fixed, fixed_as, with_fixed, with_part}
use Rattle.at_class.proofs.Named.{position-map}
use Rattle.at_class.proofs.Order.{none_broken}
use Rattle.at_class.proofs.Sound.{classes_apart}
use Rattle.at_java.specs.Declarations.{Constant}
use Rattle.at_start.specs.Constants.{Placed, additions, declaring, fixes_over, level, planted_classes, whole_grammar, with_component, with_components}

abbrev names : Classes → List (List ℕ)
names classes = map (λ (k : Class). k.name) classes

abbrev name_at : Option (List ℕ) → List ℕ
name_at None = []
name_at (Some n) = n

-- ---- what goes by names alone

named_by : (classes : Classes) (name : List ℕ) → class_of_name classes name ≡ position (λ n. bytes_eq name n) (names classes)
named_by classes name = sym (position-map (λ n. bytes_eq name n) (λ (k : Class). k.name) classes)

name_by : (classes : Classes) (c : ℕ) → name_of classes c ≡ name_at (slice_get (names classes) c)
name_by classes c = sym (ap name_at (slice_get-map (λ (k : Class). k.name) classes c) ∙ by_class (slice_get classes c))
  where
    by_class : (o : Option Class) → name_at (option_map (λ (k : Class). k.name) o) ≡ elim o as (λ _. List ℕ) [ None ↦ [] | Some k ↦ k.name ]
    by_class None = refl
    by_class (Some k) = refl

-- classes of the same names as others, which are apart
pub apart_as : (classes others : Classes) → names classes ≡ names others → AreNamedApart others → AreNamedApart classes
apart_as classes others same apart c less =
    let count : length classes ≡ length others = sym (length-map classes (λ (k : Class). k.name)) ∙ ap length same ∙ length-map others (λ (k : Class). k.name) in
    let name : name_of classes c ≡ name_of others c = name_by classes c ∙ ap (λ ns. name_at (slice_get ns c)) same ∙ sym (name_by others c) in
    ap (class_of_name classes) name ∙ named_by classes (name_of others c) ∙ ap (position (λ n. bytes_eq (name_of others c) n)) same
    ∙ sym (named_by others (name_of others c)) ∙ apart c (subst (λ n. c < n) count less)

-- ---- the names stay

changed_names : (f : Class → Class) → ((k : Class) → (f k).name ≡ k.name) → (classes : Classes) (c : ℕ) → names (changed_at f classes c) ≡ names classes
changed_names f same [] c = refl
changed_names f same (k ∷ ks) zero = ap (λ n. n ∷ names ks) (same k)
changed_names f same (k ∷ ks) (suc c) = ap (λ ns. k.name ∷ ns) (changed_names f same ks c)

fixed_names : (fs : List Fixed) (classes : Classes) → names (fixed_as fs classes) ≡ names classes
fixed_names [] classes = refl
fixed_names (f ∷ fs) classes =
    fixed_names fs (with_fixed f classes) ∙ changed_names (with_part f.part f.cell) (λ k. refl) classes f.class

abbrev declared_names : Declarations → List (List ℕ)
declared_names ds = map (λ (d : Declaration). d.name) ds

by_names : (named : List ℕ → Option ℕ) (ds : Declarations) → names (map (class_by named) ds) ≡ declared_names ds
by_names named [] = refl
by_names named (d ∷ ds) = ap (λ ns. d.name ∷ ns) (by_names named ds)

classes_names : (ds : Declarations) → names (classes_of ds) ≡ declared_names ds
unfolding classes_of
classes_names ds = by_names (class_named ds) ds

component_names : (ds : Declarations) (k : Constant) → declared_names (with_component ds k) ≡ declared_names ds
component_names [] k = refl
component_names (d ∷ ds) k = by (bytes_eq k.class.text d.name) (component_names ds k)
  where
    by : (b : Bool) → declared_names (with_component ds k) ≡ declared_names ds
        → declared_names (if b then declaring d k ∷ ds else d ∷ with_component ds k) ≡ d.name ∷ declared_names ds
    by true behind = refl
    by false behind = ap (λ ns. d.name ∷ ns) behind

components_names : (ds : Declarations) (ks : List Placed) → declared_names (with_components ds ks) ≡ declared_names ds
components_names ds [] = refl
components_names ds (k ∷ ks) = components_names (with_component ds k.constant) ks ∙ component_names ds k.constant

level_names : (ds : Declarations) (ks : List Placed) (n : ℕ) → names (level ds ks n) ≡ names (classes_of ds)
unfolding level
level_names ds ks zero = refl
level_names ds ks (suc n) = fixed_names (fixes_over (level ds ks n) ds ks) (classes_of ds)

planted_names : (marks : List Place) (ds : Declarations) (ks : List Placed) → names (planted_classes marks ds ks) ≡ names (classes_of ds)
planted_names marks ds ks =
    let whole = whole_grammar marks ds ks in
    level_names whole ks (length ks) ∙ classes_names whole ∙ components_names ds (additions marks ds ks) ∙ sym (classes_names ds)

pub planted_apart : (marks : List Place) (ds : Declarations) (ks : List Placed) → first_fault ds ≡ None → AreNamedApart (planted_classes marks ds ks)
planted_apart marks ds ks faultless =
    apart_as (planted_classes marks ds ks) (classes_of ds) (planted_names marks ds ks) (classes_apart ds (none_broken ds faultless).2)
