-- The classes that the names and entries of a table stand for.
use Rattle.std.proofs.Common.{◌≡◌, ℕ, ◌+◌, ◌<◌, ◌≤◌, ◌++◌, List, [], ◌∷◌, length, map, drop, get_or, refl, ap, sym, ◌∙◌, subst, arith, length-append, Option, Some, None, min, inl, inr}
use Rattle.std.specs.Prelude.{Bool, false, not, zip, option_map, option_and_then, unwrap_or, IfSome, String, string_bytes}
use Rattle.std.specs.List.{slice_get}
use Rattle.std.proofs.lemmas.List.{length-map, ext_get_or}
use Rattle.std.proofs.lemmas.Option.{slice_get_cases, slice_get_past, slice_get_read, slice_get-map, slice_get_within, get_or_from_slice_get}
use Rattle.std.proofs.lemmas.Slice.Zip.{length-zip}
use Rattle.indexmap.proofs.ReorderLemmas.{slice_get-zip_some}
use Rattle.std.proofs.Math.Seq.{drop-append_seam}
use Rattle.at_model.specs.Classes.{Classes, Class as ModelClass, Component, chain, chain_within, is_concrete, name_of, own_of, parent_of, parts}
use Rattle.at_model.specs.Declarations.{above}
use Rattle.at_model.specs.WellFormed.{IsHierarchy}
use Rattle.at_class.specs.declared.class.Class.{Class}
use Rattle.at_class.specs.declared.entry.Entry.{Entry}
use Rattle.at_class.specs.Table.{AreEntries, IsEntry, inherited_count, entry_view, table_view}
use Rattle.at_class.specs.View.{class_view, classes_view, part_view}
use Rattle.at_class.specs.Ways.{AreLed, all_of}
use Rattle.at_class.proofs.Chains.{chain_within-none}
use Rattle.at_class.proofs.Descents.{all_parts, pushed_at}
use Rattle.at_model.proofs.LedUp.{has_parent}

there : {X : Type 0} (xs : List X) (c : ℕ) → c < length xs → (x : X) × (slice_get xs c ≡ Some x)
there xs c less = elim (slice_get_cases xs c).1 [
  | inl some ↦ (some.0, some.2)
  | inr past ↦ absurd (omega (arith, past.0, less))
]

pub length-table : {A : Type 0} (names : List (String A)) (es : List Entry) → length names ≡ length es → length (table_view names es) ≡ length es
length-table names es n =
    let m : min (length names) (length es) ≡ length es = omega (arith, n) in
    length-map (zip names es) (λ p. entry_view es p.0 p.1) ∙ length-zip names es ∙ m

pub length_of : {A : Type 0} (names : List (String A)) (es : List Entry) (classes : Classes) → length names ≡ length es → table_view names es ≡ classes → length classes ≡ length es
length_of names es classes n is = ap length (sym is) ∙ length-table names es n

names_beside : {A : Type 0} (all : List Entry) (names : List (String A)) (es : List Entry) → length names ≡ length es
    → map (λ (k : ModelClass). k.name) (map (λ p. entry_view all p.0 p.1) (zip names es)) ≡ map string_bytes names
names_beside all [] es n = refl
names_beside all (x ∷ xs) [] n = absurd (omega (arith, n))
names_beside all (x ∷ xs) (e ∷ es) n = ap (λ ns. string_bytes x ∷ ns) (names_beside all xs es (omega (arith, n)))

pub names-table : {A : Type 0} (names : List (String A)) (es : List Entry) → length names ≡ length es → map (λ (k : ModelClass). k.name) (table_view names es) ≡ map string_bytes names
names-table names es n = names_beside es names es n

-- the class at a position ---------------------------------------------------------------------------------------------

table_get : {A : Type 0} (names : List (String A)) (es : List Entry) (c : ℕ) (name : String A) (e : Entry) → slice_get
    names c ≡ Some name → slice_get es c ≡ Some e → slice_get (table_view names es) c ≡ Some (entry_view es name e)
table_get names es c name e f g = slice_get-map (λ p. entry_view es p.0 p.1) (zip names es) c ∙ ap (option_map (λ p. entry_view es p.0 p.1)) (slice_get-zip_some names es c name e f g)

pub table_name : {A : Type 0} (names : List (String A)) (es : List Entry) (c : ℕ) (name : String A)
    → length names ≡ length es → slice_get names c ≡ Some name → name_of (table_view names es) c ≡ string_bytes name
table_name names es c name n f =
    let e = there es c (omega (arith, n, slice_get_within names c name f)) in
    ap (λ o. elim o [ None ↦ [] | Some k ↦ k.name ]) (table_get names es c name e.0 f e.1)

pub table_concrete : {A : Type 0} (names : List (String A)) (es : List Entry) (c : ℕ) (e : Entry)
    → length names ≡ length es → slice_get es c ≡ Some e → is_concrete (table_view names es) c ≡ not e.is_abstract
table_concrete names es c e n g =
    let s = there names c (omega (arith, n, slice_get_within es c e g)) in
    ap (λ o. elim o [ None ↦ false | Some k ↦ not k.is_abstract ]) (table_get names es c s.0 e s.1 g)

pub table_parent : {A : Type 0} (names : List (String A)) (es : List Entry) (c : ℕ) (e : Entry) → length names ≡ length es → slice_get es c ≡ Some e → parent_of (table_view names es) c ≡ e.parent
table_parent names es c e n g =
    let s = there names c (omega (arith, n, slice_get_within es c e g)) in
    ap (option_and_then (λ (k : ModelClass). k.parent)) (table_get names es c s.0 e s.1 g)

pub table_past : {A : Type 0} (names : List (String A)) (es : List Entry) (c : ℕ) → length names ≡ length es → length es ≤ c → parent_of (table_view names es) c ≡ None
table_past names es c n past = ap (option_and_then (λ (k : ModelClass). k.parent)) (slice_get_past (table_view names es) c (omega (arith, past, length-table names es n)))

-- what is kept of declared classes stands for these ------------------------------------------------------------------

own_behind : (classes : Classes) → AreLed classes → (c : ℕ) → drop (length (all_of classes (above classes c))) (parts classes c) ≡ own_of classes c
own_behind classes led c = ap (drop (length (all_of classes (above classes c)))) (all_parts classes led c) ∙ drop-append_seam (all_of classes (above classes c)) (own_of classes c)

-- the components of the superclass are counted
counted : (ks : List Class) (es : List Entry) (n : ℕ) (o : Option ℕ) → AreEntries ks es n → length ks ≡ n → IfSome o (λ p. p < n)
    → unwrap_or (option_map (λ (e : Entry). length e.parts.items) (option_and_then (slice_get es) o)) 0
    ≡ length (all_of (classes_view ks) (chain_within (length (classes_view ks)) (classes_view ks) o))
unfolding chain
counted ks es n None are m less = sym (ap (λ up. length (all_of (classes_view ks) up)) (chain_within-none (classes_view ks) (length (classes_view ks))))
counted ks es n (Some p) are m less =
    let e = there es p (omega (arith, less, are.count)) in
    let k = there ks p (omega (arith, less, m)) in
    let e-is : get_or es p e.0 ≡ e.0 = get_or_from_slice_get es p e.0 e.0 e.1 in
    ap (λ (r : Option Entry). unwrap_or (option_map (λ (e : Entry). length e.parts.items) r) 0) e.1
    ∙ sym (length-map e.0.parts.items part_view)
    ∙ ap length (ap (λ (d : Entry). map part_view d.parts.items) (sym e-is) ∙ (are.each p k.0 e.0 less).parts)

abbrev made : List ℕ → Bool → Option ℕ → List Component → ModelClass
made name is_abstract parent own = record { name = name; is_abstract = is_abstract; parent = parent; own = own }

same_class : (a b : List ℕ) (s t : Bool) (o p : Option ℕ) (us vs : List Component) → a ≡ b → s ≡ t → o ≡ p → us ≡ vs → made a s o us ≡ made b t p vs
same_class a b s t o p us vs e f g h = ap (λ x. made x s o us) e ∙ ap (λ x. made b x o us) f ∙ ap (λ x. made b t x us) g ∙ ap (λ x. made b t p x) h

entry_class : {A : Type 0} (ks : List Class) (es : List Entry) (name : String A) (c : ℕ) (k : Class) (e : Entry)
    → AreEntries ks es (length ks) → AreLed (classes_view ks) → IsHierarchy (classes_view ks)
    → slice_get ks c ≡ Some k → slice_get es c ≡ Some e → string_bytes name ≡ string_bytes k.name → entry_view es name e ≡ class_view k
entry_class ks es name c k e are led h f g same =
    let classes = classes_view ks in
    let less : c < length ks = slice_get_within ks c k f in
    let k-is : get_or ks c k ≡ k = get_or_from_slice_get ks c k k f in
    let e-is : get_or es c e ≡ e = get_or_from_slice_get es c e e g in
    let kept = are.each c k e less in
    let there : slice_get classes c ≡ Some (class_view k) = slice_get-map class_view ks c ∙ ap (option_map class_view) f in
    let parent : e.parent ≡ k.parent = ap (λ (d : Entry). d.parent) (sym e-is) ∙ kept.parent ∙ ap (λ (d : Class). d.parent) k-is in
    let up : parent_of classes c ≡ k.parent = ap (option_and_then (λ (d : ModelClass). d.parent)) there in
    let within : IfSome e.parent (λ p. p < length ks) =
    subst (λ n. IfSome e.parent (λ p. p < n)) (length-map ks class_view) (subst (λ o. IfSome o (λ p. p < length classes)) (up ∙ sym parent) (h.parents c)) in
    let count : inherited_count es e ≡ length (all_of classes (above classes c)) =
    counted ks es (length ks) e.parent are refl within ∙ ap (λ o. length (all_of classes (chain_within (length classes) classes o))) (parent ∙ sym up) in
    let own : drop (inherited_count es e) (map part_view e.parts.items) ≡ map part_view k.own.items =
    ap (λ n. drop n (map part_view e.parts.items)) count
    ∙ ap (λ (d : Entry). drop (length (all_of classes (above classes c))) (map part_view d.parts.items)) (sym e-is)
    ∙ ap (drop (length (all_of classes (above classes c)))) kept.parts
    ∙ own_behind classes led c
    ∙ ap (λ o. elim o [ None ↦ [] | Some d ↦ d.own ]) there in
    same_class (string_bytes name) (string_bytes k.name) e.is_abstract k.is_abstract e.parent k.parent _ _ same
    (ap (λ (d : Entry). d.is_abstract) (sym e-is) ∙ kept.is_abstract
    ∙ ap (λ (d : Class). d.is_abstract) k-is) parent own

name_at : {A : Type 0} (names : List (String A)) (classes : Classes) (c : ℕ) (name : String A) (k : ModelClass)
    → map string_bytes names ≡ map (λ (k : ModelClass). k.name) classes → slice_get names c ≡ Some name
    → slice_get classes c ≡ Some k → string_bytes name ≡ k.name
name_at names classes c name k same f g =
    ap (λ o. unwrap_or o []) (
    ap (option_map string_bytes) (sym f)
    ∙ sym (slice_get-map string_bytes names c)
    ∙ ap (λ ns. slice_get ns c) same
    ∙ slice_get-map (λ (k : ModelClass). k.name) classes c
    ∙ ap (option_map (λ (k : ModelClass). k.name)) g
    )

class_at : {A : Type 0} (names : List (String A)) (ks : List Class) (es : List Entry) (c : ℕ) (d : ModelClass)
    → length names ≡ length es → map string_bytes names ≡ map (λ (k : ModelClass). k.name) (classes_view ks)
    → AreEntries ks es (length ks) → AreLed (classes_view ks) → IsHierarchy (classes_view ks)
    → c < length ks → get_or (table_view names es) c d ≡ get_or (classes_view ks) c d
class_at names ks es c d n same are led h less =
    let k = there ks c less in
    let e = there es c (omega (arith, less, are.count)) in
    let s = there names c (omega (arith, less, are.count, n)) in
    let class : slice_get (classes_view ks) c ≡ Some (class_view k.0) = slice_get-map class_view ks c ∙ ap (option_map class_view) k.1 in
    get_or_from_slice_get (table_view names es) c (entry_view es s.0 e.0) d (table_get names es c s.0 e.0 s.1 e.1)
    ∙ entry_class ks es s.0 c k.0 e.0 are led h k.1 e.1 (name_at names (classes_view ks) c s.0 (class_view k.0) same s.1 class)
    ∙ sym (get_or_from_slice_get (classes_view ks) c (class_view k.0) d class)

pub table-declared : {A : Type 0} (names : List (String A)) (ks : List Class) (es : List Entry)
    → map string_bytes names ≡ map (λ (k : ModelClass). k.name) (classes_view ks) → AreEntries ks es (length ks)
    → AreLed (classes_view ks) → IsHierarchy (classes_view ks)
    → table_view names es ≡ classes_view ks
table-declared names ks es same are led h =
    let as_many : length names ≡ length ks = sym (length-map names string_bytes) ∙ ap length same ∙ length-map (classes_view ks) (λ (k : ModelClass). k.name) ∙ length-map ks class_view in
    let n : length names ≡ length es = as_many ∙ sym are.count in
    ext_get_or none (table_view names es) (classes_view ks)
    (length-table names es n ∙ are.count ∙ sym (length-map ks class_view)) (λ c less.
    class_at names ks es c none n same are led h (omega (arith, less, length-table names es n, are.count)))
  where
    none : ModelClass
    none = record { name = []; is_abstract = false; parent = None; own = [] }

-- all components of a class by what is kept of its superclass
pub parts_known : (ks : List Class) (es : List Entry) (c p : ℕ) (e : Entry) → AreLed (classes_view ks)
    → AreEntries ks es (length es) → parent_of (classes_view ks) c ≡ Some p → slice_get es p ≡ Some e
    → map part_view e.parts.items ++ own_of (classes_view ks) c ≡ parts (classes_view ks) c
unfolding chain
parts_known ks es c p e led are up f =
    let classes = classes_view ks in
    let own = own_of classes c in
    let k = there ks c (subst (λ n. c < n) (length-map ks class_view) (has_parent classes c p up)) in
    let kept = (are.each p k.0 e (slice_get_within es p e f)).parts in
    ap (λ (d : Entry). map part_view d.parts.items ++ own) (sym (get_or_from_slice_get es p e e f))
    ∙ ap (λ ps. ps ++ own) kept
    ∙ ap (λ o. all_of classes (chain_within (length classes) classes o) ++ own) (sym up)
    ∙ sym (all_parts classes led c)

-- one entry more ------------------------------------------------------------------------------------------------------

pub entries_none : (ks : List Class) (es : List Entry) → es ≡ [] → AreEntries ks es 0
entries_none ks es e = record {
  count = ap length e;
  each = λ c k d less. absurd (omega (arith, less));
}

pub entries_more : (ks : List Class) (es new : List Entry) (n : ℕ) (k : Class) (e : Entry) → AreEntries ks es n → n <
    length ks → k ≡ get_or ks n k → IsEntry (classes_view ks) n k e → new ≡ es ++ e ∷ [] → AreEntries ks new (n + 1)
entries_more ks es new n k e are less is here g = subst (λ fs. AreEntries ks fs (n + 1)) (sym g) (record {
  count = length-append es (e ∷ []) ∙ ap (λ m. m + 1) are.count;
  each = λ c x d l. elim (pushed_at es e c d (subst (λ m. c < m + 1) (sym are.count) l)) [
    | inl old ↦ subst (IsEntry (classes_view ks) c (get_or ks c x)) (sym old.1) (are.each c x d (subst (λ m. c < m) are.count old.0))
    | inr last ↦ subst (IsEntry (classes_view ks) c (get_or ks c x)) (sym last.1)
        (subst (λ m. IsEntry (classes_view ks) m (get_or ks m x) e) (sym (last.0 ∙ are.count))
        (subst (λ y. IsEntry (classes_view ks) n y e) (sym (get_or_from_slice_get ks n k x (slice_get_read ks (length ks) n k refl less is))) here))
  ];
})
