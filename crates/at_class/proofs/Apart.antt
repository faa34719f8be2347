-- Where no component stands twice, each is the first of its name in its class.
use Rattle.std.proofs.Common.{◌≡◌, ℕ, zero, suc, ◌+◌, ◌<◌, Bool, false, List, [], ◌∷◌, ◌++◌, length, take, drop, get_or, refl, sym, ap, subst, ◌∙◌, arith, append_assoc, append-nil, Option, Some, None}
use Rattle.std.specs.Prelude.{◌||◌, position, unwrap_or, option_map, map}
use Rattle.std.specs.List.{list_any, slice_get}
use Rattle.std.specs.Str.{bytes_eq}
use Rattle.std.proofs.lemmas.Bool.{or_parts}
use Rattle.std.proofs.lemmas.List.{length-map}
use Rattle.std.proofs.lemmas.Option.{slice_get-map, slice_get-get_or, slice_get_within, get_or_from_slice_get}
use Rattle.at_model.specs.Classes.{Class, Classes, Component, chain, chain_within, own_of, parent_of, parts}
use Rattle.at_model.specs.Declarations.{Declaration, Declarations, PartDeclaration, Tok, above, class_by, class_named, classes_of, clash, component_by, component_twice, inherited, is_common, is_taken, is_twice, takes}
use Rattle.at_model.specs.Paths.{ArePartsApart}
use Rattle.at_class.specs.Checks.{part_twice_at, parts_twice, twice_at, twice_in}
use Rattle.at_class.specs.Ways.{AreLed, all_of}
use Rattle.at_class.proofs.Acyclic.{passed}
use Rattle.at_class.proofs.Chains.{chain_within-none}
use Rattle.at_class.proofs.Descents.{all_more}
use Rattle.at_class.proofs.Named.{position-at, twice-declared}
use Rattle.at_class.proofs.Sound.{given_nowhere, bytes_eq-same}
use Rattle.at_class.proofs.Taking.{bytes_eq-swap}

-- lists ---------------------------------------------------------------------------------------------------------------

abbrev pub is_named : List ℕ → Component → Bool
is_named name q = bytes_eq q.name name

-- none of these has the name of one before it, in the list or in front of it
abbrev pub AreFirst : List Component → List Component → Type 0
AreFirst front xs = (i : ℕ) (p : Component) → slice_get xs i ≡ Some p → list_any (is_named p.name) (front ++ take i xs) ≡ false

joined : (front xs ys : List Component) → AreFirst front xs → AreFirst (front ++ xs) ys → AreFirst front (xs ++ ys)
joined front [] ys before behind i p e = subst (λ qs. list_any (is_named p.name) (qs ++ take i ys) ≡ false) (append-nil front) (behind i p e)
joined front (x ∷ xs) ys before behind zero p e = before zero p e
joined front (x ∷ xs) ys before behind (suc i) p e =
    ap (list_any (is_named p.name)) (sym (append_assoc front (x ∷ []) (take i (xs ++ ys))))
    ∙ joined (front ++ x ∷ []) xs ys
    (λ j q f. ap (list_any (is_named q.name)) (append_assoc front (x ∷ []) (take j xs)) ∙ before (suc j) q f)
    (λ j q f. ap (λ qs. list_any (is_named q.name) (qs ++ take j ys)) (append_assoc front (x ∷ []) xs) ∙ behind j q f)
    i p e

-- what doesn't clash has another name
unnamed : (p : Component) (before : List Component) → list_any (clash p) before ≡ false → list_any (is_named p.name) before ≡ false
unnamed p [] e = refl
unnamed p (q ∷ qs) e =
    let (one, others) = or_parts (clash p q) (list_any (clash p) qs) e in
    let (two, three) = or_parts (bytes_eq p.name q.name || takes p q.name) (takes q p.name) one in
    let other : bytes_eq q.name p.name ≡ false = bytes_eq-swap q.name p.name ∙ (or_parts (bytes_eq p.name q.name) (takes p q.name) two).0 in
    rw other (unnamed p qs others)

-- own components ------------------------------------------------------------------------------------------------------

in_class : (o : Option Class) (i : ℕ) (p : Component) → slice_get (elim o [ None ↦ [] | Some k ↦ k.own ]) i ≡ Some p → (k : Class) × (o ≡ Some k) × (slice_get k.own i ≡ Some p)
in_class None i p e = absurd cc
in_class (Some k) i p e = (k, refl, e)

spare : Declaration
spare = record { name = []; is_abstract = false; parent = None; parts = []; at = (0, 0) }

spare_part : PartDeclaration
spare_part = record { name = []; kind = []; form = Tok; at = (0, 0) }

zero_more : (n : ℕ) → 0 + n ≡ n
zero_more n = omega arith

-- where an own component stands there is a declaration of it
declared : (ds : Declarations) (c i : ℕ) (k : Class) (p : Component) → slice_get (classes_of ds) c ≡ Some k → slice_get k.own i ≡ Some p → (c < length ds) × (i < length (get_or ds c spare).parts)
unfolding classes_of
declared ds c i k p is there =
    let f : Declaration → Class = class_by (class_named ds) in
    let len : length (map f ds) ≡ length ds = length-map ds f in
    let within : c < length (map f ds) = slice_get_within (map f ds) c k is in
    let less : c < length ds = omega (arith, len, within) in
    let same : Some (f (get_or ds c spare)) ≡ Some k = sym (slice_get-map f ds c ∙ ap (option_map f) (slice_get-get_or ds c spare less)) ∙ is in
    let own : slice_get (map (component_by (class_named ds)) (get_or ds c spare).parts) i ≡ Some p = ap (λ (o : Option Class). slice_get (unwrap_or o k).own i) same ∙ there in
    let wide : length (map (component_by (class_named ds)) (get_or ds c spare).parts) ≡ length (get_or ds c spare).parts = length-map (get_or ds c spare).parts (component_by (class_named ds)) in
    let inside : i < length (map (component_by (class_named ds)) (get_or ds c spare).parts) = slice_get_within (map (component_by (class_named ds)) (get_or ds c spare).parts) i p own in
    (less, omega (arith, wide, inside))

-- no own component is taken by one before it
never_twice : (ds : Declarations) → component_twice ds ≡ None → (c i : ℕ) (p : Component) → slice_get (own_of (classes_of ds) c) i ≡ Some p → is_twice (classes_of ds) c i ≡ false
unfolding twice_in parts_twice
never_twice ds none c i p e =
    let classes : Classes = classes_of ds in
    let (k, is, there) = in_class (slice_get classes c) i p e in
    let (less, more) = declared ds c i k p is there in
    let d : Declaration = get_or ds c spare in
    let here : twice_at classes c d ≡ None = ap (λ m. twice_at classes m d) (sym (zero_more c)) ∙ given_nowhere (twice_at classes) 0 ds c spare (twice-declared ds classes refl ∙ none) less in
    let q : PartDeclaration = get_or d.parts i spare_part in
    passed (is_twice classes c i) q.at (ap (λ m. part_twice_at classes c m q) (sym (zero_more i)) ∙ given_nowhere (part_twice_at classes c) 0 d.parts i spare_part here more)

-- each own component has another name than those before it, inherited ones counted
own_first : (classes : Classes) (c : ℕ) → ((i : ℕ) (p : Component) → slice_get (own_of classes c) i ≡ Some p → is_twice classes c i ≡ false) → AreFirst (inherited classes c) (own_of classes c)
own_first classes c once i p e =
    let taken : is_taken (inherited classes c ++ take i (own_of classes c)) p ≡ false =
    sym (ap (λ (o : Option Component). elim o
    [ None ↦ false | Some q ↦ is_taken (inherited classes c ++ take i (own_of classes c)) q ]) e) ∙ once i p e in
    unnamed p (inherited classes c ++ take i (own_of classes c)) (or_parts (is_common p.name) (list_any (clash p) (inherited classes c ++ take i (own_of classes c))) taken).1

-- all components ------------------------------------------------------------------------------------------------------

-- those of a chain
of_chain : (classes : Classes) → AreLed classes → ((c : ℕ) → AreFirst (inherited classes c) (own_of classes c)) →
    (up : List ℕ) (from : Option ℕ) → chain_within (length classes) classes from ≡ up → AreFirst [] (all_of classes up)
unfolding chain
of_chain classes led own [] from e = λ i p there. absurd cc
of_chain classes led own (c ∷ cs) None e = absurd (nothing (sym (chain_within-none classes (length classes)) ∙ e))
  where
    nothing : [] ≡ c ∷ cs → ⊥
    nothing f = cc
of_chain classes led own (c ∷ cs) (Some b) e =
    let f : b ∷ above classes b ≡ c ∷ cs = sym (led b) ∙ e in
    let all : AreFirst [] (all_of classes (above classes b)) = subst (λ ds. AreFirst [] (all_of classes ds))
    (sym (ap (drop 1) f)) (of_chain classes led own cs (parent_of classes b) (ap (drop 1) f)) in
    subst (λ ds. AreFirst [] (all_of classes ds)) f
    (subst (AreFirst []) (sym (all_more classes b (above classes b))) (joined [] (all_of classes (above classes b)) (own_of classes b) all (own b)))

pub first_named : (xs : List Component) → AreFirst [] xs → (i : ℕ) (p : Component) → slice_get xs i ≡ Some p → position (is_named p.name) xs ≡ Some i
first_named xs first i p e =
    position-at (is_named p.name) xs i p (slice_get_within xs i p e) (first i p e) (ap (λ (q : Component). bytes_eq q.name p.name) (get_or_from_slice_get xs i p p e) ∙ bytes_eq-same p.name)

-- where no component stands twice, each is the first of its name in its class
pub parts_apart : (ds : Declarations) → AreLed (classes_of ds) → component_twice ds ≡ None → ArePartsApart (classes_of ds)
unfolding chain
parts_apart ds led none c i p e =
    let classes : Classes = classes_of ds in
    first_named (parts classes c) (of_chain classes led (λ b. own_first classes b (never_twice ds none b)) (chain_within (length classes) classes (Some c)) (Some c) refl) i p e
