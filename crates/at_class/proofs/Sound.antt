-- The classes that a grammar without faults declares are sound.
use Rattle.std.proofs.Common.{◌≡◌, ℕ, ◌+◌, ◌<◌, List, [], ◌∷◌, length, map, get_or, refl, ap, sym, subst, ◌∙◌, arith, Option, Some, None, suc, zero, eq-eqb}
use Rattle.std.specs.Prelude.{Bool, true, false, ◌||◌, if◌then◌else◌, position, All, IfSome, unwrap_or, option_and_then, option_map}
use Rattle.std.specs.Str.{IsUtf8, bytes_eq}
use Rattle.std.proofs.lemmas.Str.{IsUtf8-string_bytes}
use Rattle.std.specs.Option.{option_or}
use Rattle.std.proofs.lemmas.List.{length-map, get_or-map}
use Rattle.std.proofs.lemmas.Option.{slice_get-get_or, slice_get-map}
use Rattle.at_model.specs.Classes.{AreNamedApart, Class, AreSound, IsClassSound, IsComponentSound, IsShapeWithin, TokenKind, class_of_name, name_of}
use Rattle.at_model.specs.Names.{IsName}
use Rattle.at_model.specs.Declarations.{Declarations, Declaration, PartDeclaration, Form, One, Many, Maybe, Tok, Place, AreNamed, IsDeclarationNamed, class_named, class_by, component_by, shape_in, classes_of, class_twice, first_given, is_predefined}
use Rattle.at_class.proofs.Firsts.{twice_test}
use Rattle.at_grammar.specs.declared.syntax.ClassDecl.{ClassDecl}
use Rattle.at_class.specs.Grammar.{declaration_view, part_declaration_view, declarations_view}
use Rattle.at_class.proofs.Named.{position-at, position-map, position-within}

-- nothing is given anywhere
pub given_nowhere : {A B : Type 0} (f : ℕ → A → Option B) (k : ℕ) (xs : List A) (i : ℕ) (d : A) → first_given f k xs ≡ None → i < length xs → f (k + i) (get_or xs i d) ≡ None
given_nowhere f k [] i d none less = absurd (omega arith)
given_nowhere f k (x ∷ xs) zero d none less =
    let n : k + 0 ≡ k = omega arith in ap (λ m. f m x) n ∙ (head (f k x) (first_given f (k + 1) xs) none).0
  where
    head : {B : Type 0} (a b : Option B) → option_or a b ≡ None → (a ≡ None) × (b ≡ None)
    head None b h = (refl, h)
    head (Some a) b h = absurd (cc)
given_nowhere f k (x ∷ xs) (suc i) d none less =
    let n : k + suc i ≡ (k + 1) + i = omega arith in
    ap (λ m. f m (get_or xs i d)) n ∙ given_nowhere f (k + 1) xs i d (rest (f k x) (first_given f (k + 1) xs) none) (omega arith)
  where
    rest : {B : Type 0} (a b : Option B) → option_or a b ≡ None → b ≡ None
    rest None b h = h
    rest (Some a) b h = absurd (cc)

untaken : (a b : Bool) (p : Place) → (if a || b then Some p else None) ≡ None → b ≡ false
untaken true b p h = absurd (cc)
untaken false true p h = absurd (cc)
untaken false false p h = refl

class_named-within : (ds : Declarations) (name : List ℕ) → IfSome (class_named ds name) (λ c. c < length ds)
class_named-within ds name = position-within (λ d. bytes_eq name d.name) ds

or_first : (n : ℕ) (r : Option ℕ) → 0 < n → IfSome r (λ c. c < n) → unwrap_or r 0 < n
or_first n None some within = some
or_first n (Some c) some within = within

shape_within : (form : Form) (n c : ℕ) (kind : TokenKind) → c < n → IsShapeWithin n (shape_in form c kind)
shape_within One n c kind less = less
shape_within Many n c kind less = less
shape_within Maybe n c kind less = less
shape_within Tok n c kind less = tt

parent_within : (ds : Declarations) (parent : Option (List ℕ)) → IfSome (option_and_then (class_named ds) parent) (λ b. b < length ds)
parent_within ds None = tt
parent_within ds (Some name) = class_named-within ds name

-- the names are texts
pub record AreTexts (d : Declaration) : Type 0 where
  pub name : IsUtf8 d.name
  pub parts : All (λ p. IsUtf8 p.name) d.parts

-- as all that strings hold
pub view_texts : (xs : List ClassDecl) → All AreTexts (declarations_view xs)
view_texts xs k d less =
    let l : k < length xs = subst (λ n. k < n) (length-map xs declaration_view) less in
    let x : ClassDecl = get_or xs k (spare xs k l) in
    subst AreTexts (sym (get_or-map declaration_view xs k (spare xs k l) d l)) (record {
      name = IsUtf8-string_bytes x.name;
      parts = λ i p more.
          let m : i < length x.parts.items = subst (λ n. i < n) (length-map x.parts.items part_declaration_view) more in
          subst (λ (q : PartDeclaration). IsUtf8 q.name)
          (sym (get_or-map part_declaration_view x.parts.items i (spare x.parts.items i m) p m))
          (IsUtf8-string_bytes (get_or x.parts.items i (spare x.parts.items i m)).name);
    })
  where
    spare : {A : Type 0} (xs : List A) (k : ℕ) → k < length xs → A
    spare [] k less = absurd (omega arith)
    spare (x ∷ xs) k less = x

component_sound : (ds : Declarations) (p : PartDeclaration) → 0 < length ds → IsName p.name → IsComponentSound (length ds) (component_by (class_named ds) p)
component_sound ds p some named = record {
  name = named;
  within = shape_within p.form (length ds) _ _ (or_first (length ds) (class_named ds p.kind) some (class_named-within ds p.kind));
  fixed = tt;
}

class_sound : (ds : Declarations) (d : Declaration) → 0 < length ds → IsDeclarationNamed d → AreTexts d → IsClassSound (length ds) (class_by (class_named ds) d)
class_sound ds d some named texts = record {
  name = (named.name, texts.name);
  parent = parent_within ds d.parent;
  own = λ k e less.
      let l : k < length d.parts = subst (λ n. k < n) (length-map d.parts (component_by (class_named ds))) less in
      subst (IsComponentSound (length ds)) (sym (get_or-map (component_by (class_named ds)) d.parts k (spare d) e l))
      (component_sound ds (get_or d.parts k (spare d)) some (named.parts k (spare d) l, texts.parts k (spare d) l));
}
  where
    spare : Declaration → PartDeclaration
    spare d = record { name = []; kind = []; form = Tok; at = (0, 0) }

pub bytes_eq-same : (xs : List ℕ) → bytes_eq xs xs ≡ true
bytes_eq-same [] = refl
bytes_eq-same (x ∷ xs) = rw (eq-eqb x x refl) (bytes_eq-same xs)

named_apart : (ds : Declarations) (c : ℕ) (e : Declaration) → class_twice ds ≡ None → c < length ds → position (λ d. bytes_eq (get_or ds c e).name d.name) ds ≡ Some c
unfolding class_twice
named_apart ds c e none less =
    let d : Declaration = get_or ds c e in
    let n : 0 + c ≡ c = omega arith in
    let given : twice_test ds c d ≡ None = ap (λ m. twice_test ds m d) (sym n) ∙ given_nowhere (twice_test ds) 0 ds c e none less in
    position-at (λ x. bytes_eq d.name x.name) ds c e less (untaken (is_predefined d.name) _ d.at given) (bytes_eq-same d.name)

name_of-class : (ds : Declarations) (named : List ℕ → Option ℕ) (c : ℕ) (e : Declaration) → c < length ds → name_of (map (class_by named) ds) c ≡ (get_or ds c e).name
name_of-class ds named c e less =
    ap (λ o. elim o [ None ↦ [] | Some k ↦ k.name ]) (slice_get-map (class_by named) ds c ∙ ap (option_map (class_by named)) (slice_get-get_or ds c e less))

-- each class is the first one of its name
pub classes_apart : (ds : Declarations) → class_twice ds ≡ None → AreNamedApart (classes_of ds)
unfolding classes_of
classes_apart ds none c less =
    let f : Declaration → Class = class_by (class_named ds) in
    let l : c < length ds = subst (λ n. c < n) (length-map ds f) less in
    let spare : Declaration = record { name = []; is_abstract = false; parent = None; parts = []; at = (0, 0) } in
    ap (class_of_name (map f ds)) (name_of-class ds (class_named ds) c spare l)
    ∙ position-map (λ k. bytes_eq (get_or ds c spare).name k.name) f ds
    ∙ named_apart ds c spare none l

pub classes_sound : (ds : Declarations) → 0 < length ds → AreNamed ds → All AreTexts ds → class_twice ds ≡ None → AreSound (classes_of ds)
unfolding classes_of
classes_sound ds some named texts none =
    let f : Declaration → Class = class_by (class_named ds) in
    let len : length (map f ds) ≡ length ds = length-map ds f in
    record {
      some = omega (arith, len);
      each = λ k x less.
          let l : k < length ds = subst (λ n. k < n) len less in
          subst (λ n. IsClassSound n (get_or (map f ds) k x)) (sym len)
          (subst (IsClassSound (length ds)) (sym (get_or-map f ds k spare x l)) (class_sound ds (get_or ds k spare) some (named k spare l) (texts k spare l)));
      distinct = classes_apart ds none;
    }
  where
    spare : Declaration
    spare = record { name = []; is_abstract = false; parent = None; parts = []; at = (0, 0) }
