-- Where equations stand, and what is made of them.
use Rattle.std.proofs.Common.{◌≡◌, ℕ, Bool, true, false, List, map, Option, None, Some, IfSome, String, refl, sym, ap, subst, ◌∙◌, option_map}
use Rattle.std.specs.Prelude.{bytes_eq}
use Rattle.std.specs.List.{slice_get}
use Rattle.std.specs.Borrow.{Bor}
use Rattle.std.proofs.lemmas.Option.{slice_get-map}
use Rattle.at_model.specs.Kinds.{ScopeKinds, AreInheritedAlike, IsInheritedOf, is_for_list}
use Rattle.at_model.specs.Rules.{Rules, Kind, Attribute}
use Rattle.at_rules.specs.Bodies.{body_view, kind_view}
use Rattle.at_rules.specs.RulesView.{attribute_view, own_view, text_of}
use Rattle.at_rules.specs.declared.body.Body.{Body}
use Rattle.at_rules.specs.declared.body.Kind.{Kind as KindCode}
use Rattle.at_rules.specs.declared.rules.Attribute.{Attribute as AttributeCode}
use Rattle.at_seek.specs.Finding.{AreDeclared, AreNamed, IsDeclaredAs, IsInheritedTurned, IsNamedIn, IsOver, equation_view, kinds_in}
use Rattle.at_seek.specs.Sought.{IsInheritedSought, IsOwnSought, IsSearched, itself}
use Rattle.at_seek.specs.declared.finder.Finder.{Finder}
use Rattle.at_seek.specs.declared.scope.Scope.{Scope}

-- what is told of one option
pub one_told : {A : Type 0} (x y : A) → Some x ≡ Some y → x ≡ y
one_told x y e = cc

-- the kinds of the names, where these are those
pub scope_kinds : (o : Option Scope) (h : Bool) (class : ℕ) (ks : List KindCode) (names : List Kind) →
    IfSome o (λ s. (s.this ≡ class) × (s.names.items ≡ ks)) → names ≡ map kind_view ks →
    IfSome o (λ s. kinds_in s h ≡ record { this = class; names = names; has_index = h })
scope_kinds None h class ks names is same = tt
scope_kinds (Some s) h class ks names (this, items) same =
    λ i. record { this = this i; names = (ap (map kind_view) items ∙ sym same) i; has_index = h }

-- the kinds of an attribute's parameters
pub parameters_told : (rules : Rules) (finder : Finder) (k : ℕ) (e : (ℕ × ℕ) × AttributeCode) (a : Attribute) → IsOver rules finder →
    slice_get finder.attributes.now.entries k ≡ Some e → slice_get rules.attributes k ≡ Some a → a.parameters ≡ map kind_view e.1.params.items
parameters_told rules finder k e a over at there =
    let (b, found, told) = over.attributes k e at in
    ap (λ (x : Attribute). x.parameters) (one_told a b (sym there ∙ found)) ∙ told.parameters

-- and of those of all inherited attributes of a name
pub parameters_below : (rules : Rules) (texts : ℕ → List ℕ) (finder : Finder) (k name : ℕ) (a : Attribute) (d : Bor AttributeCode) → IsOver rules finder →
    AreInheritedAlike rules → AreNamed texts rules finder.attributes.now.entries → IsInheritedOf rules (texts name) k a →
    IsNamedIn finder.attributes.now.entries name d → a.parameters ≡ map kind_view d.now.params.items
parameters_below rules texts finder k name a d over alike named (there, inherited, text) (j, e, at, is, same, below) =
    let (b, found, called, down) = named j e at in
    let as_named : bytes_eq b.name a.name ≡ true = subst (λ t. bytes_eq t a.name ≡ true) (ap texts (sym same) ∙ sym called) text in
    sym ((alike j k b a found there (down ∙ below) inherited as_named).0) ∙ parameters_told rules finder j e b over at found
    ∙ ap (λ (x : AttributeCode). map kind_view x.params.items) is

-- an equation whose body is turned, or is as it was
pub own_turned : (rules : Rules) (e : (ℕ × ℕ) × Body) (k : ℕ × ℕ) (b new : Body) (s : ScopeKinds) → e ≡ (k, b) →
    ((a : Attribute) → slice_get rules.attributes k.1 ≡ Some a → s ≡ record { this = k.0; names = a.parameters; has_index = false }) →
    IsSearched rules s (body_view b) (body_view new) → IsOwnSought rules (own_view e) (own_view (e.0, new))
own_turned rules e k b new s is scope h = subst (λ (x : (ℕ × ℕ) × Body). IsOwnSought rules (own_view x) (own_view (x.0, new))) (sym is) (record {
  class = refl;
  attribute = refl;
  body = λ a there. subst (λ t. IsSearched rules t (body_view b) (body_view new)) (scope a there) h;
})

pub own_itself : (rules : Rules) (e : (ℕ × ℕ) × Body) (k : ℕ × ℕ) (b : Body) → e ≡ (k, b) → IsOwnSought rules (own_view e) (own_view (e.0, b))
own_itself rules e k b is = subst (λ (x : (ℕ × ℕ) × Body). IsOwnSought rules (own_view x) (own_view (x.0, b))) (sym is) (record {
  class = refl;
  attribute = refl;
  body = λ a there. itself (body_view b);
})

pub inherited_turned : (rules : Rules) (texts : ℕ → List ℕ) (e : (ℕ × Option ℕ × ℕ) × Body) (k : ℕ × Option ℕ × ℕ) (b new : Body) (s : Bool → ScopeKinds) →
    e ≡ (k, b) → ((n : ℕ) (a : Attribute) (h : Bool) → IsInheritedOf rules (texts k.2) n a → s h ≡ record { this = k.0; names = a.parameters; has_index = h }) →
    ((h : Bool) → IsSearched rules (s h) (body_view b) (body_view new)) → IsInheritedTurned texts rules e (e.0, new)
inherited_turned rules texts e k b new s is scope h = subst (λ (x : (ℕ × Option ℕ × ℕ) × Body). IsInheritedTurned texts rules x (x.0, new)) (sym is) (
  refl,
  record {
    class = refl;
    part = refl;
    name = refl;
    body = λ n a of.
        let list = is_for_list rules (equation_view texts (k, b)) in
        subst (λ t. IsSearched rules t (body_view b) (body_view new)) (scope n a list of) (h list);
  },
)

pub inherited_itself : (rules : Rules) (texts : ℕ → List ℕ) (e : (ℕ × Option ℕ × ℕ) × Body) (k : ℕ × Option ℕ × ℕ) (b : Body) → e ≡ (k, b) →
    IsInheritedTurned texts rules e (e.0, b)
inherited_itself rules texts e k b is = subst (λ (x : (ℕ × Option ℕ × ℕ) × Body). IsInheritedTurned texts rules x (x.0, b)) (sym is) (
  refl,
  record {
    class = refl;
    part = refl;
    name = refl;
    body = λ n a of. itself (body_view b);
  },
)

-- the attributes, as they are told
pub declared_of : {Z : Type 0} (rules : Rules) (names : List (String Z)) (entries : List ((ℕ × ℕ) × AttributeCode)) →
    map (attribute_view names) entries ≡ rules.attributes → AreDeclared rules entries
declared_of rules names entries is k e at = (
  attribute_view names e,
  subst (λ xs. slice_get xs k ≡ Some (attribute_view names e)) is (slice_get-map (attribute_view names) entries k ∙ ap (option_map (attribute_view names)) at),
  record { class = refl; parameters = refl; result = refl },
)

pub named_of : {Z : Type 0} (rules : Rules) (names : List (String Z)) (entries : List ((ℕ × ℕ) × AttributeCode)) →
    map (attribute_view names) entries ≡ rules.attributes → AreNamed (text_of names) rules entries
named_of rules names entries is k e at = (
  attribute_view names e,
  subst (λ xs. slice_get xs k ≡ Some (attribute_view names e)) is (slice_get-map (attribute_view names) entries k ∙ ap (option_map (attribute_view names)) at),
  refl,
  refl,
)
