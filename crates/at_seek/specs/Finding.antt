-- What is known of rules while it is found which folds may be searches.
use Rattle.std.specs.Prelude.{◌≡◌, ℕ, Bool, true, false, List, map, Option, Some, slice_get}
use Rattle.std.specs.Borrow.{Bor}
use Rattle.indexmap.specs.Layout.{set_value_at}
use Rattle.at_model.specs.Classes.{Classes, fits}
use Rattle.at_model.specs.Drawers.{Key, has_key}
use Rattle.at_model.specs.Bodies.{Expr, TruthLiteral, This, Name, Equals, TokenOf, Exists, First, SeekAny, SeekFirst}
use Rattle.at_model.specs.Kinds.{ScopeKinds, bound_kinds}
use Rattle.at_model.specs.Rules.{Rules, Attribute, InheritedEquation}
use Rattle.at_model.specs.Seeking.{IsTest}
use Rattle.at_model.specs.WellFormed.{IsHierarchy}
use Rattle.at_class.specs.Keys.{key_view}
use Rattle.at_class.specs.declared.key.Key.{Key as KeyCode}
use Rattle.at_rules.specs.Bodies.{body_view, kind_view, sought_view}
use Rattle.at_rules.specs.RulesView.{own_view}
use Rattle.at_rules.specs.declared.body.Body.{Body}
use Rattle.at_rules.specs.declared.body.Lookup.{Lookup}
use Rattle.at_rules.specs.declared.rules.Attribute.{Attribute as AttributeCode}
use Rattle.at_seek.specs.Sought.{AreElements, BeginsByKey, EachBy, HasTextKey, IsInheritedSought, IsOwnSought, IsSearched, IsSoughtText, TestsByKey}
use Rattle.at_seek.specs.declared.finder.Finder.{Finder}
use Rattle.at_seek.specs.declared.scope.Scope.{Scope}

-- the body compares the token of `this` at that position with the argument
pub data Compares (token : ℕ) : Expr → Type 0 where
  forward : Compares token (Equals (TokenOf This token) (Name 0))
  backward : Compares token (Equals (Name 0) (TokenOf This token))

-- the body tests by the key at nodes of the class, whose token is a text where they have it
abbrev pub IsTestOf : Classes → Key → ℕ → Expr → Type 0
IsTestOf classes key c e = IsTest key (has_key key c) e × (has_key key c ≡ true → HasTextKey classes key c)

-- nodes of the class have the key
abbrev pub IsKeyedAt : Classes → Key → ℕ → Type 0
IsKeyedAt classes key c = (has_key key c ≡ true) × HasTextKey classes key c

-- the attribute tests by the key at all nodes that have it
abbrev pub IsKeyOf : Rules → Key → (attribute : ℕ) → Type 0
IsKeyOf rules key k = (a : Attribute) → slice_get rules.attributes k ≡ Some a → TestsByKey rules key a.class k

-- so do the attributes by theirs, where they have one
abbrev pub AreKeys : Rules → List (Option KeyCode) → Type 0
AreKeys rules keys = (k : ℕ) (key : KeyCode) → slice_get keys k ≡ Some (Some key) → IsKeyOf rules (key_view key) k

-- an attribute stands by its class and the number of its name
pub record IsDeclaredAs (e : (ℕ × ℕ) × AttributeCode) (a : Attribute) : Type 0 where
  pub class : a.class ≡ e.0.0
  pub parameters : a.parameters ≡ map kind_view e.1.params.items
  pub result : a.result ≡ kind_view e.1.result

-- so do all of them
abbrev pub AreDeclared : Rules → List ((ℕ × ℕ) × AttributeCode) → Type 0
AreDeclared rules entries = (k : ℕ) (e : (ℕ × ℕ) × AttributeCode) → slice_get entries k ≡ Some e →
    (a : Attribute) × (slice_get rules.attributes k ≡ Some a) × IsDeclaredAs e a

-- what is known is known of these rules
pub record IsOver (rules : Rules) (finder : Finder) : Type 0 where
  pub classes : finder.classes.now ≡ rules.classes
  pub hierarchy : IsHierarchy rules.classes
  pub attributes : AreDeclared rules finder.attributes.now.entries
  pub keys : AreKeys rules finder.keys.now

-- the kinds where an expression stands, in an equation with or without an index name
abbrev pub kinds_in : Scope → Bool → ScopeKinds
kinds_in s h = record { this = s.this; names = map kind_view s.names.items; has_index = h }

-- inside the braces of a fold over the elements of that list
pub record IsInside (rules : Rules) (s : ScopeKinds) (list : Expr) (part : ℕ) (inner : ScopeKinds) : Type 0 where
  pub element : ℕ
  pub elements : AreElements rules s list part element
  pub bound : inner ≡ bound_kinds s element

-- what is asked of an element begins with a test by the key for a text that is looked for
pub record BeginsBy (rules : Rules) (s : ScopeKinds) (key : Key) (text : Expr) (element : ℕ) (test : Expr) : Type 0 where
  pub inside : Expr
  pub sought : IsSoughtText s text inside
  pub begins : BeginsByKey rules key element inside test

-- the elements of that list that pass the test, in braces where the kinds are the inner ones, may be looked for
pub record MaySeekIn (rules : Rules) (s inner : ScopeKinds) (look : Lookup) (list : Expr) (part : ℕ) (test : Expr) : Type 0 where
  pub element : ℕ
  pub elements : AreElements rules s list part element
  pub bound : inner ≡ bound_kinds s element
  pub place : part ≡ look.part
  pub begins : BeginsBy rules s (key_view look.key) (sought_view look.sought) element test

-- the fold may be a search
pub data MaySeek (rules : Rules) (s inner : ScopeKinds) (look : Lookup) : Expr → Type 0 where
  any : {list test : Expr} (part : ℕ) → MaySeekIn rules s inner look list part test → MaySeek rules s inner look (Exists list part test)
  first : {list test : Expr} (part : ℕ) → MaySeekIn rules s inner look list part test → MaySeek rules s inner look (First list part test)

-- the list of a fold, and what stands in its braces, has searches
pub data IsTurnedIn (rules : Rules) (s inner : ScopeKinds) : Expr → Expr → Type 0 where
  exists_turned : {a a' e f : Expr} (part : ℕ) → IsSearched rules s a a' → IsSearched rules inner e f →
      IsTurnedIn rules s inner (Exists a part e) (Exists a' part f)
  first_turned : {a a' e f : Expr} (part : ℕ) → IsSearched rules s a a' → IsSearched rules inner e f →
      IsTurnedIn rules s inner (First a part e) (First a' part f)
  none_turned : (e : Expr) → IsTurnedIn rules s inner e e

-- the search for that in the place of a fold; another expression stays
abbrev pub searching : Lookup → Expr → Expr
searching look (Exists list part test) = SeekAny list look.part (key_view look.key) (sought_view look.sought) test
searching look (First list part test) = SeekFirst list look.part (key_view look.key) (sought_view look.sought) test
searching look e = e

-- each of the entries, and the one at a position, is turned, and the others are as they were
abbrev pub EachTurned : {K : Type 0} → (K × Body → K × Body → Type 0) → List (K × Body) → List (K × Body) → Type 0
EachTurned R old new = EachBy R old new

abbrev pub OneTurned : {K : Type 0} → (K × Body → K × Body → Type 0) → ℕ → List (K × Body) → List (K × Body) → Type 0
OneTurned {K} R p old new = (e : K × Body) → slice_get old p ≡ Some e → (b : Body) × (new ≡ set_value_at old p b) × R e (e.0, b)

-- an equation for the class's own nodes, and the same with searches
abbrev pub IsOwnTurned : Rules → (ℕ × ℕ) × Body → (ℕ × ℕ) × Body → Type 0
IsOwnTurned rules e f = IsOwnSought rules (own_view e) (own_view f)

-- an equation for the nodes below, where this is the text of each name
abbrev pub equation_view : (ℕ → List ℕ) → (ℕ × Option ℕ × ℕ) × Body → InheritedEquation
equation_view texts e = record { class = e.0.0; part = e.0.1; name = texts e.0.2; body = body_view e.1 }

-- that, and the same with searches
abbrev pub IsInheritedTurned : (ℕ → List ℕ) → Rules → (ℕ × Option ℕ × ℕ) × Body → (ℕ × Option ℕ × ℕ) × Body → Type 0
IsInheritedTurned texts rules e f = (f.0 ≡ e.0) × IsInheritedSought rules (equation_view texts e) (equation_view texts f)

-- the names of the attributes, by these texts
abbrev pub AreNamed : (ℕ → List ℕ) → Rules → List ((ℕ × ℕ) × AttributeCode) → Type 0
AreNamed texts rules entries = (k : ℕ) (e : (ℕ × ℕ) × AttributeCode) → slice_get entries k ≡ Some e →
    (a : Attribute) × (slice_get rules.attributes k ≡ Some a) × (a.name ≡ texts e.0.1) × (a.is_inherited ≡ e.1.is_inherited)

-- it is an inherited attribute of that name
abbrev pub IsNamedIn : List ((ℕ × ℕ) × AttributeCode) → ℕ → Bor AttributeCode → Type 0
IsNamedIn entries name d = (k : ℕ) × (e : (ℕ × ℕ) × AttributeCode) × (slice_get entries k ≡ Some e) × (e.1 ≡ d.now) × (e.0.1 ≡ name)
    × (e.1.is_inherited ≡ true)
