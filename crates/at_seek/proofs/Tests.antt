-- What tests by a key, and what is looked for.
use Rattle.std.proofs.Common.{◌≡◌, ◌<◌, ◌-◌, ◌+◌, ℕ, zero, suc, Bool, true, false, List, [], ◌∷◌, ◌++◌, length, Option, None, Some, IfSome, refl, sym, ap, subst, ◌∙◌, arith, slice_get}
use Rattle.at_model.specs.Classes.{Classes, Class, fits, is_concrete, is_sub}
use Rattle.at_model.specs.Drawers.{Key, has_key}
use Rattle.at_model.specs.Bodies.{Expr, TruthLiteral, TextLiteral, This, Name, Equals, TokenOf}
use Rattle.at_model.specs.Kinds.{ScopeKinds}
use Rattle.at_model.specs.Machine.{parameters_of}
use Rattle.at_model.specs.Rules.{Rules, Kind, Text, Attribute, is_inherited, start_of}
use Rattle.at_model.specs.Seeking.{never, token, turned}
use Rattle.at_model.proofs.Options.{both}
use Rattle.at_class.specs.Keys.{key_view}
use Rattle.at_class.specs.declared.key.Key.{Key as KeyCode}
use Rattle.at_rules.specs.Bodies.{sought_view}
use Rattle.at_rules.specs.declared.body.Sought.{Sought}
use Rattle.at_seek.specs.Finding.{AreKeys, Compares, IsKeyOf, IsTestOf, backward, forward}
use Rattle.at_seek.specs.Sought.{HasTest, HasTextKey, IsSoughtText, TestsByKey, literal, name}

-- the token that is compared with what is a parameter, and the other way round
pub told_backward : (o : Option ℕ) (a b : Expr) → a ≡ Name 0 → IfSome o (λ t. b ≡ TokenOf This t) → IfSome o (λ t. Compares t (Equals a b))
told_backward None a b e f = tt
told_backward (Some t) a b e f = subst (λ x. Compares t (Equals x b)) (sym e) (subst (λ y. Compares t (Equals (Name 0) y)) (sym f) backward)

pub told_forward : (o : Option ℕ) (a b : Expr) → b ≡ Name 0 → IfSome o (λ t. a ≡ TokenOf This t) → IfSome o (λ t. Compares t (Equals a b))
told_forward None a b e f = tt
told_forward (Some t) a b e f = subst (λ y. Compares t (Equals a y)) (sym e) (subst (λ x. Compares t (Equals x (Name 0))) (sym f) forward)

-- where the class has no key
pub never_tests : (classes : Classes) (key : Key) (c : ℕ) (e : Expr) → has_key key c ≡ false → e ≡ TruthLiteral false → IsTestOf classes key c e
never_tests classes key c e off is =
    subst (λ x. IsTestOf classes key c x) (sym is) (never, λ h. absurd (no (sym h ∙ off)))
  where
    no : true ≡ false → ⊥
    no e = cc

-- and where it has one
pub compares_tests : (classes : Classes) (key : Key) (c : ℕ) (e : Expr) → has_key key c ≡ true → HasTextKey classes key c → Compares key.token e → IsTestOf classes key c e
compares_tests classes key c _ on text forward = (token on, λ h. text)
compares_tests classes key c _ on text backward = (turned on, λ h. text)

-- one more key behind others
by_place : (keys : List (Option KeyCode)) (o : Option KeyCode) (P : ℕ → KeyCode → Type 0) →
    ((k : ℕ) (key : KeyCode) → slice_get keys k ≡ Some (Some key) → P k key) → IfSome o (P (length keys)) →
    (k : ℕ) (key : KeyCode) → slice_get (keys ++ o ∷ []) k ≡ Some (Some key) → P k key
by_place [] None P h f zero key e = absurd cc
by_place [] (Some x) P h f zero key e = subst (P 0) (same x key e) f
  where
    same : (x y : KeyCode) → slice_get (Some x ∷ []) 0 ≡ Some (Some y) → x ≡ y
    same x y e = cc
by_place [] o P h f (suc k) key e = absurd cc
by_place (x ∷ keys) o P h f zero key e = h 0 key e
by_place (x ∷ keys) o P h f (suc k) key e = by_place keys o (λ k. P (suc k)) (λ k key e. h (suc k) key e) f k key e

pub keys_more : (rules : Rules) (keys : List (Option KeyCode)) (o : Option KeyCode) (n : ℕ) → length keys ≡ n → AreKeys rules keys →
    IfSome o (λ key. IsKeyOf rules (key_view key) n) → AreKeys rules (keys ++ o ∷ [])
keys_more rules keys o n is h f =
    by_place keys o (λ k key. IsKeyOf rules (key_view key) k) h (subst (λ m. IfSome o (λ key. IsKeyOf rules (key_view key) m)) (sym is) f)

-- a class that fits is there
pub fits_within : (classes : Classes) (c b : ℕ) → fits classes c b ≡ true → c < length classes
fits_within classes c b e = there classes c ((both (is_concrete classes c) (is_sub classes c b) e).0)
  where
    there : (ks : List Class) (c : ℕ) → is_concrete ks c ≡ true → c < length ks
    there [] c e = absurd cc
    there (k ∷ ks) zero e = omega arith
    there (k ∷ ks) (suc c) e = let less = there ks c e in omega (arith, less)

-- an attribute that tests by the key
pub tests_by : (rules : Rules) (key : Key) (above k : ℕ) (a : Attribute) → is_inherited rules k ≡ false → start_of rules k ≡ None →
    parameters_of rules k ≡ Text ∷ [] → ((c : ℕ) → fits rules.classes c above ≡ true → HasTest rules key k c) →
    slice_get rules.attributes k ≡ Some a → a.class ≡ above → TestsByKey rules key a.class k
tests_by rules key above k a own strict few tests is same = record {
  own = own;
  strict = strict;
  text = (a, is, sym (ap (λ (o : Option Attribute). elim o [ None ↦ [] | Some a ↦ a.parameters ]) is) ∙ few);
  equations = λ c e. tests c (subst (λ b. fits rules.classes c b ≡ true) same e);
}

-- a text from outside of the braces
pub outer_text : (s : ScopeKinds) (n i : ℕ) (k : Kind) → n ≡ suc i → slice_get s.names i ≡ Some k → k ≡ Text → IsSoughtText s (Name i) (Name n)
outer_text s n i k is at text = subst (λ m. IsSoughtText s (Name i) (Name m)) (sym is) (name i (at ∙ ap Some text))

pub literal_text : (s : ScopeKinds) (o : Option Sought) (e : Expr) (bytes : List ℕ) → e ≡ TextLiteral bytes →
    IfSome o (λ t. sought_view t ≡ TextLiteral bytes) → IfSome o (λ t. IsSoughtText s (sought_view t) e)
literal_text s None e bytes is h = tt
literal_text s (Some t) e bytes is h =
    subst (λ x. IsSoughtText s x e) (sym h) (subst (λ y. IsSoughtText s (TextLiteral bytes) y) (sym is) (literal bytes))

-- one more element
pub length_more : {A : Type 0} (xs : List A) (x : A) → length (xs ++ x ∷ []) ≡ length xs + 1
length_more [] x = refl
length_more (y ∷ xs) x = let more = length_more xs x in omega (arith, more)
