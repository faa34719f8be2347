-- Attributes that have ints or booleans as parameters.
use Rattle.std.proofs.Common.{◌≡◌, ℕ, zero, suc, Bool, true, false, ◌||◌, List, [], ◌∷◌, map, Some, refl, ap, ◌∙◌}
use Rattle.std.specs.Prelude.{String}
use Rattle.std.specs.List.{slice_get, list_any}
use Rattle.at_model.specs.Rules.{Attribute}
use Rattle.at_model.specs.Rules as kinds
use Rattle.at_model.specs.Instances.{holds_of_one, is_int, is_truth}
use Rattle.at_rules.specs.Bodies.{is_numeric, kind_view}
use Rattle.at_rules.specs.RulesView.{attribute_view}
use Rattle.at_rules.specs.declared.body.Kind.{Kind}
use Rattle.at_rules.specs.declared.body.Kind.TheVariants as kind
use Rattle.at_rules.specs.declared.rules.Attribute.{Attribute as AttributeValue}

crossed : (a b c d : Bool) → ((a || b) || (c || d)) ≡ ((a || c) || (b || d))
crossed true b c d = refl
crossed false true true d = refl
crossed false true false d = refl
crossed false false c d = refl

one_numeric : (k : Kind) → is_numeric k ≡ (is_int (kind_view k) || is_truth (kind_view k))
one_numeric kind.Int = refl
one_numeric kind.Bool = refl
one_numeric kind.Text = refl
one_numeric (kind.Class c) = refl

numeric : (ks : List Kind) → list_any is_numeric ks ≡ (holds_of_one is_int (map kind_view ks) || holds_of_one is_truth (map kind_view ks))
numeric [] = refl
numeric (k ∷ ks) =
    ap (λ b. b || list_any is_numeric ks) (one_numeric k)
    ∙ ap (λ b. (is_int (kind_view k) || is_truth (kind_view k)) || b) (numeric ks)
    ∙ crossed (is_int (kind_view k)) (is_truth (kind_view k)) (holds_of_one is_int (map kind_view ks)) (holds_of_one is_truth (map kind_view ks))

module _ (Z : Type 0) (names : List (String Z)) where
  abbrev Entries : Type 0
  Entries = List ((ℕ × ℕ) × AttributeValue)

  -- one of the attributes takes ints or booleans
  abbrev take : Entries → Bool
  take es = holds_of_one (λ (a : Attribute). holds_of_one is_int a.parameters) (map (attribute_view names) es)
      || holds_of_one (λ (a : Attribute). holds_of_one is_truth a.parameters) (map (attribute_view names) es)

  pub any_take : (es : Entries) → list_any (λ e. list_any is_numeric e.1.params.items) es ≡ take es
  any_take [] = refl
  any_take (e ∷ es) =
      let ks = map kind_view e.1.params.items in
      ap (λ b. b || list_any (λ (e : (ℕ × ℕ) × AttributeValue). list_any is_numeric e.1.params.items) es) (numeric e.1.params.items)
      ∙ ap (λ b. (holds_of_one is_int ks || holds_of_one is_truth ks) || b) (any_take es)
      ∙ crossed (holds_of_one is_int ks) (holds_of_one is_truth ks) _ _

module _ {A : Type 0} (test : A → Bool) where
  pub any_at : (as' : List A) (i : ℕ) (a : A) → slice_get as' i ≡ Some a → test a ≡ true → list_any test as' ≡ true
  any_at [] i a at is = absurd cc
  any_at (b ∷ bs) zero a at is = let same : b ≡ a = cc in ap (λ x. test x || list_any test bs) same ∙ ap (λ c. c || list_any test bs) is
  any_at (b ∷ bs) (suc i) a at is = ap (λ c. test b || c) (any_at bs i a at is) ∙ or_true (test b)
    where
      or_true : (c : Bool) → (c || true) ≡ true
      or_true true = refl
      or_true false = refl

  pub no_any : (as' : List A) → ((i : ℕ) (a : A) → slice_get as' i ≡ Some a → test a ≡ false) → list_any test as' ≡ false
  no_any [] none = refl
  no_any (b ∷ bs) none = ap (λ c. c || list_any test bs) (none 0 b refl) ∙ no_any bs (λ i. none (suc i))
