-- What a map finds by a key is what the definitions find in the list of its entries.
use Rattle.std.proofs.Common.{◌≡◌, ℕ, List, [], ◌∷◌, map, refl, sym, ◌∙◌, Option, Some, None, true≢false}
use Rattle.std.specs.Prelude.{Bool, true, false, ◌&&◌, cond, nat_eq, find, option_map}
use Rattle.std.specs.Map.{lookup}
use Rattle.std.specs.Option.{option_copied}
use Rattle.std.specs.Borrow.{Bor}
use Rattle.std.proofs.lemmas.Bool.{eq-eqb, eqb-true}
use Rattle.at_model.specs.Rules.{OwnEquation}
use Rattle.at_rules.specs.declared.body.Body.{Body}
use Rattle.at_rules.specs.Bodies.{body_view}
use Rattle.at_rules.specs.RulesView.{own_view}

pub same_either : (a b : ℕ) → nat_eq a b ≡ nat_eq b a
same_either a b = by (nat_eq a b) refl (nat_eq b a) refl
  where
    by : (p : Bool) → nat_eq a b ≡ p → (q : Bool) → nat_eq b a ≡ q → p ≡ q
    by true e true f = refl
    by false e false f = refl
    by true e false f = absurd (true≢false (sym (eq-eqb b a (sym (eqb-true a b e))) ∙ f))
    by false e true f = absurd (true≢false (sym (eq-eqb a b (sym (eqb-true b a f))) ∙ e))

-- the equation of a class for an attribute
pub own_found : (c a : ℕ) (es : List ((ℕ × ℕ) × Body)) → option_map body_view (lookup (λ k. nat_eq c k.0 && nat_eq a k.1) es) ≡ option_map (λ (e : OwnEquation). e.body) (find (λ e. nat_eq e.class c && nat_eq e.attribute a) (map own_view es))
own_found c a [] = refl
own_found c a (e ∷ es) = rw (same_either e.0.0 c, same_either e.0.1 a) (by (nat_eq c e.0.0 && nat_eq a e.0.1) (own_found c a es))
  where
    by : (b : Bool)
        → option_map body_view (lookup (λ k. nat_eq c k.0 && nat_eq a k.1) es) ≡ option_map (λ (e : OwnEquation). e.body) (find (λ e. nat_eq e.class c && nat_eq e.attribute a) (map own_view es))
        → option_map body_view (cond b (Some e.1) (lookup (λ k. nat_eq c k.0 && nat_eq a k.1) es)) ≡ option_map (λ (e : OwnEquation). e.body) (cond b (Some (own_view e)) (find (λ e. nat_eq e.class c && nat_eq e.attribute a) (map own_view es)))
    by true rest = refl
    by false rest = rest

-- and so with numbers that are the same
pub own_keyed : (i j c a : ℕ) → i ≡ c → j ≡ a → (es : List ((ℕ × ℕ) × Body)) → option_map body_view (lookup (λ k. nat_eq i k.0 && nat_eq j k.1) es) ≡ option_map (λ (e : OwnEquation). e.body) (find (λ e. nat_eq e.class c && nat_eq e.attribute a) (map own_view es))
own_keyed i j c a p q es = rw (p, q) (own_found c a es)

pub seen : (o : Option (Bor Body)) → option_map (λ (b : Bor Body). body_view b.now) o ≡ option_map body_view (option_copied o)
seen None = refl
seen (Some b) = refl
