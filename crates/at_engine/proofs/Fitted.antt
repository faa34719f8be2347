-- Values that are looked at one after the other, each with its parameter's kind.
use Rattle.std.proofs.lemmas.Bool.{eqb-true}
use Rattle.std.proofs.Common.{◌≡◌, ℕ, Bool, true, false, ◌&&◌, ◌==◌, eq-eqb, List, [], ◌∷◌, map, length, refl, sym, ap, ◌∙◌}
use Rattle.at_model.specs.Classes.{Classes}
use Rattle.at_model.specs.Run.{Contents}
use Rattle.at_rules.specs.Bodies.{kind_view}
use Rattle.at_rules.specs.declared.body.Kind.{Kind}
use Rattle.at_body.specs.Values.{value_view}
use Rattle.at_body.specs.declared.value.Value.{Value}
use Rattle.at_engine.specs.Fitting.{fits_number, fit_numbers}

not_true : (b : Bool) → (b ≡ true → ⊥) → b ≡ false
not_true true h = absurd (h refl)
not_true false h = refl

module _ (classes : Classes) (look : Contents ℕ) where
  abbrev fit : List Kind → List Value → Bool
  fit ks vs = fit_numbers classes look (map kind_view ks) (map value_view vs)

  pub too_few : (ks : List Kind) (k : Kind) (others : List Kind) (vs : List Value) → ks ≡ k ∷ others → length vs ≡ 0 → false ≡ fit ks vs
  too_few ks k others [] e none = sym (ap (λ (xs : List Kind). fit xs []) e)
  too_few ks k others (v ∷ vs) e none = absurd cc

  pub all_seen : (ks : List Kind) (vs : List Value) → length ks ≡ 0 → (length vs == 0) ≡ fit ks vs
  all_seen [] [] none = eq-eqb 0 0 refl
  all_seen [] (v ∷ vs) none = not_true (length (v ∷ vs) == 0) (λ h. let e : length (v ∷ vs) ≡ 0 = eqb-true (length (v ∷ vs)) 0 h in absurd cc)
  all_seen (k ∷ ks) vs none = absurd cc

  pub first_fits : (ks : List Kind) (k : Kind) (others : List Kind) (vs : List Value) (v : Value) (rest : List Value) (b : Bool) → ks ≡ k ∷ others → vs ≡ v ∷ rest → b ≡ fits_number classes look (kind_view k) (value_view v) → fit ks vs ≡ (b && fit others rest)
  first_fits ks k others vs v rest b e f is = ap (λ (xs : List Kind). fit xs vs) e ∙ ap (λ (xs : List Value). fit (k ∷ others) xs) f ∙ ap (λ c. c && fit others rest) (sym is)
