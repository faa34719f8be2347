-- Levels of classes in which constants are fixed: where one is as the one below it, so are all above.
use Rattle.std.proofs.Common.{◌≡◌, ◌∙◌, ℕ, zero, suc, ◌+◌, ◌-◌, ◌≤◌, List, add-one, refl, sym, ap, arith}
use Rattle.at_model.specs.Declarations.{Declarations, classes_of}
use Rattle.at_class.specs.Fixing.{Fixed, fixed_as}
use Rattle.at_start.specs.Constants.{Placed, fixes_over, level}

module _ (ds : Declarations) (ks : List Placed) where
  pub level_first : level ds ks 0 ≡ classes_of ds
  unfolding level
  level_first = refl

  pub level_next : (n : ℕ) → level ds ks (suc n) ≡ fixed_as (fixes_over (level ds ks n) ds ks) (classes_of ds)
  unfolding level
  level_next n = refl

  pub level_step : (n : ℕ) → fixed_as (fixes_over (level ds ks n) ds ks) (classes_of ds) ≡ level ds ks (n + 1)
  level_step n = sym (level_next n) ∙ ap (level ds ks) (sym (add-one n))

  steady : (n m k : ℕ) → level ds ks (suc n) ≡ level ds ks n → k ≡ n + m → level ds ks k ≡ level ds ks n
  steady n zero k same is = ap (level ds ks) (omega (arith, is))
  steady n (suc m) k same is =
      let e : k ≡ suc (n + m) = omega (arith, is) in
      ap (level ds ks) e ∙ level_next (n + m) ∙ ap (λ b. fixed_as (fixes_over b ds ks) (classes_of ds)) (steady n m (n + m) same refl)
      ∙ sym (level_next n) ∙ same

  -- what is fixed over a level is what is fixed in it
  pub steady_from : (n k : ℕ) (fixed : List Fixed) → n ≤ k → level ds ks n ≡ fixed_as fixed (classes_of ds)
      → fixed ≡ fixes_over (level ds ks n) ds ks → level ds ks k ≡ level ds ks n
  steady_from n k fixed less is same =
      steady n (k - n) k (level_next n ∙ ap (λ fs. fixed_as fs (classes_of ds)) (sym same) ∙ sym is) (omega (arith, less))
