-- What demands a value of what has no outcome has none; so none has one that demands its own, over however many others.
use Rattle.std.proofs.Common.{◌≡◌, ℕ, zero, suc, ◌≤◌, refl, sym, subst, arith}
use Rattle.at_model.specs.Run.{Instance, Contents}
use Rattle.at_model.specs.of_fixpoints.Formulas.{Forms}
use Rattle.at_model.specs.of_fixpoints.Fixpoints.{Made, LeadsOver, stays, goes, EndsAt, EndsSo, AreEnded}
use Rattle.at_model.specs.of_fixpoints.Circles.{HasNone}
use Rattle.at_model.specs.of_fixpoints.Searching.{Wants, IsStuck}
use Rattle.at_model.proofs.of_formulas.UniqueOutcomes.{ends_at, one_further}
use Rattle.at_model.proofs.of_formulas.ClosedOnce.{Settles, ended, ends_lower}

-- one wants the other, in one step or more
pub data WantsOn {N : Type 0} (look : Contents N) (forms : Forms N) : Instance N → Instance N → Type 0 where
  wants : (i k : Instance N) → Wants look forms i k → WantsOn look forms i k
  and_on : (i j k : Instance N) → Wants look forms i j → WantsOn look forms j k → WantsOn look forms i k

module _ {N : Type 0} (look : Contents N) (forms : Forms N) where
  -- what formulas lead to, they lead to where all ends at a depth
  led_at : (n : ℕ) (i j : Instance N) → AreEnded (EndsAt look forms n) i → (h : Instance N) →
      LeadsOver (EndsAt look forms n) i h → LeadsOver (EndsSo look forms) h j → LeadsOver (EndsAt look forms n) i j
  led_at n i j all _ l (stays _) = l
  led_at n i j all h l (goes _ m _ f (d, x) a rest) =
      let (e, y) = all h l in
      let q : Made f ≡ e = ends_at look forms d n h (Made f) e x y in
      led_at n i j all m
      (one_further (EndsAt look forms n) i h m f (subst (λ z. EndsAt look forms n h z) (sym q) y) a l) rest

  -- what it wants has an outcome at less depth
  pub wanted_lower : (n : ℕ) (i k : Instance N) → Wants look forms i k → Settles look forms n i →
      (m : ℕ) × (suc m ≡ n) × Settles look forms m k
  wanted_lower zero i k w (o, h) = absurd h
  wanted_lower (suc n) i k w s =
      let all = ended look forms n i s in
      let (e, x) = all w.by (led_at n i w.by all i (stays i) w.led) in
      (n, refl, ends_lower look forms n w.by (forms.formula w.by) e k x w.demands)

  -- where what it wants has no outcome it has none
  pub wants_none : (i k : Instance N) → Wants look forms i k → HasNone look forms k → HasNone look forms i
  wants_none i k w none o (n, h) = let (m, e, (p, g)) = wanted_lower n i k w (o, h) in none p (m, g)

  lower_on : (n : ℕ) (i k : Instance N) → WantsOn look forms i k → Settles look forms n i →
      (m : ℕ) × (suc m ≤ n) × Settles look forms m k
  lower_on n _ _ (wants i k w) s = let (m, e, t) = wanted_lower n i k w s in (m, omega (arith, e), t)
  lower_on n _ _ (and_on i j k w x) s =
      let (m, e, t) = wanted_lower n i j w s in let (d, le, u) = lower_on m j k x t in (d, omega (arith, e, le), u)

  none_at : (bound n : ℕ) (i : Instance N) → n ≤ bound → WantsOn look forms i i → Settles look forms n i → ⊥
  none_at zero n i le w s = let (m, less, t) = lower_on n i i w s in let z : ⊥ = omega (arith, less, le) in z
  none_at (suc b) n i le w s =
      let (m, less, t) = lower_on n i i w s in none_at b m i (omega (arith, less, le)) w t

  -- what wants itself has no outcome
  pub none_on_circle : (i : Instance N) → WantsOn look forms i i → HasNone look forms i
  none_on_circle i w o (n, h) = none_at n n i (omega arith) w (o, h)

  pub led_over : (i j k : Instance N) → LeadsOver (EndsSo look forms) i j → LeadsOver (EndsSo look forms) j k →
      LeadsOver (EndsSo look forms) i k
  led_over _ j k (stays _) l = l
  led_over _ j k (goes i m _ f h a r) l = goes i m k f h a (led_over m j k r l)

  -- what leads to one that is stuck is stuck, too
  pub stuck_none : (i j : Instance N) → LeadsOver (EndsSo look forms) i j → IsStuck look forms j → HasNone look forms i
  stuck_none i j l (k, w, none) =
      wants_none i k (record { by = w.by; led = led_over i j w.by l w.led; demands = w.demands }) none
