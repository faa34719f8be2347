-- All that supports an instance is covered, where each step leads to what is kept or stays within what was gathered.
use Rattle.std.proofs.Common.{◌⊎◌, inl, inr}
use Rattle.at_model.specs.Run.{Instance, Location, Contents}
use Rattle.at_model.specs.Support.{Sees}
use Rattle.at_model.specs.of_fixpoints.Fixpoints.{HasValue}
use Rattle.at_model.specs.of_fixpoints.Formulas.{Forms}
use Rattle.at_model.specs.of_fixpoints.Resting.{Comes, Leads, Supports, goes, stays}

module _ {N : Type 0} (look : Contents N) (forms : Forms N) (Within Keeps : Instance N → Type 0) (Covers : Location N → Type 0)
    (next : (i j : Instance N) → Within i → Comes look forms i j → Keeps j ⊎ Within j)
    (seen : (i : Instance N) (l : Location N) → Within i → Sees look (HasValue look forms) (forms.formula i) l → Covers l)
    (below : (i : Instance N) (l : Location N) → Keeps i → Supports look forms l i → Covers l) where
  led : (i j : Instance N) (l : Location N) → Within i → Leads look forms i j →
      Sees look (HasValue look forms) (forms.formula j) l → Covers l
  led _ _ l w (stays i) s = seen i l w s
  led _ j l w (goes i m _ c more) s = elim (next i m w c) [ inl k ↦ below m l k (j, more, s) | inr v ↦ led m j l v more s ]

  pub supported : (i : Instance N) (l : Location N) → Within i → Supports look forms l i → Covers l
  supported i l w (j, more, s) = led i j l w more s
