-- What those that wait have met stays met.
use Rattle.std.proofs.Common.{◌≡◌, ℕ, List, [], ◌∷◌, ◌++◌, inl, inr, refl, sym, subst}
use Rattle.at_model.specs.Run.{Value, Instance, Contents, Demands}
use Rattle.at_model.specs.Rules.{Rules}
use Rattle.at_model.specs.of_fixpoints.Fixpoints.{HasValue}
use Rattle.at_cache.specs.Kept.{Entries}
use Rattle.at_demand.specs.declared.evaluation.Find.{Find}
use Rattle.at_demand.specs.Covering.{Extends}
use Rattle.at_evaluate.specs.Valued.{KeepsEntries, meaning}
use Rattle.at_demand.specs.Levels.{LevelCode, root_in}
use Rattle.at_demand.specs.Turns.{HasMet, HaveMet, IsMet, next_root}
use Rattle.at_evaluate.proofs.Entered.{entered_on}
use Rattle.at_demand.proofs.Extending.{get_more}
use Rattle.at_demand.proofs.Passing.{past_more}

abbrev Waiting : Type 0
Waiting = Instance ℕ × LevelCode

root_push : (ws : List Waiting) (w : Waiting) (n : Instance ℕ) → next_root (ws ++ w ∷ []) n ≡ next_root ws (root_in w.1 w.0)
root_push [] w n = refl
root_push (x ∷ xs) w n = refl

-- what was met is met where more is kept and more was found
pub met_more : (entries more : Entries) → KeepsEntries entries more → (found longer : List (Instance ℕ × Find)) → Extends found longer →
    (j : Instance ℕ) → IsMet entries found j → IsMet more longer j
met_more entries more grown found longer extends j (inl some) = inl (entered_on entries more grown j some)
met_more entries more grown found longer extends j (inr (p, f, at)) = inr (p, f, get_more found longer p (j, f) extends at)

module _ (rules : Rules) (look : Contents ℕ) where
  module _ (entries more : Entries) (found longer : List (Instance ℕ × Find)) (grows : (j : Instance ℕ) → IsMet entries found j → IsMet more longer j) where
    pub has_more : (i n : Instance ℕ) → HasMet rules look entries found i n → HasMet rules look more longer i n
    has_more i n (js, ls, rest, past) = (
      js,
      ls,
      rest,
      past_more look
          (λ (j : Instance ℕ) (v : Value ℕ). HasValue look (meaning rules) j v × IsMet entries found j)
          (λ (j : Instance ℕ) (v : Value ℕ). HasValue look (meaning rules) j v × IsMet more longer j)
          (λ j v h. (h.0, grows j h.1)) ((meaning rules).formula i) (Demands n rest) js ls past,
    )

    pub have_more : (ws : List Waiting) (n : Instance ℕ) → HaveMet rules look entries found ws n → HaveMet rules look more longer ws n
    have_more [] n h = tt
    have_more (w ∷ ws) n h = (has_more w.0 (next_root ws n) h.0, have_more ws n h.1)

  module _ (entries : Entries) (found : List (Instance ℕ × Find)) where
    -- one more waits
    pub met_push : (ws : List Waiting) (w : Waiting) (n : Instance ℕ) → HaveMet rules look entries found ws (root_in w.1 w.0) →
        HasMet rules look entries found w.0 n → HaveMet rules look entries found (ws ++ w ∷ []) n
    met_push [] w n all one = (one, tt)
    met_push (x ∷ xs) w n all one =
        (subst (λ m. HasMet rules look entries found x.0 m) (sym (root_push xs w n)) all.0, met_push xs w n all.1 one)

    -- what the last one has met
    pub met_last : (ws : List Waiting) (w : Waiting) (n : Instance ℕ) → HaveMet rules look entries found (ws ++ w ∷ []) n →
        HasMet rules look entries found w.0 n
    met_last [] w n all = all.0
    met_last (x ∷ xs) w n all = met_last xs w n all.1

    -- or one less
    pub met_pop : (ws : List Waiting) (w : Waiting) (n : Instance ℕ) → HaveMet rules look entries found (ws ++ w ∷ []) n →
        HaveMet rules look entries found ws (root_in w.1 w.0)
    met_pop [] w n all = tt
    met_pop (x ∷ xs) w n all = (subst (λ m. HasMet rules look entries found x.0 m) (root_push xs w n) all.0, met_pop xs w n all.1)
