-- The work of a question counts what is worth keeping.
use Rattle.std.proofs.Common.{◌≡◌, ℕ, None}
use Rattle.at_model.specs.Run.{Instance}
use Rattle.at_model.specs.Meaning.{Answer, Circle, Outcomes}
use Rattle.at_model.specs.of_fixpoints.Circles.{Answers}
use Rattle.at_cache.specs.Kept.{Entries}
use Rattle.at_model.specs.Rules.{Rules}
use Rattle.at_model.specs.Run.{Contents}
use Rattle.at_demand.specs.Answered.{AddsMet, HasWorthyFor}
use Rattle.at_evaluate.specs.Valued.{kept_values, meaning, IsKept}
use Rattle.at_evaluate.specs.Sparing.{AddsWorthy, Counts}
use Rattle.at_demand.specs.Worth.{IsWork, IsWorthKeeping}

-- what came is worth keeping
pub came_worth : (rules : Rules) (look : Contents ℕ) (q : Instance ℕ) (old new : Entries) → AddsWorthy rules look q old new → AddsMet rules look q old new →
    (i : Instance ℕ) → kept_values old i ≡ None → IsKept new i → IsWorthKeeping rules look q i
came_worth rules look q old new adds met i none kept =
    record { worthy = adds.worthy i none kept; before = λ c circle. met c i circle none kept }

-- and what is worth keeping is kept, for each answer
pub worth_kept : (rules : Rules) (look : Contents ℕ) (q : Instance ℕ) (a : Answer ℕ) (entries : Entries) → Answers look (meaning rules) q a →
    HasWorthyFor rules look q a entries → (i : Instance ℕ) → IsWorthKeeping rules look q i → IsKept entries i
worth_kept rules look q (Outcomes o) entries holds all i w = all i w.worthy
worth_kept rules look q (Circle c) entries circle all i w = all.1 i w.worthy (w.before c circle)

-- what comes is just what is worth keeping and wasn't kept
pub work_is : (rules : Rules) (look : Contents ℕ) (q : Instance ℕ) (a : Answer ℕ) (old new : Entries) (w x : ℕ) → Counts old new w x →
    AddsWorthy rules look q old new → AddsMet rules look q old new → Answers look (meaning rules) q a → HasWorthyFor rules look q a new →
    IsWork rules look q old w x
work_is rules look q a old new w x (gained, g, e) adds met answers has = (
  gained,
  record {
    distinct = g.distinct;
    exactly = λ i. (
      λ m. (let p = g.exactly i in let y = p.0 m in (came_worth rules look q old new adds met i y.1 y.0, y.1)),
      λ h. (let p = g.exactly i in p.1 (worth_kept rules look q a new answers has i h.0, h.1)),
    );
  },
  e,
)
