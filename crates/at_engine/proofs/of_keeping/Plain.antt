-- What is said where no attribute is circular.
use Rattle.std.proofs.Common.{ℕ, Bool, true, false}
use Rattle.at_model.specs.Meaning.{Answer, Outcomes, Circle}
use Rattle.at_model.specs.Rules.{Rules}
use Rattle.at_model.specs.Run.{Contents, Instance}
use Rattle.at_rules.specs.Circular.{HasNoneCircular}
use Rattle.at_cache.specs.Kept.{Entries}
use Rattle.at_demand.specs.Answered.{HasWorthyFor}
use Rattle.at_evaluate.specs.Sparing.{HasWorthy}
use Rattle.at_engine.specs.Keeping.{KeepsWhole}

-- all that is worthy of the question is kept, whatever the answer is
pub worthy_plainly : (rules : Rules) → HasNoneCircular rules → (look : Contents ℕ) (i : Instance ℕ) (a : Answer ℕ) (entries : Entries)
    → HasWorthyFor rules look i a entries → HasWorthy rules look i entries
worthy_plainly rules none look i (Outcomes o) entries h = h
worthy_plainly rules none look i (Circle j) entries h = h.0 none

-- and what belongs together is kept together
pub whole_plainly : (rules : Rules) → HasNoneCircular rules → (wants : Bool) → KeepsWhole rules wants
whole_plainly rules none false = tt
whole_plainly rules none true = none
