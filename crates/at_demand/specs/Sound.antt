-- What is kept holds, and is whole.
use Rattle.at_model.specs.Rules.{Rules}
use Rattle.at_store.specs.Shown.{Shown, contents}
use Rattle.at_cache.specs.Kept.{Entries}
use Rattle.at_search.specs.Recorded.{AreWhole}
use Rattle.at_evaluate.specs.Valued.{kept_values, meaning}
use Rattle.at_evaluate.specs.Meant.{AreRightValues}

-- formulas lead from what is kept to finitely many, each of which has a formula
abbrev pub AreKeptWhole : Rules → Shown → Entries → Type 0
AreKeptWhole rules s entries = AreWhole (contents s) (meaning rules) (kept_values entries)

-- what is kept holds, and is whole
pub record AreSound (rules : Rules) (s : Shown) (entries : Entries) : Type 0 where
  pub right : AreRightValues (contents s) (meaning rules) (kept_values entries)
  pub whole : AreKeptWhole rules s entries
