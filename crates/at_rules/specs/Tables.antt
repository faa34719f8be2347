-- What stands beside names, classes and equations, for look-ups that don't climb and don't go over all names.
use Rattle.std.specs.Prelude.{ℕ, List}
use Rattle.std.specs.Map.{keys_of}
use Rattle.at_model.specs.Classes.{Classes}
use Rattle.at_rules.specs.declared.counted.Counted.{Counted}
use Rattle.at_rules.specs.declared.dispatch.Dispatch.{Dispatch}
use Rattle.at_rules.specs.declared.dispatch.Precedence.TheVariants.{Nearest, Earliest}
use Rattle.at_rules.specs.declared.holders.Holders.{Holders}
use Rattle.at_rules.specs.declared.rules.Equations.{Equations}
use Rattle.at_rules.specs.Counted.{IsCounted}
use Rattle.at_rules.specs.Dispatch.{found_up, AreRight}
use Rattle.at_rules.specs.Holding.{AreHolders}

-- by class and attribute the nearest equation, by class and name the earliest attribute, and by class and name the nearest class
-- with an inherited equation for the name; and the names with a count
pub record AreTables (texts : ℕ → List ℕ) (classes : Classes) (equations : Equations)
    (bodies declared : Dispatch) (holders : Holders) (counted : Counted) : Type 0 where
  pub of_bodies : AreRight (found_up Nearest (keys_of equations.own.entries) classes) bodies.rows.items
  pub of_attributes : AreRight (found_up Earliest (keys_of equations.attributes.entries) classes) declared.rows.items
  pub of_holders : AreHolders classes equations.inherited.entries holders.held.entries holders.table.rows.items
  pub of_counts : IsCounted texts counted.numbers.items counted.are_all
