-- States over which rules that are searched for others tell what those tell.
use Rattle.at_model.specs.Classes.{Classes}
use Rattle.at_model.specs.Enduring.{AreTokens}
use Rattle.at_model.specs.Machine.{State, IsSound}

-- the state is sound, and the tokens of its tree can be written: both are so after each line that is served
pub record Stands (classes : Classes) (s : State) : Type 0 where
  pub sound : IsSound classes s
  pub tokens : AreTokens s.tree
